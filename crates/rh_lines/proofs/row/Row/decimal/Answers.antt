use Rattle.std.proofs.Common.{arith, rules}
use Rattle.rh_lines.proofs.NumberLemmas.{decimal-two_more}
use Rattle.rh_lines.proofs.row.Row.decimal.Goals as goal

pub returns-then-number-lt10000-clause-value : goal.returns-then-number-lt10000-clause-value
returns-then-number-lt10000-clause-value c =
    rw (← decimal-two_more c.args.self.now c.args.number (omega arith) (omega arith)) (search rules)
