use Rattle.std.proofs.Common.{arith, ◌/◌}
use Rattle.std.proofs.lemmas.Fmt.{decimal_digit, decimal_step}
use Rattle.rh_lines.proofs.row.Row.short_decimal.Goals as goal

pub returns-else-number-lt10-clause-value : goal.returns-else-number-lt10-clause-value
returns-else-number-lt10-clause-value c =
    let n = c.args.number in
    rw (decimal_step n (omega arith) (omega arith), decimal_digit (n / 10) (omega arith)) c.two_digits.ensures
