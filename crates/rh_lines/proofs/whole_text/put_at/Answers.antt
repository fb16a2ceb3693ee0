use Rattle.std.proofs.Common.{arith}
use Rattle.rh_lines.proofs.TextLemmas.{rest-behind}
use Rattle.rh_lines.proofs.whole_text.put_at.Goals as goal

pub returns-clause-rest : goal.returns-clause-rest
returns-clause-rest c =
    rest-behind c.args.to.now c.args.bytes.now _ c.args.at _ c.copy_from_slice.ensures.after (omega arith) c.requires
