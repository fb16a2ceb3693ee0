use Rattle.rh_wimp.proofs.Common.{◌-◌, sym, ap, ◌∙◌, arith, ◌==◌, position}
use Rattle.rh_defs.proofs.BytesLaws.{part-drop}
use Rattle.rh_wimp.proofs.decoding.name_length.Goals as goal

pub returns : goal.returns
returns c = c.first_zero.ensures ∙ ap (position (λ x. x == 0)) (sym (part-drop c.args.bytes.now 44 (c.args.end - 44) (omega arith)))
