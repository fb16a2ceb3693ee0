use Rattle.rh_wimp.proofs.Common.{sym, ap, ◌∙◌}
use Rattle.std.specs.Result.{result_ok}
use Rattle.rh_defs.specs.MessageImage.{body_for}
use Rattle.rh_wimp.proofs.any_body.kind_at.Goals as goal

pub returns-in_default : goal.returns-in_default
returns-in_default c = ap (λ o. result_ok (body_for c.args.bytes.now c.args.end o)) (sym c.in_default.is ∙ c.from_number.ensures)

pub returns : goal.returns
returns c = c.ok.ensures.value ∙ ap result_ok c.decode_body.ensures
    ∙ ap (λ o. result_ok (body_for c.args.bytes.now c.args.end o)) (sym c.in-Some.is ∙ c.from_number.ensures)
