use Rattle.vf_desk.proofs.Common.{Some, refl, ap, ◌∙◌, TakesLine, closed_status}
use Rattle.vf_desk.proofs.LineLaws.{takes-closed}
use Rattle.vf_desk.proofs.SeenLaws.{held-by, none-by}
use Rattle.vf_desk.proofs.lines.vf_desk_line.Goals as goal

pub returns-in_default : goal.returns-in_default
returns-in_default c = none-by c.in_default.ensures.taken c.in_default.ensures.left (λ a b. TakesLine c.args.line.now a b closed_status) (takes-closed refl)

pub returns : goal.returns
returns c = held-by (ap Some c.deref_mut.ensures.value ∙ c.in-Some.ensures.taken) c.put.ensures (λ a b. TakesLine c.args.line.now a b c.take_line-status.result)
    c.take_line-status.ensures
