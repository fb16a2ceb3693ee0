use Rattle.rh_pictures.proofs.Common.{sym, ◌∙◌, refl, append_assoc, scene_at, offered_as}
use Rattle.rh_pictures.proofs.AsideLemmas.{aside-parts}
use Rattle.rh_pictures.proofs.sheet.aside.print_aside.Goals as goal

pub returns : goal.returns
returns g c =
    let d = g.S.Sight.desk c.args.sight.now in
    let parts = aside-parts d (scene_at d c.args.step.now) refl c.args.notes.now c.args.number (sym c.has_aside.ensures ∙ c.if-not-has_aside.false) in
    offered_as _ parts
    (simp (c.put.ensures, c.print_chart.ensures, c.print_messages.ensures, c.print_transfers.ensures, c.put-2.ensures, append_assoc))
