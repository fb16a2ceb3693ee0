use Rattle.rh_pictures.proofs.Common.{◌≡◌, Some, ap, append_assoc, flat_map-append, scene_at, sym, task_at, ◌∙◌}
use Rattle.rh_pictures.proofs.walks.block_changes.show_block_changes.Goals as goal

pub returns : goal.returns
returns g c =
    let d = g.S.Sight.desk c.args.sight.now in
    let r = c.in-Some.ensures.some in
    let at : task_at (scene_at d c.args.step.now).before.handle d ≡ Some r.0 = ap (λ h. task_at h d) (sym c.handle.ensures) ∙ r.2 in
    simp (
      at,
      flat_map-append g.A.Artist.change_text,
      c.show_gone.ensures,
      c.show_now.ensures,
      c.show_slides.ensures,
      c.blocks-3.ensures,
      c.deref.ensures.0,
      c.deref-2.ensures.0,
      c.deref-3.ensures.0,
      c.blocks-2.ensures r.0 r.1,
      append_assoc,
    )
