use Rattle.rh_tasks.proofs.Common.{ℕ, ap, sym, Ok, err_from_is_err_and, Granted, Slot, slot_alloc, Desk, kept_of, shown_of, begins, ends}
use Rattle.rh_defs.proofs.SlotKeeps.{slot_alloc-grants}
use Rattle.rh_tasks.proofs.Slides.{seat-sits, slide-granted, slide-desk, slide-world, slide-refused}
use Rattle.rh_tasks.proofs.world.World.alloc_document.Goals as goal

pub returns-in_err-alloc : goal.returns-in_err-alloc
returns-in_err-alloc g c =
    let at = seat-sits _ _ _ _ _ c.self.view_is c.requires.place c.index-seat.ensures in
    let p = err_from_is_err_and c.from_residual.result c.from_residual.ensures.1 in
    let same = ap (λ m. shown_of m c.self.inside.seats.items c.self.inside.made.items (g.F.NamedFiles.contents c.self.inside.files)
    (kept_of c.self.inside.next c.self.inside.queue c.self.inside.scrap)) c.in_err-alloc.ensures.err in
    rw (p.1, p.2, ← c.self.view_is) (λ t e.
    (ends _ (slide-refused c.self.invariant at (λ free. slot_alloc free c.args.anchor 0) c.in_err-alloc.ensures t e), same))

pub invariant_of-self-2 : goal.invariant_of-self-2
invariant_of-self-2 g c =
    let at = seat-sits _ _ _ _ _ c.self.view_is c.requires.place c.index-seat.ensures in
    slide-world c.self.invariant at (λ free. slot_alloc free c.args.anchor 0) c.in_ok-alloc.ensures
    (λ slot is. slot_alloc-grants _ c.args.anchor 0 slot c.requires.anchor is)

pub returns : goal.returns
returns g c =
    let at = seat-sits _ _ _ _ _ c.self.view_is c.requires.place c.index-seat.ensures in
    let call : ℕ → Slot → Granted (Slot × ℕ) = λ free. slot_alloc free c.args.anchor 0 in
    rw (← c.self.view_is) (λ t e. begins _ (slide-granted c.self.invariant at call c.in_ok-alloc.ensures t e)
    (ap (λ (d : Desk). let r : Granted Desk = Ok d in r) (sym (slide-desk c.self.invariant at call c.in_ok-alloc.ensures t e))))
