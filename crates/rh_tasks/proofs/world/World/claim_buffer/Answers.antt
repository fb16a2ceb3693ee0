use Rattle.rh_tasks.proofs.Common.{ℕ, ap, arith, err_from_is_err_and, Granted, Slot, slot_claim, slot_in, kept_of, shown_of, granted}
use Rattle.rh_defs.proofs.SlotKeeps.{slot_claim-grants}
use Rattle.rh_tasks.proofs.Addresses.{grant-of, slot_claim-low}
use Rattle.rh_tasks.proofs.Slides.{seat-sits, seat-slot, slide-granted, slide-desk, slide-world, slide-refused}
use Rattle.rh_tasks.proofs.world.World.claim_buffer.Goals as goal

pub returns-in_err-address : goal.returns-in_err-address
returns-in_err-address g c =
    let at = seat-sits _ _ _ _ _ c.self.view_is c.requires c.index-seat.ensures in
    let p = err_from_is_err_and c.from_residual.result c.from_residual.ensures.1 in
    let same = ap (λ m. shown_of m c.self.inside.seats.items c.self.inside.made.items (g.F.NamedFiles.contents c.self.inside.files)
    (kept_of c.self.inside.next c.self.inside.queue c.self.inside.scrap)) c.in_err-address.ensures.err in
    rw (p.1, p.2, ← c.self.view_is) (λ t e. (slide-refused c.self.invariant at (λ free. slot_claim free c.args.n) c.in_err-address.ensures t e, same))

pub overflow_cast-result : goal.overflow_cast-result
overflow_cast-result g c =
    let at = seat-sits _ _ _ _ _ c.self.view_is c.requires c.index-seat.ensures in
    let is = seat-slot c.self.invariant at in
    let m = g.S.Words.memory c.self.inside.store in
    let claim = slot_claim m.free c.args.n (slot_in m c.index-seat.result.now.slot) in
    let low = grant-of (slot_claim-low _ _ _) (granted {g = claim} c.in_ok-address.ensures) in
    omega (
      arith,
      low,
      is.spells.words.within,
      is.spells.words.heap.within,
      is.spells.words.heap.heap.fits,
      g.met.S.Words.small c.self.inside.store c.index-seat.result.now.slot.area.0,
    )

pub invariant_of-self-2 : goal.invariant_of-self-2
invariant_of-self-2 g c =
    let at = seat-sits _ _ _ _ _ c.self.view_is c.requires c.index-seat.ensures in
    slide-world c.self.invariant at (λ free. slot_claim free c.args.n) c.in_ok-address.ensures (slot_claim-grants _ c.args.n)

pub returns : goal.returns
returns g c =
    let at = seat-sits _ _ _ _ _ c.self.view_is c.requires c.index-seat.ensures in
    let call : ℕ → Slot → Granted (Slot × ℕ) = λ free. slot_claim free c.args.n in
    let slot = slot_in (g.S.Words.memory c.claim.new.store) c.index-seat.result.now.slot in
    rw (← c.self.view_is) (λ t e.
    (slot, (slide-granted c.self.invariant at call c.in_ok-address.ensures t e, slide-desk c.self.invariant at call c.in_ok-address.ensures t e)))
