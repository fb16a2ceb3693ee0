use Rattle.rh_tasks.proofs.Common.{◌≡◌, false, refl, sym, err_from_is_err_and, ◌&&◌, ◌==◌, overlap}
use Rattle.rh_tasks.proofs.Slides.{seat-slot}
use Rattle.rh_tasks.proofs.TransferBlocks.{place-is, place-none, seat-of, no-source, no-target, no-source-range, no-target-range, colliding, apart, held-part}
use Rattle.rh_tasks.proofs.TransferBlocks.{moved, moved-keeps, first-false, second-false, both-true}
use Rattle.rh_tasks.proofs.world.World.move_block.Goals.{then-not-inside-via-then-not-inside, then-not-inside-via-else-not-inside+then-not-inside-2}
use Rattle.rh_tasks.proofs.world.World.move_block.Goals.{else-eq-via-then-eq+else-do_overlap, else-eq-via-else-eq}
use Rattle.rh_tasks.proofs.world.World.move_block.Goals as goal

pub returns-in_err-i : goal.returns-in_err-i
returns-in_err-i g c =
    let p = err_from_is_err_and c.from_residual.result c.from_residual.ensures.1 in
    let e = place-none _ c.with_handle.result c.in_err-i.ensures.value c.with_handle.ensures in
    rw (p.1, p.2, e.0, ← c.self.view_is) (no-source c.self.invariant _ _ _ _ _ e.1, refl)

pub returns-in_err-j : goal.returns-in_err-j
returns-in_err-j g c =
    let p = err_from_is_err_and c.from_residual-in_err-j.result c.from_residual-in_err-j.ensures.1 in
    let e = place-none _ c.with_handle-2.result c.in_err-j.ensures.value c.with_handle-2.ensures in
    rw (p.1, p.2, e.0, ← c.self.view_is) (no-target c.self.invariant _ _ _ _ _ e.1, refl)

pub returns-then-not-inside : goal.returns-then-not-inside
returns-then-not-inside g c =
    let a = seat-of _ _ _ _ (place-is _ c.with_handle.result c.in_ok-i.ensures.value c.with_handle.ensures) c.index.ensures in
    let b = seat-of _ _ _ _ (place-is _ c.with_handle-2.result c.in_ok-j.ensures.value c.with_handle-2.ensures) c.index-2.ensures in
    elim c.then-not-inside.branch [
      | then-not-inside-via-then-not-inside w ↦ rw (← c.self.view_is) (no-source-range c.self.invariant _ _ _ a b (sym w.if-not-inside.ensures), refl)
      | then-not-inside-via-else-not-inside+then-not-inside-2 w ↦
          rw (← c.self.view_is) (no-target-range c.self.invariant _ _ _ a b (sym w.if-not-inside-2.ensures), refl)
    ]

pub inside-requires : goal.inside-requires
inside-requires g c =
    let a = seat-of _ _ _ _ (place-is _ c.with_handle.result c.in_ok-i.ensures.value c.with_handle.ensures) c.index.ensures in
    record { slot = seat-slot c.self.invariant a.at }

pub returns-then-do_overlap : goal.returns-then-do_overlap
returns-then-do_overlap g c =
    let a = seat-of _ _ _ _ (place-is _ c.with_handle.result c.in_ok-i.ensures.value c.with_handle.ensures) c.index.ensures in
    let b = seat-of _ _ _ _ (place-is _ c.with_handle-2.result c.in_ok-j.ensures.value c.with_handle-2.ensures) c.index-2.ensures in
    let sh = sym c.if-not-inside.ensures in
    let rh = sym c.if-not-inside-2.ensures in
    rw (← c.self.view_is) (colliding c.self.invariant _ _ _ a b sh rh (both-true _ _ (sym c.if-eq.ensures) (sym c.if-do_overlap.ensures)), refl)

pub overflow_sub-place : goal.overflow_sub-place
overflow_sub-place g c =
    let a = seat-of _ _ _ _ (place-is _ c.with_handle.result c.in_ok-i.ensures.value c.with_handle.ensures) c.index.ensures in
    let sh = sym c.if-not-inside.ensures in
    (held-part _ c.index.result.now.slot _ _ (seat-slot c.self.invariant a.at) sh).0

pub write_from-requires-clause-slot : goal.write_from-requires-clause-slot
write_from-requires-clause-slot g c =
    let b = seat-of _ _ _ _ (place-is _ c.with_handle-2.result c.in_ok-j.ensures.value c.with_handle-2.ensures) c.index-2.ensures in
    seat-slot c.self.invariant b.at

pub write_from-requires-clause-opened : goal.write_from-requires-clause-opened
write_from-requires-clause-opened g c =
    let a = seat-of _ _ _ _ (place-is _ c.with_handle.result c.in_ok-i.ensures.value c.with_handle.ensures) c.index.ensures in
    (seat-slot c.self.invariant a.at).opened

pub write_from-requires-clause-source : goal.write_from-requires-clause-source
write_from-requires-clause-source g c =
    let a = seat-of _ _ _ _ (place-is _ c.with_handle.result c.in_ok-i.ensures.value c.with_handle.ensures) c.index.ensures in
    let sh = sym c.if-not-inside.ensures in
    (held-part _ c.index.result.now.slot _ _ (seat-slot c.self.invariant a.at) sh).1.high

pub write_from-requires-clause-apart : goal.write_from-requires-clause-apart
write_from-requires-clause-apart g c =
    let a = seat-of _ _ _ _ (place-is _ c.with_handle.result c.in_ok-i.ensures.value c.with_handle.ensures) c.index.ensures in
    let b = seat-of _ _ _ _ (place-is _ c.with_handle-2.result c.in_ok-j.ensures.value c.with_handle-2.ensures) c.index-2.ensures in
    let sh = sym c.if-not-inside.ensures in
    let rh = sym c.if-not-inside-2.ensures in
    let free : (c.args.from == c.args.to && overlap c.args.address c.args.n c.args.address2 c.args.n) ≡ false = elim c.else-eq.branch [
      | else-eq-via-then-eq+else-do_overlap w ↦ second-false _ _ (sym w.if-do_overlap.ensures)
      | else-eq-via-else-eq w ↦ first-false _ _ (sym w.if-eq.ensures)
    ] in
    apart c.self.invariant _ _ _ a b sh rh free

pub invariant_of-self : goal.invariant_of-self
invariant_of-self g c =
    let a = seat-of _ _ _ _ (place-is _ c.with_handle.result c.in_ok-i.ensures.value c.with_handle.ensures) c.index.ensures in
    let b = seat-of _ _ _ _ (place-is _ c.with_handle-2.result c.in_ok-j.ensures.value c.with_handle-2.ensures) c.index-2.ensures in
    let sh = sym c.if-not-inside.ensures in
    let rh = sym c.if-not-inside-2.ensures in
    let free : (c.args.from == c.args.to && overlap c.args.address c.args.n c.args.address2 c.args.n) ≡ false = elim c.else-eq.branch [
      | else-eq-via-then-eq+else-do_overlap w ↦ second-false _ _ (sym w.if-do_overlap.ensures)
      | else-eq-via-else-eq w ↦ first-false _ _ (sym w.if-eq.ensures)
    ] in
    moved-keeps c.self.invariant _ _ _ a b sh rh free c.write_from.ensures

pub returns : goal.returns
returns g c =
    let a = seat-of _ _ _ _ (place-is _ c.with_handle.result c.in_ok-i.ensures.value c.with_handle.ensures) c.index.ensures in
    let b = seat-of _ _ _ _ (place-is _ c.with_handle-2.result c.in_ok-j.ensures.value c.with_handle-2.ensures) c.index-2.ensures in
    let sh = sym c.if-not-inside.ensures in
    let rh = sym c.if-not-inside-2.ensures in
    let free : (c.args.from == c.args.to && overlap c.args.address c.args.n c.args.address2 c.args.n) ≡ false = elim c.else-eq.branch [
      | else-eq-via-then-eq+else-do_overlap w ↦ second-false _ _ (sym w.if-do_overlap.ensures)
      | else-eq-via-else-eq w ↦ first-false _ _ (sym w.if-eq.ensures)
    ] in
    rw (← c.self.view_is) (moved c.self.invariant _ _ _ a b sh rh free c.write_from.ensures)
