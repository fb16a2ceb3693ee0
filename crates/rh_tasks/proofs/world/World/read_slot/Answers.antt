use Rattle.rh_tasks.proofs.Common.{◌∙◌, length, refl, sym, err_from_is_err_and}
use Rattle.rh_tasks.proofs.Readers.{if-ok, if-err}
use Rattle.rh_tasks.proofs.SightLaws.{bytes-inside, bytes-outside, no-bytes}
use Rattle.rh_tasks.proofs.Slides.{seat-slot}
use Rattle.rh_tasks.proofs.TransferBlocks.{held-part, place-is, place-none, seat-of}
use Rattle.rh_tasks.proofs.world.World.read_slot.Goals as goal

pub returns-in_err-i : goal.returns-in_err-i
returns-in_err-i g c =
    let p = err_from_is_err_and c.from_residual.result c.from_residual.ensures.1 in
    let e = place-none _ c.with_handle.result c.in_err-i.ensures.value c.with_handle.ensures in
    rw (p.1, p.2, e.0, ← c.self.view_is) (if-err _ _ (no-bytes c.self.invariant _ e.1 c.args.address (length c.args.to.now)) (refl, refl))

pub returns-then-not-inside : goal.returns-then-not-inside
returns-then-not-inside g c =
    let a = seat-of _ _ _ _ (place-is _ c.with_handle.result c.in_ok-i.ensures.value c.with_handle.ensures) c.index.ensures in
    rw (← c.self.view_is) (if-err _ _ (bytes-outside c.self.invariant a c.args.address (length c.args.to.now) (sym c.if-not-inside.ensures)) (refl, refl))

pub overflow_sub-place : goal.overflow_sub-place
overflow_sub-place g c =
    let a = seat-of _ _ _ _ (place-is _ c.with_handle.result c.in_ok-i.ensures.value c.with_handle.ensures) c.index.ensures in
    (held-part _ c.index.result.now.slot _ _ (seat-slot c.self.invariant a.at) (sym c.if-not-inside.ensures)).0

pub copy_out-requires-clause-opened : goal.copy_out-requires-clause-opened
copy_out-requires-clause-opened g c =
    let a = seat-of _ _ _ _ (place-is _ c.with_handle.result c.in_ok-i.ensures.value c.with_handle.ensures) c.index.ensures in
    (seat-slot c.self.invariant a.at).opened

pub copy_out-requires-clause-within : goal.copy_out-requires-clause-within
copy_out-requires-clause-within g c =
    let a = seat-of _ _ _ _ (place-is _ c.with_handle.result c.in_ok-i.ensures.value c.with_handle.ensures) c.index.ensures in
    (held-part _ c.index.result.now.slot _ _ (seat-slot c.self.invariant a.at) (sym c.if-not-inside.ensures)).1.high

pub returns : goal.returns
returns g c =
    let a = seat-of _ _ _ _ (place-is _ c.with_handle.result c.in_ok-i.ensures.value c.with_handle.ensures) c.index.ensures in
    let h = sym c.if-not-inside.ensures in
    rw (← c.self.view_is)
    (if-ok _ _ (bytes-inside c.self.invariant a c.args.address (length c.args.to.now) h)
    (refl, c.copy_out.ensures ∙ sym (held-part _ c.index.result.now.slot _ _ (seat-slot c.self.invariant a.at) h).1.is))
