use Rattle.rh_tasks.proofs.Common.{ℕ, ◌+◌, ◌≤◌, refl, ◌∙◌, arith, length, sym, ap, Ok, Granted, err_from_is_err_and, ends, nobody, owned, slot_in}
use Rattle.rh_slot.proofs.EditLaws.{beyond}
use Rattle.rh_tasks.specs.BlockBytes.{heap_shown}
use Rattle.rh_tasks.proofs.BlockWrites.{asked_of, asked-beyond, asked-nowhere, asked-there, bytes-low, bytes-stand}
use Rattle.rh_tasks.proofs.QuestionLaws.{of-slot}
use Rattle.rh_tasks.proofs.Readers.{if-ok, if-err}
use Rattle.rh_tasks.proofs.SightLaws.{sized-bytes, unsized-block}
use Rattle.rh_tasks.proofs.world.World.read_heap.Goals as goal

pub returns-in_err-slot : goal.returns-in_err-slot
unfolding heap_shown
returns-in_err-slot g c =
    let p = err_from_is_err_and c.from_residual.result c.from_residual.ensures.1 in
    rw (p.1, p.2, c.in_err-slot.ensures.err.0, ← c.self.view_is) (if-err _ _ (ends _ (nobody _ _ _ _ _ _ c.in_err-slot.ensures.err.1)) (refl, refl))

pub returns-in_err-size : goal.returns-in_err-size
unfolding heap_shown
returns-in_err-size g c =
    let s = slot_in (g.S.Words.memory c.self.inside.store) c.in_ok-slot.slot in
    let p = err_from_is_err_and c.from_residual-in_err-size.result c.from_residual-in_err-size.ensures.1 in
    let absent = unsized-block _ s.heap _ c.in_err-size.ensures in
    rw (p.1, p.2, absent.1, ← c.self.view_is)
    (if-err _ _ (of-slot c.self.invariant c.in_ok-slot.ensures.ok (asked_of c.args.address c.args.offset (length c.args.to.now))
    ∙ asked-nowhere c.args.address c.args.offset (length c.args.to.now) s absent.0) (refl, refl))

pub returns-then-not-fits : goal.returns-then-not-fits
unfolding heap_shown
returns-then-not-fits g c =
    let s = slot_in (g.S.Words.memory c.self.inside.store) c.in_ok-slot.slot in
    let some = sized-bytes _ s.heap c.in_ok-size.size c.in_ok-size.ensures in
    let short = beyond _ _ _ c.fits.ensures c.if-not-fits.true in
    rw (← c.self.view_is)
    (if-err _ _ (of-slot c.self.invariant c.in_ok-slot.ensures.ok (asked_of c.args.address c.args.offset (length c.args.to.now))
    ∙ asked-beyond c.args.address c.args.offset (length c.args.to.now) s some.0 some.1.0 (omega (arith, short, some.1.1))) (refl, refl))

pub overflow_sub-place : goal.overflow_sub-place
overflow_sub-place g c =
    let m = g.S.Words.memory c.self.inside.store in
    let some = sized-bytes _ (slot_in m c.in_ok-slot.slot).heap c.in_ok-size.size c.in_ok-size.ensures in
    let fits = c.fits.ensures.0 c.if-not-fits.false in
    omega (
      arith,
      bytes-low m c.in_ok-slot.slot c.args.address c.args.offset (length c.args.to.now) some.0 (owned c.self.invariant c.in_ok-slot.ensures.ok) some.1.0
          (omega (arith, fits, some.1.1)),
    )

pub overflow_add-place : goal.overflow_add-place
overflow_add-place g c =
    let m = g.S.Words.memory c.self.inside.store in
    let some = sized-bytes _ (slot_in m c.in_ok-slot.slot).heap c.in_ok-size.size c.in_ok-size.ensures in
    let fits = c.fits.ensures.0 c.if-not-fits.false in
    let stands = bytes-stand m c.in_ok-slot.slot c.args.address c.args.offset (length c.args.to.now) some.0
    (owned c.self.invariant c.in_ok-slot.ensures.ok) some.1.0 (omega (arith, fits, some.1.1)) in
    omega (arith, stands.high, g.met.S.Words.small c.self.inside.store c.in_ok-slot.slot.area.0)

pub copy_out-requires-clause-within : goal.copy_out-requires-clause-within
copy_out-requires-clause-within g c =
    let m = g.S.Words.memory c.self.inside.store in
    let some = sized-bytes _ (slot_in m c.in_ok-slot.slot).heap c.in_ok-size.size c.in_ok-size.ensures in
    let fits = c.fits.ensures.0 c.if-not-fits.false in
    (bytes-stand m c.in_ok-slot.slot c.args.address c.args.offset (length c.args.to.now) some.0 (owned c.self.invariant c.in_ok-slot.ensures.ok) some.1.0
    (omega (arith, fits, some.1.1))).high

pub copy_out-requires-clause-opened : goal.copy_out-requires-clause-opened
copy_out-requires-clause-opened g c = (owned c.self.invariant c.in_ok-slot.ensures.ok).opened

pub overflow_cast-result : goal.overflow_cast-result
overflow_cast-result g c =
    let m = g.S.Words.memory c.self.inside.store in
    let some = sized-bytes _ (slot_in m c.in_ok-slot.slot).heap c.in_ok-size.size c.in_ok-size.ensures in
    let stands = bytes-stand m c.in_ok-slot.slot c.args.address 0 (length some.0) some.0 (owned c.self.invariant c.in_ok-slot.ensures.ok) some.1.0
    (omega arith) in
    omega (arith, stands.high, some.1.1, g.met.S.Words.small c.self.inside.store c.in_ok-slot.slot.area.0)

pub returns : goal.returns
unfolding heap_shown
returns g c =
    let m = g.S.Words.memory c.self.inside.store in
    let s = slot_in m c.in_ok-slot.slot in
    let some = sized-bytes _ s.heap c.in_ok-size.size c.in_ok-size.ensures in
    let fits = c.fits.ensures.0 c.if-not-fits.false in
    let room : c.args.offset + length c.args.to.now ≤ length some.0 = omega (arith, fits, some.1.1) in
    let stands = bytes-stand m c.in_ok-slot.slot c.args.address c.args.offset (length c.args.to.now) some.0
    (owned c.self.invariant c.in_ok-slot.ensures.ok) some.1.0 room in
    rw (← c.self.view_is)
    (if-ok _ _ (of-slot c.self.invariant c.in_ok-slot.ensures.ok (asked_of c.args.address c.args.offset (length c.args.to.now))
    ∙ asked-there c.args.address c.args.offset (length c.args.to.now) s some.0 some.1.0 room)
    (ap (λ (k : ℕ). let r : Granted ℕ = Ok k in r) (sym some.1.1), c.copy_out.ensures ∙ sym stands.is))
