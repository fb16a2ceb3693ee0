use Rattle.rh_tasks.proofs.Common.{ℕ, List, length, refl, sym, ap, ◌∙◌, Ok, not, BadRange, Granted, ◌>>◌, refuse_if, err_from_is_err_and, ends, past, stops}
use Rattle.rh_tasks.proofs.Common.{nobody, owned, holds, bytes_held}
use Rattle.rh_tasks.specs.Sights.{bytes_read}
use Rattle.rh_tasks.proofs.QuestionLaws.{of-slot}
use Rattle.rh_tasks.proofs.Readers.{if-ok, if-err}
use Rattle.rh_tasks.proofs.TransferBlocks.{held-part}
use Rattle.rh_tasks.proofs.world.World.read.Goals as goal

pub returns-in_err-slot : goal.returns-in_err-slot
unfolding bytes_read
returns-in_err-slot g c =
    let p = err_from_is_err_and c.from_residual.result c.from_residual.ensures.1 in
    rw (p.1, p.2, c.in_err-slot.ensures.err.0, ← c.self.view_is) (if-err _ _ (ends _ (nobody _ _ _ _ _ _ c.in_err-slot.ensures.err.1)) (refl, refl))

pub returns-then-not-inside : goal.returns-then-not-inside
unfolding bytes_read
returns-then-not-inside g c =
    let n = length c.args.to.now in
    rw (← c.self.view_is) (if-err _ _ (of-slot c.self.invariant c.in_ok-slot.ensures.ok (λ s. let r : Granted (List ℕ) =
    Ok (bytes_held c.args.address n s) in refuse_if (not (holds c.args.address n s)) BadRange >> r)
    ∙ stops _ BadRange _ (ap not (sym c.if-not-inside.ensures))) (refl, refl))

pub overflow_sub-address : goal.overflow_sub-address
overflow_sub-address g c =
    (held-part _ c.in_ok-slot.slot _ _ (owned c.self.invariant c.in_ok-slot.ensures.ok) (sym c.if-not-inside.ensures)).0

pub copy_out-requires-clause-opened : goal.copy_out-requires-clause-opened
copy_out-requires-clause-opened g c = (owned c.self.invariant c.in_ok-slot.ensures.ok).opened

pub copy_out-requires-clause-within : goal.copy_out-requires-clause-within
copy_out-requires-clause-within g c =
    (held-part _ c.in_ok-slot.slot _ _ (owned c.self.invariant c.in_ok-slot.ensures.ok) (sym c.if-not-inside.ensures)).1.high

pub returns : goal.returns
unfolding bytes_read
returns g c =
    let n = length c.args.to.now in
    let h = sym c.if-not-inside.ensures in
    rw (← c.self.view_is) (if-ok _ _ (of-slot c.self.invariant c.in_ok-slot.ensures.ok (λ s. let r : Granted (List ℕ) =
    Ok (bytes_held c.args.address n s) in refuse_if (not (holds c.args.address n s)) BadRange >> r) ∙ past _ BadRange _ (ap not h) refl)
    (refl, c.copy_out.ensures ∙ sym (held-part _ c.in_ok-slot.slot _ _ (owned c.self.invariant c.in_ok-slot.ensures.ok) h).1.is))
