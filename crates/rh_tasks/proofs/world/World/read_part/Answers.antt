use Rattle.rh_tasks.proofs.Common.{◌≡◌, ◌+◌, ◌-◌, ℕ, List, length, take, drop, refl, sym, ap, ◌∙◌, arith, Ok, not, BadRange, Granted, ◌>>◌, refuse_if}
use Rattle.rh_tasks.proofs.Common.{err_from_is_err_and}
use Rattle.rh_tasks.proofs.Common.{ends, past, stops, nobody, owned, holds, bytes_held, bytes, part, part-drop, length-part, slot_in, slot_start}
use Rattle.rh_defs.proofs.BytesLaws.{part-part}
use Rattle.rh_tasks.specs.Sights.{bytes_read}
use Rattle.rh_tasks.proofs.QuestionLaws.{of-slot}
use Rattle.rh_tasks.proofs.Readers.{if-ok, if-err}
use Rattle.rh_tasks.proofs.TransferBlocks.{held-part}
use Rattle.rh_tasks.proofs.world.World.read_part.Goals as goal

pub returns-in_err-slot : goal.returns-in_err-slot
unfolding bytes_read
returns-in_err-slot g c =
    let p = err_from_is_err_and c.from_residual.result c.from_residual.ensures.1 in
    rw (p.1, p.2, c.in_err-slot.ensures.err.0, ← c.self.view_is) (if-err _ _ (ends _ (nobody _ _ _ _ _ _ c.in_err-slot.ensures.err.1)) (refl, refl))

pub returns-then-not-inside : goal.returns-then-not-inside
unfolding bytes_read
returns-then-not-inside g c =
    let n = c.args.size in
    rw (← c.self.view_is) (if-err _ _ (of-slot c.self.invariant c.in_ok-slot.ensures.ok (λ s. let r : Granted (List ℕ) =
    Ok (bytes_held c.args.address n s) in refuse_if (not (holds c.args.address n s)) BadRange >> r)
    ∙ stops _ BadRange _ (ap not (sym c.if-not-inside.ensures))) (refl, refl))

pub overflow_sub-begin : goal.overflow_sub-begin
overflow_sub-begin g c =
    (held-part _ c.in_ok-slot.slot _ _ (owned c.self.invariant c.in_ok-slot.ensures.ok) (sym c.if-not-inside.ensures)).0

pub copy_out-requires-clause-opened : goal.copy_out-requires-clause-opened
copy_out-requires-clause-opened g c = (owned c.self.invariant c.in_ok-slot.ensures.ok).opened

pub copy_out-requires-clause-within : goal.copy_out-requires-clause-within
copy_out-requires-clause-within g c =
    let high = (held-part _ c.in_ok-slot.slot _ _ (owned c.self.invariant c.in_ok-slot.ensures.ok) (sym c.if-not-inside.ensures)).1.high in
    omega (arith, high, c.requires)

pub returns : goal.returns
unfolding bytes_read
returns g c =
    let n = c.args.size in
    let k = length c.args.to.now in
    let b = bytes (g.S.Words.memory c.self.inside.store) c.in_ok-slot.slot.area.0 in
    let h = sym c.if-not-inside.ensures in
    let held : List ℕ = bytes_held c.args.address n (slot_in (g.S.Words.memory c.self.inside.store) c.in_ok-slot.slot) in
    let is : held ≡ part b (c.args.address - slot_start) n =
    (held-part _ c.in_ok-slot.slot _ _ (owned c.self.invariant c.in_ok-slot.ensures.ok) h).1.is in
    let long : length held ≡ n = ap (λ l. length l) is ∙ length-part b (c.args.address - slot_start) n in
    let same : part b (c.args.address - slot_start + c.args.offset) k ≡ take k (drop c.args.offset held) =
    sym (part-part b (c.args.address - slot_start) n c.args.offset k c.requires) ∙ ap (λ l. part l c.args.offset k) (sym is)
    ∙ part-drop held c.args.offset k (omega (arith, long, c.requires)) in
    rw (← c.self.view_is) (if-ok _ _ (of-slot c.self.invariant c.in_ok-slot.ensures.ok (λ s. let r : Granted (List ℕ) =
    Ok (bytes_held c.args.address n s) in refuse_if (not (holds c.args.address n s)) BadRange >> r) ∙ past _ BadRange _ (ap not h) refl)
    (refl, c.copy_out.ensures ∙ same))
