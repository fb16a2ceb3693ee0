use Rattle.rh_tasks.proofs.Common.{◌≡◌, List, length, bytes_held, length-part, owned, slot_in, ℕ, refl, sym, ap, ◌∙◌, Ok, not, BadRange, Granted, ◌>>◌}
use Rattle.rh_tasks.proofs.Common.{refuse_if, err_from_is_err_and, ends, past, stops, nobody, holds}
use Rattle.rh_tasks.specs.Sights.{bytes_read}
use Rattle.rh_tasks.proofs.QuestionLaws.{of-slot}
use Rattle.rh_tasks.proofs.TransferBlocks.{held-part}
use Rattle.rh_tasks.proofs.world.World.read_size.Goals as goal

pub returns-in_err-slot-clause-size : goal.returns-in_err-slot-clause-size
returns-in_err-slot-clause-size g c =
    let p = err_from_is_err_and c.from_residual.result c.from_residual.ensures.1 in
    rw (p.1, p.2, c.in_err-slot.ensures.err.0, ← c.self.view_is) (sym (ends _ (nobody _ _ _ _ _ _ c.in_err-slot.ensures.err.1)))

pub returns-then-not-inside-clause-size : goal.returns-then-not-inside-clause-size
returns-then-not-inside-clause-size g c =
    rw (← c.self.view_is) (sym (of-slot c.self.invariant c.in_ok-slot.ensures.ok (λ s. let r : Granted ℕ = Ok c.args.size in
    refuse_if (not (holds c.args.address c.args.size s)) BadRange >> r) ∙ stops _ BadRange _ (ap not (sym c.if-not-inside.ensures))))

pub returns-clause-size : goal.returns-clause-size
returns-clause-size g c =
    rw (← c.self.view_is) (sym (of-slot c.self.invariant c.in_ok-slot.ensures.ok (λ s. let r : Granted ℕ = Ok c.args.size in
    refuse_if (not (holds c.args.address c.args.size s)) BadRange >> r) ∙ past _ BadRange _ (ap not (sym c.if-not-inside.ensures)) refl))

pub returns-clause-whole : goal.returns-clause-whole
unfolding bytes_read
returns-clause-whole g c = λ bytes e.
    let inside = sym c.if-not-inside.ensures in
    let given = rw (← c.self.view_is) at e in
    let held : List ℕ = bytes_held c.args.address c.args.size (slot_in (g.S.Words.memory c.self.inside.store) c.in_ok-slot.slot) in
    let all = of-slot c.self.invariant c.in_ok-slot.ensures.ok (λ s. let r : Granted (List ℕ) = Ok (bytes_held c.args.address c.args.size s) in
    refuse_if (not (holds c.args.address c.args.size s)) BadRange >> r) ∙ past _ BadRange _ (ap not inside) refl in
    let same : held ≡ bytes = (let q = sym all ∙ given in cc) in
    let place = held-part _ c.in_ok-slot.slot c.args.address c.args.size (owned c.self.invariant c.in_ok-slot.ensures.ok) inside in
    ap (λ b. length b) (sym same ∙ place.1.is) ∙ length-part _ _ _
