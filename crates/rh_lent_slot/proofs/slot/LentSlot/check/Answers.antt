use Rattle.rh_lent_slot.proofs.Common.{◌≡◌, ◌≤◌, ◌*◌, true, length, ap, ◌∙◌, arith, nat_tests, length-take-le, PAGE, slot_of, lent_slot_bytes}
use Rattle.std.proofs.lemmas.Result.{IfOk-weaker}
use Rattle.rh_lent_slot.specs.LentSlotChecks.{pages_fault_of}
use Rattle.rh_slot.specs.SlotChecks.{slot_summary}
use Rattle.rh_lent_slot.proofs.ImageLaws.{fault_inside, same_sums, short_back, short_few, short_from, short_lies}
use Rattle.rh_lent_slot.proofs.slot.LentSlot.check.Goals as goal

pub returns-then-len-gt-MOST_LENT-clause-ok : goal.returns-then-len-gt-MOST_LENT-clause-ok
returns-then-len-gt-MOST_LENT-clause-ok c =
    let b = c.args.bytes.now in
    let s = c.args.self in
    (λ t. absurd cc, λ short. let few = short_few b s short in let lies = short_lies b s short in grind (arith, nat_tests))

pub returns-then-len-gt-MOST_LENT-clause-fault : goal.returns-then-len-gt-MOST_LENT-clause-fault
unfolding pages_fault_of
returns-then-len-gt-MOST_LENT-clause-fault c = grind (arith, nat_tests)

pub returns-clause-ok : goal.returns-clause-ok
returns-clause-ok c =
    let b = c.args.bytes.now in
    let s = c.args.self in
    let within : PAGE * s.pages ≤ length b = omega (arith, c.if-len-self.false) in
    (λ t. short_from b s c.if-len-gt-MOST_LENT.false within (c.check.ensures.ok.0 t), λ short. c.check.ensures.ok.1 (short_back b s short))

pub returns-clause-sums : goal.returns-clause-sums
returns-clause-sums c =
    let b = c.args.bytes.now in
    let s = c.args.self in
    let within : PAGE * s.pages ≤ length b = omega (arith, c.if-len-self.false) in
    IfOk-weaker c.check.result _ _ (λ sums e.
    e ∙ ap (λ n. slot_summary n (slot_of true (lent_slot_bytes b s))) (length-take-le (PAGE * s.pages) b within) ∙ same_sums b s)
    c.check.ensures.sums

pub returns-clause-fault : goal.returns-clause-fault
returns-clause-fault c =
    let b = c.args.bytes.now in
    let s = c.args.self in
    let within : PAGE * s.pages ≤ length b = omega (arith, c.if-len-self.false) in
    c.check.ensures.fault ∙ fault_inside b s c.if-len-gt-MOST_LENT.false within
