use Rattle.rh_heap.proofs.Common.{◌≡◌, inl, inr, refl, sym, arith, Some, BadLink}
use Rattle.rh_defs.specs.HeapImage.{fault_of}
use Rattle.rh_defs.specs.declared.heap.HeapFault.TheVariants.{BadSize}
use Rattle.rh_heap.proofs.CheckLaws.{refused, check_start, used_room, pass_used, used_fault, hole_room, pass_hole, hole_fault, link_fault, accepted}
use Rattle.rh_heap.proofs.image.check_segments.Goals as goal
use Rattle.rh_heap.proofs.image.check_segments.Goals.{then-not-is_size-via-then-not-is_size, then-not-is_size-via-else-not-is_size+then-next-place}
use Rattle.rh_heap.proofs.image.check_segments.Goals.{then-not-is_size-2-via-then-not-is_size-2, then-not-is_size-2-via-else-not-is_size-2+then-base-place}

pub walk-init : goal.walk-init
walk-init c = check_start _ _ _ c.requires.descriptor c.requires.at_base c.requires.link refl

pub word_in-size-requires : goal.word_in-size-requires
word_in-size-requires c = used_room _ _ _ _ _ _ c.walk.invariant c.next_place-next.ensures c.if-place-next.true

pub word_in-size-requires-else-place-next : goal.word_in-size-requires-else-place-next
word_in-size-requires-else-place-next c =
    let r = hole_room _ _ _ _ _ _ c.walk.invariant c.walk-test.true c.next_place-next.ensures c.if-place-next.false in omega arith

pub returns-then-not-is_size-clause-ok : goal.returns-then-not-is_size-clause-ok
returns-then-not-is_size-clause-ok c =
    refused _ BadSize (used_fault _ _ _ _ _ _ _ c.walk.invariant c.next_place-next.ensures c.if-place-next.true c.word_in-size.ensures.value
    (elim c.then-not-is_size.branch [
      | then-not-is_size-via-then-not-is_size w ↦ inl (sym w.if-not-is_size.ensures)
      | then-not-is_size-via-else-not-is_size+then-next-place w ↦ inr w.if-next-place.true
    ]))

pub returns-then-not-is_size-clause-fault : goal.returns-then-not-is_size-clause-fault
returns-then-not-is_size-clause-fault c =
    sym (used_fault _ _ _ _ _ _ _ c.walk.invariant c.next_place-next.ensures c.if-place-next.true c.word_in-size.ensures.value
    (elim c.then-not-is_size.branch [
      | then-not-is_size-via-then-not-is_size w ↦ inl (sym w.if-not-is_size.ensures)
      | then-not-is_size-via-else-not-is_size+then-next-place w ↦ inr w.if-next-place.true
    ]))

pub walk-preserved-then-place-next : goal.walk-preserved-then-place-next
walk-preserved-then-place-next c = pass_used _ _ _ _ _ _ _ c.walk.invariant c.next_place-next.ensures c.if-place-next.true c.word_in-size.ensures.value
    (sym c.if-not-is_size.ensures) c.if-next-place.false

pub returns-then-not-is_size-2-clause-ok : goal.returns-then-not-is_size-2-clause-ok
returns-then-not-is_size-2-clause-ok c = refused _ BadSize (hole_fault _ _ _ _ _ _ _ c.walk.invariant c.walk-test.true c.next_place-next.ensures
    c.if-place-next.false c.word_in-size-else-place-next.ensures.value
    (elim c.then-not-is_size-2.branch [
      | then-not-is_size-2-via-then-not-is_size-2 w ↦ inl (sym w.if-not-is_size-2.ensures)
      | then-not-is_size-2-via-else-not-is_size-2+then-base-place w ↦ inr w.if-base-place.true
    ]))

pub returns-then-not-is_size-2-clause-fault : goal.returns-then-not-is_size-2-clause-fault
returns-then-not-is_size-2-clause-fault c = sym (hole_fault _ _ _ _ _ _ _ c.walk.invariant c.walk-test.true c.next_place-next.ensures c.if-place-next.false
    c.word_in-size-else-place-next.ensures.value
    (elim c.then-not-is_size-2.branch [
      | then-not-is_size-2-via-then-not-is_size-2 w ↦ inl (sym w.if-not-is_size-2.ensures)
      | then-not-is_size-2-via-else-not-is_size-2+then-base-place w ↦ inr w.if-base-place.true
    ]))

bad_link : (c : goal.Then-not-is_link) → fault_of c.args.image.now ≡ Some BadLink
bad_link c = link_fault _ _ _ _ _ _ _ c.walk.invariant c.walk-test.true c.next_place-next.ensures c.if-place-next.false
    c.word_in-size-else-place-next.ensures.value
    (sym c.if-not-is_size-2.ensures) c.if-base-place.false (sym c.if-not-is_link.ensures)

pub returns-then-not-is_link-clause-ok : goal.returns-then-not-is_link-clause-ok
returns-then-not-is_link-clause-ok c = refused _ BadLink (bad_link c)

pub returns-then-not-is_link-clause-fault : goal.returns-then-not-is_link-clause-fault
returns-then-not-is_link-clause-fault c = sym (bad_link c)

pub walk-preserved : goal.walk-preserved
walk-preserved c =
    pass_hole _ _ _ _ _ _ _ c.walk.invariant c.walk-test.true c.next_place-next.ensures c.if-place-next.false c.word_in-size-else-place-next.ensures.value
    (sym c.if-not-is_size-2.ensures) c.if-base-place.false (sym c.if-not-is_link.ensures)

pub returns-clause-ok : goal.returns-clause-ok
returns-clause-ok c = (λ _. (accepted _ _ _ _ _ c.requires.descriptor c.requires.at_base c.walk.invariant c.walk-test.false).image, λ _. refl)

pub returns-clause-sums : goal.returns-clause-sums
returns-clause-sums c = (accepted _ _ _ _ _ c.requires.descriptor c.requires.at_base c.walk.invariant c.walk-test.false).sums_of

pub returns-clause-fault : goal.returns-clause-fault
returns-clause-fault c = sym (accepted _ _ _ _ _ c.requires.descriptor c.requires.at_base c.walk.invariant c.walk-test.false).clean
