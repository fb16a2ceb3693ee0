use Rattle.std.proofs.Common.{length, ap, arith}
use Rattle.rh_heap.proofs.RestLaws.{given_end, hole_turn, used_turn}
use Rattle.rh_heap.proofs.image.SegmentIterIterator.next.Goals as goal

pub returns-then-place-self-clause-steps : goal.returns-then-place-self-clause-steps
returns-then-place-self-clause-steps c =
    let e = given_end _ _ _ _ c.args.self.now.standing c.if-place-self.true in (e, e)

pub word_in-size-requires : goal.word_in-size-requires
word_in-size-requires c =
    let t = hole_turn _ _ _ _ _ c.args.self.now.standing c.if-place-self.false c.word_in-link.ensures.value c.if-self-link.true in
    let r = t.room in omega arith

pub invariant_of-self : goal.invariant_of-self
invariant_of-self c = record {
  standing = ((hole_turn _ _ _ _ _ c.args.self.now.standing c.if-place-self.false c.word_in-link.ensures.value
      c.if-self-link.true).given _ c.word_in-size.ensures.value).rest;
}

pub word_in-size-requires-else-self-link : goal.word_in-size-requires-else-self-link
word_in-size-requires-else-self-link c =
    (used_turn _ _ _ _ _ c.args.self.now.standing c.if-place-self.false c.word_in-link.ensures.value c.if-self-link.false).room

pub invariant_of-self-else-self-link : goal.invariant_of-self-else-self-link
invariant_of-self-else-self-link c = record {
  standing = ((used_turn _ _ _ _ _ c.args.self.now.standing c.if-place-self.false c.word_in-link.ensures.value
      c.if-self-link.false).given _ c.word_in-size-else-self-link.ensures.value).rest;
}

pub returns-then-self-link-clause-steps : goal.returns-then-self-link-clause-steps
returns-then-self-link-clause-steps c = ((hole_turn _ _ _ _ _ c.args.self.now.standing c.if-place-self.false c.word_in-link.ensures.value
    c.if-self-link.true).given _ c.word_in-size.ensures.value).gives

pub returns-then-self-link-clause-goes : goal.returns-then-self-link-clause-goes
returns-then-self-link-clause-goes c =
    let g = ((hole_turn _ _ _ _ _ c.args.self.now.standing c.if-place-self.false c.word_in-link.ensures.value c.if-self-link.true).given _
    c.word_in-size.ensures.value).gives in
    let n = ap length g in
    record { on = λ _. (tt, tt, omega arith); keeps = tt; rests = λ _. tt }

pub returns-else-self-link-clause-steps : goal.returns-else-self-link-clause-steps
returns-else-self-link-clause-steps c = ((used_turn _ _ _ _ _ c.args.self.now.standing c.if-place-self.false c.word_in-link.ensures.value
    c.if-self-link.false).given _ c.word_in-size-else-self-link.ensures.value).gives

pub returns-else-self-link-clause-goes : goal.returns-else-self-link-clause-goes
returns-else-self-link-clause-goes c =
    let g = ((used_turn _ _ _ _ _ c.args.self.now.standing c.if-place-self.false c.word_in-link.ensures.value c.if-self-link.false).given _
    c.word_in-size-else-self-link.ensures.value).gives in
    let n = ap length g in
    record { on = λ _. (tt, tt, omega arith); keeps = tt; rests = λ _. tt }
