-- Each turn passes a used segment, whose size is read in the bytes that lie side by side.
use Rattle.std.proofs.Common.{◌≡◌, ◌+◌, inl, inr, arith}
use Rattle.rh_heap.proofs.WalkLaws.{step_in}
use Rattle.rh_heap.proofs.span.segments.pass_in_run.Goals as goal

pub walk-smaller : goal.walk-smaller
walk-smaller g c =
    let q = c.requires in
    let t = step_in _ _ _ _ _ q.span.spells q.reached q.no_hole q.below _ _ _ _ c.run-run.ensures.bytes c.walk-test.true c.word_in.ensures c.walk.invariant in
    omega (arith, t.least, c.if-most-next.false)

pub walk-preserved : goal.walk-preserved
walk-preserved g c =
    let q = c.requires in
    let t = step_in _ _ _ _ _ q.span.spells q.reached q.no_hole q.below _ _ _ _ c.run-run.ensures.bytes c.walk-test.true c.word_in.ensures c.walk.invariant in
    let above = q.above in
    let most = c.if-most-next.false in
    let w = t.passed (omega arith) in
    record {
      up_to = omega (arith, w.up_to);
      reached = elim w.reached [
        | inl e ↦ inl (omega arith)
        | inr r ↦ inr
            (rw (let e : c.args.mark.place + (c.walk.passed + c.word_in.result) ≡ c.args.mark.place + c.walk.passed + c.word_in.result = omega arith in
            e) r)
      ];
    }
