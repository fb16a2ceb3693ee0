use Rattle.std.proofs.Common.{◌≡◌, ◌+◌, ◌*◌, subst, arith}
use Rattle.rh_peaks.proofs.PeakLaws.{AtNode, no_first, step_left, step_right}
use Rattle.rh_peaks.proofs.row.first.Goals as goal
use Rattle.rh_peaks.proofs.row.first.Goals.{then-w-eq0-via-then-w-eq0, then-w-eq0-via-else-w-eq0+then-nodes-t}

pub returns-then-w-eq0 : goal.returns-then-w-eq0
returns-then-w-eq0 c j less = elim c.then-w-eq0.branch [
  | then-w-eq0-via-then-w-eq0 w ↦ absurd (omega (arith, w.if-w-eq0.true))
  | then-w-eq0-via-else-w-eq0+then-nodes-t w ↦ no_first _ c.requires.larger c.requires.width _ w.if-nodes-t.true j less
]

pub walk-preserved-then-nodes-k : goal.walk-preserved-then-nodes-k
walk-preserved-then-nodes-k c =
    let k = c.walk.k in
    let e : 2 * k ≡ k * 2 = omega arith in
    subst (λ x. AtNode c.args.nodes.now c.args.t (x + 1)) e
    (step_right _ c.requires.larger _ k c.walk.invariant c.walk-test.true (rw e c.if-nodes-k.true))

pub walk-preserved : goal.walk-preserved
walk-preserved c =
    let k = c.walk.k in
    let e : 2 * k ≡ k * 2 = omega arith in
    subst (λ x. AtNode c.args.nodes.now c.args.t x) e
    (step_left _ c.requires.larger _ k c.walk.invariant c.walk-test.true (rw e c.if-nodes-k.false))
