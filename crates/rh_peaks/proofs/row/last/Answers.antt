use Rattle.std.proofs.Common.{◌≡◌, ◌+◌, ◌-◌, ◌*◌, subst, arith}
use Rattle.rh_peaks.proofs.PeakLaws.{AtDown, up_step, down_start, down_left, down_right, down_done}
use Rattle.rh_peaks.proofs.row.last.Goals as goal
use Rattle.rh_peaks.proofs.row.last.Goals.{else-k-eq1-via-then-k-eq1+else-nodes-k-ne0, else-k-eq1-via-else-k-eq1}

pub up-preserved : goal.up-preserved
up-preserved c = up_step _ c.requires.tree.larger _ c.up.k c.up.invariant c.if-k-le1.false c.requires.within (λ odd. elim c.else-k-eq1.branch [
  | else-k-eq1-via-then-k-eq1+else-nodes-k-ne0 w ↦ w.if-nodes-k-ne0.false
  | else-k-eq1-via-else-k-eq1 w ↦ absurd (w.if-k-eq1.false odd)
])

pub down-init : goal.down-init
down-init c = down_start _ c.requires.tree.larger _ c.up.k c.up.invariant c.if-k-le1.false c.if-k-eq1.true c.if-nodes-k-ne0.true

pub down-preserved-then-nodes-k-eq0 : goal.down-preserved-then-nodes-k-eq0
down-preserved-then-nodes-k-eq0 c =
    let k = c.down.k in
    subst (λ x. AtDown c.args.nodes.now c.args.i x) (let e : 2 * k ≡ 2 * k + 1 - 1 = omega arith in e)
    (down_left _ c.requires.tree.larger _ k c.down.invariant c.down-test.true c.requires.within c.if-nodes-k-eq0.true)

pub down-preserved : goal.down-preserved
down-preserved c = down_right _ c.requires.tree.larger _ c.down.k c.down.invariant c.down-test.true c.if-nodes-k-eq0.false

pub returns : goal.returns
returns c = down_done _ c.requires.tree.larger _ c.down.k c.down.invariant c.down-test.false c.requires.within
