use Rattle.rh_pictures.proofs.Common.{eq-eqb, sym, arith, ne_eqb}
use Rattle.rh_pictures.proofs.MarkLemmas.{one-at, one-off, one-taken}
use Rattle.rh_pictures.proofs.map.pool.mark_page.Goals as goal
use Rattle.rh_pictures.proofs.map.pool.mark_page.Goals.{else-k-marks-via-then-k-marks+else-marks-k-eq-FREE, else-k-marks-via-else-k-marks}

pub returns-then-marks-k-eq-FREE : goal.returns-then-marks-k-eq-FREE
returns-then-marks-k-eq-FREE c = sym (one-at 0 c.from-k.result c.args.page c.args.mark c.args.marks.now (omega (arith, c.from-k.ensures)) c.if-k-marks.true
    (eq-eqb _ 46 c.if-marks-k-eq-FREE.true))

pub returns-else-k-marks : goal.returns-else-k-marks
returns-else-k-marks c = elim c.else-k-marks.branch [
  | else-k-marks-via-then-k-marks+else-marks-k-eq-FREE w ↦ sym (one-taken 0 c.from-k.result c.args.page c.args.mark c.args.marks.now
      (omega (arith, c.from-k.ensures)) w.if-k-marks.true (ne_eqb _ 46 w.if-marks-k-eq-FREE.false))
  | else-k-marks-via-else-k-marks w ↦ sym (one-off 0 c.args.page c.args.mark c.args.marks.now (omega (arith, w.if-k-marks.false, c.from-k.ensures)))
]
