use Rattle.rh_lines.proofs.PenLemmas.{first_more, first_few, first_counted, first_well}
use Rattle.rh_lines.proofs.writer_pen.put_front.Goals as goal

pub loop-count-preserved : goal.loop-count-preserved
loop-count-preserved g c = record {
  few = first_few c.args.bytes.now c.loop-count.count c.in-Ok.taken c.loop-count-test.true c.in-Ok.ensures.bound;
  taken = first_more _ _ _ c.args.bytes.now c.loop-count.count c.in-Ok.taken c.loop-count.invariant.taken c.in-Ok.ensures.taken;
  counted = first_counted _ _ _ c.args.bytes.now c.loop-count.count c.in-Ok.taken c.in-Ok.ensures.bound c.loop-count.invariant.counted
      c.in-Ok.ensures.counted;
  failed = first_well _ _ _ c.in-Ok.taken _ c.if-taken-gt0.true c.loop-count.invariant.failed c.in-Ok.ensures.failed;
}
