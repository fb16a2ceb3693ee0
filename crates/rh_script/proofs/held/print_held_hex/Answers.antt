use Rattle.rh_script.proofs.Common.{arith}
use Rattle.rh_script.proofs.PrintLemmas.{digits_more, no_digits}
use Rattle.rh_script.proofs.held.print_held_hex.Goals as goal

pub loop-offset-init : goal.loop-offset-init
loop-offset-init g c = record { within = omega arith; so_far = no_digits (g.P.Pen.offered c.args.pen.now) }

pub loop-offset-preserved : goal.loop-offset-preserved
loop-offset-preserved g c = record {
  within = omega arith;
  so_far = digits_more _ c.loop-offset.offset c.min-count.result (g.P.Pen.offered c.args.pen.now) _ _ c.loop-offset.invariant.so_far
      c.print_held_piece.ensures;
}
