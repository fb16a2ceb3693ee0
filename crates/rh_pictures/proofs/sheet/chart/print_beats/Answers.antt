use Rattle.rh_pictures.proofs.Common.{append-nil, append_assoc, beat_in, flat_map-append}
use Rattle.std.proofs.lemmas.List.{take_more}
use Rattle.rh_pictures.proofs.sheet.chart.print_beats.Goals as goal

pub loop-step-preserved : goal.loop-step-preserved
loop-step-preserved g c =
    let chart = c.args.chart.now in
    simp (
      take_more chart.steps.now c.loop-step.step-index 0 c.loop-step-test.true,
      flat_map-append (beat_in chart),
      c.loop-step.invariant,
      c.step_y.ensures.value,
      c.print_beat.ensures,
      append_assoc,
      append-nil,
    )
