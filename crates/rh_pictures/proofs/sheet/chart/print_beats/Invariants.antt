use Rattle.rh_pictures.proofs.Common.{◌≡◌, ◌++◌, take, flat_map, beat_in}
use Rattle.rh_pictures.proofs.sheet.chart.print_beats.Given as goal

-- those before the place were offered
abbrev pub invariant-loop-step : goal.invariant-loop-step
invariant-loop-step g l =
    g.P.Pen.offered l.pen ≡ g.P.Pen.offered l.initial.pen ++ flat_map (beat_in l.chart) (take l.step-index l.chart.steps.now)
