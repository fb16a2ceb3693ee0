use Rattle.rh_pictures.proofs.Common.{◌≡◌, ◌++◌, take, flat_map}
use Rattle.rh_pictures.specs.Inner.Charts.{life_in}
use Rattle.rh_pictures.proofs.sheet.chart.print_lives.Given as goal

-- those before the place were offered
abbrev pub invariant-loop-task : goal.invariant-loop-task
invariant-loop-task g l =
    g.P.Pen.offered l.pen
    ≡ g.P.Pen.offered l.initial.pen ++ flat_map (life_in (g.S.Sight.desk l.sight) l.chart) (take l.task-index l.chart.tasks.now)
