use Rattle.rh_pictures.proofs.Common.{MessageArrow, false, path_in}
use Rattle.rh_defs.specs.declared.message.Action.TheVariants.{DataSave}
use Rattle.rh_sheet.specs.declared.note.Fate.TheVariants.{Queued}
use Rattle.rh_pictures.proofs.ChartLemmas.{one-more}
use Rattle.rh_pictures.proofs.sheet.chart.print_arrows.Goals as goal

pub loop-way-preserved : goal.loop-way-preserved
loop-way-preserved g c =
    let chart = c.args.chart.now in
    let none : MessageArrow = record {
      start = 0;
      stop = 0;
      from = 0;
      to = 0;
      my_ref = 0;
      action = DataSave;
      is_back = false;
      fate = Queued;
      wants_answer = false;
    } in
    one-more
    (path_in chart) chart.ways.now c.loop-way.way-index none _ _ _ c.loop-way-test.true c.loop-way.invariant c.print_arrow.ensures
