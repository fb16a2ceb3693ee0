use Rattle.rh_pictures.proofs.Common.{append_assoc, arrows_seen, offered_as}
use Rattle.rh_pictures.proofs.ChartLemmas.{chart-parts, ways-some}
use Rattle.rh_pictures.proofs.sheet.chart.print_whole.Goals as goal

pub returns : goal.returns
returns g c =
    let chart = c.args.chart.now in
    let whole = c.requires.whole in
    offered_as _
    (chart-parts (g.S.Sight.desk c.args.sight.now) (arrows_seen chart.ways.now) chart.tasks.now chart.steps.now chart.step whole.tasks whole.steps
    (ways-some chart.ways.now whole.some))
    (simp (
      c.foot-height.ensures.value,
      c.print_figure_open.ensures,
      c.print_sentences.ensures,
      c.print_described.ensures,
      c.print_chart_body.ensures,
      c.print_figure_end.ensures,
      append_assoc,
    ))
