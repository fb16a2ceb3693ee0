use Rattle.rh_pictures.proofs.Common.{◌<◌, ap, sym, ◌∙◌, arith, length, steps_in, tasks_in, arrows_seen}
use Rattle.rh_pictures.proofs.ChartLemmas.{drawn-some}
use Rattle.rh_pictures.proofs.sheet.chart.print_chart.Goals as goal

pub print_whole-requires-clause-whole : goal.print_whole-requires-clause-whole
print_whole-requires-clause-whole g c =
    let some : 0 < length c.ways_of-ways.result.items =
    drawn-some c.ways_of-ways.result.items c.args.notes.now c.ways_of-ways.ensures (sym c.is_empty.ensures ∙ c.if-is_empty.false) in
    record {
      some = omega (arith, some, ap length c.deref-3.ensures.0);
      tasks = c.deref-4.ensures.0
          ∙ (c.tasks_in-tasks.ensures ∙ ap (λ ws. tasks_in (arrows_seen ws)) (c.deref.ensures.0 ∙ sym c.deref-3.ensures.0));
      steps = c.deref-5.ensures.0
          ∙ (c.steps_in-steps.ensures ∙ ap (λ ws. steps_in (arrows_seen ws)) (c.deref-2.ensures.0 ∙ sym c.deref-3.ensures.0));
    }
