use Rattle.rh_pictures.proofs.Common.{◌+◌, drop, ap, sym, ◌∙◌, arith, drop_more, length-drop, scene_at, is_fresh_card, with_items}
use Rattle.rh_pictures.proofs.walks.heap_cards.surveyed.Goals as goal

pub loop-item-preserved : goal.loop-item-preserved
loop-item-preserved c =
    let i = c.loop-item.item-index in
    let items = c.args.items.now in
    record {
      few = omega (arith, c.noted-survey.ensures.count, c.loop-item.invariant.few, length-drop i items, length-drop (i + 1) items, c.loop-item-test.true);
      survey = λ d step.
          let test = is_fresh_card (scene_at d c.args.step.now) c.args.band.now in
          ap (with_items test (drop (i + 1) items)) (c.noted-survey.ensures.survey d step)
          ∙ (ap (λ xs. with_items test xs c.loop-item.survey) (sym (drop_more items i _ c.loop-item-test.true)) ∙ c.loop-item.invariant.survey d step);
    }
