use Rattle.rh_pictures.proofs.Common.{◌≡◌, ◌+◌, drop, length, Desk, is_fresh_card, with_items, scene_at}
use Rattle.rh_scene.specs.Steps.{IsStepOf}
use Rattle.rh_pictures.proofs.walks.heap_cards.surveyed.Given as goal

-- the segments from the place on are left
abbrev pub invariant-loop-item : goal.invariant-loop-item
invariant-loop-item l = record {
  few : l.survey.count + length (drop l.item-index l.items) ≡ l.initial.survey.count + length l.items;
  survey : (d : Desk) → IsStepOf d l.step →
      with_items (is_fresh_card (scene_at d l.step) l.band) (drop l.item-index l.items) l.survey
      ≡ with_items (is_fresh_card (scene_at d l.step) l.band) l.items l.initial.survey;
}
