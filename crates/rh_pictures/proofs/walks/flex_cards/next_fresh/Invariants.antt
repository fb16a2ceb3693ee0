use Rattle.rh_pictures.proofs.Common.{◌≡◌, Desk, BlockItem, place_behind, is_fresh_flex, scene_at}
use Rattle.rh_pictures.proofs.walks.flex_cards.next_fresh.Given as goal

-- none so far has changed
abbrev pub invariant-loop-k : goal.invariant-loop-k
invariant-loop-k l =
    (d : Desk) →
    let test = λ (b : BlockItem). is_fresh_flex (scene_at d l.step) l.task.handle b.anchor b.size in
    place_behind test l.k l.blocks ≡ place_behind test l.from l.blocks
