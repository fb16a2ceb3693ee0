use Rattle.rh_scene.proofs.Common.{◌≡◌, ◌+◌, ◌++◌, length, drop, total, Desk, scene_at, item_pieces, item_weight}
use Rattle.rh_scene.proofs.pieces.push_blocks.Given as goal

-- the blocks from the index on are left
abbrev pub invariant-loop-block : goal.invariant-loop-block
invariant-loop-block l = record {
  pieces : (d : Desk) →
      l.pieces.items ++ item_pieces (scene_at d l.step) l.handle l.end (drop l.block-index l.blocks)
      ≡ l.initial.pieces.items ++ item_pieces (scene_at d l.step) l.handle l.at l.blocks;
  end : l.end + total item_weight (drop l.block-index l.blocks) ≡ l.at + total item_weight l.blocks;
  few : length l.pieces.items ≡ length l.initial.pieces.items + l.block-index;
}
