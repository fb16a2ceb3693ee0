use Rattle.std.proofs.Common.{◌≡◌, ◌≤◌, ◌+◌, drop}
use Rattle.rh_lens.specs.LensArrows.{spot_of_block}
use Rattle.rh_lens.specs.Inner.Flows.{flow_spots}
use Rattle.rh_lens.specs.declared.sizes.TheConstants.{GAP, MOST_WIDTH}
use Rattle.rh_lens.proofs.bands.spot_of_block.Given as goal

-- the block is none of those so far
abbrev pub invariant-loop-piece : goal.invariant-loop-piece
invariant-loop-piece g l = record {
  value : spot_of_block l.anchor (flow_spots (g.C.Contents.item l.contents) l.flow (drop l.piece-index l.pieces))
      ≡ spot_of_block l.anchor (flow_spots (g.C.Contents.item l.contents) l.initial.flow l.pieces);
  room : l.flow.room ≡ l.room;
  scale : l.flow.scale ≡ l.scale;
  taken : l.flow.x ≤ MOST_WIDTH + GAP;
  rows : l.flow.row ≤ l.piece-index;
}
