use Rattle.std.proofs.Common.{◌≡◌, ◌≤◌, ◌+◌, drop}
use Rattle.rh_lens.specs.LensSpots.{rows_behind}
use Rattle.rh_lens.specs.Inner.Flows.{flow_spots}
use Rattle.rh_lens.specs.declared.sizes.TheConstants.{GAP, MOST_WIDTH}
use Rattle.rh_lens.proofs.bands.count_rows.Given as goal

-- the rows of the pieces from the index on are left
abbrev pub invariant-loop-piece : goal.invariant-loop-piece
invariant-loop-piece g l = record {
  value : rows_behind l.rows (flow_spots (g.C.Contents.item l.contents) l.flow (drop l.piece-index l.pieces))
      ≡ rows_behind 0 (flow_spots (g.C.Contents.item l.contents) l.initial.flow l.pieces);
  room : l.flow.room ≡ l.room;
  scale : l.flow.scale ≡ l.scale;
  taken : l.flow.x ≤ MOST_WIDTH + GAP;
  rows : l.flow.row ≤ l.piece-index;
  few : l.rows ≤ l.piece-index + 1;
}
