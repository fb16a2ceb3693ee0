use Rattle.std.proofs.Common.{◌≡◌, ◌≤◌, ◌+◌, ◌++◌, drop}
use Rattle.rh_lens.specs.Inner.Flows.{flow_spots, band_rest}
use Rattle.rh_lens.specs.declared.sizes.TheConstants.{GAP, MOST_WIDTH}
use Rattle.rh_lens.proofs.bands.print_band.Given as goal

-- the parts of the pieces from the index on are left
abbrev pub invariant-loop-piece : goal.invariant-loop-piece
invariant-loop-piece g l = record {
  text : g.P.Pen.offered l.pen
      ++ band_rest l.band (flow_spots (g.C.Contents.item l.contents) l.flow (drop l.piece-index l.pieces))
      ≡ g.P.Pen.offered l.initial.pen
      ++ band_rest l.band (flow_spots (g.C.Contents.item l.contents) l.initial.flow l.pieces);
  room : l.flow.room ≡ l.band.room;
  scale : l.flow.scale ≡ l.band.scale;
  taken : l.flow.x ≤ MOST_WIDTH + GAP;
  rows : l.flow.row ≤ l.piece-index;
}
