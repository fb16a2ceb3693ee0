use Rattle.std.proofs.Common.{◌≡◌, ◌+◌, ◌*◌, drop}
use Rattle.rh_lens.specs.LensParts.{cells_text}
use Rattle.rh_lens.specs.declared.sizes.TheConstants.{BYTE}
use Rattle.rh_map.proofs.Left.{Left}
use Rattle.rh_lens.proofs.parts.print_cells.Given as goal

-- the cells of the bytes from the index on are left
abbrev pub invariant-loop-byte : goal.invariant-loop-byte
invariant-loop-byte g l = record {
  text : Left (g.P.Pen.offered l.initial.pen) (g.P.Pen.offered l.pen) (cells_text l.x l.y l.bytes)
      (cells_text l.at l.y (drop l.byte-index l.bytes));
  at : l.at ≡ l.x + BYTE * l.byte-index;
}
