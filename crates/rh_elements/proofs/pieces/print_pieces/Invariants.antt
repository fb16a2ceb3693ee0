use Rattle.rh_elements.proofs.Common.{◌≡◌, ◌++◌, take}
use Rattle.rh_sheet.specs.SheetPieces.{pieces_text}
use Rattle.rh_elements.specs.Tints.{tint_class}
use Rattle.rh_elements.proofs.pieces.print_pieces.Given as goal

-- the pieces so far were written
abbrev pub invariant-loop-piece : goal.invariant-loop-piece
invariant-loop-piece g l =
    g.P.Pen.offered l.pen
    ≡ g.P.Pen.offered l.initial.pen ++ pieces_text l.start (tint_class l.tint) l.y l.low l.k (take l.piece-index l.pieces)
