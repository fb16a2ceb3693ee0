use Rattle.std.proofs.Common.{◌≡◌, ◌++◌, drop}
use Rattle.rh_figure.specs.declared.piece.Piece.{Piece}
use Rattle.rh_lens.specs.Items.{Item}
use Rattle.rh_lens.specs.Inner.Flows.{sentences_left}
use Rattle.rh_lens.proofs.bands.put_sentences.Given as goal

-- the pieces from the index on are left
abbrev pub invariant-loop-piece : goal.invariant-loop-piece
invariant-loop-piece g l = (item : Piece → Item) → ((p : Piece) → (item p).piece ≡ p)
    → g.P.Pen.offered l.pen ++ sentences_left l.start item (drop l.piece-index l.pieces)
    ≡ g.P.Pen.offered l.initial.pen ++ sentences_left l.start item l.pieces
