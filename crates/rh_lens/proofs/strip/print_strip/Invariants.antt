use Rattle.std.proofs.Common.{length, drop}
use Rattle.std.specs.List.{enumerate_from, flat_map}
use Rattle.rh_elements.specs.Tints.{tint_class}
use Rattle.rh_map.proofs.Left.{Left}
use Rattle.rh_lens.specs.Strip.{strip_page_text, strip_piece_text}
use Rattle.rh_lens.proofs.strip.print_strip.Given as goal

-- the pages from this one on are left
abbrev pub invariant-loop-k : goal.invariant-loop-k
invariant-loop-k g l =
    let text = flat_map (strip_page_text l.start l.width (length l.pages) (tint_class l.tint)) in
    Left (g.P.Pen.offered l.initial.pen) (g.P.Pen.offered l.pen) (text (enumerate_from 0 l.pages))
    (text (enumerate_from l.k (drop l.k l.pages)))

-- the pieces from this one on are left
abbrev pub invariant-loop-piece : goal.invariant-loop-piece
invariant-loop-piece g l =
    let text = flat_map (strip_piece_text l.width (length l.pages)) in
    Left (g.P.Pen.offered l.initial.pen) (g.P.Pen.offered l.pen) (text l.pieces) (text (drop l.piece-index l.pieces))
