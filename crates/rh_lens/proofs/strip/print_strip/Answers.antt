use Rattle.std.proofs.Common.{◌≤◌, ◌<◌, ◌++◌, length, ap, ◌∙◌, append_assoc, arith}
use Rattle.std.specs.List.{enumerate_from, flat_map}
use Rattle.std.proofs.lemmas.List.{drop_all}
use Rattle.rh_elements.specs.Tints.{tint_class}
use Rattle.rh_map.proofs.Left.{left_less, left_none}
use Rattle.rh_lens.specs.Strip.{strip_page_text, strip_piece_text}
use Rattle.rh_lens.proofs.LoopLemmas.{each-at, numbered-at, numbered-none}
use Rattle.rh_lens.proofs.strip.print_strip.Goals as goal

pub loop-k-preserved : goal.loop-k-preserved
loop-k-preserved g c =
    let low : c.loop-k.k < length c.args.pages.now = omega arith in
    left_less _ c.loop-k.invariant
    (numbered-at (strip_page_text c.args.start c.args.width (length c.args.pages.now) (tint_class c.args.tint)) c.args.pages.now c.loop-k.k 0 low)
    c.print_page.ensures

pub loop-piece-preserved : goal.loop-piece-preserved
loop-piece-preserved g c = left_less
    _ c.loop-piece.invariant
    (each-at (strip_piece_text c.args.width (length c.args.pages.now)) c.args.pieces.now c.loop-piece.piece-index _ c.loop-piece-test.true)
    c.print_mark.ensures

pub returns : goal.returns
returns g c =
    let page = strip_page_text c.args.start c.args.width (length c.args.pages.now) (tint_class c.args.tint) in
    let mark = strip_piece_text c.args.width (length c.args.pages.now) in
    let past : length c.args.pages.now ≤ c.loop-k.k = omega arith in
    let done : length c.args.pieces.now ≤ c.loop-piece.piece-index = omega arith in
    left_none c.loop-piece.invariant (ap (flat_map mark) (drop_all c.loop-piece.piece-index c.args.pieces.now done))
    ∙ (ap (λ z. z ++ flat_map mark c.args.pieces.now) (left_none c.loop-k.invariant (numbered-none page c.args.pages.now c.loop-k.k past))
    ∙ append_assoc (g.P.Pen.offered c.args.pen.now) (flat_map page (enumerate_from 0 c.args.pages.now)) (flat_map mark c.args.pieces.now))
