use Rattle.std.proofs.Common.{ℕ, ◌≤◌, ◌<◌, ◌≡◌, ◌++◌, List, [], ◌∷◌, ap, arith, false, length, refl, sym, true, ◌∙◌}
use Rattle.std.specs.Prelude.{◌==◌}
use Rattle.std.proofs.lemmas.Bool.Decides.{nat_tests}
use Rattle.std.specs.List.{enumerate_from, flat_map}
use Rattle.rh_map.proofs.Left.{left_less, left_none}
use Rattle.rh_lens.specs.Anchors.{ShownAnchor, no_anchor_choices}
use Rattle.rh_lens.specs.Lens.{anchor_text, anchors_text}
use Rattle.rh_lens.proofs.LoopLemmas.{numbered-at, numbered-none}
use Rattle.rh_lens.proofs.anchors.print_anchors.Goals as goal

none-at-all : (n : ℕ) → (n == 0) ≡ true → n ≡ 0
none-at-all n e = grind (arith, nat_tests)

one-at-least : (n : ℕ) → (n == 0) ≡ false → 0 < n
one-at-least n e = grind (arith, nat_tests)

anchors-none : (top : ℕ) (anchors : List ShownAnchor) → length anchors ≡ 0 → anchors_text top [] ≡ anchors_text top anchors
anchors-none top [] e = refl
anchors-none top (a ∷ anchors) e = absurd (omega (arith, e))

anchors-some : (top : ℕ) (anchors : List ShownAnchor) → 0 < length anchors
    → flat_map (anchor_text top (length anchors)) (enumerate_from 0 anchors) ≡ anchors_text top anchors
anchors-some top [] some = absurd (omega (arith, some))
anchors-some top (a ∷ anchors) some = refl

pub returns-then-is_empty : goal.returns-then-is_empty
returns-then-is_empty g c =
    c.print_place.ensures no_anchor_choices c.fixed_words-words.ensures
    ∙ ap (λ z. g.P.Pen.offered c.args.pen.now ++ z) (anchors-none c.args.top c.args.anchors.now
    (none-at-all (length c.args.anchors.now) (sym c.is_empty.ensures ∙ c.if-is_empty.true)))

pub loop-i-preserved : goal.loop-i-preserved
loop-i-preserved g c =
    let low : c.loop-i.i < length c.args.anchors.now = omega arith in
    left_less _ c.loop-i.invariant
    (numbered-at (anchor_text c.args.top (length c.args.anchors.now)) c.args.anchors.now c.loop-i.i _ low)
    c.print_anchor.ensures

pub returns : goal.returns
returns g c =
    let past : length c.args.anchors.now ≤ c.loop-i.i = omega arith in
    left_none c.loop-i.invariant
    (numbered-none (anchor_text c.args.top (length c.args.anchors.now)) c.args.anchors.now c.loop-i.i past)
    ∙ ap (λ z. g.P.Pen.offered c.args.pen.now ++ z) (anchors-some c.args.top c.args.anchors.now
    (one-at-least (length c.args.anchors.now) (sym c.is_empty.ensures ∙ c.if-is_empty.false)))
