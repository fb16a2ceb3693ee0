-- Lists that are shown or looked through, place by place.
use Rattle.rh_pictures.proofs.Common.{◌≡◌, ℕ, ◌+◌, ◌<◌, ap, sym, ◌∙◌, List, [], ◌∷◌, ◌++◌, length, drop, Some, None, append_assoc, append-nil, codes}
use Rattle.rh_pictures.proofs.Common.{offered_as, ◌-◌, arith, slice_get, slice_get_within, flat_map, Text, map, shown_lines, shown-append, rest-none, rest-some}
use Rattle.rh_figure.specs.Map.{shown_line}
use Rattle.rh_map.proofs.SeamLemmas.{shown-one}
use Rattle.std.proofs.lemmas.List.Folds.{flat_map-map}

-- a walk by place goes on
pub walk-less : {A : Type 0} (xs : List A) (i : ℕ) (x : A) → slice_get xs i ≡ Some x → length xs - (i + 1) < length xs - i
walk-less xs i x e = let inside : i < length xs = slice_get_within xs i x e in omega arith

-- ---- what is found first

-- a walk that is at a member, which it leaves or takes, or at the end
module _ {A B : Type 0} (first : List A → B) (xs : List A) (i : ℕ) (so_far : first (drop i xs) ≡ first xs) where
  pub walk-on : (x : A) → slice_get xs i ≡ Some x → first (x ∷ drop (i + 1) xs) ≡ first (drop (i + 1) xs) → first (drop (i + 1) xs) ≡ first xs
  walk-on x e past = sym past ∙ (ap first (sym (rest-some xs i x e)) ∙ so_far)

  pub walk-to : (x : A) (y : B) → slice_get xs i ≡ Some x → first (x ∷ drop (i + 1) xs) ≡ y → y ≡ first xs
  walk-to x y e found = sym found ∙ (ap first (sym (rest-some xs i x e)) ∙ so_far)

  pub walk-off : (y : B) → slice_get xs i ≡ None → first [] ≡ y → y ≡ first xs
  walk-off y e found = sym found ∙ (ap first (sym (rest-none xs i e)) ∙ so_far)

-- ---- lines that are shown thing by thing

pub shown-each : {A : Type 0} (line : A → Text) (xs : List A) → flat_map (λ x. shown_line (line x) ++ codes "\n") xs ≡ shown_lines (map line xs)
shown-each line xs = sym (flat_map-map (λ l. shown_line l ++ codes "\n") line xs)

-- ---- what a pen is offered

-- a single line, and lines behind lines
pub offered_line : {new : List ℕ} {x y : Text} (old : List ℕ) → x ≡ y → new ≡ old ++ (shown_line x ++ codes "\n") → new ≡ old ++ shown_lines (y ∷ [])
offered_line {y = y} old e p = offered_as old (ap (λ l. shown_line l ++ codes "\n") e ∙ sym (shown-one y)) p

pub lines_then : {mid new : List ℕ} (old : List ℕ) (xs ys : List Text) → mid ≡ old ++ shown_lines xs → new ≡ mid ++ shown_lines ys
    → new ≡ old ++ shown_lines (xs ++ ys)
lines_then old xs ys p q =
    q ∙ (ap (λ z. z ++ shown_lines ys) p
    ∙ (append_assoc old (shown_lines xs) (shown_lines ys) ∙ ap (λ z. old ++ z) (sym (shown-append xs ys))))

-- ---- lines that are shown one after the other

-- of the lines some were offered, and the rest is left
pub record Left (old new : List ℕ) (whole rest : List Text) : Type 0 where
  pub is : new ++ shown_lines rest ≡ old ++ shown_lines whole

-- none was offered yet
pub left_whole : {whole rest : List Text} (old : List ℕ) → whole ≡ rest → Left old old whole rest
left_whole old e = record { is = ap (λ z. old ++ shown_lines z) (sym e) }

-- some more were offered
pub left_less : {s t u : List ℕ} {whole rest behind : List Text} (part : List Text) → Left s t whole rest → rest ≡ part ++ behind
    → u ≡ t ++ shown_lines part → Left s u whole behind
left_less {t = t} {behind = behind} part p e q = record {
  is = ap (λ z. z ++ shown_lines behind) q
      ∙ (append_assoc t (shown_lines part) (shown_lines behind)
      ∙ (ap (λ z. t ++ z) (sym (shown-append part behind) ∙ ap shown_lines (sym e)) ∙ p.is));
}

-- the last of them were, or none is left
pub left_last : {s t u : List ℕ} {whole rest : List Text} → Left s t whole rest → u ≡ t ++ shown_lines rest → u ≡ s ++ shown_lines whole
left_last p q = q ∙ p.is

pub left_none : {s t : List ℕ} {whole rest : List Text} → Left s t whole rest → rest ≡ [] → t ≡ s ++ shown_lines whole
left_none {t = t} p e = left_last p (sym (ap (λ z. t ++ shown_lines z) e ∙ append-nil t))
