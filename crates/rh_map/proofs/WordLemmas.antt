-- The first word of a line.
use Rattle.rh_map.proofs.Common.{◌≡◌, ℕ, zero, suc, ◌<◌, ◌≤◌, true, eqb, List, [], ◌∷◌, ◌++◌, length, take, drop, refl, sym, ap, ◌∙◌}
use Rattle.rh_map.proofs.Common.{arith, slice_index, ◌==◌, nat_tests, eqb_apart}
use Rattle.rh_defs.specs.Bytes.{space}
use Rattle.rh_defs.specs.Line.{words_of, nth_word}
use Rattle.rh_lines.specs.Inner.PieceWords.{piece_words}
use Rattle.rh_lines.proofs.SplitLemmas.{words_last, words_next}
use Rattle.rh_map.specs.Inner.MapScript.{BeginsWord}

-- what stands between two spaces is a word, if it isn't empty
piece-some : (b : ℕ) (bs : List ℕ) → piece_words (b ∷ bs) ≡ (b ∷ bs) ∷ []
piece-some b bs = rw (eqb_apart (length (b ∷ bs)) 0 (λ z. omega (arith, z))) refl

-- the words of a line whose first word is known
pub record FirstWord (line w : List ℕ) : Type 0 where
  pub is : w ≡ nth_word (words_of line) 1
  pub none : (length w == 0) ≡ (length (words_of line) == 0)

first-of : (line : List ℕ) (b : ℕ) (bs : List ℕ) (ws : List (List ℕ)) → words_of line ≡ (b ∷ bs) ∷ ws
    → FirstWord line (b ∷ bs)
first-of line b bs ws e = record {
  is = sym (ap (λ words. nth_word words 1) e);
  none = eqb_apart (suc (length bs)) 0 (λ z. omega (arith, z))
      ∙ sym (ap (λ words. length words == 0) e ∙ eqb_apart (suc (length ws)) 0 (λ z. omega (arith, z)));
}

-- no space stands in the line
pub first-whole : (line : List ℕ) → BeginsWord line
    → ((k : ℕ) → 0 ≤ k → k < length line → eqb (slice_index line k) space ≡ true → ⊥) → FirstWord line line
first-whole [] begins none = record { is = refl; none = refl }
first-whole (b ∷ bs) begins none =
    first-of (b ∷ bs) b bs [] (words_last (b ∷ bs) (λ k lt. none k (omega arith) lt) ∙ piece-some b bs)

-- the word before the first space
pub first-cut : (line : List ℕ) (n : ℕ) → BeginsWord line → n < length line
    → ((k : ℕ) → 0 ≤ k → k < n → eqb (slice_index line k) space ≡ true → ⊥) → eqb (slice_index line n) space ≡ true
    → FirstWord line (take n line)
first-cut [] n begins lt none e = absurd (omega (arith, lt))
first-cut (b ∷ bs) zero begins lt none e = absurd (begins (equal e))
  where
    equal : eqb b space ≡ true → b ≡ space
    equal e = grind (arith, nat_tests)
first-cut (b ∷ bs) (suc n) begins lt none e =
    first-of (b ∷ bs) b (take n bs) (words_of (drop (suc n) bs))
    (words_next (b ∷ bs) (suc n) lt (λ k less. none k (omega arith) less) e
    ∙ ap (λ ws. ws ++ words_of (drop (suc n) bs)) (piece-some b (take n bs)))
