-- The lines of what is told of wrong words, from left to right.
use Rattle.std.proofs.Common.{◌≡◌, ℕ, zero, suc, ◌+◌, ◌-◌, ◌<◌, Bool, true, false, eqb, List, [], ◌∷◌, ◌++◌, length, take, drop, refl, sym, ◌∙◌, ap, arith}
use Rattle.std.proofs.lemmas.List.{drop-drop, take_rest}
use Rattle.std.specs.Prelude.{◌==◌, slice_index, slice_index_or}
use Rattle.rh_desk.specs.Hints.{is_left_out, onto_text, line_told, text_lines, told_lines}

-- no line feed stands below n
abbrev pub NoFeedBelow : List ℕ → ℕ → Type 0
NoFeedBelow xs n = (k : ℕ) → k < n → eqb (slice_index xs k) 10 ≡ true → ⊥

not_feed : (x : ℕ) (b : Bool) → eqb x 10 ≡ b → (eqb x 10 ≡ true → ⊥) → eqb x 10 ≡ false
not_feed x true e h = absurd (h e)
not_feed x false e h = e

-- the first line, where a line feed ends it
line-at : (xs : List ℕ) (n : ℕ) → n < length xs → NoFeedBelow xs n → eqb (slice_index xs n) 10 ≡ true
    → text_lines xs ≡ take n xs ∷ text_lines (drop (suc n) xs)
line-at [] n lt h e = absurd (omega arith)
line-at (x ∷ xs) zero lt h e = rw e refl
line-at (x ∷ xs) (suc n) lt h e =
    rw (not_feed x (eqb x 10) refl (h 0 (omega arith))) (ap (onto_text x) (line-at xs n (omega arith) (λ k below. h (suc k) (omega arith)) e))

-- a text without a line feed is a line
line-whole : (x : ℕ) (xs : List ℕ) → NoFeedBelow (x ∷ xs) (length (x ∷ xs)) → text_lines (x ∷ xs) ≡ (x ∷ xs) ∷ []
line-whole x [] h = rw (not_feed x (eqb x 10) refl (h 0 (omega arith))) refl
line-whole x (y ∷ ys) h =
    rw (not_feed x (eqb x 10) refl (h 0 (omega arith))) (ap (onto_text x) (line-whole y ys (λ k below. h (suc k) (omega arith))))

-- what stands behind a byte, cut off in two steps
tail-is : (xs : List ℕ) (end : ℕ)
    → take (length (take (length xs - end) (drop end xs)) - 1) (drop 1 (take (length xs - end) (drop end xs))) ≡ drop (suc end) xs
tail-is xs end =
    let e : end + 1 ≡ suc end = omega arith in
    take_rest (take (length xs - end) (drop end xs)) 1 ∙ (ap (drop 1) (take_rest xs end) ∙ (drop-drop 1 end xs ∙ ap (λ k. drop k xs) e))

module _ (xs : List ℕ) (n : ℕ) (lt : n < length xs) (none : NoFeedBelow xs n) (at : eqb (slice_index xs n) 10 ≡ true) where
  pub first-ended : take n xs ≡ slice_index_or (text_lines xs) 0 []
  first-ended = sym (ap (λ ls. slice_index_or ls 0 []) (line-at xs n lt none at))

  pub behind-ended : text_lines (take (length (take (length xs - n) (drop n xs)) - 1) (drop 1 (take (length xs - n) (drop n xs)))) ≡ drop 1 (text_lines xs)
  behind-ended = ap text_lines (tail-is xs n) ∙ sym (ap (drop 1) (line-at xs n lt none at))

pub first-whole : (xs : List ℕ) → NoFeedBelow xs (length xs) → xs ≡ slice_index_or (text_lines xs) 0 []
first-whole [] none = refl
first-whole (x ∷ xs) none = sym (ap (λ ls. slice_index_or ls 0 []) (line-whole x xs none))

pub behind-whole : (xs : List ℕ) → NoFeedBelow xs (length xs) → [] ≡ drop 1 (text_lines xs)
behind-whole [] none = refl
behind-whole (x ∷ xs) none = sym (ap (drop 1) (line-whole x xs none))

-- ---- lines as they are told

pub some-bytes : (xs : List ℕ) → (length xs == 0) ≡ false → 0 < length xs
some-bytes [] e = absurd (let no = e in cc)
some-bytes (x ∷ xs) e = omega arith

onto-some : (x : ℕ) (ls : List (List ℕ)) → onto_text x ls ≡ slice_index_or (onto_text x ls) 0 [] ∷ drop 1 (onto_text x ls)
onto-some x [] = refl
onto-some x (l ∷ ls) = refl

some-by : (b : Bool) (x : ℕ) (xs : List ℕ) → eqb x 10 ≡ b → text_lines (x ∷ xs) ≡ slice_index_or (text_lines (x ∷ xs)) 0 [] ∷ drop 1 (text_lines (x ∷ xs))
some-by true x xs e = rw e refl
some-by false x xs e = rw e (onto-some x (text_lines xs))

-- a text with bytes has a first line
some-lines : (xs : List ℕ) → 0 < length xs → text_lines xs ≡ slice_index_or (text_lines xs) 0 [] ∷ drop 1 (text_lines xs)
some-lines [] some = absurd (omega arith)
some-lines (x ∷ xs) some = some-by (eqb x 10) x xs refl

module _ (for_script was_empty : Bool) (xs line behind : List ℕ) (some : 0 < length xs) (first : line ≡ slice_index_or (text_lines xs) 0 [])
    (others : text_lines behind ≡ drop 1 (text_lines xs)) where
  parted : text_lines xs ≡ line ∷ text_lines behind
  parted = some-lines xs some ∙ (ap (λ l. l ∷ drop 1 (text_lines xs)) (sym first) ∙ ap (λ ls. line ∷ ls) (sym others))

  pub line-skipped : is_left_out for_script was_empty line ≡ true
      → told_lines for_script was_empty (text_lines xs) ≡ told_lines for_script was_empty (text_lines behind)
  line-skipped out = ap (told_lines for_script was_empty) parted ∙ rw out refl

  pub line-stays : is_left_out for_script was_empty line ≡ false
      → told_lines for_script was_empty (text_lines xs) ≡ line_told line ++ told_lines for_script (length line == 0) (text_lines behind)
  line-stays stays = ap (told_lines for_script was_empty) parted ∙ rw stays refl
