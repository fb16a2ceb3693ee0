-- One word of a line, found from left to right.
use Rattle.std.proofs.Common.{◌≡◌, ℕ, suc, ◌+◌, ◌-◌, ◌<◌, ◌≤◌, true, false, eqb, List, [], ◌∷◌, ◌++◌, length, take, drop, refl, sym, ◌∙◌}
use Rattle.std.proofs.Common.{ap, arith, rules, length-drop, unwrap_or}
use Rattle.std.proofs.lemmas.List.{drop-drop, take_rest}
use borrow.Author.Tests.{tests}
use Rattle.std.specs.Prelude.{slice_get, slice_index}
use Rattle.rh_defs.specs.Bytes.{space}
use Rattle.rh_defs.specs.Line.{nth_word, words_of}
use Rattle.rh_lines.specs.Inner.PieceWords.{piece_words}
use Rattle.rh_lines.proofs.SplitLemmas.{words_last, words_next}

not_none : (n : ℕ) → 0 < n → eqb n 0 ≡ false
not_none n h = search (rules, tests)

-- a piece with bytes is a word
one_word : (x : ℕ) (xs : List ℕ) → piece_words (x ∷ xs) ≡ (x ∷ xs) ∷ []
one_word x xs = rw (not_none (length (x ∷ xs)) (omega arith)) refl

-- the first of some words, and the others
nth_first : (w : List ℕ) (ws : List (List ℕ)) → nth_word (w ∷ ws) 1 ≡ w
nth_first w ws = refl

nth_later : (w : List ℕ) (ws : List (List ℕ)) (n : ℕ) → 2 ≤ n → nth_word (w ∷ ws) n ≡ nth_word ws (n - 1)
nth_later w ws n h =
    let e : n - 1 ≡ suc ((n - 1) - 1) = omega arith in
    ap (λ k. unwrap_or (slice_get (w ∷ ws) k) []) e

-- the words of a last piece
last_first : (xs : List ℕ) → nth_word (piece_words xs) 1 ≡ xs
last_first [] = refl
last_first (x ∷ xs) = rw (one_word x xs) refl

last_later : (xs : List ℕ) (n : ℕ) → 2 ≤ n → nth_word (piece_words xs) n ≡ []
last_later [] n h = refl
last_later (x ∷ xs) n h = rw (one_word x xs) (nth_later (x ∷ xs) [] n h)

-- a front that some words follow
front_first : (front : List ℕ) (ws : List (List ℕ)) → eqb (length front) 0 ≡ false → nth_word (piece_words front ++ ws) 1 ≡ front
front_first [] ws h = absurd (let no = h in cc)
front_first (x ∷ xs) ws h = rw (one_word x xs) refl

front_later : (front : List ℕ) (ws : List (List ℕ)) (n : ℕ) → eqb (length front) 0 ≡ false → 2 ≤ n → nth_word (piece_words front ++ ws) n ≡ nth_word ws (n - 1)
front_later [] ws n h more = absurd (let no = h in cc)
front_later (x ∷ xs) ws n h more = rw (one_word x xs) (nth_later (x ∷ xs) ws n more)

front_none : (front : List ℕ) (ws : List (List ℕ)) (n : ℕ) → eqb (length front) 0 ≡ true → nth_word (piece_words front ++ ws) n ≡ nth_word ws n
front_none [] ws n h = refl
front_none (x ∷ xs) ws n h = absurd (let no = not_none (length (x ∷ xs)) (omega arith) in cc)

-- ---- a line with no space

module _ (xs : List ℕ) (none : (k : ℕ) → k < length xs → eqb (slice_index xs k) space ≡ true → ⊥) where
  pub word_last : nth_word (words_of xs) 1 ≡ xs
  word_last = ap (λ ws. nth_word ws 1) (words_last xs none) ∙ last_first xs

  pub word_past : (n : ℕ) → 2 ≤ n → nth_word (words_of xs) n ≡ []
  word_past n h = ap (λ ws. nth_word ws n) (words_last xs none) ∙ last_later xs n h

-- ---- a line with a first space

-- what stands behind a byte, cut off in two steps
abbrev pub tail : List ℕ → ℕ → List ℕ
tail xs end =
    let ys : List ℕ = take (length xs - end) (drop end xs) in
    take (length ys - 1) (drop 1 ys)

tail_is : (xs : List ℕ) (end : ℕ) → tail xs end ≡ drop (suc end) xs
tail_is xs end =
    let e : end + 1 ≡ suc end = omega arith in
    take_rest (take (length xs - end) (drop end xs)) 1 ∙ (ap (drop 1) (take_rest xs end) ∙ (drop-drop 1 end xs ∙ ap (λ k. drop k xs) e))

-- less is left
pub tail_less : (xs : List ℕ) (end : ℕ) → end < length xs → length (tail xs end) < length xs
tail_less xs end lt = rw (tail_is xs end, length-drop (suc end) xs) (omega arith)

module _ (xs : List ℕ) (end : ℕ) (lt : end < length xs) (none : (k : ℕ) → k < end → eqb (slice_index xs k) space ≡ true → ⊥)
    (at : eqb (slice_index xs end) space ≡ true) where
  next : words_of xs ≡ piece_words (take end xs) ++ words_of (drop (suc end) xs)
  next = words_next xs end lt none at

  behind : drop (suc end) xs ≡ tail xs end
  behind = sym (tail_is xs end)

  pub word_here : eqb (length (take end xs)) 0 ≡ false → nth_word (words_of xs) 1 ≡ take end xs
  word_here some = ap (λ ws. nth_word ws 1) next ∙ front_first (take end xs) _ some

  pub word_later : eqb (length (take end xs)) 0 ≡ false → (n : ℕ) → 2 ≤ n
      → nth_word (words_of xs) n ≡ nth_word (words_of (tail xs end)) (n - 1)
  word_later some n h =
      ap (λ ws. nth_word ws n) next ∙ (front_later (take end xs) (words_of (drop (suc end) xs)) n some h
      ∙ ap (λ ys. nth_word (words_of ys) (n - 1)) behind)

  pub word_none : eqb (length (take end xs)) 0 ≡ true → (n : ℕ)
      → nth_word (words_of xs) n ≡ nth_word (words_of (tail xs end)) n
  word_none empty n =
      ap (λ ws. nth_word ws n) next ∙ (front_none (take end xs) (words_of (drop (suc end) xs)) n empty
      ∙ ap (λ ys. nth_word (words_of ys) n) behind)
