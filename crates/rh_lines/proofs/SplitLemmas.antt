-- A line is cut at its spaces, from left to right.
use Rattle.std.proofs.Common.{◌≡◌, ℕ, zero, suc, ◌+◌, ◌<◌, ◌≤◌, Bool, true, false, not, eqb, List, [], ◌∷◌, ◌++◌, length, take, drop, add-one, refl, sym, ◌∙◌}
use Rattle.std.proofs.Common.{ap, arith, rules, lit≤, append_assoc, map, length-append, ◌-◌}
use Rattle.std.proofs.lemmas.List.{take_all, take-append-le, take_rest, length-map}
use Rattle.std.proofs.Common.{inl, inr, subst}
use Rattle.std.proofs.lemmas.Bool.{cases_lt}
use Rattle.memchr.specs.Find.{Nowhere}
use borrow.Author.Tests.{tests}
use Rattle.std.specs.List.{slice_split, onto_first, filter}
use Rattle.std.specs.Prelude.{slice_index}
use Rattle.rh_defs.specs.Bytes.{space}
use Rattle.rh_defs.specs.Line.{words_of}
use Rattle.rh_lines.specs.Words.{first_words}
use Rattle.rh_lines.specs.Inner.PieceWords.{piece_words}

-- no element below n passes
abbrev NoneBelow : (ℕ → Bool) → List ℕ → ℕ → Type 0
NoneBelow p xs n = (k : ℕ) → k < n → p (slice_index xs k) ≡ true → ⊥

no_first : (p : ℕ → Bool) (x : ℕ) (xs : List ℕ) (b : Bool) → p x ≡ b → (p x ≡ true → ⊥) → slice_split p (x ∷ xs) ≡ onto_first x (slice_split p xs)
no_first p x xs true e h = absurd (h e)
no_first p x xs false e h = rw e refl

split_none : (p : ℕ → Bool) (xs : List ℕ) → NoneBelow p xs (length xs) → slice_split p xs ≡ xs ∷ []
split_none p [] h = refl
split_none p (x ∷ xs) h =
    no_first p x xs (p x) refl (h 0 (omega arith)) ∙ ap (onto_first x) (split_none p xs (λ k lt. h (suc k) (omega arith)))

split_at : (p : ℕ → Bool) (xs : List ℕ) (n : ℕ) → n < length xs → NoneBelow p xs n → p (slice_index xs n) ≡ true
    → slice_split p xs ≡ take n xs ∷ slice_split p (drop (suc n) xs)
split_at p [] n lt h e = absurd (omega arith)
split_at p (x ∷ xs) zero lt h e = rw e refl
split_at p (x ∷ xs) (suc n) lt h e =
    no_first p x xs (p x) refl (h 0 (omega arith)) ∙ ap (onto_first x) (split_at p xs n (omega arith) (λ k lt. h (suc k) (omega arith)) e)

-- one more place without
pub none_more : (P : ℕ → Type 0) (i : ℕ) → Nowhere P 0 i → (P i → ⊥) → Nowhere P 0 (i + 1)
none_more P i none here k low high = elim (cases_lt k i) [
  | inl l ↦ none k low l
  | inr g ↦ let is : i ≡ k = omega arith in subst (λ j. P j → ⊥) is here
]

-- the last word, behind the last space
pub words_last : (xs : List ℕ) → NoneBelow (λ b. eqb b space) xs (length xs) → words_of xs ≡ piece_words xs
words_last xs h = ap (filter (λ w. not (eqb (length w) 0))) (split_none (λ b. eqb b space) xs h)

filter_first : (q : List ℕ → Bool) (w : List ℕ) (ws : List (List ℕ)) (b : Bool) → q w ≡ b → filter q (w ∷ ws) ≡ filter q (w ∷ []) ++ filter q ws
filter_first q w ws true e = rw e refl
filter_first q w ws false e = rw e refl

-- what stands before the first space, and the rest behind it
pub words_next : (xs : List ℕ) (n : ℕ) → n < length xs → NoneBelow (λ b. eqb b space) xs n → eqb (slice_index xs n) space ≡ true
    → words_of xs ≡ piece_words (take n xs) ++ words_of (drop (suc n) xs)
words_next xs n lt h e =
    ap (filter (λ w. not (eqb (length w) 0))) (split_at (λ b. eqb b space) xs n lt h e)
    ∙ filter_first (λ w. not (eqb (length w) 0)) (take n xs) (slice_split (λ b. eqb b space) (drop (suc n) xs)) _ refl

-- ---- the words found so far

one_at_most : (q : List ℕ → Bool) (w : List ℕ) (b : Bool) → q w ≡ b → length (filter q (w ∷ [])) ≤ 1
one_at_most q w true e = rw e (lit≤ tt)
one_at_most q w false e = rw e (lit≤ tt)

short_piece : (piece : List ℕ) → length (piece_words piece) ≤ 1
short_piece piece = one_at_most (λ w. not (eqb (length w) 0)) piece _ refl

-- the rest is the last piece
pub found_last : {X : Type 0} (f : X → List ℕ) (line rest : List ℕ) (old new : List X) → words_of line ≡ map f old ++ words_of rest → length old < 8
    → NoneBelow (λ b. eqb b space) rest (length rest) → map f new ≡ map f old ++ piece_words rest → map f new ≡ first_words line
unfolding first_words
found_last f line rest old new so_far room none e =
    let all : words_of line ≡ map f new = so_far ∙ (ap (λ z. map f old ++ z) (words_last rest none) ∙ sym e) in
    let short : length (map f new) ≤ 8 =
    simp (e, length-append, length-map) (omega (arith, short_piece rest)) in
    sym (ap (take 8) all ∙ take_all 8 (map f new) short)

-- one more piece, where there is room for another
pub found_next : {X : Type 0} (f : X → List ℕ) (line rest : List ℕ) (n : ℕ) (old new : List X) → words_of line ≡ map f old ++ words_of rest → n < length rest
    → NoneBelow (λ b. eqb b space) rest n → eqb (slice_index rest n) space ≡ true → map f new ≡ map f old ++ piece_words (take n rest)
    → words_of line ≡ map f new ++ words_of (take (length rest - (n + 1)) (drop (n + 1) rest))
found_next f line rest n old new so_far lt none e same =
    let whole : take (length rest - (n + 1)) (drop (n + 1) rest) ≡ drop (n + 1) rest = take_rest rest (n + 1) in
    rw (whole, add-one) (so_far ∙ (ap (λ z. map f old ++ z) (words_next rest n lt none e)
    ∙ (sym (append_assoc (map f old) (piece_words (take n rest)) (words_of (drop (suc n) rest)))
    ∙ ap (λ z. z ++ words_of (drop (suc n) rest)) (sym same))))

found_more : {X : Type 0} (f : X → List ℕ) (old new : List X) (piece : List ℕ) → length old < 8 → map f new ≡ map f old ++ piece_words piece → length new ≤ 8
found_more f old new piece room e =
    omega (arith, simp (length-append, length-map) at (ap length e), short_piece piece)

pub still_room : {X : Type 0} (f : X → List ℕ) (old new : List X) (piece : List ℕ) (full : Bool) → length old < 8
    → map f new ≡ map f old ++ piece_words piece → full ≡ eqb (length new) 8 → full ≡ false → length new < 8
still_room f old new piece full room e is not_full =
    let most : length new ≤ 8 = found_more f old new piece room e in
    let differs : eqb (length new) 8 ≡ false = sym is ∙ not_full in
    grind (arith, tests)

pub no_room : (n : ℕ) (full : Bool) → full ≡ eqb n 8 → full ≡ true → n ≡ 8
no_room n full is full_is = let same : eqb n 8 ≡ true = sym is ∙ full_is in search (rules, tests)

-- there is no room for more
pub found_full : {X : Type 0} (f : X → List ℕ) (line : List ℕ) (new : List X) (rest : List (List ℕ)) → words_of line ≡ map f new ++ rest → length new ≡ 8
    → map f new ≡ first_words line
unfolding first_words
found_full f line new rest all full =
    let same : 8 ≡ length (map f new) = simp length-map (sym full) in
    sym (ap (take 8) all ∙ (ap (λ k. take k (map f new ++ rest)) same ∙ (take-append-le (length (map f new)) (map f new) rest (omega arith)
    ∙ take_all (length (map f new)) (map f new) (omega arith))))
