-- The lines of a text, one after the other.
use Rattle.rh_map.proofs.Common.{◌≡◌, ℕ, zero, suc, ◌+◌, ◌-◌, ◌<◌, ◌≤◌, Bool, true, false, eqb, List, [], ◌∷◌, ◌++◌, length, take, drop, refl, sym, ap, ◌∙◌}
use Rattle.rh_map.proofs.Common.{arith, add-one, append-nil, slice_index, codes, nat_tests, cond_false, shown_line, MOST_REPLY_LINES, lines_in, first_lines}
use Rattle.rh_map.proofs.Common.{shown_lines}
use Rattle.std.proofs.lemmas.List.{take_rest}
use Rattle.std.proofs.lemmas.Grind.{flat_map-append}
use Rattle.rh_defs.specs.Script.{ended, unended, onto_line, unended_after}
use Rattle.rh_defs.proofs.HeapLists.{cond_true}
use Rattle.rh_figure.specs.Phrases.{cut}
use Rattle.rh_figure.specs.Map.{reply_lines}
use Rattle.rh_figure.specs.declared.limits.TheConstants.{REPLY_COLUMNS}
use Rattle.rh_map.specs.Replies.{rest_line, more_behind, excerpt_lines}

-- no byte below n is a line feed
abbrev NoFeed : List ℕ → ℕ → Type 0
NoFeed xs n = (k : ℕ) → 0 ≤ k → k < n → eqb (slice_index xs k) 10 ≡ true → ⊥

-- a test that isn't passed
not-true : (b : Bool) → (b ≡ true → ⊥) → b ≡ false
not-true true h = absurd (h refl)
not-true false h = refl

no-feed : (b : ℕ) (bs : List ℕ) (n : ℕ) → NoFeed (b ∷ bs) (suc n) → eqb b 10 ≡ false
no-feed b bs n h = not-true (eqb b 10) (h 0 (omega arith) (omega arith))

later : (b : ℕ) (bs : List ℕ) (n : ℕ) → NoFeed (b ∷ bs) (suc n) → NoFeed bs n
later b bs n h k low high e = h (suc k) (omega arith) (omega (arith, high)) e

-- a line before its line feed
pub ended-next : (xs : List ℕ) (n : ℕ) → n < length xs → NoFeed xs n → eqb (slice_index xs n) 10 ≡ true
    → ended xs ≡ take n xs ∷ ended (drop (suc n) xs)
ended-next [] n lt h e = absurd (omega (arith, lt))
ended-next (b ∷ bs) zero lt h e = cond_true (eqb b 10) ([] ∷ ended bs) (onto_line b (ended bs)) e
ended-next (b ∷ bs) (suc n) lt h e =
    cond_false (eqb b 10) ([] ∷ ended bs) (onto_line b (ended bs)) (no-feed b bs n h)
    ∙ ap (onto_line b) (ended-next bs n (omega (arith, lt)) (later b bs n h) e)

pub unended-next : (xs : List ℕ) (n : ℕ) → n < length xs → NoFeed xs n → eqb (slice_index xs n) 10 ≡ true
    → unended xs ≡ unended (drop (suc n) xs)
unended-next [] n lt h e = absurd (omega (arith, lt))
unended-next (b ∷ bs) zero lt h e =
    ap (λ ls. unended_after b bs ls (unended bs)) (ended-next (b ∷ bs) zero lt h e)
unended-next (b ∷ bs) (suc n) lt h e =
    ap (λ ls. unended_after b bs ls (unended bs)) (ended-next (b ∷ bs) (suc n) lt h e)
    ∙ unended-next bs n (omega (arith, lt)) (later b bs n h) e

pub lines-next : (xs : List ℕ) (n : ℕ) → n < length xs → NoFeed xs n → eqb (slice_index xs n) 10 ≡ true
    → lines_in xs ≡ take n xs ∷ lines_in (drop (suc n) xs)
lines-next xs n lt h e =
    ap (λ ls. ls ++ rest_line (unended xs)) (ended-next xs n lt h e)
    ∙ ap (λ rest. take n xs ∷ (ended (drop (suc n) xs) ++ rest_line rest)) (unended-next xs n lt h e)

-- the same, where what stands behind is a slice
pub lines-cut : (xs : List ℕ) (n : ℕ) → n < length xs → NoFeed xs n → eqb (slice_index xs n) 10 ≡ true
    → lines_in xs ≡ take n xs ∷ lines_in (take (length xs - (n + 1)) (drop (n + 1) xs))
lines-cut xs n lt h e =
    let whole : take (length xs - (n + 1)) (drop (n + 1) xs) ≡ drop (n + 1) xs = take_rest xs (n + 1) in
    rw (whole, add-one) (lines-next xs n lt h e)

-- no line feed at all
ended-none : (xs : List ℕ) → NoFeed xs (length xs) → ended xs ≡ []
ended-none [] h = refl
ended-none (b ∷ bs) h =
    cond_false (eqb b 10) ([] ∷ ended bs) (onto_line b (ended bs)) (no-feed b bs (length bs) h)
    ∙ ap (onto_line b) (ended-none bs (later b bs (length bs) h))

lines-last : (b : ℕ) (bs : List ℕ) → NoFeed (b ∷ bs) (length (b ∷ bs)) → lines_in (b ∷ bs) ≡ (b ∷ bs) ∷ []
lines-last b bs h =
    ap (λ ls. ls ++ rest_line (unended (b ∷ bs))) (ended-none (b ∷ bs) h)
    ∙ ap (λ ls. rest_line (unended_after b bs ls (unended bs))) (ended-none (b ∷ bs) h)

pub lines-whole : (xs : List ℕ) → 0 < length xs → NoFeed xs (length xs) → lines_in xs ≡ xs ∷ []
lines-whole [] some h = absurd (omega (arith, some))
lines-whole (b ∷ bs) some h = lines-last b bs h

-- a text that a test finds not empty
pub some-left : (xs : List ℕ) (t : Bool) → t ≡ eqb (length xs) 0 → t ≡ false → 0 < length xs
some-left xs t e f =
    let some : eqb (length xs) 0 ≡ false = sym e ∙ f in
    grind (arith, nat_tests)

-- a reply that is whole is shown as it is defined
pub whole-reply : (reply : List ℕ) → unended reply ≡ []
    → excerpt_lines reply (length (ended reply)) ≡ reply_lines (ended reply)
whole-reply reply whole =
    ap (λ ls. first_lines MOST_REPLY_LINES ls ++ more_behind (length (ended reply)))
    (ap (λ rest. ended reply ++ rest_line rest) whole ∙ append-nil (ended reply))

-- ---- the first lines, one by one

pub first-next : (lines behind : List (List ℕ)) (line : List ℕ) (n m : ℕ) → n ≡ suc m → lines ≡ line ∷ behind
    → shown_lines (first_lines n lines)
    ≡ (shown_line (cut REPLY_COLUMNS line) ++ codes "\n") ++ shown_lines (first_lines m behind)
first-next lines behind line n m e is =
    ap (λ k. shown_lines (first_lines k lines)) e ∙ ap (λ ls. shown_lines (first_lines (suc m) ls)) is

-- ---- lines in two parts

pub shown-append : (xs ys : List (List ℕ)) → shown_lines (xs ++ ys) ≡ shown_lines xs ++ shown_lines ys
shown-append xs ys = flat_map-append (λ line. shown_line line ++ codes "\n") xs ys

-- a single line
pub shown-one : (line : List ℕ) → shown_lines (line ∷ []) ≡ shown_line line ++ codes "\n"
shown-one line = append-nil (shown_line line ++ codes "\n")
