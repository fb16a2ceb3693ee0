-- Lines of a script: where they end, and as far as they are kept.
use Rattle.std.proofs.Common.{◌≡◌, ℕ, zero, suc, ◌-◌, ◌<◌, ◌≤◌, Bool, true, false, eqb, nat_lt, ◌⊎◌, inl, inr, List, [], ◌∷◌, ◌++◌, length, take, drop, map}
use Rattle.std.proofs.Common.{append-nil, refl, sym, ◌∙◌, ap, subst, arith, rules}
use Rattle.std.specs.Prelude.{◌+◌, slice_index}
use Rattle.std.proofs.lemmas.List.{take_all, take_rest, length-take, map-append}
use borrow.Author.Tests.{tests}
use Rattle.rh_defs.specs.Line.{line_means, longest_line}
use Rattle.rh_defs.specs.Script.{ended, unended, onto_line, unended_after}
use Rattle.rh_session.specs.Lines.{kept, kept_lines}

-- ---- lines that are kept

pub take_front : (m : ℕ) (xs ys : List ℕ) → take m (take m xs ++ ys) ≡ take m (xs ++ ys)
take_front zero xs ys = refl
take_front (suc m) [] ys = refl
take_front (suc m) (x ∷ xs) ys = ap (λ z. x ∷ z) (take_front m xs ys)

pub kept_front : (line xs : List ℕ) → kept (kept line ++ xs) ≡ kept (line ++ xs)
unfolding kept
kept_front line xs = take_front (longest_line + 1) line xs

pub kept_kept : (line : List ℕ) → kept (kept line) ≡ kept line
kept_kept line = ap kept (sym (append-nil (kept line))) ∙ (kept_front line [] ∙ ap kept (append-nil line))

pub kept_nil : kept [] ≡ []
unfolding kept
kept_nil = refl

pub still_long : (k m : ℕ) (xs : List ℕ) → k < m → k < length xs → k < length (take m xs)
still_long k m xs p q = grind (arith, length-take)

pub is_above : (k n : ℕ) → k < n → nat_lt k n ≡ true
is_above k n h = search (rules, tests)

means_same : (n : ℕ) (line : List ℕ) → (n ≤ longest_line) ⊎ (longest_line < n) → n ≡ length line → line_means (kept line) ≡ line_means line
unfolding kept line_means
means_same n line (inl h) e = ap line_means (take_all (longest_line + 1) line (omega arith))
means_same n line (inr h) e =
    rw (
      is_above longest_line (length line) (omega arith),
      is_above longest_line (length (take (longest_line + 1) line)) (still_long longest_line (longest_line + 1) line (omega arith) (omega arith)),
    ) refl

pub split_at : (n : ℕ) → (n ≤ longest_line) ⊎ (longest_line < n)
split_at n = grind arith

-- a line means what it means as far as it is kept
pub kept_means : (line : List ℕ) → line_means (kept line) ≡ line_means line
kept_means line = means_same (length line) line (split_at (length line)) refl

-- lines that are the same as far as they are kept mean the same
pub means_as_kept : (line other : List ℕ) → kept line ≡ kept other → line_means line ≡ line_means other
means_as_kept line other e = sym (kept_means line) ∙ (ap line_means e ∙ kept_means other)

pub means_front : (line xs : List ℕ) → line_means (kept line ++ xs) ≡ line_means (line ++ xs)
means_front line xs =
    sym (kept_means (kept line ++ xs)) ∙ (ap line_means (kept_front line xs) ∙ kept_means (line ++ xs))

shorter : (n : ℕ) (line : List ℕ) → length (take n line) ≤ n
shorter n line = grind (arith, length-take)

pub kept_short : (line : List ℕ) → length line ≤ (longest_line + 1) → line ≡ kept line
unfolding kept
kept_short line h = sym (take_all (longest_line + 1) line h)

pub short_kept : (line : List ℕ) → length (kept line) ≤ (longest_line + 1)
unfolding kept
short_kept line = shorter (longest_line + 1) line

-- ---- bytes without a line feed

-- no line feed is here
abbrev pub NoFeed : List ℕ → Type 0
NoFeed [] = Unit {0}
NoFeed (b ∷ bs) = (eqb b 10 ≡ false) × NoFeed bs

pub no_feed_more : (xs : List ℕ) (b : ℕ) → NoFeed xs → eqb b 10 ≡ false → NoFeed (xs ++ b ∷ [])
no_feed_more [] b h e = (e, tt)
no_feed_more (x ∷ xs) b h e = (h.0, no_feed_more xs b h.1 e)

pub no_feed_join : (xs ys : List ℕ) → NoFeed xs → NoFeed ys → NoFeed (xs ++ ys)
no_feed_join [] ys h k = k
no_feed_join (x ∷ xs) ys h k = (h.0, no_feed_join xs ys h.1 k)

pub ended_none : (xs : List ℕ) → NoFeed xs → ended xs ≡ []
ended_none [] h = refl
ended_none (x ∷ xs) h = rw (h.0, ended_none xs h.1) refl

pub unended_all : (xs : List ℕ) → NoFeed xs → unended xs ≡ xs
unended_all [] h = refl
unended_all (x ∷ xs) h = rw (h.0, ended_none xs h.1) refl

pub ended_first : (xs ys : List ℕ) → NoFeed xs → ended (xs ++ 10 ∷ ys) ≡ xs ∷ ended ys
ended_first [] ys h = refl
ended_first (x ∷ xs) ys h = rw (h.0, ended_first xs ys h.1) refl

pub unended_first : (xs ys : List ℕ) → NoFeed xs → unended (xs ++ 10 ∷ ys) ≡ unended ys
unended_first [] ys h = refl
unended_first (x ∷ xs) ys h = rw (h.0, ended_first xs ys h.1) (unended_first xs ys h.1)

-- ---- where a line ends

-- no line feed stands below n
abbrev pub NoneBelow : List ℕ → ℕ → Type 0
NoneBelow xs n = (k : ℕ) → k < n → eqb (slice_index xs k) 10 ≡ true → ⊥

not_feed : (x : ℕ) (b : Bool) → eqb x 10 ≡ b → (eqb x 10 ≡ true → ⊥) → eqb x 10 ≡ false
not_feed x true e h = absurd (h e)
not_feed x false e h = e

pub no_feed_below : (xs : List ℕ) (n : ℕ) → n ≤ length xs → NoneBelow xs n → NoFeed (take n xs)
no_feed_below xs zero few h = tt
no_feed_below [] (suc n) few h = absurd (omega arith)
no_feed_below (x ∷ xs) (suc n) few h =
    (not_feed x (eqb x 10) refl (h 0 (omega arith)), no_feed_below xs n (omega arith) (λ k lt. h (suc k) (omega arith)))

pub no_feed_all : (xs : List ℕ) → NoneBelow xs (length xs) → NoFeed xs
no_feed_all xs h =
    let P : List ℕ → Type 0 = λ z. NoFeed z in subst P (take_all (length xs) xs (omega arith)) (no_feed_below xs (length xs) (omega arith) h)

is_ten : (x : ℕ) → eqb x 10 ≡ true → x ≡ 10
is_ten x e = search (rules, tests)

pub cut_at : (xs : List ℕ) (n : ℕ) → n < length xs → eqb (slice_index xs n) 10 ≡ true → xs ≡ take n xs ++ (10 ∷ drop (suc n) xs)
cut_at [] n lt e = absurd (omega arith)
cut_at (x ∷ xs) zero lt e = ap (λ z. z ∷ xs) (is_ten x e)
cut_at (x ∷ xs) (suc n) lt e = ap (λ z. x ∷ z) (cut_at xs n (omega arith) e)

drop_drop : (xs : List ℕ) (n : ℕ) → drop 1 (drop n xs) ≡ drop (suc n) xs
drop_drop [] zero = refl
drop_drop [] (suc n) = refl
drop_drop (x ∷ xs) zero = refl
drop_drop (x ∷ xs) (suc n) = drop_drop xs n

-- what stands behind the line feed at n, as it is cut
abbrev pub behind : List ℕ → ℕ → List ℕ
behind xs n = let tail = take (length xs - n) (drop n xs) in take (length tail - 1) (drop 1 tail)

pub behind_is : (xs : List ℕ) (n : ℕ) → behind xs n ≡ drop (suc n) xs
behind_is xs n =
    take_rest (take (length xs - n) (drop n xs)) 1 ∙ (ap (drop 1) (take_rest xs n) ∙ drop_drop xs n)

-- ---- the lines of bytes in two parts

pub bool_cases : (b : Bool) → (b ≡ true) ⊎ (b ≡ false)
bool_cases true = inl refl
bool_cases false = inr refl

-- what no line feed ends has none
no_feed_open_at : (x : ℕ) (xs : List ℕ) → (eqb x 10 ≡ true) ⊎ (eqb x 10 ≡ false) → ended (x ∷ xs) ≡ [] → (eqb x 10 ≡ false) × (ended xs ≡ [])
no_feed_open_at x xs (inl e) h = absurd (let k : [] ∷ ended xs ≡ [] = rw e at h in cc)
no_feed_open_at x xs (inr e) h =
    let k : onto_line x (ended xs) ≡ [] = rw e at h in (e, onto_none x (ended xs) k)
  where
    onto_none : (x : ℕ) (ls : List (List ℕ)) → onto_line x ls ≡ [] → ls ≡ []
    onto_none x [] k = refl
    onto_none x (l ∷ ls) k = absurd (cc)

pub no_feed_open : (xs : List ℕ) → ended xs ≡ [] → NoFeed xs
no_feed_open [] h = tt
no_feed_open (x ∷ xs) h =
    let parts = no_feed_open_at x xs (bool_cases (eqb x 10)) h in (parts.0, no_feed_open xs parts.1)

-- the lines that end in the first part, and those that end in the second one behind the line that begins in the first
record Parts (xs ys : List ℕ) : Type 0 where
  ended_are : ended (xs ++ ys) ≡ ended xs ++ ended (unended xs ++ ys)
  unended_is : unended (xs ++ ys) ≡ unended (unended xs ++ ys)
  begun : ended (unended xs) ≡ []

-- one more byte of a line in the first part, where no line ends there
parts_byte_at : (x : ℕ) (xs ys : List ℕ) (ls : List (List ℕ)) → eqb x 10 ≡ false → ls ≡ ended xs → Parts xs ys → Parts (x ∷ xs) ys
parts_byte_at x xs ys [] e is p =
    let none : ended (x ∷ xs) ≡ [] = rw (e, sym is) refl in
    let all : unended (x ∷ xs) ≡ x ∷ xs = ap (λ ls. unended_after x xs ls (unended xs)) none in
    record {
      ended_are = rw (all, none) refl;
      unended_is = rw all refl;
      begun = rw all none;
    }
parts_byte_at x xs ys (l ∷ ls) e is p =
    let some : ended (x ∷ xs) ≡ (x ∷ l) ∷ ls = rw (e, sym is) refl in
    let rest : unended (x ∷ xs) ≡ unended xs = ap (λ z. unended_after x xs z (unended xs)) some in
    let inner : ended (xs ++ ys) ≡ l ∷ (ls ++ ended (unended xs ++ ys)) =
    p.ended_are ∙ ap (λ z. z ++ ended (unended xs ++ ys)) (sym is) in
    let more : ended (x ∷ (xs ++ ys)) ≡ (x ∷ l) ∷ (ls ++ ended (unended xs ++ ys)) = rw (e, inner) refl in
    record {
      ended_are = more ∙ sym (ap (λ z. z ++ ended (unended (x ∷ xs) ++ ys)) some ∙ ap (λ z. (x ∷ l) ∷ (ls ++ ended (z ++ ys))) rest);
      unended_is = ap (λ z. unended_after x (xs ++ ys) z (unended (xs ++ ys))) more ∙ (p.unended_is ∙ sym (ap (λ z. unended (z ++ ys)) rest));
      begun = ap ended rest ∙ p.begun;
    }

parts_feed : (xs ys : List ℕ) → Parts xs ys → Parts (10 ∷ xs) ys
parts_feed xs ys p = record {
  ended_are = ap (λ z. [] ∷ z) p.ended_are;
  unended_is = p.unended_is;
  begun = p.begun;
}

parts_next : (x : ℕ) (xs ys : List ℕ) → (eqb x 10 ≡ true) ⊎ (eqb x 10 ≡ false) → Parts xs ys → Parts (x ∷ xs) ys
parts_next x xs ys (inl e) p =
    let P : ℕ → Type 0 = λ z. Parts (z ∷ xs) ys in subst P (sym (is_ten x e)) (parts_feed xs ys p)
parts_next x xs ys (inr e) p = parts_byte_at x xs ys (ended xs) e refl p

parts : (xs ys : List ℕ) → Parts xs ys
parts [] ys = record { ended_are = refl; unended_is = refl; begun = refl }
parts (x ∷ xs) ys = parts_next x xs ys (bool_cases (eqb x 10)) (parts xs ys)

pub ended-append : (xs ys : List ℕ) → ended (xs ++ ys) ≡ ended xs ++ ended (unended xs ++ ys)
ended-append xs ys = (parts xs ys).ended_are

pub unended-append : (xs ys : List ℕ) → unended (xs ++ ys) ≡ unended (unended xs ++ ys)
unended-append xs ys = (parts xs ys).unended_is

pub ended-unended : (xs : List ℕ) → ended (unended xs) ≡ []
ended-unended xs = (parts xs []).begun

pub kept_lines-append : (xs ys : List ℕ) → kept_lines (xs ++ ys) ≡ kept_lines xs ++ kept_lines (unended xs ++ ys)
kept_lines-append xs ys =
    ap (map kept) (ended-append xs ys) ∙ map-append kept (ended xs) (ended (unended xs ++ ys))
