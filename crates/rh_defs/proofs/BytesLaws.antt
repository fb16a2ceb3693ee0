-- Laws of words, ranges and writes of bytes.
use Rattle.std.proofs.Common.{◌≡◌, ℕ, zero, suc, ◌+◌, ◌-◌, ◌<◌, ◌≤◌, ◌≢◌, ◌^◌, List, [], ◌∷◌, ◌++◌, length, replicate, get_or, set, take, drop, refl, sym, ap}
use Rattle.std.proofs.Common.{◌∙◌, inl, inr, arith, get_or-set_same, get_or-set_other}
use Rattle.std.proofs.lemmas.Grind.{same_number_lists}
use Rattle.std.proofs.lemmas.List.{length-set, length-replicate, append_assoc, append-nil, drop_more, get_or-replicate, get_or-take, get_or_append_left}
use Rattle.std.proofs.lemmas.List.{get_or-append-add, take-append-le, drop-append-le}
use Rattle.std.proofs.lemmas.List.Edits.{sets, sets-eq}
use Rattle.std.proofs.Math.ListN.{length-append, drop_of_length-le}
use Rattle.std.proofs.Math.Seq.{take-append-add, drop-append-add}
use Rattle.std.proofs.lemmas.Nat.{from_le_bytes-to_le_bytes_4}
use Rattle.std.proofs.lemmas.Bool.{cases_lt}
use Rattle.std.specs.Int.{w32, to_le_bytes}
use Rattle.std.specs.List.{slice_range}
use Rattle.rh_defs.specs.Bytes.{word, part, with_part, put_word, SameIn, SameOutside}

-- lengths
pub length-put : (b : List ℕ) (at : ℕ) (xs : List ℕ) → length (with_part b at xs) ≡ length b
unfolding with_part
length-put b at [] = refl
length-put b at (x ∷ xs) = length-put (set b at x) (at + 1) xs ∙ length-set b at x

pub length-put_word : (b : List ℕ) (at w : ℕ) → length (put_word b at w) ≡ length b
unfolding put_word
length-put_word b at w = length-put b at (to_le_bytes w32 w)

pub length-part : (b : List ℕ) (at n : ℕ) → length (part b at n) ≡ n
unfolding part
length-part b at zero = refl
length-part b at (suc n) = ap suc (length-part b (at + 1) n)

-- single bytes after a write
pub put_below : (b : List ℕ) (at : ℕ) (xs : List ℕ) (k : ℕ) → k < at → get_or (with_part b at xs) k 0 ≡ get_or b k 0
unfolding with_part
put_below b at [] k h = refl
put_below b at (x ∷ xs) k h =
    let other : k ≢ at = omega arith in
    put_below (set b at x) (at + 1) xs k (omega arith) ∙ get_or-set_other b at k x 0 other

pub put_above : (b : List ℕ) (at : ℕ) (xs : List ℕ) (k : ℕ) → at + length xs ≤ k → get_or (with_part b at xs) k 0 ≡ get_or b k 0
unfolding with_part
put_above b at [] k h = refl
put_above b at (x ∷ xs) k h =
    let other : k ≢ at = omega arith in
    put_above (set b at x) (at + 1) xs k (omega arith) ∙ get_or-set_other b at k x 0 other

pub put_inside : (b : List ℕ) (at : ℕ) (xs : List ℕ) (j k : ℕ) → k < length xs → j ≡ at + k → at + k < length b → get_or (with_part b at xs) j 0 ≡ get_or xs k 0
unfolding with_part
put_inside b at [] j k h e l = absurd (omega arith)
put_inside b at (x ∷ xs) j zero h e l =
    put_below (set b at x) (at + 1) xs j (omega arith) ∙ rw (let q : j ≡ at = omega arith in q) (get_or-set_same b at x 0 (omega arith))
put_inside b at (x ∷ xs) j (suc k) h e l =
    put_inside (set b at x) (at + 1) xs j k (omega arith) (omega arith) (omega (arith, length-set b at x))

get_at : (b : List ℕ) (i j : ℕ) → i ≡ j → get_or b i 0 ≡ get_or b j 0
get_at b i j e = ap (λ k. get_or b k 0) e

-- a byte of a range
pub get-part : (b : List ℕ) (at n k : ℕ) → k < n → get_or (part b at n) k 0 ≡ get_or b (at + k) 0
unfolding part
get-part b at zero k h = absurd (omega arith)
get-part b at (suc n) zero h = get_at b at (at + 0) (omega arith)
get-part b at (suc n) (suc k) h = get-part b (at + 1) n k (omega arith) ∙ get_at b (at + 1 + k) (at + suc k) (omega arith)

-- ranges are equal where their bytes are
pub parts_same : (b c : List ℕ) (p q n : ℕ) → ((k : ℕ) → k < n → get_or c (q + k) 0 ≡ get_or b (p + k) 0) → part c q n ≡ part b p n
parts_same b c p q n s =
    let lens : length (part c q n) ≡ length (part b p n) = length-part c q n ∙ sym (length-part b p n) in
    same_number_lists (part c q n) (part b p n) lens
    (λ k h. let l : k < n = omega (arith, length-part c q n) in get-part c q n k l ∙ s k l ∙ sym (get-part b p n k l))

-- words are equal where their bytes are
pub words_same : (b c : List ℕ) (p q : ℕ) → ((k : ℕ) → k < 4 → get_or c (q + k) 0 ≡ get_or b (p + k) 0) → word c q ≡ word b p
unfolding word
words_same b c p q s =
    let e0 : get_or c q 0 ≡ get_or b p 0 = get_at c q (q + 0) (omega arith) ∙ s 0 (omega arith) ∙ get_at b (p + 0) p (omega arith) in
    let e1 = s 1 (omega arith) in
    let e2 = s 2 (omega arith) in
    let e3 = s 3 (omega arith) in
    rw (e0, e1, e2, e3) refl

pub part_same : (b c : List ℕ) (p n : ℕ) → SameIn b c p (p + n) → part c p n ≡ part b p n
part_same b c p n s = parts_same b c p p n (λ k h. s.each (p + k) (omega arith) (omega arith))

pub word_same : (b c : List ℕ) (p : ℕ) → SameIn b c p (p + 4) → word c p ≡ word b p
word_same b c p s = words_same b c p p (λ k h. s.each (p + k) (omega arith) (omega arith))

-- a word that was written
pub word-put_word : (b : List ℕ) (p w : ℕ) → p + 4 ≤ length b → w < 2 ^ 32 → word (put_word b p w) p ≡ w
unfolding word put_word
word-put_word b p w h lt =
    let e0 = put_inside b p (to_le_bytes w32 w) p 0 (omega arith) (omega arith) (omega arith) in
    let e1 = put_inside b p (to_le_bytes w32 w) (p + 1) 1 (omega arith) (omega arith) (omega arith) in
    let e2 = put_inside b p (to_le_bytes w32 w) (p + 2) 2 (omega arith) (omega arith) (omega arith) in
    let e3 = put_inside b p (to_le_bytes w32 w) (p + 3) 3 (omega arith) (omega arith) (omega arith) in
    rw (e0, e1, e2, e3) (from_le_bytes-to_le_bytes_4 w lt)

-- words elsewhere stay
pub word-put_below : (b : List ℕ) (at : ℕ) (xs : List ℕ) (p : ℕ) → p + 4 ≤ at → word (with_part b at xs) p ≡ word b p
word-put_below b at xs p h = word_same b (with_part b at xs) p (record { each = λ k lo hi. put_below b at xs k (omega arith) })

pub word-put_above : (b : List ℕ) (at : ℕ) (xs : List ℕ) (p : ℕ) → at + length xs ≤ p → word (with_part b at xs) p ≡ word b p
word-put_above b at xs p h = word_same b (with_part b at xs) p (record { each = λ k lo hi. put_above b at xs k (omega arith) })

-- a word inside what was written
pub word-put_inside : (b : List ℕ) (at : ℕ) (xs : List ℕ) (p k : ℕ) → p ≡ at + k → k + 4 ≤ length xs → at + length xs ≤ length b
    → word (with_part b at xs) p ≡ word xs k
word-put_inside b at xs p k e h l = words_same xs (with_part b at xs) k p (λ j i. put_inside b at xs (p + j) (k + j) (omega arith) (omega arith) (omega arith))

pub word-put_word_below : (b : List ℕ) (at w p : ℕ) → p + 4 ≤ at → word (put_word b at w) p ≡ word b p
unfolding put_word
word-put_word_below b at w p h = word-put_below b at (to_le_bytes w32 w) p h

pub word-put_word_above : (b : List ℕ) (at w p : ℕ) → at + 4 ≤ p → word (put_word b at w) p ≡ word b p
unfolding put_word
word-put_word_above b at w p h = word-put_above b at (to_le_bytes w32 w) p (omega arith)

pub get-put_word_below : (b : List ℕ) (at w k : ℕ) → k < at → get_or (put_word b at w) k 0 ≡ get_or b k 0
unfolding put_word
get-put_word_below b at w k h = put_below b at (to_le_bytes w32 w) k h

pub get-put_word_above : (b : List ℕ) (at w k : ℕ) → at + 4 ≤ k → get_or (put_word b at w) k 0 ≡ get_or b k 0
unfolding put_word
get-put_word_above b at w k h = put_above b at (to_le_bytes w32 w) k (omega arith)

-- ranges after a write
pub part-put : (b : List ℕ) (at : ℕ) (xs : List ℕ) (n : ℕ) → n ≡ length xs → at + n ≤ length b → part (with_part b at xs) at n ≡ xs
part-put b at xs n e h = same_number_lists (part (with_part b at xs) at n) xs (length-part (with_part b at xs) at n ∙ e)
    (λ k l. let i : k < n = omega (arith, length-part (with_part b at xs) at n) in
    get-part (with_part b at xs) at n k i ∙ put_inside b at xs (at + k) k (omega arith) refl (omega arith))

pub part-put_below : (b : List ℕ) (at : ℕ) (xs : List ℕ) (p n : ℕ) → p + n ≤ at → part (with_part b at xs) p n ≡ part b p n
part-put_below b at xs p n h = part_same b (with_part b at xs) p n (record { each = λ k lo hi. put_below b at xs k (omega arith) })

pub part-put_above : (b : List ℕ) (at : ℕ) (xs : List ℕ) (p n : ℕ) → at + length xs ≤ p → part (with_part b at xs) p n ≡ part b p n
part-put_above b at xs p n h = part_same b (with_part b at xs) p n (record { each = λ k lo hi. put_above b at xs k (omega arith) })

pub part-put_inside : (b : List ℕ) (at : ℕ) (xs : List ℕ) (p k n : ℕ) → p ≡ at + k → k + n ≤ length xs → at + length xs ≤ length b
    → part (with_part b at xs) p n ≡ part xs k n
part-put_inside b at xs p k n e h l = parts_same xs (with_part b at xs) k p n
    (λ j i. put_inside b at xs (p + j) (k + j) (omega arith) (omega arith) (omega arith))

pub part-put_word_below : (b : List ℕ) (at w p n : ℕ) → p + n ≤ at → part (put_word b at w) p n ≡ part b p n
unfolding put_word
part-put_word_below b at w p n h = part-put_below b at (to_le_bytes w32 w) p n h

pub part-put_word_above : (b : List ℕ) (at w p n : ℕ) → at + 4 ≤ p → part (put_word b at w) p n ≡ part b p n
unfolding put_word
part-put_word_above b at w p n h = part-put_above b at (to_le_bytes w32 w) p n (omega arith)

-- zeros
pub part-put_zeros : (b : List ℕ) (at n : ℕ) → at + n ≤ length b → part (with_part b at (replicate n 0)) at n ≡ replicate n 0
part-put_zeros b at n h = part-put b at (replicate n 0) n (sym (length-replicate n 0)) h

pub put_zeros_below : (b : List ℕ) (at n k : ℕ) → k < at → get_or (with_part b at (replicate n 0)) k 0 ≡ get_or b k 0
put_zeros_below b at n k h = put_below b at (replicate n 0) k h

pub put_zeros_above : (b : List ℕ) (at n k : ℕ) → at + n ≤ k → get_or (with_part b at (replicate n 0)) k 0 ≡ get_or b k 0
put_zeros_above b at n k h = put_above b at (replicate n 0) k (omega (arith, length-replicate {A = ℕ} n 0))

zero_at : (n k : ℕ) → k < n → ◌≡◌ {A = ℕ} (get_or (replicate n 0) k 0) 0
zero_at n k h = get_or-replicate n k 0 0 h

pub word-zeros : (n p : ℕ) → p + 4 ≤ n → word (replicate n 0) p ≡ 0
unfolding word
word-zeros n p h =
    rw (zero_at n p (omega arith), zero_at n (p + 1) (omega arith), zero_at n (p + 2) (omega arith), zero_at n (p + 3) (omega arith)) refl

pub part-zeros : (n p k : ℕ) → p + k ≤ n → part (replicate n 0) p k ≡ replicate k 0
part-zeros n p k h = same_number_lists (part (replicate n 0) p k) (replicate k 0) (length-part (replicate n 0) p k ∙ sym (length-replicate {A = ℕ} k 0))
    (λ j l. let i : j < k = omega (arith, length-part (replicate n 0) p k) in
    get-part (replicate n 0) p k j i ∙ zero_at n (p + j) (omega arith) ∙ sym (zero_at k j i))

-- inside a range
pub word-part : (b : List ℕ) (at n p : ℕ) → p + 4 ≤ n → word (part b at n) p ≡ word b (at + p)
word-part b at n p h = words_same b (part b at n) (at + p) p (λ k l. get-part b at n (p + k) (omega arith) ∙ get_at b (at + (p + k)) (at + p + k) (omega arith))

pub part-part : (b : List ℕ) (at n p k : ℕ) → p + k ≤ n → part (part b at n) p k ≡ part b (at + p) k
part-part b at n p k h =
    parts_same b (part b at n) (at + p) p k (λ j l. get-part b at n (p + j) (omega arith) ∙ get_at b (at + (p + j)) (at + p + j) (omega arith))

-- two ranges, or two writes, that lie one after the other
pub part_more : (b : List ℕ) (at n k : ℕ) → part b at (n + k) ≡ part b at n ++ part b (at + n) k
unfolding part
part_more b at zero k = ap (λ j. part b at j) (omega arith) ∙ ap (λ j. part b j k) (omega arith)
part_more b at (suc n) k =
    let e : suc n + k ≡ suc (n + k) = omega arith in
    rw e (ap (λ l. get_or b at 0 ∷ l) (part_more b (at + 1) n k ∙ ap (λ j. part b (at + 1) n ++ part b j k) (omega arith)))

pub put_more : (b : List ℕ) (at : ℕ) (xs ys : List ℕ) → with_part b at (xs ++ ys) ≡ with_part (with_part b at xs) (at + length xs) ys
unfolding with_part
put_more b at [] ys = ap (λ j. with_part b j ys) (omega arith)
put_more b at (x ∷ xs) ys = put_more (set b at x) (at + 1) xs ys ∙ ap (λ j. with_part (with_part (set b at x) (at + 1) xs) j ys) (omega arith)

-- nothing read or written
pub part_none : (b : List ℕ) (at : ℕ) → part b at 0 ≡ []
unfolding part
part_none b at = refl

pub put_none : (b : List ℕ) (at : ℕ) → with_part b at [] ≡ b
unfolding with_part
put_none b at = refl

-- all bytes
pub part_all : (b : List ℕ) → part b 0 (length b) ≡ b
part_all b = same_number_lists (part b 0 (length b)) b (length-part b 0 (length b))
    (λ k h. get-part b 0 (length b) k (omega (arith, length-part b 0 (length b))) ∙ get_at b (0 + k) k (omega arith))

-- a byte of a written list, by where it lies
get-put : (b : List ℕ) (at : ℕ) (xs ys : List ℕ) (k : ℕ) → at + length xs ≤ length b → (k < at → get_or b k 0 ≡ get_or ys k 0)
    → ((j : ℕ) → j < length xs → k ≡ at + j → get_or xs j 0 ≡ get_or ys k 0)
    → (at + length xs ≤ k → get_or b k 0 ≡ get_or ys k 0) → get_or (with_part b at xs) k 0 ≡ get_or ys k 0
get-put b at xs ys k h below inside above = elim (cases_lt k at) [
  | inl l ↦ put_below b at xs k l ∙ below l
  | inr g ↦ elim (cases_lt k (at + length xs)) [
    | inl l ↦ put_inside b at xs k (k - at) (omega arith) (omega arith) (omega arith) ∙ inside (k - at) (omega arith) (omega arith)
    | inr f ↦ put_above b at xs k f ∙ above f
  ]
]

-- what stands there, written again
pub put-part : (b : List ℕ) (at n : ℕ) → at + n ≤ length b → with_part b at (part b at n) ≡ b
put-part b at n h =
    let len = length-part b at n in
    same_number_lists (with_part b at (part b at n)) b (length-put b at (part b at n))
    (λ k l. get-put b at (part b at n) b k (omega arith) (λ i. refl) (λ j i e. get-part b at n j (omega arith) ∙ get_at b (at + j) k (omega arith)) (λ i. refl))

-- a longer write hides a shorter one
pub put-put : (b : List ℕ) (at : ℕ) (xs ys : List ℕ) → length xs ≤ length ys → at + length ys ≤ length b → with_part (with_part b at xs) at ys
    ≡ with_part b at ys
put-put b at xs ys h l =
    let len = length-put b at xs in
    same_number_lists (with_part (with_part b at xs) at ys) (with_part b at ys) (length-put (with_part b at xs) at ys ∙ len ∙ sym (length-put b at ys))
    (λ k i. get-put (with_part b at xs) at ys (with_part b at ys) k (omega arith)
    (λ j. put_below b at xs k j ∙ sym (put_below b at ys k j))
    (λ j n e. sym (put_inside b at ys k j n e (omega arith)))
    (λ j. put_above b at xs k (omega arith) ∙ sym (put_above b at ys k j)))

-- two writes apart, in either order
pub put_apart : (b : List ℕ) (p : ℕ) (xs : List ℕ) (q : ℕ) (ys : List ℕ) → p + length xs ≤ q → q + length ys ≤ length b
    → with_part (with_part b p xs) q ys ≡ with_part (with_part b q ys) p xs
put_apart b p xs q ys h l =
    let left = length-put b p xs in
    let right = length-put b q ys in
    same_number_lists (with_part (with_part b p xs) q ys) (with_part (with_part b q ys) p xs)
    (length-put (with_part b p xs) q ys ∙ left ∙ sym right ∙ sym (length-put (with_part b q ys) p xs))
    (λ k i. get-put (with_part b p xs) q ys (with_part (with_part b q ys) p xs) k (omega arith)
    (λ j. sym (get-put (with_part b q ys) p xs (with_part b p xs) k (omega arith)
    (λ n. put_below b q ys k j ∙ sym (put_below b p xs k n))
    (λ n m e. sym (put_inside b p xs k n m e (omega arith)))
    (λ n. put_below b q ys k j ∙ sym (put_above b p xs k n))))
    (λ j n e. sym (put_above (with_part b q ys) p xs k (omega arith) ∙ put_inside b q ys k j n e (omega arith)))
    (λ j. put_above b p xs k (omega arith) ∙ sym (put_above (with_part b q ys) p xs k (omega arith) ∙ put_above b q ys k j)))

-- a write before another that begins where it ends
pub put_before : (b : List ℕ) (at : ℕ) (xs ys : List ℕ) (n : ℕ) → n ≡ length xs → at + n + length ys ≤ length b
    → with_part (with_part b (at + n) ys) at xs ≡ with_part b at (xs ++ ys)
put_before b at xs ys n e h = sym (put_apart b at xs (at + n) ys (omega arith) h) ∙ ap (λ k. with_part (with_part b at xs) (at + k) ys) e ∙ sym
    (put_more b at xs ys)

-- the steps of a slide in parts: towards lower offsets from the lower end on, towards higher ones from the upper end
pub slide_down : (b : List ℕ) (from to d n : ℕ) → to ≤ from → from + d + n ≤ length b
    → with_part (with_part b to (part b from d)) (to + d) (part (with_part b to (part b from d)) (from + d) n) ≡ with_part b to (part b from (d + n))
slide_down b from to d n low h =
    let len = length-part b from d in
    ap (with_part (with_part b to (part b from d)) (to + d)) (part-put_above b to (part b from d) (from + d) n (omega arith))
    ∙ ap (λ k. with_part (with_part b to (part b from d)) (to + k) (part b (from + d) n)) (sym len)
    ∙ sym (put_more b to (part b from d) (part b (from + d) n))
    ∙ ap (with_part b to) (sym (part_more b from d n))

pub slide_up : (b : List ℕ) (from to n d : ℕ) → from ≤ to → to + n + d ≤ length b
    → with_part (with_part b (to + n) (part b (from + n) d)) to (part (with_part b (to + n) (part b (from + n) d)) from n) ≡ with_part b to
    (part b from (n + d))
slide_up b from to n d low h =
    let len = length-part b (from + n) d in
    ap (with_part (with_part b (to + n) (part b (from + n) d)) to) (part-put_below b (to + n) (part b (from + n) d) from n (omega arith))
    ∙ put_before b to (part b from n) (part b (from + n) d) n (sym (length-part b from n)) (omega arith)
    ∙ ap (with_part b to) (sym (part_more b from n d))

-- the first bytes of a longer list
pub word-append_left : (b c : List ℕ) (p : ℕ) → p + 4 ≤ length b → word (b ++ c) p ≡ word b p
word-append_left b c p h = word_same b (b ++ c) p (record { each = λ k lo hi. get_or_append_left b c 0 k (omega arith) })

pub part-append_left : (b c : List ℕ) (p n : ℕ) → p + n ≤ length b → part (b ++ c) p n ≡ part b p n
part-append_left b c p n h = part_same b (b ++ c) p n (record { each = λ k lo hi. get_or_append_left b c 0 k (omega arith) })

pub word-append_right : (b c : List ℕ) (p : ℕ) → word (b ++ c) (length b + p) ≡ word c p
word-append_right b c p =
    words_same c (b ++ c) p (length b + p) (λ k h. get_at (b ++ c) (length b + p + k) (length b + (p + k)) (omega arith) ∙ get_or-append-add b c (p + k) 0)

pub part-append_right : (b c : List ℕ) (p n : ℕ) → part (b ++ c) (length b + p) n ≡ part c p n
part-append_right b c p n = parts_same c (b ++ c) p (length b + p) n (λ k h. get_at (b ++ c) (length b + p + k) (length b + (p + k)) (omega arith)
    ∙ get_or-append-add b c (p + k) 0)

pub word-take : (n : ℕ) (b : List ℕ) (p : ℕ) → p + 4 ≤ n → word (take n b) p ≡ word b p
word-take n b p h = word_same b (take n b) p (record { each = λ k lo hi. get_or-take n b k 0 (omega arith) })

pub part-take : (n : ℕ) (b : List ℕ) (p k : ℕ) → p + k ≤ n → part (take n b) p k ≡ part b p k
part-take n b p k h = part_same b (take n b) p k (record { each = λ j lo hi. get_or-take n b j 0 (omega arith) })

-- a write to one of two joined lists
put-sets : (b : List ℕ) (at : ℕ) (xs : List ℕ) → with_part b at xs ≡ sets b at xs
unfolding with_part
put-sets b at [] = refl
put-sets b at (x ∷ xs) = put-sets (set b at x) (at + 1) xs ∙ ap (λ i. sets (set b at x) i xs) (omega arith)

-- bridges: a write and a range by what `take` and `drop` give
pub put-parts : (b : List ℕ) (at : ℕ) (xs : List ℕ) → at + length xs ≤ length b → with_part b at xs ≡ take at b ++ (xs ++ drop (at + length xs) b)
put-parts b at xs h = put-sets b at xs ∙ sets-eq xs b at h ∙ append_assoc (take at b) xs (drop (at + length xs) b)

pub part-drop : (b : List ℕ) (at n : ℕ) → at + n ≤ length b → part b at n ≡ take n (drop at b)
unfolding part
part-drop b at zero h = refl
part-drop b at (suc n) h = ap (λ l. get_or b at 0 ∷ l) (part-drop b (at + 1) n (omega arith)) ∙ sym (ap (take (suc n)) (drop_more b at 0 (omega arith)))

pub part-range : (b : List ℕ) (at n : ℕ) → at + n ≤ length b → part b at n ≡ slice_range b at (at + n)
part-range b at n h = part-drop b at n h ∙ ap (λ k. take k (drop at b)) (omega arith)

pub put_all : (b xs : List ℕ) → length xs ≡ length b → with_part b 0 xs ≡ xs
put_all b xs e = put-parts b 0 xs (omega arith) ∙ ap (λ l. xs ++ l) (drop_of_length-le b (omega arith)) ∙ append-nil xs

pub put-append_left : (b c : List ℕ) (at : ℕ) (xs : List ℕ) → at + length xs ≤ length b → with_part (b ++ c) at xs ≡ with_part b at xs ++ c
put-append_left b c at xs h =
    put-parts (b ++ c) at xs (omega (arith, length-append b c))
    ∙ ap (λ l. l ++ (xs ++ drop (at + length xs) (b ++ c))) (take-append-le at b c (omega arith))
    ∙ ap (λ l. take at b ++ (xs ++ l)) (drop-append-le (at + length xs) b c h)
    ∙ sym (ap (λ l. l ++ c) (put-parts b at xs h) ∙ append_assoc (take at b) (xs ++ drop (at + length xs) b) c
    ∙ ap (λ l. take at b ++ l) (append_assoc xs (drop (at + length xs) b) c))

pub put-append_right : (b c : List ℕ) (at : ℕ) (xs : List ℕ) → at + length xs ≤ length c → with_part (b ++ c) (length b + at) xs ≡ b ++ with_part c at xs
put-append_right b c at xs h =
    put-parts (b ++ c) (length b + at) xs (omega (arith, length-append b c))
    ∙ ap (λ l. l ++ (xs ++ drop (length b + at + length xs) (b ++ c))) (take-append-add b c at)
    ∙ ap (λ l. b ++ take at c ++ (xs ++ l)) (ap (λ k. drop k (b ++ c)) (omega arith) ∙ drop-append-add b c (at + length xs))
    ∙ append_assoc b (take at c) (xs ++ drop (at + length xs) c)
    ∙ ap (λ l. b ++ l) (sym (put-parts c at xs h))

-- what a write leaves outside of it
pub put_outside : (b : List ℕ) (at : ℕ) (xs : List ℕ) (hi : ℕ) → at + length xs ≤ hi → SameOutside b (with_part b at xs) at hi
put_outside b at xs hi h = record {
  len = length-put b at xs;
  below = λ k l. put_below b at xs k l;
  above = λ k l. put_above b at xs k (omega arith);
}

pub put_word_outside : (b : List ℕ) (at w hi : ℕ) → at + 4 ≤ hi → SameOutside b (put_word b at w) at hi
unfolding put_word
put_word_outside b at w hi h = put_outside b at (to_le_bytes w32 w) hi (omega arith)

pub SameOutside-self : (b : List ℕ) (lo hi : ℕ) → SameOutside b b lo hi
SameOutside-self b lo hi = record { len = refl; below = λ k l. refl; above = λ k l. refl }

pub SameOutside-wider : (b c : List ℕ) (lo hi lo' hi' : ℕ) → SameOutside b c lo hi → lo' ≤ lo → hi ≤ hi' → SameOutside b c lo' hi'
SameOutside-wider b c lo hi lo' hi' s l h = record { len = s.len; below = λ k x. s.below k (omega arith); above = λ k x. s.above k (omega arith) }

pub SameOutside-both : (b c d : List ℕ) (lo hi : ℕ) → SameOutside b c lo hi → SameOutside c d lo hi → SameOutside b d lo hi
SameOutside-both b c d lo hi s t = record { len = t.len ∙ s.len; below = λ k x. t.below k x ∙ s.below k x; above = λ k x. t.above k x ∙ s.above k x }

pub SameIn-narrower : (b c : List ℕ) (lo hi lo' hi' : ℕ) → SameIn b c lo hi → lo ≤ lo' → hi' ≤ hi → SameIn b c lo' hi'
SameIn-narrower b c lo hi lo' hi' s l h = record { each = λ k x y. s.each k (omega arith) (omega arith) }

pub SameIn-below : (b c : List ℕ) (lo hi p q : ℕ) → SameOutside b c lo hi → q ≤ lo → SameIn b c p q
SameIn-below b c lo hi p q s h = record { each = λ k x y. s.below k (omega arith) }

pub SameIn-above : (b c : List ℕ) (lo hi p q : ℕ) → SameOutside b c lo hi → hi ≤ p → SameIn b c p q
SameIn-above b c lo hi p q s h = record { each = λ k x y. s.above k (omega arith) }

pub SameIn-append : (b c : List ℕ) (lo hi : ℕ) → hi ≤ length b → SameIn b (b ++ c) lo hi
SameIn-append b c lo hi h = record { each = λ k x y. get_or_append_left b c 0 k (omega arith) }

pub SameIn-take : (n : ℕ) (b : List ℕ) (lo hi : ℕ) → hi ≤ n → SameIn b (take n b) lo hi
SameIn-take n b lo hi h = record { each = λ k x y. get_or-take n b k 0 (omega arith) }

-- for `grind`
pub ruleset word_laws = (
  length-put_word,
  word-put_word,
  word-put_word_below,
  word-put_word_above,
  get-put_word_below,
  get-put_word_above,
  length-put,
  length-part,
  put_below,
  put_above,
  word-put_below,
  word-put_above,
  part-put,
  part-put_below,
  part-put_above,
  part-put_word_below,
  part-put_word_above,
  part-put_zeros,
  put_zeros_below,
  put_zeros_above,
)
