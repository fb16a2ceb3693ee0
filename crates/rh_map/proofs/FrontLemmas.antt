-- How many lines end in a text, and what is kept of a text that grows.
use Rattle.rh_map.proofs.Common.{◌≡◌, ℕ, zero, suc, ◌+◌, ◌-◌, ◌<◌, ◌≤◌, Bool, true, false, List, [], ◌∷◌, ◌++◌, length, take, drop, refl, sym, ap, ◌∙◌, arith}
use Rattle.rh_map.proofs.Common.{slice_index}
use Rattle.std.proofs.Common.{ap₂, length-take-le}
use Rattle.std.proofs.lemmas.List.{drop_more, length-drop, take_min}
use Rattle.std.proofs.lemmas.Slice.{take-put_mid}
use borrow.Rule.Slice.PartMut.{put_mid}
use Rattle.std.specs.Prelude.{min, ◌==◌, if◌then◌else◌}
use Rattle.memchr.specs.Find.{is_byte, places_from}
use Rattle.rh_defs.specs.Script.{ended, onto_line}

-- ---- how many lines end

pub onto-long : (b : ℕ) (ls : List (List ℕ)) → length (onto_line b ls) ≡ length ls
onto-long b [] = refl
onto-long b (l ∷ ls) = refl

places-ended : (text : List ℕ) (i : ℕ) (xs : List ℕ) → drop i text ≡ xs → length (places_from (is_byte 10) text i (length xs)) ≡ length (ended xs)
unfolding places_from
places-ended text i [] e = refl
places-ended text i (x ∷ xs) e =
    let low : i < length text = omega (arith, length-drop i text, ap length e) in
    let next = sym e ∙ drop_more text i 0 low in
    let here : x ≡ slice_index text i = cc in
    let rest : drop (i + 1) text ≡ xs = cc in
    go (x == 10) refl here (places-ended text (i + 1) xs rest)
  where
    go : (t : Bool) → (x == 10) ≡ t → x ≡ slice_index text i → length (places_from (is_byte 10) text (i + 1) (length xs)) ≡ length (ended xs)
        → length (places_from (is_byte 10) text i (length (x ∷ xs))) ≡ length (ended (x ∷ xs))
    go true k here more =
        let t : (slice_index text i == 10) ≡ true = ap (λ n. n == 10) (sym here) ∙ k in
        rw (t, k) (ap suc more)
    go false k here more =
        let t : (slice_index text i == 10) ≡ false = ap (λ n. n == 10) (sym here) ∙ k in
        rw (t, k) (more ∙ sym (onto-long x (ended xs)))

pub count-ended : (text : List ℕ) → length (places_from (is_byte 10) text 0 (length text)) ≡ length (ended text)
count-ended text = places-ended text 0 text refl

-- those of two texts, one behind the other
pub ended-both : (xs ys : List ℕ) → length (ended (xs ++ ys)) ≡ length (ended xs) + length (ended ys)
ended-both [] ys = omega arith
ended-both (x ∷ xs) ys = go (x == 10) (ended-both xs ys)
  where
    go : (t : Bool) → length (ended (xs ++ ys)) ≡ length (ended xs) + length (ended ys)
        → length (if t then [] ∷ ended (xs ++ ys) else onto_line x (ended (xs ++ ys)))
        ≡ length (if t then [] ∷ ended xs else onto_line x (ended xs)) + length (ended ys)
    go true rest = omega (arith, rest)
    go false rest = rw (onto-long x (ended (xs ++ ys)), onto-long x (ended xs)) rest

-- the count of more lines, up to a greatest one
pub counted-more : (text new all : List ℕ) (before lines after most : ℕ) → all ≡ text ++ new → before ≡ min (length (ended text)) most
    → lines ≡ length (ended new) → after ≡ min (before + lines) most → after ≡ min (length (ended all)) most
counted-more text new all before lines after most whole is more sum =
    let both = ap (λ z. length (ended z)) whole ∙ ended-both text new in
    omega (arith, is, more, sum, both)

-- ---- what is kept

take-both : (n : ℕ) (xs ys : List ℕ) → take n (xs ++ ys) ≡ take n xs ++ take (n - length (take n xs)) ys
take-both zero xs ys = refl
take-both (suc n) [] ys = let all : suc n - 0 ≡ suc n = omega arith in rw all refl
take-both (suc n) (x ∷ xs) ys =
    let less : suc n - length (x ∷ take n xs) ≡ n - length (take n xs) = omega arith in
    rw less (ap (λ l. x ∷ l) (take-both n xs ys))

-- as much of a text that grows as has room
pub kept-more : (bytes text new all copied : List ℕ) (len count room : ℕ) → all ≡ text ++ new → len ≤ length bytes → take len bytes ≡ take room text
    → count ≡ min (length new) (room - len) → copied ≡ take count new → take (len + count) (put_mid len (len + count - len) bytes copied) ≡ take room all
kept-more bytes text new all copied len count room whole fits kept is copy =
    let front : length (take len bytes) ≡ len = length-take-le len bytes fits in
    let long : length (take room text) ≡ len = sym (ap length kept) ∙ front in
    let part : length copied ≡ count = ap length copy ∙ length-take-le count new (omega (arith, is)) in
    let few : take count new ≡ take (room - len) new = ap (λ n. take n new) (is ∙ min-swap (length new) (room - len)) ∙ take_min (room - len) new in
    take-put_mid len (len + count - len) bytes copied (len + count) (omega (arith, part)) fits
    ∙ ap₂ (λ a b. a ++ b) kept (copy ∙ few ∙ ap (λ n. take (room - n) new) (sym long))
    ∙ sym (take-both room text new)
    ∙ ap (take room) (sym whole)
  where
    min-swap : (a b : ℕ) → min a b ≡ min b a
    min-swap a b = omega arith
