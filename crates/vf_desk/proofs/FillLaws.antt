-- Lists with items in place of their first ones, or of those from an index on.
use Rattle.vf_desk.proofs.Common.{◌≡◌, ℕ, Bool, true, false, zero, suc, ◌+◌, ◌<◌, ◌≤◌, List, [], ◌∷◌, ◌++◌, length, take, drop, get_or, Some, None, refl, sym}
use Rattle.vf_desk.proofs.Common.{ap, ◌∙◌, arith, set, append-nil, take_all, ◌-◌, nat_le, map, min, slice_get, tests, filled_front, filled_from}
use Rattle.std.proofs.Common.{take-append-drop}

-- the same, item by item
abbrev overlaid : {A : Type 0} → List A → List A → List A
overlaid [] old = old
overlaid (x ∷ xs) [] = []
overlaid (x ∷ xs) (y ∷ old) = x ∷ overlaid xs old

take-none : {A : Type 0} (n : ℕ) → take {A = A} n [] ≡ []
take-none zero = refl
take-none (suc n) = refl

filled-is : {A : Type 0} (xs old : List A) → filled_front xs old ≡ overlaid xs old
filled-is [] old = ap (λ l. l ++ old) (take-none (length old))
filled-is (x ∷ xs) [] = refl
filled-is (x ∷ xs) (y ∷ old) = ap (λ l. x ∷ l) (filled-is xs old)

overlaid-next : {A : Type 0} (xs old : List A) (x : A) → length xs < length old → overlaid (xs ++ x ∷ []) old ≡ set (overlaid xs old) (length xs) x
overlaid-next [] [] x low = absurd (omega arith)
overlaid-next [] (y ∷ old) x low = refl
overlaid-next (z ∷ xs) [] x low = absurd (omega arith)
overlaid-next (z ∷ xs) (y ∷ old) x low = ap (λ l. z ∷ l) (overlaid-next xs old x (omega arith))

overlaid-full : {A : Type 0} (xs more old : List A) → length old ≤ length xs → overlaid (xs ++ more) old ≡ overlaid xs old
overlaid-full [] [] [] all = refl
overlaid-full [] (m ∷ more) [] all = refl
overlaid-full [] more (y ∷ old) all = absurd (omega arith)
overlaid-full (x ∷ xs) more [] all = refl
overlaid-full (x ∷ xs) more (y ∷ old) all = ap (λ l. x ∷ l) (overlaid-full xs more old (omega arith))

-- a list that has no room
overlaid-nothing : {A : Type 0} (xs : List A) → overlaid {A = A} xs [] ≡ []
overlaid-nothing [] = refl
overlaid-nothing (x ∷ xs) = refl

filled-nothing : {A : Type 0} (xs : List A) → filled_front {A = A} xs [] ≡ []
filled-nothing xs = filled-is xs [] ∙ overlaid-nothing xs

-- one item more
pub filled-next : {A : Type 0} (xs old : List A) (x : A) → length xs < length old → filled_front (xs ++ x ∷ []) old ≡ set (filled_front xs old) (length xs) x
filled-next xs old x low =
    filled-is (xs ++ x ∷ []) old ∙ overlaid-next xs old x low ∙ ap (λ l. set l (length xs) x) (sym (filled-is xs old))

-- no items
pub filled-none : {A : Type 0} (old : List A) → filled_front [] old ≡ old
filled-none old = filled-is [] old

-- items that find no room
pub filled-full : {A : Type 0} (xs more old : List A) → length old ≤ length xs → filled_front (xs ++ more) old ≡ filled_front xs old
filled-full xs more old all = filled-is (xs ++ more) old ∙ overlaid-full xs more old all ∙ sym (filled-is xs old)

-- items behind those that are there already
pub filled-behind : {A : Type 0} (xs ys old : List A) → filled_from (length xs) ys (filled_front xs old) ≡ filled_front (xs ++ ys) old
filled-behind [] ys old = ap (λ l. filled_front ys l) (filled-is [] old) ∙ refl
filled-behind (x ∷ xs) ys [] = filled-nothing ys
filled-behind (x ∷ xs) ys (y ∷ old) = ap (λ l. x ∷ l) (filled-behind xs ys old)

-- one item more, from an index on
pub from-next : {A : Type 0} (at : ℕ) (xs old : List A) (x : A) → at + length xs < length old
    → filled_from at (xs ++ x ∷ []) old ≡ set (filled_from at xs old) (at + length xs) x
from-next zero xs old x low =
    filled-next xs old x (omega arith) ∙ ap (λ n. set (filled_front xs old) n x) (omega arith)
from-next (suc at) xs [] x low = absurd (omega arith)
from-next (suc at) xs (y ∷ old) x low =
    let one : suc (at + length xs) ≡ suc at + length xs = omega arith in
    ap (λ l. y ∷ l) (from-next at xs old x (omega arith)) ∙ ap (λ n. set (y ∷ filled_from at xs old) n x) one

-- no item, or no room
pub from-none : {A : Type 0} (at : ℕ) (old : List A) → filled_from at [] old ≡ old
from-none zero old = filled-is [] old
from-none (suc at) [] = refl
from-none (suc at) (y ∷ old) = ap (λ l. y ∷ l) (from-none at old)

pub from-full : {A : Type 0} (at : ℕ) (xs more old : List A) → length old ≤ at + length xs → filled_from at (xs ++ more) old ≡ filled_from at xs old
from-full zero xs more old all = filled-full xs more old (omega arith)
from-full (suc at) xs more [] all = filled-nothing (xs ++ more) ∙ sym (filled-nothing xs)
from-full (suc at) xs more (y ∷ old) all = ap (λ l. y ∷ l) (from-full at xs more old (omega arith))

-- one item, at an index
pub one-item : {A : Type 0} (at : ℕ) (old : List A) (x : A) → at < length old → set old at x ≡ filled_from at (x ∷ []) old
one-item at old x low =
    sym (from-next at [] old x (omega arith) ∙ ap (λ l. set l (at + 0) x) (from-none at old) ∙ ap (λ n. set old n x) (omega arith))

pub no-room : {A : Type 0} (at : ℕ) (old : List A) (x : A) → length old ≤ at → old ≡ filled_from at (x ∷ []) old
no-room at old x all = sym (from-full at [] (x ∷ []) old (omega arith) ∙ from-none at old)

-- ---- items that are shown as others

-- one more of them
pub next-item : {A B : Type 0} (f : A → B) (items : List A) (i : ℕ) (x : A) → Some x ≡ slice_get items i
    → (map f (take (i + 1) items) ≡ map f (take i items) ++ f x ∷ []) × (length (map f (take i items)) ≡ i)
next-item {A} {B} f items i x e = (ap (λ n. map f (take n items)) (let one : i + 1 ≡ suc i = omega arith in one) ∙ (go items i e).0, (go items i e).1)
  where
    go : (items : List A) (i : ℕ) → Some x ≡ slice_get items i
        → (map f (take (suc i) items) ≡ map f (take i items) ++ f x ∷ []) × (length (map f (take i items)) ≡ i)
    go [] zero e = absurd (cc)
    go [] (suc i) e = absurd (cc)
    go (y ∷ items) zero e = (let same : y ≡ x = cc in ap (λ z. f z ∷ []) same, refl)
    go (y ∷ items) (suc i) e = (ap (λ l. f y ∷ l) (go items i e).0, ap suc (go items i e).1)

-- there is none behind the last
no-more-items : {A : Type 0} (items : List A) (i : ℕ) → None ≡ slice_get items i → length items ≤ i
no-more-items [] i e = omega arith
no-more-items (y ∷ items) zero e = absurd (cc)
no-more-items (y ∷ items) (suc i) e = omega (arith, no-more-items items i e)

got-item : {A : Type 0} (items : List A) (i : ℕ) (x : A) → i < length items → x ≡ get_or items i x → Some x ≡ slice_get items i
got-item [] i x low e = absurd (omega arith)
got-item (y ∷ items) zero x low e = ap Some e
got-item (y ∷ items) (suc i) x low e = got-item items i x (omega arith) e

-- one more, at its index
pub items-more : {A B : Type 0} (f : A → B) (items : List A) (i : ℕ) (x : A) (y : B) (old to later : List B) → y ≡ f x → Some x ≡ slice_get items i
    → to ≡ filled_front (map f (take i items)) old → later ≡ filled_from i (y ∷ []) to → later ≡ filled_front (map f (take (i + 1) items)) old
items-more f items i x y old to later is at same puts =
    let next = next-item f items i x at in
    puts ∙ ap (λ z. filled_from i (z ∷ []) to) is ∙ ap (filled_from i (f x ∷ [])) same
    ∙ ap (λ n. filled_from n (f x ∷ []) (filled_front (map f (take i items)) old)) (sym next.1)
    ∙ filled-behind (map f (take i items)) (f x ∷ []) old ∙ ap (λ l. filled_front l old) (sym next.0)

-- all of them
pub items-all : {A B : Type 0} (f : A → B) (items : List A) (i : ℕ) (old to : List B) → i ≤ length items → None ≡ slice_get items i
    → to ≡ filled_front (map f (take i items)) old → (to ≡ filled_front (map f items) old) × (i ≡ length items)
items-all f items i old to few at same =
    let past = no-more-items items i at in
    (same ∙ ap (λ l. filled_front (map f l) old) (take_all i items past), omega arith)

-- the same from an index on
pub fill-more : {A B : Type 0} (f : A → B) (items : List A) (at i : ℕ) (x : A) (y : B) (old to : List B) → i < length items → x ≡ get_or items i x → y ≡ f x
    → at + i < length old → to ≡ filled_from at (map f (take i items)) old → set to (at + i) y ≡ filled_from at (map f (take (i + 1) items)) old
fill-more f items at i x y old to low is shown room same =
    let next = next-item f items i x (got-item items i x low is) in
    let xs = map f (take i items) in
    ap (λ l. set l (at + i) y) same ∙ ap (set (filled_from at xs old) (at + i)) shown ∙ ap (λ n. set (filled_from at xs old) (at + n) (f x)) (sym next.1)
    ∙ sym (from-next at xs old (f x) (omega (arith, next.1))) ∙ ap (λ l. filled_from at l old) (sym next.0)

pub map-append : {A B : Type 0} (f : A → B) (xs ys : List A) → map f (xs ++ ys) ≡ map f xs ++ map f ys
map-append f [] ys = refl
map-append f (x ∷ xs) ys = ap (λ l. f x ∷ l) (map-append f xs ys)

length-taken : {A B : Type 0} (f : A → B) (items : List A) (n : ℕ) → n ≤ length items → length (map f (take n items)) ≡ n
length-taken f items zero few = refl
length-taken f [] (suc n) few = absurd (omega arith)
length-taken f (x ∷ items) (suc n) few = ap suc (length-taken f items n (omega arith))

pub fill-all : {A B : Type 0} (f : A → B) (items : List A) (at n : ℕ) (old to : List B) → n ≡ min (length items) (length old - at)
    → to ≡ filled_from at (map f (take n items)) old → to ≡ filled_from at (map f items) old
fill-all {A} {B} f items at n old to is same =
    same ∙ go (nat_le (length items) n) refl
    ∙ ap (λ l. filled_from at l old) (sym (map-append f (take n items) (drop n items)) ∙ ap (map f) (take-append-drop n items))
  where
    drop-past : (n : ℕ) (items : List A) → length items ≤ n → drop n items ≡ []
    drop-past zero [] all = refl
    drop-past zero (x ∷ items) all = absurd (omega arith)
    drop-past (suc n) [] all = refl
    drop-past (suc n) (x ∷ items) all = drop-past n items (omega arith)

    go : (b : Bool) → nat_le (length items) n ≡ b
        → filled_from at (map f (take n items)) old ≡ filled_from at (map f (take n items) ++ map f (drop n items)) old
    go true low =
        let all : length items ≤ n = grind (arith, tests) in
        ap (λ l. filled_from at l old) (sym (append-nil (map f (take n items))) ∙ ap (λ l. map f (take n items) ++ map f l) (sym (drop-past n items all)))
    go false low =
        let more : n < length items = grind (arith, tests) in
        let long = length-taken f items n (omega arith) in
        sym (from-full at (map f (take n items)) (map f (drop n items)) old (omega arith))
