-- Lists whose members are found, edited, added and left out: what holds of each member, and their sizes.
use Rattle.rh_defs.proofs.Common.{◌≡◌, ℕ, zero, suc, ◌+◌, ◌≤◌, ◌<◌, Bool, true, false, cond, refl, ap, sym, subst, arith, List, [], ◌∷◌, ◌++◌, length, map}
use Rattle.rh_defs.proofs.Common.{set, get_or, Option, Some, None, IfSome, ◌==◌, find, filter, not, AllByRecursion, total}
use Rattle.rh_defs.specs.Laws.{Rise}

-- ---- what holds of each member

pub all-mono : {A : Type 0} {P Q : A → Type 0} (f : (x : A) → P x → Q x) (xs : List A) → AllByRecursion P xs → AllByRecursion Q xs
all-mono f [] all = tt
all-mono f (x ∷ xs) all = (f x all.0, all-mono f xs all.1)

pub all-join : {A : Type 0} (P : A → Type 0) (xs ys : List A) → AllByRecursion P xs → AllByRecursion P ys → AllByRecursion P (xs ++ ys)
all-join P [] ys f g = g
all-join P (x ∷ xs) ys f g = (f.0, all-join P xs ys f.1 g)

pub append-all : {A : Type 0} (P : A → Type 0) (xs : List A) (y : A) → AllByRecursion P xs → P y → AllByRecursion P (xs ++ y ∷ [])
append-all P xs y all p = all-join P xs (y ∷ []) all (p, tt)

-- what there is equals itself
pub some-is : {A : Type 0} (o : Option A) → IfSome o (λ x. o ≡ Some x)
some-is None = tt
some-is (Some x) = refl

pub find-all : {A : Type 0} (P : A → Type 0) (test : A → Bool) (xs : List A) → AllByRecursion P xs → IfSome (find test xs) P
find-all P test [] all = tt
find-all P test (x ∷ xs) all =
    elim (test x) as (λ b. IfSome (cond b (Some x) (find test xs)) P) [ true ↦ all.0 | false ↦ find-all P test xs all.1 ]

pub filter-all : {A : Type 0} (P : A → Type 0) (test : A → Bool) (xs : List A) → AllByRecursion P xs → AllByRecursion P (filter test xs)
filter-all P test [] all = tt
filter-all P test (x ∷ xs) all =
    elim (test x) as (λ b. AllByRecursion P (cond b (x ∷ filter test xs) (filter test xs)))
    [ true ↦ (all.0, filter-all P test xs all.1) | false ↦ filter-all P test xs all.1 ]

-- what passes the test, too
pub filter-passes : {A : Type 0} (P : A → Type 0) (test : A → Bool) (xs : List A) → AllByRecursion P xs
    → AllByRecursion (λ x. P x × (test x ≡ true)) (filter test xs)
filter-passes P test [] all = tt
filter-passes {A} P test (x ∷ xs) all = go (test x) refl (filter-passes P test xs all.1)
  where
    go : (b : Bool) → test x ≡ b → AllByRecursion (λ x. P x × (test x ≡ true)) (filter test xs)
        → AllByRecursion (λ x. P x × (test x ≡ true)) (cond b (x ∷ filter test xs) (filter test xs))
    go true e rest = ((all.0, e), rest)
    go false e rest = rest

-- ---- sizes

pub filter-total : {A : Type 0} (size : A → ℕ) (test : A → Bool) (xs : List A) → total size (filter test xs) ≤ total size xs
filter-total size test [] = omega arith
filter-total size test (x ∷ xs) =
    elim (test x) as (λ b. total size (cond b (x ∷ filter test xs) (filter test xs)) ≤ size x + total size xs)
    [ true ↦ omega (arith, filter-total size test xs) | false ↦ omega (arith, filter-total size test xs) ]

pub filter-length : {A : Type 0} (test : A → Bool) (xs : List A) → length (filter test xs) ≤ length xs
filter-length test [] = omega arith
filter-length test (x ∷ xs) =
    elim (test x) as (λ b. length (cond b (x ∷ filter test xs) (filter test xs)) ≤ length (x ∷ xs))
    [ true ↦ omega (arith, filter-length test xs) | false ↦ omega (arith, filter-length test xs) ]

-- a list is as long as what passes a test and what doesn't
pub filter-both : {A : Type 0} (test : A → Bool) (xs : List A) → length (filter (λ x. not (test x)) xs) + length (filter test xs) ≡ length xs
filter-both test [] = refl
filter-both test (x ∷ xs) =
    elim (test x) as (λ b. length (cond (not b) (x ∷ filter (λ x. not (test x)) xs) (filter (λ x. not (test x)) xs)) + length
    (cond b (x ∷ filter test xs) (filter test xs)) ≡ length (x ∷ xs))
    [ true ↦ omega (arith, filter-both test xs) | false ↦ omega (arith, filter-both test xs) ]

-- the sum of numbers, one of which is another
pub total-set : (xs : List ℕ) (k n : ℕ) → k < length xs → total (λ m. m) (set xs k n) + get_or xs k 0 ≡ total (λ m. m) xs + n
total-set [] k n h = absurd (omega arith)
total-set (x ∷ xs) zero n h = omega arith
total-set (x ∷ xs) (suc k) n h = omega (arith, total-set xs k n (omega arith))

-- ---- members' numbers

pub map-filter : {A : Type 0} (number : A → ℕ) (test : ℕ → Bool) (xs : List A) → map number (filter (λ x. test (number x)) xs) ≡ filter test (map number xs)
map-filter number test [] = refl
map-filter number test (x ∷ xs) =
    elim (test (number x)) as (λ b. map number (cond b (x ∷ filter (λ x. test (number x)) xs) (filter (λ x. test (number x)) xs)) ≡ cond b
    (number x ∷ filter test (map number xs)) (filter test (map number xs)))
    [ true ↦ ap (λ ns. number x ∷ ns) (map-filter number test xs) | false ↦ map-filter number test xs ]

module _ {A : Type 0} (number : A → ℕ) where
  pub rise-below : (least next : ℕ) (xs : List A) → Rise number least next xs → least ≤ next
  rise-below least next [] h = h
  rise-below least next (x ∷ xs) h = omega (arith, h.0, rise-below (number x + 1) next xs h.1)

  pub rise-lower : (least lower next : ℕ) (xs : List A) → lower ≤ least → Rise number least next xs → Rise number lower next xs
  rise-lower least lower next [] l h = omega (arith, l, h)
  rise-lower least lower next (x ∷ xs) l h = (omega (arith, l, h.0), h.1)

  pub rise-append : (least next : ℕ) (xs : List A) (x : A) → Rise number least next xs → number x ≡ next → Rise number least (next + 1) (xs ++ x ∷ [])
  rise-append least next [] x h e = (omega (arith, h, e), omega (arith, e))
  rise-append least next (y ∷ xs) x h e = (h.0, rise-append (number y + 1) next xs x h.1 e)

  pub rise-filter : (test : A → Bool) (least next : ℕ) (xs : List A) → Rise number least next xs → Rise number least next (filter test xs)
  rise-filter test least next [] h = h
  rise-filter test least next (x ∷ xs) h =
      elim (test x) as (λ b. Rise number least next (cond b (x ∷ filter test xs) (filter test xs))) [
        | true ↦ (h.0, rise-filter test (number x + 1) next xs h.1)
        | false ↦ rise-lower (number x + 1) least next (filter test xs) (omega (arith, h.0)) (rise-filter test (number x + 1) next xs h.1)
      ]

  -- the order is one of the numbers alone
  pub rise-same : (least next : ℕ) (xs ys : List A) → map number ys ≡ map number xs → Rise number least next xs → Rise number least next ys
  rise-same least next [] [] e h = h
  rise-same least next [] (y ∷ ys) e h = absurd cc
  rise-same least next (x ∷ xs) [] e h = absurd cc
  rise-same least next (x ∷ xs) (y ∷ ys) e h =
      let here : number y ≡ number x = cc in
      let rest : map number ys ≡ map number xs = cc in
      (omega (arith, h.0, here), rise-same (number y + 1) next xs ys rest (subst (λ n. Rise number (n + 1) next xs) (sym here) h.1))

  -- a member that a test finds has at least the least number
  pub found-above : (test : A → Bool) (least next : ℕ) (xs : List A) (x : A) → Rise number least next xs → find test xs ≡ Some x → least ≤ number x
  found-above test least next [] x h e = absurd cc
  found-above test least next (y ∷ xs) x h e =
      elim (test y) as (λ b. cond b (Some y) (find test xs) ≡ Some x → least ≤ number x) [
        | true ↦ λ (q : Some y ≡ Some x). (let same : y ≡ x = cc in omega (arith, h.0, ap number same))
        | false ↦ λ (q : find test xs ≡ Some x). omega (arith, h.0, found-above test (number y + 1) next xs x h.1 q)
      ] e

  -- a member that a test finds is the one of its number
  pub number-finds : (test : A → Bool) (least next : ℕ) (xs : List A) (x : A) → Rise number least next xs → find test xs ≡ Some x
      → find (λ y. number y == number x) xs ≡ Some x
  number-finds test least next [] x h e = absurd cc
  number-finds test least next (y ∷ xs) x h e =
      elim (test y) as (λ b. cond b (Some y) (find test xs) ≡ Some x → cond (number y == number x) (Some y) (find (λ y. number y == number x) xs) ≡ Some x) [
        | true ↦ λ (q : Some y ≡ Some x). (let same : y ≡ x = cc in rw same (rw (equal (number x)) refl))
        | false ↦ λ (q : find test xs ≡ Some x).
            (rw (not_equal (number x) (number y) (found-above test (number y + 1) next xs x h.1 q)) (number-finds test (number y + 1) next xs x h.1 q))
      ] e
    where
      equal : (a : ℕ) → (a == a) ≡ true
      equal a = grind arith

      not_equal : (a b : ℕ) → b + 1 ≤ a → (b == a) ≡ false
      not_equal a b h = grind arith
