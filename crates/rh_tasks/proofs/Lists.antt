-- Members of lists, by their places, and lists of numbers no two of which are one.
use Rattle.std.proofs.Common.{◌≡◌, ℕ, zero, suc, ◌<◌, ◌≤◌, ◌≢◌, ap, subst, arith, List, [], ◌∷◌, ◌++◌, length, sym}
use Rattle.std.specs.Prelude.{map}
use Rattle.std.proofs.Math.ListN.{get_or, set}
use Rattle.std.proofs.lemmas.List.{set-get_or}
use Rattle.std.specs.List.{AllByRecursion, remove}
use Rattle.rh_tasks.specs.View.{Avoids, AreDistinct}

-- the member stands at this place
pub record Sits {A : Type 0} (xs : List A) (i : ℕ) (x : A) : Type 0 where
  pub inside : i < length xs
  pub is : get_or xs i x ≡ x

pub cons : {A : Type 0} {x y : A} {xs ys : List A} → x ≡ y → xs ≡ ys → x ∷ xs ≡ y ∷ ys
cons p q = cc

pub set_same : {A : Type 0} (xs : List A) (i : ℕ) (x : A) → Sits xs i x → set xs i x ≡ xs
set_same {A} xs i x at = let P : A → Type 0 = λ y. set xs i y ≡ xs in subst P at.is (set-get_or xs i x)

-- ---- what holds of all members

pub all-at : {A : Type 0} (P : A → Type 0) (xs : List A) (i : ℕ) (x : A) → AllByRecursion P xs → Sits xs i x → P x
all-at P [] i x all at = absurd (omega (arith, at.inside))
all-at P (y ∷ xs) zero x all at = subst P at.is all.0
all-at P (y ∷ xs) (suc i) x all at = all-at P xs i x all.1 (record { inside = omega (arith, at.inside); is = at.is })

pub all-set : {A : Type 0} (P : A → Type 0) (xs : List A) (i : ℕ) (x : A) → AllByRecursion P xs → P x → AllByRecursion P (set xs i x)
all-set P [] i x all p = tt
all-set P (y ∷ xs) zero x all p = (p, all.1)
all-set P (y ∷ xs) (suc i) x all p = (all.0, all-set P xs i x all.1 p)

pub all-map : {A : Type 0} (P Q : A → Type 0) (xs : List A) → ((x : A) → P x → Q x) → AllByRecursion P xs → AllByRecursion Q xs
all-map P Q [] f all = tt
all-map P Q (x ∷ xs) f all = (f x all.0, all-map P Q xs f all.1)

pub all-push : {A : Type 0} (P : A → Type 0) (xs : List A) (x : A) → AllByRecursion P xs → P x → AllByRecursion P (xs ++ x ∷ [])
all-push P [] x all p = (p, tt)
all-push P (y ∷ xs) x all p = (all.0, all-push P xs x all.1 p)

-- ---- numbers that are none of others

pub avoids-at : {A : Type 0} (f : A → ℕ) (a : ℕ) (xs : List A) (i : ℕ) (x : A) → Avoids a (map f xs) → Sits xs i x → f x ≢ a
avoids-at {A} f a [] i x all at = absurd (omega (arith, at.inside))
avoids-at {A} f a (y ∷ xs) zero x all at = let P : A → Type 0 = λ z. f z ≢ a in subst P at.is all.0
avoids-at {A} f a (y ∷ xs) (suc i) x all at = avoids-at f a xs i x all.1 (record { inside = omega (arith, at.inside); is = at.is })

-- another way round: each member's number is none of a list's, so none of the list's is a member's
pub avoids-back : {A : Type 0} (f : A → ℕ) (ids : List ℕ) (xs : List A) → AllByRecursion (λ x. Avoids (f x) ids) xs → (i : ℕ) (id : ℕ) → Sits ids i id
    → Avoids id (map f xs)
avoids-back f ids [] all i id at = tt
avoids-back f ids (x ∷ xs) all i id at =
    ((λ q. all-at (λ other. other ≢ f x) ids i id all.0 at (sym q)), avoids-back f ids xs all.1 i id at)

-- numbers from a bound on avoid one below it
pub avoids-below : {A : Type 0} (f : A → ℕ) (bound k : ℕ) (xs : List A) → k < bound → AllByRecursion (λ x. bound ≤ f x) xs → Avoids k (map f xs)
avoids-below f bound k [] low all = tt
avoids-below f bound k (x ∷ xs) low all = ((λ q. absurd (omega (arith, all.0))), avoids-below f bound k xs low all.1)

pub avoids-push : {A : Type 0} (f : A → ℕ) (k : ℕ) (xs : List A) (x : A) → Avoids k (map f xs) → f x ≢ k → Avoids k (map f (xs ++ x ∷ []))
avoids-push f k [] x all ne = (ne, tt)
avoids-push f k (y ∷ xs) x all ne = (all.0, avoids-push f k xs x all.1 ne)

-- a list with one more member, whose number is none of the others'
pub distinct-push : {A : Type 0} (f : A → ℕ) (xs : List A) (x : A) → AreDistinct (map f xs) → Avoids (f x) (map f xs) → AreDistinct (map f (xs ++ x ∷ []))
distinct-push f [] x all off = (tt, tt)
distinct-push f (y ∷ xs) x all off = (avoids-push f (f y) xs x all.0 (λ q. off.0 (sym q)), distinct-push f xs x all.1 off.1)

-- ---- a member away

pub all-removed : {A : Type 0} (P : A → Type 0) (xs : List A) (i : ℕ) → AllByRecursion P xs → AllByRecursion P (remove xs i)
all-removed P [] zero all = tt
all-removed P [] (suc i) all = tt
all-removed P (x ∷ xs) zero all = all.1
all-removed P (x ∷ xs) (suc i) all = (all.0, all-removed P xs i all.1)

pub avoids-fewer : {A : Type 0} (f : A → ℕ) (k : ℕ) (xs : List A) (i : ℕ) → Avoids k (map f xs) → Avoids k (map f (remove xs i))
avoids-fewer f k [] zero all = tt
avoids-fewer f k [] (suc i) all = tt
avoids-fewer f k (x ∷ xs) zero all = all.1
avoids-fewer f k (x ∷ xs) (suc i) all = (all.0, avoids-fewer f k xs i all.1)

pub distinct-removed : {A : Type 0} (f : A → ℕ) (xs : List A) (i : ℕ) → AreDistinct (map f xs) → AreDistinct (map f (remove xs i))
distinct-removed f [] zero all = tt
distinct-removed f [] (suc i) all = tt
distinct-removed f (x ∷ xs) zero all = all.1
distinct-removed f (x ∷ xs) (suc i) all = (avoids-fewer f (f x) xs i all.0, distinct-removed f xs i all.1)

-- the others' numbers are not that of the member
pub avoids-removed : {A : Type 0} (f : A → ℕ) (xs : List A) (i : ℕ) (x : A) → Sits xs i x → AreDistinct (map f xs) → Avoids (f x) (map f (remove xs i))
avoids-removed f [] i x at all = absurd (omega (arith, at.inside))
avoids-removed f (y ∷ xs) zero x at all = let P : ℕ → Type 0 = λ k. Avoids k (map f xs) in subst P (ap f at.is) all.0
avoids-removed f (y ∷ xs) (suc i) x at all =
    let rest : Sits xs i x = record { inside = omega (arith, at.inside); is = at.is } in
    ((λ q. avoids-at f (f y) xs i x all.0 rest (sym q)), avoids-removed f xs i x rest all.1)
