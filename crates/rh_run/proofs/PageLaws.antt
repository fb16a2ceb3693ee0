-- The numbers of a store's pages are those of its pool.
use Rattle.std.proofs.Common.{◌≡◌, ℕ, zero, suc, ◌+◌, ◌*◌, ◌<◌, ◌≤◌, ap, arith, inl, inr, List, [], ◌∷◌, length, get_or, refl, sym, take, ◌∙◌, ◌++◌, eq-eqb}
use Rattle.std.specs.Prelude.{cond}
use Rattle.std.proofs.lemmas.Bool.{cases_lt}
use Rattle.std.proofs.lemmas.List.{append_assoc, take_all, take_more}
use Rattle.rh_defs.specs.declared.sizes.TheConstants.{MAX_PAGES, PAGE}
use Rattle.rh_defs.specs.Memory.{Memory, bytes}
use Rattle.rh_store.specs.Shares.{SharesOut, times, times_all}

-- a member of a list stands in it
stands : (xs : List ℕ) (i d : ℕ) → i < length xs → 1 ≤ times (get_or xs i d) xs
stands [] i d l = absurd (omega arith)
stands (x ∷ xs) zero d l = let here : 1 ≤ times x (x ∷ xs) = omega (arith, ap {B = ℕ} (λ b. cond b 1 0) (eq-eqb x x refl)) in here
stands (x ∷ xs) (suc i) d l = let rest = stands xs i d (omega arith) in omega arith

-- a list of all lists has no page more often than all have it
among : (k : ℕ) (lists : List (List ℕ)) (id : ℕ) → times k (get_or lists id []) ≤ times_all k lists
among k [] id = omega arith
among k (x ∷ lists) zero = omega arith
among k (x ∷ lists) (suc id) = let rest = among k lists id in omega arith

module _ (m : Memory) (lists : List (List ℕ)) (free : List ℕ) (shares : SharesOut m lists free) where
  pub area-long : (id : ℕ) → PAGE * length (get_or lists id []) ≡ length (bytes m id)
  area-long id = shares.areas id

  small : m.pages ≤ MAX_PAGES → (k : ℕ) → 1 ≤ times_all k lists + times k free → k < MAX_PAGES
  small few k some = elim (cases_lt k m.pages) [
    | inl l ↦ omega arith
    | inr h ↦ let none = shares.below k h in absurd (omega arith)
  ]

  pub free-small : m.pages ≤ MAX_PAGES → (i d : ℕ) → i < length free → get_or free i d < MAX_PAGES
  free-small few i d l = small few (get_or free i d) (let here = stands free i d l in omega arith)

  pub area-small : m.pages ≤ MAX_PAGES → (id i d : ℕ) → i < length (get_or lists id []) → get_or (get_or lists id []) i d < MAX_PAGES
  area-small few id i d l =
      let pages : List ℕ = get_or lists id [] in
      small few (get_or pages i d) (let here = stands pages i d l in let all = among (get_or pages i d) lists id in omega arith)

-- a list to which pages are appended one by one
module _ (old items pages : List ℕ) (i : ℕ) (so_far : items ≡ old ++ take i pages) where
  pub one-more : (k : ℕ) → i < length pages → k ≡ get_or pages i 0 → items ++ k ∷ [] ≡ old ++ take (i + 1) pages
  one-more k l e =
      ap (λ n. items ++ n ∷ []) e ∙ ap (λ l. l ++ get_or pages i 0 ∷ []) so_far ∙ append_assoc old (take i pages) (get_or pages i 0 ∷ [])
      ∙ ap (λ l. old ++ l) (sym (take_more pages i 0 l))

  pub all-there : length pages ≤ i → items ≡ old ++ pages
  all-there l = so_far ∙ ap (λ l. old ++ l) (take_all i pages l)
