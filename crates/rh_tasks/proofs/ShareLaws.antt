-- Each page of the pool is one of the listed areas', or free, just once.
use Rattle.rh_tasks.proofs.Common.{◌≡◌, ◌≢◌, ℕ, zero, suc, ◌+◌, ◌*◌, ◌<◌, ◌≤◌, inl, inr, refl, ap, sym, subst, ◌∙◌, arith, List, [], ◌∷◌, length, Option}
use Rattle.rh_tasks.proofs.Common.{Some, None, IsSome, unwrap_or, AllByRecursion, cases_eq, Memory, IsOpen, bytes, open_below, total, MAX_AREAS, PAGE, Shown}
use Rattle.rh_tasks.proofs.Common.{AreDistinct, Avoids}
use Rattle.std.proofs.Common.{get_or}
use Rattle.std.specs.Prelude.{set}
use Rattle.rh_defs.specs.Memory.{area_set, one_if_open}
use Rattle.rh_defs.proofs.MemoryLaws.{area_set-other, open_below-set}
use Rattle.rh_store.specs.Shares.{SharesOut, times, times_all}
use Rattle.rh_tasks.specs.Standing.{StandsIn}

-- ---- the pages of some lists
abbrev pub list_at : List (List ℕ) → ℕ → List ℕ
list_at lists id = get_or lists id []

emptied-here : (lists : List (List ℕ)) (id : ℕ) → list_at (set lists id []) id ≡ []
emptied-here [] id = refl
emptied-here (x ∷ lists) zero = refl
emptied-here (x ∷ lists) (suc id) = emptied-here lists id

emptied-other : (lists : List (List ℕ)) (id j : ℕ) → j ≢ id → list_at (set lists id []) j ≡ list_at lists j
emptied-other [] id j ne = refl
emptied-other (x ∷ lists) zero zero ne = absurd (ne refl)
emptied-other (x ∷ lists) zero (suc j) ne = refl
emptied-other (x ∷ lists) (suc id) zero ne = refl
emptied-other (x ∷ lists) (suc id) (suc j) ne = emptied-other lists id j (λ e. ne (ap suc e))

-- a list is emptied
times-emptied : (k : ℕ) (lists : List (List ℕ)) (id : ℕ) → times k (list_at lists id) + times_all k (set lists id []) ≡ times_all k lists
times-emptied k [] id = refl
times-emptied k (x ∷ lists) zero = omega arith
times-emptied k (x ∷ lists) (suc id) = let rest = times-emptied k lists id in omega arith

none-all : (k : ℕ) (lists : List (List ℕ)) → ((id : ℕ) → list_at lists id ≡ []) → times_all k lists ≡ 0
none-all k [] none = refl
none-all k (x ∷ lists) none = let here = ap (times k) (none 0) in let rest = none-all k lists (λ id. none (suc id)) in omega arith

total-same : (f g : ℕ → ℕ) (ids : List ℕ) → AllByRecursion (λ id. f id ≡ g id) ids → total f ids ≡ total g ids
total-same f g [] e = refl
total-same f g (id ∷ ids) e = ap (λ n. n + total f ids) e.0 ∙ ap (λ n. g id + n) (total-same f g ids e.1)

others-same : (k id : ℕ) (lists : List (List ℕ)) (ids : List ℕ) → Avoids id ids
    → AllByRecursion (λ j. times k (list_at (set lists id []) j) ≡ times k (list_at lists j)) ids
others-same k id lists [] off = tt
others-same k id lists (j ∷ ids) off = (ap (times k) (emptied-other lists id j off.0), others-same k id lists ids off.1)

-- where all other lists are empty, these have all pages
listed-all : (k : ℕ) (ids : List ℕ) (lists : List (List ℕ)) → AreDistinct ids → ((id : ℕ) → Avoids id ids → list_at lists id ≡ [])
    → total (λ id. times k (list_at lists id)) ids ≡ times_all k lists
listed-all k [] lists apart none = sym (none-all k lists (λ id. none id tt))
listed-all k (id ∷ ids) lists apart none =
    ap (λ n. times k (list_at lists id) + n)
    (sym (total-same (λ j. times k (list_at (set lists id []) j)) (λ j. times k (list_at lists j)) ids (others-same k id lists ids apart.0))
    ∙ listed-all k ids (set lists id []) apart.1 (λ j off. elim (cases_eq j id) [
      | inl e ↦ ap (list_at (set lists id [])) e ∙ emptied-here lists id
      | inr ne ↦ emptied-other lists id j ne ∙ none j ((λ q. ne (sym q)), off)
    ]))
    ∙ times-emptied k lists id

-- ---- no other area is open
opened-one : (o : Option (List ℕ)) → IsSome o → one_if_open o ≡ 1
opened-one (Some x) s = refl
opened-one None s = absurd cc

still-open : (area : ℕ → Option (List ℕ)) (id limit : ℕ) (ids : List ℕ) → Avoids id ids → AllByRecursion (λ j. IsSome (area j) × (j < limit)) ids
    → AllByRecursion (λ j. IsSome (area_set area id None j) × (j < limit)) ids
still-open area id limit [] off all = tt
still-open area id limit (j ∷ ids) off all =
    ((subst IsSome (sym (area_set-other area id None j off.0)) all.0.0, all.0.1), still-open area id limit ids off.1 all.1)

-- so many areas are open at least
enough-open : (area : ℕ → Option (List ℕ)) (limit : ℕ) (ids : List ℕ) → AreDistinct ids → AllByRecursion (λ j. IsSome (area j) × (j < limit)) ids
    → length ids ≤ open_below area limit
enough-open area limit [] apart all = omega arith
enough-open area limit (id ∷ ids) apart all =
    let rest = enough-open (area_set area id None) limit ids apart.1 (still-open area id limit ids apart.0 all.1) in
    let one = open_below-set area id None limit all.0.1 in
    let here = opened-one (area id) all.0.0 in
    omega arith

all-with : (P Q : ℕ → Type 0) (ids : List ℕ) → ((id : ℕ) → P id → Q id) → AllByRecursion P ids → AllByRecursion (λ id. P id × Q id) ids
all-with P Q [] f all = tt
all-with P Q (id ∷ ids) f all = ((all.0, f id all.0), all-with P Q ids f all.1)

none-here : (o : Option (List ℕ)) → (IsSome o → ⊥) → length (unwrap_or o []) ≡ 0
none-here None shut = refl
none-here (Some x) shut = absurd (shut refl)

no-pages : (n : ℕ) (xs : List ℕ) → PAGE * length xs ≡ n → n ≡ 0 → xs ≡ []
no-pages n [] e z = refl
no-pages n (x ∷ xs) e z = absurd (omega arith)

module _ {m : Memory} {ids : List ℕ} {s : Shown} (w : StandsIn m ids s) (numbered : (id : ℕ) → IsOpen m id → id < MAX_AREAS) where
  pub closed-elsewhere : (id : ℕ) → Avoids id ids → IsOpen m id → ⊥
  closed-elsewhere id off o =
      let count = w.count in
      let more = enough-open m.area MAX_AREAS (id ∷ ids) (off, w.apart) ((o, numbered id o), all-with (IsOpen m) (λ j. j < MAX_AREAS) ids numbered w.opened) in
      absurd (omega arith)

  -- each page of the pool is one listed area's or free
  pub page-once : (lists : List (List ℕ)) (free : List ℕ) → SharesOut m lists free → (k : ℕ) → k < m.pages
      → total (λ id. times k (list_at lists id)) ids + times k free ≡ 1
  unfolding bytes
  page-once lists free share k l =
      let none : (id : ℕ) → Avoids id ids → list_at lists id ≡ [] =
      λ id off. no-pages _ (list_at lists id) (share.areas id) (none-here (m.area id) (closed-elsewhere id off)) in
      ap (λ n. n + times k free) (listed-all k ids lists w.apart none) ∙ share.once k l
