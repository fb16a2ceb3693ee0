-- Why areas that are made of pages share out the pool, each page just once.
use Rattle.std.specs.Prelude.{◌≡◌, ℕ, zero, suc, ◌+◌, ◌-◌, ◌*◌, ◌<◌, ◌≤◌, ◌==◌, if◌then◌else◌, Bool, true, false, List, [], ◌∷◌, length, map, get_or, Some, None, cond, unwrap_or, refl}
use Rattle.std.proofs.Common.{inl, inr, sym, ap, ◌∙◌, arith}
use Rattle.std.proofs.lemmas.Bool.{cases_eq, cases_lt}
use Rattle.std.proofs.lemmas.Bool.Decides.{eqb_tells}
use Rattle.rh_defs.specs.declared.sizes.TheConstants.{PAGE}
use Rattle.rh_defs.specs.Memory.{Memory, bytes, pages_below}
use Rattle.rh_defs.specs.Pieces.{total}
use Rattle.rh_pages.specs.Inner.PagedKept.{length-bytes}
use Rattle.rh_pages.specs.Paged.{pool_number}
use Rattle.rh_pages.specs.Pages.{paged_bytes, list_at, paged_contents, paged_memory_in, IsPagedStore}
use Rattle.rh_store.specs.Shares.{times, times_all, SharesOut}

-- ---- sums

-- a sum over the numbers below a limit
abbrev sum_below : (ℕ → ℕ) → ℕ → ℕ
sum_below f zero = 0
sum_below f (suc n) = f n + sum_below f n

turned : (a b c : ℕ) → a + (b + c) ≡ b + (a + c)
turned a b c = omega arith

paired : (a b c d : ℕ) → (a + b) + (c + d) ≡ (a + c) + (b + d)
paired a b c d = omega arith

sum-both : (f g : ℕ → ℕ) (n : ℕ) → sum_below (λ k. f k + g k) n ≡ sum_below f n + sum_below g n
sum-both f g zero = refl
sum-both f g (suc n) = ap (λ k. (f n + g n) + k) (sum-both f g n) ∙ paired (f n) (g n) (sum_below f n) (sum_below g n)

sum-first : (f : ℕ → ℕ) (n : ℕ) → sum_below f (suc n) ≡ f 0 + sum_below (λ k. f (suc k)) n
sum-first f zero = refl
sum-first f (suc n) = ap (λ k. f (suc n) + k) (sum-first f n) ∙ turned (f (suc n)) (f 0) (sum_below (λ k. f (suc k)) n)

sum-none : (f : ℕ → ℕ) (n : ℕ) → ((k : ℕ) → k < n → f k ≡ 0) → sum_below f n ≡ 0
sum-none f zero e = refl
sum-none f (suc n) e = let here = e n (omega arith) in let rest = sum-none f n (λ k l. e k (omega arith)) in omega arith

-- where no member is more than 1, and the sum is as great as can be, each is 1
sum-most : (f : ℕ → ℕ) (n : ℕ) → ((k : ℕ) → f k ≤ 1) → sum_below f n ≤ n
sum-most f zero most = omega arith
sum-most f (suc n) most = let here = most n in let rest = sum-most f n most in omega arith

sum-full : (f : ℕ → ℕ) (n : ℕ) → ((k : ℕ) → f k ≤ 1) → sum_below f n ≡ n → (k : ℕ) → k < n → f k ≡ 1
sum-full f zero most e k l = absurd (omega arith)
sum-full f (suc n) most e k l =
    let here = most n in
    let rest = sum-most f n most in
    elim (cases_eq k n) [
      | inl q ↦ ap f q ∙ (let one : f n ≡ 1 = omega arith in one)
      | inr ne ↦ sum-full f n most (omega arith) k (omega arith)
    ]

-- ---- how often pages stand in lists

abbrev hit : ℕ → ℕ → ℕ
hit x k = if x == k then 1 else 0

hit-same : (x k : ℕ) → x ≡ k → hit x k ≡ 1
hit-same x k e = elim (eqb_tells x k) [ inl u ↦ ap (λ t. cond t 1 0) u.0 | inr v ↦ absurd (v.1 e) ]

hit-other : (x k : ℕ) → (x ≡ k → ⊥) → hit x k ≡ 0
hit-other x k ne = elim (eqb_tells x k) [ inl u ↦ absurd (ne u.1) | inr v ↦ ap (λ t. cond t 1 0) v.0 ]

hit-once : (x n : ℕ) → x < n → sum_below (hit x) n ≡ 1
hit-once x zero l = absurd (omega arith)
hit-once x (suc n) l = elim (cases_eq x n) [
  | inl q ↦ let here = hit-same x n q in let rest = sum-none (hit x) n (λ k below. hit-other x k (λ z. absurd (omega arith))) in omega arith
  | inr ne ↦ let here = hit-other x n ne in let rest = hit-once x n (omega arith) in omega arith
]

-- a list of pages below a limit, counted by pages
times-sum : (xs : List ℕ) (n : ℕ) → ((k : ℕ) → n ≤ k → times k xs ≡ 0) → sum_below (λ k. times k xs) n ≡ length xs
times-sum [] n none = sum-none (λ k. 0) n (λ k l. refl)
times-sum (x ∷ xs) n none = elim (cases_lt x n) [
  | inl l ↦
      let one = hit-once x n l in
      let rest = times-sum xs n (λ k h. let all = none k h in omega arith) in
      sum-both (hit x) (λ k. times k xs) n ∙ omega (arith, one, rest)
  | inr h ↦ let one = hit-same x x refl in let all = none x h in absurd (omega arith)
]

all-sum : (lists : List (List ℕ)) (n : ℕ) → ((k : ℕ) → n ≤ k → times_all k lists ≡ 0) → sum_below (λ k. times_all k lists) n ≡ total length lists
all-sum [] n none = sum-none (λ k. 0) n (λ k l. refl)
all-sum (xs ∷ lists) n none =
    let here = times-sum xs n (λ k h. let all = none k h in omega arith) in
    let rest = all-sum lists n (λ k h. let all = none k h in omega arith) in
    sum-both (λ k. times k xs) (λ k. times_all k lists) n ∙ omega (arith, here, rest)

-- lists, counted by their places
lengths-sum : (lists : List (List ℕ)) → sum_below (λ id. length (list_at lists id)) (length lists) ≡ total length lists
lengths-sum [] = refl
lengths-sum (xs ∷ lists) = sum-first (λ id. length (list_at (xs ∷ lists) id)) (length lists) ∙ ap (λ n. length xs + n) (lengths-sum lists)

-- ---- a store

module _ (region : List ℕ) (lists : List (List ℕ)) (opened : List Bool) (free : List ℕ) (pages limit : ℕ) (k : IsPagedStore region lists opened free pages limit) where
  area-long : (id : ℕ) → PAGE * length (list_at lists id) ≡ length (unwrap_or (paged_contents region lists opened id) [])
  unfolding paged_contents
  area-long id = go (get_or opened id false) refl
    where
      go : (b : Bool) → get_or opened id false ≡ b → PAGE * length (list_at lists id) ≡ length (unwrap_or (cond b (Some (paged_bytes region (list_at lists id))) None) [])
      go true e = sym (length-bytes region (list_at lists id))
      go false e = let none = ap length (k.empty id e) in omega arith

  pages-are : (n : ℕ) → pages_below (paged_contents region lists opened) n ≡ sum_below (λ id. length (list_at lists id)) n
  unfolding pages_below
  pages-are zero = refl
  pages-are (suc n) = let here = area-long n in let rest = pages-are n in omega arith

  counted : sum_below (λ j. times_all j lists + times j free) pages ≡ pages
  counted =
      let taken = all-sum lists pages (λ j h. let none = k.below j h in omega arith) in
      let given = times-sum free pages (λ j h. let none = k.below j h in omega arith) in
      let by_place = pages-are limit in
      let long = lengths-sum lists in
      let table = ap (sum_below (λ id. length (list_at lists id))) k.table in
      let sum = k.ledger in
      sum-both (λ j. times_all j lists) (λ j. times j free) pages ∙ omega (arith, taken, given, by_place, long, table, sum)

  pub shared_out : SharesOut (paged_memory_in region lists opened free pages) lists free
  unfolding bytes
  shared_out = record {
    areas = area-long;
    frees = refl;
    once = λ j l. sum-full (λ i. times_all i lists + times i free) pages k.once counted j l;
    below = k.below;
  }

-- ---- pages that are counted from the end

length-back : (f : ℕ → ℕ) (xs : List ℕ) → length (map f xs) ≡ length xs
length-back f [] = refl
length-back f (x ∷ xs) = ap suc (length-back f xs)

list-back : (f : ℕ → ℕ) (lists : List (List ℕ)) (id : ℕ) → length (get_or (map (map f) lists) id []) ≡ length (get_or lists id [])
list-back f [] id = refl
list-back f (xs ∷ lists) zero = length-back f xs
list-back f (xs ∷ lists) (suc id) = list-back f lists id

hit-back : (n x k : ℕ) → x < n → k < n → hit (n - 1 - x) k ≡ hit x (n - 1 - k)
hit-back n x k lx lk = elim (cases_eq x (n - 1 - k)) [
  | inl q ↦ hit-same (n - 1 - x) k (omega arith) ∙ sym (hit-same x (n - 1 - k) q)
  | inr ne ↦ hit-other (n - 1 - x) k (λ e. ne (omega arith)) ∙ sym (hit-other x (n - 1 - k) ne)
]

module _ (n k : ℕ) where
  times-back : (xs : List ℕ) → ((j : ℕ) → n ≤ j → times j xs ≡ 0) → k < n → times k (map (pool_number n) xs) ≡ times (n - 1 - k) xs
  times-back [] none lk = refl
  times-back (x ∷ xs) none lk = elim (cases_lt x n) [
    | inl l ↦
        let here = hit-back n x k l lk in
        let rest = times-back xs (λ j h. let all = none j h in omega arith) lk in omega arith
    | inr h ↦ let one = hit-same x x refl in let all = none x h in absurd (omega arith)
  ]

  times-back_past : (xs : List ℕ) → ((j : ℕ) → n ≤ j → times j xs ≡ 0) → n ≤ k → times k (map (pool_number n) xs) ≡ 0
  times-back_past [] none le = refl
  times-back_past (x ∷ xs) none le = elim (cases_lt x n) [
    | inl l ↦
        let here = hit-other (n - 1 - x) k (λ e. absurd (omega arith)) in
        let rest = times-back_past xs (λ j h. let all = none j h in omega arith) le in omega arith
    | inr h ↦ let one = hit-same x x refl in let all = none x h in absurd (omega arith)
  ]

  all-back : (lists : List (List ℕ)) → ((j : ℕ) → n ≤ j → times_all j lists ≡ 0) → k < n
      → times_all k (map (map (pool_number n)) lists) ≡ times_all (n - 1 - k) lists
  all-back [] none lk = refl
  all-back (xs ∷ lists) none lk =
      let here = times-back xs (λ j h. let all = none j h in omega arith) lk in
      let rest = all-back lists (λ j h. let all = none j h in omega arith) lk in omega arith

  all-back_past : (lists : List (List ℕ)) → ((j : ℕ) → n ≤ j → times_all j lists ≡ 0) → n ≤ k → times_all k (map (map (pool_number n)) lists) ≡ 0
  all-back_past [] none le = refl
  all-back_past (xs ∷ lists) none le =
      let here = times-back_past xs (λ j h. let all = none j h in omega arith) le in
      let rest = all-back_past lists (λ j h. let all = none j h in omega arith) le in omega arith

-- pages that share out a pool do by their numbers in it
pub numbered_out : (m : Memory) (lists : List (List ℕ)) (free : List ℕ) → SharesOut m lists free
    → SharesOut m (map (map (pool_number m.pages)) lists) (map (pool_number m.pages) free)
numbered_out m lists free shared = record {
  areas = λ id. ap (λ n. PAGE * n) (list-back (pool_number m.pages) lists id) ∙ shared.areas id;
  frees = length-back (pool_number m.pages) free ∙ shared.frees;
  once = λ k l.
      let here = all-back m.pages k lists (λ j h. let all = shared.below j h in omega arith) l in
      let there = times-back m.pages k free (λ j h. let all = shared.below j h in omega arith) l in
      let one = shared.once (m.pages - 1 - k) (omega arith) in omega arith;
  below = λ k h.
      let here = all-back_past m.pages k lists (λ j h. let all = shared.below j h in omega arith) h in
      let there = times-back_past m.pages k free (λ j h. let all = shared.below j h in omega arith) h in omega arith;
}
