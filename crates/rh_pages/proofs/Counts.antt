-- How often a page stands in page lists.
use Rattle.rh_pages.proofs.Common.{◌≡◌, ◌≢◌, ℕ, zero, suc, ◌+◌, ◌<◌, ◌≤◌, inl, inr, List, [], ◌∷◌, ◌++◌, length, get_or, set, refl, ap, arith, list_at, times}
use Rattle.rh_pages.proofs.Common.{times_all}
use Rattle.rh_pages.proofs.Chunks.{one_if, head_tells, stands}

pub times-push : (j k : ℕ) (xs : List ℕ) → times j (xs ++ k ∷ []) ≡ times j xs + one_if k j
times-push j k [] = let z : one_if k j + 0 ≡ 0 + one_if k j = omega arith in z
times-push j k (x ∷ xs) = let rest = times-push j k xs in omega arith

pub one_self : (k : ℕ) → one_if k k ≡ 1
one_self k = elim (head_tells k k) [ inl h ↦ h.1 | inr h ↦ absurd (h.0 refl) ]

-- a list is exchanged
pub times_all-set : (j : ℕ) (ks : List ℕ) (xs : List (List ℕ)) (id : ℕ) → id < length xs
    → times_all j (set xs id ks) + times j (list_at xs id) ≡ times_all j xs + times j ks
times_all-set j ks [] id lt = absurd (omega arith)
times_all-set j ks (x ∷ xs) zero lt = omega arith
times_all-set j ks (x ∷ xs) (suc id) lt = let rest = times_all-set j ks xs id (omega arith) in omega arith

-- one list of them
pub times_at : (j : ℕ) (xs : List (List ℕ)) (id : ℕ) → times j (list_at xs id) ≤ times_all j xs
times_at j [] id = omega arith
times_at j (x ∷ xs) zero = omega arith
times_at j (x ∷ xs) (suc id) = let rest = times_at j xs id in omega arith

-- two of them
pub times_two : (k : ℕ) (xs : List (List ℕ)) (i j : ℕ) → i ≢ j → times k (list_at xs i) + times k (list_at xs j) ≤ times_all k xs
times_two k [] i j ne = omega arith
times_two k (x ∷ xs) zero zero ne = absurd (ne refl)
times_two k (x ∷ xs) zero (suc j) ne = let rest = times_at k xs j in omega arith
times_two k (x ∷ xs) (suc i) zero ne = let rest = times_at k xs i in omega arith
times_two k (x ∷ xs) (suc i) (suc j) ne = let rest = times_two k xs i j (λ e. ne (ap suc e)) in omega arith

same_index : (k : ℕ) (ks : List ℕ) → times k ks ≤ 1 → (i j : ℕ) → i < length ks → j < length ks → get_or ks i 0 ≡ k → get_or ks j 0 ≡ k → i ≡ j
same_index k [] once i j li lj p q = absurd (omega arith)
same_index k (x ∷ ks) once zero zero li lj p q = refl
same_index k (x ∷ ks) once zero (suc j) li lj p q =
    let a = stands k ks j (omega arith) q in elim (head_tells x k) [ inl e ↦ let one = e.1 in absurd (omega arith) | inr h ↦ absurd (h.0 p) ]
same_index k (x ∷ ks) once (suc i) zero li lj p q =
    let a = stands k ks i (omega arith) p in elim (head_tells x k) [ inl e ↦ let one = e.1 in absurd (omega arith) | inr h ↦ absurd (h.0 q) ]
same_index k (x ∷ ks) once (suc i) (suc j) li lj p q = ap suc (same_index k ks (omega arith) i j (omega arith) (omega arith) p q)

-- no two pages stand in one place
pub apart : (k : ℕ) (xs : List (List ℕ)) → times_all k xs ≤ 1 → (a i b j : ℕ) → i < length (list_at xs a) → j < length (list_at xs b)
    → get_or (list_at xs a) i 0 ≡ k → get_or (list_at xs b) j 0 ≡ k → (a ≡ b) × (i ≡ j)
apart k [] once a i b j li lj p q = absurd (omega arith)
apart k (x ∷ xs) once zero i zero j li lj p q = (refl, same_index k x (omega arith) i j li lj p q)
apart k (x ∷ xs) once zero i (suc b) j li lj p q =
    let here = stands k x i li p in let there = stands k (list_at xs b) j lj q in let all = times_at k xs b in absurd (omega arith)
apart k (x ∷ xs) once (suc a) i zero j li lj p q =
    let here = stands k x j lj q in let there = stands k (list_at xs a) i li p in let all = times_at k xs a in absurd (omega arith)
apart k (x ∷ xs) once (suc a) i (suc b) j li lj p q = let rest = apart k xs (omega arith) a i b j li lj p q in (ap suc rest.0, rest.1)
