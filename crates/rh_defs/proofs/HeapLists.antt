-- Laws of lists of segments.
use Rattle.rh_defs.proofs.Common.{◌≡◌, ℕ, zero, suc, ◌+◌, ◌%◌, ◌<◌, ◌≤◌, ◌≢◌, inl, inr, Bool, true, false, List, [], ◌∷◌, ◌++◌, length, leb, eqb, cond, refl}
use Rattle.rh_defs.proofs.Common.{sym, ap, ◌∙◌, arith, ltb, nat_tests, eqb_tells, Option, Some, None, IfSome, option_map, total, Split, behind, first_at}
use Rattle.rh_defs.proofs.Common.{Segment, Used, Hole, size_of, IsTidy, with_hole, joined, HasRoom}
use Rattle.rh_defs.specs.Inner.NonePassing.{NonePass}

-- ---- tests
pub cond_true : {A : Type 0} (t : Bool) (x y : A) → t ≡ true → cond t x y ≡ x
cond_true t x y e = rw e refl

pub cond_false : {A : Type 0} (t : Bool) (x y : A) → t ≡ false → cond t x y ≡ y
cond_false t x y e = rw e refl

pub eqb_same : (x y : ℕ) → x ≡ y → eqb x y ≡ true
eqb_same x y e = elim (eqb_tells x y) [ inl u ↦ u.0 | inr v ↦ absurd (v.1 e) ]

pub eqb_apart : (x y : ℕ) → x ≢ y → eqb x y ≡ false
eqb_apart x y ne = elim (eqb_tells x y) [ inl u ↦ absurd (ne u.1) | inr v ↦ v.0 ]

pub leb_yes : (x y : ℕ) → x ≤ y → leb x y ≡ true
leb_yes x y h = grind (arith, nat_tests)

pub leb_no : (x y : ℕ) → y < x → leb x y ≡ false
leb_no x y h = grind (arith, nat_tests)

pub ltb_yes : (x y : ℕ) → x < y → ltb x y ≡ true
ltb_yes x y h = grind (arith, nat_tests)

pub ltb_no : (x y : ℕ) → y ≤ x → ltb x y ≡ false
ltb_no x y h = grind (arith, nat_tests)

-- ---- the first member that passes a test

module _ {A : Type 0} (size : A → ℕ) (test : ℕ → A → Bool) where
  pub first_at-none : (place : ℕ) (xs : List A) → NonePass size test place xs → first_at size test place xs ≡ None
  first_at-none place [] n = refl
  first_at-none place (x ∷ xs) n = cond_false (test place x) _ _ n.0 ∙ ap (option_map (behind x)) (first_at-none (place + size x) xs n.1)

  pub first_at-found : (place : ℕ) (xs : List A) (x : A) (ys : List A) → NonePass size test place xs → test (place + total size xs) x ≡ true
      → first_at size test place (xs ++ x ∷ ys) ≡ Some (record { before = xs; here = x; after = ys })
  first_at-found place [] x ys n t = cond_true (test place x) _ _ (ap (λ p. test p x) (omega arith) ∙ t)
  first_at-found place (z ∷ xs) x ys n t =
      cond_false (test place z) _ _ n.0
      ∙ ap (option_map (behind z)) (first_at-found (place + size z) xs x ys n.1 (ap (λ p. test p x) (omega arith) ∙ t))

  pub NonePass-append : (place : ℕ) (xs ys : List A) → NonePass size test place xs → NonePass size test (place + total size xs) ys
      → NonePass size test place (xs ++ ys)
  NonePass-append place [] ys n m = rw (let e : place ≡ place + 0 = omega arith in e) m
  NonePass-append place (x ∷ xs) ys n m =
      (n.0, NonePass-append (place + size x) xs ys n.1 (rw (let e : place + size x + total size xs ≡ place + (size x + total size xs) = omega arith in e) m))

-- ---- sizes
pub sum-append : {A : Type 0} (f : A → ℕ) (xs ys : List A) → total f (xs ++ ys) ≡ total f xs + total f ys
sum-append f [] ys = omega arith
sum-append f (x ∷ xs) ys = omega (arith, sum-append f xs ys)

pub total-append : (xs ys : List Segment) → total size_of (xs ++ ys) ≡ total size_of xs + total size_of ys
total-append [] ys = omega arith
total-append (x ∷ xs) ys = omega (arith, total-append xs ys)

pub HasRoom-from_tidy : (h : Bool) (ss : List Segment) → IsTidy h ss → HasRoom ss
HasRoom-from_tidy false [] t = tt
HasRoom-from_tidy true [] t = tt
HasRoom-from_tidy false (Used bs ∷ ss) t = HasRoom-from_tidy false ss t.1
HasRoom-from_tidy true (Used bs ∷ ss) t = HasRoom-from_tidy false ss t.1
HasRoom-from_tidy false (Hole n ∷ ss) t = (omega arith, HasRoom-from_tidy true ss t.2)
HasRoom-from_tidy true (Hole n ∷ ss) t = absurd t

pub HasRoom-append : (xs ys : List Segment) → HasRoom (xs ++ ys) → HasRoom xs × HasRoom ys
HasRoom-append [] ys h = (tt, h)
HasRoom-append (Used bs ∷ xs) ys h = HasRoom-append xs ys h
HasRoom-append (Hole n ∷ xs) ys h = let r = HasRoom-append xs ys h.1 in ((h.0, r.0), r.1)

pub HasRoom-join : (xs ys : List Segment) → HasRoom xs → HasRoom ys → HasRoom (xs ++ ys)
HasRoom-join [] ys h k = k
HasRoom-join (Used bs ∷ xs) ys h k = HasRoom-join xs ys h k
HasRoom-join (Hole n ∷ xs) ys h k = (h.0, HasRoom-join xs ys h.1 k)

-- segments of no bytes are none
pub no_segments : (ss : List Segment) → HasRoom ss → total size_of ss ≡ 0 → ss ≡ []
no_segments [] r e = refl
no_segments (Used bs ∷ ss) r e = absurd (omega arith)
no_segments (Hole n ∷ ss) r e = let big = r.0 in absurd (omega arith)

-- ---- tidy lists
pub tidy_after : (ss : List Segment) → IsTidy true ss → IsTidy false ss
tidy_after [] t = absurd t
tidy_after (Used bs ∷ ss) t = t
tidy_after (Hole n ∷ ss) t = absurd t

-- a list is tidy up to a used segment
pub tidy_front : (h : Bool) (xs : List Segment) (bs : List ℕ) (ys : List Segment) → IsTidy h (xs ++ Used bs ∷ ys) → IsTidy h (xs ++ Used bs ∷ [])
tidy_front false [] bs ys t = (t.0, tt)
tidy_front true [] bs ys t = (t.0, tt)
tidy_front false (Used cs ∷ xs) bs ys t = (t.0, tidy_front false xs bs ys t.1)
tidy_front true (Used cs ∷ xs) bs ys t = (t.0, tidy_front false xs bs ys t.1)
tidy_front false (Hole n ∷ xs) bs ys t = (t.0, t.1, tidy_front true xs bs ys t.2)
tidy_front true (Hole n ∷ xs) bs ys t = absurd t

-- and before a hole
pub tidy_before : (h : Bool) (xs : List Segment) (n : ℕ) (ys : List Segment) → IsTidy h (xs ++ Hole n ∷ ys) → IsTidy h xs
tidy_before false [] n ys t = tt
tidy_before true [] n ys t = absurd t
tidy_before false (Used cs ∷ xs) n ys t = (t.0, tidy_before false xs n ys t.1)
tidy_before true (Used cs ∷ xs) n ys t = (t.0, tidy_before false xs n ys t.1)
tidy_before false (Hole m ∷ xs) n ys t = (t.0, t.1, tidy_before true xs n ys t.2)
tidy_before true (Hole m ∷ xs) n ys t = absurd t

-- another used segment in the place of one
pub tidy_other : (h : Bool) (xs : List Segment) (bs cs : List ℕ) (ys : List Segment) → (4 + length cs) % 8 ≡ 0 → IsTidy h (xs ++ Used bs ∷ ys)
    → IsTidy h (xs ++ Used cs ∷ ys)
tidy_other false [] bs cs ys m t = (m, t.1)
tidy_other true [] bs cs ys m t = (m, t.1)
tidy_other false (Used ds ∷ xs) bs cs ys m t = (t.0, tidy_other false xs bs cs ys m t.1)
tidy_other true (Used ds ∷ xs) bs cs ys m t = (t.0, tidy_other false xs bs cs ys m t.1)
tidy_other false (Hole n ∷ xs) bs cs ys m t = (t.0, t.1, tidy_other true xs bs cs ys m t.2)
tidy_other true (Hole n ∷ xs) bs cs ys m t = absurd t

-- what stands behind a member of a tidy list
pub tidy_behind_used : (h : Bool) (xs : List Segment) (bs : List ℕ) (ys : List Segment) → IsTidy h (xs ++ Used bs ∷ ys)
    → ((4 + length bs) % 8 ≡ 0) × IsTidy false ys
tidy_behind_used false [] bs ys t = t
tidy_behind_used true [] bs ys t = t
tidy_behind_used false (Used cs ∷ xs) bs ys t = tidy_behind_used false xs bs ys t.1
tidy_behind_used true (Used cs ∷ xs) bs ys t = tidy_behind_used false xs bs ys t.1
tidy_behind_used false (Hole m ∷ xs) bs ys t = tidy_behind_used true xs bs ys t.2
tidy_behind_used true (Hole m ∷ xs) bs ys t = absurd t

pub tidy_behind_hole : (h : Bool) (xs : List Segment) (n : ℕ) (ys : List Segment) → IsTidy h (xs ++ Hole n ∷ ys) → (n % 8 ≡ 0) × IsTidy true ys
tidy_behind_hole false [] n ys t = (t.1, t.2)
tidy_behind_hole true [] n ys t = absurd t
tidy_behind_hole false (Used cs ∷ xs) n ys t = tidy_behind_hole false xs n ys t.1
tidy_behind_hole true (Used cs ∷ xs) n ys t = tidy_behind_hole false xs n ys t.1
tidy_behind_hole false (Hole m ∷ xs) n ys t = tidy_behind_hole true xs n ys t.2
tidy_behind_hole true (Hole m ∷ xs) n ys t = absurd t

-- tidy lists in a row
pub tidy_join : (h : Bool) (xs ys : List Segment) → IsTidy h xs → IsTidy false ys → IsTidy h (xs ++ ys)
tidy_join false [] ys t u = u
tidy_join true [] ys t u = absurd t
tidy_join false (Used cs ∷ xs) ys t u = (t.0, tidy_join false xs ys t.1 u)
tidy_join true (Used cs ∷ xs) ys t u = (t.0, tidy_join false xs ys t.1 u)
tidy_join false (Hole m ∷ xs) ys t u = (t.0, t.1, tidy_join true xs ys t.2 u)
tidy_join true (Hole m ∷ xs) ys t u = absurd t

-- ---- holes
pub with_hole-nil : (n : ℕ) → with_hole n [] ≡ []
with_hole-nil zero = refl
with_hole-nil (suc n) = refl

pub with_hole-more : (n : ℕ) (ys : List Segment) → 0 < n → IsTidy true ys → with_hole n ys ≡ Hole n ∷ ys
with_hole-more zero ys h t = absurd (omega arith)
with_hole-more (suc n) [] h t = absurd t
with_hole-more (suc n) (Used bs ∷ ys) h t = refl
with_hole-more (suc n) (Hole m ∷ ys) h t = absurd t

pub with_hole-used : (n : ℕ) (bs : List ℕ) (ys : List Segment) → 0 < n → with_hole n (Used bs ∷ ys) ≡ Hole n ∷ Used bs ∷ ys
with_hole-used zero bs ys h = absurd (omega arith)
with_hole-used (suc n) bs ys h = refl

pub with_hole-hole : (n m : ℕ) (ys : List Segment) → 0 < n → with_hole n (Hole m ∷ ys) ≡ Hole (n + m) ∷ ys
with_hole-hole zero m ys h = absurd (omega arith)
with_hole-hole (suc n) m ys h = refl

pub with_hole-with_hole : (k n : ℕ) (ys : List Segment) → 0 < n → with_hole k (with_hole n ys) ≡ with_hole (k + n) ys
with_hole-with_hole k zero ys h = absurd (omega arith)
with_hole-with_hole zero (suc n) ys h = ap (λ i. with_hole i ys) (let e : suc n ≡ 0 + suc n = omega arith in e)
with_hole-with_hole (suc k) (suc n) [] h = sym (with_hole-nil (suc k + suc n))
with_hole-with_hole (suc k) (suc n) (Used bs ∷ ys) h = sym (with_hole-used (suc k + suc n) bs ys (omega arith))
with_hole-with_hole (suc k) (suc n) (Hole m ∷ ys) h = ap (λ i. Hole i ∷ ys) (omega arith) ∙ sym (with_hole-hole (suc k + suc n) m ys (omega arith))

pub tidy_with_hole : (n : ℕ) (ys : List Segment) → n % 8 ≡ 0 → IsTidy false ys → IsTidy false (with_hole n ys)
tidy_with_hole zero ys m t = t
tidy_with_hole (suc n) [] m t = tt
tidy_with_hole (suc n) (Used bs ∷ ys) m t = (omega arith, m, t)
tidy_with_hole (suc n) (Hole i ∷ ys) m t = (omega arith, (let a = t.1 in omega arith), t.2)

pub total-with_hole : (n : ℕ) (ys : List Segment) → total size_of (with_hole n ys) ≤ n + total size_of ys
total-with_hole zero ys = omega arith
total-with_hole (suc n) [] = omega arith
total-with_hole (suc n) (Used bs ∷ ys) = omega arith
total-with_hole (suc n) (Hole i ∷ ys) = omega arith

-- joining leaves a tidy list as it is
pub joined-tidy : (h : Bool) (ss : List Segment) → IsTidy h ss → joined ss ≡ ss
joined-tidy false [] t = refl
joined-tidy true [] t = refl
joined-tidy false (Used bs ∷ ss) t = ap (λ l. Used bs ∷ l) (joined-tidy false ss t.1)
joined-tidy true (Used bs ∷ ss) t = ap (λ l. Used bs ∷ l) (joined-tidy false ss t.1)
joined-tidy false (Hole n ∷ ss) t = ap (with_hole n) (joined-tidy true ss t.2) ∙ with_hole-more n ss t.0 t.2
joined-tidy true (Hole n ∷ ss) t = absurd t

-- and a tidy list before others
pub joined-front : (h : Bool) (xs ys : List Segment) → IsTidy h xs → joined (xs ++ ys) ≡ xs ++ joined ys
joined-front false [] ys t = refl
joined-front true [] ys t = absurd t
joined-front false (Used bs ∷ xs) ys t = ap (λ l. Used bs ∷ l) (joined-front false xs ys t.1)
joined-front true (Used bs ∷ xs) ys t = ap (λ l. Used bs ∷ l) (joined-front false xs ys t.1)
joined-front true (Hole n ∷ xs) ys t = absurd t
joined-front false (Hole n ∷ []) ys t = absurd t.2
joined-front false (Hole n ∷ Hole m ∷ xs) ys t = absurd t.2
joined-front false (Hole n ∷ Used bs ∷ xs) ys t =
    ap (λ l. with_hole n (Used bs ∷ l)) (joined-front false xs ys t.2.1) ∙ with_hole-used n bs (xs ++ joined ys) t.0

-- ---- a cut is of the whole list, at a member that passes the test
pub record IsCut {A : Type 0} (size : A → ℕ) (test : ℕ → A → Bool) (place : ℕ) (xs : List A) (s : Split A) : Type 0 where
  pub whole : xs ≡ s.before ++ s.here ∷ s.after
  pub passes : test (place + total size s.before) s.here ≡ true

cut_behind : {A : Type 0} (size : A → ℕ) (test : ℕ → A → Bool) (place : ℕ) (x : A) (xs : List A) (s : Split A) → IsCut size test (place + size x) xs s
    → IsCut size test place (x ∷ xs) (behind x s)
cut_behind size test place x xs s c = record {
  whole = ap (λ ys. x ∷ ys) c.whole;
  passes = ap (λ p. test p s.here) (omega arith) ∙ c.passes;
}

some_behind : {A : Type 0} (size : A → ℕ) (test : ℕ → A → Bool) (place : ℕ) (x : A) (xs : List A) (o : Option (Split A))
    → IfSome o (IsCut size test (place + size x) xs) → IfSome (option_map (behind x) o) (IsCut size test place (x ∷ xs))
some_behind size test place x xs None h = tt
some_behind size test place x xs (Some s) h = cut_behind size test place x xs s h

pub first_at-cuts : {A : Type 0} (size : A → ℕ) (test : ℕ → A → Bool) (place : ℕ) (xs : List A)
    → IfSome (first_at size test place xs) (IsCut size test place xs)
first_at-cuts size test place [] = tt
first_at-cuts {A} size test place (x ∷ xs) = go (test place x) refl (first_at-cuts size test (place + size x) xs)
  where
    go : (b : Bool) → test place x ≡ b → IfSome (first_at size test (place + size x) xs) (IsCut size test (place + size x) xs)
        → IfSome (cond b (Some (record { before = []; here = x; after = xs })) (option_map (behind x) (first_at size test (place + size x) xs)))
        (IsCut size test place (x ∷ xs))
    go true e h = record { whole = refl; passes = ap (λ p. test p x) (omega arith) ∙ e }
    go false e h = some_behind size test place x xs (first_at size test (place + size x) xs) h
