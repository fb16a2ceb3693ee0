-- Where segments begin: in a list that is cut, and what a place tells of the segments before it.
use Rattle.rh_heap.proofs.Common.{◌≡◌, ◌≢◌, ℕ, zero, suc, ◌+◌, ◌-◌, ◌*◌, ◌/◌, ◌%◌, ◌<◌, ◌≤◌, inl, inr, Bool, true, false, List, [], ◌∷◌, ◌++◌, length, refl}
use Rattle.rh_heap.proofs.Common.{ap, subst, eqb, arith, cases_eq, cases_lt, total, NonePass, Segment, Used, Hole, IsTidy, size_of, is_block_at, with_hole}
use Rattle.rh_heap.proofs.Common.{HasRoom, Await, cond_true, cond_false, eqb_same, eqb_apart, HasNone, once, used_at, hole_at}
use Rattle.rh_heap.specs.Inner.StartNotes.{Noted}

pub once_same : (p q : ℕ) → p ≡ q → once p q ≡ 1
once_same p q e = cond_true (eqb p q) 1 0 (eqb_same p q e)

pub once_apart : (p q : ℕ) → p ≢ q → once p q ≡ 0
once_apart p q ne = cond_false (eqb p q) 1 0 (eqb_apart p q ne)

-- ---- lists that are cut
pub used_at-append : (p q : ℕ) (xs ys : List Segment) → used_at p q (xs ++ ys) ≡ used_at p q xs + used_at p (q + total size_of xs) ys
used_at-append p q [] ys = omega (arith, ap (λ i. used_at p i ys) (let e : q + 0 ≡ q = omega arith in e))
used_at-append p q (Used bs ∷ xs) ys =
    omega (
      arith,
      used_at-append p (q + (4 + length bs)) xs ys,
      ap (λ i. used_at p i ys) (let e : q + (4 + length bs) + total size_of xs ≡ q + (4 + length bs + total size_of xs) = omega arith in e),
    )
used_at-append p q (Hole n ∷ xs) ys =
    omega (
      arith,
      used_at-append p (q + n) xs ys,
      ap (λ i. used_at p i ys) (let e : q + n + total size_of xs ≡ q + (n + total size_of xs) = omega arith in e),
    )

pub hole_at-append : (p q : ℕ) (xs ys : List Segment) → hole_at p q (xs ++ ys) ≡ hole_at p q xs + hole_at p (q + total size_of xs) ys
hole_at-append p q [] ys = omega (arith, ap (λ i. hole_at p i ys) (let e : q + 0 ≡ q = omega arith in e))
hole_at-append p q (Used bs ∷ xs) ys =
    omega (
      arith,
      hole_at-append p (q + (4 + length bs)) xs ys,
      ap (λ i. hole_at p i ys) (let e : q + (4 + length bs) + total size_of xs ≡ q + (4 + length bs + total size_of xs) = omega arith in e),
    )
hole_at-append p q (Hole n ∷ xs) ys =
    omega (
      arith,
      hole_at-append p (q + n) xs ys,
      ap (λ i. hole_at p i ys) (let e : q + n + total size_of xs ≡ q + (n + total size_of xs) = omega arith in e),
    )

-- none begins below the first one's place
pub used_at-low : (p q : ℕ) (ss : List Segment) → p < q → used_at p q ss ≡ 0
used_at-low p q [] l = refl
used_at-low p q (Used bs ∷ ss) l = omega (arith, once_apart p q (omega arith), used_at-low p (q + (4 + length bs)) ss (omega arith))
used_at-low p q (Hole n ∷ ss) l = used_at-low p (q + n) ss (omega arith)

pub hole_at-low : (p q : ℕ) (ss : List Segment) → p < q → hole_at p q ss ≡ 0
hole_at-low p q [] l = refl
hole_at-low p q (Used bs ∷ ss) l = hole_at-low p (q + (4 + length bs)) ss (omega arith)
hole_at-low p q (Hole n ∷ ss) l = omega (arith, once_apart p q (omega arith), hole_at-low p (q + n) ss (omega arith))

-- nor below the first hole, or where there is none
pub hole_at-before_first : (b : List ℕ) (at x p q : ℕ) (ss : List Segment) → 0 < q → Await b at x (at + q) ss → (x ≢ 0 → p < x) → hole_at p q ss ≡ 0
hole_at-before_first b at x p q [] l w f = refl
hole_at-before_first b at x p q (Used bs ∷ ss) l w f =
    hole_at-before_first b at x p (q + (4 + length bs)) ss (omega arith)
    (subst (λ i. Await b at x i ss) (let e : at + q + (4 + length bs) ≡ at + (q + (4 + length bs)) = omega arith in e) w.2) f
hole_at-before_first b at x p q (Hole n ∷ ss) l w f =
    let here = w.0 in
    let below = f (omega arith) in
    hole_at-low p q (Hole n ∷ ss) (omega arith)

-- nor where they end, or above
pub used_at-high : (p q : ℕ) (ss : List Segment) → q + total size_of ss ≤ p → used_at p q ss ≡ 0
used_at-high p q [] l = refl
used_at-high p q (Used bs ∷ ss) l = omega (arith, once_apart p q (omega arith), used_at-high p (q + (4 + length bs)) ss (omega arith))
used_at-high p q (Hole n ∷ ss) l = used_at-high p (q + n) ss (omega arith)

pub hole_at-high : (p q : ℕ) (ss : List Segment) → HasRoom ss → q + total size_of ss ≤ p → hole_at p q ss ≡ 0
hole_at-high p q [] r l = refl
hole_at-high p q (Used bs ∷ ss) r l = hole_at-high p (q + (4 + length bs)) ss r (omega arith)
hole_at-high p q (Hole n ∷ ss) r l = let big = r.0 in omega (arith, once_apart p q (omega arith), hole_at-high p (q + n) ss r.1 (omega arith))

-- ---- sizes that are multiples of 8
abbrev pub HasUnits : List Segment → Type 0
HasUnits [] = Unit {0}
HasUnits (Used bs ∷ ss) = ((4 + length bs) % 8 ≡ 0) × HasUnits ss
HasUnits (Hole n ∷ ss) = (n % 8 ≡ 0) × HasUnits ss

pub units_of : (h : Bool) (ss : List Segment) → IsTidy h ss → HasUnits ss
units_of false [] t = tt
units_of true [] t = tt
units_of false (Used bs ∷ ss) t = (t.0, units_of false ss t.1)
units_of true (Used bs ∷ ss) t = (t.0, units_of false ss t.1)
units_of false (Hole n ∷ ss) t = (t.1, units_of true ss t.2)
units_of true (Hole n ∷ ss) t = absurd t

pub units-append : (xs ys : List Segment) → HasUnits (xs ++ ys) → HasUnits xs × HasUnits ys
units-append [] ys u = (tt, u)
units-append (Used bs ∷ xs) ys u = let r = units-append xs ys u.1 in ((u.0, r.0), r.1)
units-append (Hole n ∷ xs) ys u = let r = units-append xs ys u.1 in ((u.0, r.0), r.1)

pub units-total : (ss : List Segment) → HasUnits ss → total size_of ss % 8 ≡ 0
units-total [] u = refl
units-total (Used bs ∷ ss) u = let e = u.0 in omega (arith, units-total ss u.1)
units-total (Hole n ∷ ss) u = let e = u.0 in omega (arith, units-total ss u.1)

-- ---- the block at a place
-- none is marked there
pub unmarked : (p q : ℕ) (ss : List Segment) → used_at p q ss ≡ 0 → NonePass size_of (is_block_at (p + 4)) q ss
unmarked p q [] z = tt
unmarked p q (Used bs ∷ ss) z =
    (eqb_apart (p + 4) (q + 4) (λ e. let one = once_same p q (omega arith) in absurd (omega arith)), unmarked p (q + (4 + length bs)) ss (omega arith))
unmarked p q (Hole n ∷ ss) z = (refl, unmarked p (q + n) ss z)

-- none begins at a place that is no multiple of 8
pub off_units : (p q : ℕ) (ss : List Segment) → HasUnits ss → q % 8 ≡ 0 → p % 8 ≢ 0 → NonePass size_of (is_block_at (p + 4)) q ss
off_units p q [] u m ne = tt
off_units p q (Used bs ∷ ss) u m ne = let e = u.0 in (eqb_apart (p + 4) (q + 4) (omega arith), off_units p (q + (4 + length bs)) ss u.1 (omega arith) ne)
off_units p q (Hole n ∷ ss) u m ne = let e = u.0 in (refl, off_units p (q + n) ss u.1 (omega arith) ne)

-- the segments round the one that is marked
pub record UsedHere (p q : ℕ) (ss : List Segment) : Type 0 where
  pub before : List Segment
  pub bytes : List ℕ
  pub after : List Segment
  pub is : ss ≡ before ++ Used bytes ∷ after
  pub place : p ≡ q + total size_of before

pub used_here : (p q : ℕ) (ss : List Segment) → used_at p q ss ≡ 1 → UsedHere p q ss
used_here p q [] o = absurd (omega arith)
used_here p q (Used bs ∷ ss) o = elim (cases_eq p q) [
  | inl e ↦ record { before = []; bytes = bs; after = ss; is = refl; place = omega arith }
  | inr ne ↦
      let r = used_here p (q + (4 + length bs)) ss (let z = once_apart p q ne in omega arith) in
      let at = r.place in
      record { before = Used bs ∷ r.before; bytes = r.bytes; after = r.after; is = ap (λ l. Used bs ∷ l) r.is; place = omega arith }
]
used_here p q (Hole n ∷ ss) o =
    let r = used_here p (q + n) ss o in
    let at = r.place in
    record { before = Hole n ∷ r.before; bytes = r.bytes; after = r.after; is = ap (λ l. Hole n ∷ l) r.is; place = omega arith }

-- ---- the last hole
pub no_holes : (q : ℕ) (ss : List Segment) → HasUnits ss → q % 8 ≡ 0 → ((j : ℕ) → hole_at (8 * j) q ss ≡ 0) → HasNone ss
no_holes q [] u m z = tt
no_holes q (Used bs ∷ ss) u m z = let e = u.0 in no_holes (q + (4 + length bs)) ss u.1 (omega arith) z
no_holes q (Hole n ∷ ss) u m z = absurd (let one = once_same (8 * (q / 8)) q (omega arith) in let none = z (q / 8) in omega arith)

pub record LastOf (p q : ℕ) (ss : List Segment) : Type 0 where
  pub front : List Segment
  pub size : ℕ
  pub behind : List Segment
  pub is : ss ≡ front ++ Hole size ∷ behind
  pub place : p ≡ q + total size_of front
  pub none : HasNone behind

pub last_of : (p q : ℕ) (ss : List Segment) → HasUnits ss → q % 8 ≡ 0 → hole_at p q ss ≡ 1 → ((j : ℕ) → p < 8 * j → hole_at (8 * j) q ss ≡ 0) → LastOf p q ss
last_of p q [] u m o z = absurd (omega arith)
last_of p q (Used bs ∷ ss) u m o z =
    let e = u.0 in
    let r = last_of p (q + (4 + length bs)) ss u.1 (omega arith) o z in
    let at = r.place in
    record { front = Used bs ∷ r.front; size = r.size; behind = r.behind; is = ap (λ l. Used bs ∷ l) r.is; place = omega arith; none = r.none }
last_of p q (Hole n ∷ ss) u m o z =
    let e = u.0 in
    elim (cases_eq p q) [
      | inl same ↦ record {
        front = [];
        size = n;
        behind = ss;
        is = refl;
        place = omega arith;
        none = no_holes (q + n) ss u.1 (omega arith) (λ j. elim (cases_lt p (8 * j)) [
          | inl l ↦ let none = z j l in omega arith
          | inr l ↦ elim (cases_lt (8 * j) (q + n)) [
            | inl below ↦ hole_at-low (8 * j) (q + n) ss below
            | inr on ↦ let alone = once_same p q same in let f = ap (λ i. hole_at i (q + n) ss) (let s : 8 * j ≡ p = omega arith in s) in omega arith
          ]
        ]);
      }
      | inr ne ↦
          let off = once_apart p q ne in
          let r = last_of p (q + n) ss u.1 (omega arith) (omega arith) (λ j l. let none = z j l in omega arith) in
          let at = r.place in
          record { front = Hole n ∷ r.front; size = r.size; behind = r.behind; is = ap (λ l. Hole n ∷ l) r.is; place = omega arith; none = r.none }
    ]

-- ---- a hole before segments
pub used_with_hole : (p low n : ℕ) (after : List Segment) → used_at p low (with_hole n after) ≡ used_at p (low + n) after
used_with_hole p low zero after = rw (let e : low + 0 ≡ low = omega arith in e) refl
used_with_hole p low (suc n) [] = refl
used_with_hole p low (suc n) (Used bs ∷ ss) = refl
used_with_hole p low (suc n) (Hole m ∷ ss) = ap (λ q. used_at p q ss) (omega arith)

-- the mark of the hole that segments make of the bytes before them
pub hole_noted : (p low upper : ℕ) (after : List Segment) → low ≤ upper → (low ≡ upper → IsTidy true after) → HasRoom after
    → Noted p low upper (low + total size_of (with_hole (upper - low) after)) (hole_at p upper after) (hole_at p low (with_hole (upper - low) after))
hole_noted p low upper after le closed room = go (upper - low) after refl closed room
  where
    go : (n : ℕ) (ss : List Segment) → n ≡ upper - low → (low ≡ upper → IsTidy true ss) → HasRoom ss
        → Noted p low upper (low + total size_of (with_hole n ss)) (hole_at p upper ss) (hole_at p low (with_hole n ss))
    go zero [] e t r = record {
      begins = λ here some more. absurd (t (omega arith));
      closed = λ here none. refl;
      top = λ here none. refl;
      joins = λ off here. refl;
      stays = λ off beside. refl;
    }
    go zero (Hole m ∷ ss) e t r = absurd (t (omega arith))
    go zero (Used bs ∷ ss) e t r = record {
      begins = λ here some more. absurd (omega arith);
      closed = λ here none. hole_at-low p (low + (4 + length bs)) ss (omega arith);
      top = λ here none. absurd (omega arith);
      joins = λ off here. absurd (off (omega arith));
      stays = λ off beside. ap (λ q. hole_at p q ss) (omega arith);
    }
    go (suc n) [] e t r = record {
      begins = λ here some more. absurd (omega arith);
      closed = λ here none. absurd (omega arith);
      top = λ here none. refl;
      joins = λ off here. refl;
      stays = λ off beside. refl;
    }
    go (suc n) (Used bs ∷ ss) e t r = record {
      begins = λ here some more. omega (arith, once_same p low here, hole_at-low p (low + suc n + (4 + length bs)) ss (omega arith));
      closed = λ here none. absurd (omega arith);
      top = λ here none. absurd (omega arith);
      joins = λ off here. omega (arith, once_apart p low off, hole_at-low p (low + suc n + (4 + length bs)) ss (omega arith));
      stays = λ off beside. omega
          (arith, once_apart p low off, ap (λ q. hole_at p q ss) (let f : low + suc n + (4 + length bs) ≡ upper + (4 + length bs) = omega arith in f));
    }
    go (suc n) (Hole m ∷ ss) e t r =
        let big = r.0 in
        record {
          begins = λ here some more. omega (arith, once_same p low here, hole_at-low p (low + (suc n + m)) ss (omega arith));
          closed = λ here none. absurd (omega arith);
          top = λ here none. absurd (omega arith);
          joins = λ off here. omega (arith, once_apart p low off, hole_at-low p (low + (suc n + m)) ss (omega arith));
          stays = λ off beside. omega
              (arith, once_apart p low off, once_apart p upper beside, ap (λ q. hole_at p q ss) (let f : low + (suc n + m) ≡ upper + m = omega arith in f));
        }
