-- Laws of memories: what each call leaves of the areas, and frames.
use Rattle.rh_defs.proofs.Common.{inl, inr, ◌≡◌, ℕ, zero, suc, ◌+◌, ◌-◌, ◌*◌, ◌/◌, ◌<◌, ◌≤◌, ◌≢◌, ◌==◌, cond, Bool, true, false, List, [], ◌++◌, length, take}
use Rattle.rh_defs.proofs.Common.{replicate, refl, sym, ap, subst, ◌∙◌, arith, nat_tests, cases_eq, page_size, length-replicate, length-take, unwrap_or, Some}
use Rattle.rh_defs.proofs.Common.{None, Option, IsSome, IsNone, is_some, SameIn, SameOutside}
use Rattle.rh_defs.proofs.BytesLaws.{SameOutside-self, SameOutside-wider, SameOutside-both, SameIn-append, SameIn-take}
use Rattle.std.proofs.Math.ListN.{length-append}
use Rattle.std.proofs.Math.Path.{fun_ext}
use Rattle.rh_defs.specs.Memory.{Memory, IsOpen, bytes, area_set, fresh, with_bytes, opened, closed, grown, shrunk, one_if_open, open_below, pages_below}
use Rattle.rh_defs.specs.Memory.{Edited, OnlyArea}

-- one area is set
pub area_set-same : (area : ℕ → Option (List ℕ)) (id : ℕ) (o : Option (List ℕ)) → area_set area id o id ≡ o
unfolding area_set
area_set-same area id o = grind (arith, nat_tests)

pub area_set-other : (area : ℕ → Option (List ℕ)) (id : ℕ) (o : Option (List ℕ)) (j : ℕ) → j ≢ id → area_set area id o j ≡ area j
unfolding area_set
area_set-other area id o j h = grind (arith, nat_tests)

overwritten : (b : Bool) (y x d : Option (List ℕ)) → cond b y (cond b x d) ≡ cond b y d
overwritten true y x d = refl
overwritten false y x d = refl

pub area_set-area_set : (area : ℕ → Option (List ℕ)) (id : ℕ) (x y : Option (List ℕ)) → area_set (area_set area id x) id y ≡ area_set area id y
unfolding area_set
area_set-area_set area id x y = fun_ext (λ k. overwritten (k == id) y x (area k))

same_area : (area : ℕ → Option (List ℕ)) (id k : ℕ) → area_set area id (area id) k ≡ area k
unfolding area_set
same_area area id k = grind (arith, nat_tests)

-- an area set to what it is
pub area_set-self : (area : ℕ → Option (List ℕ)) (id : ℕ) → area_set area id (area id) ≡ area
area_set-self area id = fun_ext (λ k. same_area area id k)

-- an area rewritten
pub area-with_bytes_same : (m : Memory) (id : ℕ) (bs : List ℕ) → (with_bytes m id bs).area id ≡ Some bs
unfolding with_bytes
area-with_bytes_same m id bs = area_set-same m.area id (Some bs)

pub area-with_bytes : (m : Memory) (id : ℕ) (bs : List ℕ) (j : ℕ) → j ≢ id → (with_bytes m id bs).area j ≡ m.area j
unfolding with_bytes
area-with_bytes m id bs j h = area_set-other m.area id (Some bs) j h

pub bytes-with_bytes : (m : Memory) (id : ℕ) (bs : List ℕ) → bytes (with_bytes m id bs) id ≡ bs
unfolding bytes
bytes-with_bytes m id bs = ap (λ (o : Option (List ℕ)). unwrap_or o []) (area-with_bytes_same m id bs)

pub bytes-with_other : (m : Memory) (id : ℕ) (bs : List ℕ) (j : ℕ) → j ≢ id → bytes (with_bytes m id bs) j ≡ bytes m j
unfolding bytes
bytes-with_other m id bs j h = ap (λ (o : Option (List ℕ)). unwrap_or o []) (area-with_bytes m id bs j h)

pub IsOpen-with_bytes : (m : Memory) (id : ℕ) (bs : List ℕ) → IsOpen (with_bytes m id bs) id
IsOpen-with_bytes m id bs = rw (area-with_bytes_same m id bs) refl

pub free-with_bytes : (m : Memory) (id : ℕ) (bs : List ℕ) → (with_bytes m id bs).free ≡ m.free
unfolding with_bytes
free-with_bytes m id bs = refl

pub pages-with_bytes : (m : Memory) (id : ℕ) (bs : List ℕ) → (with_bytes m id bs).pages ≡ m.pages
unfolding with_bytes
pages-with_bytes m id bs = refl

pub loan-with_bytes : (m : Memory) (id : ℕ) (bs : List ℕ) → (with_bytes m id bs).loan ≡ m.loan
unfolding with_bytes
loan-with_bytes m id bs = refl

memory_is : (f g : ℕ → Option (List ℕ)) (free pages loan : ℕ) → f ≡ g
    → (let r : Memory = record { area = f; free = free; pages = pages; loan = loan } in r) ≡ record { area = g; free = free; pages = pages; loan = loan }
memory_is f g free pages loan e = ap (λ (h : ℕ → Option (List ℕ)). let r : Memory = record { area = h; free = free; pages = pages; loan = loan } in r) e

pub with_bytes-with_bytes : (m : Memory) (id : ℕ) (x y : List ℕ) → with_bytes (with_bytes m id x) id y ≡ with_bytes m id y
unfolding with_bytes
with_bytes-with_bytes m id x y = memory_is _ _ m.free m.pages m.loan (area_set-area_set m.area id (Some x) (Some y))

open_is : (o : Option (List ℕ)) → IsSome o → Some (unwrap_or o []) ≡ o
open_is (Some x) h = refl
open_is None h = absurd cc

-- an open area rewritten with its own bytes
pub with_bytes-self : (m : Memory) (id : ℕ) → IsOpen m id → with_bytes m id (bytes m id) ≡ m
unfolding with_bytes bytes
with_bytes-self m id h = memory_is _ _ m.free m.pages m.loan (ap (λ o. area_set m.area id o) (open_is (m.area id) h) ∙ area_set-self m.area id)

-- an area closed has no bytes
pub bytes-none : (m : Memory) (id : ℕ) → m.area id ≡ None → bytes m id ≡ []
unfolding bytes
bytes-none m id h = ap (λ (o : Option (List ℕ)). unwrap_or o []) h

pub area-fresh : (pages id : ℕ) → (fresh pages).area id ≡ None
unfolding fresh
area-fresh pages id = refl

pub free-fresh : (pages : ℕ) → (fresh pages).free ≡ pages
unfolding fresh
free-fresh pages = refl

pub pages-fresh : (pages : ℕ) → (fresh pages).pages ≡ pages
unfolding fresh
pages-fresh pages = refl

-- an area opened
pub area-opened_same : (m : Memory) (id : ℕ) → (opened m id).area id ≡ Some []
unfolding opened
area-opened_same m id = area_set-same m.area id (Some [])

pub area-opened : (m : Memory) (id j : ℕ) → j ≢ id → (opened m id).area j ≡ m.area j
unfolding opened
area-opened m id j h = area_set-other m.area id (Some []) j h

pub bytes-opened_other : (m : Memory) (id j : ℕ) → j ≢ id → bytes (opened m id) j ≡ bytes m j
unfolding bytes
bytes-opened_other m id j h = ap (λ (o : Option (List ℕ)). unwrap_or o []) (area-opened m id j h)

pub bytes-opened : (m : Memory) (id : ℕ) → bytes (opened m id) id ≡ []
unfolding bytes
bytes-opened m id = ap (λ (o : Option (List ℕ)). unwrap_or o []) (area-opened_same m id)

pub IsOpen-opened : (m : Memory) (id : ℕ) → IsOpen (opened m id) id
IsOpen-opened m id = rw (area-opened_same m id) refl

pub free-opened : (m : Memory) (id : ℕ) → (opened m id).free ≡ m.free
unfolding opened
free-opened m id = refl

pub pages-opened : (m : Memory) (id : ℕ) → (opened m id).pages ≡ m.pages
unfolding opened
pages-opened m id = refl

pub loan-opened : (m : Memory) (id : ℕ) → (opened m id).loan ≡ m.loan
unfolding opened
loan-opened m id = refl

-- an area closed
pub area-closed_same : (m : Memory) (id : ℕ) → (closed m id).area id ≡ None
unfolding closed
area-closed_same m id = area_set-same m.area id None

pub area-closed : (m : Memory) (id j : ℕ) → j ≢ id → (closed m id).area j ≡ m.area j
unfolding closed
area-closed m id j h = area_set-other m.area id None j h

pub bytes-closed_other : (m : Memory) (id j : ℕ) → j ≢ id → bytes (closed m id) j ≡ bytes m j
unfolding bytes
bytes-closed_other m id j h = ap (λ (o : Option (List ℕ)). unwrap_or o []) (area-closed m id j h)

pub bytes-closed : (m : Memory) (id : ℕ) → bytes (closed m id) id ≡ []
bytes-closed m id = bytes-none (closed m id) id (area-closed_same m id)

pub free-closed : (m : Memory) (id : ℕ) → (closed m id).free ≡ m.free + length (bytes m id) / page_size
unfolding closed
free-closed m id = refl

pub pages-closed : (m : Memory) (id : ℕ) → (closed m id).pages ≡ m.pages
unfolding closed
pages-closed m id = refl

pub loan-closed : (m : Memory) (id : ℕ) → (closed m id).loan ≡ m.loan
unfolding closed
loan-closed m id = refl

-- an area grown
pub area-grown_same : (m : Memory) (id n : ℕ) → (grown m id n).area id ≡ Some (bytes m id ++ replicate (page_size * n) 0)
unfolding grown
area-grown_same m id n = area_set-same m.area id (Some (bytes m id ++ replicate (page_size * n) 0))

pub area-grown : (m : Memory) (id n j : ℕ) → j ≢ id → (grown m id n).area j ≡ m.area j
unfolding grown
area-grown m id n j h = area_set-other m.area id (Some (bytes m id ++ replicate (page_size * n) 0)) j h

pub bytes-grown_other : (m : Memory) (id n j : ℕ) → j ≢ id → bytes (grown m id n) j ≡ bytes m j
unfolding bytes
bytes-grown_other m id n j h = ap (λ (o : Option (List ℕ)). unwrap_or o []) (area-grown m id n j h)

pub bytes-grown : (m : Memory) (id n : ℕ) → bytes (grown m id n) id ≡ bytes m id ++ replicate (page_size * n) 0
unfolding bytes
bytes-grown m id n = ap (λ (o : Option (List ℕ)). unwrap_or o []) (area-grown_same m id n)

pub length-grown : (m : Memory) (id n : ℕ) → length (bytes (grown m id n) id) ≡ length (bytes m id) + page_size * n
length-grown m id n = ap length (bytes-grown m id n) ∙ length-append (bytes m id) (replicate (page_size * n) 0)
    ∙ ap (λ k. length (bytes m id) + k) (length-replicate {A = ℕ} (page_size * n) 0)

pub IsOpen-grown : (m : Memory) (id n : ℕ) → IsOpen (grown m id n) id
IsOpen-grown m id n = rw (area-grown_same m id n) refl

pub free-grown : (m : Memory) (id n : ℕ) → (grown m id n).free ≡ m.free - n
unfolding grown
free-grown m id n = refl

pub pages-grown : (m : Memory) (id n : ℕ) → (grown m id n).pages ≡ m.pages
unfolding grown
pages-grown m id n = refl

pub loan-grown : (m : Memory) (id n : ℕ) → (grown m id n).loan ≡ m.loan
unfolding grown
loan-grown m id n = refl

-- an area shrunk
pub area-shrunk_same : (m : Memory) (id n : ℕ) → (shrunk m id n).area id ≡ Some (take (length (bytes m id) - page_size * n) (bytes m id))
unfolding shrunk
area-shrunk_same m id n = area_set-same m.area id (Some (take (length (bytes m id) - page_size * n) (bytes m id)))

pub area-shrunk : (m : Memory) (id n j : ℕ) → j ≢ id → (shrunk m id n).area j ≡ m.area j
unfolding shrunk
area-shrunk m id n j h = area_set-other m.area id (Some (take (length (bytes m id) - page_size * n) (bytes m id))) j h

pub bytes-shrunk_other : (m : Memory) (id n j : ℕ) → j ≢ id → bytes (shrunk m id n) j ≡ bytes m j
unfolding bytes
bytes-shrunk_other m id n j h = ap (λ (o : Option (List ℕ)). unwrap_or o []) (area-shrunk m id n j h)

pub bytes-shrunk : (m : Memory) (id n : ℕ) → bytes (shrunk m id n) id ≡ take (length (bytes m id) - page_size * n) (bytes m id)
unfolding bytes
bytes-shrunk m id n = ap (λ (o : Option (List ℕ)). unwrap_or o []) (area-shrunk_same m id n)

pub length-shrunk : (m : Memory) (id n : ℕ) → length (bytes (shrunk m id n) id) ≡ length (bytes m id) - page_size * n
length-shrunk m id n = ap length (bytes-shrunk m id n) ∙ length-take (length (bytes m id) - page_size * n) (bytes m id) ∙ omega arith

pub IsOpen-shrunk : (m : Memory) (id n : ℕ) → IsOpen (shrunk m id n) id
IsOpen-shrunk m id n = rw (area-shrunk_same m id n) refl

pub free-shrunk : (m : Memory) (id n : ℕ) → (shrunk m id n).free ≡ m.free + n
unfolding shrunk
free-shrunk m id n = refl

pub pages-shrunk : (m : Memory) (id n : ℕ) → (shrunk m id n).pages ≡ m.pages
unfolding shrunk
pages-shrunk m id n = refl

pub loan-shrunk : (m : Memory) (id n : ℕ) → (shrunk m id n).loan ≡ m.loan
unfolding shrunk
loan-shrunk m id n = refl

-- counts over the areas below a number
count_set-above : (area : ℕ → Option (List ℕ)) (id : ℕ) (o : Option (List ℕ)) (n : ℕ) → n ≤ id → open_below (area_set area id o) n ≡ open_below area n
unfolding open_below
count_set-above area id o zero h = refl
count_set-above area id o (suc n) h =
    ap (λ (p : Option (List ℕ)). one_if_open p + open_below (area_set area id o) n) (let ne : n ≢ id = omega arith in area_set-other area id o n ne)
    ∙ ap (λ k. one_if_open (area n) + k) (count_set-above area id o n (omega arith))

-- how many areas are open after one is set
pub open_below-set : (area : ℕ → Option (List ℕ)) (id : ℕ) (o : Option (List ℕ)) (n : ℕ) → id < n
    → open_below (area_set area id o) n + one_if_open (area id) ≡ open_below area n + one_if_open o
unfolding open_below
open_below-set area id o zero h = absurd (omega arith)
open_below-set area id o (suc n) h = elim (cases_eq id n) [
  | inl e ↦ let top : area_set area id o n ≡ o = ap (area_set area id o) (sym e) ∙ area_set-same area id o in
      let rest = count_set-above area id o n (omega arith) in
      let here : one_if_open (area_set area id o n) ≡ one_if_open o = ap one_if_open top in
      let there : one_if_open (area id) ≡ one_if_open (area n) = ap (λ (k : ℕ). one_if_open (area k)) e in
      omega arith
  | inr ne ↦ let other : n ≢ id = λ q. ne (sym q) in
      let here : one_if_open (area_set area id o n) ≡ one_if_open (area n) = ap one_if_open (area_set-other area id o n other) in
      let rest = open_below-set area id o n (omega arith) in
      omega arith
]

pages_set-above : (area : ℕ → Option (List ℕ)) (id : ℕ) (o : Option (List ℕ)) (n : ℕ) → n ≤ id → pages_below (area_set area id o) n ≡ pages_below area n
unfolding pages_below
pages_set-above area id o zero h = refl
pages_set-above area id o (suc n) h =
    ap (λ (p : Option (List ℕ)). length (unwrap_or p []) / page_size + pages_below (area_set area id o) n)
    (let ne : n ≢ id = omega arith in area_set-other area id o n ne)
    ∙ ap (λ k. length (unwrap_or (area n) []) / page_size + k) (pages_set-above area id o n (omega arith))

-- how many pages areas have after one is set
pub pages_below-set : (area : ℕ → Option (List ℕ)) (id : ℕ) (o : Option (List ℕ)) (n : ℕ) → id < n
    → pages_below (area_set area id o) n + length (unwrap_or (area id) []) / page_size ≡ pages_below area n + length (unwrap_or o []) / page_size
unfolding pages_below
pages_below-set area id o zero h = absurd (omega arith)
pages_below-set area id o (suc n) h = elim (cases_eq id n) [
  | inl e ↦ let top : area_set area id o n ≡ o = ap (area_set area id o) (sym e) ∙ area_set-same area id o in
      let rest = pages_set-above area id o n (omega arith) in
      let here : length (unwrap_or (area_set area id o n) []) / page_size ≡ length (unwrap_or o []) / page_size =
      ap (λ (p : Option (List ℕ)). length (unwrap_or p []) / page_size) top in
      let there : length (unwrap_or (area id) []) / page_size ≡ length (unwrap_or (area n) []) / page_size = ap
      (λ (k : ℕ). length (unwrap_or (area k) []) / page_size) e in
      omega arith
  | inr ne ↦ let other : n ≢ id = λ q. ne (sym q) in
      let here : length (unwrap_or (area_set area id o n) []) / page_size ≡ length (unwrap_or (area n) []) / page_size =
      ap (λ (p : Option (List ℕ)). length (unwrap_or p []) / page_size) (area_set-other area id o n other) in
      let rest = pages_below-set area id o n (omega arith) in
      omega arith
]

is_one : (o : Option (List ℕ)) → IsSome o → one_if_open o ≡ 1
is_one (Some bs) h = refl
is_one None h = absurd cc

both : (o : Option (List ℕ)) → IsSome o → IsNone o → ⊥
both (Some x) s n = cc
both None s n = cc

at_most_one : (o : Option (List ℕ)) → one_if_open o ≤ 1
at_most_one (Some bs) = omega arith
at_most_one None = omega arith

-- one of the areas has no more pages than all
pub pages_below-one : (area : ℕ → Option (List ℕ)) (id n : ℕ) → id < n → length (unwrap_or (area id) []) / page_size ≤ pages_below area n
unfolding pages_below
pages_below-one area id zero h = absurd (omega arith)
pages_below-one area id (suc n) h = elim (cases_eq id n) [
  | inl e ↦ let here : length (unwrap_or (area id) []) / page_size ≡ length (unwrap_or (area n) []) / page_size =
      ap (λ (k : ℕ). length (unwrap_or (area k) []) / page_size) e in omega arith
  | inr ne ↦ let rest = pages_below-one area id n (omega arith) in omega arith
]

pub pages_below-none : (area : ℕ → Option (List ℕ)) (n : ℕ) → ((k : ℕ) → area k ≡ None) → pages_below area n ≡ 0
unfolding pages_below
pages_below-none area zero e = refl
pages_below-none area (suc n) e =
    let here : length (unwrap_or (area n) []) / page_size ≡ 0 = ap (λ (o : Option (List ℕ)). length (unwrap_or o []) / page_size) (e n) in
    let rest = pages_below-none area n e in omega arith

pub open_below-all : (area : ℕ → Option (List ℕ)) (n : ℕ) → ((k : ℕ) → k < n → IsSome (area k)) → open_below area n ≡ n
unfolding open_below
open_below-all area zero s = refl
open_below-all area (suc n) s =
    let here = is_one (area n) (s n (omega arith)) in
    let rest = open_below-all area n (λ k h. s k (omega arith)) in omega arith

-- one open area more
pub open_below-opened : (m : Memory) (id n : ℕ) → m.area id ≡ None → id < n → open_below (opened m id).area n ≡ open_below m.area n + 1
unfolding opened
open_below-opened m id n e h = let none = ap one_if_open e in omega (arith, open_below-set m.area id (Some []) n h)

-- one open area less
pub open_below-closed : (m : Memory) (id n : ℕ) → IsOpen m id → id < n → open_below (closed m id).area n + 1 ≡ open_below m.area n
unfolding closed
open_below-closed m id n o h = let some = is_one (m.area id) o in omega (arith, open_below-set m.area id None n h)

alike : (o p : Option (List ℕ)) → is_some o ≡ is_some p → one_if_open o ≡ one_if_open p
alike (Some x) (Some y) e = refl
alike None None e = refl
alike (Some x) None e = absurd cc
alike None (Some y) e = absurd cc

-- the same areas open
pub open_below-same : (m k : Memory) (n : ℕ) → ((j : ℕ) → is_some (k.area j) ≡ is_some (m.area j)) → open_below k.area n ≡ open_below m.area n
unfolding open_below
open_below-same m k zero s = refl
open_below-same m k (suc n) s = let here = alike (k.area n) (m.area n) (s n) in let rest = open_below-same m k n s in omega arith

pub open_below-fresh : (pages n : ℕ) → open_below (fresh pages).area n ≡ 0
unfolding open_below fresh
open_below-fresh pages zero = refl
open_below-fresh pages (suc n) = let rest = open_below-fresh pages n in omega arith

pub open_below-most : (m : Memory) (n : ℕ) → open_below m.area n ≤ n
unfolding open_below
open_below-most m zero = omega arith
open_below-most m (suc n) = let one = at_most_one (m.area n) in let rest = open_below-most m n in omega arith

-- an open area and a closed one have two numbers
pub open_apart : (m : Memory) (i j : ℕ) → IsOpen m i → IsNone (m.area j) → j ≢ i
open_apart m i j o n e = both (m.area i) o (subst (λ k. IsNone (m.area k)) e n)

-- not every area is open where one is not
pub open_below-none : (m : Memory) (id n : ℕ) → m.area id ≡ None → id < n → open_below m.area n < n
unfolding open_below
open_below-none m id zero e h = absurd (omega arith)
open_below-none m id (suc n) e h = elim (cases_eq id n) [
  | inl q ↦ let none : one_if_open (m.area n) ≡ 0 = ap one_if_open (ap m.area (sym q) ∙ e) in
      let most = open_below-most m n in omega arith
  | inr ne ↦ let one = at_most_one (m.area n) in let rest = open_below-none m id n e (omega arith) in omega arith
]

-- frames
pub Edited-self : (m : Memory) (id lo hi : ℕ) → IsOpen m id → Edited m m id lo hi
Edited-self m id lo hi o = record { opened = o; others = λ j ne. refl; free = refl; pages = refl; loan = refl; outside = SameOutside-self (bytes m id) lo hi }

pub Edited-wider : (m n : Memory) (id lo hi lo' hi' : ℕ) → Edited m n id lo hi → lo' ≤ lo → hi ≤ hi' → Edited m n id lo' hi'
Edited-wider m n id lo hi lo' hi' e l h =
    record {
      opened = e.opened;
      others = e.others;
      free = e.free;
      pages = e.pages;
      loan = e.loan;
      outside = SameOutside-wider (bytes m id) (bytes n id) lo hi lo' hi' e.outside l h;
    }

pub Edited-both : (m n k : Memory) (id lo hi : ℕ) → Edited m n id lo hi → Edited n k id lo hi → Edited m k id lo hi
Edited-both m n k id lo hi d e = record {
  opened = e.opened;
  others = λ j ne. e.others j ne ∙ d.others j ne;
  free = e.free ∙ d.free;
  pages = e.pages ∙ d.pages;
  loan = e.loan ∙ d.loan;
  outside = SameOutside-both (bytes m id) (bytes n id) (bytes k id) lo hi d.outside e.outside;
}

-- an area rewritten, by its new bytes
pub Edited-with_bytes : (m : Memory) (id lo hi : ℕ) (bs : List ℕ) → SameOutside (bytes m id) bs lo hi → Edited m (with_bytes m id bs) id lo hi
Edited-with_bytes m id lo hi bs s =
    let e = bytes-with_bytes m id bs in
    record {
      opened = IsOpen-with_bytes m id bs;
      others = λ j ne. area-with_bytes m id bs j ne;
      free = free-with_bytes m id bs;
      pages = pages-with_bytes m id bs;
      loan = loan-with_bytes m id bs;
      outside = rw e s;
    }

pub OnlyArea-from_Edited : (m n : Memory) (id lo hi : ℕ) → Edited m n id lo hi → OnlyArea m n id
OnlyArea-from_Edited m n id lo hi e =
    record { opened = e.opened; others = e.others; ledger = let len = e.outside.len in let free = e.free in omega arith; pages = e.pages; loan = e.loan }

pub OnlyArea-self : (m : Memory) (id : ℕ) → IsOpen m id → OnlyArea m m id
OnlyArea-self m id o = record { opened = o; others = λ j ne. refl; ledger = refl; pages = refl; loan = refl }

pub OnlyArea-both : (m n k : Memory) (id : ℕ) → OnlyArea m n id → OnlyArea n k id → OnlyArea m k id
OnlyArea-both m n k id d e =
    record {
      opened = e.opened;
      others = λ j ne. e.others j ne ∙ d.others j ne;
      ledger = e.ledger ∙ d.ledger;
      pages = e.pages ∙ d.pages;
      loan = e.loan ∙ d.loan;
    }

pub OnlyArea-with_bytes : (m : Memory) (id : ℕ) (bs : List ℕ) → length bs ≡ length (bytes m id) → OnlyArea m (with_bytes m id bs) id
OnlyArea-with_bytes m id bs h = record {
  opened = IsOpen-with_bytes m id bs;
  others = λ j ne. area-with_bytes m id bs j ne;
  ledger = let e = ap length (bytes-with_bytes m id bs) in let f = free-with_bytes m id bs in omega arith;
  pages = pages-with_bytes m id bs;
  loan = loan-with_bytes m id bs;
}

pub OnlyArea-grown : (m : Memory) (id n : ℕ) → n ≤ m.free → OnlyArea m (grown m id n) id
OnlyArea-grown m id n h = record {
  opened = IsOpen-grown m id n;
  others = λ j ne. area-grown m id n j ne;
  ledger = omega (arith, length-grown m id n, free-grown m id n);
  pages = pages-grown m id n;
  loan = loan-grown m id n;
}

pub OnlyArea-shrunk : (m : Memory) (id n : ℕ) → page_size * n ≤ length (bytes m id) → OnlyArea m (shrunk m id n) id
OnlyArea-shrunk m id n h = record {
  opened = IsOpen-shrunk m id n;
  others = λ j ne. area-shrunk m id n j ne;
  ledger = omega (arith, length-shrunk m id n, free-shrunk m id n);
  pages = pages-shrunk m id n;
  loan = loan-shrunk m id n;
}

-- the first bytes of a grown or shrunk area
pub SameIn-grown : (m : Memory) (id n lo hi : ℕ) → hi ≤ length (bytes m id) → SameIn (bytes m id) (bytes (grown m id n) id) lo hi
SameIn-grown m id n lo hi h = rw (bytes-grown m id n) (SameIn-append (bytes m id) (replicate (page_size * n) 0) lo hi h)

pub SameIn-shrunk : (m : Memory) (id n lo hi : ℕ) → hi + page_size * n ≤ length (bytes m id) → SameIn (bytes m id) (bytes (shrunk m id n) id) lo hi
SameIn-shrunk m id n lo hi h = rw (bytes-shrunk m id n) (SameIn-take (length (bytes m id) - page_size * n) (bytes m id) lo hi (omega arith))

-- for `grind`
pub ruleset memory_laws =
    (bytes-with_bytes, with_bytes-with_bytes, IsOpen-with_bytes, area-with_bytes, bytes-with_other, free-with_bytes, pages-with_bytes, loan-with_bytes)

pub ruleset pool_laws = (
  open_apart,
  bytes-opened_other,
  bytes-closed_other,
  bytes-grown_other,
  bytes-shrunk_other,
  area-opened,
  bytes-opened,
  IsOpen-opened,
  free-opened,
  pages-opened,
  loan-opened,
  area-closed_same,
  area-closed,
  bytes-closed,
  free-closed,
  pages-closed,
  loan-closed,
  area-grown,
  length-grown,
  IsOpen-grown,
  free-grown,
  pages-grown,
  loan-grown,
  area-shrunk,
  length-shrunk,
  IsOpen-shrunk,
  free-shrunk,
  pages-shrunk,
  loan-shrunk,
)
