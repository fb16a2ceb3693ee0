-- Tasks at their places, and the steps of a transfer that goes out.
use Rattle.rh_tasks.proofs.Common.{◌≡◌, ◌≢◌, ℕ, zero, suc, ◌≤◌, true, false, refl, ap, sym, subst, ◌∙◌, arith, List, [], ◌∷◌, Option, Some, None, Ok, is_some}
use Rattle.rh_tasks.proofs.Common.{ok_or, ◌&&◌, ◌==◌, ◌-◌, slice_get, map, option_map, get_or, nat_tests, slice_get-map, slice_get_within, slice_get-get_or}
use Rattle.rh_tasks.proofs.Common.{NotABlock, Memory, block_size, heap_start, holds, buffer_at, overlap, Task, is_bad_range, slot_in, Seat, task_of}
use Rattle.rh_tasks.proofs.Common.{AreDistinct, Sits, avoids-at}
use Rattle.std.proofs.lemmas.Option.{get_or_from_slice_get}
use Rattle.rh_tasks.proofs.Portions.{buffer-wide, reach-buffer, reach-nothing, reach-block}

-- ---- tasks at their places

-- the task at a place is that of the seat there
pub record Seated (m : Memory) (seats : List Seat) (i : ℕ) (t : Task) : Type 0 where
  pub seat : Seat
  pub sits : Sits seats i seat
  pub is : t ≡ task_of m seat

pub seated : (m : Memory) (seats : List Seat) (i : ℕ) (t : Task) → slice_get (map (task_of m) seats) i ≡ Some t → Seated m seats i t
seated m seats i t e = go (slice_get seats i) refl (sym (slice_get-map (task_of m) seats i) ∙ e)
  where
    go : (o : Option Seat) → slice_get seats i ≡ o → option_map (task_of m) o ≡ Some t → Seated m seats i t
    go None q h = absurd (cc)
    go (Some s) q h = record {
      seat = s;
      sits = record { inside = slice_get_within seats i s q; is = get_or_from_slice_get seats i s s q };
      is = cc;
    }

pub one-member : {A : Type 0} (xs : List A) (i : ℕ) (x y : A) → Sits xs i x → get_or xs i y ≡ y → x ≡ y
one-member xs i x y at is =
    let p = slice_get-get_or xs i x at.inside in
    let q = slice_get-get_or xs i y at.inside in
    let same : Some (get_or xs i x) ≡ Some (get_or xs i y) = sym p ∙ q in
    let both : get_or xs i x ≡ get_or xs i y = cc in
    sym at.is ∙ both ∙ is

-- a seat that was read there is the task's
pub seat-is : {m : Memory} {seats : List Seat} {i : ℕ} {t : Task} → Seated m seats i t → (s : Seat) → get_or seats i s ≡ s → t ≡ task_of m s
seat-is {m} {seats} {i} a s is = a.is ∙ ap (task_of m) (one-member seats i a.seat s a.sits is)

-- members at two places have two numbers
pub apart-at : {A : Type 0} (f : A → ℕ) (xs : List A) (i j : ℕ) (x y : A) → AreDistinct (map f xs) → Sits xs i x → Sits xs j y → i ≢ j → f x ≢ f y
apart-at f [] i j x y all at bt ne q = absurd (omega (arith, at.inside))
apart-at f (z ∷ xs) zero zero x y all at bt ne q = absurd (ne refl)
apart-at f (z ∷ xs) zero (suc j) x y all at bt ne q =
    avoids-at f (f z) xs j y all.0 (record { inside = omega (arith, bt.inside); is = bt.is }) (sym q ∙ sym (ap f at.is))
apart-at f (z ∷ xs) (suc i) zero x y all at bt ne q =
    avoids-at f (f z) xs i x all.0 (record { inside = omega (arith, at.inside); is = at.is }) (q ∙ sym (ap f bt.is))
apart-at f (z ∷ xs) (suc i) (suc j) x y all at bt ne q =
    apart-at f xs i j x y all.1 (record { inside = omega (arith, at.inside); is = at.is }) (record { inside = omega (arith, bt.inside); is = bt.is })
    (λ e. ne (ap suc e)) q

test-apart : (a b : ℕ) → a ≢ b → (a == b) ≡ false
test-apart a b h = grind (arith, nat_tests)

pub test-same : (a b : ℕ) → a ≡ b → (a == b) ≡ true
test-same a b h = grind (arith, nat_tests)

-- ---- what is out of reach

module _ {m : Memory} {seats : List Seat} {i j : ℕ} {t r : Task} (a : Seated m seats i t) (b : Seated m seats j r) (s : Seat) (is : get_or seats j s ≡ s)
    (address room place n : ℕ) where
  pub in-buffer : {size : ℕ} → Ok size ≡ ok_or (block_size (address - heap_start) (slot_in m s.slot).heap) NotABlock → room ≤ size
      → false ≡ is_bad_range t r address room place n
  unfolding task_of
  in-buffer e h = rw (seat-is b s is) (sym (reach-buffer t (task_of m s) address room place n (buffer-wide address room (slot_in m s.slot) e h)))

  module _ (narrow : is_some (buffer_at address room (slot_in m s.slot)) ≡ false) where
    pub in-none : false ≡ holds address room (slot_in m s.slot) → true ≡ is_bad_range t r address room place n
    unfolding task_of
    in-none e = rw (seat-is b s is) (sym (reach-nothing t (task_of m s) address room place n narrow (sym e)))

    module _ (held : true ≡ holds address room (slot_in m s.slot)) where
      in-block : is_bad_range t r address room place n ≡ (t.handle == r.handle && overlap address room place n)
      unfolding task_of
      in-block = rw (seat-is b s is) (reach-block t (task_of m s) address room place n narrow (sym held))

      pub in-own : i ≡ j → overlap address room place n ≡ is_bad_range t r address room place n
      in-own e =
          let P : ℕ → Type 0 = λ k. get_or seats k b.seat ≡ b.seat in
          let one : a.seat ≡ b.seat = one-member seats i a.seat b.seat a.sits (subst P (sym e) b.sits.is) in
          let same : t.handle ≡ r.handle = ap (λ (x : Task). x.handle) (a.is ∙ ap (task_of m) one ∙ sym b.is) in
          sym (in-block ∙ rw (test-same t.handle r.handle same) refl)

      pub in-other : AreDistinct (map (λ (x : Seat). x.handle) seats) → i ≢ j → (i == j) ≡ is_bad_range t r address room place n
      unfolding task_of
      in-other handles ne =
          let apart : t.handle ≢ r.handle =
          λ q. apart-at (λ (x : Seat). x.handle) seats i j a.seat b.seat handles a.sits b.sits ne
          (ap (λ (x : Task). x.handle) (sym a.is) ∙ q ∙ ap (λ (x : Task). x.handle) b.is) in
          test-apart i j ne ∙ sym (in-block ∙ rw (test-apart t.handle r.handle apart) refl)
