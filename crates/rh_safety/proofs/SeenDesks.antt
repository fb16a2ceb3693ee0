-- What is asked of a desk holds of each desk of a run.
use Rattle.rh_safety.proofs.Common.{◌≡◌, ℕ, ◌+◌, ◌<◌, Bool, true, false, List, [], ◌∷◌, Option, Some, refl, sym, ap, ◌∙◌, ◌≤◌, subst, inl, inr, arith}
use Rattle.rh_safety.proofs.Common.{eqb_tells, if◌then◌else◌, ◌==◌, IfSome, filter, map, not, Post, Seat, Parcel, None, has_seat, held_by, with_held}
use Rattle.rh_safety.proofs.Common.{post_death, post_poll, Desk}
use Rattle.rh_safety.proofs.Common.{Task, IsDesk, Has, of, task_of, field, Fits, HaveOwnSeats}
use Rattle.rh_defs.specs.Slot.{IsSlot}
use Rattle.rh_defs.specs.Laws.{Ascend, Rise, seat_handles, task_handles}
use Rattle.rh_defs.proofs.Lists.{find-all, map-filter, rise-filter, rise-same}
use Rattle.rh_defs.proofs.PostKeeps.{post_death-kept, post_poll-kept}
use Rattle.rh_safety.proofs.SeenTasks.{NotIn, Distinct}

-- ---- handles that go up are distinct

below_all : (h least next : ℕ) (ts : List Task) → h < least → Ascend least next ts → NotIn h ts
below_all h least next [] low up = tt
below_all h least next (t ∷ ts) low up = (
  (λ e. omega (arith, low, up.0, e)),
  below_all h (t.handle + 1) next ts
      (omega (arith, low, up.0)) up.1,
)

distinct_of : (least next : ℕ) (ts : List Task) → Ascend least next ts → Distinct ts
distinct_of least next [] up = tt
distinct_of least next (t ∷ ts) up = (
  below_all t.handle (t.handle + 1) next ts (omega arith) up.1,
  distinct_of
      (t.handle + 1) next ts up.1,
)

-- ---- seats are the tasks'

-- whether the handle is among these
abbrev is_among : ℕ → List ℕ → Bool
is_among h [] = false
is_among h (k ∷ ks) = if k == h then true else is_among h ks

seat_among : (h : ℕ) (seats : List Seat) → has_seat h seats ≡ is_among h (seat_handles seats)
seat_among h [] = refl
seat_among h (s ∷ seats) = ap (λ b. if s.handle == h then true else b) (seat_among h seats)

task_among : (h : ℕ) (ts : List Task) → field (λ t. true) false ts h ≡ is_among h (task_handles ts)
task_among h [] = refl
task_among h (t ∷ ts) = go (t.handle == h) (task_among h ts)
  where
    go : (b : Bool) → of (λ t. true) false (task_of h ts) ≡ is_among h (task_handles ts) →
        of (λ t. true) false (if b then Some t else task_of h ts) ≡ (if b then true else is_among h (task_handles ts))
    go true q = refl
    go false q = q

-- ---- seats by their handles

-- the numbers of one list go up as those of another with the same ones
rises_as : {A B : Type 0} (number : A → ℕ) (other : B → ℕ) (least next : ℕ) (xs : List A) (ys : List B) →
    map other ys ≡ map number xs → Rise number least next xs → Rise other least next ys
rises_as number other least next [] [] e up = up
rises_as number other least next [] (y ∷ ys) e up = absurd cc
rises_as number other least next (x ∷ xs) [] e up = absurd cc
rises_as number other least next (x ∷ xs) (y ∷ ys) e up =
    let here : other y ≡ number x = cc in
    let rest : map other ys ≡ map number xs = cc in (
      omega (arith, up.0, here),
      rises_as number other (other y + 1) next xs ys rest (subst (λ n. Rise number (n + 1) next xs) (sym here) up.1),
    )

-- a seat is no lower than the least handle
not_below : (least next : ℕ) (seats : List Seat) → Rise (λ (s : Seat). s.handle) least next seats → (s : Seat) →
    Has s seats → least ≤ s.handle
not_below least next [] up s has = absurd has
not_below least next (y ∷ seats) up s (inl same) = subst (λ (z : Seat). least ≤ z.handle) same up.0
not_below least next (y ∷ seats) up s (inr has) =
    let z = not_below (y.handle + 1) next seats up.1 s has in omega (arith, z, up.0)

-- what a seat holds, its handle holds
seat_holds : (least next : ℕ) (seats : List Seat) → Rise (λ (s : Seat). s.handle) least next seats → (s : Seat) →
    Has s seats → held_by s.handle seats ≡ s.holds
seat_holds least next [] up s has = absurd has
seat_holds least next (y ∷ seats) up s (inl same) =
    subst (λ (z : Seat). (if y.handle == z.handle then y.holds else held_by z.handle seats) ≡ z.holds) same
    (elim (eqb_tells y.handle y.handle) [ inl a ↦ rw a.0 refl | inr a ↦ absurd (a.1 refl) ])
seat_holds least next (y ∷ seats) up s (inr has) =
    let z = not_below (y.handle + 1) next seats up.1 s has in
    elim (eqb_tells y.handle s.handle) [
      | inl a ↦ absurd (let w = a.1 in omega (arith, z, w))
      | inr a ↦ rw a.0 (seat_holds (y.handle + 1) next seats up.1 s has)
    ]

own_seats : (d : Desk) → IsDesk d → (p : Post) → ((next : ℕ) → Rise (λ (s : Seat). s.handle) 0 next d.post.seats →
    Rise (λ (s : Seat). s.handle) 0 next p.seats) → HaveOwnSeats p
own_seats d is p kept s has =
    let up = rises_as (λ (t : Task). t.handle) (λ (s : Seat). s.handle) 0 d.next_handle d.tasks d.post.seats is.seats is.handles in
    seat_holds 0 d.next_handle p.seats (kept d.next_handle up) s has

-- a seat keeps its handle, whatever it holds
held_handles : (h : ℕ) (v : Option Parcel) (seats : List Seat) →
    map (λ (s : Seat). s.handle) (with_held h v seats) ≡ map (λ (s : Seat). s.handle) seats
held_handles h v [] = refl
held_handles h v (s ∷ seats) = elim (eqb_tells s.handle h) [
  | inl w ↦ rw w.0 refl
  | inr w ↦ rw w.0 (ap (λ (ks : List ℕ). s.handle ∷ ks) (held_handles h v seats))
]

-- ---- what is asked

pub fits : (d : Desk) → IsDesk d → Fits d
fits d is = record {
  handles = distinct_of 0 d.next_handle d.tasks is.handles;
  slots = λ h t found. subst (λ (o : Option Task). IfSome o (λ t. IsSlot t.slot)) found (find-all (λ (t : Task).
      IsSlot t.slot) (λ t. t.handle == h) d.tasks is.slots);
  seats = λ h. seat_among h d.post.seats ∙ ap (is_among h) is.seats ∙ sym (task_among h d.tasks);
  polled = λ h. own_seats d is (post_poll h d.post).0 (λ next. rise-same (λ (s : Seat). s.handle) 0 next d.post.seats _
      (post_poll-kept h d.post is.post).handles);
  left = λ h. own_seats d is (post_death h d.post) (λ next up.
      let others = filter (λ (s : Seat). not (s.handle == h)) d.post.seats in
      rise-same (λ (s : Seat). s.handle) 0 next others _
      ((post_death-kept h d.post is.post).handles ∙ sym (map-filter (λ (s : Seat). s.handle) (λ a. not (a == h)) d.post.seats))
      (rise-filter (λ (s : Seat). s.handle) (λ (s : Seat). not (s.handle == h)) 0 next d.post.seats up));
  own = own_seats d is d.post (λ next up. up);
  down = λ h. own_seats d is (record d.post { seats = with_held h None d.post.seats }) (λ next.
      rise-same (λ (s : Seat). s.handle) 0 next d.post.seats _ (held_handles h None d.post.seats));
}
