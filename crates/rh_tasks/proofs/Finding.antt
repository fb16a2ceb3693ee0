-- The tasks of a world by name.
use Rattle.std.proofs.lemmas.Bool.{eqb-true}
use Rattle.std.proofs.Common.{ap, ◌≡◌, ℕ, zero, suc, ◌<◌, Bool, true, false, cond, refl, sym, subst, ◌∙◌, arith, List, [], ◌∷◌, length}
use Rattle.std.specs.Prelude.{Some, None, nat_lt, find, map, Ok, Err, ◌||◌, ◌==◌}
use Rattle.std.proofs.Math.ListN.{get_or}
use Rattle.std.specs.List.{position, position_or_len, list_any}
use Rattle.std.specs.Str.{bytes_eq}
use Rattle.std.proofs.lemmas.List.Quantifiers.{position-Some}
use Rattle.std.proofs.lemmas.List.Folds.{find_at}
use Rattle.std.proofs.lemmas.Option.{slice_get_past}
use borrow.Author.Tests.{ltb-false, ltb-true}
use Rattle.rh_defs.specs.declared.refusal.Refusal.TheVariants.{NoName, NoArea}
use Rattle.rh_defs.specs.Chain.{found_or}
use Rattle.rh_defs.specs.Files.{FileList}
use Rattle.rh_defs.specs.Memory.{Memory}
use Rattle.rh_defs.specs.Desk.{has_name, named}
use Rattle.rh_defs.specs.Commands.{is_numbered}
use Rattle.rh_tasks.specs.declared.seat.Seat.{Seat}
use Rattle.rh_tasks.specs.declared.made.MadeArea.{MadeArea}
use Rattle.rh_tasks.specs.View.{Kept, is_named, has_number, task_of, made_of, desk_of}
use Rattle.rh_tasks.specs.Finding.{FoundSeat}
use Rattle.rh_tasks.proofs.Lists.{Sits}

-- ---- the first member that passes a test

find-first : {A B : Type 0} (f : A → B) (test : B → Bool) (xs : List A) (i : ℕ) (x : A)
    → i < length xs → get_or xs i x ≡ x → test (f x) ≡ true → ((j : ℕ) → j < i → test (f (get_or xs j x)) ≡ false)
    → find test (map f xs) ≡ Some (f x)
find-first f test [] i x inside is passes before = absurd (omega arith)
find-first {A} f test (y ∷ xs) zero x inside is passes before =
    let P : A → Type 0 = λ z. cond (test (f z)) (Some (f z)) (find test (map f xs)) ≡ Some (f x) in
    subst P (sym is) (rw passes refl)
find-first f test (y ∷ xs) (suc i) x inside is passes before =
    let first : test (f y) ≡ false = before 0 (omega arith) in
    rw first (find-first f test xs i x (omega arith) is passes (λ j h. before (suc j) (omega arith)))

pub find-none : {A : Type 0} (p : A → Bool) (xs : List A) → position p xs ≡ None → find p xs ≡ None
find-none p xs h = go (nat_lt (position_or_len p xs) (length xs)) refl h
  where
    go : (b : Bool) → nat_lt (position_or_len p xs) (length xs) ≡ b → cond b (Some (position_or_len p xs)) None ≡ None → find p xs ≡ None
    go true e q = absurd (cc)
    go false e q = find_at p xs ∙ slice_get_past xs (position_or_len p xs) (ltb-false _ _ e)

pub find-map : {A B : Type 0} (f : A → B) (test : B → Bool) (xs : List A) → find (λ x. test (f x)) xs ≡ None → find test (map f xs) ≡ None
find-map f test [] h = refl
find-map f test (x ∷ xs) h =
    elim (test (f x)) as (λ b. cond b (Some x) (find (λ x. test (f x)) xs) ≡ None → cond b (Some (f x)) (find test (map f xs)) ≡ None)
    [ true ↦ λ (q : Some x ≡ None). absurd (cc) | false ↦ λ (q : find (λ x. test (f x)) xs ≡ None). find-map f test xs q ] h

-- where none has passed so far, none does
any-map : {A B : Type 0} (f : A → B) (test : B → Bool) (xs : List A) → list_any (λ x. test (f x)) xs ≡ list_any test (map f xs)
any-map f test [] = refl
any-map f test (x ∷ xs) = ap (λ (b : Bool). test (f x) || b) (any-map f test xs)

-- ---- tasks by name

pub sits : {name : List ℕ} {seats : List Seat} {i : ℕ} {s : Seat} → FoundSeat name seats i s → Sits seats i s
sits {name} {seats} {i} {s} f = record { inside = (position-Some (is_named name) seats i s f.at).0; is = f.is }

pub find-named : {name : List ℕ} {seats : List Seat} {i : ℕ} {s : Seat} (m : Memory) → FoundSeat name seats i s
    → find (has_name name) (map (task_of m) seats) ≡ Some (task_of m s)
unfolding task_of
find-named {name} {seats} {i} {s} m f =
    let first = position-Some (is_named name) seats i s f.at in
    find-first (task_of m) (has_name name) seats i s first.0 f.is (let P : Seat → Type 0 = λ y. bytes_eq y.name name ≡ true in subst P f.is first.1)
    (λ j h. first.2 j h)

pub nobody-named : (m : Memory) (name : List ℕ) (seats : List Seat) → position (is_named name) seats ≡ None
    → found_or (find (has_name name) (map (task_of m) seats)) NoName ≡ Err NoName
unfolding found_or task_of
nobody-named m name seats h = rw (find-map (task_of m) (has_name name) seats (find-none (is_named name) seats h)) refl

pub somebody-named : {name : List ℕ} {seats : List Seat} {i : ℕ} {s : Seat} (m : Memory) → FoundSeat name seats i s
    → found_or (find (has_name name) (map (task_of m) seats)) NoName ≡ Ok (task_of m s)
unfolding found_or
somebody-named m f = rw (find-named m f) refl

module _ (m : Memory) (made : List MadeArea) (files : FileList) (kept : Kept) where
  pub named-is : {name : List ℕ} {seats : List Seat} {i : ℕ} {s : Seat} → FoundSeat name seats i s → named name (desk_of m seats made files kept) ≡ Ok
      (task_of m s)
  unfolding named found_or
  named-is f = rw (find-named m f) refl

  pub nobody : (name : List ℕ) (seats : List Seat) → position (is_named name) seats ≡ None → named name (desk_of m seats made files kept) ≡ Err NoName
  unfolding named found_or task_of
  nobody name seats h = rw (find-map (task_of m) (has_name name) seats (find-none (is_named name) seats h)) refl

-- whether a name is in use
pub named-any : (m : Memory) (name : List ℕ) (seats : List Seat) → list_any (is_named name) seats ≡ list_any (has_name name) (map (task_of m) seats)
unfolding task_of
named-any m name seats = any-map (task_of m) (has_name name) seats

-- ---- made areas by number

pub made-sits : (k : ℕ) (made : List MadeArea) (i : ℕ) (a : MadeArea) → position (has_number k) made ≡ Some i → get_or made i a ≡ a → Sits made i a
made-sits k made i a at is = record { inside = (position-Some (has_number k) made i a at).0; is = is }

pub made-number : (k : ℕ) (made : List MadeArea) (i : ℕ) (a : MadeArea) → position (has_number k) made ≡ Some i → get_or made i a ≡ a → a.number ≡ k
made-number k made i a at is =
    let P : MadeArea → Type 0 = λ y. (y.number == k) ≡ true in
    eqb-true _ _ (subst P is (position-Some (has_number k) made i a at).1)

pub no-made : (m : Memory) (k : ℕ) (made : List MadeArea) → position (has_number k) made ≡ None
    → found_or (find (is_numbered k) (map (made_of m) made)) NoArea ≡ Err NoArea
unfolding found_or made_of
no-made m k made h = rw (find-map (made_of m) (is_numbered k) made (find-none (has_number k) made h)) refl

-- the seat at a place
pub seat-there : (seats : List Seat) (i : ℕ) → i < length seats → (s : Seat) × (get_or seats i s ≡ s)
seat-there [] i inside = absurd (omega (arith, inside))
seat-there (s ∷ seats) zero inside = (s, refl)
seat-there (s ∷ seats) (suc i) inside = let p = seat-there seats i (omega (arith, inside)) in (p.0, p.1)

position-within : (p : Seat → Bool) (xs : List Seat) (i : ℕ) → position p xs ≡ Some i → i < length xs
position-within p xs i h = go (nat_lt (position_or_len p xs) (length xs)) refl h
  where
    go : (b : Bool) → nat_lt (position_or_len p xs) (length xs) ≡ b → cond b (Some (position_or_len p xs)) None ≡ Some i → i < length xs
    go true e q = let same : position_or_len p xs ≡ i = cc in omega (arith, ltb-true _ _ e, same)
    go false e q = absurd cc

-- the seat at the place that a name has
pub found-in : {name : List ℕ} {seats : List Seat} {i : ℕ} → position (is_named name) seats ≡ Some i → (s : Seat) × FoundSeat name seats i s
found-in {name} {seats} {i} at =
    let some = seat-there seats i (position-within (is_named name) seats i at) in
    (some.0, record { at = at; is = some.1 })
