-- Lists of records, with room for one more and with one written anew.
use Rattle.std.proofs.Common.{◌≡◌, ℕ, zero, suc, ◌+◌, ◌<◌, Bool, true, false, cond, refl, ap, sym, ◌∙◌, arith, List, [], ◌∷◌, ◌++◌, length, get_or, take, drop}
use Rattle.std.specs.Prelude.{Some, None, not, nat_le, nat_lt, filter, remove, ◌==◌}
use Rattle.std.proofs.Common.{subst}
use Rattle.std.proofs.Math.ListN.{set}
use Rattle.std.proofs.lemmas.List.Edits.{map_over_more}
use Rattle.std.specs.List.{position, position_or_len, prefix_len}
use Rattle.std.proofs.lemmas.List.Sums.{prefix_len-le-length}
use Rattle.std.proofs.lemmas.List.Quantifiers.{position-Some}
use borrow.Author.Tests.{ltb-false, leb-false, le-leb, lt-leb}
use Rattle.rh_defs.specs.Records.{most_records, is_full, dropped, with_id}
use Rattle.rh_ram.specs.Inner.Rooms.{roomy}

module _ {A : Type 0} (lasts : A → Bool) where
  -- the first that has ended, where its place is known
  dropped-at : (xs : List A) (i : ℕ) (d : A) → i < length xs → not (lasts (get_or xs i d)) ≡ true
      → ((j : ℕ) → j < i → not (lasts (get_or xs j d)) ≡ false) → remove xs i ≡ dropped lasts xs
  dropped-at [] i d inside ended before = absurd (omega arith)
  dropped-at (x ∷ xs) zero d inside ended before =
      elim (lasts x) as (λ b. not b ≡ true → xs ≡ cond b (x ∷ dropped lasts xs) xs) [ true ↦ λ e. absurd (cc) | false ↦ λ e. refl ] ended
  dropped-at (x ∷ xs) (suc i) d inside ended before =
      elim (lasts x) as (λ b. not b ≡ false → x ∷ remove xs i ≡ cond b (x ∷ dropped lasts xs) xs)
      [ true ↦ λ e. ap (λ ys. x ∷ ys) (dropped-at xs i d (omega arith) ended (λ j h. before (suc j) (omega arith))) | false ↦ λ e. absurd (cc) ]
      (before 0 (omega arith))

  -- where the first that has ended is past the end, all last
  all-last : (xs : List A) → prefix_len (λ x. not (not (lasts x))) xs ≡ length xs → length (filter lasts xs) ≡ length xs
  all-last [] none = refl
  all-last (x ∷ xs) none =
      elim (lasts x) as (λ b. cond (not (not b)) (1 + prefix_len (λ x. not (not (lasts x))) xs) 0 ≡ suc (length xs)
      → length (cond b (x ∷ filter lasts xs) (filter lasts xs)) ≡ suc (length xs))
      [ true ↦ λ e. omega (arith, all-last xs (omega (arith, e))) | false ↦ λ e. absurd (omega (arith, e)) ] none

  -- room after the first that has ended goes
  pub room-after : (xs : List A) (i : ℕ) (d : A) → length xs ≡ most_records → position (λ x. not (lasts x)) xs ≡ Some i → remove xs i ≡ roomy lasts xs
  room-after xs i d full found =
      let first = position-Some (λ x. not (lasts x)) xs i d found in
      let is : nat_le most_records (length xs) ≡ true = le-leb most_records (length xs) (omega arith) in
      rw is (dropped-at xs i d first.0 first.1 first.2)

  pub room-before : (xs : List A) → length xs < most_records → xs ≡ roomy lasts xs
  room-before xs few = let not_full : nat_le most_records (length xs) ≡ false = lt-leb most_records (length xs) (omega arith) in rw not_full refl

  pub none_lasts_out : (xs : List A) → length xs ≡ most_records → is_full lasts xs ≡ false → position (λ x. not (lasts x)) xs ≡ None → ⊥
  none_lasts_out xs full few none = go (nat_lt (position_or_len (λ x. not (lasts x)) xs) (length xs)) refl none
    where
      go : (b : Bool) → nat_lt (position_or_len (λ x. not (lasts x)) xs) (length xs) ≡ b
          → cond b (Some (position_or_len (λ x. not (lasts x)) xs)) None ≡ None → ⊥
      go true e q = absurd (cc)
      go false e q =
          let all : prefix_len (λ x. not (not (lasts x))) xs ≡ length xs =
          omega (arith, ltb-false _ _ e, prefix_len-le-length (λ x. not (not (lasts x))) xs) in
          omega (arith, leb-false most_records (length (filter lasts xs)) few, all-last xs all)

-- ---- one written anew, by a walk

module _ {A : Type 0} (id_of : A → ℕ) (id : ℕ) (new : A) where
  at-more : (xs ys : List A) (i : ℕ) (x : A) → i < length xs → ys ≡ with_id id_of id new (take i xs) ++ drop i xs → x ≡ get_or ys i x
      → set ys i (cond (id_of (get_or ys i x) == id) new x) ≡ with_id id_of id new (take (i + 1) xs) ++ drop (i + 1) xs
  at-more xs ys i x inside so_far is =
      let P : A → Type 0 = λ y. set ys i (cond (id_of y == id) new x) ≡ with_id id_of id new (take (i + 1) xs) ++ drop (i + 1) xs in
      subst P is (map_over_more (λ r. cond (id_of r == id) new r) xs ys i x inside so_far is)

  -- a record of the id is written
  pub written-more : (xs ys : List A) (i : ℕ) (x : A) → i < length xs → ys ≡ with_id id_of id new (take i xs) ++ drop i xs → x ≡ get_or ys i x
      → (id_of (get_or ys i x) == id) ≡ true → set ys i new ≡ with_id id_of id new (take (i + 1) xs) ++ drop (i + 1) xs
  written-more xs ys i x inside so_far is test = ap (λ b. set ys i (cond b new x)) (sym test) ∙ at-more xs ys i x inside so_far is

  -- another one stays
  pub kept-more : (xs ys : List A) (i : ℕ) (x : A) → i < length xs → ys ≡ with_id id_of id new (take i xs) ++ drop i xs → x ≡ get_or ys i x
      → (id_of (get_or ys i x) == id) ≡ false → set ys i (get_or ys i x) ≡ with_id id_of id new (take (i + 1) xs) ++ drop (i + 1) xs
  kept-more xs ys i x inside so_far is test =
      ap (λ y. set ys i y) (sym is) ∙ ap (λ b. set ys i (cond b new x)) (sym test) ∙ at-more xs ys i x inside so_far is
