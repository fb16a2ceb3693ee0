-- Numbers in order, put in one by one.
use Rattle.rh_pictures.proofs.Common.{◌≡◌, ◌≢◌, ℕ, suc, ◌<◌, ◌≤◌, Bool, true, false, refl, ap, ap₂, sym, ◌∙◌, arith, eq-eqb, List, [], ◌∷◌, ◌++◌, length}
use Rattle.rh_pictures.proofs.Common.{get_or, nat_lt, Option, Some, None, ◌==◌, nat_le, not, if◌then◌else◌, insert, ne_eqb, nat_tests, drop_all, take_all}
use Rattle.rh_pictures.proofs.Common.{inserted}
use Rattle.std.specs.List.{position, position_or_len}
use Rattle.std.proofs.lemmas.List.Sums.{prefix_len-le-length}

-- ---- a place that is found, or none

module _ {A : Type 0} (p : A → Bool) (xs : List A) where
  abbrev found : Bool → Option ℕ
  found b = if b then Some (position_or_len p xs) else None

  pub place-some : (k : ℕ) → position p xs ≡ Some k → k ≡ position_or_len p xs
  place-some k e = go (nat_lt (position_or_len p xs) (length xs)) e
    where
      go : (b : Bool) → found b ≡ Some k → k ≡ position_or_len p xs
      go true e = cc
      go false e = absurd (cc)

  pub place-inside : (k : ℕ) → position p xs ≡ Some k → k < length xs
  place-inside k e = go (nat_lt (position_or_len p xs) (length xs)) refl e
    where
      go : (b : Bool) → nat_lt (position_or_len p xs) (length xs) ≡ b → found b ≡ Some k → k < length xs
      go true t e =
          let is : k ≡ position_or_len p xs = cc in
          let least : position_or_len p xs < length xs = grind (arith, nat_tests) in
          omega (arith, is, least)
      go false t e = absurd (cc)

  pub place-none : position p xs ≡ None → length xs ≡ position_or_len p xs
  place-none e = go (nat_lt (position_or_len p xs) (length xs)) refl e
    where
      go : (b : Bool) → nat_lt (position_or_len p xs) (length xs) ≡ b → found b ≡ None → length xs ≡ position_or_len p xs
      go true t e = absurd (cc)
      go false t e =
          let most : position_or_len p xs ≤ length xs = prefix_len-le-length (λ x. not (p x)) xs in
          let least : length xs ≤ position_or_len p xs = grind (arith, nat_tests) in
          omega (arith, most, least)

-- ---- the place of a number

-- the place of the first number that isn't smaller
abbrev pub place_of : ℕ → List ℕ → ℕ
place_of n ns = position_or_len (λ m. nat_le n m) ns

-- it is found within the list, or stands behind its end
pub place-found : (n : ℕ) (ns : List ℕ) (k : ℕ) → position (λ m. nat_le n m) ns ≡ Some k → (k ≡ place_of n ns) × (k < length ns)
place-found n ns k e =
    (place-some (λ m. nat_le n m) ns k e, place-inside (λ m. nat_le n m) ns k e)

pub place-behind : (n : ℕ) (ns : List ℕ) → position (λ m. nat_le n m) ns ≡ None → length ns ≡ place_of n ns
place-behind n ns e = place-none (λ m. nat_le n m) ns e

-- a number that stands at its place is there already
module _ (n : ℕ) where
  there-step : (m : ℕ) (ms : List ℕ) (d : ℕ)
      → (place_of n ms < length ms → get_or ms (place_of n ms) d ≡ n → inserted n ms ≡ ms)
      → (b : Bool) → nat_le n m ≡ b → place_of n (m ∷ ms) < length (m ∷ ms) → get_or (m ∷ ms) (place_of n (m ∷ ms)) d ≡ n
      → inserted n (m ∷ ms) ≡ m ∷ ms
  there-step m ms d before true t inside e =
      let here : m ≡ n = rw t at e in
      let same : (n == m) ≡ true = eq-eqb n m (sym here) in
      rw same refl
  there-step m ms d before false t inside e =
      let above : m < n = grind (arith, nat_tests) in
      let other : (n == m) ≡ false = ne_eqb n m (λ q. omega (arith, above, q)) in
      let more : nat_lt n m ≡ false = grind (arith, nat_tests) in
      let up : place_of n (m ∷ ms) ≡ suc (place_of n ms) = rw t (omega arith) in
      let there : get_or ms (place_of n ms) d ≡ n = ap (λ j. get_or (m ∷ ms) j d) (sym up) ∙ e in
      rw (other, more) (ap (λ z. m ∷ z) (before (omega (arith, inside, up)) there))

  pub inserted-there : (ns : List ℕ) (d : ℕ) → place_of n ns < length ns → get_or ns (place_of n ns) d ≡ n → inserted n ns ≡ ns
  inserted-there [] d inside e = absurd (omega (arith, inside))
  inserted-there (m ∷ ms) d inside e = there-step m ms d (inserted-there ms d) (nat_le n m) refl inside e

  -- another number goes there
  smaller : (m : ℕ) → nat_le n m ≡ true → m ≢ n → n < m
  smaller m t apart =
      let most : n ≤ m = grind (arith, nat_tests) in
      omega (arith, most, apart)

  new-step : (m : ℕ) (ms : List ℕ) (d : ℕ)
      → ((place_of n ms < length ms → get_or ms (place_of n ms) d ≢ n) → inserted n ms ≡ insert ms (place_of n ms) n)
      → (b : Bool) → nat_le n m ≡ b → (place_of n (m ∷ ms) < length (m ∷ ms) → get_or (m ∷ ms) (place_of n (m ∷ ms)) d ≢ n)
      → inserted n (m ∷ ms) ≡ insert (m ∷ ms) (place_of n (m ∷ ms)) n
  new-step m ms d before true t new =
      let apart : 0 < length (m ∷ ms) → m ≢ n = rw t at new in
      let other : (n == m) ≡ false = ne_eqb n m (λ q. apart (omega arith) (sym q)) in
      let below : n < m = smaller m t (apart (omega arith)) in
      let least : nat_lt n m ≡ true = grind (arith, nat_tests) in
      rw (t, other, least) refl
  new-step m ms d before false t new =
      let above : m < n = grind (arith, nat_tests) in
      let other : (n == m) ≡ false = ne_eqb n m (λ q. omega (arith, above, q)) in
      let more : nat_lt n m ≡ false = grind (arith, nat_tests) in
      let up : place_of n (m ∷ ms) ≡ suc (place_of n ms) = rw t (omega arith) in
      let rest : inserted n ms ≡ insert ms (place_of n ms) n =
      before (λ inside q. new (omega (arith, inside, up)) (ap (λ j. get_or (m ∷ ms) j d) up ∙ q)) in
      rw (other, more) (ap (λ z. m ∷ z) rest ∙ ap (λ j. insert (m ∷ ms) j n) (sym up))

  pub inserted-new : (ns : List ℕ) (d : ℕ)
      → (place_of n ns < length ns → get_or ns (place_of n ns) d ≢ n) → inserted n ns ≡ insert ns (place_of n ns) n
  inserted-new [] d new = refl
  inserted-new (m ∷ ms) d new = new-step m ms d (inserted-new ms d) (nat_le n m) refl new

-- behind all
pub insert-last : (ns : List ℕ) (n : ℕ) → insert ns (length ns) n ≡ ns ++ n ∷ []
insert-last ns n =
    ap₂ (λ front back. front ++ n ∷ back) (take_all (length ns) ns (omega arith)) (drop_all (length ns) ns (omega arith))
