-- The first place at which a test passes, looked for in one stretch after the other.
use Rattle.rh_wimp.proofs.Common.{◌≡◌, ℕ, zero, suc, ◌+◌, ◌≤◌, inl, inr, Bool, true, false, cond, ltb, List, [], ◌∷◌, length, take, drop}
use Rattle.rh_wimp.proofs.Common.{refl, sym, ap, ◌∙◌, arith, Some, None, position, cases_lt, cond_true}
use Rattle.std.specs.List.{position_or_len}
use Rattle.std.proofs.lemmas.Bool.Decides.{nat_tests}
use Rattle.std.proofs.lemmas.List.{drop-drop}
use Rattle.std.proofs.Common.{length-drop}

module _ {X : Type 0} (p : X → Bool) where
  head-fails : (x : X) (xs front : List X) (n : ℕ) (b : Bool) → p x ≡ b → suc (length front) ≤ position_or_len p (x ∷ front)
      → (length front ≤ position_or_len p front → position_or_len p xs ≡ n + position_or_len p (drop n xs))
      → position_or_len p (x ∷ xs) ≡ suc n + position_or_len p (drop n xs)
  head-fails x xs front n true e l rest = let m = rw e at l in absurd (omega arith)
  head-fails x xs front n false e l rest = let m = rw e at l in let r = rest (omega arith) in rw e (omega arith)

  -- where no place of a front passes, the first one is counted from behind it
  behind-front : (xs : List X) (n : ℕ) → length (take n xs) ≤ position_or_len p (take n xs) → n ≤ length xs
      → position_or_len p xs ≡ n + position_or_len p (drop n xs)
  behind-front xs zero none le = omega arith
  behind-front [] (suc n) none le = absurd (omega arith)
  behind-front (x ∷ xs) (suc n) none le = head-fails x xs (take n xs) n (p x) refl none (λ l. behind-front xs n l (omega arith))

  no-place : (m n : ℕ) → cond (ltb m n) (Some m) None ≡ None → n ≤ m
  no-place m n e = elim (cases_lt m n) [
    | inl l ↦ let bad : Some m ≡ None = sym (cond_true (ltb m n) _ _ (grind (arith, nat_tests))) ∙ e in absurd cc
    | inr g ↦ g
  ]

  -- the first place of all is counted from here
  abbrev pub CountsFrom : List X → ℕ → Type 0
  CountsFrom xs at = (position_or_len p xs ≡ at + position_or_len p (drop at xs)) × (at ≤ length xs)

  -- a stretch without one
  pub none-in : (xs : List X) (at n next : ℕ) → CountsFrom xs at → position p (take n (drop at xs)) ≡ None → at + n ≡ next → next ≤ length xs
      → CountsFrom xs next
  none-in xs at n next c e is le =
      let rest = length-drop at xs in
      let r = behind-front (drop at xs) n (no-place _ _ e) (omega arith) in
      let on : position_or_len p (drop n (drop at xs)) ≡ position_or_len p (drop next xs) =
      ap (position_or_len p) (drop-drop n at xs ∙ ap (λ k. drop k xs) is) in
      (omega (arith, c.0, r, on), le)
