-- The last part of a path, by where its last `/` stands.
use Rattle.std.proofs.Common.{◌≡◌, ◌∙◌, ℕ, zero, suc, ◌+◌, ◌<◌, ◌≤◌, ◌||◌, Bool, true, false, List, [], ◌∷◌, length, drop, ap, arith, refl, sym}
use Rattle.std.specs.Prelude.{◌==◌, if◌then◌else◌, slice_index}
use Rattle.std.specs.List.{list_any}
use Rattle.rh_desk.specs.SheetNames.{last_part}

-- whether a byte is a `/`
abbrev is_slash : ℕ → Bool
is_slash c = c == 47

or-true : (b : Bool) → (b || true) ≡ true
or-true true = refl
or-true false = refl

isn't-true : (b : Bool) → (b ≡ true → ⊥) → b ≡ false
isn't-true true other = absurd (other refl)
isn't-true false other = refl

none-any : (xs : List ℕ) → ((k : ℕ) → k < length xs → is_slash (slice_index xs k) ≡ true → ⊥) → list_any is_slash xs ≡ false
none-any [] other = refl
none-any (x ∷ xs) other =
    ap (λ b. b || list_any is_slash xs) (isn't-true (is_slash x) (λ e. other 0 (omega arith) e))
    ∙ none-any xs (λ k less e. other (suc k) (omega arith) e)

some-any : (xs : List ℕ) (k : ℕ) → k < length xs → is_slash (slice_index xs k) ≡ true → list_any is_slash xs ≡ true
some-any [] k less e = absurd (omega arith)
some-any (x ∷ xs) zero less e = ap (λ b. b || list_any is_slash xs) e
some-any (x ∷ xs) (suc k) less e = ap (λ b. is_slash x || b) (some-any xs k (omega arith) e) ∙ or-true (is_slash x)

-- the last part of a path with something before it
part-of : ℕ → List ℕ → Bool → Bool → List ℕ
part-of x xs more here = if more then last_part xs else if here then xs else x ∷ xs

-- what stands behind the last one
pub behind-last : (xs : List ℕ) (at : ℕ) → at < length xs → is_slash (slice_index xs at) ≡ true
    → ((k : ℕ) → at + 1 ≤ k → k < length xs → is_slash (slice_index xs k) ≡ true → ⊥) → drop (at + 1) xs ≡ last_part xs
unfolding part-of
behind-last [] at less e other = absurd (omega arith)
behind-last (x ∷ xs) zero less e other =
    sym (ap (λ b. part-of x xs b (is_slash x)) (none-any xs (λ k l q. other (suc k) (omega arith) (omega arith) q)) ∙ ap (part-of x xs false) e)
behind-last (x ∷ xs) (suc k) less e other =
    let next : suc k + 1 ≡ suc (k + 1) = omega arith in
    ap (λ n. drop n (x ∷ xs)) next
    ∙ behind-last xs k (omega arith) e (λ j a b q. other (suc j) (omega arith) (omega arith) q)
    ∙ sym (ap (λ b. part-of x xs b (is_slash x)) (some-any xs k (omega arith) e))

-- all of it, where there is none
pub whole-path : (xs : List ℕ) → ((k : ℕ) → 0 ≤ k → k < length xs → is_slash (slice_index xs k) ≡ true → ⊥) → xs ≡ last_part xs
unfolding part-of
whole-path [] other = refl
whole-path (x ∷ xs) other =
    sym (ap (λ b. part-of x xs b (is_slash x)) (none-any xs (λ k l q. other (suc k) (omega arith) (omega arith) q))
    ∙ ap (part-of x xs false) (isn't-true (is_slash x) (λ e. other 0 (omega arith) (omega arith) e)))
