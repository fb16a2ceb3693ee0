-- Texts that are offered one behind the other, and what is left of them.
use Rattle.std.proofs.Common.{◌≡◌, ℕ, List, [], ◌++◌, ap, sym, ◌∙◌, append_assoc, append-nil}
use Rattle.rh_map.proofs.Left.{Left}

-- a text behind a text
pub text_then : {mid new : List ℕ} (old xs ys : List ℕ) → mid ≡ old ++ xs → new ≡ mid ++ ys → new ≡ old ++ (xs ++ ys)
text_then old xs ys p q = q ∙ (ap (λ z. z ++ ys) p ∙ append_assoc old xs ys)

-- nothing stands behind it
pub text_last : {new : List ℕ} (old xs : List ℕ) → new ≡ old ++ xs → new ≡ old ++ (xs ++ [])
text_last old xs p = p ∙ ap (λ z. old ++ z) (sym (append-nil xs))

-- nothing at all
pub offered_none : (old : List ℕ) → old ≡ old ++ []
offered_none old = sym (append-nil old)

-- before the first part of a text that is told in another way
pub left_from : {whole rest : List ℕ} (old : List ℕ) → whole ≡ rest → Left old old whole rest
left_from old e = record { is = ap (λ z. old ++ z) (sym e) }

-- behind the last part
pub left_last : {old so_far new whole : List ℕ} (rest : List ℕ) → Left old so_far whole rest → new ≡ so_far ++ rest → new ≡ old ++ whole
left_last rest p q = q ∙ p.is
