-- Lists whose lines wait in a row before they are put.
use Rattle.rh_script.proofs.Common.{◌≡◌, ℕ, zero, suc, ◌+◌, List, ◌∷◌, [], ◌++◌, take, Some, None, slice_get, get_or, length, ◌<◌, sym, ◌∙◌, ap, refl}
use Rattle.rh_script.proofs.Common.{append_assoc, flat_map}
use Rattle.rh_lines.proofs.FlowLemmas.{each_more}
use Rattle.std.proofs.lemmas.Option.{get_or_from_slice_get, slice_get_within}

-- behind what was offered and what waits stands one more line
pub gathered_each : {X : Type 0} (f : X → List ℕ) (first : List ℕ) (xs : List X) (i : ℕ) (x d : X) (o p q row rest new : List ℕ)
    → x ≡ get_or xs i d → i < length xs → p ++ row ≡ o ++ (first ++ flat_map f (take i xs)) → q ++ rest ≡ p ++ row → new ≡ rest ++ f x
    → q ++ new ≡ o ++ (first ++ flat_map f (take (i + 1) xs))
gathered_each f first xs i x d o p q row rest new e h so_far same grown =
    ap (λ z. q ++ z) grown ∙ (sym (append_assoc q rest (f x)) ∙ (ap (λ z. z ++ f x) (same ∙ so_far)
    ∙ (append_assoc o (first ++ flat_map f (take i xs)) (f x) ∙ ap (λ z. o ++ z) (append_assoc first (flat_map f (take i xs)) (f x)
    ∙ ap (λ z. first ++ z) (ap (λ y. flat_map f (take i xs) ++ f y) e ∙ sym (each_more f xs i d h))))))

-- the same, where a reader has answered the item
pub gathered_next : {X : Type 0} (f : X → List ℕ) (first : List ℕ) (xs : List X) (i : ℕ) (x : X) (o p q row rest new : List ℕ)
    → Some x ≡ slice_get xs i → p ++ row ≡ o ++ (first ++ flat_map f (take i xs)) → q ++ rest ≡ p ++ row → new ≡ rest ++ f x
    → q ++ new ≡ o ++ (first ++ flat_map f (take (i + 1) xs))
gathered_next f first xs i x o p q row rest new e so_far same grown =
    gathered_each f first xs i x x o p q row rest new (sym (get_or_from_slice_get xs i x x (sym e))) (slice_get_within xs i x (sym e)) so_far same grown

take_past : {X : Type 0} (xs : List X) (i : ℕ) → None ≡ slice_get xs i → take i xs ≡ xs
take_past [] zero e = refl
take_past [] (suc i) e = refl
take_past (x ∷ xs) zero e = absurd (cc)
take_past (x ∷ xs) (suc i) e = ap (λ z. x ∷ z) (take_past xs i e)

-- all items, where there is no further one
pub gathered_past : {X : Type 0} (f : X → List ℕ) (first : List ℕ) (xs : List X) (i : ℕ) (o p row new : List ℕ) → None ≡ slice_get xs i
    → p ++ row ≡ o ++ (first ++ flat_map f (take i xs)) → new ≡ p ++ row → new ≡ o ++ (first ++ flat_map f xs)
gathered_past f first xs i o p row new e so_far last = last ∙ (so_far ∙ ap (λ z. o ++ (first ++ flat_map f z)) (take_past xs i e))
