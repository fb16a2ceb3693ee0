-- Texts of several things, one after the other, from a place on.
use Rattle.rh_pictures.proofs.Common.{◌≡◌, ℕ, ◌+◌, ◌<◌, ◌≤◌, refl, ap, sym, ◌∙◌, List, [], ◌∷◌, ◌++◌, length, drop, get_or, Some, None, slice_get, flat_map}
use Rattle.rh_pictures.proofs.Common.{flat_map-append, drop_all, rest-some}
use Rattle.std.proofs.lemmas.List.{drop_more}
use Rattle.rh_scene.proofs.Places.{rest-none}

-- a text that is made thing by thing
abbrev pub Each : {A B : Type 0} → (List A → List B) → (A → List B) → Type 0
Each {A} text of_one = (x : A) (rest : List A) → text (x ∷ rest) ≡ of_one x ++ text rest

module _ {A B : Type 0} (text : List A → List B) (of_one : A → List B) (each : Each text of_one) (xs : List A) (i : ℕ) where
  -- the thing at a place, told by a call
  pub text-some : (x : A) → slice_get xs i ≡ Some x → text (drop i xs) ≡ of_one x ++ text (drop (i + 1) xs)
  text-some x e = ap text (rest-some xs i x e) ∙ each x (drop (i + 1) xs)

  -- the same of a slice
  pub text-at : (x : A) → i < length xs → x ≡ get_or xs i x → text (drop i xs) ≡ of_one x ++ text (drop (i + 1) xs)
  text-at x inside e =
      ap text (drop_more xs i x inside ∙ ap (λ y. y ∷ drop (i + 1) xs) (sym e)) ∙ each x (drop (i + 1) xs)

-- behind the last
module _ {A B : Type 0} (text : List A → List B) (none : text [] ≡ []) (xs : List A) (i : ℕ) where
  pub text-none : slice_get xs i ≡ None → text (drop i xs) ≡ []
  text-none e = ap text (rest-none xs i e) ∙ none

  pub text-end : length xs ≤ i → text (drop i xs) ≡ []
  text-end e = ap text (drop_all i xs e) ∙ none

-- texts of the things that each of several gives
pub text-flat : {A B C : Type 0} (f : B → List C) (g : A → List B) (xs : List A)
    → flat_map f (flat_map g xs) ≡ flat_map (λ x. flat_map f (g x)) xs
text-flat f g [] = refl
text-flat f g (x ∷ xs) = flat_map-append f (g x) (flat_map g xs) ∙ ap (λ z. flat_map f (g x) ++ z) (text-flat f g xs)
