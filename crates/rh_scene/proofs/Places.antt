-- Lists that are walked through by place.
use Rattle.rh_scene.proofs.Common.{◌≡◌, ℕ, zero, suc, ◌+◌, ◌<◌, ◌≤◌, Bool, true, false, refl, ap, sym, ◌∙◌, arith, List, [], ◌∷◌, ◌++◌, length, take, drop}
use Rattle.rh_scene.proofs.Common.{get_or, Some, None, slice_get, find, map, total, total-append, append_assoc, map-append, take_all, slice_get_within}
use Rattle.std.proofs.lemmas.List.{drop_more, drop_all, take_more}
use Rattle.std.proofs.lemmas.Option.{get_or_from_slice_get}

pub past-end : {A : Type 0} (xs : List A) (i : ℕ) → slice_get xs i ≡ None → length xs ≤ i
past-end [] i e = omega arith
past-end (x ∷ xs) zero e = cc
past-end (x ∷ xs) (suc i) e = let k : length xs ≤ i = past-end xs i e in omega arith

module _ {A : Type 0} (xs : List A) (i : ℕ) where
  pub rest-some : (x : A) → slice_get xs i ≡ Some x → drop i xs ≡ x ∷ drop (i + 1) xs
  rest-some x e =
      drop_more xs i x (slice_get_within xs i x e) ∙ ap (λ y. y ∷ drop (i + 1) xs) (get_or_from_slice_get xs i x x e)

  pub rest-none : slice_get xs i ≡ None → drop i xs ≡ []
  rest-none e = drop_all i xs (past-end xs i e)

  pub front-some : (x : A) → slice_get xs i ≡ Some x → take (i + 1) xs ≡ take i xs ++ x ∷ []
  front-some x e =
      take_more xs i x (slice_get_within xs i x e) ∙ ap (λ y. take i xs ++ y ∷ []) (get_or_from_slice_get xs i x x e)

  pub front-none : slice_get xs i ≡ None → take i xs ≡ xs
  front-none e = take_all i xs (past-end xs i e)

-- ---- the first that a test takes
module _ {A : Type 0} (p : A → Bool) (xs : List A) (i : ℕ) (so_far : find p (drop i xs) ≡ find p xs) where
  pub find-here : (x : A) → slice_get xs i ≡ Some x → p x ≡ true → find p xs ≡ Some x
  find-here x e taken = sym so_far ∙ rw (rest-some xs i x e, taken) refl

  pub find-on : (x : A) → slice_get xs i ≡ Some x → p x ≡ false → find p (drop (i + 1) xs) ≡ find p xs
  find-on x e left = let k : find p (drop i xs) ≡ find p (drop (i + 1) xs) = rw (rest-some xs i x e, left) refl in sym k ∙ so_far

  pub find-none : slice_get xs i ≡ None → find p xs ≡ None
  find-none e = sym so_far ∙ ap (find p) (rest-none xs i e)

-- ---- a list that is filled
module _ {A B : Type 0} (f : A → B) (xs : List A) (i : ℕ) (old items : List B) (so_far : items ≡ old ++ map f (take i xs)) where
  pub filled-more : (x : A) → slice_get xs i ≡ Some x → items ++ f x ∷ [] ≡ old ++ map f (take (i + 1) xs)
  filled-more x e =
      ap (λ z. z ++ f x ∷ []) so_far ∙ append_assoc old (map f (take i xs)) (f x ∷ [])
      ∙ ap (λ z. old ++ z) (sym (map-append f (take i xs) (x ∷ [])) ∙ ap (map f) (sym (front-some xs i x e)))

  pub filled-all : slice_get xs i ≡ None → items ≡ old ++ map f xs
  filled-all e = so_far ∙ ap (λ z. old ++ map f z) (front-none xs i e)

-- ---- a sum
pub total-more : {A : Type 0} (f : A → ℕ) (xs : List A) (i : ℕ) (x : A) → slice_get xs i ≡ Some x → total f (take (i + 1) xs) ≡ total f (take i xs) + f x
total-more f xs i x e = ap (total f) (front-some xs i x e) ∙ (total-append f (take i xs) (x ∷ []) ∙ omega arith)

-- ---- a walk over a slice that is at a member, which it leaves or takes
module _ {A B : Type 0} (first : List A → B) (xs : List A) (i : ℕ) (x : A) (inside : i < length xs) (is : x ≡ get_or xs i x)
    (so_far : first (drop i xs) ≡ first xs) where
  here : first (x ∷ drop (i + 1) xs) ≡ first xs
  here = ap (λ y. first (y ∷ drop (i + 1) xs)) is ∙ ap first (sym (drop_more xs i x inside)) ∙ so_far

  pub walked-past : first (x ∷ drop (i + 1) xs) ≡ first (drop (i + 1) xs) → first (drop (i + 1) xs) ≡ first xs
  walked-past past = sym past ∙ here

  pub walked-to : (y : B) → first (x ∷ drop (i + 1) xs) ≡ y → y ≡ first xs
  walked-to y found = sym found ∙ here

-- ---- past the end a sum stays
pub total-past : {A : Type 0} (f : A → ℕ) (xs : List A) (i : ℕ) → slice_get xs i ≡ None → total f (take (i + 1) xs) ≡ total f (take i xs)
total-past f xs i e =
    let past : length xs ≤ i = past-end xs i e in
    ap (total f) (take_all (i + 1) xs (omega arith) ∙ sym (take_all i xs past))
