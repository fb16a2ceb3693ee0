-- Elements that are written one after the other: for the parts of a list those that each part has.
use Rattle.rh_pictures.proofs.Common.{◌≡◌, ℕ, ◌+◌, ◌<◌, ap, ◌∙◌, List, [], ◌∷◌, ◌++◌, length, drop, append_assoc, append-nil, arith, refl, ◌≤◌, get_or}
use Rattle.rh_pictures.proofs.Common.{slice_get, Some, None, flat_map, flat_map-append, rest-some, rest-none, Text}
use Rattle.rh_figure.specs.Changes.{freed_line, freed_text}
use Rattle.rh_pictures.proofs.TextWalks.{text-at, text-end}

-- ---- the elements of parts

module _ {B : Type 0} (element : B → List ℕ) where
  -- those of one part, and those behind it
  pub parts-both : (xs ys : List B) → flat_map element (xs ++ ys) ≡ flat_map element xs ++ flat_map element ys
  parts-both xs ys = flat_map-append element xs ys

  pub parts-three : (xs ys zs : List B)
      → flat_map element (xs ++ (ys ++ zs)) ≡ flat_map element xs ++ (flat_map element ys ++ flat_map element zs)
  parts-three xs ys zs = parts-both xs (ys ++ zs) ∙ ap (λ z. flat_map element xs ++ z) (parts-both ys zs)

  -- a single one
  pub parts-one : (x : B) → flat_map element (x ∷ []) ≡ element x
  parts-one x = append-nil (element x)

-- that of the pages that were given back, where there are some
pub freed-one : (element : Text → List ℕ) (numbers : List ℕ) → 0 < length numbers → flat_map element (freed_text numbers) ≡ element (freed_line numbers)
freed-one element [] some = absurd (omega (arith, some))
freed-one element (n ∷ ns) some = parts-one element (freed_line (n ∷ ns))

-- ---- the elements of a list's members, from a place on, and of what stands behind the list

module _ {A B : Type 0} (element : B → List ℕ) (parts : A → List B) (behind : List B) where
  abbrev pub elements : List A → List ℕ
  elements xs = flat_map element (flat_map parts xs ++ behind)

  -- the first member's
  elements-first : (x : A) (rest : List A) → elements (x ∷ rest) ≡ flat_map element (parts x) ++ elements rest
  elements-first x rest =
      ap (flat_map element) (append_assoc (parts x) (flat_map parts rest) behind)
      ∙ flat_map-append element (parts x) (flat_map parts rest ++ behind)

  module _ (xs : List A) (i : ℕ) where
    -- there is a member
    pub elements-some : (x : A) → slice_get xs i ≡ Some x
        → elements (drop i xs) ≡ flat_map element (parts x) ++ elements (drop (i + 1) xs)
    elements-some x e = ap elements (rest-some xs i x e) ∙ elements-first x (drop (i + 1) xs)

    -- there is none
    pub elements-none : slice_get xs i ≡ None → elements (drop i xs) ≡ flat_map element behind
    elements-none e = ap elements (rest-none xs i e)

-- ---- the same of a slice, behind which nothing stands

module _ {A B : Type 0} (element : B → List ℕ) (parts : A → List B) (xs : List A) (i : ℕ) where
  abbrev all : List A → List ℕ
  all ys = flat_map element (flat_map parts ys)

  pub items-at : (x : A) → i < length xs → x ≡ get_or xs i x → all (drop i xs) ≡ flat_map element (parts x) ++ all (drop (i + 1) xs)
  items-at x inside e =
      text-at all (λ y. flat_map element (parts y)) (λ y rest. parts-both element (parts y) (flat_map parts rest)) xs i x inside e

  pub items-end : length xs ≤ i → all (drop i xs) ≡ []
  items-end past = text-end all refl xs i past
