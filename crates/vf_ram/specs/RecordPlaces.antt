-- The eight places that a sender or receiver has for records.
use Rattle.std.specs.Prelude.{ℕ, List, [], ◌∷◌, Option, Some, None}

-- the places from 0 on
abbrev pub places : List ℕ
places = 0 ∷ 1 ∷ 2 ∷ 3 ∷ 4 ∷ 5 ∷ 6 ∷ 7 ∷ []

-- one item more in front, where there is one and the others are there
abbrev pub in_front : {A : Type 0} → Option A → Option (List A) → Option (List A)
in_front (Some x) (Some xs) = Some (x ∷ xs)
in_front (Some x) None = None
in_front None xs = None

-- what each word spells; none where one spells nothing
abbrev pub all_or_none : {A B : Type 0} → (A → Option B) → List A → Option (List B)
all_or_none read [] = Some []
all_or_none read (w ∷ ws) = in_front (read w) (all_or_none read ws)
