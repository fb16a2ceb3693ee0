-- The cards of a panel that has more than it shows.
use Rattle.std.specs.Prelude.{ℕ, suc, ◌-◌, Bool, if◌then◌else◌, List, [], ◌∷◌, ◌++◌, length, filter, take, drop, Option, Some, None}
use Rattle.rh_figure.specs.Cards.{Card, more_card}
use Rattle.rh_figure.specs.declared.limits.TheConstants.{MOST_CARDS}

-- the first changed card of those behind the first 22, and how many are left out
abbrev pub cards_behind : List Card → List Card
cards_behind cards = with_fresh (take 1 (filter (λ (c : Card). c.fresh) (drop (MOST_CARDS - 2) cards)))
  where
    with_fresh : List Card → List Card
    with_fresh fresh = fresh ++ more_card (length cards - (MOST_CARDS - 2) - length fresh) ∷ []

-- the place of the first that passes a test, counted from n
abbrev pub place_from : {A : Type 0} → (A → Bool) → ℕ → List A → Option ℕ
place_from test n [] = None
place_from test n (x ∷ xs) = if test x then Some n else place_from test (suc n) xs

-- the place of the first that passes a test, from the one at a place on
abbrev pub place_behind : {A : Type 0} → (A → Bool) → ℕ → List A → Option ℕ
place_behind test n xs = place_from test n (drop n xs)
