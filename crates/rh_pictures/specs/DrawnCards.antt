-- Cards as they are shown.
use Rattle.std.specs.Prelude.{ℕ, ◌-◌, nat_le, if◌then◌else◌, List}
use Rattle.std.specs.List.{enumerate_from, flat_map}
use Rattle.rh_figure.specs.Cards.{Card}
use Rattle.rh_figure.specs.declared.limits.TheConstants.{MOST_CARDS}

-- what is shown of some cards, of which the first has a place among those that are shown
abbrev pub cards_text : (ℕ × Card → List ℕ) → ℕ → List Card → List ℕ
cards_text shown k cards = flat_map shown (enumerate_from k cards)

-- how many of n cards are shown from the first on
abbrev pub count_shown : ℕ → ℕ
count_shown n = if nat_le n MOST_CARDS then n else MOST_CARDS - 2
