-- Cards as they are drawn, or read out.
use Rattle.std.specs.Prelude.{ℕ, ◌≤◌}
use Rattle.rh_figure.specs.Phrases.{Text}
use Rattle.rh_figure.specs.Cards.{Card}
use Rattle.rh_sheet.specs.Markup.{escape}
use Rattle.rh_sheet.specs.SheetCards.{card_sentence, low_card_text, high_card_text}
use Rattle.rh_pictures.specs.declared.sheet.bands.BandForm.{BandForm}
use Rattle.rh_pictures.specs.declared.sheet.bands.BandForm.TheVariants.{Told, Below, Above}

-- what is written of a card with its place among those that are shown
abbrev pub form_text : BandForm → ℕ × Card → Text
form_text Told placed = escape (card_sentence placed.1)
form_text (Below y) placed = low_card_text y placed
form_text (Above y) placed = high_card_text y placed

-- the height is one of a figure
abbrev pub IsFit : BandForm → Type 0
IsFit Told = Unit {0}
IsFit (Below y) = y ≤ 1000
IsFit (Above y) = y ≤ 1000
