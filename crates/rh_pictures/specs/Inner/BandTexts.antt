-- What is written of the cards of a band.
use Rattle.std.specs.Prelude.{ℕ, List}
use Rattle.std.specs.List.{flat_map, enumerate_from}
use Rattle.rh_figure.specs.Phrases.{Text}
use Rattle.rh_figure.specs.Cards.{Card}
use Rattle.rh_pictures.specs.declared.sheet.bands.BandForm.{BandForm}
use Rattle.rh_pictures.specs.PaintedBands.{form_text}

-- what is written of some cards, of which the first has a place among those that are shown
abbrev pub band_text_from : BandForm → ℕ → List Card → Text
band_text_from form k cards = flat_map (form_text form) (enumerate_from k cards)

abbrev pub band_text : BandForm → List Card → Text
band_text form cards = band_text_from form 0 cards
