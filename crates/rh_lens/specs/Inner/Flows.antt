-- The parts that are left of a band. Read LensParts first. f is how far the rows have come, b a band, ps are pieces of an
-- area that begins at an address.
use Rattle.std.specs.Prelude.{◌≡◌, ℕ, ◌+◌, ◌≤◌, ◌<◌, ◌^◌, List}
use Rattle.rh_elements.specs.Tints.{tint_class}
use Rattle.rh_figure.specs.Phrases.{Text}
use Rattle.rh_figure.specs.declared.piece.Piece.{Piece}
use Rattle.rh_lens.specs.Items.{Item}
use Rattle.rh_lens.specs.LensParts.{parts_text, sentences_of}
use Rattle.rh_lens.specs.LensSpots.{PartSpot, spots_from}
use Rattle.rh_lens.specs.PlacedSpots.{seen_items}
use Rattle.rh_lens.specs.declared.parts.Band.{Band}
use Rattle.rh_lens.specs.declared.sizes.TheConstants.{GAP, MOST_SCALE, MOST_WIDTH}
use Rattle.rh_lens.specs.declared.spots.Flow.{Flow}
use Rattle.rh_sheet.specs.Markup.{escape}

-- rows that parts can be put into
pub record IsFlow (f : Flow) : Type 0 where
  pub room : f.room ≤ MOST_WIDTH
  pub scale : f.scale ≤ MOST_SCALE
  pub taken : f.x ≤ MOST_WIDTH + GAP
  pub rows : f.row < 2 ^ 19

-- rows with one more part, or none
pub record IsNextFlow (f g : Flow) : Type 0 where
  pub room : g.room ≡ f.room
  pub scale : g.scale ≡ f.scale
  pub taken : g.x ≤ MOST_WIDTH + GAP
  pub rows : g.row ≤ f.row + 1

-- where the parts of the pieces that are left stand
abbrev pub flow_spots : (Piece → Item) → Flow → List Piece → List PartSpot
flow_spots item f ps = spots_from f.room f.scale f.x f.row (seen_items item ps)

-- what is left of a band
abbrev pub band_rest : Band → List PartSpot → Text
band_rest b ps = parts_text b.start (tint_class b.tint) b.room b.scale b.left b.foot ps

-- the pieces that are left as they are read out
abbrev pub sentences_left : ℕ → (Piece → Item) → List Piece → Text
sentences_left start item ps = escape (sentences_of start (seen_items item ps))
