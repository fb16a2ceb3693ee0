-- Bands of cards, above and below the rows, and what leads to them. Read Cards of rh_figure and Frames first.
-- c is a card, i its number in its band, x and y are units from the left and from above, y0 is where the band begins.
-- `-` of naturals doesn't have to stop: a band lies below the figure's upper edge by its own height.
use Rattle.std.specs.Prelude.{ℕ, ◌+◌, ◌-◌, ◌*◌, ◌/◌, ◌%◌, min, Bool, List, [], ◌∷◌, ◌++◌, codes}
use Rattle.std.specs.List.{concat, flat_map, enumerate_from}
use Rattle.rh_figure.specs.Phrases.{Text, cut, commas}
use Rattle.rh_figure.specs.Cards.{Card, CardKind, FlexCard, UsedCard, HoleCard, PostCard, MoreCard, shown_cards}
use Rattle.rh_sheet.specs.Markup.{Box, box_text, fresh_class, words_text, path_text, point_text, stretch_text}
use Rattle.rh_sheet.specs.declared.sizes.TheConstants.{LEFT, CARD_PITCH, CARD_RISE, CARDS_ACROSS, CARD_COLUMNS, CARD_GAP, CARD_SPACE, CARD_INDENT, CARD_BASELINE, CARD_LINE}

-- the class of a kind of card
abbrev pub card_class : CardKind → Text
card_class FlexCard = codes "flex"
card_class UsedCard = codes "used"
card_class HoleCard = codes "hole"
card_class PostCard = codes "post"
card_class MoreCard = codes "more"

-- the rectangle of a card whose room begins at a point
abbrev pub card_box : CardKind → Bool → ℕ → ℕ → Box
card_box kind fresh x y = record {
  class = concat (codes "card " ∷ card_class kind ∷ fresh_class fresh ∷ []);
  x = x + 1;
  y = y + 1;
  width = CARD_PITCH - CARD_GAP;
  height = CARD_RISE - CARD_SPACE;
  tip = [];
}

-- line i of a card, cut to its width
abbrev pub card_line_text : Text → ℕ → ℕ → ℕ → Text → Text
card_line_text class i x y t =
    words_text class (x + 1 + CARD_INDENT) (y + 1 + CARD_BASELINE + CARD_LINE * i) (cut CARD_COLUMNS t)

-- a card whose room begins at a point
abbrev pub card_text : Card → ℕ → ℕ → Text
card_text c x y = concat (
    box_text (card_box c.kind c.fresh x y) ∷ card_line_text (codes "first") 0 x y c.first
    ∷ card_line_text (codes "line") 1 x y c.second ∷ card_line_text (codes "line") 2 x y c.third ∷ []
    )

-- where the room of card i begins, counted from the left
abbrev pub card_x : ℕ → ℕ
card_x i = LEFT + CARD_PITCH * (i % CARDS_ACROSS)

-- where the room of card i begins, counted from above, of cards that begin at a height and go on below
abbrev pub low_card_y : ℕ → ℕ → ℕ
low_card_y y0 i = y0 + CARD_RISE * (i / CARDS_ACROSS)

-- where the room of card i begins, counted from above, of cards that end at a height and go on above
abbrev pub high_card_y : ℕ → ℕ → ℕ
high_card_y y0 i = y0 - CARD_RISE * (i / CARDS_ACROSS + 1)

-- a card with its place among those shown, below a height or above it
abbrev pub low_card_text : ℕ → ℕ × Card → Text
low_card_text y0 placed = card_text placed.1 (card_x placed.0) (low_card_y y0 placed.0)

abbrev pub high_card_text : ℕ → ℕ × Card → Text
high_card_text y0 placed = card_text placed.1 (card_x placed.0) (high_card_y y0 placed.0)

-- the cards that are shown of so many, below a height
abbrev pub cards_below : ℕ → List Card → Text
cards_below y0 cards = flat_map (low_card_text y0) (enumerate_from 0 (shown_cards cards))

-- the cards that are shown of so many, above a height, the first ones lowest
abbrev pub cards_above : ℕ → List Card → Text
cards_above y0 cards = flat_map (high_card_text y0) (enumerate_from 0 (shown_cards cards))

-- from two places of a row at one height to a row of n cards at another
abbrev pub lens_way : ℕ → ℕ → ℕ → ℕ → ℕ → Text
lens_way x0 x1 y0 n y1 = concat (
    point_text (codes "M") (LEFT + x0) y0 ∷ point_text (codes "L") (LEFT + 1) y1
    ∷ stretch_text (codes "H") (LEFT + CARD_PITCH * min n CARDS_ACROSS - (CARD_GAP - 1))
    ∷ point_text (codes "L") (LEFT + x1) y0 ∷ codes "z" ∷ []
    )

abbrev pub lens_text : ℕ → ℕ → ℕ → ℕ → ℕ → Text
lens_text x0 x1 y0 n y1 = path_text (codes "lens") (lens_way x0 x1 y0 n y1)

-- a card as it is read out
abbrev pub card_sentence : Card → Text
card_sentence c = commas (c.first ∷ c.second ∷ c.third ∷ []) ++ codes ". "

-- the cards that are shown of so many, as they are read out
abbrev pub cards_sentences : List Card → Text
cards_sentences cards = flat_map card_sentence (shown_cards cards)
