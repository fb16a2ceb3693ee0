-- What stands in a part: up to three lines, each as long as it has room. Read Items and Widths first.
-- i is an item, w the width of its part, room what its header leaves of that, at the address of its first byte.
-- `-` of naturals stops at 0: a part that is narrower than its header, or than its mark, has no words.
use Rattle.std.specs.Prelude.{ℕ, ◌+◌, ◌-◌, ◌==◌, nat_lt, ◌||◌, Bool, if◌then◌else◌, List, [], ◌∷◌, ◌++◌, length, codes}
use Rattle.std.specs.List.{concat}
use Rattle.std.specs.Fmt.{decimal}
use Rattle.rh_defs.specs.Text.{address}
use Rattle.rh_figure.specs.Phrases.{Text, size_text}
use Rattle.rh_figure.specs.declared.piece.Kind.{Kind}
use Rattle.rh_figure.specs.declared.piece.Kind.TheVariants.{AnchorWords, Descriptor, Claimed, Posted, FreeHole, MoreSegments, FreeTop, FlexBlock, Unused}
use Rattle.rh_lens.specs.LensWords.{fitting_words, size_choices}
use Rattle.rh_lens.specs.ByteWords.{byte_choices}
use Rattle.rh_lens.specs.Items.{Item, Lines}
use Rattle.rh_lens.specs.Widths.{has_cells, header_width}
use Rattle.rh_lens.specs.declared.sizes.TheConstants.{BREAK_EDGE, BYTES_LEAST}

-- what may stand in each of the lines, the longest text first
pub record Choices : Type 0 where
  pub first : List Text
  pub second : List Text
  pub third : List Text

-- in each line the first text that has room
abbrev pub fitted_words : ℕ → Choices → Lines
fitted_words w c = record { first = fitting_words w c.first; second = fitting_words w c.second; third = fitting_words w c.third }

-- lines with no shorter form
abbrev pub as_they_are : Text → Text → Text → Choices
as_they_are first second third = record { first = first ∷ []; second = second ∷ []; third = third ∷ [] }

-- what a thing is, and how many bytes it has
abbrev pub sized_choices : Text → ℕ → Choices
sized_choices what n = record { first = what ∷ []; second = size_choices n; third = [] }

-- the first line of flex block k of n bytes at an address
abbrev pub flex_choices : Text → ℕ → ℕ → ℕ → List Text
flex_choices used_by k n at =
    concat (decimal k ∷ codes " " ∷ address at ∷ codes " " ∷ size_text n ∷ used_by ∷ [])
    ∷ concat (decimal k ∷ codes " " ∷ address at ∷ codes " " ∷ size_text n ∷ [])
    ∷ concat (decimal k ∷ codes " " ∷ address at ∷ codes " " ∷ decimal n ∷ codes " B" ∷ [])
    ∷ concat (decimal k ∷ codes " " ∷ address at ∷ []) ∷ decimal k ∷ []

-- the first line of a block of a heap; one that a transfer uses is its buffer
abbrev pub block_choices : Text → ℕ → List Text
block_choices used_by at =
    if length used_by == 0 then address at ∷ [] else (codes "buffer " ++ address at) ∷ address at ∷ []

-- the size and the bytes of a block, where no cells have them; a narrow part has no bytes
abbrev pub lines_of_block : List Text → Bool → ℕ → ℕ → ℕ → List ℕ → Choices
lines_of_block first in_cells w room n bytes = record {
  first = first;
  second = if in_cells then [] else size_choices n;
  third = if in_cells || nat_lt w BYTES_LEAST then [] else byte_choices room n bytes;
}

abbrev pub choices_of : Item → Kind → ℕ → ℕ → ℕ → Choices
choices_of i AnchorWords at w room = as_they_are (codes "anchors") [] []
choices_of i Descriptor at w room = as_they_are (codes "Heap") (codes "16 B") []
choices_of i (Claimed n) at w room =
    lines_of_block (block_choices i.used_by (at + 4)) (has_cells w i (Claimed n)) w room n i.bytes
choices_of i (Posted ref) at w room = as_they_are i.message.first i.message.second i.message.third
choices_of i FreeHole at w room = sized_choices (codes "hole") i.piece.size
choices_of i (MoreSegments n) at w room = sized_choices (decimal n ++ codes " more") i.piece.size
choices_of i FreeTop at w room = sized_choices (codes "free on top") i.piece.size
choices_of i (FlexBlock k n) at w room =
    lines_of_block (flex_choices i.used_by k n (at + 8)) (has_cells w i (FlexBlock k n)) w room n i.bytes
choices_of i Unused at w room = sized_choices (codes "unused") i.piece.size

-- what the mark of a broken part leaves of so many units
abbrev pub before_mark : Bool → ℕ → ℕ
before_mark broken w = if broken then w - BREAK_EDGE else w

-- what a part's header leaves of its width, and its mark where it is broken
abbrev pub room_of : Bool → ℕ → Item → ℕ
room_of broken w i = before_mark broken w - header_width i.piece.kind

-- the words of an item in a part of so many units, broken or not, of an area that begins at an address
abbrev pub item_words : ℕ → Bool → ℕ → Item → Lines
item_words start broken w i = fitted_words (room_of broken w i) (
    choices_of i i.piece.kind (start + i.piece.at) w (room_of broken w i)
    )
