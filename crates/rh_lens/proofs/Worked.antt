-- Worked rows, by computation: which words have room, bytes as words, and where parts stand.
use Rattle.std.specs.Prelude.{◌≡◌, refl, ℕ, true, false, List, [], ◌∷◌, map, codes}
use Rattle.hex.proofs.OnLiterals.{hex_on_literals}
use Rattle.rh_figure.specs.Inner.ComputingMaps.{computing_map}
use Rattle.rh_figure.specs.declared.piece.Kind.{Kind}
use Rattle.rh_figure.specs.declared.piece.Kind.TheVariants.{Descriptor, Claimed, FreeTop, FlexBlock, Unused}
use Rattle.rh_lens.specs.LensWords.{fitting_words, size_choices}
use Rattle.rh_lens.specs.ByteWords.{byte_choices}
use Rattle.rh_lens.specs.Items.{Item, no_lines}
use Rattle.rh_lens.specs.Widths.{part_width, is_broken}
use Rattle.rh_lens.specs.LensSpots.{PartSpot, spots, rows_height, spot_y}
use Rattle.rh_lens.specs.PartWords.{item_words}

-- ---- words

-- 8 letters need 62 units, 4 need 34, and 2 need 20
size_in_62 : fitting_words 62 (size_choices 24) ≡ codes "24 bytes"
unfolding computing_map
size_in_62 = refl

size_in_61 : fitting_words 61 (size_choices 24) ≡ codes "24 B"
unfolding computing_map
size_in_61 = refl

size_in_33 : fitting_words 33 (size_choices 24) ≡ codes "24"
unfolding computing_map
size_in_33 = refl

size_in_19 : fitting_words 19 (size_choices 24) ≡ []
unfolding computing_map
size_in_19 = refl

abbrev hello : List ℕ
hello = 104 ∷ 101 ∷ 108 ∷ 108 ∷ 111 ∷ []

text : fitting_words 100 (byte_choices 100 5 hello) ≡ codes "\"hello\""
text = refl

-- 5 letters have room: the quotes, one letter and two dots
text_cut : fitting_words 41 (byte_choices 41 5 hello) ≡ codes "\"h..\""
text_cut = refl

text_with_zeros : fitting_words 100 (byte_choices 100 4 (104 ∷ 105 ∷ 0 ∷ 0 ∷ [])) ≡ codes "\"hi\""
text_with_zeros = refl

zeros : fitting_words 100 (byte_choices 100 3 (0 ∷ 0 ∷ 0 ∷ [])) ≡ codes "all bytes 0"
zeros = refl

digits : fitting_words 100 (byte_choices 100 3 (1 ∷ 255 ∷ 16 ∷ [])) ≡ codes "01 ff 10"
unfolding hex_on_literals
digits = refl

-- 8 letters have room: two bytes, and that there are more
digits_cut : fitting_words 62 (byte_choices 62 4 (1 ∷ 255 ∷ 16 ∷ 0 ∷ [])) ≡ codes "01 ff .."
unfolding hex_on_literals
digits_cut = refl

-- a block of 4,000 bytes, whose first ones are zeros: it isn't said that all are
zeros_of_more : fitting_words 62 (byte_choices 62 4000 (0 ∷ 0 ∷ 0 ∷ 0 ∷ [])) ≡ codes "00 00 .."
unfolding hex_on_literals
zeros_of_more = refl

-- ---- parts

abbrev item : Kind → ℕ → ℕ → List ℕ → List ℕ → Item
item kind at size bytes used_by = record {
  piece = record { kind = kind; at = at; size = size; fresh = false };
  bytes = bytes;
  used_by = used_by;
  message = no_lines;
}

-- a slot of a block with "hello": its heap of 3840 bytes, and two pages
abbrev heap : List Item
heap = item Descriptor 256 16 [] [] ∷ item FreeTop 272 3824 [] [] ∷ []

abbrev flex : List Item
flex = item (FlexBlock 0 5) 4096 16 hello [] ∷ item Unused 4112 4080 [] [] ∷ []

-- a part's place: how far from the left, how wide, in which row
abbrev place : PartSpot → ℕ × ℕ × ℕ
place p = (p.x, p.width, p.row)

-- five cells of 22 behind a header of 14, with 4 behind them
flex_places : map place (spots 960 16 flex) ≡ (0, 128, 0) ∷ (130, 150, 0) ∷ []
flex_places = refl

heap_places : map place (spots 740 16 heap) ≡ (0, 42, 0) ∷ (44, 150, 0) ∷ []
heap_places = refl

-- what is free takes what is left of its row, if that is 106 units, and else begins the next row
free_takes_less : map place (spots 160 16 heap) ≡ (0, 42, 0) ∷ (44, 116, 0) ∷ []
free_takes_less = refl

free_goes_above : map place (spots 149 16 heap) ≡ (0, 42, 0) ∷ (0, 149, 1) ∷ []
free_goes_above = refl

-- 304 bytes at 2 units a byte are 608 units, 2,000 bytes would be 4,000: that block is drawn broken
wide : part_width 960 16 (item (Claimed 300) 272 304 [] []) ≡ 608
wide = refl

broken : part_width 960 16 (item (Claimed 1996) 272 2000 [] []) ≡ 170
broken = refl

is_broken_one : is_broken 960 16 (item (Claimed 1996) 272 2000 [] []) (Claimed 1996) 2000 ≡ true
is_broken_one = refl

-- a buffer of 4 bytes has cells once a byte isn't 0: 5, 88 and 4 are more than 96
buffer : part_width 960 16 (item (Claimed 4) 272 8 (1 ∷ 0 ∷ 0 ∷ 0 ∷ []) (codes ", in 1")) ≡ 97
buffer = refl

empty_buffer : part_width 960 16 (item (Claimed 4) 272 8 (0 ∷ 0 ∷ 0 ∷ 0 ∷ []) (codes ", in 1")) ≡ 96
empty_buffer = refl

-- 15 letters need 111 of the 114 units behind the header
flex_words : item_words 32768 false 128 (item (FlexBlock 0 5) 4096 16 hello []) ≡ record {
  first = codes "0 &9008 5 bytes";
  second = [];
  third = [];
}
unfolding computing_map hex_on_literals
flex_words = refl

-- one unit less, and the size is shorter
flex_words_shorter : (item_words 32768 false 124 (item (FlexBlock 0 5) 4096 16 hello [])).first ≡ codes "0 &9008 5 B"
unfolding computing_map hex_on_literals
flex_words_shorter = refl

block_words : item_words 32768 false 96 (item (Claimed 4) 272 8 (0 ∷ 0 ∷ 0 ∷ 0 ∷ []) (codes ", in 1")) ≡ record {
  first = codes "buffer &8114";
  second = codes "4 bytes";
  third = codes "all bytes 0";
}
unfolding computing_map hex_on_literals
block_words = refl

heights : map rows_height (0 ∷ 1 ∷ 2 ∷ []) ≡ 0 ∷ 51 ∷ 107 ∷ []
heights = refl

-- ---- heights

-- the lowest row of a band ends at its foot, the next one stands above it
row_places : map (spot_y 150) (0 ∷ 1 ∷ []) ≡ 99 ∷ 43 ∷ []
row_places = refl
