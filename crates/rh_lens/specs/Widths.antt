-- How wide parts are. Read Items and LensWords first. r is the width of a row, s the scale: so many units for 8 bytes.
-- n is a number of bytes, i an item.
use Rattle.std.specs.Prelude.{ℕ, ◌+◌, ◌*◌, ◌/◌, ◌==◌, nat_le, nat_lt, min, max, ◌&&◌, ◌||◌, not, Bool, true, false, if◌then◌else◌, length}
use Rattle.rh_figure.specs.declared.piece.Kind.{Kind}
use Rattle.rh_figure.specs.declared.piece.Kind.TheVariants.{AnchorWords, Descriptor, Claimed, Posted, FreeHole, MoreSegments, FreeTop, FlexBlock, Unused}
use Rattle.rh_lens.specs.Items.{Item, Lines}
use Rattle.rh_lens.specs.ByteWords.{are_zeros}
use Rattle.rh_lens.specs.declared.sizes.TheConstants.{LETTER, EDGE, BYTE, MOST_CELLS, CELLS_EDGE, FLEX_HEAD, BUFFER_HEAD, DESCRIPTOR_WIDTH, BLOCK_LEAST}
use Rattle.rh_lens.specs.declared.sizes.TheConstants.{FLEX_LEAST, BUFFER_LEAST, MESSAGE_LEAST, MOST_LETTERS, FREE_LEAST, FREE_MOST, BROKEN, MOST_WHOLE}
use Rattle.rh_lens.specs.declared.sizes.TheConstants.{SCALE_BYTES}

abbrev pub scaled : ℕ → ℕ → ℕ
scaled s n = n * s / SCALE_BYTES

-- the most that a block of n bytes may have of its row
abbrev pub most_of : ℕ → ℕ → ℕ
most_of r n = if nat_le n MOST_WHOLE then r else r / 2

-- so many bytes between a least and a most: what is too wide is broken
abbrev pub between : ℕ → ℕ → ℕ → ℕ
between least most w = if nat_lt most w then min BROKEN most else max least w

-- whether a block of n bytes has a cell for each
abbrev pub is_small : ℕ → Bool
is_small n = nat_lt 0 n && nat_le n MOST_CELLS

-- whether the bytes of a part are told one by one: those of a small flex block, and of a small buffer with a byte that
-- isn't 0
abbrev pub wants_cells : Item → Kind → Bool
wants_cells i (FlexBlock k n) = is_small n
wants_cells i (Claimed n) = not (length i.used_by == 0) && (is_small n && not (are_zeros i.bytes))
wants_cells i _ = false

-- the units before a part's bytes
abbrev pub header_width : Kind → ℕ
header_width (FlexBlock k n) = FLEX_HEAD
header_width (Claimed n) = BUFFER_HEAD
header_width (Posted ref) = BUFFER_HEAD
header_width _ = 0

-- how wide a part with a cell for each of its bytes is
abbrev pub cells_width : Kind → ℕ
cells_width (FlexBlock k n) = FLEX_HEAD + BYTE * n + CELLS_EDGE
cells_width (Claimed n) = BUFFER_HEAD + BYTE * n + CELLS_EDGE
cells_width _ = 0

-- whether the bytes of a part have cells: where so many units have room for them
abbrev pub has_cells : ℕ → Item → Kind → Bool
has_cells w i kind = wants_cells i kind && nat_le (cells_width kind) w

-- how many letters the longest of some lines has, as far as they make a part wider
abbrev pub longest : Lines → ℕ
longest l = min MOST_LETTERS (max (length l.first) (max (length l.second) (length l.third)))

abbrev pub least_of : Item → Kind → ℕ
least_of i (FlexBlock k n) = FLEX_LEAST
least_of i (Claimed n) = if length i.used_by == 0 then BLOCK_LEAST else BUFFER_LEAST
least_of i (Posted ref) = max MESSAGE_LEAST (LETTER * longest i.message + EDGE + BUFFER_HEAD)
least_of i _ = BLOCK_LEAST

-- the number of bytes by which the most of a part is told
abbrev pub told_size : Kind → ℕ → ℕ
told_size (FlexBlock k n) whole = n
told_size (Claimed n) whole = n
told_size kind whole = whole

-- how wide a part would be in a row that has room for it, by its kind and all of its bytes
abbrev pub wished : ℕ → ℕ → Item → Kind → ℕ → ℕ
wished r s i AnchorWords whole = FREE_LEAST
wished r s i Descriptor whole = DESCRIPTOR_WIDTH
wished r s i (MoreSegments n) whole = FREE_LEAST
wished r s i FreeTop whole = between FREE_LEAST FREE_MOST (scaled s whole)
wished r s i Unused whole = between FREE_LEAST FREE_MOST (scaled s whole)
wished r s i kind whole =
    if has_cells r i kind then max (least_of i kind) (cells_width kind)
    else between (least_of i kind) (most_of r (told_size kind whole)) (scaled s whole)

-- no part is wider than its row
abbrev pub part_width : ℕ → ℕ → Item → ℕ
part_width r s i = min r (wished r s i i.piece.kind i.piece.size)

abbrev pub is_free : Kind → Bool
is_free FreeTop = true
is_free Unused = true
is_free _ = false

-- segments that aren't drawn one by one
abbrev pub are_several : Kind → Bool
are_several (MoreSegments n) = true
are_several _ = false

-- what may have at most so much of its row
abbrev pub can_be_cut : Kind → Bool
can_be_cut (Claimed n) = true
can_be_cut (Posted ref) = true
can_be_cut FreeHole = true
can_be_cut (FlexBlock k n) = true
can_be_cut _ = false

-- whether a part wants more units than it may have, and has no cells
abbrev pub is_cut : ℕ → ℕ → Item → Kind → ℕ → Bool
is_cut r wide i kind whole = not (has_cells r i kind) && nat_lt (most_of r (told_size kind whole)) wide

-- whether a part is drawn broken: it would be wider than it may
abbrev pub is_broken : ℕ → ℕ → Item → Kind → ℕ → Bool
is_broken r s i kind whole =
    are_several kind
    || ((is_free kind && nat_lt FREE_MOST (scaled s whole)) || (can_be_cut kind && is_cut r (scaled s whole) i kind whole))
