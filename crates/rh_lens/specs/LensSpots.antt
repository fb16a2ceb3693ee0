-- Where parts stand: in rows, from the left and from below. Read Widths first. r is the width of a row, s the scale, x
-- where the next part of the row may begin, i an item.
-- `-` of naturals doesn't have to stop: what is free takes what is left only of a row that has so much room.
use Rattle.std.specs.Prelude.{ℕ, ◌+◌, ◌-◌, ◌*◌, ◌==◌, nat_le, nat_lt, ◌&&◌, ◌||◌, Bool, if◌then◌else◌, List, [], ◌∷◌}
use Rattle.rh_figure.specs.declared.piece.Kind.{Kind}
use Rattle.rh_lens.specs.Items.{Item}
use Rattle.rh_lens.specs.Widths.{is_free, part_width}
use Rattle.rh_lens.specs.declared.sizes.TheConstants.{GAP, FREE_LEAST, PART, ROW_GAP}

-- an item, how far from the left end of its row it begins, how wide it is, and the number of its row from below
pub record PartSpot : Type 0 where
  pub item : Item
  pub x : ℕ
  pub width : ℕ
  pub row : ℕ

-- whether a part of so many units has room behind x
abbrev pub has_place : ℕ → ℕ → ℕ → Bool
has_place r x w = x == 0 || nat_le (x + w) r

-- how wide a part of so many units is in a row of which x are taken: what is free takes what is left, if that is enough
abbrev pub width_left : ℕ → ℕ → Kind → ℕ → ℕ
width_left r x kind w = if nat_lt r (x + w) && (is_free kind && nat_le (x + FREE_LEAST) r) then r - x else w

abbrev pub width_at : ℕ → ℕ → ℕ → Item → ℕ
width_at r s x i = width_left r x i.piece.kind (part_width r s i)

-- where the next part of a row may begin
abbrev pub next_x : PartSpot → ℕ
next_x p = p.x + p.width + GAP

-- an item in the row of which x units are taken, and at the left end of the next row
abbrev pub spot_here : ℕ → ℕ → ℕ → ℕ → Item → PartSpot
spot_here r s x row i = record { item = i; x = x; width = width_at r s x i; row = row }

abbrev pub spot_above : ℕ → ℕ → ℕ → Item → PartSpot
spot_above r s row i = record { item = i; x = 0; width = part_width r s i; row = row + 1 }

-- one that has no place from x on begins the next row
abbrev pub next_spot : ℕ → ℕ → ℕ → ℕ → Item → PartSpot
next_spot r s x row i = if has_place r x (width_at r s x i) then spot_here r s x row i else spot_above r s row i

-- the parts from x on
abbrev pub spots_from : ℕ → ℕ → ℕ → ℕ → List Item → List PartSpot
spots_from r s x row [] = []
spots_from r s x row (i ∷ items) =
    next_spot r s x row i ∷ spots_from r s (next_x (next_spot r s x row i)) (next_spot r s x row i).row items

abbrev pub spots : ℕ → ℕ → List Item → List PartSpot
spots r s items = spots_from r s 0 0 items

-- how many rows there are, of spots that lie in order, behind so many
abbrev pub rows_behind : ℕ → List PartSpot → ℕ
rows_behind n [] = n
rows_behind n (p ∷ ps) = rows_behind (p.row + 1) ps

abbrev pub rows_of : List PartSpot → ℕ
rows_of ps = rows_behind 0 ps

-- how high so many rows are
abbrev pub rows_height : ℕ → ℕ
rows_height n = if n == 0 then 0 else PART * n + ROW_GAP * (n - 1)

-- the upper edge of a row whose band ends at a foot
abbrev pub spot_y : ℕ → ℕ → ℕ
spot_y foot row = foot - (PART + ROW_GAP) * row - PART
