-- From each anchor an arrow to the first byte of its block, behind the block's header. Read LensBands first.
-- a is an anchor that is shown, i its number among the n that are, p the spot of its block.
-- `-` of naturals doesn't have to stop: the anchors lie below the flex blocks by more than an arrow bends.
use Rattle.std.specs.Prelude.{ℕ, ◌+◌, ◌-◌, ◌*◌, ◌/◌, ◌==◌, min, max, ◌||◌, not, Bool, false, if◌then◌else◌, List, [], ◌∷◌, ◌++◌, find, codes, Option, Some}
use Rattle.std.specs.Prelude.{None}
use Rattle.std.specs.List.{concat, flat_map, enumerate_from}
use Rattle.rh_figure.specs.Phrases.{Text}
use Rattle.rh_figure.specs.declared.piece.Kind.{Kind}
use Rattle.rh_figure.specs.declared.piece.Kind.TheVariants.{FlexBlock}
use Rattle.rh_sheet.specs.Markup.{fresh_class, path_text, point_text}
use Rattle.rh_lens.specs.LensSpots.{PartSpot, spot_y}
use Rattle.rh_lens.specs.Anchors.{ShownAnchor, are_many, anchor_x, anchor_y}
use Rattle.rh_lens.specs.declared.sizes.TheConstants.{ANCHOR_WIDTH, FLEX_HEAD, PART, ARROWS, ARROW_GAP, LEAST_BEND}

-- of many anchors those alone have an arrow that hold another address than before
abbrev pub has_arrow : ℕ → ShownAnchor → Bool
has_arrow n a = not (are_many n) || a.is_moved

-- ---- its way

abbrev pub is_block_of : ℕ → Kind → Bool
is_block_of k (FlexBlock j n) = j == k
is_block_of k _ = false

abbrev pub spot_of_block : ℕ → List PartSpot → Option PartSpot
spot_of_block k ps = find (λ (p : PartSpot). is_block_of k p.item.piece.kind) ps

-- how far an arrow bends over so many units
abbrev pub bend : ℕ → ℕ
bend n = 7 * min ARROWS (max LEAST_BEND n) / 10

-- from a point up to another one
abbrev pub leading_way : ℕ → ℕ → ℕ → ℕ → ℕ → Text
leading_way x0 y0 x1 y1 b = concat (
    point_text (codes "M") x0 y0 ∷ point_text (codes "C") x0 (y0 - b) ∷ point_text (codes " ") x1 (y1 + b)
    ∷ point_text (codes " ") x1 y1 ∷ []
    )

-- from anchor i of n, which begin at a height, to a block of a band that ends at a foot
abbrev pub way_to_spot : ℕ → ℕ → ℕ → ℕ → PartSpot → Text
way_to_spot top foot n i p = leading_way
    (anchor_x i + ANCHOR_WIDTH / 2) (anchor_y top n i)
    (p.x + FLEX_HEAD) (spot_y foot p.row + PART + ARROW_GAP) (bend (anchor_y top n i - foot))

abbrev pub arrow_to : Text → ℕ → ℕ → ℕ → ℕ → Option PartSpot → Text
arrow_to class top foot n i None = []
arrow_to class top foot n i (Some p) = path_text class (way_to_spot top foot n i p)

-- the classes of an arrow
abbrev pub arrow_class : ShownAnchor → Text
arrow_class a = codes "leads" ++ fresh_class a.is_moved

-- the arrow of anchor i, if it has one
abbrev pub anchor_arrow : ℕ → ℕ → ℕ → List PartSpot → ℕ × ShownAnchor → Text
anchor_arrow top foot n ps a =
    if has_arrow n a.1 then arrow_to (arrow_class a.1) top foot n a.0 (spot_of_block a.1.number ps) else []

-- the arrows of all anchors that are shown
abbrev pub arrows_text : ℕ → ℕ → ℕ → List ShownAnchor → List PartSpot → Text
arrows_text top foot n anchors ps = flat_map (anchor_arrow top foot n ps) (enumerate_from 0 anchors)
