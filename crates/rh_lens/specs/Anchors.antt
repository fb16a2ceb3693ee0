-- The anchors of a slot that are shown, and where: those that lead to a block, now or before the command. Read Scene of
-- rh_figure, Slides of rh_sheet and LensSpots first. x is the scene, t a task, k an anchor, a an anchor that is shown, n how
-- many are, i which of these. `-` of naturals doesn't have to stop: at least one row of anchors is drawn.
use Rattle.std.specs.Prelude.{ℕ, ◌+◌, ◌-◌, ◌*◌, ◌/◌, ◌%◌, ◌==◌, nat_lt, min, max, ◌&&◌, ◌||◌, not, Bool, true, false, if◌then◌else◌, List, [], ◌∷◌, ◌++◌}
use Rattle.std.specs.Prelude.{filter, map, codes, Option, Some, None}
use Rattle.std.specs.List.{concat, range_with_len}
use Rattle.std.specs.Fmt.{decimal}
use Rattle.rh_defs.specs.Slot.{anchor_count}
use Rattle.rh_defs.specs.Desk.{Task}
use Rattle.rh_defs.specs.Questions.{block_items}
use Rattle.rh_defs.specs.Text.{address}
use Rattle.rh_figure.specs.Phrases.{Text}
use Rattle.rh_figure.specs.Scene.{Scene}
use Rattle.rh_figure.specs.Changes.{has_anchor}
use Rattle.rh_sheet.specs.Slides.{address_in}
use Rattle.rh_lens.specs.PartWords.{Choices, as_they_are}
use Rattle.rh_lens.specs.declared.sizes.TheConstants.{ANCHORS_ACROSS, ANCHOR_WIDTH, ANCHOR_LINE, PART, GAP, ROW_GAP, SIDE_GAP}
pub use Rattle.rh_lens.specs.declared.anchors.ShownAnchor.{ShownAnchor}

-- ---- which anchors

abbrev pub leads_now : Task → ℕ → Bool
leads_now t k = has_anchor k (block_items t.slot)

abbrev pub led_before : Scene → Task → ℕ → Bool
led_before x t k = t.handle == x.before.handle && has_anchor k x.before.blocks

abbrev pub is_same_address : Option ℕ → Option ℕ → Bool
is_same_address None None = true
is_same_address (Some a) (Some b) = a == b
is_same_address _ _ = false

-- an anchor's address as it is in a slot now
abbrev pub held_by_anchor : Task → ℕ → Option ℕ
held_by_anchor t k = address_in k (block_items t.slot)

-- whether the command gave the anchor another address
abbrev pub is_moved : Scene → Task → ℕ → Bool
is_moved x t k =
    t.handle == x.before.handle && not (is_same_address (address_in k x.before.blocks) (held_by_anchor t k))

abbrev pub shown_anchor : Scene → Task → ℕ → ShownAnchor
shown_anchor x t k = record { number = k; held = held_by_anchor t k; is_moved = is_moved x t k }

abbrev pub shown_anchors : Scene → Task → List ShownAnchor
shown_anchors x t =
    map (shown_anchor x t) (filter (λ k. leads_now t k || led_before x t k) (range_with_len 0 anchor_count))

-- ---- places

-- few anchors are as high as parts; of many each is a line
abbrev pub are_many : ℕ → Bool
are_many n = nat_lt ANCHORS_ACROSS n

abbrev pub anchor_height : ℕ → ℕ
anchor_height n = if are_many n then ANCHOR_LINE else PART

-- where no anchor leads to a block, one place says so
abbrev pub anchor_places : ℕ → ℕ
anchor_places n = max 1 n

abbrev pub anchors_width : ℕ → ℕ
anchors_width n = (ANCHOR_WIDTH + GAP) * min ANCHORS_ACROSS (anchor_places n)

abbrev pub anchors_height : ℕ → ℕ
anchors_height n =
    (anchor_height n + ROW_GAP) * ((anchor_places n + (ANCHORS_ACROSS - 1)) / ANCHORS_ACROSS) - ROW_GAP

-- the C heap begins so far from the left
abbrev pub heap_left : ℕ → ℕ
heap_left n = anchors_width n + SIDE_GAP

-- the upper left corner of an anchor, of anchors that begin at a height
abbrev pub anchor_x : ℕ → ℕ
anchor_x i = (ANCHOR_WIDTH + GAP) * (i % ANCHORS_ACROSS)

abbrev pub anchor_y : ℕ → ℕ → ℕ → ℕ
anchor_y top n i = top + (anchor_height n + ROW_GAP) * (i / ANCHORS_ACROSS)

-- ---- words

-- what an anchor holds: the address of its block, or 0
abbrev pub address_held : Option ℕ → Text
address_held None = codes "0"
address_held (Some at) = address at

abbrev pub anchor_choices : ℕ → ShownAnchor → Choices
anchor_choices n a =
    if are_many n then as_they_are (concat (decimal a.number ∷ codes " " ∷ address_held a.held ∷ [])) [] []
    else as_they_are (codes "anchor " ++ decimal a.number) (address_held a.held) []

abbrev pub no_anchor_choices : Choices
no_anchor_choices = as_they_are (codes "anchors") (codes "all 0") []
