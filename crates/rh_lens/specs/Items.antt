-- What a lens shows: the pieces of an area, each with what is told of it. Read Layout and Cards of rh_figure first.
-- x is the scene, t a task, p a piece, k an anchor, at an address.
-- `-` of naturals doesn't have to stop: addresses of blocks lie above their area's first one.
use Rattle.std.specs.Prelude.{ℕ, ◌+◌, ◌-◌, ◌*◌, ◌==◌, nat_lt, false, List, [], ◌∷◌, ◌++◌, take, map, filter, find, codes, Option, Some, None}
use Rattle.std.specs.List.{concat}
use Rattle.std.specs.Fmt.{decimal}
use Rattle.rh_defs.specs.declared.sizes.TheConstants.{C_HEAP_PLACE}
use Rattle.rh_defs.specs.Pieces.{Split, page_size}
use Rattle.rh_defs.specs.Heap.{Segment, bytes_of, block_at}
use Rattle.rh_defs.specs.Slot.{Slot, Flex, slot_start, slot_length, slot_pages, heap_block_at}
use Rattle.rh_defs.specs.Messages.{Parcel, code_number, action_of}
use Rattle.rh_defs.specs.Desk.{Task, module_start}
use Rattle.rh_defs.specs.Text.{action_name}
use Rattle.rh_figure.specs.Phrases.{Text, task_name}
use Rattle.rh_figure.specs.Scene.{Scene, message_of_scene}
use Rattle.rh_figure.specs.Layout.{heap_pieces, flex_pieces, slot_legend, module_pieces}
use Rattle.rh_figure.specs.declared.piece.Kind.{Kind}
use Rattle.rh_figure.specs.declared.piece.Kind.TheVariants.{Claimed, Posted, FlexBlock, Unused}
use Rattle.rh_figure.specs.declared.piece.Piece.{Piece}
use Rattle.rh_lens.specs.declared.sizes.TheConstants.{MOST_READ}
use Rattle.rh_figure.specs.Cards.{use_of_block, use_of_buffer, between_text}

-- up to three lines of words, from above
pub record Lines : Type 0 where
  pub first : Text
  pub second : Text
  pub third : Text

abbrev pub no_lines : Lines
no_lines = record { first = []; second = []; third = [] }

-- A piece with the first bytes of its block, how a transfer uses it, and the lines of a message. What has none of these has
-- empty ones.
pub record Item : Type 0 where
  pub piece : Piece
  pub bytes : List ℕ
  pub used_by : Text
  pub message : Lines

abbrev pub bare : Piece → Item
bare p = record { piece = p; bytes = []; used_by = []; message = no_lines }

-- ---- a slot

abbrev pub bytes_of_flex : Option Flex → List ℕ
bytes_of_flex None = []
bytes_of_flex (Some b) = b.bytes

abbrev pub bytes_of_found : Option (Split Segment) → List ℕ
bytes_of_found None = []
bytes_of_found (Some s) = bytes_of s.here

abbrev pub flex_item : Task → Piece → ℕ → Item
flex_item t p k = record {
  piece = p;
  bytes = take MOST_READ (bytes_of_flex (find (λ (b : Flex). b.anchor == k) t.slot.blocks));
  used_by = use_of_block t k;
  message = no_lines;
}

-- the block of the C heap at an address
abbrev pub heap_item : Task → Piece → ℕ → Item
heap_item t p at = record {
  piece = p;
  bytes = take MOST_READ (bytes_of_found (heap_block_at at t.slot));
  used_by = use_of_buffer t at;
  message = no_lines;
}

abbrev pub slot_item_of : Task → Piece → Kind → Item
slot_item_of t p (FlexBlock k n) = flex_item t p k
slot_item_of t p (Claimed n) = heap_item t p (slot_start + p.at + 4)
slot_item_of t p _ = bare p

abbrev pub slot_item : Task → Piece → Item
slot_item t p = slot_item_of t p p.kind

-- what is unused of a slot's last page
abbrev pub unused_piece : Slot → Piece
unused_piece s =
    record { kind = Unused; at = slot_length s; size = page_size * slot_pages s - slot_length s; fresh = false }

-- the pieces that have a byte
abbrev pub seen : List Piece → List Piece
seen ps = filter (λ (p : Piece). nat_lt 0 p.size) ps

-- the C heap, from below
abbrev pub c_heap_items : Scene → Task → List Item
c_heap_items x t = map (slot_item t) (seen (heap_pieces (slot_legend x t.handle) C_HEAP_PLACE t.slot.heap))

-- the flex blocks above it, and what is unused
abbrev pub flex_items : Scene → Task → List Item
flex_items x t = map (slot_item t) (seen (
    flex_pieces x t.handle (C_HEAP_PLACE + t.slot.heap.end) t.slot.blocks ++ unused_piece t.slot ∷ []
    ))

-- ---- the module area

-- the lines of a message: its ref and action, between which tasks it goes, and its event code
abbrev pub message_lines : Scene → Parcel → Lines
message_lines x p = record {
  first = concat (decimal p.message.my_ref ∷ codes " " ∷ action_name (action_of p.message.body) ∷ []);
  second = between_text p.code (task_name x.desk p.message.from) (task_name x.desk p.to);
  third = codes "code " ++ decimal (code_number p.code);
}

abbrev pub posted_item : Scene → Piece → Option Parcel → Item
posted_item x p None = bare p
posted_item x p (Some m) = record { piece = p; bytes = []; used_by = []; message = message_lines x m }

-- the block of the module area at an address
abbrev pub module_block_item : Scene → Piece → ℕ → Item
module_block_item x p at = record {
  piece = p;
  bytes = take MOST_READ (bytes_of_found (block_at (at - module_start) x.desk.post.heap));
  used_by = [];
  message = no_lines;
}

abbrev pub module_item_of : Scene → Piece → Kind → Item
module_item_of x p (Posted ref) = posted_item x p (message_of_scene x (p.at + 4))
module_item_of x p (Claimed n) = module_block_item x p (module_start + p.at + 4)
module_item_of x p _ = bare p

abbrev pub module_item : Scene → Piece → Item
module_item x p = module_item_of x p p.kind

-- all of the module area, from below
abbrev pub module_items : Scene → List Item
module_items x = map (module_item x) (seen (module_pieces x))
