-- A figure: all that a picture shows of a desk. Read Scene, Layout and Cards first.
-- x is the scene, k the number of a page, t a task, o an owner.
use Rattle.std.specs.Prelude.{ℕ, ◌==◌, nat_le, nat_lt, ◌||◌, not, Bool, false, if◌then◌else◌, List, [], ◌∷◌, ◌++◌, length, take, map, filter, find, codes, Option, Some, None}
use Rattle.std.specs.List.{list_any, flat_map, concat, join_by, enumerate_from, range_with_len}
use Rattle.std.specs.Fmt.{decimal}
use Rattle.rh_defs.specs.declared.command.Manner.{Manner}
use Rattle.rh_defs.specs.declared.command.Manner.TheVariants as manner
use Rattle.rh_defs.specs.declared.question.RecordItem.{RecordItem}
use Rattle.rh_defs.specs.declared.message.Letter.{Letter}
use Rattle.rh_defs.specs.Slot.{slot_start}
use Rattle.rh_defs.specs.Messages.{Parcel}
use Rattle.rh_defs.specs.Post.{held_by}
use Rattle.rh_defs.specs.Desk.{Task, Made, Scrap, task_pages, module_pages, free_pages, module_area, module_start, scrap_area}
use Rattle.rh_defs.specs.Questions.{out_item, in_item}
use Rattle.rh_figure.specs.Share.{Owner, AreaOf, SlotOf, Holding, holdings}
use Rattle.rh_figure.specs.Scene.{Scene, held_list}
use Rattle.rh_figure.specs.Phrases.{Text, where_so, size_text, pages_text, listed_numbers, and_more, area_name, message_text}
use Rattle.rh_figure.specs.Changes.{changes}
use Rattle.rh_figure.specs.Layout.{Piece, slot_pieces, module_pieces}
use Rattle.rh_figure.specs.Cards.{Card, shown_cards, flex_cards, heap_cards, module_cards}
use Rattle.rh_figure.specs.declared.limits.TheConstants.{MOST_SLOTS, MOST_LISTED}

-- the bytes of an area: its first address, the numbers of its pages from below, its pieces, and cards of its blocks
pub record Drawing : Type 0 where
  pub start : ℕ
  pub pages : List ℕ
  pub pieces : List Piece
  pub cards : List Card

-- an area or slot by its owner, with a note, and its bytes where they are drawn
pub record Panel : Type 0 where
  pub owner : Owner
  pub name : Text
  pub note : Text
  pub drawing : Option Drawing

-- the messages of a task: what it holds, and what waits for it
pub record Letterbox : Type 0 where
  pub name : Text
  pub held : Text
  pub waits : Text

-- a side of a transfer: the task's name, and its record
abbrev pub Side : Type 0
Side = Text × RecordItem

-- a transfer by its id, as its sender and its receiver have it
pub record Transfer : Type 0 where
  pub id : ℕ
  pub goes_out : Option Side
  pub comes_in : Option Side

-- the changes in words; the owner of each page of the pool, and how many are free; areas, slots and the module area;
-- messages and transfers
pub record Figure : Type 0 where
  pub changes : List Text
  pub pool : List (Option Owner)
  pub free : ℕ
  pub areas : List Panel
  pub slots : List Panel
  pub module_panel : Panel
  pub letterboxes : List Letterbox
  pub transfers : List Transfer

-- ---- the pool

-- whose page it is, where it isn't free
abbrev pub owner_of : Scene → ℕ → Option Owner
owner_of x k = first_owner (find (λ (o : Holding). list_any (λ n. n == k) (x.share.pages_of o.0)) (holdings x.desk))
  where
    first_owner : Option Holding → Option Owner
    first_owner None = None
    first_owner (Some o) = Some o.0

-- ---- areas that are pages alone

-- the numbers of n pages, if there are any
abbrev pub listed_pages : ℕ → List ℕ → Text
listed_pages n numbers = where_so (nat_lt 0 n) (codes ": " ++ listed_numbers numbers)

abbrev pub numbers_text : Scene → Holding → Text
numbers_text x o = listed_pages o.1 (x.share.pages_of o.0)

-- the scrap file's bytes, and the ref of its DataLoad
abbrev pub scrap_note : ℕ → ℕ → Text
scrap_note n load = codes ", scrap file of " ++ size_text n ++ codes " for DataLoad " ++ decimal load

abbrev pub scrap_text : Option Scrap → Text
scrap_text None = []
scrap_text (Some s) = scrap_note (length s.bytes) s.load

-- an area of n pages, of which a made one has a limit
abbrev pub fixed_note : ℕ → Text → Text → Text
fixed_note n numbers scrap = pages_text n ++ numbers ++ scrap

abbrev pub made_note : ℕ → ℕ → Text → Text
made_note n most numbers = decimal n ++ codes " of at most " ++ pages_text most ++ numbers

abbrev pub area_panel : ℕ → Text → Panel
area_panel k note = record { owner = AreaOf k; name = area_name k; note = note; drawing = None }

-- one of areas 0 to 5 but the module area, where it has pages
abbrev pub fixed_panel : Scene → ℕ × ℕ → List Panel
fixed_panel x area =
    if area.0 == module_area || area.1 == 0 then []
    else area_panel area.0 (
    fixed_note area.1 (numbers_text x (AreaOf area.0, area.1))
    (if area.0 == scrap_area then scrap_text x.desk.scrap else [])
    ) ∷ []

abbrev pub made_panel : Scene → Made → Panel
made_panel x m = area_panel m.number (made_note m.pages m.most (numbers_text x (AreaOf m.number, m.pages)))

abbrev pub area_panels : Scene → List Panel
area_panels x = flat_map (fixed_panel x) (enumerate_from 0 x.desk.areas) ++ map (made_panel x) x.desk.made

-- ---- slots, and the module area

abbrev pub manner_text : Manner → Text
manner_text manner.Plain = []
manner_text manner.Deaf = codes "deaf "
manner_text manner.File = codes "file "
manner_text manner.Raw = codes "raw "

-- a slot by the manner and handle of its task, its buffer and pages, and whether it budges
abbrev pub note_of_slot : Manner → ℕ → ℕ → ℕ → Bool → Text
note_of_slot manner handle buffer pages budging = concat (
    manner_text manner ∷ codes "task " ∷ decimal handle ∷ codes ", buffer of " ∷ decimal buffer ∷ codes ", "
    ∷ pages_text pages ∷ where_so (not budging) (codes ", budging off") ∷ []
    )

abbrev pub slot_note : Task → Text
slot_note t = note_of_slot t.manner t.handle t.buffer (task_pages t) t.slot.budging

abbrev pub is_recipient : ℕ → Option (Letter × ℕ) → Bool
is_recipient h None = false
is_recipient h (Some sent) = sent.0.to == h

-- whether the flex block that was written to is the task's
abbrev pub is_put_in : ℕ → Option (ℕ × ℕ) → Bool
is_put_in h None = false
is_put_in h (Some b) = b.0 == h

-- all slots of few tasks are drawn, and of many those that the command is about
abbrev pub is_drawn : Scene → Task → Bool
is_drawn x t =
    nat_le (length x.desk.tasks) MOST_SLOTS || t.handle == x.marks.handle || t.handle == x.marks.heap.0
    || is_put_in t.handle x.marks.put || is_recipient t.handle x.marks.sent

abbrev pub slot_drawing : Scene → Task → Drawing
slot_drawing x t = record {
  start = slot_start;
  pages = x.share.pages_of (SlotOf t.handle);
  pieces = slot_pieces x t.handle t.slot;
  cards = shown_cards (flex_cards x t) ++ shown_cards (heap_cards x t);
}

abbrev pub slot_panel : Scene → Task → Panel
slot_panel x t = record {
  owner = SlotOf t.handle;
  name = t.name;
  note = slot_note t;
  drawing = if is_drawn x t then Some (slot_drawing x t) else None;
}

abbrev pub module_drawing : Scene → Drawing
module_drawing x = record {
  start = module_start;
  pages = x.share.pages_of (AreaOf module_area);
  pieces = module_pieces x;
  cards = shown_cards (module_cards x);
}

abbrev pub panel_of_module : Scene → Panel
panel_of_module x = record {
  owner = AreaOf module_area;
  name = area_name module_area;
  note = pages_text (module_pages x.desk);
  drawing = Some (module_drawing x);
}

-- ---- messages and transfers

abbrev pub messages_text : List Parcel → Text
messages_text ps = join_by message_text (codes ", ") (take MOST_LISTED ps) ++ and_more (length ps)

-- what a task holds and what waits for it, where there is a message
abbrev pub letterbox_of : Text → List Parcel → List Parcel → List Letterbox
letterbox_of name [] [] = []
letterbox_of name held waits =
    record { name = name; held = flat_map message_text held; waits = messages_text waits } ∷ []

abbrev pub letterboxes : Scene → List Letterbox
letterboxes x =
    flat_map (λ (t : Task). letterbox_of t.name (held_list (held_by t.handle x.desk.post.seats))
    (x.waits t.handle)) x.desk.tasks

abbrev pub out_sides : Scene → List Side
out_sides x = flat_map (λ (t : Task). map (λ r. (t.name, out_item r)) t.sending) x.desk.tasks

abbrev pub in_sides : Scene → List Side
in_sides x = flat_map (λ (t : Task). map (λ r. (t.name, in_item r)) t.taking) x.desk.tasks

abbrev pub has_id : ℕ → Side → Bool
has_id id s = s.1.id == id

-- the transfers that go out, each with the first side that comes in, and those that only come in
abbrev pub transfers_of : List Side → List Side → List Transfer
transfers_of out in_ =
    map (λ (s : Side). record { id = s.1.id; goes_out = Some s; comes_in = find (has_id s.1.id) in_ }) out
    ++ map (λ (s : Side). record { id = s.1.id; goes_out = None; comes_in = Some s })
    (filter (λ (s : Side). not (list_any (has_id s.1.id) out)) in_)

abbrev pub transfers : Scene → List Transfer
transfers x = transfers_of (out_sides x) (in_sides x)

-- ---- all of it
unfoldable pub figure : Scene → Figure
figure x = record {
  changes = changes x;
  pool = map (owner_of x) (range_with_len 0 x.desk.pool);
  free = free_pages x.desk;
  areas = area_panels x;
  slots = map (slot_panel x) x.desk.tasks;
  module_panel = panel_of_module x;
  letterboxes = letterboxes x;
  transfers = transfers x;
}
