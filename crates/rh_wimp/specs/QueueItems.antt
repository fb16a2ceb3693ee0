-- The live messages as they are listed, and a message block that is lent.
use Rattle.std.specs.Prelude.{◌≡◌, ℕ, ◌<◌, ◌^◌, Bool, true, false, List, [], ◌∷◌, ◌++◌, map, Option, Some, None}
use Rattle.rh_defs.specs.Bytes.{with_part}
use Rattle.rh_defs.specs.Memory.{Memory}
use Rattle.rh_defs.specs.Messages.{Parcel, action_of, encoded}
use Rattle.rh_defs.specs.Post.{Post}
use Rattle.rh_module.specs.ModuleArea.{module_heap_in}
use Rattle.rh_module.specs.declared.module.Module.{Module}
use Rattle.rh_wimp.specs.Chains.{Lies, SeatRow, held_list, rows_of}
use Rattle.rh_defs.specs.declared.message.MessageItem.{MessageItem}

-- a message that waits for a task, or is held by it
abbrev pub message_item_of : ℕ → Bool → Parcel → MessageItem
message_item_of to held p = record {
  block = p.block;
  to = to;
  from = p.message.from;
  my_ref = p.message.my_ref;
  action = action_of p.message.body;
  code = p.code;
  held = held;
}

-- the messages that wait, task by task
abbrev pub waiting_items : List SeatRow → List MessageItem
waiting_items [] = []
waiting_items (r ∷ rows) = map (message_item_of r.handle false) r.chain ++ waiting_items rows

-- those that are held, task by task
abbrev pub held_items : List SeatRow → List MessageItem
held_items [] = []
held_items (r ∷ rows) = map (message_item_of r.handle true) (held_list r.held) ++ held_items rows

-- those that wait, and then those that are held
abbrev pub message_items : Post → List MessageItem
message_items post = waiting_items (rows_of post) ++ held_items (rows_of post)

-- the bytes of a lent block with a message from its start on; as they were where there is none
abbrev pub with_message : Option Parcel → List ℕ → List ℕ
with_message None block = block
with_message (Some p) block = with_part block 0 (encoded p.message)

-- a message lies in the block, which links to a place
pub record LinksAt (m : Memory) (module_area : Module) (block link : ℕ) (p : Parcel) : Type 0 where
  pub lies : Lies (module_heap_in m module_area) link p
  pub block_is : block ≡ p.block
  pub small : link < 2 ^ 32
