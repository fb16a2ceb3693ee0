-- The commands on a task's slot, from what the slot's call leaves.
use Rattle.rh_tasks.proofs.Common.{◌≡◌, ℕ, ◌∙◌, refl, sym, ap, subst, List, None, Ok, Err, IsOk, true, false, list_any, Memory, FileList, Command, Refusal}
use Rattle.rh_tasks.proofs.Common.{NotABlock, Reply, Granted, no_answer, in_range, free_pages, IsDesk, IsRoomed, Desk, idle_block, idle_buffer, Answer, change}
use Rattle.rh_tasks.proofs.Common.{slot_in, LeavesSlotIn, Seat, MadeArea, Kept, task_of, desk_of, IsWorld, Owns, slid, granted, changed}
use Rattle.rh_defs.specs.declared.reply.Reply.TheVariants as reply
use Rattle.rh_defs.specs.Slot as plain
use Rattle.rh_defs.specs.Records.{is_buffer_of}
use Rattle.rh_defs.proofs.Desks.{with_slot-keeps}
use Rattle.rh_slot.specs.declared.slot.Slot.{Slot}
use Rattle.rh_tasks.proofs.Leaves.{refused, unchanged}
use Rattle.rh_tasks.proofs.Calls.{on_slot, on_idle, slot-refused, slot-done, slot-world, idle-is, first-is}
use Rattle.rh_tasks.proofs.Finding.{sits}
use Rattle.rh_tasks.proofs.Looks.{buffer-none}
use Rattle.rh_tasks.proofs.Moves.{slid-desk, slid-world}
use Rattle.rh_tasks.proofs.Slides.{at-task, seat-at}

-- the slot that a call leaves, and its block's address as the reply
abbrev pub placed_slot : plain.Slot × ℕ → plain.Slot
placed_slot p = p.0

abbrev pub placed_reply : plain.Slot × ℕ → Reply
placed_reply p = reply.Block p.1

abbrev pub same_slot : plain.Slot → plain.Slot
same_slot s = s

abbrev pub done_reply : plain.Slot → Reply
done_reply s = reply.Done

module _ {m : Memory} {seats : List Seat} {made : List MadeArea} {files : FileList} {kept : Kept} {name : List ℕ} {slot : Slot}
    (w : IsWorld m seats made files kept) (o : Owns name seats slot) where
  abbrev d : Desk
  d = desk_of m seats made files kept

  -- a call that answers a block's address
  module _ (call : ℕ → plain.Slot → Granted (plain.Slot × ℕ)) where
    abbrev pub on_placed : Granted Answer
    on_placed = on_slot call placed_slot placed_reply name d

    module _ {n : Memory} {a : ℕ} (l : LeavesSlotIn m n slot (call m.free (slot_in m slot)) (Ok a)) where
      pub placed-done : on_placed ≡ Ok (desk_of n seats made files kept, reply.Block a)
      placed-done = slot-done call placed_slot placed_reply w o (slid l) (granted l) refl

      pub placed-world : (c : Command) → change d c ≡ on_placed → in_range c ≡ true → IsWorld n seats made files kept
      placed-world c same ranged = slot-world call placed_slot placed_reply w o (slid l) (granted l) refl c same ranged

    pub placed-refused : {n : Memory} {r : Refusal} → LeavesSlotIn m n slot (call m.free (slot_in m slot)) (Err r) → on_placed ≡ Err r
    placed-refused l = slot-refused call placed_slot placed_reply w o (refused l)

  -- a call on the anchor's block
  module _ (call : ℕ → plain.Slot → Granted plain.Slot) (k : ℕ) (idle : IsOk (idle_block k (task_of m o.seat))) where
    abbrev pub on_block : Granted Answer
    on_block = on_idle (idle_block k) call same_slot done_reply name d

    block-is : on_block ≡ on_slot call same_slot done_reply name d
    block-is = idle-is call same_slot done_reply w o (idle_block k) idle

    module _ {n : Memory} (l : LeavesSlotIn m n slot (no_answer (call m.free (slot_in m slot))) (Ok tt)) where
      pub block-done : on_block ≡ Ok (desk_of n seats made files kept, reply.Done)
      block-done = block-is ∙ slot-done call same_slot done_reply w o (slid l) (changed l) refl

      pub block-world : (c : Command) → change d c ≡ on_block → in_range c ≡ true → IsWorld n seats made files kept
      block-world c same ranged = slot-world call same_slot done_reply w o (slid l) (changed l) refl c (same ∙ block-is) ranged

    pub block-refused : {n : Memory} {r : Refusal} → LeavesSlotIn m n slot (no_answer (call m.free (slot_in m slot))) (Err r) → on_block ≡ Err r
    block-refused l = block-is ∙ slot-refused call same_slot done_reply w o (unchanged l)

  -- where no transfer has its buffer at an address, a look for a block there is refused as the call is
  none-there : {A : Type 0} (address : ℕ) (call : ℕ → plain.Slot → Granted A) → list_any (is_buffer_of address) o.seat.taking ≡ false
      → (plain.heap_block_at address (slot_in m slot) ≡ None → call m.free (slot_in m slot) ≡ Err NotABlock)
      → (r : Refusal) → idle_buffer address (task_of m o.seat) ≡ Err r → call m.free (slot_in m slot) ≡ Err r
  none-there address call idle none r e =
      let n = buffer-none m o.seat address idle r e in
      none (ap (λ x. plain.heap_block_at address (slot_in m x)) (sym o.slot_is) ∙ n.0) ∙ ap (λ i. Err i) (sym n.1)

  -- a call on a block of the C heap
  module _ (call : ℕ → plain.Slot → Granted plain.Slot) (address : ℕ) (idle : list_any (is_buffer_of address) o.seat.taking ≡ false)
      (none : plain.heap_block_at address (slot_in m slot) ≡ None → call m.free (slot_in m slot) ≡ Err NotABlock) where
    abbrev pub on_buffer : Granted Answer
    on_buffer = on_idle (idle_buffer address) call same_slot done_reply name d

    buffer-is : on_buffer ≡ on_slot call same_slot done_reply name d
    buffer-is = first-is call same_slot done_reply w o (idle_buffer address) (none-there address call idle none)

    module _ {n : Memory} (l : LeavesSlotIn m n slot (no_answer (call m.free (slot_in m slot))) (Ok tt)) where
      pub buffer-done : on_buffer ≡ Ok (desk_of n seats made files kept, reply.Done)
      buffer-done = buffer-is ∙ slot-done call same_slot done_reply w o (slid l) (changed l) refl

      pub buffer-world : (c : Command) → change d c ≡ on_buffer → in_range c ≡ true → IsWorld n seats made files kept
      buffer-world c same ranged = slot-world call same_slot done_reply w o (slid l) (changed l) refl c (same ∙ buffer-is) ranged

      -- the same of a call that is no command
      pub buffer-keeps : ((new : plain.Slot) → plain.IsSlot (slot_in m slot) → call m.free (slot_in m slot) ≡ Ok new
          → IsRoomed (free_pages d) (slot_in m slot) new) → IsWorld n seats made files kept
      unfolding task_of
      buffer-keeps keeps =
          let task = at-task d o.place (task_of m o.seat) w.desk (seat-at w (sits o.found)) in
          let its : plain.IsSlot (slot_in m slot) = subst (λ x. plain.IsSlot (slot_in m x)) o.slot_is task.slot in
          let roomed : IsRoomed (free_pages d) (slot_in m o.seat.slot) (slot_in n slot) =
          subst (λ x. IsRoomed (free_pages d) (slot_in m x) (slot_in n slot)) (sym o.slot_is) (keeps (slot_in n slot) its (changed l)) in
          slid-world w o (slid l) (subst IsDesk (sym (slid-desk w o (slid l))) (with_slot-keeps d (task_of m o.seat) (slot_in n slot) task roomed w.desk))

    pub buffer-refused : {n : Memory} {r : Refusal} → LeavesSlotIn m n slot (no_answer (call m.free (slot_in m slot))) (Err r) → on_buffer ≡ Err r
    buffer-refused l = buffer-is ∙ slot-refused call same_slot done_reply w o (unchanged l)

  -- a call on a block of the C heap that answers its address
  module _ (call : ℕ → plain.Slot → Granted (plain.Slot × ℕ)) (address : ℕ) (idle : list_any (is_buffer_of address) o.seat.taking ≡ false)
      (none : plain.heap_block_at address (slot_in m slot) ≡ None → call m.free (slot_in m slot) ≡ Err NotABlock) where
    abbrev pub on_moved : Granted Answer
    on_moved = on_idle (idle_buffer address) call placed_slot placed_reply name d

    moved-is : on_moved ≡ on_slot call placed_slot placed_reply name d
    moved-is = first-is call placed_slot placed_reply w o (idle_buffer address) (none-there address call idle none)

    module _ {n : Memory} {a : ℕ} (l : LeavesSlotIn m n slot (call m.free (slot_in m slot)) (Ok a)) where
      pub moved-done : on_moved ≡ Ok (desk_of n seats made files kept, reply.Block a)
      moved-done = moved-is ∙ slot-done call placed_slot placed_reply w o (slid l) (granted l) refl

      pub moved-world : (c : Command) → change d c ≡ on_moved → in_range c ≡ true → IsWorld n seats made files kept
      moved-world c same ranged = slot-world call placed_slot placed_reply w o (slid l) (granted l) refl c (same ∙ moved-is) ranged

    pub moved-refused : {n : Memory} {r : Refusal} → LeavesSlotIn m n slot (call m.free (slot_in m slot)) (Err r) → on_moved ≡ Err r
    moved-refused l = moved-is ∙ slot-refused call placed_slot placed_reply w o (refused l)
