-- The flag for budging of a task's slot.
use Rattle.rh_tasks.proofs.Common.{◌≡◌, ℕ, Bool, refl, ap, sym, ◌∙◌, List, Ok, true, set, Memory, OnlyArea-self, FileList, in_range, with_slot, IsSlotIn}
use Rattle.rh_tasks.proofs.Common.{slot_in, Seat, MadeArea, Kept, desk_of, task_of, IsWorld, HasSlot, FoundSeat, all-at, begins, granted-same, sits, named-is}
use Rattle.rh_tasks.proofs.Common.{granted-keeps, Moves, moved-desk, moved-world}
use Rattle.rh_defs.specs.declared.reply.Reply.TheVariants as reply
use Rattle.rh_defs.specs.declared.command.Command.TheVariants as command
use Rattle.rh_defs.specs.Slot as plain
use Rattle.rh_defs.specs.Commands.{budge}
use Rattle.rh_slot.specs.declared.slot.Slot.{Slot}

-- a slot with another flag
pub record Flagged (m : Memory) (old new : Slot) (on was : Bool) : Type 0 where
  pub area : new.area.0 ≡ old.area.0
  pub still : IsSlotIn m old → IsSlotIn m new
  pub spelled : (slot_in m new, was) ≡ plain.slot_set_budge on (slot_in m old)

module _ {m : Memory} {seats : List Seat} {made : List MadeArea} {files : FileList} {kept : Kept} {name : List ℕ} {i : ℕ} {s : Seat} {slot : Slot}
    {on was : Bool}
    (w : IsWorld m seats made files kept) (f : FoundSeat name seats i s) (flag : Flagged m s.slot slot on was) where
  has : IsSlotIn m s.slot
  has = all-at (HasSlot m) seats i s w.areas.slots (sits f)

  moves : Moves m m s (record s { slot = slot }) (λ t. record t { slot = slot_in m slot })
  unfolding task_of
  moves = record { handle = refl; area = flag.area; still = flag.still has; only = OnlyArea-self m s.slot.area.0 has.opened; task = refl }

  pub budge-done : budge (desk_of m seats made files kept) name on ≡ Ok
      (desk_of m (set seats i (record s { slot = slot })) made files kept, reply.WasBudging was)
  unfolding budge task_of
  budge-done = begins _ (named-is m made files kept f) (granted-same
      (sym (moved-desk w (sits f) moves ∙ ap (λ (p : plain.Slot × Bool). with_slot s.handle p.0 (desk_of m seats made files kept)) flag.spelled))
      (ap (λ (p : plain.Slot × Bool). reply.WasBudging p.1) (sym flag.spelled)))

  pub budge-world : in_range (command.Budge name on) ≡ true → IsWorld m (set seats i (record s { slot = slot })) made files kept
  budge-world ranged = moved-world w (sits f) moves (granted-keeps (desk_of m seats made files kept) _ (command.Budge name on) (reply.WasBudging was)
      budge-done ranged w.desk)
