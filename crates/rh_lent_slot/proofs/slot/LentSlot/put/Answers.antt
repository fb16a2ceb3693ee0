use Rattle.rh_lent_slot.proofs.Common.{rules, no_answer, area_set, bytes, lent_pages_memory, pages_memory_over, LeavesSlot, lent_slot_in}
use Rattle.rh_defs.specs.Slot.{slot_put}
use Rattle.rh_lent_slot.proofs.SlotBytes.{is_slot, leaves_slot}
use Rattle.rh_lent_slot.proofs.slot.LentSlot.put.Goals as goal

pub put-result-requires-clause-slot : goal.put-result-requires-clause-slot
unfolding lent_pages_memory
put-result-requires-clause-slot c = is_slot c.args.bytes.now c.args.self.now _ c.requires.slot

pub returns-clause-left : goal.returns-clause-left
unfolding lent_pages_memory pages_memory_over bytes area_set
returns-clause-left c =
    let b = c.args.bytes.now in
    let s = c.args.self.now in
    let store = c.put-result.new.store in
    let granted = no_answer (slot_put c.args.anchor c.args.offset c.args.from.now (lent_slot_in b s)) in
    let name = c.put-result.ensures.only.loan in
    let left : LeavesSlot b store.bytes.now s (record { pages = store.pages; budge = s.budge; slides = s.slides }) granted c.put-result.result =
    leaves_slot b s _ store _ granted c.put-result.result c.requires.slot c.put-result.ensures in
    search rules
