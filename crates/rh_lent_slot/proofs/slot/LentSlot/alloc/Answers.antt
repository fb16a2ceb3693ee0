use Rattle.rh_lent_slot.proofs.Common.{rules, area_set, bytes, lent_pages_memory, pages_memory_over, LeavesSlot, free_in, lent_slot_in}
use Rattle.rh_defs.specs.Slot.{slot_alloc}
use Rattle.rh_lent_slot.proofs.SlotBytes.{is_slot, leaves_slot}
use Rattle.rh_lent_slot.proofs.slot.LentSlot.alloc.Goals as goal

pub alloc-result-requires-clause-slot : goal.alloc-result-requires-clause-slot
unfolding lent_pages_memory
alloc-result-requires-clause-slot c = is_slot c.args.bytes.now c.args.self.now _ c.requires.slot

pub returns-clause-left : goal.returns-clause-left
unfolding lent_pages_memory pages_memory_over bytes area_set
returns-clause-left c =
    let b = c.args.bytes.now in
    let s = c.args.self.now in
    let store = c.alloc-result.new.store in
    let granted = slot_alloc (free_in b s) c.args.anchor c.args.n (lent_slot_in b s) in
    let name = c.alloc-result.ensures.only.loan in
    let left : LeavesSlot b store.bytes.now s (record { pages = store.pages; budge = s.budge; slides = s.slides }) granted c.alloc-result.result =
    leaves_slot b s _ store _ granted c.alloc-result.result c.requires.slot c.alloc-result.ensures in
    search rules
