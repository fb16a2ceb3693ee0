use Rattle.rh_lent_slot.proofs.Common.{rules, no_answer, area_set, bytes, lent_pages_memory, pages_memory_over, LeavesSlot, lent_slot_in}
use Rattle.rh_defs.specs.Slot.{slot_release}
use Rattle.rh_lent_slot.proofs.SlotBytes.{is_slot, leaves_slot}
use Rattle.rh_lent_slot.proofs.slot.LentSlot.release.Goals as goal

pub release-result-requires : goal.release-result-requires
unfolding lent_pages_memory
release-result-requires c = record { slot = is_slot c.args.bytes.now c.args.self.now _ c.requires }

pub returns-clause-left : goal.returns-clause-left
unfolding lent_pages_memory pages_memory_over bytes area_set
returns-clause-left c =
    let b = c.args.bytes.now in
    let s = c.args.self.now in
    let store = c.release-result.new.store in
    let granted = no_answer (slot_release c.args.address (lent_slot_in b s)) in
    let name = c.release-result.ensures.only.loan in
    let left : LeavesSlot b store.bytes.now s (record { pages = store.pages; budge = s.budge; slides = s.slides }) granted c.release-result.result =
    leaves_slot b s _ store _ granted c.release-result.result c.requires c.release-result.ensures in
    search rules
