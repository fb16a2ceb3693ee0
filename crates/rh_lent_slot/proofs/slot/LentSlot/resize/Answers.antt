use Rattle.rh_lent_slot.proofs.Common.{rules, ◌≡◌, ◌∙◌, lent_slot_bytes, ℤ, w32}
use Rattle.rh_lent_slot.proofs.Common.{area_set, bytes, lent_pages_memory, pages_memory_over, LeavesSlot, free_in, lent_slot_in}
use Rattle.std.proofs.lemmas.Int.{to_z-of_z}
use Rattle.rh_defs.specs.Slot.{slot_resize}
use Rattle.rh_lent_slot.proofs.SlotBytes.{is_slot, leaves_signed}
use Rattle.rh_lent_slot.specs.SlotSlides.{slides_after}
use Rattle.rh_lent_slot.specs.declared.slot.LentSlot.{LentSlot}
use Rattle.rh_lent_slot.proofs.Over.{over-open}
use Rattle.rh_lent_slot.proofs.SlideCalls.{noted_in, counted_lowest, heaps-resize}
use Rattle.rh_lent_slot.proofs.slot.LentSlot.resize.Goals as goal

pub resize-result-requires : goal.resize-result-requires
unfolding lent_pages_memory
resize-result-requires c = record { slot = is_slot c.args.bytes.now c.args.self.now _ c.requires }

pub returns-clause-left : goal.returns-clause-left
unfolding lent_pages_memory pages_memory_over bytes area_set
returns-clause-left c =
    let b = c.args.bytes.now in
    let s = c.args.self.now in
    let store = c.resize-result.new.store in
    let granted = λ (d : ℤ). slot_resize (free_in b s) c.args.address d (lent_slot_in b s) in
    let name = c.resize-result.ensures.only.loan in
    let left : LeavesSlot b store.bytes.now s (record { pages = store.pages; budge = s.budge; slides = c.slides_noted-self.result })
    (granted c.args.delta) c.resize-result.result =
    leaves_signed b s _ store _ granted c.resize-result.result _ _ (to_z-of_z w32 c.args.delta c.ranges.delta) c.requires c.resize-result.ensures in
    search rules

pub slides_noted-self-requires-clause-opened : goal.slides_noted-self-requires-clause-opened
unfolding lent_pages_memory
slides_noted-self-requires-clause-opened c = over-open _ _ _ _

pub slides_noted-self-requires-clause-within : goal.slides_noted-self-requires-clause-within
unfolding lent_pages_memory pages_memory_over bytes area_set
slides_noted-self-requires-clause-within c =
    let b = c.args.bytes.now in
    let s = c.args.self.now in
    let store = c.resize-result.new.store in
    let granted = λ (d : ℤ). slot_resize (free_in b s) c.args.address d (lent_slot_in b s) in
    let name = c.resize-result.ensures.only.loan in
    let left : LeavesSlot b store.bytes.now s (record { pages = store.pages; budge = s.budge; slides = s.slides })
    (granted c.args.delta) c.resize-result.result =
    leaves_signed b s _ store _ granted c.resize-result.result _ _ (to_z-of_z w32 c.args.delta c.ranges.delta) c.requires c.resize-result.ensures in
    noted_in store.bytes.now _ _ left.bytes c.note_lowest-noted.ensures.within

pub returns-clause-slides : goal.returns-clause-slides
unfolding lent_pages_memory pages_memory_over bytes area_set
returns-clause-slides c =
    let b = c.args.bytes.now in
    let s = c.args.self.now in
    let store = c.resize-result.new.store in
    let granted = λ (d : ℤ). slot_resize (free_in b s) c.args.address d (lent_slot_in b s) in
    let name = c.resize-result.ensures.only.loan in
    let left : LeavesSlot b store.bytes.now s (record { pages = store.pages; budge = s.budge; slides = c.slides_noted-self.result })
    (granted c.args.delta) c.resize-result.result =
    leaves_signed b s _ store _ granted c.resize-result.result _ _ (to_z-of_z w32 c.args.delta c.ranges.delta) c.requires c.resize-result.ensures in
    let t : LentSlot = record { pages = store.pages; budge = s.budge; slides = c.slides_noted-self.result } in
    let counts : t.slides ≡ slides_after s.slides (lent_slot_bytes b s) (lent_slot_bytes store.bytes.now t) =
    c.slides_noted-self.ensures
    ∙ counted_lowest b store.bytes.now s t c.note_lowest-noted.result c.requires (granted c.args.delta) c.resize-result.result
    (heaps-resize _ _ _ _) left c.note_lowest-noted.ensures.first in
    search rules
