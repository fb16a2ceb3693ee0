use Rattle.rh_lent_slot.proofs.Common.{rules, ◌≡◌, ◌∙◌, lent_slot_bytes, no_answer, area_set}
use Rattle.rh_lent_slot.proofs.Common.{bytes, lent_pages_memory, pages_memory_over, LeavesSlot, free_in, lent_slot_in}
use Rattle.rh_defs.specs.Slot.{slot_extend}
use Rattle.rh_lent_slot.proofs.SlotBytes.{is_slot, leaves_slot}
use Rattle.rh_lent_slot.specs.SlotSlides.{slides_after}
use Rattle.rh_lent_slot.specs.declared.slot.LentSlot.{LentSlot}
use Rattle.rh_lent_slot.proofs.Over.{over-open}
use Rattle.rh_lent_slot.proofs.SlideCalls.{noted_in, counted_above, alters-extend}
use Rattle.rh_lent_slot.proofs.slot.LentSlot.extend.Goals as goal

pub extend-result-requires-clause-slot : goal.extend-result-requires-clause-slot
unfolding lent_pages_memory
extend-result-requires-clause-slot c = is_slot c.args.bytes.now c.args.self.now _ c.requires.slot

pub returns-clause-left : goal.returns-clause-left
unfolding lent_pages_memory pages_memory_over bytes area_set
returns-clause-left c =
    let b = c.args.bytes.now in
    let s = c.args.self.now in
    let store = c.extend-result.new.store in
    let granted = no_answer (slot_extend (free_in b s) c.args.anchor c.args.n (lent_slot_in b s)) in
    let name = c.extend-result.ensures.only.loan in
    let left : LeavesSlot b store.bytes.now s (record { pages = store.pages; budge = s.budge; slides = c.slides_noted-self.result })
    granted c.extend-result.result =
    leaves_slot b s _ store _ granted c.extend-result.result c.requires.slot c.extend-result.ensures in
    search rules

pub slides_noted-self-requires-clause-opened : goal.slides_noted-self-requires-clause-opened
unfolding lent_pages_memory
slides_noted-self-requires-clause-opened c = over-open _ _ _ _

pub slides_noted-self-requires-clause-within : goal.slides_noted-self-requires-clause-within
unfolding lent_pages_memory pages_memory_over bytes area_set
slides_noted-self-requires-clause-within c =
    let b = c.args.bytes.now in
    let s = c.args.self.now in
    let store = c.extend-result.new.store in
    let granted = no_answer (slot_extend (free_in b s) c.args.anchor c.args.n (lent_slot_in b s)) in
    let name = c.extend-result.ensures.only.loan in
    let left : LeavesSlot b store.bytes.now s (record { pages = store.pages; budge = s.budge; slides = s.slides }) granted c.extend-result.result =
    leaves_slot b s _ store _ granted c.extend-result.result c.requires.slot c.extend-result.ensures in
    noted_in store.bytes.now _ _ left.bytes c.note_above-noted.ensures.within

pub returns-clause-slides : goal.returns-clause-slides
unfolding lent_pages_memory pages_memory_over bytes area_set
returns-clause-slides c =
    let b = c.args.bytes.now in
    let s = c.args.self.now in
    let store = c.extend-result.new.store in
    let granted = no_answer (slot_extend (free_in b s) c.args.anchor c.args.n (lent_slot_in b s)) in
    let name = c.extend-result.ensures.only.loan in
    let left : LeavesSlot b store.bytes.now s (record { pages = store.pages; budge = s.budge; slides = c.slides_noted-self.result })
    granted c.extend-result.result =
    leaves_slot b s _ store _ granted c.extend-result.result c.requires.slot c.extend-result.ensures in
    let t : LentSlot = record { pages = store.pages; budge = s.budge; slides = c.slides_noted-self.result } in
    let counts : t.slides ≡ slides_after s.slides (lent_slot_bytes b s) (lent_slot_bytes store.bytes.now t) =
    c.slides_noted-self.ensures
    ∙ counted_above b store.bytes.now s t c.note_above-noted.result c.requires.slot c.args.anchor granted c.extend-result.result
    (alters-extend _ _ _ _) left c.note_above-noted.ensures.first in
    search rules
