use Rattle.rh_lent_slot.proofs.Common.{rules, ◌≡◌, true, false, sym, length, ◌∙◌, arith, Ok, Err, no_answer, area_set, bytes, BadRange, lent_pages_memory}
use Rattle.rh_lent_slot.proofs.Common.{pages_memory_over}
use Rattle.rh_lent_slot.proofs.Common.{LeavesSlot, lent_slot_in, slot_write}
use Rattle.rh_defs.specs.Slot.{holds}
use Rattle.rh_lent_slot.proofs.Over.{over-open}
use Rattle.rh_lent_slot.proofs.SlotBytes.{is_slot, leaves_slot, refused_slot}
use Rattle.rh_lent_slot.proofs.WriteLaws.{write_refused, write_within, write_leaves}
use Rattle.rh_lent_slot.proofs.slot.LentSlot.write.Goals as goal

pub inside-requires : goal.inside-requires
unfolding lent_pages_memory
inside-requires c = record { slot = is_slot c.args.bytes.now c.args.self.now _ c.requires }

pub returns-then-not-inside-clause-left : goal.returns-then-not-inside-clause-left
unfolding lent_pages_memory pages_memory_over bytes area_set
returns-then-not-inside-clause-left c =
    let b = c.args.bytes.now in
    let s = c.args.self.now in
    let granted = no_answer (slot_write c.args.address c.args.from.now (lent_slot_in b s)) in
    let none : holds c.args.address (length c.args.from.now) (lent_slot_in b s) ≡ false = sym c.inside.ensures ∙ c.if-not-inside.true in
    let left : LeavesSlot b b s s granted (Err BadRange) =
    refused_slot b s granted BadRange c.requires (write_refused c.args.address c.args.from.now (lent_slot_in b s) none) in
    search rules

pub overflow_sub-address : goal.overflow_sub-address
unfolding lent_pages_memory pages_memory_over bytes area_set
overflow_sub-address c =
    let b = c.args.bytes.now in
    let s = c.args.self.now in
    let held : holds c.args.address (length c.args.from.now) (lent_slot_in b s) ≡ true = sym c.inside.ensures ∙ c.if-not-inside.false in
    let w = write_within c.args.address c.args.from.now (lent_slot_in b s) _ c.requires.spells held in
    omega (arith, w.low)

pub copy_in-requires-clause-opened : goal.copy_in-requires-clause-opened
unfolding lent_pages_memory
copy_in-requires-clause-opened c = over-open _ _ _ _

pub copy_in-requires-clause-within : goal.copy_in-requires-clause-within
unfolding lent_pages_memory pages_memory_over bytes area_set
copy_in-requires-clause-within c =
    let b = c.args.bytes.now in
    let s = c.args.self.now in
    let held : holds c.args.address (length c.args.from.now) (lent_slot_in b s) ≡ true = sym c.inside.ensures ∙ c.if-not-inside.false in
    let w = write_within c.args.address c.args.from.now (lent_slot_in b s) _ c.requires.spells held in
    omega (arith, w.high)

pub returns-clause-left : goal.returns-clause-left
unfolding lent_pages_memory pages_memory_over bytes area_set
returns-clause-left c =
    let b = c.args.bytes.now in
    let s = c.args.self.now in
    let store = c.copy_in.new.self in
    let granted = no_answer (slot_write c.args.address c.args.from.now (lent_slot_in b s)) in
    let held : holds c.args.address (length c.args.from.now) (lent_slot_in b s) ≡ true = sym c.inside.ensures ∙ c.if-not-inside.false in
    let is = write_leaves _ (lent_pages_memory store) _ c.args.address c.args.from.now (is_slot b s _ c.requires) held c.copy_in.ensures in
    let name = is.only.loan in
    let left : LeavesSlot b store.bytes.now s (record { pages = store.pages; budge = s.budge; slides = s.slides }) granted (Ok tt) =
    leaves_slot b s _ store _ granted (Ok tt) c.requires is in
    search rules
