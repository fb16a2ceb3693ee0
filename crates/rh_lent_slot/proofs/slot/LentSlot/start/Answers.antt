-- The first page is zeroed, and given an empty heap.
use Rattle.rh_lent_slot.proofs.Common.{rules, ◌≡◌, ℕ, true, length, ap, arith, length-replicate, PAGE, area_set, bytes, new_slot, lent_pages_memory}
use Rattle.rh_lent_slot.proofs.Common.{pages_memory_over}
use Rattle.rh_lent_slot.proofs.Common.{IsSlotBytes, lent_slot_in}
use Rattle.rh_lent_slot.proofs.Over.{over-open}
use Rattle.rh_lent_slot.proofs.SlotBytes.{page_of_zeros, begun, begun_slot, begun_bytes}
use Rattle.rh_slot.proofs.StartLaws.{begin_refused, begin_done}
use Rattle.rh_lent_slot.proofs.slot.LentSlot.start.Goals as goal

pub returns-then-bytes-lt-PAGE-clause-answer : goal.returns-then-bytes-lt-PAGE-clause-answer
returns-then-bytes-lt-PAGE-clause-answer c = begin_refused _ (let few = c.if-bytes-lt-PAGE.true in omega arith)

pub init-requires-clause-opened : goal.init-requires-clause-opened
unfolding lent_pages_memory
init-requires-clause-opened c = over-open _ _ _ _

pub init-requires-clause-within : goal.init-requires-clause-within
unfolding lent_pages_memory pages_memory_over bytes area_set
init-requires-clause-within c =
    let some = c.if-bytes-lt-PAGE.false in
    let page = page_of_zeros c.args.bytes.now c.zero_in.new.b (omega arith) c.zero_in.ensures in
    omega (arith, ap length page, length-replicate {A = ℕ} PAGE 0)

pub returns-clause-answer : goal.returns-clause-answer
returns-clause-answer c = begin_done _ (λ z. let some = c.if-bytes-lt-PAGE.false in omega arith)

pub returns-clause-slot : goal.returns-clause-slot
unfolding lent_pages_memory pages_memory_over bytes area_set
returns-clause-slot c =
    let store = c.init.new.store in
    let some = c.if-bytes-lt-PAGE.false in
    let page = page_of_zeros c.args.bytes.now c.zero_in.new.b (omega arith) c.zero_in.ensures in
    let name = c.init.ensures.only.loan in
    let spelt = begun c.zero_in.new.b _ store page c.init.ensures.only c.init.ensures.spells in
    let made : lent_slot_in store.bytes.now (record { pages = store.pages; budge = true; slides = 0 }) ≡ new_slot = begun_slot store spelt in
    search rules

pub returns-clause-spells : goal.returns-clause-spells
unfolding lent_pages_memory pages_memory_over bytes area_set
returns-clause-spells c =
    let store = c.init.new.store in
    let some = c.if-bytes-lt-PAGE.false in
    let page = page_of_zeros c.args.bytes.now c.zero_in.new.b (omega arith) c.zero_in.ensures in
    let name = c.init.ensures.only.loan in
    let spelt = begun c.zero_in.new.b _ store page c.init.ensures.only c.init.ensures.spells in
    let made : IsSlotBytes store.bytes.now (record { pages = store.pages; budge = true; slides = 0 }) = begun_bytes store spelt in
    search rules
