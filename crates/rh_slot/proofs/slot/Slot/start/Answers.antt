-- The area is opened, given a page and an empty heap.
use Rattle.rh_slot.proofs.Common.{true, ◌∙◌, refl, sym, subst, arith, IsOpen, OnlyArea, OnlyArea-both, OnlyArea-from_Edited, SpellsSlotIn}
use Rattle.rh_defs.specs.Slot.{new_slot}
use Rattle.rh_defs.proofs.MemoryLaws.{IsOpen-opened}
use Rattle.rh_slot.proofs.StartLaws.{Opened, is_granted, page_granted, begin_refused, begin_done, opened_page, spells_new}
use Rattle.rh_slot.proofs.SpanLaws.{is_slot, slot_now}
use Rattle.rh_slot.proofs.slot.Slot.start.Goals as goal
use Rattle.rh_slot.proofs.slot.Slot.start.Goals.{After-grow, After-init}
use Rattle.rh_slot.proofs.slot.Slot.start.Given as given

pub returns-then-free_pages-eq0-clause-answer : goal.returns-then-free_pages-eq0-clause-answer
returns-then-free_pages-eq0-clause-answer g c = begin_refused _ (sym c.free_pages.ensures ∙ c.if-free_pages-eq0.true)

pub unwrap-area-requires : goal.unwrap-area-requires
unwrap-area-requires g c = is_granted c.open.result (λ z. let all = c.open.ensures.refused.0 z in let few = c.requires in omega arith)

pub grow-requires : goal.grow-requires
grow-requires g c = let o = rw c.unwrap-area.ensures at c.open.ensures.ok in subst (λ m. IsOpen m c.unwrap-area.result.0) (sym o.1) (IsOpen-opened _ _)

pub unwrap-requires : goal.unwrap-requires
unwrap-requires g c =
    let o = rw c.unwrap-area.ensures at c.open.ensures.ok in
    page_granted (g.S.Words.memory c.args.store.now) (g.S.Words.memory c.open.new.self) _ c.grow.result
    (λ z. c.if-free_pages-eq0.false (c.free_pages.ensures ∙ z)) o.1 c.grow.ensures.refused

page : (g : given.Over) (c : After-grow g) → Opened (g.S.Words.memory c.args.store.now) (g.S.Words.memory c.grow.new.self) c.unwrap-area.result.0
page g c =
    opened_page (g.S.Words.memory c.args.store.now) (g.S.Words.memory c.open.new.self) _ _ c.grow.result
    (λ z. c.if-free_pages-eq0.false (c.free_pages.ensures ∙ z)) (rw c.unwrap-area.ensures at c.open.ensures.ok) c.grow.ensures.ok c.grow.ensures.refused

spelt : (g : given.Over) (c : After-init g) → SpellsSlotIn (g.S.Words.memory c.init.new.store) (record { area = c.unwrap-area.result; budge = true }) new_slot
spelt g c = spells_new _ _ _ _ (page g (goal.at.returns-clause-spells g c).After-grow) (rw c.span.ensures at c.init.ensures.only)
    (rw c.span.ensures at c.init.ensures.spells)

only : (g : given.Over) (c : After-init g) → OnlyArea (g.S.Words.memory c.args.store.now) (g.S.Words.memory c.init.new.store) c.unwrap-area.result.0
only g c = let o = page g (goal.at.returns-clause-spells g c).After-grow in
    OnlyArea-both _ _ _ _ o.only (OnlyArea-from_Edited _ _ _ _ _ (rw c.span.ensures at c.init.ensures.only))

pub init-requires-clause-opened : goal.init-requires-clause-opened
init-requires-clause-opened g c =
    let o = page g (goal.at.init-requires-clause-opened g c).After-grow in
    subst (λ s. IsOpen (g.S.Words.memory c.grow.new.self) s.area.0) (sym c.span.ensures) o.opened

pub init-requires-clause-within : goal.init-requires-clause-within
init-requires-clause-within g c =
    let o = page g (goal.at.init-requires-clause-within g c).After-grow in
    rw c.span.ensures (omega (arith, o.len))

pub returns-clause-answer : goal.returns-clause-answer
returns-clause-answer g c = begin_done _ (λ z. c.if-free_pages-eq0.false (c.free_pages.ensures ∙ z))

pub returns-clause-slot : goal.returns-clause-slot
returns-clause-slot g c = slot_now _ _ new_slot (spelt g c) refl

pub returns-clause-spells : goal.returns-clause-spells
returns-clause-spells g c = spelt g c

pub returns-clause-still : goal.returns-clause-still
returns-clause-still g c = let o = only g c in is_slot _ _ new_slot o.opened (spelt g c)

pub returns-clause-only : goal.returns-clause-only
returns-clause-only g c = only g c
