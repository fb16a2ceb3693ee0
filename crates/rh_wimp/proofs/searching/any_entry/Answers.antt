use Rattle.rh_wimp.proofs.Common.{◌≡◌, ◌<◌, ℕ, inl, inr, length, get_or, sym, ap, subst, ◌∙◌, arith, cases_eq, list_any, module_heap_in, RowLies, entry_at}
use Rattle.rh_wimp.proofs.Common.{row_at}
use Rattle.rh_wimp.proofs.Common.{row_parcels, wants, Entry}
use Rattle.rh_wimp.proofs.AnswerLaws.{read_entry}
use Rattle.rh_wimp.proofs.SearchLaws.{none-have, one-has}
use Rattle.rh_wimp.proofs.searching.any_entry.Goals as goal
use Rattle.rh_wimp.proofs.searching.any_entry.Goals.{After-entry-item}
use Rattle.rh_wimp.proofs.searching.any_entry.Given as given

-- the entry that is looked at
at : (g : given.Over) (c : After-entry-item g)
    → (c.loop-entry.entry-index < length c.args.entries.now.items) × (c.entry-item.result ≡ entry_at c.args.entries.now.items c.loop-entry.entry-index)
at g c =
    let e = c.as_slice-entry-items.ensures.value in
    let l : c.loop-entry.entry-index < length c.args.entries.now.items = subst (λ es. c.loop-entry.entry-index < length es) e c.loop-entry-test.true in (
      l,
      read_entry c.args.entries.now.items c.loop-entry.entry-index c.entry-item.result l (c.entry-item.is ∙ ap (λ es. get_or es c.loop-entry.entry-index
          c.entry-item.result) e),
    )

pub entry_has-requires-clause-row : goal.entry_has-requires-clause-row
entry_has-requires-clause-row g c =
    let o = (goal.at.entry_has-requires-clause-row g c).After-entry-item in
    let r = c.requires.rows in
    let w = at g o in
    let l = w.0 in
    let len = r.1.0.len in
    let i : ℕ = c.loop-entry.entry-index in (
      row_at r.0 i,
      (
        subst (λ (e : Entry). RowLies (module_heap_in (g.S.Words.memory c.args.store.now) c.args.module_area) e (row_at r.0 i)) (sym w.1) (r.1.0.each i (omega
            arith)),
        r.1.1 i (omega arith),
      ),
    )

pub returns-then-entry_has : goal.returns-then-entry_has
returns-then-entry_has g c = λ rows s short.
    let o = (goal.at.returns-then-entry_has g c).After-entry-item in
    let w = at g o in
    let l = w.0 in
    let len = s.len in
    let i : ℕ = c.loop-entry.entry-index in
    let lies = subst (λ (e : Entry). RowLies (module_heap_in (g.S.Words.memory c.args.store.now) c.args.module_area) e (row_at rows i)) (sym w.1)
    (s.each i (omega arith)) in
    sym (one-has (wants c.args.wanted.now) rows i (omega arith) (sym (c.entry_has.ensures (row_at rows i) lies (short i (omega arith))) ∙ c.if-entry_has.true))

pub loop-entry-preserved : goal.loop-entry-preserved
loop-entry-preserved g c = λ rows s short j b.
    let o = (goal.at.loop-entry-preserved g c).After-entry-item in
    let w = at g o in
    let l = w.0 in
    let len = s.len in
    let i : ℕ = c.loop-entry.entry-index in
    elim (cases_eq j i) [
      | inl z ↦
          let lies = subst (λ (e : Entry). RowLies (module_heap_in (g.S.Words.memory c.args.store.now) c.args.module_area) e (row_at rows i)) (sym w.1)
          (s.each i (omega arith)) in
          ap (λ k. list_any (wants c.args.wanted.now) (row_parcels (row_at rows k))) z
          ∙ sym (c.entry_has.ensures (row_at rows i) lies (short i (omega arith))) ∙ c.if-entry_has.false
      | inr ne ↦ c.loop-entry.invariant rows s short j (omega arith)
    ]

pub returns : goal.returns
returns g c = λ rows s short.
    let e = ap length c.as_slice-entry-items.ensures.value in
    let f = c.loop-entry-test.false in
    let len = s.len in
    sym (none-have (wants c.args.wanted.now) rows (λ j b. c.loop-entry.invariant rows s short j (omega arith)))
