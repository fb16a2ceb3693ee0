use Rattle.rh_wimp.proofs.Common.{◌≡◌, ◌<◌, ℕ, List, length, get_or, map, refl, sym, ap, subst, ◌∙◌, arith, true, ◌++◌, length-map, module_heap_in, SeatRow}
use Rattle.rh_wimp.proofs.Common.{RowLies}
use Rattle.rh_wimp.proofs.Common.{RowsLie, entry_at, held_list, row_at, message_item_of, held_items, Entry}
use Rattle.rh_wimp.proofs.AnswerLaws.{read_entry}
use Rattle.rh_wimp.proofs.ItemLaws.{goes-on, goes-past, goes-room, held_of}
use Rattle.rh_wimp.proofs.listing.push_held.Goals as goal
use Rattle.rh_wimp.proofs.listing.push_held.Goals.{After-entry-item}
use Rattle.rh_wimp.proofs.listing.push_held.Given as given

pub loop-entry-init : goal.loop-entry-init
loop-entry-init g c = λ rows s few. refl

-- the entry that is looked at
at : (g : given.Over) (c : After-entry-item g)
    → (c.loop-entry.entry-index < length c.args.entries.now.items) × (c.entry-item.result ≡ entry_at c.args.entries.now.items c.loop-entry.entry-index)
at g c =
    let e = c.as_slice-entry-items.ensures.value in
    let l : c.loop-entry.entry-index < length c.args.entries.now.items = subst (λ es. c.loop-entry.entry-index < length es) e c.loop-entry-test.true in (
      l,
      read_entry c.args.entries.now.items c.loop-entry.entry-index c.entry-item.result l (c.entry-item.is ∙ ap (λ es. get_or es c.loop-entry.entry-index
          c.entry-item.result) e),
    )

-- its row
row : (g : given.Over) (c : After-entry-item g) (rows : List SeatRow)
    → RowsLie (module_heap_in (g.S.Words.memory c.args.store.now) c.args.module_area) c.args.entries.now.items rows
    → (c.loop-entry.entry-index < length rows) × RowLies (module_heap_in (g.S.Words.memory c.args.store.now) c.args.module_area) c.entry-item.result
    (row_at rows c.loop-entry.entry-index)
row g c rows s =
    let w = at g c in
    let l = w.0 in
    let len = s.len in
    let i : ℕ = c.loop-entry.entry-index in (
      omega arith,
      subst (λ (e : Entry). RowLies (module_heap_in (g.S.Words.memory c.args.store.now) c.args.module_area) e (row_at rows i)) (sym w.1)
          (s.each i (omega arith)),
    )

pub push_block-requires-clause-held : goal.push_block-requires-clause-held
push_block-requires-clause-held g c =
    let o = (goal.at.push_block-requires-clause-held g c).After-entry-item in
    let r = c.requires.rows in
    let i : ℕ = c.loop-entry.entry-index in
    let w = row g o r.0 r.1.0 in
    let room = goes-room held_items held_of i r.0 c.args.items.now.items c.loop-entry.items.items (λ x xs. refl) w.0 (c.loop-entry.invariant r.0 r.1.0 r.1.1)
    r.1.1 in
    ((row_at r.0 i).held, (w.1.held, omega (arith, room, length-map (held_list (row_at r.0 i).held) (message_item_of (row_at r.0 i).handle true))))

pub loop-entry-preserved : goal.loop-entry-preserved
loop-entry-preserved g c = λ rows s few.
    let o = (goal.at.loop-entry-preserved g c).After-entry-item in
    let i : ℕ = c.loop-entry.entry-index in
    let w = row g o rows s in
    let g' = c.loop-entry.invariant rows s few in
    let room = goes-room held_items held_of i rows c.args.items.now.items c.loop-entry.items.items (λ x xs. refl) w.0 g' few in
    let more = c.push_block.ensures (row_at rows i).held w.1.held (omega
    (arith, room, length-map (held_list (row_at rows i).held) (message_item_of (row_at rows i).handle true))) in
    goes-on held_items held_of i rows c.args.items.now.items c.loop-entry.items.items _ (λ x xs. refl) w.0 g'
    (more ∙ ap (λ h. c.loop-entry.items.items ++ map (message_item_of h true) (held_list (row_at rows i).held)) w.1.handle)

pub returns : goal.returns
returns g c = λ rows s few.
    let e = ap length c.as_slice-entry-items.ensures.value in
    let f = c.loop-entry-test.false in
    let len = s.len in
    goes-past held_items c.loop-entry.entry-index rows c.args.items.now.items c.loop-entry.items.items refl (omega arith) (c.loop-entry.invariant rows s few)
