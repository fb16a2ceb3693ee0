use Rattle.rh_wimp.proofs.Common.{◌≡◌, ℕ, ◌<◌, ◌≢◌, Bool, true, false, List, length, refl, sym, ap, subst, ◌∙◌, arith, Some, ◌==◌, word, module_heap_in}
use Rattle.rh_wimp.proofs.Common.{HasBlock}
use Rattle.rh_wimp.proofs.Common.{block_bytes, SeatRow, RowsLie, Holds, entry_at, row_at, answers_held, Entry, has-less}
use Rattle.rh_wimp.specs.Inner.Settling.{PutsDown}
use Rattle.rh_wimp.proofs.AnswerLaws.{read_entry, one_entry, some_entry, held-has, held-test}
use Rattle.rh_wimp.proofs.PostLaws.{found-at}
use Rattle.rh_wimp.proofs.sending.answer.Goals as goal
use Rattle.rh_wimp.proofs.sending.answer.Goals.{After-index}
use Rattle.rh_wimp.proofs.sending.answer.Given as given

pub returns-in_default-clause-settles : goal.returns-in_default-clause-settles
returns-in_default-clause-settles g c =
    λ rows i s l e. absurd (some_entry (module_heap_in (g.S.Words.memory c.args.store.now) c.args.module_area) c.args.entries.now.items rows c.args.from i s
    (sym c.in_default.ensures) l e)

entry_is : (g : given.Over) (c : After-index g) → c.index.result.now ≡ entry_at c.args.entries.now.items c.in-Some.at
entry_is g c =
    let w = found-at c.args.entries.now.items c.args.from c.in-Some.at (sym c.in-Some.ensures) in
    read_entry c.args.entries.now.items c.in-Some.at c.index.result.now w.0 c.index.ensures

holds : (g : given.Over) (c : After-index g) (rows : List SeatRow)
    (s : RowsLie (module_heap_in (g.S.Words.memory c.args.store.now) c.args.module_area) c.args.entries.now.items
    rows)
    → Holds (module_heap_in (g.S.Words.memory c.args.store.now) c.args.module_area) c.index.result.now.held (row_at rows c.in-Some.at).held
holds g c rows s =
    let es = c.args.entries.now.items in
    let w = found-at es c.args.from c.in-Some.at (sym c.in-Some.ensures) in
    let len = s.len in
    subst (λ b. Holds (module_heap_in (g.S.Words.memory c.args.store.now) c.args.module_area) b (row_at rows c.in-Some.at).held)
    (sym (ap (λ (x : Entry). x.held) (entry_is g c))) (s.each c.in-Some.at (omega arith)).held

pub holds_ref-requires-clause-held : goal.holds_ref-requires-clause-held
holds_ref-requires-clause-held g c =
    let h = module_heap_in (g.S.Words.memory c.args.store.now) c.args.module_area in
    λ ne. has-less c.index.result.now.held 24 20 h (omega arith)
    (held-has h c.index.result.now.held (row_at c.requires.rows.0 c.in-Some.at).held
    (holds g (goal.at.holds_ref-requires-clause-held g c).After-index c.requires.rows.0 c.requires.rows.1) ne)

-- what the test says of the place's row
tested : (g : given.Over) (c : After-index g) (t : Bool) → (c.index.result.now.held ≡ 0 → t ≡ false)
    → (c.index.result.now.held ≢ 0 → (bytes : List ℕ) → block_bytes c.index.result.now.held
    (module_heap_in (g.S.Words.memory c.args.store.now) c.args.module_area)
    ≡ Some
    bytes → t ≡ (word bytes 16 == c.args.your_ref))
    → (rows : List SeatRow) (i : ℕ) → RowsLie (module_heap_in (g.S.Words.memory c.args.store.now) c.args.module_area) c.args.entries.now.items rows
    → i < length rows
    → (row_at rows i).handle ≡ c.args.from → (t ≡ answers_held c.args.your_ref (row_at rows i).held) × (c.in-Some.at ≡ i)
tested g c t none some rows i s l e =
    let h = module_heap_in (g.S.Words.memory c.args.store.now) c.args.module_area in
    let same = one_entry h c.args.entries.now.items rows c.args.from c.in-Some.at i s (sym c.in-Some.ensures) l e in (
      held-test h c.index.result.now.held c.args.your_ref (row_at rows c.in-Some.at).held t (holds g c rows s) none some ∙ ap (λ k. answers_held
          c.args.your_ref (row_at rows k).held) same,
      same,
    )

pub returns-then-not-holds_ref-clause-settles : goal.returns-then-not-holds_ref-clause-settles
returns-then-not-holds_ref-clause-settles g c =
    λ rows i s l e.
    let m = g.S.Words.memory c.args.store.now in
    let es = c.args.entries.now.items in
    let w = tested g (goal.at.returns-then-not-holds_ref-clause-settles g c).After-index c.holds_ref.result c.holds_ref.ensures.none c.holds_ref.ensures.some
    rows i s l e in
    subst (λ t. PutsDown t m m c.args.module_area es es i 0) (sym c.if-not-holds_ref.true ∙ w.0) (refl, refl, refl)

pub put_down-requires-clause-held : goal.put_down-requires-clause-held
put_down-requires-clause-held g c =
    let h = module_heap_in (g.S.Words.memory c.args.store.now) c.args.module_area in
    let o = (goal.at.put_down-requires-clause-held g c).After-index in
    let ne : c.index.result.now.held ≢ 0 = λ z. let bad : true ≡ false = sym c.if-not-holds_ref.false ∙ c.holds_ref.ensures.none z in cc in
    subst (λ (e : Entry). HasBlock e.held 4 h) (entry_is g o)
    (has-less c.index.result.now.held 24 4 h (omega arith)
    (held-has h c.index.result.now.held (row_at c.requires.rows.0 c.in-Some.at).held (holds g o c.requires.rows.0 c.requires.rows.1) ne))

pub returns-clause-settles : goal.returns-clause-settles
returns-clause-settles g c =
    λ rows i s l e.
    let m = g.S.Words.memory c.args.store.now in
    let n = g.S.Words.memory c.put_down.new.store in
    let es = c.args.entries.now.items in
    let new = c.put_down.new.entries.items in
    let w = tested g (goal.at.returns-clause-settles g c).After-index c.holds_ref.result c.holds_ref.ensures.none c.holds_ref.ensures.some rows i s l e in
    subst (λ t. PutsDown t m n c.args.module_area es new i 1) (sym c.if-not-holds_ref.false ∙ w.0)
    (subst (λ k. PutsDown true m n c.args.module_area es new k 1) w.1 (refl, c.put_down.ensures.entries, c.put_down.ensures.heap))
