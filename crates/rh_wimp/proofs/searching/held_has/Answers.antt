use Rattle.rh_wimp.proofs.Common.{sym, ap, ◌∙◌, arith, holds_such, module_heap_in, wants}
use Rattle.rh_wimp.proofs.SearchLaws.{held-none, held-some}
use Rattle.rh_wimp.proofs.searching.held_has.Goals as goal

pub returns-then-held-eq0 : goal.returns-then-held-eq0
returns-then-held-eq0 g c =
    λ o s. held-none (module_heap_in (g.S.Words.memory c.args.store.now) c.args.module_area) c.args.held (wants c.args.wanted.now) o s c.if-held-eq0.true

pub matches_wanted-requires-clause-lies : goal.matches_wanted-requires-clause-lies
matches_wanted-requires-clause-lies g c =
    let w = held-some (module_heap_in
    (g.S.Words.memory c.args.store.now) c.args.module_area) c.args.held c.requires.held.0 c.requires.held.1 c.if-held-eq0.false in
    (0, (w.parcel, (w.lies, w.block, omega arith)))

pub returns : goal.returns
returns g c = λ o s.
    let w = held-some (module_heap_in (g.S.Words.memory c.args.store.now) c.args.module_area) c.args.held o s c.if-held-eq0.false in
    c.matches_wanted.ensures 0 w.parcel w.lies w.block (omega arith) ∙ sym (ap (holds_such (wants c.args.wanted.now)) w.is)
