use Rattle.rh_pages.proofs.Common.{◌≡◌, ◌+◌, ◌-◌, ◌++◌, ◌∷◌, [], ℕ, get_or, set, sym, ap, ◌∙◌, arith, list_at, table_rows, lists_of}
use Rattle.rh_pages.proofs.Tables.{length_there, in_row, last_off, popped}
use Rattle.rh_pages.proofs.table.PageTable.pop.Goals as goal

pub overflow_sub-n : goal.overflow_sub-n
overflow_sub-n g c =
    let n = length_there (g.G.Backing.numbers c.args.site.now) c.args.self.now c.args.from c.requires.list c.requires.long in
    omega (arith, c.requires.some)

pub number-requires : goal.number-requires
number-requires g c =
    let t = c.args.self.now in let numbers = g.G.Backing.numbers c.args.site.now in let q = c.requires in
    let n = length_there numbers t c.args.from q.list q.long in
    in_row numbers t c.args.from (get_or t.lengths c.args.from 0 - 1) (omega (arith, q.some))

pub returns-clause-last : goal.returns-clause-last
unfolding lists_of
returns-clause-last g c =
    let t = c.args.self.now in let numbers = g.G.Backing.numbers c.args.site.now in let q = c.requires in
    let n = length_there numbers t c.args.from q.list q.long in
    let less : get_or t.lengths c.args.from 0 ≡ (get_or t.lengths c.args.from 0 - 1) + 1 = omega (arith, q.some) in
    last_off numbers t c.args.from q.list q.long (get_or t.lengths c.args.from 0 - 1) less
    ∙ ap (λ (x : ℕ). list_at (table_rows numbers t.room (set t.lengths c.args.from (get_or t.lengths c.args.from 0 - 1))) c.args.from ++ x ∷ [])
    (sym c.number.ensures)

pub returns-clause-lists : goal.returns-clause-lists
unfolding lists_of
returns-clause-lists g c =
    let t = c.args.self.now in let numbers = g.G.Backing.numbers c.args.site.now in let q = c.requires in
    let n = length_there numbers t c.args.from q.list q.long in
    let less : get_or t.lengths c.args.from 0 ≡ (get_or t.lengths c.args.from 0 - 1) + 1 = omega (arith, q.some) in
    popped numbers t c.args.from q.list q.long (get_or t.lengths c.args.from 0 - 1) less
