use Rattle.rh_pages.proofs.Common.{◌+◌, get_or, set, ap, ◌∙◌, arith, length-set, table_rows, lists_of}
use Rattle.rh_pages.proofs.Tables.{set_fits, length_there, end_in_row, pushed}
use Rattle.rh_pages.proofs.table.PageTable.push.Goals as goal

pub set_number-requires : goal.set_number-requires
set_number-requires g c =
    let t = c.args.self.now in let numbers = g.G.Backing.numbers c.args.site.now in let q = c.requires in
    let n = length_there numbers t c.args.to q.list q.long in
    end_in_row numbers t c.args.to q.list q.long (omega (arith, q.room))

pub invariant_of-self : goal.invariant_of-self
invariant_of-self g c =
    let t = c.args.self.now in let numbers = g.G.Backing.numbers c.args.site.now in let q = c.requires in
    let n = length_there numbers t c.args.to q.list q.long in
    record {
      few = t.few;
      count = length-set t.lengths c.args.to (get_or t.lengths c.args.to 0 + 1) ∙ t.count;
      fits = set_fits t.lengths t.room c.args.to (get_or t.lengths c.args.to 0 + 1) t.fits (omega (arith, q.room));
    }

pub returns-clause-lists : goal.returns-clause-lists
unfolding lists_of
returns-clause-lists g c =
    let t = c.args.self.now in let numbers = g.G.Backing.numbers c.args.site.now in let q = c.requires in
    let n = length_there numbers t c.args.to q.list q.long in
    ap (λ l. table_rows l t.room (set t.lengths c.args.to (get_or t.lengths c.args.to 0 + 1))) c.set_number.ensures.after
    ∙ pushed numbers t c.args.to q.list q.long c.args.number (omega (arith, q.room))
