use Rattle.std.proofs.Common.{◌∙◌, arith}
use Rattle.rh_pages.proofs.Tables.{small_index, in_section, in_row, number_at}
use Rattle.rh_pages.proofs.table.PageTable.at.Goals as goal

pub overflow_add-k : goal.overflow_add-k
overflow_add-k g c =
    let numbers = g.G.Backing.numbers c.args.site.now in
    omega (arith, small_index c.args.self.now c.args.k c.args.i c.requires.list (in_section numbers c.args.self.now c.args.k c.args.i c.requires.within))

pub number-requires : goal.number-requires
number-requires g c = in_row (g.G.Backing.numbers c.args.site.now) c.args.self.now c.args.k c.args.i c.requires.within

pub returns : goal.returns
returns g c = c.number.ensures ∙ number_at (g.G.Backing.numbers c.args.site.now) c.args.self.now c.args.k c.args.i c.requires.within
