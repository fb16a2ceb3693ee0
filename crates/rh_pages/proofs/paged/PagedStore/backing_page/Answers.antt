use Rattle.rh_pages.proofs.Common.{arith}
use Rattle.rh_pages.proofs.Seats.{area_below, number_read, page_in, table_long}
use Rattle.rh_pages.proofs.paged.PagedStore.backing_page.Goals as goal

pub at-requires : goal.at-requires
at-requires g c =
    let s = c.args.self.now in let id = c.args.id.0 in
    let long = table_long s id c.requires.opened in let in' = c.requires.within in
    record { list = area_below s id c.requires.opened; within = omega arith }

pub returns-clause-value : goal.returns-clause-value
returns-clause-value g c = number_read c.args.self.now c.args.id.0 c.args.i c.at.result c.requires.opened c.at.ensures

pub returns-clause-small : goal.returns-clause-small
returns-clause-small g c =
    let s = c.args.self.now in let id = c.args.id.0 in
    page_in s id c.args.i c.at.result c.requires.opened c.requires.within (number_read s id c.args.i c.at.result c.requires.opened c.at.ensures)
