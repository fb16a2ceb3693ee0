use Rattle.rh_pages.proofs.Common.{refl, arith}
use Rattle.rh_pages.proofs.Seats.{area_long, numbered, page_in}
use Rattle.rh_pages.proofs.paged.store.PagedStoreSited.page.Goals as goal

pub overflow_sub-result : goal.overflow_sub-result
overflow_sub-result g c =
    let s = c.args.self.now in
    let low = page_in s c.args.id.0 c.args.i _ c.requires.opened c.requires.within refl in omega (arith, c.room.ensures)

pub overflow_sub-result-2 : goal.overflow_sub-result-2
overflow_sub-result-2 g c = omega (arith, c.room.ensures, c.backing_page.ensures.small)

pub returns : goal.returns
returns g c =
    let s = c.args.self.now in let id = c.args.id.0 in
    let long = area_long s id c.requires.opened in let in' = c.requires.within in
    numbered s id c.args.i c.backing_page.result c.room.result (omega arith) c.room.ensures c.backing_page.ensures.value
