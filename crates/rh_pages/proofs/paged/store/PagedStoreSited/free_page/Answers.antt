use Rattle.rh_pages.proofs.Common.{◌<◌, length, refl, arith, free_of, paged_memory}
use Rattle.rh_pages.proofs.Seats.{free_numbered, free_page_in}
use Rattle.rh_pages.proofs.paged.store.PagedStoreSited.free_page.Goals as goal

pub at-requires : goal.at-requires
unfolding paged_memory
at-requires g c = record { list = omega arith; within = c.requires }

pub overflow_sub-result : goal.overflow_sub-result
unfolding paged_memory
overflow_sub-result g c = let low = free_page_in c.args.self.now c.args.i _ c.requires refl in omega (arith, c.room.ensures)

pub overflow_sub-result-2 : goal.overflow_sub-result-2
unfolding paged_memory
overflow_sub-result-2 g c =
    let low = free_page_in c.args.self.now c.args.i c.at.result c.requires c.at.ensures in omega (arith, c.room.ensures)

pub returns : goal.returns
unfolding paged_memory
returns g c = free_numbered c.args.self.now c.args.i c.at.result c.room.result c.requires c.room.ensures c.at.ensures
