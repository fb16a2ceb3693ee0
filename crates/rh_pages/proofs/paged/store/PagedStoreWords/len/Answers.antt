use Rattle.rh_pages.proofs.Common.{arith, paged_small_law}
use Rattle.rh_pages.proofs.Seats.{area_below, table_long}
use Rattle.rh_pages.proofs.paged.store.PagedStoreWords.len.Goals as goal

pub len-requires : goal.len-requires
len-requires g c = area_below c.args.self.now c.args.id.0 c.requires

pub overflow_mul-result : goal.overflow_mul-result
overflow_mul-result g c =
    let s = c.args.self.now in let is = c.len.ensures (g.G.Backing.numbers s.site) s.long in
    let long = table_long s c.args.id.0 c.requires in let small = paged_small_law s c.args.id.0 in omega arith

pub returns : goal.returns
returns g c =
    let s = c.args.self.now in let is = c.len.ensures (g.G.Backing.numbers s.site) s.long in
    let long = table_long s c.args.id.0 c.requires in omega arith
