use Rattle.rh_pages.proofs.Common.{◌/◌, arith, PAGE}
use Rattle.rh_pages.proofs.Seats.{area_below, number_read, area_long, table_long, page_small}
use Rattle.rh_pages.proofs.paged.PagedStore.spot.Goals as goal

pub at-requires : goal.at-requires
at-requires g c =
    let s = c.args.self.now in let id = c.args.id.0 in
    let long = table_long s id c.requires.opened in let in' = c.requires.within in
    record { list = area_below s id c.requires.opened; within = omega arith }

pub overflow_mul-result : goal.overflow_mul-result
overflow_mul-result g c =
    let s = c.args.self.now in let id = c.args.id.0 in let i = c.args.at / PAGE in
    let long = area_long s id c.requires.opened in let in' = c.requires.within in
    let small = page_small s id i (omega arith) c.at.result (number_read s id i c.at.result c.requires.opened c.at.ensures) in omega arith

pub overflow_add-result : goal.overflow_add-result
overflow_add-result g c =
    let s = c.args.self.now in let id = c.args.id.0 in let i = c.args.at / PAGE in
    let long = area_long s id c.requires.opened in let in' = c.requires.within in
    let small = page_small s id i (omega arith) c.at.result (number_read s id i c.at.result c.requires.opened c.at.ensures) in omega arith

pub returns : goal.returns
returns g c =
    let is = number_read c.args.self.now c.args.id.0 (c.args.at / PAGE) c.at.result c.requires.opened c.at.ensures in omega arith
