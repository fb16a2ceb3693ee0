use Rattle.rh_pages.proofs.Common.{◌*◌, ap, arith, PAGE}
use Rattle.rh_pages.specs.Paged.{place_of}
use Rattle.rh_pages.proofs.Seats.{area_below, number_read, area_long, table_long, page_small, placed}
use Rattle.rh_pages.proofs.paged.PagedStore.place.Goals as goal

pub at-requires : goal.at-requires
at-requires g c =
    let s = c.args.self.now in let id = c.args.id.0 in
    let long = table_long s id c.requires.opened in let in' = c.requires.within in
    record { list = area_below s id c.requires.opened; within = omega arith }

pub overflow_mul-result : goal.overflow_mul-result
overflow_mul-result g c =
    let s = c.args.self.now in let id = c.args.id.0 in
    let long = area_long s id c.requires.opened in let in' = c.requires.within in
    let small = page_small s id c.args.i (omega arith) c.at.result (number_read s id c.args.i c.at.result c.requires.opened c.at.ensures) in omega arith

pub returns-clause-value : goal.returns-clause-value
unfolding place_of
returns-clause-value g c = ap (λ k. PAGE * k) (number_read c.args.self.now c.args.id.0 c.args.i c.at.result c.requires.opened c.at.ensures)

pub returns-clause-within : goal.returns-clause-within
returns-clause-within g c =
    let s = c.args.self.now in let id = c.args.id.0 in
    (placed s id c.args.i c.at.result c.requires.opened c.requires.within (number_read s id c.args.i c.at.result c.requires.opened c.at.ensures)).within

pub returns-clause-bytes : goal.returns-clause-bytes
returns-clause-bytes g c =
    let s = c.args.self.now in let id = c.args.id.0 in
    (placed s id c.args.i c.at.result c.requires.opened c.requires.within (number_read s id c.args.i c.at.result c.requires.opened c.at.ensures)).same

pub returns-clause-apart : goal.returns-clause-apart
returns-clause-apart g c =
    let s = c.args.self.now in let id = c.args.id.0 in
    (placed s id c.args.i c.at.result c.requires.opened c.requires.within (number_read s id c.args.i c.at.result c.requires.opened c.at.ensures)).apart
