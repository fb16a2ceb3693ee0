use Rattle.rh_pages.proofs.Common.{◌-◌, ◌%◌, sym, ◌∙◌, arith, PAGE, part-range, paged_whole_law, region_of}
use Rattle.rh_pages.proofs.Seats.{seat}
use Rattle.rh_pages.proofs.paged.store.PagedStorePaged.rest_of_page.Goals as goal

pub bytes-requires : goal.bytes-requires
bytes-requires g c =
    let s = c.args.self.now in
    let within = c.requires.within in
    let whole = paged_whole_law s c.args.id.0 in
    (seat s c.args.id.0 c.args.at (PAGE - c.args.at % PAGE) c.spot-start.result c.requires.opened (omega arith) (omega arith) (omega arith)
    c.spot-start.ensures).within

pub returns : goal.returns
returns g c =
    let s = c.args.self.now in
    let n = PAGE - c.args.at % PAGE in
    let p = c.spot-start.result in
    let within = c.requires.within in
    let whole = paged_whole_law s c.args.id.0 in
    let there = seat s c.args.id.0 c.args.at n p c.requires.opened (omega arith) (omega arith) (omega arith) c.spot-start.ensures in
    c.bytes.ensures ∙ sym (part-range (region_of s) p n there.within) ∙ there.read
