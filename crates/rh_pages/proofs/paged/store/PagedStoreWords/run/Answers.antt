use Rattle.rh_pages.proofs.Common.{◌-◌, ◌%◌, length, sym, ap, ◌∙◌, arith, PAGE, part-range, length-part, paged_whole_law, paged_memory, region_of, part, bytes}
use Rattle.rh_pages.proofs.Seats.{seat}
use Rattle.rh_pages.proofs.paged.store.PagedStoreWords.run.Goals as goal

pub bytes-requires : goal.bytes-requires
bytes-requires g c =
    let s = c.args.self.now in
    let within = c.requires.within in
    let whole = paged_whole_law s c.args.id.0 in
    (seat s c.args.id.0 c.args.at (PAGE - c.args.at % PAGE) c.spot-first.result c.requires.opened (omega arith) (omega arith) (omega arith)
    c.spot-first.ensures).within

pub returns-clause-bytes : goal.returns-clause-bytes
returns-clause-bytes g c =
    let s = c.args.self.now in
    let n = PAGE - c.args.at % PAGE in
    let p = c.spot-first.result in
    let within = c.requires.within in
    let whole = paged_whole_law s c.args.id.0 in
    let there = seat s c.args.id.0 c.args.at n p c.requires.opened (omega arith) (omega arith) (omega arith) c.spot-first.ensures in
    let is = c.bytes.ensures ∙ sym (part-range (region_of s) p n there.within) ∙ there.read in
    is ∙ ap (part (bytes (paged_memory s) c.args.id.0) c.args.at) (sym (ap length is ∙ length-part (bytes (paged_memory s) c.args.id.0) c.args.at n))

pub returns-clause-some : goal.returns-clause-some
returns-clause-some g c =
    let s = c.args.self.now in
    let n = PAGE - c.args.at % PAGE in
    let p = c.spot-first.result in
    let within = c.requires.within in
    let whole = paged_whole_law s c.args.id.0 in
    let there = seat s c.args.id.0 c.args.at n p c.requires.opened (omega arith) (omega arith) (omega arith) c.spot-first.ensures in
    let is = c.bytes.ensures ∙ sym (part-range (region_of s) p n there.within) ∙ there.read in
    omega (arith, ap length is, length-part (bytes (paged_memory s) c.args.id.0) c.args.at n)
