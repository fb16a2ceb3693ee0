use Rattle.rh_pages.proofs.Common.{length, sym, ap, ◌∙◌, length-part, part-range, region_of}
use Rattle.rh_pages.proofs.Seats.{seat}
use Rattle.rh_pages.proofs.paged.PagedStore.get_part.Goals as goal

pub bytes-requires : goal.bytes-requires
bytes-requires g c =
    let q = c.requires in
    (seat c.args.self.now c.args.id.0 c.args.at (length c.args.to.now) c.spot-place.result q.opened q.some q.within q.fits c.spot-place.ensures).within

pub copy_from_slice-requires : goal.copy_from_slice-requires
copy_from_slice-requires g c =
    let s = c.args.self.now in let q = c.requires in let p = c.spot-place.result in let n = length c.args.to.now in
    let there = seat s c.args.id.0 c.args.at n p q.opened q.some q.within q.fits c.spot-place.ensures in
    sym (ap length (c.bytes.ensures ∙ sym (part-range (region_of s) p n there.within)) ∙ length-part (region_of s) p n)

pub returns : goal.returns
returns g c =
    let s = c.args.self.now in let q = c.requires in let p = c.spot-place.result in let n = length c.args.to.now in
    let there = seat s c.args.id.0 c.args.at n p q.opened q.some q.within q.fits c.spot-place.ensures in
    c.copy_from_slice.ensures.after ∙ c.bytes.ensures ∙ sym (part-range (region_of s) p n there.within) ∙ there.read
