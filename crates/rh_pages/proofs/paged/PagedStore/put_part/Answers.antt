use Rattle.rh_pages.proofs.Common.{length, refl, ◌∙◌, paged_memory, region_of}
use Rattle.rh_pages.proofs.Regions.{run_put}
use Rattle.rh_pages.proofs.Seats.{seat, still_long}
use Rattle.rh_pages.proofs.paged.PagedStore.put_part.Goals as goal

pub copy_in-requires : goal.copy_in-requires
copy_in-requires g c =
    let q = c.requires in
    (seat c.args.self.now c.args.id.0 c.args.at (length c.args.from.now) c.spot-place.result q.opened q.some q.within q.fits c.spot-place.ensures).within

pub invariant_of-self : goal.invariant_of-self
invariant_of-self g c =
    let s = c.args.self.now in let q = c.requires in let p = c.spot-place.result in let ws = c.args.from.now in let n = length ws in
    let there = seat s c.args.id.0 c.args.at n p q.opened q.some q.within q.fits c.spot-place.ensures in
    record {
      few = s.few;
      long = still_long s _ c.copy_in.ensures.numbers;
      kept = there.kept _ _ ws (c.copy_in.ensures.after ∙ run_put (region_of s) p n ws refl there.within) c.copy_in.ensures.numbers refl;
    }

pub returns : goal.returns
unfolding paged_memory
returns g c =
    let s = c.args.self.now in let q = c.requires in let p = c.spot-place.result in let ws = c.args.from.now in let n = length ws in
    let there = seat s c.args.id.0 c.args.at n p q.opened q.some q.within q.fits c.spot-place.ensures in
    there.memory _ _ ws (c.copy_in.ensures.after ∙ run_put (region_of s) p n ws refl there.within) c.copy_in.ensures.numbers refl
