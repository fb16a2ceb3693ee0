use Rattle.rh_pages.proofs.Common.{ℕ, replicate, ◌∙◌, length-replicate, paged_memory, region_of}
use Rattle.rh_pages.proofs.Regions.{zeroed}
use Rattle.rh_pages.proofs.Seats.{seat, still_long}
use Rattle.rh_pages.proofs.paged.PagedStore.zero_part.Goals as goal

pub zero-requires : goal.zero-requires
zero-requires g c =
    (seat c.args.self.now c.args.id.0 c.args.at c.args.n c.spot-place.result c.requires.opened c.requires.some c.requires.within c.requires.fits
    c.spot-place.ensures).within

pub invariant_of-self : goal.invariant_of-self
invariant_of-self g c =
    let s = c.args.self.now in let n = c.args.n in
    let there = seat s c.args.id.0 c.args.at n c.spot-place.result c.requires.opened c.requires.some c.requires.within c.requires.fits c.spot-place.ensures in
    record {
      few = s.few;
      long = still_long s _ c.zero.ensures.numbers;
      kept = there.kept _ _ (replicate n 0) (c.zero.ensures.after ∙ zeroed (region_of s) c.spot-place.result n there.within) c.zero.ensures.numbers
          (length-replicate {A = ℕ} n 0);
    }

pub returns : goal.returns
unfolding paged_memory
returns g c =
    let s = c.args.self.now in let n = c.args.n in
    let there = seat s c.args.id.0 c.args.at n c.spot-place.result c.requires.opened c.requires.some c.requires.within c.requires.fits c.spot-place.ensures in
    there.memory _ _ (replicate n 0) (c.zero.ensures.after ∙ zeroed (region_of s) c.spot-place.result n there.within) c.zero.ensures.numbers
    (length-replicate {A = ℕ} n 0)
