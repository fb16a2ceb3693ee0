use Rattle.rh_pages.proofs.Regions.{slid_whole}
use Rattle.rh_pages.proofs.native.RegionBackingBacking.slide.Goals as goal

pub returns-clause-after : goal.returns-clause-after
returns-clause-after c =
    slid_whole c.args.self.now.region _ _ _ _ _ _ c.len-len.ensures c.bytes_mut.ensures.value c.slide_in.ensures c.requires.0 c.requires.1
