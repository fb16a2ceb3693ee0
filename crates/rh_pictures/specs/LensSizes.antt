-- Which lenses there are.
use Rattle.std.specs.Prelude.{◌≤◌, ◌<◌}
use Rattle.rh_lens.specs.declared.sizes.TheConstants.{LEAST_WIDTH, MOST_WIDTH, MOST_SCALE}
pub use Rattle.rh_pictures.specs.declared.lens.size.LensSize.{LensSize}

-- a lens that can be drawn
pub record IsLensSize (s : LensSize) : Type 0 where
  pub least : LEAST_WIDTH ≤ s.width
  pub most : s.width ≤ MOST_WIDTH
  pub some : 0 < s.scale
  pub scale : s.scale ≤ MOST_SCALE
