-- A region as its bytes.
use Rattle.std.specs.Prelude.{◌≡◌, length}
use Rattle.rh_region.specs.declared.Region.TheInside.{Inside}

-- the block has as many bytes as its length says, and the region's handle can free it
pub record IsRegion (r : Inside) : Type 0 where
  pub long : length r.block.bytes ≡ r.block.len
  pub freed : r.block.alloc ≡ r.alloc
