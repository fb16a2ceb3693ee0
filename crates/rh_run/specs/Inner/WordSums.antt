-- Sums of a heap that fit words.
use Rattle.std.specs.Prelude.{◌<◌, ◌^◌}
use Rattle.rh_heap.specs.declared.image.Summary.{Summary}

-- each of a heap's sums is less than 2^32
pub record HasWordSums (s : Summary) : Type 0 where
  pub used : s.used < 2 ^ 32
  pub used_bytes : s.used_bytes < 2 ^ 32
  pub holes : s.holes < 2 ^ 32
  pub hole_bytes : s.hole_bytes < 2 ^ 32
  pub top : s.top < 2 ^ 32
