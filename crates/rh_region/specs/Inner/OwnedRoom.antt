-- Room for a block, and a block of zeros.
use Rattle.std.specs.Prelude.{ℕ}
use base.Fraction.{full_share}
use base.Fml.{Fml}
use denote.Array.{Array}
use denote.Builtin.{u8}
use denote.RawPtr.{Ptr, lies_at, room_for}
use Rattle.core.specs.Allocator.{array_of}
use Rattle.rh_region.specs.Zeros.{zeros}

-- room for n bytes at p, whatever it holds
abbrev pub room_of : Ptr → ℕ → Fml
room_of p n = room_for (array_of u8 n) p

-- n zero bytes at p
abbrev pub zeros_at : Ptr → ℕ → Fml
zeros_at p n = lies_at (Array u8 n) full_share p (zeros n)
