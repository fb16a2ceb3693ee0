-- What a block owns and lends.
use Rattle.std.specs.Prelude.{ℕ, ◌^◌, List}
use base.Fraction.{full_share}
use base.Fml.{Lft, Fml, fsep, flt}
use denote.Array.{Array}
use denote.Builtin.{u8}
use denote.RawPtr.{Ptr, lies_at}
use denote.Sharing.{said, beside}
use denote.Struct.Lending.{lent_at}
use Rattle.core.specs.Allocator.{array_of}
use Rattle.std.specs.declared.alloc.Global.{Global}
use Rattle.std.specs.contracts.impls.GlobalAllocator.TheImpl.{ghosts}

-- the bytes xs, n in number, at p, and the right to free them; they are fewer than 2 ^ 63
abbrev pub block_owns : Ptr → ℕ → Global → List ℕ → Fml
block_owns p n heap xs = fsep (flt n (2 ^ 63)) (fsep (lies_at (Array u8 n) full_share p xs) (ghosts.dealloc_token heap (array_of u8 n) p))

-- what a `&` to a block shows: the same bytes
abbrev pub block_lent : Ptr → ℕ → List ℕ → Lft → Fml
block_lent p n xs = beside (said (flt n (2 ^ 63))) (lent_at (Array u8 n) p xs)
