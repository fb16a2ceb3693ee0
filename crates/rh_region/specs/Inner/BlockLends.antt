-- What a block ends as, once a `&mut` to some of its bytes has ended.
use Rattle.std.specs.Prelude.{ℕ, List}
use Rattle.std.specs.Borrow.{Fml, MutBor, Array, Lends, u8}
use Rattle.rh_region.specs.Patched.{patched}
use Rattle.rh_region.specs.declared.raw.Block.{Block}
use Rattle.rh_region.specs.contracts.raw.Block.{the_row}

-- the block with ws written to the n bytes from the index `from` on
abbrev pub patched_block : Block → ℕ → ℕ → List ℕ → Block
patched_block b from n ws = record b { bytes = patched b.bytes from n ws }

abbrev pub block_lends_run : MutBor Block → ℕ → ℕ → MutBor (List ℕ) → Fml
block_lends_run b from n r = Lends the_row (Array u8 0) b r (patched_block b.now from n)
