-- What a region ends as, once a `&mut` to some of its bytes has ended.
use Rattle.std.specs.Prelude.{ℕ, List}
use Rattle.std.specs.Borrow.{Fml, MutBor, Array, Lends, u8}
use Rattle.rh_region.specs.Patched.{patched}
use Rattle.rh_region.specs.contracts.Region.{the_row}

abbrev pub lends_run : MutBor (List ℕ) → ℕ → ℕ → MutBor (List ℕ) → Fml
lends_run r from n b = Lends the_row (Array u8 0) r b (patched r.now from n)
