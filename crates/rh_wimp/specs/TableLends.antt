-- What a table ends as, where a `&mut` to one of its elements is returned.
use Rattle.std.specs.Prelude.{ℕ}
use Rattle.std.specs.Borrow.{Lends, Fml, RattleType, MutBor}
use Rattle.arrayvec.specs.ArrayVec.{ArrayVec, with_item}
use Rattle.rh_wimp.specs.contracts.table.Table.{the_row}

-- once the borrow r ends, the index has the last value written through r
abbrev pub lends_item : (T CAP : RattleType) → MutBor (ArrayVec T.Denot) → ℕ → MutBor T.Denot → Fml
lends_item T CAP t i r = Lends (the_row T CAP) T t r (with_item t.now i)
