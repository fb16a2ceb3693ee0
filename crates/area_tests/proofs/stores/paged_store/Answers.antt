use Rattle.std.proofs.Common.{arith}
use Rattle.rh_defs.proofs.MemoryLaws.{open_below-fresh}
use Rattle.area_tests.proofs.stores.paged_store.Goals as goal

pub returns : goal.returns
returns c = rw c.in_ok-store.ensures (omega (arith, open_below-fresh 64 70))
