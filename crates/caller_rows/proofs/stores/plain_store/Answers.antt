use Rattle.std.proofs.Common.{refl, arith}
use Rattle.rh_defs.specs.Memory.{fresh}
use Rattle.rh_defs.proofs.MemoryLaws.{open_below-fresh, pages-fresh}
use Rattle.caller_rows.proofs.stores.plain_store.Goals as goal

pub returns-clause-areas : goal.returns-clause-areas
returns-clause-areas c = rw c.in_ok-store.ensures (omega (arith, open_below-fresh 8 70))

pub returns-clause-fresh : goal.returns-clause-fresh
unfolding fresh
returns-clause-fresh c = rw c.in_ok-store.ensures refl

pub returns-clause-pages : goal.returns-clause-pages
returns-clause-pages c = rw c.in_ok-store.ensures (pages-fresh 8)
