use Rattle.std.proofs.Common.{refl}
use Rattle.rh_defs.specs.Memory.{fresh}
use Rattle.rh_defs.proofs.MemoryLaws.{pages-fresh}
use Rattle.script_rows.proofs.forms.plain_store.Goals as goal

pub returns-clause-fresh : goal.returns-clause-fresh
unfolding fresh
returns-clause-fresh c = rw c.in_ok-store.ensures refl

pub returns-clause-pages : goal.returns-clause-pages
returns-clause-pages c = rw c.in_ok-store.ensures (pages-fresh c.args.pages)
