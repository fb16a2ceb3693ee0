use Rattle.std.proofs.Common.{◌≡◌, [], refl, subst, arith}
use Rattle.rh_defs.specs.Files.{FileList}
use Rattle.rh_defs.specs.Memory.{Memory, fresh}
use Rattle.rh_defs.specs.Runs.{start}
use Rattle.rh_store.specs.Plain.{memory_of}
use Rattle.callers.proofs.tasks.start_world.Goals as goal

pub new-requires-3-clause-fresh : goal.new-requires-3-clause-fresh
unfolding fresh
new-requires-3-clause-fresh c = rw c.in_ok-store.ensures refl

pub new-requires-3-clause-least : goal.new-requires-3-clause-least
unfolding fresh
new-requires-3-clause-least c = rw c.in_ok-store.ensures (omega arith)

pub new-requires-3-clause-most : goal.new-requires-3-clause-most
unfolding fresh
new-requires-3-clause-most c = rw c.in_ok-store.ensures (omega arith)

pub returns : goal.returns
unfolding fresh
returns c =
    subst (λ (m : Memory). c.new-3.result.desk ≡ start m.pages []) c.in_ok-store.ensures
    (subst (λ (files : FileList). c.new-3.result.desk ≡ start (memory_of c.in_ok-store.store).pages files) c.new-2.ensures c.new-3.ensures)
