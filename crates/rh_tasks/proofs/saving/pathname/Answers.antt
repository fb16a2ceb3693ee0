use Rattle.rh_tasks.proofs.Saves.{leaf-pathname}
use Rattle.rh_tasks.proofs.saving.pathname.Goals as goal

pub unwrap-requires : goal.unwrap-requires
unwrap-requires c = c.new.ensures.found.1 (rw (c.as_slice.ensures.value) (leaf-pathname c.args.leaf.now c.requires))
