use Rattle.std.proofs.Common.{refl}
use Rattle.callers.proofs.BlockFacts.{free-done, free-frees, free-left}
use Rattle.callers.proofs.module.give_bytes.Goals as goal

pub unwrap-requires : goal.unwrap-requires
unwrap-requires g c = rw (c.free.ensures.answer, free-done _ _ _ c.requires.block) refl

pub returns-clause-heap : goal.returns-clause-heap
returns-clause-heap g c = free-left _ _ _ _ c.requires.block c.free.ensures.heap

pub returns-clause-freed : goal.returns-clause-freed
returns-clause-freed g c = free-frees _ _ _ _ c.requires.block c.free.ensures.heap
