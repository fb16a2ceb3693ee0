use Rattle.rh_defs.proofs.HeapLaws.{heap_of-Spells}
use Rattle.rh_defs.proofs.SlotImageLaws.{slot_of-SpellsSlot}
use Rattle.rh_defs.proofs.laws.image_law.Goals as goal

pub returns-clause-heap : goal.returns-clause-heap
returns-clause-heap c = heap_of-Spells

pub returns-clause-slot : goal.returns-clause-slot
returns-clause-slot c = slot_of-SpellsSlot
