-- The module area's heap in its area. (RISC OS calls the module area the RMA.)
use Rattle.rh_defs.specs.Memory.{Memory, IsOpen, bytes}
use Rattle.rh_defs.specs.Heap.{Heap}
use Rattle.rh_defs.specs.HeapImage.{IsImage, heap_of}
use Rattle.rh_module.specs.declared.module.Module.{Module}

-- the heap that the area's bytes spell
abbrev pub module_heap_in : Memory → Module → Heap
module_heap_in m module_area = heap_of (bytes m module_area.area.0) 0

-- the area's bytes, to their end, spell this heap
abbrev pub SpellsModuleIn : Memory → Module → Heap → Type 0
SpellsModuleIn m module_area h = IsImage (bytes m module_area.area.0) h

-- the area is open, and its bytes spell a heap
pub record IsModule (m : Memory) (module_area : Module) : Type 0 where
  pub opened : IsOpen m module_area.area.0
  pub spells : SpellsModuleIn m module_area (module_heap_in m module_area)
