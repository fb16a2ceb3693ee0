-- What a call leaves of the module area.
use Rattle.std.specs.Prelude.{◌≡◌, OnErr}
use Rattle.rh_defs.specs.Memory.{Memory, OnlyArea}
use Rattle.rh_defs.specs.Chain.{Granted, answer_of, left_of}
use Rattle.rh_defs.specs.Heap.{Heap}
use Rattle.rh_module.specs.declared.module.Module.{Module}
use Rattle.rh_module.specs.ModuleArea.{IsModule, SpellsModuleIn, module_heap_in}

-- A call on the module area is granted this: it answers so, the area's bytes spell the heap that is granted, no other area has changed, and where it is refused nothing at all.
pub record LeavesModule {A : Type 0} (m n : Memory) (module_area : Module) (granted : Granted (Heap × A)) (result : Granted A) : Type 0 where
  pub answer : result ≡ answer_of granted
  pub heap : module_heap_in n module_area ≡ left_of (module_heap_in m module_area) granted
  pub spells : SpellsModuleIn n module_area (left_of (module_heap_in m module_area) granted)
  pub still : IsModule n module_area
  pub only : OnlyArea m n module_area.area.0
  pub err : OnErr result (n ≡ m)
