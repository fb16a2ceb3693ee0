-- Bytes written inside a block of the module area.
use Rattle.std.specs.Prelude.{◌≡◌, ℕ, List}
use Rattle.rh_defs.specs.Memory.{Memory, OnlyArea}
use Rattle.rh_defs.specs.Blocks.{poked}
use Rattle.rh_module.specs.ModuleArea.{IsModule, module_heap_in}
use Rattle.rh_module.specs.declared.module.Module.{Module}

-- the block at an address has these bytes from an offset on, its other bytes and all other blocks stay, and no page moves
pub record Wrote (m n : Memory) (module_area : Module) (address offset : ℕ) (bytes : List ℕ) : Type 0 where
  pub still : IsModule n module_area
  pub heap : module_heap_in n module_area ≡ poked address offset bytes (module_heap_in m module_area)
  pub only : OnlyArea m n module_area.area.0
  pub free : n.free ≡ m.free
