-- What the queue's calls do to the module area's heap.
use Rattle.std.specs.Prelude.{◌≡◌, ℕ, ◌==◌, if◌then◌else◌}
use Rattle.rh_defs.specs.Bytes.{word_bytes}
use Rattle.rh_defs.specs.Memory.{Memory, OnlyArea}
use Rattle.rh_defs.specs.Heap.{Heap}
use Rattle.rh_defs.specs.Blocks.{poked}
use Rattle.rh_module.specs.ModuleArea.{IsModule, module_heap_in}
use Rattle.rh_module.specs.declared.module.Module.{Module}

-- the module area's heap becomes another, and nothing else changes but for the pages that it takes
pub record Turns (m n : Memory) (module_area : Module) (h : Heap) : Type 0 where
  pub still : IsModule n module_area
  pub heap : module_heap_in n module_area ≡ h
  pub only : OnlyArea m n module_area.area.0

-- the link of a block now leads to another, where there is such a block
abbrev pub relinked : ℕ → ℕ → Heap → Heap
relinked last block h = if last == 0 then h else poked last 0 (word_bytes block) h

-- a chain's last block links to another, and no page moves
pub record Relinks (m n : Memory) (module_area : Module) (last block : ℕ) : Type 0 where
  pub still : IsModule n module_area
  pub heap : module_heap_in n module_area ≡ relinked last block (module_heap_in m module_area)
  pub only : OnlyArea m n module_area.area.0
  pub free : n.free ≡ m.free
