-- The areas of a store when a desk begins.
use Rattle.std.specs.Prelude.{◌≡◌, ℕ, ◌+◌}
use Rattle.std.specs.List.{AllByRecursion}
use Rattle.rh_defs.specs.Memory.{Memory, IsOpen, open_below}
use Rattle.rh_defs.specs.Heap.{empty_heap}
use Rattle.rh_defs.specs.Pieces.{page_size}
use Rattle.rh_defs.specs.declared.sizes.TheConstants.{FIXED_AREAS, MAX_AREAS}
use Rattle.rh_module.specs.ModuleArea.{IsModule, module_heap_in}
use Rattle.rh_tasks.specs.View.{the_module, fixed, pages_at}

-- areas 0 to 5 are open alone, and have no page but area 1, which is an empty heap of one page
pub record IsFurnished (m : Memory) (pages : ℕ) : Type 0 where
  pub opened : AllByRecursion (IsOpen m) fixed
  pub count : open_below m.area MAX_AREAS ≡ FIXED_AREAS
  pub module_area : IsModule m the_module
  pub heap : module_heap_in m the_module ≡ empty_heap page_size
  pub zero : pages_at m 0 ≡ 0
  pub two : pages_at m 2 ≡ 0
  pub three : pages_at m 3 ≡ 0
  pub four : pages_at m 4 ≡ 0
  pub five : pages_at m 5 ≡ 0
  pub free : m.free + 1 ≡ pages
  pub pages_are : m.pages ≡ pages
