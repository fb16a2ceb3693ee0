-- How a held message is put down.
use Rattle.std.specs.Prelude.{◌≡◌, ℕ, Bool, true, false, List, Option, set}
use Rattle.rh_defs.specs.Memory.{Memory}
use Rattle.rh_defs.specs.Heap.{release_block}
use Rattle.rh_defs.specs.Messages.{Parcel}
use Rattle.rh_defs.specs.Post.{answers_held}
use Rattle.rh_module.specs.ModuleArea.{module_heap_in}
use Rattle.rh_module.specs.declared.module.Module.{Module}
use Rattle.rh_wimp.specs.Chains.{entry_at, emptied}
use Rattle.rh_wimp.specs.declared.chain.Entry.{Entry}
use Rattle.rh_wimp.specs.Moves.{Turns}

-- what a task holds is put down where the test says so, and how many messages that were
abbrev pub PutsDown : Bool → Memory → Memory → Module → List Entry → List Entry → ℕ → ℕ → Type 0
PutsDown true m n module_area es new i freed =
    (freed ≡ 1) × (new ≡ set es i (emptied (entry_at es i))) × Turns m n module_area (release_block (entry_at es i).held (module_heap_in m module_area))
PutsDown false m n module_area es new i freed = (freed ≡ 0) × (new ≡ es) × (n ≡ m)

-- what a task holds is put down where a letter that answers this ref was sent, and how many messages that were
abbrev pub Settled : Memory → Memory → Module → List Entry → List Entry → ℕ → ℕ → Option Parcel → ℕ → Type 0
Settled m n module_area es new i your_ref held freed = PutsDown (answers_held your_ref held) m n module_area es new i freed
