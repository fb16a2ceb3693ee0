-- The memory of lent bytes.
use Rattle.std.specs.Prelude.{ℕ, List, Some, None}
use Rattle.rh_defs.specs.Memory.{Memory, area_set}
use Rattle.rh_lent_heap.specs.declared.lent.Lent.{Lent}
use Rattle.rh_lent_heap.specs.declared.lent_mut.LentMut.{LentMut}

-- one area of these bytes, under the name of the loan
unfoldable pub memory_over : List ℕ → ℕ → Memory
memory_over bs loan = record { area = area_set (λ k. None) 0 (Some bs); free = 0; pages = 0; loan = loan }

-- the memory of the bytes as they are now
unfoldable pub lent_memory : LentMut → Memory
lent_memory s = memory_over s.bytes.now s.bytes.ghost_name

-- the memory of bytes that are lent to be read: no edit needs the loan's name
unfoldable pub memory_shown : Lent → Memory
memory_shown s = memory_over s.bytes.now 0
