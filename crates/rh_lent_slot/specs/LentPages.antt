-- The memory of lent bytes whose first pages are an area.
use Rattle.std.specs.Prelude.{ℕ, ◌-◌, ◌*◌, ◌/◌, List, length, take, Some, None}
use Rattle.rh_defs.specs.Memory.{Memory, area_set}
use Rattle.rh_defs.specs.declared.sizes.TheConstants.{PAGE}
use Rattle.rh_lent_slot.specs.declared.pages.LentPages.{LentPages}
use Rattle.rh_lent_slot.specs.declared.pages_mut.LentPagesMut.{LentPagesMut}

-- the bytes of the first n pages
abbrev pub first_pages : ℕ → List ℕ → List ℕ
first_pages n b = take (PAGE * n) b

-- how many whole pages are behind the first n
abbrev pub pages_behind : ℕ → List ℕ → ℕ
pages_behind n b = length b / PAGE - n

-- one area of these bytes, so many pages free of so many, under the name of the loan
unfoldable pub pages_memory_over : List ℕ → ℕ → ℕ → ℕ → Memory
pages_memory_over bs free pages loan =
    record { area = area_set (λ k. None) 0 (Some bs); free = free; pages = pages; loan = loan }

-- the memory of lent bytes: the first n pages are the area, those behind are free
abbrev pub lent_memory_in : List ℕ → ℕ → ℕ → Memory
lent_memory_in b n loan = pages_memory_over (first_pages n b) (pages_behind n b) (length b / PAGE) loan

-- the memory of the bytes as they are now
unfoldable pub lent_pages_memory : LentPagesMut → Memory
lent_pages_memory s = lent_memory_in s.bytes.now s.pages s.bytes.ghost_name

-- the memory of bytes that are lent to be read: no edit needs the loan's name
unfoldable pub pages_memory_shown : LentPages → Memory
pages_memory_shown s = lent_memory_in s.bytes.now s.pages 0
