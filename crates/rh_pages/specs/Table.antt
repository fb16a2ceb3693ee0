-- The lists of a page table, over the row that their numbers stand in.
use Rattle.std.specs.Prelude.{ℕ, List, [], ◌∷◌, take, drop}
use Rattle.rh_pages.specs.declared.table.PageTable.{PageTable}

-- the first so many numbers of each section of a row
abbrev pub table_rows : List ℕ → ℕ → List ℕ → List (List ℕ)
table_rows numbers room [] = []
table_rows numbers room (n ∷ lengths) = take n numbers ∷ table_rows (drop room numbers) room lengths

-- all lists of a table
unfoldable pub lists_of : List ℕ → PageTable → List (List ℕ)
lists_of numbers table = table_rows numbers table.room table.lengths
