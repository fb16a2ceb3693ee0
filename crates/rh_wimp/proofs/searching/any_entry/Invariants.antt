use Rattle.rh_wimp.proofs.Common.{◌≡◌, ℕ, ◌<◌, false, List, list_any, module_heap_in, SeatRow, RowsLie, row_at, row_parcels, wants}
use Rattle.rh_wimp.specs.Inner.Searches.{AreShortChains}
use Rattle.rh_wimp.proofs.searching.any_entry.Given as goal

-- no message of the rows before is the one
abbrev pub invariant-loop-entry : goal.invariant-loop-entry
invariant-loop-entry g l =
    (rows : List SeatRow) → RowsLie (module_heap_in (g.S.Words.memory l.store) l.module_area) l.entries.items rows → AreShortChains rows
    → (j : ℕ) → j < l.entry-index → list_any (wants l.wanted) (row_parcels (row_at rows j)) ≡ false
