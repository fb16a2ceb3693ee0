use Rattle.rh_wimp.proofs.Common.{◌+◌, ◌≤◌, List, length, module_heap_in, SeatRow, RowsLie, waiting_items, most_messages}
use Rattle.rh_wimp.proofs.ItemLaws.{Goes}
use Rattle.rh_wimp.proofs.listing.push_waiting.Given as goal

-- what is listed and what the rows left have are all that waits
abbrev pub invariant-loop-entry : goal.invariant-loop-entry
invariant-loop-entry g l =
    (rows : List SeatRow) → RowsLie (module_heap_in (g.S.Words.memory l.store) l.module_area) l.entries.items rows
    → length l.initial.items.items + length (waiting_items rows) ≤ most_messages
    → Goes waiting_items l.entry-index rows l.initial.items.items l.items.items
