use Rattle.rh_wimp.proofs.Common.{◌≡◌, ◌+◌, ◌≤◌, List, length, most_messages, Parcel, module_heap_in, Chain, first_block}
use Rattle.rh_wimp.proofs.ItemLaws.{Walks}
use Rattle.rh_wimp.proofs.listing.push_chain.Given as goal

-- what is listed and what is left are the whole chain
abbrev pub invariant-loop-turn : goal.invariant-loop-turn
invariant-loop-turn g l =
    (ps : List Parcel) → l.fn.first ≡ first_block ps 0 → Chain (module_heap_in (g.S.Words.memory l.store) l.module_area) ps 0
    → length l.initial.items.items + length ps ≤ most_messages
    → Walks (module_heap_in (g.S.Words.memory l.store) l.module_area) l.block l._turn l.to ps l.initial.items.items l.items.items
