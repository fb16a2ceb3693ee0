use Rattle.rh_wimp.proofs.Common.{◌≡◌, ◌≤◌, List, length, most_messages, Parcel, module_heap_in, Chain, first_block, wants}
use Rattle.rh_wimp.proofs.SearchLaws.{Ahead}
use Rattle.rh_wimp.proofs.searching.chain_has.Given as goal

-- what is left of the chain has the answer
abbrev pub invariant-loop-turn : goal.invariant-loop-turn
invariant-loop-turn g l =
    (ps : List Parcel) → l.fn.first ≡ first_block ps 0 → Chain (module_heap_in (g.S.Words.memory l.store) l.module_area) ps 0 → length ps ≤ most_messages
    → Ahead (module_heap_in (g.S.Words.memory l.store) l.module_area) l.block l._turn (wants l.wanted) ps
