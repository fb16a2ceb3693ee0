-- Worked descriptions of heaps, and changed definitions of which the law doesn't hold.
use Rattle.rh_laws.proofs.Common.{◌≡◌, refl, ℕ, ◌+◌, ◌-◌, true, false, nat_le, ◌==◌, max, if◌then◌else◌, [], ◌∷◌, codes, None, Result, Ok, Err, is_ok, total}
use Rattle.rh_laws.proofs.Common.{zeros, Heap, Used, Hole, base, block_room, first_place, free_bytes, hole_size, largest, largest_hole, placed_in}
use Rattle.rh_laws.proofs.Common.{segment_size, Desk, after, fresh, script}
use Rattle.rh_defs.specs.declared.heap.HeapRefusal.{HeapRefusal}
use Rattle.rh_defs.specs.declared.heap.HeapRefusal.TheVariants.{BadSize, NoRoom}
use Rattle.rh_defs.specs.declared.question.Numbers.TheVariants as numbers
use Rattle.rh_defs.specs.declared.reply.Reply.TheVariants as reply
use Rattle.rh_defs.specs.Heap.{as_granted, claim_block}
use Rattle.rh_defs.specs.Inner.Computing.{computing_script}
use Rattle.rh_laws.specs.HonestHeaps.{claim_answer, described, is_granted_within, used_bytes}

-- ---- a heap of 56 bytes: blocks of 12 and 4 bytes with a hole of 8 between them, and a top of 8

abbrev small : Heap
small = record { segments = Used (zeros 12) ∷ Hole 8 ∷ Used (zeros 4) ∷ []; end = 56 }

small_claims : (largest small ≡ 4)
    × (free_bytes small ≡ 16)
    × (first_place + used_bytes small + free_bytes small ≡ 56)
    × (is_ok (claim_block 0 small) ≡ false)
    × (is_ok (claim_block 1 small) ≡ true)
    × (is_ok (claim_block 4 small) ≡ true)
    × (claim_block 5 small ≡ Err NoRoom)
small_claims = (refl, refl, refl, refl, refl, refl, refl)

-- ---- a task's heap

abbrev claims : Desk
claims = after fresh (script ("task a 100" ∷ "claim a 10" ∷ "claim a 10" ∷ "claim a 10"
    ∷ "release a &8124" ∷ "claim a 12" ∷ "claim a 13" ∷ []))

-- the largest claim is granted in the heap as it is, and one byte more makes it longer
task_claims : (described claims (codes "a") ≡ reply.Answered (numbers.HeapSums 3840 3748 3752))
    × (is_granted_within 3840 claims (codes "a") 0 ≡ false)
    × (is_granted_within 3840 claims (codes "a") 1 ≡ true)
    × (is_granted_within 3840 claims (codes "a") 3748 ≡ true)
    × (is_granted_within 3840 claims (codes "a") 3749 ≡ false)
    × (described (claim_answer claims (codes "a") 3748).0 (codes "a") ≡ reply.Answered (numbers.HeapSums 3840 0 0))
    × (is_granted_within 7936 claims (codes "a") 3749 ≡ true)
unfolding computing_script
task_claims = (refl, refl, refl, refl, refl, refl, refl)

-- ---- changed definitions

-- a largest block that keeps its size word
abbrev largest_segment : Heap → ℕ
largest_segment h = max (largest_hole h.segments) (h.end - base h)

wrong_largest : (largest_segment small ≡ 8) × (claim_block 8 small ≡ Err NoRoom)
wrong_largest = (refl, refl)

-- free bytes that leave out the top
abbrev hole_bytes : Heap → ℕ
hole_bytes h = total hole_size h.segments

wrong_total : (first_place + used_bytes small + hole_bytes small ≡ 48) × (small.end ≡ 56)
wrong_total = (refl, refl)

-- a claim that passes over holes
abbrev claim_on_top : ℕ → Heap → Result (Heap × ℕ) HeapRefusal
claim_on_top n h =
    if n == 0 then Err BadSize
    else if nat_le (base h + segment_size n) h.end then Ok (as_granted (placed_in (zeros (block_room n)) h None))
    else Err NoRoom

-- a hole of 32 bytes below a block, and no top
abbrev full : Heap
full = record { segments = Hole 32 ∷ Used (zeros 4) ∷ []; end = 56 }

wrong_claim : (largest full ≡ 28) × (is_ok (claim_block 28 full) ≡ true) × (is_ok (claim_on_top 28 full) ≡ false)
wrong_claim = (refl, refl, refl)
