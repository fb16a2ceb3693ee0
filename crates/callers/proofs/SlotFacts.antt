-- What the definitions answer for a slot with one flex block.
use Rattle.std.proofs.Common.{◌≡◌, ℕ, ◌+◌, ◌-◌, ◌*◌, ◌<◌, ◌≤◌, Bool, true, false, List, [], length, take, drop, refl, sym, ap, subst, ◌∙◌, arith, ltb}
use Rattle.std.specs.Prelude.{Ok, Err, Option, Some, None, IsNone, IsOk, nat_lt}
use Rattle.std.proofs.Math.ListN.{drop_of_length-le}
use Rattle.std.proofs.Math.Seq.{take-length}
use Rattle.std.proofs.lemmas.Bool.{le-ltb, ltb-true, ltb-false}
use Rattle.std.proofs.lemmas.List.{length-replicate, append-nil}
use Rattle.rh_defs.specs.Chain.{Granted, ◌>>=◌, refuse_if, found_or, answer_of, left_of, no_answer, outcome_of, result_or}
use Rattle.rh_defs.specs.Memory.{Memory, OnlyArea, bytes}
use Rattle.rh_defs.specs.Pieces.{Split, pages_for, zeros}
use Rattle.rh_defs.specs.Slot.{Slot, Flex, new_slot, with_block, without, block_of, lacks_room, slot_length, slot_pages, flex_weight, flex_address}
use Rattle.rh_defs.specs.Slot.{slot_begin, slot_alloc, slot_block, slot_put, slot_read, slot_free}
use Rattle.rh_defs.specs.declared.refusal.Refusal.{Refusal}
use Rattle.rh_defs.specs.declared.refusal.Refusal.TheVariants.{NoBlock, NoRoom, BadRange}
use Rattle.rh_defs.proofs.HeapLists.{ltb_yes, ltb_no}
use Rattle.rh_defs.proofs.MemoryLaws.{bytes-none}
use Rattle.rh_defs.proofs.SlotRooms.{length-with_block}
use Rattle.rh_slot.specs.SlotArea.{SpellsSlotIn}
use Rattle.rh_slot.specs.declared.slot.Slot as slots
use Rattle.rh_store.proofs.AreasLaws.{none_is}

-- ---- the pages of a slot with one block
-- a slot with one block is refused where fewer pages are free than it has
abbrev pub held : ℕ → List ℕ → Granted (Unit {0})
held free bytes = refuse_if (nat_lt free (slot_pages (with_block 0 bytes new_slot))) NoRoom

-- one page is there already, and the block takes the others
more : (bytes : List ℕ) → slot_pages (with_block 0 bytes new_slot) ≡ pages_for (slot_length new_slot + flex_weight (length bytes))
more bytes = ap pages_for (length-with_block 0 bytes new_slot)

one : slot_pages new_slot ≡ 1
one = refl

held-refused : (free : ℕ) (bytes : List ℕ) → free < slot_pages (with_block 0 bytes new_slot) → held free bytes ≡ Err NoRoom
unfolding refuse_if
held-refused free bytes few = rw (ltb_yes free (slot_pages (with_block 0 bytes new_slot)) few) refl

held-granted : (free : ℕ) (bytes : List ℕ) → slot_pages (with_block 0 bytes new_slot) ≤ free → held free bytes ≡ Ok tt
unfolding refuse_if
held-granted free bytes room = rw (ltb_no free (slot_pages (with_block 0 bytes new_slot)) room) refl

-- the page that a new slot has was free
pub one_less : (m n : Memory) (slot : slots.Slot) → IsNone (m.area slot.area.0) → OnlyArea m n slot.area.0 → SpellsSlotIn n slot new_slot → n.free + 1 ≡ m.free
one_less m n slot none only spells =
    let was : length (bytes m slot.area.0) ≡ 0 = ap length (bytes-none m slot.area.0 (none_is (m.area slot.area.0) none)) in
    let is : length (bytes n slot.area.0) ≡ 4096 * slot_pages new_slot = spells.pages in
    let sum = only.ledger in
    omega (arith, one)

-- ---- a new slot
begun : (t : Bool) (refusal : Refusal) → ◌≡◌ {A = Granted (Unit {0})} (Err refusal) (outcome_of (refuse_if t NoRoom >>= λ _. Ok new_slot))
    → (t ≡ true) × (refusal ≡ NoRoom)
unfolding ◌>>=◌ refuse_if
begun true refusal e = (refl, cc)
begun false refusal e = absurd cc

pub begin_refused : (free : ℕ) (bytes : List ℕ) (refusal : Refusal) → ◌≡◌ {A = Granted (Unit {0})} (Err refusal) (outcome_of (slot_begin free))
    → held free bytes ≡ Err refusal
unfolding slot_begin
begin_refused free bytes refusal e =
    let p = begun (ltb free (slot_pages new_slot)) refusal e in
    let few : free < slot_pages new_slot = ltb-true free (slot_pages new_slot) p.0 in
    held-refused free bytes (omega (arith, one, more bytes)) ∙ ap (λ (x : Refusal). let r : Granted (Unit {0}) = Err x in r) (sym p.1)

-- ---- its first block
given : (t : Bool) (s k : Slot) (a x : ℕ) → ◌≡◌ {A = Granted ℕ} (Ok x) (answer_of (refuse_if t NoRoom >>= λ _. Ok (s, a)))
    → (t ≡ false) × (left_of k (refuse_if t NoRoom >>= λ _. Ok (s, a)) ≡ s)
unfolding ◌>>=◌ refuse_if
given true s k a x e = absurd cc
given false s k a x e = (refl, refl)

not_given : (t : Bool) (s : Slot) (a : ℕ) (refusal : Refusal) → ◌≡◌ {A = Granted ℕ} (Err refusal) (answer_of (refuse_if t NoRoom >>= λ _. Ok (s, a)))
    → (t ≡ true) × (refusal ≡ NoRoom)
unfolding ◌>>=◌ refuse_if
not_given true s a refusal e = (refl, cc)
not_given false s a refusal e = absurd cc

-- a block that a new slot is given is of zeros
pub alloc_new : (free n x : ℕ) → ◌≡◌ {A = Granted ℕ} (Ok x) (answer_of (slot_alloc free 0 n new_slot))
    → left_of new_slot (slot_alloc free 0 n new_slot) ≡ with_block 0 (zeros n) new_slot
unfolding slot_alloc ◌>>=◌ refuse_if
alloc_new free n x e =
    (given (lacks_room free (slot_length new_slot + flex_weight n) new_slot) (with_block 0 (zeros n) new_slot) new_slot (flex_address new_slot []) x e).1

-- it is given where the other pages are free
pub alloc_room : (free n x : ℕ) → ◌≡◌ {A = Granted ℕ} (Ok x) (answer_of (slot_alloc free 0 n new_slot))
    → pages_for (slot_length new_slot + flex_weight n) - slot_pages new_slot ≤ free
unfolding slot_alloc ◌>>=◌ refuse_if
alloc_room free n x e =
    let p = given (lacks_room free (slot_length new_slot + flex_weight n) new_slot) (with_block 0 (zeros n) new_slot) new_slot (flex_address new_slot []) x e in
    ltb-false free (pages_for (slot_length new_slot + flex_weight n) - slot_pages new_slot) p.0

-- a new slot has no block yet, and may only lack room for one
pub alloc_refused : (free n : ℕ) (refusal : Refusal) → ◌≡◌ {A = Granted ℕ} (Err refusal) (answer_of (slot_alloc free 0 n new_slot))
    → (free < pages_for (slot_length new_slot + flex_weight n) - slot_pages new_slot) × (refusal ≡ NoRoom)
unfolding slot_alloc ◌>>=◌ refuse_if
alloc_refused free n refusal e =
    let p = not_given (lacks_room free (slot_length new_slot + flex_weight n) new_slot) (with_block 0 (zeros n) new_slot) (flex_address new_slot []) refusal
    e in
    (ltb-true free (pages_for (slot_length new_slot + flex_weight n) - slot_pages new_slot) p.0, p.1)

-- ---- bytes in it
fits : (n : ℕ) (bytes : List ℕ) → n ≡ length bytes → ltb (length (zeros n)) (0 + length bytes) ≡ false
fits n bytes e = le-ltb (length (zeros n)) (0 + length bytes) (omega (arith, length-replicate {A = ℕ} n 0))

rest : (n : ℕ) (bytes : List ℕ) → n ≡ length bytes → drop (0 + length bytes) (zeros n) ≡ []
rest n bytes e = drop_of_length-le (zeros n) (omega (arith, length-replicate {A = ℕ} n 0))

-- bytes as many as the block's are then all that it has
pub put_whole : (n : ℕ) (bytes : List ℕ) → n ≡ length bytes → slot_put 0 0 bytes (with_block 0 (zeros n) new_slot) ≡ Ok (with_block 0 bytes new_slot)
unfolding slot_put slot_block found_or ◌>>=◌ refuse_if
put_whole n bytes e = rw (fits n bytes e, rest n bytes e, append-nil bytes) refl

enough : (n : ℕ) (bytes : List ℕ) → n ≡ length bytes → ltb (length bytes) (0 + n) ≡ false
enough n bytes e = le-ltb (length bytes) (0 + n) (omega arith)

-- all of its bytes are read
pub read_whole : (n : ℕ) (bytes : List ℕ) → n ≡ length bytes → slot_read 0 0 n (with_block 0 bytes new_slot) ≡ Ok bytes
unfolding slot_read slot_block found_or ◌>>=◌ refuse_if
read_whole n bytes e = rw (enough n bytes e, e, take-length bytes) refl

-- and it goes
pub free_whole : (bytes : List ℕ) → slot_free 0 (with_block 0 bytes new_slot) ≡ Ok new_slot
unfolding slot_free slot_block found_or ◌>>=◌
free_whole bytes = refl

-- a block that was read is there, and goes
there : (n : ℕ) (s : Slot) (q : Option (Split Flex)) → ◌≡◌ {A = Granted (Unit {0})} (Ok tt)
    (outcome_of (found_or q NoBlock >>= λ b. refuse_if (ltb (length b.here.bytes) (0 + n)) BadRange >>= λ _. Ok (take n (drop 0 b.here.bytes))))
    → IsOk (answer_of (no_answer (found_or q NoBlock >>= λ b. Ok (without b s))))
unfolding found_or ◌>>=◌
there n s None e = absurd cc
there n s (Some b) e = refl

pub free_after_read : (n : ℕ) (s : Slot) → ◌≡◌ {A = Granted (Unit {0})} (Ok tt) (outcome_of (slot_read 0 0 n s)) → IsOk (answer_of (no_answer (slot_free 0 s)))
unfolding slot_read slot_free slot_block
free_after_read n s e = there n s (block_of 0 s) e

-- ---- one call after the other
-- what the put after an allocation leaves
pub put_after : (free n x : ℕ) (bytes : List ℕ) (s k : Slot) → s ≡ new_slot → ◌≡◌ {A = Granted ℕ} (Ok x) (answer_of (slot_alloc free 0 n s))
    → k ≡ left_of s (slot_alloc free 0 n s) → n ≡ length bytes → slot_put 0 0 bytes k ≡ Ok (with_block 0 bytes new_slot)
put_after free n x bytes s k new e is many =
    let first : k ≡ with_block 0 (zeros n) new_slot =
    subst (λ (y : Slot). ◌≡◌ {A = Granted ℕ} (Ok x) (answer_of (slot_alloc free 0 n y)) → k ≡ left_of y (slot_alloc free 0 n y)
    → k ≡ with_block 0 (zeros n) new_slot) (sym new) (λ f i. i ∙ alloc_new free n x f) e is in
    subst (λ (y : Slot). slot_put 0 0 bytes y ≡ Ok (with_block 0 bytes new_slot)) (sym first) (put_whole n bytes many)

-- the slot is there just where its pages were free before it was started
pub held_after : (all free n x : ℕ) (bytes : List ℕ) (s : Slot) → s ≡ new_slot → free + 1 ≡ all → n ≡ length bytes
    → ◌≡◌ {A = Granted ℕ} (Ok x) (answer_of (slot_alloc free 0 n s)) → held all bytes ≡ Ok tt
held_after all free n x bytes s new less many e =
    let room = alloc_room free n x (subst (λ (y : Slot). ◌≡◌ {A = Granted ℕ} (Ok x) (answer_of (slot_alloc free 0 n y))) new e) in
    let same : slot_pages (with_block 0 bytes new_slot) ≡ pages_for (slot_length new_slot + flex_weight n) =
    more bytes ∙ ap (λ (i : ℕ). pages_for (slot_length new_slot + flex_weight i)) (sym many) in
    held-granted all bytes (omega (arith, one))

pub refused_after : (all free n : ℕ) (refusal : Refusal) (bytes : List ℕ) (s : Slot) → s ≡ new_slot → free + 1 ≡ all → n ≡ length bytes
    → ◌≡◌ {A = Granted ℕ} (Err refusal) (answer_of (slot_alloc free 0 n s)) → held all bytes ≡ Err refusal
refused_after all free n refusal bytes s new less many e =
    let p = alloc_refused free n refusal (subst (λ (y : Slot). ◌≡◌ {A = Granted ℕ} (Err refusal) (answer_of (slot_alloc free 0 n y))) new e) in
    let few = p.0 in
    let same : slot_pages (with_block 0 bytes new_slot) ≡ pages_for (slot_length new_slot + flex_weight n) =
    more bytes ∙ ap (λ (i : ℕ). pages_for (slot_length new_slot + flex_weight i)) (sym many) in
    held-refused all bytes (omega (arith, one)) ∙ ap (λ (y : Refusal). let r : Granted (Unit {0}) = Err y in r) (sym p.1)

-- what is read of the one block, and what is left where it goes
pub read_after : (n : ℕ) (bytes : List ℕ) (s : Slot) → s ≡ with_block 0 bytes new_slot → n ≡ length bytes → slot_read 0 0 n s ≡ Ok bytes
read_after n bytes s is many = subst (λ (y : Slot). slot_read 0 0 n y ≡ Ok bytes) (sym is) (read_whole n bytes many)

pub free_after : (bytes : List ℕ) (s : Slot) → s ≡ with_block 0 bytes new_slot → slot_free 0 s ≡ Ok new_slot
free_after bytes s is = subst (λ (y : Slot). slot_free 0 y ≡ Ok new_slot) (sym is) (free_whole bytes)

-- a granted free leaves what it gives, and a refused one what there was
pub freed_by : (s k : Slot) (q : Granted Slot) → k ≡ left_of s (no_answer q) → k ≡ result_or s q
freed_by s k (Ok l) e = e
freed_by s k (Err refusal) e = e

-- the slot that a call leaves, where the definitions grant it
pub left_by : (s k l : Slot) (q : Granted Slot) → k ≡ left_of s (no_answer q) → q ≡ Ok l → k ≡ l
left_by s k l q e is = e ∙ ap (λ (x : Granted Slot). left_of s (no_answer x)) is
