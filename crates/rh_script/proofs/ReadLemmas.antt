-- What a desk's readers give, in terms of what is printed of a named task's slot.
use Rattle.rh_script.proofs.Common.{◌≡◌, ℕ, ◌+◌, ◌≤◌, ◌<◌, ◌^◌, Bool, true, false, cond, List, [], ◌∷◌, length, take, drop, Option, Some, None, Result, Ok}
use Rattle.rh_script.proofs.Common.{Err, refl, sym, ap, ◌∙◌, arith, MatchResult, IfOk, IfErr, nat_lt, ◌==◌, find, option_map, tests, SegmentItem}
use Rattle.rh_script.proofs.Common.{segment_items_at, heap_of_named, bytes_of_named}
use Rattle.std.specs.Prelude.{not}
use Rattle.std.specs.List.{AllByRecursion}
use Rattle.rh_defs.specs.declared.refusal.Refusal.{Refusal}
use Rattle.rh_defs.specs.declared.refusal.Refusal.TheVariants.{NoName, NoBlock, BadRange}
use Rattle.rh_defs.specs.declared.question.Numbers.TheVariants as numbers
use Rattle.rh_defs.specs.declared.transfer.Outgoing.{Outgoing}
use Rattle.rh_defs.specs.declared.transfer.Incoming.{Incoming}
use Rattle.rh_defs.specs.Chain.{Granted, ◌>>=◌, ◌>>◌, refuse_if, found_or}
use Rattle.rh_defs.specs.Pieces.{Split, behind, first_at, total}
use Rattle.rh_defs.specs.Laws.{IsDesk}
use Rattle.rh_defs.specs.Slot.{Slot, Flex, holds, slot_pages, slot_length, IsSlot, HaveAnchors, weight, flex_start, block_of, slot_block, anchor_count}
use Rattle.rh_defs.specs.Desk.{Desk, Task, task_pages, has_name, named}
use Rattle.rh_defs.specs.Places.{bytes_held}
use Rattle.rh_defs.specs.Questions.{Bytes, read, shown_at, status_at, Told, show}
use Rattle.rh_tasks.specs.Sights.{bytes_read, size_read as size_held}
use Rattle.rh_tasks.specs.WorldLists.{segments_of}
use Rattle.rh_script.specs.NamedSlots.{slot_or_empty, slot_named, bytes_of_cut, bytes_named_at}

-- ---- the C heap

given_segments : (found : Option Task) (place : ℕ) (items : List SegmentItem)
    → (found_or found NoName >>= (λ t. (let r : Granted (List SegmentItem) = Ok (segment_items_at place t.slot.heap) in r))) ≡ Ok items
    → items ≡ segment_items_at place (slot_or_empty found).heap
unfolding found_or ◌>>=◌
given_segments None place items e = absurd (cc)
given_segments (Some t) place items e = cc

refused_segments : (found : Option Task) (place : ℕ) (f : Refusal) → (found_or found NoName
    >>= (λ t. (let r : Granted (List SegmentItem) = Ok (segment_items_at place t.slot.heap) in r))) ≡ Err f → [] ≡ segment_items_at place (slot_or_empty
    found).heap
unfolding found_or ◌>>=◌
refused_segments None place f e = refl
refused_segments (Some t) place f e = absurd (cc)

pub segments_read : (d : Desk) (name : List ℕ) (place : ℕ) (items : List SegmentItem) → segments_of d name place ≡ Ok items
    → items ≡ segment_items_at place (heap_of_named name d)
unfolding segments_of named
segments_read d name place items e = given_segments (find (has_name name) d.tasks) place items e

pub no_segments : (d : Desk) (name : List ℕ) (place : ℕ) (f : Refusal) → segments_of d name place ≡ Err f → [] ≡ segment_items_at place (heap_of_named name d)
unfolding segments_of named
no_segments d name place f e = refused_segments (find (has_name name) d.tasks) place f e

-- ---- what holds of the slot

empty_is_slot : IsSlot (slot_or_empty None)
empty_is_slot = record { heap = record { tidy = tt; fits = omega arith; multiple = refl }; anchors = tt }

found_is_slot : (p : Task → Bool) (tasks : List Task) → AllByRecursion (λ t. IsSlot t.slot) tasks → IsSlot (slot_or_empty (find p tasks))
found_is_slot p [] all = empty_is_slot
found_is_slot p (t ∷ tasks) all = go (p t) (found_is_slot p tasks all.1)
  where
    go : (b : Bool) → IsSlot (slot_or_empty (find p tasks)) → IsSlot (slot_or_empty (cond b (Some t) (find p tasks)))
    go true rest = all.0
    go false rest = rest

pub named_is_slot : (name : List ℕ) (d : Desk) → AllByRecursion (λ t. IsSlot t.slot) d.tasks → IsSlot (slot_or_empty (find (has_name name) d.tasks))
named_is_slot name d all = found_is_slot (has_name name) d.tasks all

found_pages : (p : Task → Bool) (tasks : List Task) → slot_pages (slot_or_empty (find p tasks)) ≤ total task_pages tasks + 1
found_pages p [] = omega arith
found_pages p (t ∷ tasks) = go (p t) (found_pages p tasks)
  where
    go : (b : Bool) → slot_pages (slot_or_empty (find p tasks)) ≤ total task_pages tasks + 1
        → slot_pages (slot_or_empty (cond b (Some t) (find p tasks))) ≤ task_pages t + total task_pages tasks + 1
    go true rest = omega arith
    go false rest = omega (arith, rest)

-- no slot is longer than the pool
pub named_is_short : (name : List ℕ) (d : Desk) → IsDesk d → slot_length (slot_named name d) < 2 ^ 23
named_is_short name d is = omega (arith, found_pages (has_name name) d.tasks, is.pages, is.pool)

-- ---- a block's bytes

-- what is read of some bytes: their number and a part of them, or a refusal where the part isn't within them
abbrev pub ReadsPart : Granted (ℕ × List ℕ) → List ℕ → ℕ → ℕ → Type 0
ReadsPart given bytes offset n =
    MatchResult given (λ p. (p.0 ≡ length bytes) × (p.1 ≡ take n (drop offset bytes))) (λ e. offset + n ≤ length bytes → length bytes ≡ 0)

of_test : (b : Bool) (bytes : List ℕ) (offset n : ℕ) → nat_lt (length bytes) (offset + n) ≡ b
    → ReadsPart (refuse_if b BadRange >> Ok (length bytes, take n (drop offset bytes))) bytes offset n
unfolding ◌>>=◌ ◌>>◌ refuse_if
of_test true bytes offset n short = λ room. absurd (grind (arith, tests))
of_test false bytes offset n short = (refl, refl)

of_block : (found : Option (Split Flex)) (offset n : ℕ) → ReadsPart (found_or found NoBlock
    >>= (λ b. refuse_if (nat_lt (length b.here.bytes) (offset + n)) BadRange >> Ok (length b.here.bytes, take n (drop offset b.here.bytes)))) (bytes_of_cut
    found) offset n
unfolding found_or ◌>>=◌
of_block None offset n = λ room. refl
of_block (Some b) offset n = of_test (nat_lt (length b.here.bytes) (offset + n)) b.here.bytes offset n refl

of_owner : (found : Option Task) (k offset n : ℕ) → ReadsPart (found_or found NoName
    >>= (λ t. slot_block k t.slot >>= (λ b. refuse_if (nat_lt (length b.here.bytes) (offset + n)) BadRange >> Ok
    (length b.here.bytes, take n (drop offset b.here.bytes))))) (bytes_of_cut (block_of k (slot_or_empty found))) offset n
unfolding found_or ◌>>=◌ slot_block
of_owner None k offset n = λ room. refl
of_owner (Some t) k offset n = of_block (block_of k t.slot) offset n

pub reads_part : (d : Desk) (name : List ℕ) (k offset n : ℕ) → ReadsPart (shown_at d name k offset n) (bytes_of_named name k d) offset n
unfolding shown_at named
reads_part d name k offset n = of_owner (find (has_name name) d.tasks) k offset n

-- what a reader answers with a buffer: the size and the part, or a refusal and the buffer as it was
abbrev pub Answers : Granted (ℕ × List ℕ) → Result ℕ Refusal → List ℕ → List ℕ → Type 0
Answers given answer old new =
    MatchResult given (λ p. (answer ≡ Ok p.0) × (new ≡ p.1)) (λ e. (answer ≡ Err e) × (new ≡ old))

nothing_read : (old bytes : List ℕ) → length old ≡ 0 → old ≡ take (length old) bytes
nothing_read [] bytes h = refl
nothing_read (x ∷ old) bytes h = absurd (omega arith)

-- with room for a part within the bytes, that part
pub answered_part : (given : Granted (ℕ × List ℕ)) (answer : Result ℕ Refusal) (bytes old new : List ℕ) (offset : ℕ) → Answers given answer old new
    → ReadsPart given bytes offset (length old) → offset + length old ≤ length bytes → new ≡ take (length old) (drop offset bytes)
answered_part (Ok p) answer bytes old new offset a r h = cc
answered_part (Err e) answer bytes old new offset a r h =
    let none : length bytes ≡ 0 = r h in
    a.1 ∙ nothing_read old (drop offset bytes) (omega arith)

-- ---- anchors that no slot has

none_has : (k place : ℕ) (blocks : List Flex) → HaveAnchors blocks → anchor_count ≤ k → first_at weight (λ _ b. b.anchor == k) place blocks ≡ None
none_has k place [] all past = refl
none_has k place (b ∷ blocks) all past = go (b.anchor == k) refl (none_has k (place + weight b) blocks all.2 past)
  where
    go : (t : Bool) → (b.anchor == k) ≡ t → first_at weight (λ _ x. x.anchor == k) (place + weight b) blocks ≡ None
        → cond t (Some (record { before = []; here = b; after = blocks })) (option_map (behind b)
        (first_at weight (λ _ x. x.anchor == k) (place + weight b) blocks)) ≡ None
    go true e h = let low : b.anchor < anchor_count = all.0 in absurd (grind (arith, tests))
    go false e h = ap (option_map (behind b)) h

no_block : (k : ℕ) (s : Slot) → IsSlot s → anchor_count ≤ k → slot_block k s ≡ Err NoBlock
unfolding slot_block found_or
no_block k s is past = ap (λ o. found_or o NoBlock) (none_has k (flex_start s) s.blocks is.anchors past)

missed : {A : Type 0} (o : Option Task) (k : ℕ) (one : Task → A) (x : A) → IsSlot (slot_or_empty o) → anchor_count ≤ k
    → (found_or o NoName >>= λ t. Ok (one t)) ≡ Ok x
    → (found_or o NoName >>= λ t. slot_block k t.slot >>= λ b. (let r : Granted Told = Ok (numbers.Shown (length b.here.bytes), Bytes b.here.bytes) in
    r)) ≡ Err NoBlock
unfolding ◌>>=◌ found_or
missed None k one x is past e = absurd (cc)
missed (Some t) k one x is past e = rw (no_block k t.slot is past) refl

-- a task has no block at such an anchor
pub shows_none : (d : Desk) (name : List ℕ) (k h : ℕ) (out : List Outgoing) (taken : List Incoming) → IsSlot (slot_named name d) → anchor_count ≤ k
    → status_at d name ≡ Ok (h, out, taken) → show d name k ≡ Err NoBlock
unfolding status_at show named
shows_none d name k h out taken is past e = missed (find (has_name name) d.tasks) k _ _ is past e

-- ---- a block's size

-- the size that is read is that of the whole answer
pub record IsSize (answer : Granted Told) (bytes : List ℕ) (r : Result ℕ Refusal) : Type 0 where
  pub shown : IfOk r (λ size. answer ≡ Ok (numbers.Shown size, Bytes bytes))
  pub size : IfOk r (λ size. size ≡ length bytes)
  pub refused : IfErr r (λ refusal. answer ≡ Err refusal)

size_refused : {answer : Granted Told} {bytes : List ℕ} {r : Result ℕ Refusal} (refusal : Refusal) → r ≡ Err refusal → answer ≡ Err refusal
    → IsSize answer bytes r
size_refused refusal e a = record { shown = rw e tt; size = rw e tt; refused = rw e a }

size_told : {answer : Granted Told} {bytes : List ℕ} {r : Result ℕ Refusal} → r ≡ Ok (length bytes) → answer ≡ Ok (numbers.Shown (length bytes), Bytes bytes)
    → IsSize answer bytes r
size_told e a = record { shown = rw e a; size = rw e refl; refused = rw e tt }

size_by : (t : Bool) (bytes : List ℕ) (r : Result ℕ Refusal) (old new : List ℕ) → nat_lt (length bytes) (0 + 0) ≡ t
    → Answers (refuse_if t BadRange >> Ok (length bytes, take 0 (drop 0 bytes))) r old new → IsSize (Ok (numbers.Shown (length bytes), Bytes bytes)) bytes r
unfolding ◌>>=◌ ◌>>◌ refuse_if
size_by true bytes r old new short a = absurd (grind (arith, tests))
size_by false bytes r old new short a = size_told a.0 refl

size_in : (o : Option (Split Flex)) (r : Result ℕ Refusal) (old new : List ℕ)
    → Answers (found_or o NoBlock >>= (λ b. refuse_if (nat_lt (length b.here.bytes) (0 + 0)) BadRange >> Ok
    (length b.here.bytes, take 0 (drop 0 b.here.bytes)))) r old new
    → IsSize (found_or o NoBlock >>= λ b. Ok (numbers.Shown (length b.here.bytes), Bytes b.here.bytes)) (bytes_of_cut o) r
unfolding ◌>>=◌ found_or
size_in None r old new a = size_refused NoBlock a.0 refl
size_in (Some b) r old new a = size_by (nat_lt (length b.here.bytes) (0 + 0)) b.here.bytes r old new refl a

size_named : (o : Option Task) (k : ℕ) (r : Result ℕ Refusal) (old new : List ℕ)
    → Answers (found_or o NoName >>= (λ t. slot_block k t.slot >>= (λ b. refuse_if (nat_lt (length b.here.bytes) (0 + 0)) BadRange >> Ok
    (length b.here.bytes, take 0 (drop 0 b.here.bytes))))) r old new
    → IsSize (found_or o NoName >>= λ t. slot_block k t.slot >>= λ b. Ok (numbers.Shown (length b.here.bytes), Bytes b.here.bytes))
    (bytes_of_cut (block_of k (slot_or_empty o))) r
unfolding ◌>>=◌ found_or slot_block
size_named None k r old new a = size_refused NoName a.0 refl
size_named (Some t) k r old new a = size_in (block_of k t.slot) r old new a

pub size_read : (d : Desk) (name : List ℕ) (k : ℕ) (r : Result ℕ Refusal) (old new : List ℕ) → Answers (shown_at d name k 0 0) r old new
    → IsSize (show d name k) (bytes_of_named name k d) r
unfolding shown_at show named
size_read d name k r old new a = size_named (find (has_name name) d.tasks) k r old new a

-- ---- bytes at an address

-- the whole answer, and the bytes
pub record IsRead (answer : Granted Told) (all : Granted (List ℕ)) (n : ℕ) (bytes : List ℕ) : Type 0 where
  pub told : answer ≡ Ok (numbers.Shown n, Bytes bytes)
  pub bytes_are : all ≡ Ok bytes

held_by : (b : Bool) (n k : ℕ) (bytes : List ℕ) → (refuse_if (not b) BadRange >> (let r : Granted ℕ = Ok n in r)) ≡ Ok k
    → IsRead (refuse_if (not b) BadRange >> Ok (numbers.Shown n, Bytes bytes)) (refuse_if (not b) BadRange >> Ok bytes) n bytes
unfolding ◌>>=◌ ◌>>◌ refuse_if
held_by true n k bytes e = record { told = refl; bytes_are = refl }
held_by false n k bytes e = absurd (cc)

held_in : (o : Option Task) (x n k : ℕ)
    → (found_or o NoName >>= (λ t. refuse_if (not (holds x n t.slot)) BadRange >> (let r : Granted ℕ = Ok n in r))) ≡ Ok k
    → IsRead (found_or o NoName >>= (λ t. refuse_if (not (holds x n t.slot)) BadRange >> Ok (numbers.Shown n, Bytes (bytes_held x n t.slot))))
    (found_or o NoName >>= (λ t. refuse_if (not (holds x n t.slot)) BadRange >> Ok (bytes_held x n t.slot))) n (bytes_held x n (slot_or_empty o))
unfolding ◌>>=◌ found_or
held_in None x n k e = absurd (cc)
held_in (Some t) x n k e = held_by (holds x n t.slot) n k (bytes_held x n t.slot) e

pub held_read : (d : Desk) (name : List ℕ) (x n k : ℕ) → Ok k ≡ size_held d name x n
    → IsRead (read d name x n) (bytes_read d name x n) n (bytes_named_at name x n d)
unfolding read bytes_read named
held_read d name x n k e = held_in (find (has_name name) d.tasks) x n k (sym e)

unheld_by : (b : Bool) (n : ℕ) (bytes : List ℕ) {refusal : Refusal} → (refuse_if (not b) BadRange >> (let r : Granted ℕ = Ok n in r)) ≡ Err refusal
    → (refuse_if (not b) BadRange >> (let r : Granted Told = Ok (numbers.Shown n, Bytes bytes) in r)) ≡ Err refusal
unfolding ◌>>=◌ ◌>>◌ refuse_if
unheld_by true n bytes e = absurd (cc)
unheld_by false n bytes {refusal} e = let same : BadRange ≡ refusal = cc in ap (λ r. Err r) same

unheld_in : (o : Option Task) (x n : ℕ) {refusal : Refusal}
    → (found_or o NoName >>= (λ t. refuse_if (not (holds x n t.slot)) BadRange >> (let r : Granted ℕ = Ok n in r))) ≡ Err refusal
    → (found_or o NoName >>= (λ t. refuse_if (not (holds x n t.slot)) BadRange >>
    (let r : Granted Told = Ok (numbers.Shown n, Bytes (bytes_held x n t.slot)) in r)))
    ≡ Err refusal
unfolding ◌>>=◌ found_or
unheld_in None x n {refusal} e = let same : NoName ≡ refusal = cc in ap (λ r. Err r) same
unheld_in (Some t) x n e = unheld_by (holds x n t.slot) n (bytes_held x n t.slot) e

pub unheld_read : (d : Desk) (name : List ℕ) (x n : ℕ) (refusal : Refusal) → Err refusal ≡ size_held d name x n → read d name x n ≡ Err refusal
unfolding read named
unheld_read d name x n refusal e = unheld_in (find (has_name name) d.tasks) x n (sym e)

-- a part of the bytes, as it is read
pub part_held : (all : Granted (List ℕ)) (answer : Result Unit Refusal) (bytes old new : List ℕ) (offset : ℕ) → all ≡ Ok bytes
    → MatchResult all (λ b. (answer ≡ Ok tt) × (new ≡ take (length old) (drop offset b))) (λ e. (answer ≡ Err e) × (new ≡ old))
    → new ≡ take (length old) (drop offset bytes)
part_held (Ok b) answer bytes old new offset e h = let same : b ≡ bytes = cc in h.1 ∙ ap (λ l. take (length old) (drop offset l)) same
part_held (Err r) answer bytes old new offset e h = absurd (cc)
