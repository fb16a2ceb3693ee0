-- What is asked of a named task's slot.
use Rattle.rh_tasks.proofs.Common.{◌≡◌, ℕ, ◌+◌, ◌≤◌, Bool, true, false, refl, ap, arith, List, length, Option, Some, None, Ok, Err, IfSome, nat_lt, take}
use Rattle.rh_tasks.proofs.Common.{drop, ◌==◌, option_map, Memory, bytes, FileList, Refusal, BadRange, eqb-true, Granted, ◌>>=◌, ◌>>◌, refuse_if, outcome_of}
use Rattle.rh_tasks.proofs.Common.{result_or, Split, total, Heap, Segment, Used, Hole, size_of, segment_at, first_place, base, IsCut, first_at-cuts}
use Rattle.rh_tasks.proofs.Common.{cut-total, Desk, named, segment_item, slot_in, Seat, MadeArea, Kept, desk_of, task_of, IsWorld, Owns, begins, found-named}
use Rattle.rh_defs.specs.declared.question.SegmentItem.TheVariants as segment
use Rattle.rh_defs.specs.Slot as plain
use Rattle.rh_heap.specs.declared.layout.Segment.{Segment as Piece}
use Rattle.rh_heap.specs.Segments.{piece}
use Rattle.rh_slot.specs.declared.slot.Slot.{Slot}
use Rattle.rh_tasks.specs.WorldItems.{segment_item_of}

-- ---- a slot that was found

module _ {m : Memory} {seats : List Seat} {made : List MadeArea} {files : FileList} {kept : Kept} {name : List ℕ} {slot : Slot}
    (w : IsWorld m seats made files kept) (o : Owns name seats slot) where
  abbrev d : Desk
  d = desk_of m seats made files kept

  its-slot : (task_of m o.seat).slot ≡ slot_in m slot
  unfolding task_of
  its-slot = ap (slot_in m) o.slot_is

  -- what is asked of the named task's slot alone
  pub of-slot : {A : Type 0} (ask : plain.Slot → Granted A) → (named name d >>= (λ t. ask t.slot)) ≡ ask (slot_in m slot)
  of-slot ask = begins _ (found-named w o) (ap ask its-slot)

-- ---- a block's bytes

unsized-by : {A : Type 0} (g : Granted (Split plain.Flex)) (r : Refusal) (next : Split plain.Flex → Granted A)
    → Err r ≡ (g >>= λ b. Ok (length b.here.bytes)) → (g >>= next) ≡ Err r
unfolding ◌>>=◌
unsized-by (Ok b) r next h = absurd (cc)
unsized-by (Err q) r next h = cc

pub unsized : {A : Type 0} (k : ℕ) (s : plain.Slot) (r : Refusal) (next : Split plain.Flex → Granted A) → Err r ≡ plain.slot_size k s
    → (plain.slot_block k s >>= next) ≡ Err r
unfolding plain.slot_size
unsized k s r next h = unsized-by (plain.slot_block k s) r next h

-- the size and n bytes from an offset on
abbrev pub shown_of_slot : ℕ → ℕ → ℕ → plain.Slot → Granted (ℕ × List ℕ)
shown_of_slot k offset n s = plain.slot_block k s
    >>= λ b. refuse_if (nat_lt (length b.here.bytes) (offset + n)) BadRange >> Ok (length b.here.bytes, take n (drop offset b.here.bytes))

read-by : (g : Granted (Split plain.Flex)) (offset n size : ℕ) (old new : List ℕ) → Ok size ≡ (g >>= λ b. Ok (length b.here.bytes))
    → Ok tt ≡ outcome_of (g >>= λ b. refuse_if (nat_lt (length b.here.bytes) (offset + n)) BadRange >>= λ _. Ok (take n (drop offset b.here.bytes)))
    → new ≡ result_or old (g >>= λ b. refuse_if (nat_lt (length b.here.bytes) (offset + n)) BadRange >>= λ _. Ok (take n (drop offset b.here.bytes)))
    → (g >>= λ b. refuse_if (nat_lt (length b.here.bytes) (offset + n)) BadRange >>
    (let r : Granted (ℕ × List ℕ) = Ok (length b.here.bytes, take n (drop offset b.here.bytes)) in r)) ≡ Ok (size, new)
unfolding ◌>>=◌ ◌>>◌ refuse_if
read-by (Err r) offset n size old new h j q = absurd (cc)
read-by (Ok b) offset n size old new h j q = go (nat_lt (length b.here.bytes) (offset + n)) j q
  where
    go : (t : Bool) → Ok tt ≡ outcome_of (refuse_if t BadRange >>= λ _. Ok (take n (drop offset b.here.bytes)))
        → new ≡ result_or old (refuse_if t BadRange >>= λ _. Ok (take n (drop offset b.here.bytes)))
        → (refuse_if t BadRange >>= λ _. (let r : Granted (ℕ × List ℕ) = Ok (length b.here.bytes, take n (drop offset b.here.bytes)) in r)) ≡ Ok (size, new)
    go true j q = absurd (cc)
    go false j q = let s : size ≡ length b.here.bytes = cc in rw (s, q) refl

pub read-done : (k offset n size : ℕ) (s : plain.Slot) (old new : List ℕ) → Ok size ≡ plain.slot_size k s → Ok tt ≡ outcome_of (plain.slot_read k offset n s)
    → new ≡ result_or old (plain.slot_read k offset n s) → shown_of_slot k offset n s ≡ Ok (size, new)
unfolding plain.slot_size plain.slot_read
read-done k offset n size s old new h j q = read-by (plain.slot_block k s) offset n size old new h j q

unread-by : (g : Granted (Split plain.Flex)) (offset n : ℕ) (r : Refusal)
    → Err r ≡ outcome_of (g >>= λ b. refuse_if (nat_lt (length b.here.bytes) (offset + n)) BadRange >>= λ _. Ok (take n (drop offset b.here.bytes)))
    → (g >>= λ b. refuse_if (nat_lt (length b.here.bytes) (offset + n)) BadRange >>
    (let x : Granted (ℕ × List ℕ) = Ok (length b.here.bytes, take n (drop offset b.here.bytes)) in x)) ≡ Err r
unfolding ◌>>=◌ ◌>>◌ refuse_if
unread-by (Err q) offset n r h = cc
unread-by (Ok b) offset n r h = go (nat_lt (length b.here.bytes) (offset + n)) h
  where
    go : (t : Bool) → Err r ≡ outcome_of (refuse_if t BadRange >>= λ _. Ok (take n (drop offset b.here.bytes)))
        → (refuse_if t BadRange >>= λ _. (let x : Granted (ℕ × List ℕ) = Ok (length b.here.bytes, take n (drop offset b.here.bytes)) in x)) ≡ Err r
    go true h = cc
    go false h = absurd (cc)

pub unread : (k offset n : ℕ) (s : plain.Slot) (r : Refusal) → Err r ≡ outcome_of (plain.slot_read k offset n s) → shown_of_slot k offset n s ≡ Err r
unfolding plain.slot_read
unread k offset n s r h = unread-by (plain.slot_block k s) offset n r h

-- ---- the segment at a place

pub record IsPiece (place : ℕ) (h : Heap) (p : Piece) : Type 0 where
  pub cut : Split Segment
  pub found : segment_at place h ≡ Some cut
  pub is : piece cut ≡ p
  pub low : place + size_of cut.here ≤ base h

cut-place : (h : Heap) (place : ℕ) (cut : Split Segment) → IsCut size_of (λ q g. place == q) first_place h.segments cut → place + size_of cut.here ≤ base h
cut-place h place cut c =
    let same : place ≡ first_place + total size_of cut.before = eqb-true _ _ c.passes in
    omega (arith, same, cut-total c)

pub piece-at : (place : ℕ) (h : Heap) (p : Piece) → Some p ≡ option_map piece (segment_at place h) → IsPiece place h p
piece-at place h p e = go (segment_at place h) refl (first_at-cuts size_of (λ q g. place == q) first_place h.segments) e
  where
    go : (o : Option (Split Segment)) → segment_at place h ≡ o → IfSome o (IsCut size_of (λ q g. place == q) first_place h.segments)
        → Some p ≡ option_map piece o → IsPiece place h p
    go None s c e = absurd (cc)
    go (Some cut) s c e = record { cut = cut; found = s; is = cc; low = cut-place h place cut c }

pub piece-none : (place : ℕ) (h : Heap) → None ≡ option_map piece (segment_at place h) → segment_at place h ≡ None
piece-none place h e = go (segment_at place h) e
  where
    go : (o : Option (Split Segment)) → None ≡ option_map piece o → o ≡ None
    go None e = refl
    go (Some cut) e = absurd (cc)

-- a segment as it is listed
pub segment-listed : (place : ℕ) (g : Segment) (before after : List Segment)
    → segment_item_of plain.heap_start place (piece (record { before = before; here = g; after = after })) ≡ segment_item (plain.heap_start + place) g
segment-listed place (Used bytes) before after = ap (λ n. segment.Used (plain.heap_start + place + 4) n) (omega arith)
segment-listed place (Hole size) before after = refl
