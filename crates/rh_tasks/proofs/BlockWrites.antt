-- Bytes of a block that is told by its address, where they stand in its area, and bytes that are written into it.
use Rattle.rh_tasks.proofs.Common.{◌≡◌, ℕ, ◌+◌, ◌-◌, ◌<◌, ◌≤◌, inl, inr, Bool, true, false, cond, refl, ap, sym, subst, ◌∙◌, arith, List, [], ◌∷◌}
use Rattle.rh_tasks.proofs.Common.{length, Option, Some, None, Ok, Err, IfSome, take, drop, find, nat_lt, ◌==◌, option_map, cases_lt, part}
use Rattle.rh_tasks.proofs.Common.{part-drop}
use Rattle.rh_tasks.proofs.Common.{Memory, bytes, Refusal, BadRange, NoName, NotABlock, Granted, ◌>>=◌, ◌>>◌, refuse_if, answer_of, left_of, no_answer}
use Rattle.rh_tasks.proofs.Common.{found_or, Split, Heap, Hole}
use Rattle.rh_tasks.proofs.Common.{Segment, Used, block_at, bytes_of, size_of, first_at, first_place, heap_start, slot_start, anchor_count, weight, Flex}
use Rattle.rh_tasks.proofs.Common.{HaveAnchors}
use Rattle.rh_tasks.proofs.Common.{BlockItem, block_items, Post, Desk, Task, named, IsDesk, IsSlotIn, slot_in, LeavesSlotIn, Standing, IsRoomed, IsModule}
use Rattle.rh_tasks.proofs.Common.{module_heap_in, Chains, begins, ends, past, stops, lt-true, lt-false}
use Rattle.rh_defs.specs.Blocks.{block_bytes, poked, written_at, SameShape}
use Rattle.rh_defs.specs.Bytes.{with_part}
use Rattle.rh_defs.specs.Desk.{has_name}
use Rattle.rh_defs.specs.Heap.{is_block_at}
use Rattle.rh_defs.specs.HeapImage.{Spells}
use Rattle.rh_defs.specs.Memory.{with_bytes}
use Rattle.rh_defs.specs.Module.{FillsPages}
use Rattle.rh_defs.specs.Pieces.{behind, with_here, written}
use Rattle.rh_defs.specs.Questions.{block_items_from}
use Rattle.rh_defs.specs.Slot as plain
use Rattle.rh_defs.specs.SlotImage.{SpellsSlot, heap_place}
use Rattle.rh_defs.proofs.BlockLaws.{block_at-bytes, bytes_here, poked-other, poked-pokes, tidy-written, total-written}
use Rattle.rh_defs.proofs.BytesLaws.{part-part, put-parts, put_outside}
use Rattle.rh_defs.proofs.Desks.{HasSlot}
use Rattle.rh_defs.proofs.Lists.{find-all}
use Rattle.rh_defs.proofs.MemoryLaws.{OnlyArea-self}
use Rattle.rh_defs.proofs.ModuleKeeps.{Fills, poked-fills}
use Rattle.rh_defs.proofs.ShapeLaws.{poked-shape, shape-both, shape-sym}
use Rattle.rh_defs.proofs.SlotImageLaws.{SpellsSlot-with_heap}
use Rattle.rh_defs.proofs.SlotLaws.{wider}
use Rattle.rh_module.specs.declared.module.Module.{Module}
use Rattle.rh_module.specs.ModuleArea.{SpellsModuleIn}
use Rattle.rh_module.specs.ModuleCalls.{LeavesModule}
use Rattle.rh_module.specs.Writes.{Wrote}
use Rattle.rh_slot.specs.declared.slot.Slot.{Slot}
use Rattle.rh_slot.proofs.Ranges.{HeapCut, heap_cut, cut_bytes}
use Rattle.rh_slot.proofs.ReachLaws.{Spells-put}
use Rattle.rh_slot.proofs.WriteLaws.{copied}
use Rattle.rh_wimp.specs.Chains.{ArePostChains}
use Rattle.rh_wimp.specs.QueueLaws.{post_with_heap}
use Rattle.rh_wimp.proofs.BesideLaws.{Beside, both-granted, both-refused}
use Rattle.rh_wimp.proofs.FrameLaws.{IsOff, block-changed}
use Rattle.rh_tasks.specs.BlockBytes.{heap_written, slot_written}
use Rattle.rh_tasks.specs.WorldLists.{blocks_of}

-- ---- what a write into a heap gives

module _ (a o : ℕ) (xs : List ℕ) (h : Heap) where
  pub written-nowhere : block_bytes a h ≡ None → heap_written a o xs h ≡ Err NotABlock
  unfolding heap_written found_or
  written-nowhere e = ends _ (ap (λ l. found_or l NotABlock) e)

  module _ (bs : List ℕ) (e : block_bytes a h ≡ Some bs) where
    pub written-beyond : length bs < o + length xs → heap_written a o xs h ≡ Err BadRange
    unfolding heap_written found_or
    written-beyond l = begins _ (ap (λ l. found_or l NotABlock) e) (stops _ BadRange _ (lt-true (length bs) (o + length xs) l))

    pub written-there : o + length xs ≤ length bs → heap_written a o xs h ≡ Ok (poked a o xs h)
    unfolding heap_written found_or
    written-there l = begins _ (ap (λ l. found_or l NotABlock) e) (past _ BadRange _ (lt-false (length bs) (o + length xs) l) refl)

-- ---- the block that is written, at its cut

-- the segments from a cut on, with bytes written into the block there
abbrev rewritten : ℕ → List ℕ → Split Segment → List Segment
rewritten o xs cut = with_here cut (Used (with_part (bytes_of cut.here) o xs))

passed : (g : Segment) (o : ℕ) (xs : List ℕ) (new : List Segment) (found : Option (Split Segment)) (cut : Split Segment)
    → ((c : Split Segment) → found ≡ Some c → new ≡ rewritten o xs c) → option_map (behind g) found ≡ Some cut → g ∷ new ≡ rewritten o xs cut
passed g o xs new None cut step e = absurd cc
passed g o xs new (Some c) cut step e =
    let same : behind g c ≡ cut = cc in
    ap (λ l. g ∷ l) (step c refl) ∙ ap (rewritten o xs) same

written-cut : (a o : ℕ) (xs : List ℕ) (p : ℕ) (ss : List Segment) (cut : Split Segment) → first_at size_of (is_block_at a) p ss ≡ Some cut
    → written_at a o xs p ss ≡ rewritten o xs cut
written-cut a o xs p [] cut e = absurd cc
written-cut a o xs p (Used bs ∷ ss) cut e = go (a == p + 4) (λ c f. written-cut a o xs (p + (4 + length bs)) ss c f) e
  where
    go : (t : Bool)
        → ((c : Split Segment) → first_at size_of (is_block_at a) (p + (4 + length bs)) ss ≡ Some c
        → written_at a o xs (p + (4 + length bs)) ss ≡ rewritten o xs c)
        → cond t (Some (record { before = []; here = Used bs; after = ss }))
        (option_map (behind (Used bs)) (first_at size_of (is_block_at a) (p + (4 + length bs)) ss)) ≡ Some cut
        → cond t (Used (with_part bs o xs) ∷ ss) (Used bs ∷ written_at a o xs (p + (4 + length bs)) ss) ≡ rewritten o xs cut
    go true step e =
        let first : Split Segment = record { before = []; here = Used bs; after = ss } in
        let same : first ≡ cut = cc in
        ap (rewritten o xs) same
    go false step e = passed (Used bs) o xs _ (first_at size_of (is_block_at a) (p + (4 + length bs)) ss) cut step e
written-cut a o xs p (Hole n ∷ ss) cut e =
    passed (Hole n) o xs _ (first_at size_of (is_block_at a) (p + n) ss) cut (λ c f. written-cut a o xs (p + n) ss c f) e

-- the block with an address, and its bytes
pub record BlockCut (a : ℕ) (h : Heap) (bs : List ℕ) : Type 0 where
  pub cut : Split Segment
  pub found : block_at a h ≡ Some cut
  pub bytes_are : bytes_of cut.here ≡ bs

pub block-cut : (a : ℕ) (h : Heap) (bs : List ℕ) → block_bytes a h ≡ Some bs → BlockCut a h bs
block-cut a h bs e = go (block_at a h) refl (block_at-bytes a h ∙ e)
  where
    go : (o : Option (Split Segment)) → block_at a h ≡ o → bytes_here o ≡ Some bs → BlockCut a h bs
    go None f b = absurd cc
    go (Some cut) f b = record { cut = cut; found = f; bytes_are = (let same : bytes_of cut.here ≡ bs = cc in same) }

-- ---- where the bytes of a C heap's block stand

module _ (m : Memory) (slot : Slot) (address offset n : ℕ) (bs : List ℕ) (is : IsSlotIn m slot)
    (e : block_bytes (address - heap_start) (slot_in m slot).heap ≡ Some bs) (few : offset + n ≤ length bs) where
  abbrev b : List ℕ
  b = bytes m slot.area.0

  abbrev h : Heap
  h = (slot_in m slot).heap

  the-cut : BlockCut (address - heap_start) h bs
  the-cut = block-cut (address - heap_start) h bs e

  in-heap : HeapCut h (address - heap_start) the-cut.cut
  in-heap = heap_cut h (address - heap_start) the-cut.cut the-cut.found

  -- above the anchor words
  pub bytes-low : heap_start ≤ address
  bytes-low = omega (arith, in-heap.stands)

  pub bytes-stand : Standing b (take n (drop offset bs)) (address - slot_start + offset) n 0 (length b)
  bytes-stand =
      let w = is.spells.words in
      let place : heap_place + (address - heap_start) + offset ≡ address - slot_start + offset = omega (arith, bytes-low) in
      let old = bytes_of the-cut.cut.here in
      let long : length old ≡ length bs = ap length the-cut.bytes_are in
      record {
        is = sym (ap (λ p. part b p n) (sym place)
            ∙ sym (part-part b (heap_place + (address - heap_start)) (length old) offset n (omega (arith, long, few)))
            ∙ ap (λ l. part l offset n) (cut_bytes b heap_place h (address - heap_start) the-cut.cut w.heap in-heap ∙ the-cut.bytes_are)
            ∙ part-drop bs offset n few);
        low = omega arith;
        high = omega (arith, place, long, few, in-heap.inside, w.heap.heap.fits, w.within);
      }

-- ---- what is read of it

-- the size of a C heap's block, and n of its bytes from an offset on
abbrev pub asked_of : ℕ → ℕ → ℕ → plain.Slot → Granted (ℕ × List ℕ)
asked_of address offset n s = found_or (block_bytes (address - heap_start) s.heap) NotABlock
    >>= λ old. refuse_if (nat_lt (length old) (offset + n)) BadRange >> Ok (length old, take n (drop offset old))

module _ (address offset n : ℕ) (s : plain.Slot) where
  pub asked-nowhere : block_bytes (address - heap_start) s.heap ≡ None → asked_of address offset n s ≡ Err NotABlock
  unfolding found_or
  asked-nowhere e = ends _ (ap (λ l. found_or l NotABlock) e)

  module _ (bs : List ℕ) (e : block_bytes (address - heap_start) s.heap ≡ Some bs) where
    pub asked-beyond : length bs < offset + n → asked_of address offset n s ≡ Err BadRange
    unfolding found_or
    asked-beyond l = begins _ (ap (λ l. found_or l NotABlock) e) (stops _ BadRange _ (lt-true (length bs) (offset + n) l))

    pub asked-there : offset + n ≤ length bs → asked_of address offset n s ≡ Ok (length bs, take n (drop offset bs))
    unfolding found_or
    asked-there l = begins _ (ap (λ l. found_or l NotABlock) e) (past _ BadRange _ (lt-false (length bs) (offset + n) l) refl)

-- ---- a write into a C heap's block

module _ (m : Memory) (slot : Slot) (address offset : ℕ) (bs xs : List ℕ) (is : IsSlotIn m slot)
    (e : block_bytes (address - heap_start) (slot_in m slot).heap ≡ Some bs) (few : offset + length xs ≤ length bs) where
  abbrev old : plain.Slot
  old = slot_in m slot

  abbrev pub place : ℕ
  place = address - slot_start + offset

  abbrev pub new : plain.Slot
  new = plain.with_heap (poked (address - heap_start) offset xs old.heap) old

  cut-here : BlockCut (address - heap_start) old.heap bs
  cut-here = block-cut (address - heap_start) old.heap bs e

  new-heap : Spells (with_part (bytes m slot.area.0) place xs) heap_place new.heap
  new-heap =
      let c = cut-here.cut in
      let q : place ≡ heap_place + (address - heap_start) + offset =
      omega (arith, bytes-low m slot address offset (length xs) bs is e few) in
      let room : offset + length xs ≤ length (bytes_of c.here) = omega (arith, ap length cut-here.bytes_are, few) in
      let there : written_at (address - heap_start) offset xs first_place old.heap.segments ≡ with_here c (Used (written (bytes_of c.here) offset xs)) =
      written-cut (address - heap_start) offset xs first_place old.heap.segments c cut-here.found
      ∙ ap (λ l. with_here c (Used l)) (put-parts (bytes_of c.here) offset xs room) in
      subst (λ (ss : List Segment). Spells (with_part (bytes m slot.area.0) place xs) heap_place (record old.heap { segments = ss })) (sym there)
      (Spells-put (bytes m slot.area.0) heap_place old.heap (address - heap_start) offset place c xs is.spells.words.heap
      (heap_cut old.heap (address - heap_start) c cut-here.found) room q)

  new-spells : SpellsSlot (with_part (bytes m slot.area.0) place xs) new
  new-spells =
      let stands = bytes-stand m slot address offset (length xs) bs is e few in
      let low = bytes-low m slot address offset (length xs) bs is e few in
      let c = heap_cut old.heap (address - heap_start) cut-here.cut cut-here.found in
      let inside = c.inside in
      let fits = is.spells.words.heap.heap.fits in
      let long = ap length cut-here.bytes_are in
      SpellsSlot-with_heap (bytes m slot.area.0) (with_part (bytes m slot.area.0) place xs) old new.heap is.spells
      (wider (put_outside (bytes m slot.area.0) place xs (place + length xs) (omega arith)) (omega arith) (omega arith)) new-heap refl

  pub slot-granted : no_answer (slot_written address offset xs old) ≡ Ok (new, tt)
  unfolding slot_written
  slot-granted = ap no_answer (begins _ (written-there (address - heap_start) offset xs old.heap bs e few) refl)

  pub slot-leaves : (n : Memory) → n ≡ with_bytes m slot.area.0 (with_part (bytes m slot.area.0) place xs)
      → LeavesSlotIn m n slot (no_answer (slot_written address offset xs old)) (Ok tt)
  slot-leaves n same = copied m n slot _ new place xs slot-granted refl same new-spells

-- a call on no block, or beyond its end
pub slot-nowhere : (address offset : ℕ) (xs : List ℕ) (s : plain.Slot) → block_bytes (address - heap_start) s.heap ≡ None
    → slot_written address offset xs s ≡ Err NotABlock
unfolding slot_written
slot-nowhere address offset xs s e = ends _ (written-nowhere (address - heap_start) offset xs s.heap e)

pub slot-beyond : (address offset : ℕ) (xs : List ℕ) (s : plain.Slot) (bs : List ℕ) → block_bytes (address - heap_start) s.heap ≡ Some bs
    → length bs < offset + length xs → slot_written address offset xs s ≡ Err BadRange
unfolding slot_written
slot-beyond address offset xs s bs e l = ends _ (written-beyond (address - heap_start) offset xs s.heap bs e l)

-- no block is at an address where none is found
pub no-bytes-at : (a : ℕ) (h : Heap) → block_at a h ≡ None → block_bytes a h ≡ None
no-bytes-at a h e = sym (block_at-bytes a h) ∙ ap bytes_here e

pub slot-none : (address offset : ℕ) (xs : List ℕ) (s : plain.Slot) → plain.heap_block_at address s ≡ None → slot_written address offset xs s ≡ Err NotABlock
slot-none address offset xs s e = slot-nowhere address offset xs s (no-bytes-at (address - heap_start) s.heap e)

pub heap-none : (a o : ℕ) (xs : List ℕ) (h : Heap) → block_at a h ≡ None → no_answer (heap_written a o xs h) ≡ Err NotABlock
heap-none a o xs h e = ap no_answer (written-nowhere a o xs h (no-bytes-at a h e))

-- what is written leaves a slot as long as it was
pub slot-roomed : (free address offset : ℕ) (xs : List ℕ) (s t : plain.Slot) → plain.IsSlot s → slot_written address offset xs s ≡ Ok t → IsRoomed free s t
unfolding slot_written
slot-roomed free address offset xs s t is e = go (block_bytes (address - heap_start) s.heap) refl
  where
    a : ℕ
    a = address - heap_start

    roomed : IsRoomed free s (plain.with_heap (poked a offset xs s.heap) s)
    roomed = record {
      room = omega arith;
      slot = record {
        heap = record {
          tidy = tidy-written false a offset xs first_place s.heap.segments is.heap.tidy;
          fits = omega (arith, is.heap.fits, total-written a offset xs first_place s.heap.segments);
          multiple = is.heap.multiple;
        };
        anchors = is.anchors;
      };
    }

    go : (o : Option (List ℕ)) → block_bytes a s.heap ≡ o → IsRoomed free s t
    go None f = absurd (let none : slot_written address offset xs s ≡ Err NotABlock = slot-nowhere address offset xs s f in cc)
    go (Some bs) f = elim (cases_lt (length bs) (offset + length xs)) [
      | inl l ↦ absurd (let short : slot_written address offset xs s ≡ Err BadRange = slot-beyond address offset xs s bs f l in cc)
      | inr l ↦
          let done : slot_written address offset xs s ≡ Ok (plain.with_heap (poked a offset xs s.heap) s) =
          begins _ (written-there a offset xs s.heap bs f l) refl in
          let same : plain.with_heap (poked a offset xs s.heap) s ≡ t = cc in
          subst (IsRoomed free s) same roomed
    ]

-- ---- a write into the module area

module _ (m : Memory) (area : Module) (is : IsModule m area) where
  abbrev its-heap : Heap
  its-heap = module_heap_in m area

  pub module-refuses : {A : Type 0} (granted : Granted (Heap × A)) (r : Refusal) → granted ≡ Err r → LeavesModule m m area granted (Err r)
  module-refuses granted r e = record {
    answer = sym (ap answer_of e);
    heap = sym (ap (left_of its-heap) e);
    spells = subst (λ g. SpellsModuleIn m area (left_of its-heap g)) (sym e) is.spells;
    still = is;
    only = OnlyArea-self m area.area.0 is.opened;
    err = refl;
  }

  pub module-writes : (n : Memory) (a o : ℕ) (xs bs : List ℕ) → block_bytes a its-heap ≡ Some bs → o + length xs ≤ length bs → Wrote m n area a o xs
      → LeavesModule m n area (no_answer (heap_written a o xs its-heap)) (Ok tt)
  module-writes n a o xs bs e few w =
      let done : no_answer (heap_written a o xs its-heap) ≡ Ok (poked a o xs its-heap, tt) = ap no_answer (written-there a o xs its-heap bs e few) in
      record {
        answer = sym (ap answer_of done);
        heap = w.heap ∙ sym (ap (left_of its-heap) done);
        spells = subst (λ g. SpellsModuleIn n area (left_of its-heap g)) (sym done) (subst (SpellsModuleIn n area) w.heap w.still.spells);
        still = w.still;
        only = w.only;
        err = tt;
      }

-- the module area's heap and the post's are written alike, where no message lies
pub write-beside : (h : Heap) (q : Chains) (post : Post) (a o : ℕ) (xs : List ℕ) → ArePostChains h q post → IsOff a post
    → Beside h q post (no_answer (heap_written a o xs h)) (no_answer (heap_written a o xs post.heap))
write-beside h q post a o xs s off = go (block_bytes a h) refl
  where
    d : Heap
    d = post.heap

    same : block_bytes a h ≡ block_bytes a d
    same = s.linked.others a off

    shape : SameShape (poked a o xs h) (poked a o xs d)
    shape = shape-both (poked-shape a o xs h) (shape-both s.linked.shape (shape-sym (poked-shape a o xs d)))

    both : (bs : List ℕ) → block_bytes a h ≡ Some bs → o + length xs ≤ length bs → ArePostChains (poked a o xs h) q (post_with_heap (poked a o xs d) post)
    both bs e l =
        block-changed h (poked a o xs h) q post (poked a o xs d) a s off shape (λ b ne. poked-other a b o xs h ne) (λ b ne. poked-other a b o xs d ne)
        ((poked-pokes a o xs h bs e).here ∙ sym (poked-pokes a o xs d bs (sym same ∙ e)).here)

    go : (p : Option (List ℕ)) → block_bytes a h ≡ p → Beside h q post (no_answer (heap_written a o xs h)) (no_answer (heap_written a o xs d))
    go None e = both-refused h q post _ _ NotABlock s (ap no_answer (written-nowhere a o xs h e)) (ap no_answer (written-nowhere a o xs d (sym same ∙ e)))
    go (Some bs) e = elim (cases_lt (length bs) (o + length xs)) [
      | inl l ↦ both-refused h q post _ _ BadRange s (ap no_answer (written-beyond a o xs h bs e l))
          (ap no_answer (written-beyond a o xs d bs (sym same ∙ e) l))
      | inr l ↦ both-granted h q post _ _ (poked a o xs h) (poked a o xs d) tt (both bs e l) (ap no_answer (written-there a o xs h bs e l))
          (ap no_answer (written-there a o xs d bs (sym same ∙ e) l))
    ]

-- what is written leaves the heap as long as it was
pub written-fills : (free a o : ℕ) (xs : List ℕ) (h : Heap) → FillsPages h → Fills free h (left_of h (no_answer (heap_written a o xs h)))
written-fills free a o xs h is = go (block_bytes a h) refl
  where
    stays : {r : Refusal} → heap_written a o xs h ≡ Err r → Fills free h (left_of h (no_answer (heap_written a o xs h)))
    stays e = subst (λ g. Fills free h (left_of h g)) (sym (ap no_answer e)) (record { fills = is; room = omega arith })

    go : (p : Option (List ℕ)) → block_bytes a h ≡ p → Fills free h (left_of h (no_answer (heap_written a o xs h)))
    go None e = stays (written-nowhere a o xs h e)
    go (Some bs) e = elim (cases_lt (length bs) (o + length xs)) [
      | inl l ↦ stays (written-beyond a o xs h bs e l)
      | inr l ↦ subst (λ g. Fills free h (left_of h g)) (sym (ap no_answer (written-there a o xs h bs e l)))
          (record { fills = poked-fills a o xs h is; room = omega arith })
    ]

-- ---- the anchor of a block that is told by its address

-- whether a block begins at the address
abbrev pub is_there : ℕ → BlockItem → Bool
is_there address b = b.address == address

anchored : (address p : ℕ) (fs : List Flex) → HaveAnchors fs
    → IfSome (option_map (λ (b : BlockItem). b.anchor) (find (is_there address) (block_items_from p fs))) (λ k. k < anchor_count)
anchored address p [] h = tt
anchored address p (f ∷ fs) h =
    elim (p + 8 == address) as (λ t. IfSome (option_map (λ (b : BlockItem). b.anchor)
    (cond t (Some (record { anchor = f.anchor; address = p + 8; size = length f.bytes })) (find (is_there address) (block_items_from (p + weight f) fs))))
    (λ k. k < anchor_count)) [ true ↦ h.0 | false ↦ anchored address (p + weight f) fs h.2 ]

pub anchor-low : (d : Desk) (name : List ℕ) (address : ℕ) (items : List BlockItem) → IsDesk d → blocks_of d name ≡ Ok items
    → IfSome (option_map (λ (b : BlockItem). b.anchor) (find (is_there address) items)) (λ k. k < anchor_count)
unfolding blocks_of named ◌>>=◌ found_or
anchor-low d name address items is e = go (find (has_name name) d.tasks) (find-all HasSlot (has_name name) d.tasks is.slots) e
  where
    go : (o : Option Task) → IfSome o HasSlot → (found_or o NoName >>= λ t. Ok (block_items t.slot)) ≡ Ok items
        → IfSome (option_map (λ (b : BlockItem). b.anchor) (find (is_there address) items)) (λ k. k < anchor_count)
    go None h e = absurd cc
    go (Some t) h e =
        let same : block_items t.slot ≡ items = cc in
        subst (λ l. IfSome (option_map (λ (b : BlockItem). b.anchor) (find (is_there address) l)) (λ k. k < anchor_count)) same
        (anchored address (plain.flex_start t.slot) t.slot.blocks h.anchors)
