-- Bytes at an address of a slot: the block that holds them, and a write into it.
use Rattle.rh_slot.proofs.Common.{◌≡◌, ℕ, ◌+◌, ◌-◌, ◌%◌, ◌<◌, ◌≤◌, Bool, true, false, cond, List, [], ◌∷◌, ◌++◌, length, refl, sym, ap, subst, ◌∙◌, arith}
use Rattle.rh_slot.proofs.Common.{nat_tests, ◌&&◌, ◌||◌, Option, Some, None, IfSome, is_some, nat_le, part, with_part, SameOutside, Split, zeros, total}
use Rattle.rh_slot.proofs.Common.{written}
use Rattle.rh_slot.proofs.Common.{Segment, Used, Hole, Heap, size_of, bytes_of, base, Stand, Spells, Slot, Flex, weight, flex_start, flex_address}
use Rattle.rh_slot.proofs.Common.{heap_block_at, with_block_bytes, HaveAnchors, heap_start, SpellsSlot, flex_place, heap_place, word_same, put_outside}
use Rattle.rh_slot.proofs.Common.{length-put}
use Rattle.rh_slot.proofs.Common.{length-part, IsCut, first_at-cuts, SpellsSlot-with_heap, in_below, in_above, wider, HaveAnchors-cut}
use Rattle.rh_defs.specs.Pieces.{first_at, with_here, is_inside}
use Rattle.rh_defs.specs.Inner.NonePassing.{NonePass}
use Rattle.rh_defs.specs.Heap.{IsTidy, is_around, block_around}
use Rattle.rh_defs.specs.HeapParts.{HasRoom, last_link}
use Rattle.rh_defs.specs.Places.{with_heap_bytes, roomy_in, buffer_at, written_in, written_around, written_heap, written_held}
use Rattle.rh_defs.specs.Slot.{flex_around, holds}
use Rattle.rh_defs.specs.Blocks.{blank, SameShape}
use Rattle.rh_defs.proofs.BlockLaws.{part-written}
use Rattle.rh_defs.proofs.BytesLaws.{put-parts}
use Rattle.rh_defs.proofs.HeapLaws.{Open-kept, Stand-split, Stand-join}
use Rattle.rh_defs.proofs.HeapLists.{leb_no, total-append, HasRoom-append, HasRoom-from_tidy, first_at-none, first_at-found}
use Rattle.rh_defs.proofs.HeapStretch.{Stand-kept, link_place}
use Rattle.rh_defs.proofs.ShapeLaws.{blank-append}
use Rattle.rh_defs.proofs.SlotKeeps.{length-written}
use Rattle.rh_slot.proofs.EditLaws.{put_words}
use Rattle.rh_slot.proofs.FlexLaws.{paged}
use Rattle.rh_slot.proofs.Ranges.{HeapCut, heap_cut, cut_bytes, cut_found}
use Rattle.rh_slot.proofs.WalkLaws.{is_at}

-- ---- a block of a heap gets other bytes, as many as it has

tidy_with : (t : Bool) (xs ys : List Segment) (old new : List ℕ) → length new ≡ length old → IsTidy t (xs ++ Used old ∷ ys) → IsTidy t (xs ++ Used new ∷ ys)
tidy_with true [] ys old new e h = (ap (λ n. (4 + n) % 8) e ∙ h.0, h.1)
tidy_with false [] ys old new e h = (ap (λ n. (4 + n) % 8) e ∙ h.0, h.1)
tidy_with true (Used bs ∷ xs) ys old new e h = (h.0, tidy_with false xs ys old new e h.1)
tidy_with false (Used bs ∷ xs) ys old new e h = (h.0, tidy_with false xs ys old new e h.1)
tidy_with true (Hole n ∷ xs) ys old new e h = absurd h
tidy_with false (Hole n ∷ xs) ys old new e h = (h.0, h.1, tidy_with true xs ys old new e h.2)

pub Spells-with : (b c : List ℕ) (at : ℕ) (h : Heap) (xs ys : List Segment) (old new : List ℕ) (p : ℕ) → Spells b at h → h.segments ≡ xs ++ Used old ∷ ys
    → p ≡ at + 16 + total size_of xs → length new ≡ length old
    → SameOutside b c (p + 4) (p + 4 + length old) → part c (p + 4) (length new) ≡ new → Spells c at (record h { segments = xs ++ Used new ∷ ys })
Spells-with b c at h xs ys old new p s is ep e o now =
    let room = HasRoom-append xs (Used old ∷ ys) (subst HasRoom is (HasRoom-from_tidy false h.segments s.heap.tidy)) in
    let st = Stand-split b (at + 4) (at + 16) xs (Used old ∷ ys) (subst (Stand b (at + 4) (at + 16)) is s.stand) in
    let f = last_link (at + 4) (at + 16) xs in
    let here : Stand b f p (Used old ∷ ys) = subst (λ q. Stand b f q (Used old ∷ ys)) (sym ep) st.1 in
    let l = link_place at xs f p room.0 refl ep in
    let most = l.most in
    let sum : total size_of h.segments ≡ total size_of xs + (4 + length old + total size_of ys) = ap (total size_of) is ∙ total-append xs (Used old ∷ ys) in
    let both : total size_of (xs ++ Used new ∷ ys) ≡ total size_of xs + (4 + length new + total size_of ys) = total-append xs (Used new ∷ ys) in
    let fits = s.heap.fits in
    let len = o.len in
    let within = s.within in
    record {
      heap = record { tidy = tidy_with false xs ys old new e (subst (IsTidy false) is s.heap.tidy); fits = omega arith; multiple = s.heap.multiple };
      within = omega arith;
      special = word_same b c at (in_below o (omega arith)) ∙ s.special;
      base = word_same b c (at + 8) (in_below o (omega arith)) ∙ s.base ∙ omega arith;
      last = word_same b c (at + 12) (in_below o (omega arith)) ∙ s.last;
      stand = Stand-join c (at + 4) (at + 16) xs (Used new ∷ ys)
          (Open-kept b c (at + 4) (at + 16) xs room.0 (omega arith)
          (record { link = λ k x y z. o.below k (omega arith); body = λ k x y z. o.below k (omega arith) }) st.0)
          (subst (λ q. Stand c f q (Used new ∷ ys)) ep (
            word_same b c p (in_below o (omega arith)) ∙ here.0 ∙ ap (λ n. 4 + n) (sym e),
            now,
            subst (λ n. Stand c f (p + (4 + n)) ys) (sym e) (Stand-kept b c f (p + (4 + length old)) ys room.1 (word_same b c f (in_below o (omega arith)))
                (in_above o (omega arith)) here.2),
          ));
    }

-- bytes put into a block of a heap
pub Spells-put : (b : List ℕ) (at : ℕ) (h : Heap) (y offset q : ℕ) (cut : Split Segment) (xs : List ℕ) → Spells b at h → HeapCut h y cut
    → offset + length xs ≤ length (bytes_of cut.here) → q ≡ at + y + offset
    → Spells (with_part b q xs) at (record h { segments = with_here cut (Used (written (bytes_of cut.here) offset xs)) })
Spells-put b at h y offset q cut xs s c h1 eq =
    let old = bytes_of cut.here in
    let new = written old offset xs in
    let p = at + 16 + total size_of cut.before in
    let stands = c.stands in
    let inside = c.inside in
    let fits = s.heap.fits in
    let within = s.within in
    let same : with_part old offset xs ≡ new = put-parts old offset xs h1 in
    let e : length new ≡ length old = sym (ap length same) ∙ length-put old offset xs in
    let o : SameOutside b (with_part b q xs) (p + 4) (p + 4 + length old) = wider (put_outside b q xs (q + length xs) (omega arith)) (omega arith)
    (omega arith) in
    let place : q ≡ p + 4 + offset = omega arith in
    let whole : part b (p + 4) (length old) ≡ old = ap (λ r. part b r (length old)) (let z : p + 4 ≡ at + y = omega arith in z) ∙ cut_bytes b at h y cut s c in
    let now : part (with_part b q xs) (p + 4) (length new) ≡ new = ap (part (with_part b q xs) (p + 4)) e ∙ ap
    (λ r. part (with_part b r xs) (p + 4) (length old)) place
    ∙ part-written b (p + 4) (length old) offset xs h1 (omega arith) ∙ ap (λ l. with_part l offset xs) whole ∙ same in
    Spells-with b (with_part b q xs) at h cut.before cut.after old new p s c.is refl e o now

-- ---- blocks in which no bytes at an address lie

le_from : (x y : ℕ) → nat_le x y ≡ true → x ≤ y
le_from x y h = grind (arith, nat_tests)

lt_from : (x y : ℕ) → nat_le y x ≡ false → x < y
lt_from x y h = grind (arith, nat_tests)

is_inside_from : (x n a m : ℕ) → is_inside x n a m ≡ true → (a ≤ x) × (x + n ≤ a + m)
is_inside_from x n a m e = grind (arith, nat_tests)

is_inside_yes : (x n a m : ℕ) → a ≤ x → x + n ≤ a + m → is_inside x n a m ≡ true
is_inside_yes x n a m g h = grind (arith, nat_tests)

is_inside_no : (x n a m : ℕ) → a + m < x → is_inside x n a m ≡ false
is_inside_no x n a m h = grind (arith, nat_tests)

flex_below : (x n p : ℕ) (fs : List Flex) → p + total weight fs < x → NonePass weight (is_at x n) p fs
flex_below x n p [] h = tt
flex_below x n p (f ∷ fs) h = (is_inside_no x n (p + 8) (length f.bytes) (omega arith), flex_below x n (p + weight f) fs (omega arith))

flex_above : (x n p : ℕ) (fs : List Flex) → x < p + 8 → NonePass weight (is_at x n) p fs
flex_above x n p [] h = tt
flex_above x n p (f ∷ fs) h = (ap (λ t. t && nat_le (x + n) (p + 8 + length f.bytes)) (leb_no (p + 8) x h), flex_above x n (p + weight f) fs (omega arith))

heap_below : (x n p : ℕ) (ss : List Segment) → p + total size_of ss < x → NonePass size_of (is_around x n) p ss
heap_below x n p [] h = tt
heap_below x n p (Used bs ∷ ss) h = (is_inside_no x n (p + 4) (length bs) (omega arith), heap_below x n (p + (4 + length bs)) ss (omega arith))
heap_below x n p (Hole m ∷ ss) h = (refl, heap_below x n (p + m) ss (omega arith))

-- ---- the block in which bytes at an address lie

-- the n bytes at an address lie in one block
pub data Holder (s : Slot) (x n : ℕ) : Type 0 where
  flex_holder : (cut : Split Flex) (offset : ℕ) → flex_around x n s ≡ Some cut → s.blocks ≡ cut.before ++ cut.here ∷ cut.after
      → x ≡ flex_address s cut.before + offset → offset + n ≤ length cut.here.bytes → Holder s x n
  heap_holder : (cut : Split Segment) (offset : ℕ) → flex_around x n s ≡ None → block_around (x - heap_start) n s.heap ≡ Some cut
      → HeapCut s.heap (16 + total size_of cut.before + 4) cut
      → x ≡ heap_start + (16 + total size_of cut.before + 4) + offset → offset + n ≤ length (bytes_of cut.here) → Holder s x n

around_used : (x n place : ℕ) (g : Segment) → is_around x n place g ≡ true
    → (g ≡ Used (bytes_of g)) × ((place + 4 ≤ x) × (x + n ≤ place + 4 + length (bytes_of g)))
around_used x n place (Used bs) e = (refl, is_inside_from x n (place + 4) (length bs) e)
around_used x n place (Hole m) e = absurd cc

module _ (s : Slot) (x n : ℕ) where
  in_some_flex : (cut : Split Flex) → flex_around x n s ≡ Some cut → Holder s x n
  in_some_flex cut f =
      let c : IsCut weight (is_at x n) (flex_start s) s.blocks cut =
      subst (λ o. IfSome o (IsCut weight (is_at x n) (flex_start s) s.blocks)) f (first_at-cuts weight (is_at x n) (flex_start s) s.blocks) in
      let r = is_inside_from x n (flex_start s + total weight cut.before + 8) (length cut.here.bytes) c.passes in
      let low = r.0 in
      let high = r.1 in
      flex_holder cut (x - flex_address s cut.before) f c.whole (omega arith) (omega arith)

  in_some_segment : (cut : Split Segment) → flex_around x n s ≡ None → heap_start ≤ x → block_around (x - heap_start) n s.heap ≡ Some cut → Holder s x n
  in_some_segment cut e l f =
      let y = x - heap_start in
      let c : IsCut size_of (is_around y n) 16 s.heap.segments cut =
      subst (λ o. IfSome o (IsCut size_of (is_around y n) 16 s.heap.segments)) f (first_at-cuts size_of (is_around y n) 16 s.heap.segments) in
      let r = around_used y n (16 + total size_of cut.before) cut.here c.passes in
      let low = r.1.0 in
      let high = r.1.1 in
      let is : s.heap.segments ≡ cut.before ++ Used (bytes_of cut.here) ∷ cut.after = c.whole ∙ ap (λ g. cut.before ++ g ∷ cut.after) r.0 in
      let sum : total size_of s.heap.segments ≡ total size_of cut.before + (4 + length (bytes_of cut.here) + total size_of cut.after) =
      ap (total size_of) is ∙ total-append cut.before (Used (bytes_of cut.here) ∷ cut.after) in
      heap_holder cut (x - (heap_start + (16 + total size_of cut.before) + 4)) e f (record { is = is; here = r.0; stands = refl; inside = omega arith })
      (omega arith) (omega arith)

  in_segment : (t : Bool) (o : Option (Split Segment)) → flex_around x n s ≡ None → nat_le heap_start x ≡ t → block_around (x - heap_start) n s.heap ≡ o
      → (t && is_some o) ≡ true → Holder s x n
  in_segment true (Some cut) e l f q = in_some_segment cut e (le_from heap_start x l) f
  in_segment true None e l f q = absurd cc
  in_segment false o e l f q = absurd cc

  in_block : (o : Option (Split Flex)) → flex_around x n s ≡ o
      → (is_some o || (nat_le heap_start x && is_some (block_around (x - heap_start) n s.heap))) ≡ true → Holder s x n
  in_block (Some cut) f q = in_some_flex cut f
  in_block None f q = in_segment (nat_le heap_start x) (block_around (x - heap_start) n s.heap) f refl refl q

  pub holder : holds x n s ≡ true → Holder s x n
  holder q = in_block (flex_around x n s) refl q

-- the block that holds bytes at an address holds the first ones of them
pub holder_of_fewer : (s : Slot) (x n k : ℕ) → k ≤ n → base s.heap ≤ s.heap.end → Holder s x n → Holder s x k
holder_of_fewer s x n k few fits (flex_holder cut offset f is e h) =
    let found : flex_around x k s ≡ Some cut =
    ap (first_at weight (is_at x k) (flex_start s)) is
    ∙ first_at-found weight (is_at x k) (flex_start s) cut.before cut.here cut.after (flex_below x k (flex_start s) cut.before (omega arith))
    (is_inside_yes x k (flex_start s + total weight cut.before + 8) (length cut.here.bytes) (omega arith) (omega arith)) in
    flex_holder cut offset found is e (omega arith)
holder_of_fewer s x n k few fits (heap_holder cut offset e f c q h) =
    let y = x - heap_start in
    let inside = c.inside in
    let none : flex_around x k s ≡ None = first_at-none weight (is_at x k) (flex_start s) s.blocks (flex_above x k (flex_start s) s.blocks (omega arith)) in
    let passes : is_around y k (16 + total size_of cut.before) cut.here ≡ true =
    ap (is_around y k (16 + total size_of cut.before)) c.here
    ∙ is_inside_yes y k (16 + total size_of cut.before + 4) (length (bytes_of cut.here)) (omega arith) (omega arith) in
    let found : block_around y k s.heap ≡ Some cut =
    ap (first_at size_of (is_around y k) 16) (c.is ∙ ap (λ g. cut.before ++ g ∷ cut.after) (sym c.here))
    ∙ first_at-found size_of (is_around y k) 16 cut.before cut.here cut.after (heap_below y k 16 cut.before (omega arith)) passes in
    heap_holder cut offset none found c q (omega arith)

-- bytes that are written at an address go into one block
pub data Lands (s : Slot) (x : ℕ) (xs : List ℕ) (new : Slot) : Type 0 where
  in_heap : (cut : Split Segment) (y offset : ℕ) → HeapCut s.heap y cut → x ≡ heap_start + y + offset → offset + length xs ≤ length (bytes_of cut.here)
      → new ≡ with_heap_bytes cut offset xs s → Lands s x xs new
  in_flex : (cut : Split Flex) (offset : ℕ) → s.blocks ≡ cut.before ++ cut.here ∷ cut.after → x ≡ flex_address s cut.before + offset
      → offset + length xs ≤ length cut.here.bytes
      → new ≡ with_block_bytes cut (written cut.here.bytes offset xs) s → Lands s x xs new

-- they go into the block of the C heap there, which has so much room, or into any block that holds them
abbrev pub Reached : Slot → ℕ → ℕ → List ℕ → Type 0
Reached s x room xs = Lands s x xs (written_in x xs (buffer_at x room s) s)

-- they go into the block that holds them
in_held : (s : Slot) (x : ℕ) (xs : List ℕ) → Holder s x (length xs) → Lands s x xs (written_held x xs s)
in_held s x xs (flex_holder cut offset f is q h) =
    let same : x - flex_address s cut.before ≡ offset = omega arith in
    in_flex cut offset is q h (ap (λ o. written_around x xs o s) f ∙ ap (λ k. with_block_bytes cut (written cut.here.bytes k xs) s) same)
in_held s x xs (heap_holder cut offset f g c q h) =
    let same : x - (heap_start + (16 + total size_of cut.before) + 4) ≡ offset = omega arith in
    in_heap cut (16 + total size_of cut.before + 4) offset c q h
    (ap (λ o. written_around x xs o s) f ∙ ap (λ o. written_heap x xs o s) g ∙ ap (λ k. with_heap_bytes cut k xs s) same)

pub held_lands : (s : Slot) (x : ℕ) (xs : List ℕ) → holds x (length xs) s ≡ true → Lands s x xs (written_held x xs s)
held_lands s x xs q = in_held s x xs (holder s x (length xs) q)

roomy : (n : ℕ) (o : Option (Split Segment)) (cut : Split Segment) → roomy_in n o ≡ Some cut → (o ≡ Some cut) × (n ≤ length (bytes_of cut.here))
roomy n None cut e = absurd cc
roomy n (Some b) cut e = go (nat_le n (length (bytes_of b.here))) refl e
  where
    go : (t : Bool) → nat_le n (length (bytes_of b.here)) ≡ t → cond t (Some b) None ≡ Some cut → (Some b ≡ Some cut) × (n ≤ length (bytes_of cut.here))
    go true q f = let same : b ≡ cut = cc in (f, subst (λ (c : Split Segment). n ≤ length (bytes_of c.here)) same (le_from n (length (bytes_of b.here)) q))
    go false q f = absurd cc

module _ (s : Slot) (x room : ℕ) (xs : List ℕ) (few : length xs ≤ room) (fits : base s.heap ≤ s.heap.end) where
  in_buffer : (cut : Split Segment) → buffer_at x room s ≡ Some cut → Reached s x room xs
  in_buffer cut e =
      let r = roomy room (heap_block_at x s) cut e in
      let c = heap_cut s.heap (x - heap_start) cut r.0 in
      let stands = c.stands in
      in_heap cut (x - heap_start) 0 c (omega arith) (let most = r.1 in omega arith) (ap (λ o. written_in x xs o s) e)

  in_holder : buffer_at x room s ≡ None → Holder s x (length xs) → Reached s x room xs
  in_holder e q = subst (Lands s x xs) (sym (ap (λ o. written_in x xs o s) e)) (in_held s x xs q)

  in_any : (o : Option (Split Segment)) → buffer_at x room s ≡ o → (is_some o || holds x room s) ≡ true → Reached s x room xs
  in_any (Some cut) e q = in_buffer cut e
  in_any None e q = in_holder e (holder_of_fewer s x room (length xs) few fits (holder s x room q))

  pub reached : (is_some (buffer_at x room s) || holds x room s) ≡ true → Reached s x room xs
  reached q = in_any (buffer_at x room s) refl q

-- the same of n bytes of an area
pub reached_part : (s : Slot) (x room n : ℕ) (b : List ℕ) (place : ℕ) (c : List ℕ) → SpellsSlot c s → n ≤ room
    → (is_some (buffer_at x room s) || holds x room s) ≡ true → Reached s x room (part b place n)
reached_part s x room n b place c k few q = let l = length-part b place n in reached s x room (part b place n) (omega arith) k.words.heap.heap.fits q

-- where a block holds them, both are one
pub written_alike : (s : Slot) (x : ℕ) (xs : List ℕ) → base s.heap ≤ s.heap.end → written_in x xs (buffer_at x (length xs) s) s ≡ written_held x xs s
written_alike s x xs fits = go (buffer_at x (length xs) s) refl
  where
    go : (o : Option (Split Segment)) → buffer_at x (length xs) s ≡ o → written_in x xs o s ≡ written_held x xs s
    go None e = refl
    go (Some cut) e =
        let n = length xs in
        let y = x - heap_start in
        let r = roomy n (heap_block_at x s) cut e in
        let most = r.1 in
        let c = heap_cut s.heap y cut r.0 in
        let stands = c.stands in
        let inside = c.inside in
        let none : flex_around x n s ≡ None = first_at-none weight (is_at x n) (flex_start s) s.blocks (flex_above x n (flex_start s) s.blocks (omega arith)) in
        let passes : is_around y n (16 + total size_of cut.before) cut.here ≡ true =
        ap (is_around y n (16 + total size_of cut.before)) c.here
        ∙ is_inside_yes y n (16 + total size_of cut.before + 4) (length (bytes_of cut.here)) (omega arith) (omega arith) in
        let found : block_around y n s.heap ≡ Some cut =
        ap (first_at size_of (is_around y n) 16) (c.is ∙ ap (λ g. cut.before ++ g ∷ cut.after) (sym c.here))
        ∙ first_at-found size_of (is_around y n) 16 cut.before cut.here cut.after (heap_below y n 16 cut.before (omega arith)) passes in
        let same : x - (heap_start + (16 + total size_of cut.before) + 4) ≡ 0 = omega arith in
        sym (ap (λ o. written_around x xs o s) none ∙ ap (λ o. written_heap x xs o s) found ∙ ap (λ k. with_heap_bytes cut k xs s) same)

-- no segment lies around the heap's first byte
heap_above : (n p : ℕ) (ss : List Segment) → NonePass size_of (is_around 0 n) p ss
heap_above n p [] = tt
heap_above n p (Used bs ∷ ss) =
    (ap (λ t. t && nat_le (0 + n) (p + 4 + length bs)) (leb_no (p + 4) 0 (omega arith)), heap_above n (p + (4 + length bs)) ss)
heap_above n p (Hole m ∷ ss) = (refl, heap_above n (p + m) ss)

-- where no block holds them, nothing is written
pub written_nowhere : (s : Slot) (x : ℕ) (xs : List ℕ) → holds x (length xs) s ≡ false → written_held x xs s ≡ s
written_nowhere s x xs = in_flexes (flex_around x (length xs) s) refl
  where
    below : (t : Bool) → nat_le heap_start x ≡ t → (o : Option (Split Segment)) → block_around (x - heap_start) (length xs) s.heap ≡ o
        → (t && is_some o) ≡ false → written_heap x xs o s ≡ s
    below t l None g q = refl
    below true l (Some cut) g q = absurd cc
    below false l (Some cut) g q =
        let low : x - heap_start ≡ 0 = omega (arith, lt_from x heap_start l) in
        let none : block_around (x - heap_start) (length xs) s.heap ≡ None =
        ap (λ y. block_around y (length xs) s.heap) low
        ∙ first_at-none size_of (is_around 0 (length xs)) 16 s.heap.segments (heap_above (length xs) 16 s.heap.segments) in
        absurd (let bad : None ≡ Some cut = sym none ∙ g in cc)

    in_flexes : (o : Option (Split Flex)) → flex_around x (length xs) s ≡ o
        → (is_some o || (nat_le heap_start x && is_some (block_around (x - heap_start) (length xs) s.heap))) ≡ false → written_around x xs o s ≡ s
    in_flexes None f q = below (nat_le heap_start x) refl (block_around (x - heap_start) (length xs) s.heap) refl q
    in_flexes (Some cut) f q = absurd cc

-- ---- where they lie, and what the area's bytes spell then

-- the place of the bytes in the area
pub record Within (b : List ℕ) (x n : ℕ) : Type 0 where
  pub low : heap_start ≤ x
  pub high : x - 32768 + n ≤ length b

pub within : (b : List ℕ) (s : Slot) (x : ℕ) (xs : List ℕ) {new : Slot} → SpellsSlot b s → Lands s x xs new → Within b x (length xs)
within b s x xs k (in_heap cut y offset c e h q) =
    let inside = c.inside in
    let fits = k.words.heap.heap.fits in
    let most = k.words.within in
    record { low = omega arith; high = omega arith }
within b s x xs k (in_flex cut offset is e h q) =
    let f = cut_found s cut.here.anchor cut is refl (HaveAnchors-cut cut.before cut.here cut.after (subst HaveAnchors is k.words.anchors)).before in
    let inside = f.inside in
    let most = k.words.within in
    record { low = omega arith; high = omega arith }

pub landed_spells : (b : List ℕ) (s : Slot) (x : ℕ) (xs : List ℕ) {new : Slot} → SpellsSlot b s → Lands s x xs new
    → SpellsSlot (with_part b (x - 32768) xs) new
landed_spells b s x xs k (in_heap cut y offset c e h q) =
    let inside = c.inside in
    let stands = c.stands in
    let fits = k.words.heap.heap.fits in
    subst (SpellsSlot (with_part b (x - 32768) xs)) (sym q)
    (SpellsSlot-with_heap b (with_part b (x - 32768) xs) s (record s.heap { segments = with_here cut (Used (written (bytes_of cut.here) offset xs)) }) k
    (wider (put_outside b (x - 32768) xs (x - 32768 + length xs) (omega arith)) (omega arith) (omega arith))
    (Spells-put b heap_place s.heap y offset (x - 32768) cut xs k.words.heap c h (omega arith)) refl)
landed_spells b s x xs k (in_flex cut offset is e h q) =
    let f = cut_found s cut.here.anchor cut is refl (HaveAnchors-cut cut.before cut.here cut.after (subst HaveAnchors is k.words.anchors)).before in
    let place : x - 32768 ≡ flex_place s + total weight cut.before + 8 + offset = omega arith in
    let w = put_words b (with_part b (x - 32768) xs) s cut.here.anchor (flex_place s + total weight cut.before)
    (length cut.here.bytes) offset cut xs k.words f h
    (ap (λ p. with_part b p xs) place) in
    subst (SpellsSlot (with_part b (x - 32768) xs)) (sym q) (paged _ _ _ w.0 w.1 (length-put b (x - 32768) xs ∙ k.pages))

pub landed_budging : (s : Slot) (x : ℕ) (xs : List ℕ) {new : Slot} → Lands s x xs new → new.budging ≡ s.budging
landed_budging s x xs (in_heap cut y offset c e h q) = ap (λ (t : Slot). t.budging) q
landed_budging s x xs (in_flex cut offset is e h q) = ap (λ (t : Slot). t.budging) q

-- what is written leaves the C heap its shape
pub landed_shape : (s : Slot) (x : ℕ) (xs : List ℕ) {new : Slot} → Lands s x xs new → SameShape new.heap s.heap
landed_shape s x xs (in_heap cut y offset c e h q) =
    let new = written (bytes_of cut.here) offset xs in
    subst (λ (t : Slot). SameShape t.heap s.heap) (sym q) (record {
      blank = blank-append cut.before (Used new ∷ cut.after)
          ∙ ap (λ n. blank cut.before ++ Used (zeros n) ∷ blank cut.after) (length-written (bytes_of cut.here) offset xs h)
          ∙ sym (ap blank c.is ∙ blank-append cut.before (Used (bytes_of cut.here) ∷ cut.after));
      end = refl;
    })
landed_shape s x xs (in_flex cut offset is e h q) = subst (λ (t : Slot). SameShape t.heap s.heap) (sym q) (record { blank = refl; end = refl })
