-- What each call that may move blocks leaves of their anchor words.
use Rattle.rh_lent_slot.proofs.Common.{◌≡◌, ℕ, ◌+◌, ◌*◌, ◌<◌, ◌≤◌, ◌==◌, Bool, true, false, List, [], ◌∷◌, ◌++◌, length, refl, sym, ap, subst, ◌∙◌}
use Rattle.rh_lent_slot.proofs.Common.{arith, Option, Some, None, Ok, Err, OnErr, ℤ, no_answer}
use Rattle.rh_lent_slot.proofs.Common.{lent_slot_bytes, lent_slot_in, IsSlotBytes, LeavesSlot}
use Rattle.std.proofs.Common.{◌≢◌}
use Rattle.std.specs.Prelude.{IfSome}
use Rattle.rh_defs.specs.Bytes.{word}
use Rattle.rh_defs.specs.Chain.{Granted, answer_of, left_of, ◌>>=◌, refuse_if, found_or}
use Rattle.rh_defs.specs.Heap.{Heap}
use Rattle.rh_defs.specs.Pieces.{Split}
use Rattle.rh_defs.specs.Slot.{Flex, IsFree, Slot, weight, HaveAnchors, anchor_count, block_of, without, with_heap, with_block_bytes, flex_start}
use Rattle.rh_defs.specs.Slot.{slot_block, slot_free, slot_extend, slot_mid, slot_claim, slot_resize}
use Rattle.rh_defs.specs.SlotImage.{SlotWords, flex_place}
use Rattle.rh_defs.specs.declared.refusal.Refusal.{Refusal}
use Rattle.rh_defs.specs.declared.refusal.Refusal.TheVariants.{NoBlock}
use Rattle.rh_defs.proofs.HeapLists.{cond_true, eqb_same, IsCut, first_at-cuts}
use Rattle.rh_defs.proofs.SlotLaws.{Anchored-split, HaveAnchors-cut}
use Rattle.rh_defs.specs.SlotImage.{Anchored}
use Rattle.rh_lent_slot.specs.SlotSlides.{slides_after}
use Rattle.rh_lent_slot.specs.Inner.NotedWords.{NotesFirst, behind_cut, blocks_above, slides_noted}
use Rattle.rh_lent_slot.specs.declared.slides.NotedWord.{NotedWord}
use Rattle.rh_lent_slot.specs.declared.slot.LentSlot.{LentSlot}
use Rattle.rh_lent_slot.proofs.SlideLaws.{AllRest, rests_new, rests_same, counts_none, counts_noted, all_same, top_gone, same_weight, none_above}

-- ---- what is granted

-- a call on the anchor's block: it is refused, or the block goes, or it has other bytes
pub data Alters (k : ℕ) (s : Slot) : Granted (Slot × Unit {0}) → Type 0 where
  refuses : (r : Refusal) → Alters k s (Err r)
  takes : (cut : Split Flex) → block_of k s ≡ Some cut → Alters k s (Ok (without cut s, tt))
  fills : (cut : Split Flex) (bytes : List ℕ) → block_of k s ≡ Some cut → Alters k s (Ok (with_block_bytes cut bytes s, tt))

-- the steps behind the search for the block
then_block : (k : ℕ) (s : Slot) (next : Split Flex → Granted Slot)
    → ((cut : Split Flex) → block_of k s ≡ Some cut → Alters k s (no_answer (next cut))) → Alters k s (no_answer (slot_block k s >>= next))
unfolding slot_block found_or ◌>>=◌
then_block k s next h = go (block_of k s) refl
  where
    go : (o : Option (Split Flex)) → block_of k s ≡ o → Alters k s (no_answer (found_or o NoBlock >>= next))
    go None e = refuses NoBlock
    go (Some cut) e = h cut e

then_room : (k : ℕ) (s : Slot) (t : Bool) (r : Refusal) (left : Granted Slot) → Alters k s (no_answer left)
    → Alters k s (no_answer (refuse_if t r >>= (λ _. left)))
unfolding refuse_if ◌>>=◌
then_room k s true r left h = refuses r
then_room k s false r left h = h

pub alters-free : (k : ℕ) (s : Slot) → Alters k s (no_answer (slot_free k s))
unfolding slot_free
alters-free k s = then_block k s _ (λ cut e. takes cut e)

pub alters-extend : (free k n : ℕ) (s : Slot) → Alters k s (no_answer (slot_extend free k n s))
unfolding slot_extend
alters-extend free k n s = then_block k s _ (λ cut e. then_room k s _ _ _ (fills cut _ e))

pub alters-mid : (free k offset : ℕ) (by : ℤ) (s : Slot) → Alters k s (no_answer (slot_mid free k offset by s))
unfolding slot_mid
alters-mid free k offset by s = then_block k s _ (λ cut e. then_room k s _ _ _ (then_room k s _ _ _ (fills cut _ e)))

-- a call on the C heap: it is refused, or the slot has another C heap
pub data Heaps (s : Slot) : Granted (Slot × ℕ) → Type 0 where
  refuses_heap : (r : Refusal) → Heaps s (Err r)
  holds_heap : (h : Heap) (a : ℕ) → Heaps s (Ok (with_heap h s, a))

heaps_room : (s : Slot) (t : Bool) (r : Refusal) (left : Granted (Slot × ℕ)) → Heaps s left → Heaps s (refuse_if t r >>= (λ _. left))
unfolding refuse_if ◌>>=◌
heaps_room s true r left h = refuses_heap r
heaps_room s false r left h = h

heaps_found : {A : Type 0} (s : Slot) (o : Option A) (r : Refusal) (next : A → Granted (Slot × ℕ)) → ((x : A) → Heaps s (next x))
    → Heaps s (found_or o r >>= next)
unfolding found_or ◌>>=◌
heaps_found s None r next h = refuses_heap r
heaps_found s (Some x) r next h = h x

pub heaps-claim : (free n : ℕ) (s : Slot) → Heaps s (slot_claim free n s)
unfolding slot_claim
heaps-claim free n s = heaps_room s _ _ _ (heaps_room s _ _ _ (heaps_room s _ _ _ (holds_heap _ _)))

pub heaps-resize : (free a : ℕ) (d : ℤ) (s : Slot) → Heaps s (slot_resize free a d s)
unfolding slot_resize
heaps-resize free a d s = heaps_found s _ _ _ (λ b. heaps_room s _ _ _ (heaps_room s _ _ _ (heaps_room s _ _ _ (holds_heap _ _))))

-- ---- what is counted

cut_whole : (k : ℕ) (s : Slot) (cut : Split Flex) → block_of k s ≡ Some cut → s.blocks ≡ cut.before ++ cut.here ∷ cut.after
cut_whole k s cut e =
    let c : IsCut weight (λ _ b. b.anchor == k) (flex_start s) s.blocks cut =
    subst (λ o. IfSome o (IsCut weight (λ _ b. b.anchor == k) (flex_start s) s.blocks)) e
    (first_at-cuts weight (λ _ b. b.anchor == k) (flex_start s) s.blocks) in
    c.whole

-- a block that is there before and after: where its anchor word is the same, every block rests
abbrev Tells : List ℕ → List ℕ → Flex → Type 0
Tells b c g =
    (g.anchor < anchor_count) × (word b (4 * g.anchor) ≢ 0) × (word c (4 * g.anchor) ≢ 0)
    × (word b (4 * g.anchor) ≡ word c (4 * g.anchor) → AllRest b c)

-- bytes b spelled a slot s, and c spell t
module _ (b c : List ℕ) (s t : Slot) (w : SlotWords b s) (x : SlotWords c t) (n : ℕ) (noted : Option NotedWord) where
  -- a refused call leaves all
  pub counts_same : (bl : List Flex) → HaveAnchors bl → NotesFirst b bl noted → c ≡ b → slides_noted n noted c ≡ slides_after n b c
  counts_same bl small notes e = go bl noted small notes
    where
      rest : AllRest b c
      rest k l = rests_same (ap (λ (i : List ℕ). word i (4 * k)) (sym e))

      go : (bl : List Flex) (noted : Option NotedWord) → HaveAnchors bl → NotesFirst b bl noted → slides_noted n noted c ≡ slides_after n b c
      go [] None small notes = counts_none n b c rest
      go [] (Some note) small notes = absurd notes
      go (g ∷ gs) None small notes = absurd notes
      go (g ∷ gs) (Some note) small notes =
          cond_true (word c note.at == note.word) _ _ (eqb_same _ _ (ap (λ (i : List ℕ). word i note.at) e ∙ sym notes.1))
          ∙ counts_none n b c rest

  -- the blocks from one on stand elsewhere, or all rest
  counts_from : (ys : List Flex) → NotesFirst b ys noted → (ys ≡ [] → AllRest b c)
      → ((g : Flex) (zs : List Flex) → ys ≡ g ∷ zs
      → Tells b c g)
      → slides_noted n noted c ≡ slides_after n b c
  counts_from ys notes none some = go ys noted notes none some
    where
      go : (ys : List Flex) (noted : Option NotedWord) → NotesFirst b ys noted → (ys ≡ [] → AllRest b c)
          → ((g : Flex) (zs : List Flex) → ys ≡ g ∷ zs
          → Tells b c g)
          → slides_noted n noted c ≡ slides_after n b c
      go [] None notes none some = counts_none n b c (none refl)
      go [] (Some note) notes none some = absurd notes
      go (g ∷ gs) None notes none some = absurd notes
      go (g ∷ gs) (Some note) notes none some =
          let h = some g gs refl in
          counts_noted n b c g.anchor note notes.0 notes.1 h.0 h.1 h.2 h.3

  -- a call on the anchor's block
  pub counts_above : (k : ℕ) (granted : Granted (Slot × Unit {0})) → Alters k s granted → t ≡ left_of s granted
      → ((r : Refusal) → granted ≡ Err r → c ≡ b) → NotesFirst b (blocks_above k s) noted → slides_noted n noted c ≡ slides_after n b c
  counts_above k granted (refuses r) left same notes = counts_same (blocks_above k s) (small (block_of k s) refl) notes (same r refl)
    where
      small : (o : Option (Split Flex)) → block_of k s ≡ o → HaveAnchors (behind_cut o)
      small None e = tt
      small (Some cut) e = (HaveAnchors-cut cut.before cut.here cut.after (subst HaveAnchors (cut_whole k s cut e) w.anchors)).above
  counts_above k granted (takes cut e) left same notes =
      let is = cut_whole k s cut e in
      let now : t.blocks ≡ cut.before ++ cut.after = ap (λ (r : Slot). r.blocks) left in
      let place : flex_place s ≡ flex_place t = ap flex_place (sym left) in
      counts_from cut.after (subst (λ ys. NotesFirst b ys noted) (ap behind_cut e) notes)
      (λ z. top_gone b c s t w x place cut.before cut.here (is ∙ ap (λ ys. cut.before ++ cut.here ∷ ys) z)
      (now ∙ ap (λ ys. cut.before ++ ys) z ∙ no_more cut.before))
      (λ g zs z.
      let old = is ∙ ap (λ ys. cut.before ++ cut.here ∷ ys) z in
      let new = now ∙ ap (λ ys. cut.before ++ ys) z in
      let l = (HaveAnchors-cut cut.before cut.here (g ∷ zs) (subst HaveAnchors old w.anchors)).above.0 in
      let h = (Anchored-split b (flex_place s) cut.before (cut.here ∷ g ∷ zs) (subst (Anchored b (flex_place s)) old w.anchored)).1.1.0 in
      let i = (Anchored-split c (flex_place t) cut.before (g ∷ zs) (subst (Anchored c (flex_place t)) new x.anchored)).1.0 in
      (l, (λ q. absurd (omega (arith, h, q))), (λ q. absurd (omega (arith, i, q))), (λ q. absurd (omega (arith, h, i, q, place)))))
    where
      no_more : (xs : List Flex) → xs ++ [] ≡ xs
      no_more [] = refl
      no_more (y ∷ xs) = ap (λ l. y ∷ l) (no_more xs)
  counts_above k granted (fills cut bytes e) left same notes =
      let is = cut_whole k s cut e in
      let f : Flex = record { anchor = cut.here.anchor; bytes = bytes } in
      let now : t.blocks ≡ cut.before ++ f ∷ cut.after = ap (λ (r : Slot). r.blocks) left in
      let place : flex_place s ≡ flex_place t = ap flex_place (sym left) in
      counts_from cut.after (subst (λ ys. NotesFirst b ys noted) (ap behind_cut e) notes)
      (λ z. none_above b c s t w x place cut.before cut.here cut.after is f refl now z)
      (λ g zs z.
      let old = is ∙ ap (λ ys. cut.before ++ cut.here ∷ ys) z in
      let new = now ∙ ap (λ ys. cut.before ++ f ∷ ys) z in
      let l = (HaveAnchors-cut cut.before cut.here (g ∷ zs) (subst HaveAnchors old w.anchors)).above.0 in
      let h = (Anchored-split b (flex_place s) cut.before (cut.here ∷ g ∷ zs) (subst (Anchored b (flex_place s)) old w.anchored)).1.1.0 in
      let i = (Anchored-split c (flex_place t) cut.before (f ∷ g ∷ zs) (subst (Anchored c (flex_place t)) new x.anchored)).1.1.0 in (
        l,
        (λ q. absurd (omega (arith, h, q))),
        (λ q. absurd (omega (arith, i, q))),
        (λ q. same_weight b c s t w x place cut.before cut.here cut.after is f refl now (omega (arith, h, i, q, place))),
      ))

  -- a call on the C heap
  pub counts_lowest : (granted : Granted (Slot × ℕ)) → Heaps s granted → t ≡ left_of s granted → ((r : Refusal) → granted ≡ Err r → c ≡ b)
      → NotesFirst b s.blocks noted → slides_noted n noted c ≡ slides_after n b c
  counts_lowest granted (refuses_heap r) left same notes = counts_same s.blocks w.anchors notes (same r refl)
  counts_lowest granted (holds_heap h a) left same notes =
      let now : s.blocks ≡ t.blocks = ap (λ (r : Slot). r.blocks) (sym left) in
      counts_from s.blocks notes
      (λ z. none_at_all z now)
      (λ g zs z.
      let l = (subst HaveAnchors z w.anchors).0 in
      let h = (subst (Anchored b (flex_place s)) z w.anchored).0 in
      let i = (subst (Anchored c (flex_place t)) (sym now ∙ z) x.anchored).0 in (
        l,
        (λ q. absurd (omega (arith, h, q))),
        (λ q. absurd (omega (arith, i, q))),
        (λ q. all_same b c s t w x (omega (arith, h, i, q)) now),
      ))
    where
      none_at_all : s.blocks ≡ [] → s.blocks ≡ t.blocks → AllRest b c
      none_at_all z now k l = rests_new (w.none k l (subst (IsFree k) (sym z) tt))

-- ---- calls on slots in lent bytes

-- a refused call leaves the bytes of the slot's pages
stays_of : {A : Type 0} (b c : List ℕ) (s t : LentSlot) (granted : Granted (Slot × A)) (result : Granted A) → LeavesSlot b c s t granted result
    → (r : Refusal) → granted ≡ Err r → lent_slot_bytes c t ≡ lent_slot_bytes b s
stays_of {A} b c s t granted result left r e = go result (left.answer ∙ ap answer_of e) left.err
  where
    go : (o : Granted A) → o ≡ Err r → OnErr o ((t.pages ≡ s.pages) × (lent_slot_bytes c t ≡ lent_slot_bytes b s))
        → lent_slot_bytes c t ≡ lent_slot_bytes b s
    go (Ok y) f h = absurd cc
    go (Err q) f h = h.1

module _ (b c : List ℕ) (s t : LentSlot) (noted : Option NotedWord) (h : IsSlotBytes b s) where
  pub counted_above : (k : ℕ) (granted : Granted (Slot × Unit {0})) (result : Granted (Unit {0})) → Alters k (lent_slot_in b s) granted
      → LeavesSlot b c s t granted result → NotesFirst (lent_slot_bytes b s) (blocks_above k (lent_slot_in b s)) noted
      → slides_noted s.slides noted (lent_slot_bytes c t) ≡ slides_after s.slides (lent_slot_bytes b s) (lent_slot_bytes c t)
  counted_above k granted result is left notes =
      counts_above (lent_slot_bytes b s) (lent_slot_bytes c t) (lent_slot_in b s) (lent_slot_in c t) h.spells.words left.bytes.spells.words
      s.slides noted k granted is left.slot (stays_of b c s t granted result left) notes

  pub counted_lowest : (granted : Granted (Slot × ℕ)) (result : Granted ℕ) → Heaps (lent_slot_in b s) granted
      → LeavesSlot b c s t granted result → NotesFirst (lent_slot_bytes b s) (lent_slot_in b s).blocks noted
      → slides_noted s.slides noted (lent_slot_bytes c t) ≡ slides_after s.slides (lent_slot_bytes b s) (lent_slot_bytes c t)
  counted_lowest granted result is left notes =
      counts_lowest (lent_slot_bytes b s) (lent_slot_bytes c t) (lent_slot_in b s) (lent_slot_in c t) h.spells.words left.bytes.spells.words
      s.slides noted granted is left.slot (stays_of b c s t granted result left) notes

-- an anchor word lies in the pages of every slot
pub noted_in : (c : List ℕ) (t : LentSlot) (noted : Option NotedWord) → IsSlotBytes c t → IfSome noted (λ n. n.at + 4 ≤ 256)
    → IfSome noted (λ n. n.at + 4 ≤ length (lent_slot_bytes c t))
noted_in c t None h l = tt
noted_in c t (Some note) h l = let fits = h.spells.words.within in omega arith
