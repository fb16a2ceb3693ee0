-- The anchor word that is noted before a call is that of the first block of a row.
use Rattle.rh_lent_slot.proofs.Common.{◌≡◌, ℕ, ◌+◌, ◌-◌, ◌*◌, ◌%◌, true, false, List, [], ◌∷◌}
use Rattle.rh_lent_slot.proofs.Common.{◌++◌, refl, sym, ap, subst, ◌∙◌, append_assoc, arith, Option, Some, None}
use Rattle.std.specs.Prelude.{MatchOption}
use Rattle.rh_defs.specs.Bytes.{word}
use Rattle.rh_defs.specs.Pieces.{total}
use Rattle.rh_defs.specs.Slot.{Flex, Slot, IsFree, weight, flex_weight, slot_start}
use Rattle.rh_defs.specs.SlotImage.{SlotWords, flex_place, is_block}
use Rattle.rh_defs.proofs.Cuts.{total-append}
use Rattle.rh_defs.proofs.SlotLaws.{block_of-none, block_of-at}
use Rattle.rh_slot.specs.Inner.FoundBlocks.{FoundFlex}
use Rattle.rh_slot.specs.Inner.RowWalks.{Walked}
use Rattle.rh_slot.proofs.WalkLaws.{stands, at_block, at_top}
use Rattle.rh_lent_slot.specs.Inner.NotedWords.{LeadsTo, NotesFirst, behind_cut, blocks_above}
use Rattle.rh_lent_slot.specs.declared.slides.NotedWord.{NotedWord}

-- what is noted at a place
abbrev pub NotedAt : List ℕ → ℕ → Option NotedWord → Type 0
NotedAt b q noted = MatchOption noted (is_block b q ≡ false) (LeadsTo b q)

hit : (b : List ℕ) (q : ℕ) (noted : Option NotedWord) (g : Flex) (gs : List Flex) → NotedAt b q noted → is_block b q ≡ true
    → word b q ≡ slot_start + 4 * g.anchor → NotesFirst b (g ∷ gs) noted
hit b q None g gs m t h = absurd (cc)
hit b q (Some note) g gs m t h = (omega (arith, m.at, h), m.word)

miss : (b : List ℕ) (q : ℕ) (noted : Option NotedWord) → NotedAt b q noted → is_block b q ≡ false → NotesFirst b [] noted
miss b q None m f = tt
miss b q (Some note) m f = absurd (let t = m.stands in cc)

-- where a row of blocks begins its first one is noted
pub notes_row : (b : List ℕ) (s : Slot) (q : ℕ) (before rest : List Flex) (noted : Option NotedWord) → SlotWords b s → s.blocks ≡ before ++ rest
    → q ≡ flex_place s + total weight before → NotedAt b q noted → NotesFirst b rest noted
notes_row b s q before rest noted k is at m =
    let w : Walked s q = record { before = before; rest = rest; is = is; place_is = at } in
    elim (stands b s q k w) [
      | at_block n ↦ subst (λ l. NotesFirst b l noted) (sym n.rest_is) (hit b q noted n.here n.after m n.test n.head)
      | at_top e f ↦ subst (λ l. NotesFirst b l noted) (sym e) (miss b q noted m f)
    ]

-- above a block
pub notes_above : (b : List ℕ) (s : Slot) (k place size q : ℕ) (noted : Option NotedWord) → SlotWords b s → FoundFlex k s place size
    → q ≡ place + flex_weight size → NotedAt b q noted → NotesFirst b (blocks_above k s) noted
notes_above b s k place size q noted w f e m =
    let cut = f.cut in
    let t = f.at in
    let one : s.blocks ≡ (cut.before ++ cut.here ∷ []) ++ cut.after = t.is ∙ sym (append_assoc cut.before (cut.here ∷ []) cut.after) in
    let at : q ≡ flex_place s + total weight (cut.before ++ cut.here ∷ []) =
    omega (arith, e, t.stands, ap flex_weight t.long, total-append weight cut.before (cut.here ∷ [])) in
    subst (λ l. NotesFirst b l noted) (sym (ap behind_cut (block_of-at k s cut t.is t.free t.anchor)))
    (notes_row b s q (cut.before ++ cut.here ∷ []) cut.after noted w one at m)

-- an anchor without a block has none above it
pub notes_none : (b : List ℕ) (s : Slot) (k : ℕ) → IsFree k s.blocks → NotesFirst b (blocks_above k s) None
notes_none b s k u = subst (λ l. NotesFirst b l None) (sym (ap behind_cut (block_of-none k s u))) tt

-- the lowest block
pub notes_lowest : (b : List ℕ) (s : Slot) (end : ℕ) (noted : Option NotedWord) → SlotWords b s → end ≡ word b 268 → NotedAt b (256 + end) noted
    → NotesFirst b s.blocks noted
notes_lowest b s end noted w e m = let l = w.heap.last in notes_row b s (256 + end) [] s.blocks noted w refl (omega (arith, e, l)) m

-- blocks stand at whole words
whole_row : (xs : List Flex) → total weight xs % 4 ≡ 0
whole_row [] = refl
whole_row (x ∷ xs) = let r = whole_row xs in omega arith

pub whole_above : (s : Slot) (k place size w : ℕ) → s.heap.end % 4 ≡ 0 → FoundFlex k s place size → w ≡ flex_weight size → (place + w) % 4 ≡ 0
whole_above s k place size w h f e = let st = f.at.stands in let r = whole_row f.cut.before in omega arith
