-- One turn of the walk over a slot's flex blocks, and how it ends.
use Rattle.rh_slot.proofs.Common.{◌≡◌, ℕ, zero, suc, ◌+◌, ◌-◌, ◌*◌, ◌/◌, ◌<◌, ◌≤◌, Bool, true, false, List, [], ◌∷◌, ◌++◌, length, refl, sym, ap, subst, ◌∙◌}
use Rattle.rh_slot.proofs.Common.{append_assoc, arith, length-append, take, drop, Some, None, is_some, slice_get, PAGE, word, total, Flex, Slot, weight}
use Rattle.rh_slot.proofs.Common.{flex_weight, slot_start, slot_length, flex_start, HaveAnchors, anchor_count, Lie, Anchored, SlotWords, SpellsSlot, flex_place}
use Rattle.rh_slot.proofs.Common.{is_block, block_items, BlockItem, Lie-split, Anchored-split, HaveAnchors-cut, Walked, row_item, WalksIn, length-take-le}
use Rattle.rh_defs.specs.Pieces.{first_at, is_inside}
use Rattle.rh_defs.specs.Inner.NonePassing.{NonePass}
use Rattle.rh_defs.specs.Slot.{flex_around}
use Rattle.rh_defs.specs.Questions.{block_items_from}
use Rattle.rh_defs.proofs.Cuts.{total-append}
use Rattle.rh_defs.proofs.HeapLists.{NonePass-append, first_at-none, first_at-found}
use Rattle.rh_defs.proofs.SlotImageLaws.{is_block-here, is_block-top}
use Rattle.std.proofs.lemmas.List.{take-append-drop}
use Rattle.std.proofs.Math.Seq.{take-append_seam}
use Rattle.rh_slot.specs.declared.row.FlexWalk.{FlexWalk}

pub walked_start : (s : Slot) (place : ℕ) → place ≡ flex_place s → Walked s place
walked_start s place e = record { before = []; rest = s.blocks; is = refl; place_is = omega arith }

-- the block at which a walk stands
pub record Next (b : List ℕ) (s : Slot) (place : ℕ) (w : Walked s place) : Type 0 where
  pub here : Flex
  pub after : List Flex
  pub rest_is : w.rest ≡ here ∷ after
  pub head : word b place ≡ slot_start + 4 * here.anchor
  pub small : here.anchor < anchor_count
  pub size : word b (place + 4) ≡ length here.bytes
  pub fits : place + weight here ≤ slot_length s
  pub test : is_block b place ≡ true

pub at_end : (s : Slot) (place : ℕ) (w : Walked s place) → w.rest ≡ [] → place ≡ slot_length s
at_end s place w e = omega (arith, w.place_is, ap (total weight) w.is, total-append weight w.before w.rest, ap (total weight) e)

next_at : (b : List ℕ) (s : Slot) (place : ℕ) (w : Walked s place) (f : Flex) (ys : List Flex) → SlotWords b s → w.rest ≡ f ∷ ys → Next b s place w
next_at b s place w f ys k e =
    let is : s.blocks ≡ w.before ++ f ∷ ys = w.is ∙ ap (λ l. w.before ++ l) e in
    let q : flex_place s + total weight w.before ≡ place = sym w.place_is in
    let lie = subst (λ p. Lie b p (f ∷ ys)) q (Lie-split b (flex_place s) w.before (f ∷ ys) (subst (Lie b (flex_place s)) is k.lie)).1 in
    let led = subst (λ p. Anchored b p (f ∷ ys)) q (Anchored-split b (flex_place s) w.before (f ∷ ys) (subst (Anchored b (flex_place s)) is k.anchored)).1 in
    let small = (HaveAnchors-cut w.before f ys (subst HaveAnchors is k.anchors)).small in
    record {
      here = f;
      after = ys;
      rest_is = e;
      head = lie.0;
      small = small;
      size = lie.1;
      fits = omega (arith, q, ap (total weight) is, total-append weight w.before (f ∷ ys));
      test = is_block-here b place f ys lie led small;
    }

-- a walk stands at a block or at the end
pub data Stands (b : List ℕ) (s : Slot) (place : ℕ) (w : Walked s place) : Type 0 where
  at_block : Next b s place w → Stands b s place w
  at_top : w.rest ≡ [] → is_block b place ≡ false → Stands b s place w

stands_at : (b : List ℕ) (s : Slot) (place : ℕ) (w : Walked s place) (rest : List Flex) → SlotWords b s → w.rest ≡ rest → Stands b s place w
stands_at b s place w [] k e = at_top e (is_block-top b s place k (at_end s place w e))
stands_at b s place w (f ∷ ys) k e = at_block (next_at b s place w f ys k e)

pub stands : (b : List ℕ) (s : Slot) (place : ℕ) → SlotWords b s → (w : Walked s place) → Stands b s place w
stands b s place k w = stands_at b s place w w.rest k refl

pub next : (b : List ℕ) (s : Slot) (place : ℕ) → SlotWords b s → (w : Walked s place) → is_block b place ≡ true → Next b s place w
next b s place k w t = elim (stands b s place k w) [ at_block n ↦ n | at_top e f ↦ absurd (cc) ]

pub last : (b : List ℕ) (s : Slot) (place : ℕ) → SlotWords b s → (w : Walked s place) → is_block b place ≡ false → w.rest ≡ []
last b s place k w t = elim (stands b s place k w) [ at_block n ↦ absurd (let y = n.test in cc) | at_top e f ↦ e ]

pub walked_most : (b : List ℕ) (s : Slot) (place : ℕ) → SlotWords b s → Walked s place → place ≤ length b
walked_most b s place k w = let l = k.within in omega (arith, w.place_is, ap (total weight) w.is, total-append weight w.before w.rest)

-- where a header has no room, no block stands
pub no_room : (b : List ℕ) (s : Slot) (place : ℕ) → SlotWords b s → Walked s place → length b < place + 8 → is_block b place ≡ false
no_room b s place k w l = elim (stands b s place k w) [ at_block n ↦ absurd (let f = n.fits in let i = k.within in omega arith) | at_top e f ↦ f ]

-- the slot ends in the last page, so below it a walk stands at a block
pub below_last : (b : List ℕ) (s : Slot) (place : ℕ) → SpellsSlot b s → Walked s place → place + PAGE ≤ length b → is_block b place ≡ true
below_last b s place k w l = elim (stands b s place k.words w) [ at_block n ↦ n.test | at_top e f ↦ absurd (omega (arith, at_end s place w e, k.pages)) ]

-- the walk after one block
pub onward : (b : List ℕ) (s : Slot) (place : ℕ) (w : Walked s place) (n : Next b s place w) (size step : ℕ) → size ≡ word b (place + 4)
    → step ≡ flex_weight size → step ≡ weight n.here
onward b s place w n size step es e = e ∙ ap flex_weight (es ∙ n.size)

abbrev pub walked_on : (b : List ℕ) (s : Slot) (place : ℕ) (w : Walked s place) (n : Next b s place w) (step : ℕ) → step ≡ weight n.here
    → Walked s (place + step)
walked_on b s place w n step e = record {
  before = w.before ++ n.here ∷ [];
  rest = n.after;
  is = w.is ∙ ap (λ l. w.before ++ l) n.rest_is ∙ sym (append_assoc w.before (n.here ∷ []) n.after);
  place_is = omega (arith, w.place_is, total-append weight w.before (n.here ∷ []));
}

-- what one turn finds, for any size that is read
pub record Turn (b : List ℕ) (s : Slot) (place size : ℕ) : Type 0 where
  pub fits : place + flex_weight size ≤ slot_length s
  pub inside : place + flex_weight size ≤ length b
  pub walked : (step : ℕ) → step ≡ flex_weight size → Walked s (place + step)

pub turn : (b : List ℕ) (s : Slot) (place : ℕ) → SlotWords b s → (w : Walked s place) → is_block b place ≡ true → (size : ℕ) → size ≡ word b (place + 4)
    → Turn b s place size
turn b s place k w t size es =
    let n = next b s place k w t in
    let e = onward b s place w n size (flex_weight size) es refl in
    let f = n.fits in
    let i = k.within in
    record { fits = omega arith; inside = omega arith; walked = λ step u. walked_on b s place w n step (onward b s place w n size step es u) }

-- ---- the blocks as they are listed

items_past : (place : ℕ) (xs ys : List Flex)
    → slice_get (block_items_from place (xs ++ ys)) (length xs) ≡ slice_get (block_items_from (place + total weight xs) ys) 0
items_past place [] ys = ap (λ p. slice_get (block_items_from p ys) 0) (omega arith)
items_past place (x ∷ xs) ys = items_past (place + weight x) xs ys ∙ ap (λ p. slice_get (block_items_from p ys) 0) (omega arith)

no_item : (place : ℕ) (xs : List Flex) (i : ℕ) → length xs ≤ i → slice_get (block_items_from place xs) i ≡ None
no_item place [] i h = refl
no_item place (x ∷ xs) zero h = absurd (omega arith)
no_item place (x ∷ xs) (suc i) h = no_item (place + weight x) xs i (omega arith)

item_is : (k a n k' a' n' : ℕ) → k ≡ k' → a ≡ a' → n ≡ n'
    → (let r : BlockItem = record { anchor = k; address = a; size = n } in r) ≡ record { anchor = k'; address = a'; size = n' }
item_is k a n k' a' n' e f h =
    ap (λ (j : ℕ). let r : BlockItem = record { anchor = j; address = a; size = n } in r) e
    ∙ ap (λ (j : ℕ). let r : BlockItem = record { anchor = k'; address = j; size = n } in r) f
    ∙ ap (λ (j : ℕ). let r : BlockItem = record { anchor = k'; address = a'; size = j } in r) h

-- the block that follows so many
pub item_here : (b : List ℕ) (s : Slot) (place i : ℕ) → SlotWords b s → (w : Walked s place) → i ≡ length w.before → is_block b place ≡ true
    → Some (row_item b place) ≡ slice_get (block_items s) i
item_here b s place i x w e t =
    let n = next b s place x w t in
    let is : s.blocks ≡ w.before ++ n.here ∷ n.after = w.is ∙ ap (λ l. w.before ++ l) n.rest_is in
    let p = w.place_is in
    let h = n.head in
    sym (ap (λ l. slice_get (block_items_from (flex_start s) l) i) is
    ∙ ap (slice_get (block_items_from (flex_start s) (w.before ++ n.here ∷ n.after))) e
    ∙ items_past (flex_start s) w.before (n.here ∷ n.after)
    ∙ ap (λ (r : BlockItem). Some r) (item_is n.here.anchor (flex_start s + total weight w.before + 8) (length n.here.bytes)
    ((word b place - slot_start) / 4) (slot_start + place + 8) (word b (place + 4))
    (omega arith) (omega arith) (sym n.size)))

pub item_none : (b : List ℕ) (s : Slot) (place i : ℕ) → SlotWords b s → (w : Walked s place) → i ≡ length w.before → is_block b place ≡ false
    → slice_get (block_items s) i ≡ None
item_none b s place i x w e t =
    no_item (flex_start s) s.blocks i (omega (arith, e, ap length w.is, length-append w.before w.rest, ap length (last b s place x w t)))

-- ---- the walk that looks for the block in which bytes lie

-- whether n bytes at x lie in a block that stands at a place of application space
abbrev pub is_at : ℕ → ℕ → ℕ → Flex → Bool
is_at x n place f = is_inside x n (place + 8) (length f.bytes)

-- the walk has passed some blocks, and the n bytes at x lie in none of them
pub record Unheld (s : Slot) (place x n : ℕ) : Type 0 where
  pub walked : Walked s place
  pub none : NonePass weight (is_at x n) (flex_start s) walked.before

pub unheld_start : (s : Slot) (place x n : ℕ) → place ≡ flex_place s → Unheld s place x n
unfolding walked_start
unheld_start s place x n e = record { walked = walked_start s place e; none = tt }

test_here : (b : List ℕ) (s : Slot) (place x n : ℕ) (w : Unheld s place x n) (m : Next b s place w.walked) (size : ℕ) → size ≡ word b (place + 4)
    → is_at x n (flex_start s + total weight w.walked.before) m.here ≡ is_inside x n (slot_start + place + 8) size
test_here b s place x n w m size es =
    ap (λ p. is_inside x n p (length m.here.bytes)) (omega (arith, w.walked.place_is)) ∙ ap (is_inside x n (slot_start + place + 8)) (sym (es ∙ m.size))

pub unheld_on : (b : List ℕ) (s : Slot) (place x n : ℕ) → SlotWords b s → (w : Unheld s place x n) → is_block b place ≡ true → (size step : ℕ)
    → size ≡ word b (place + 4) → step ≡ flex_weight size → is_inside x n (slot_start + place + 8) size ≡ false → Unheld s (place + step) x n
unheld_on b s place x n k w t size step es e f =
    let m = next b s place k w.walked t in
    record {
      walked = walked_on b s place w.walked m step (onward b s place w.walked m size step es e);
      none = NonePass-append weight (is_at x n) (flex_start s) w.walked.before (m.here ∷ []) w.none (test_here b s place x n w m size es ∙ f, tt);
    }

pub held : (b : List ℕ) (s : Slot) (place x n : ℕ) → SlotWords b s → (w : Unheld s place x n) → is_block b place ≡ true → (size : ℕ) → size ≡ word b (place + 4)
    → is_inside x n (slot_start + place + 8) size ≡ true → is_some (flex_around x n s) ≡ true
held b s place x n k w t size es f =
    let m = next b s place k w.walked t in
    ap (λ l. is_some (first_at weight (is_at x n) (flex_start s) l)) (w.walked.is ∙ ap (λ l. w.walked.before ++ l) m.rest_is)
    ∙ ap (λ o. is_some o) (first_at-found weight (is_at x n) (flex_start s) w.walked.before m.here m.after w.none (test_here b s place x n w m size es ∙ f))

pub not_held : (b : List ℕ) (s : Slot) (place x n : ℕ) → SlotWords b s → (w : Unheld s place x n) → is_block b place ≡ false
    → is_some (flex_around x n s) ≡ false
not_held b s place x n k w t =
    ap (λ l. is_some (first_at weight (is_at x n) (flex_start s) l)) (w.walked.is ∙ ap (λ l. w.walked.before ++ l) (last b s place k w.walked t))
    ∙ ap (λ o. is_some o) (first_at-none weight (is_at x n) (flex_start s) (w.walked.before ++ [])
    (NonePass-append weight (is_at x n) (flex_start s) w.walked.before [] w.none tt))

-- ---- the walk that its caller takes step by step

-- the blocks that a walk has passed, and those that are left
abbrev pub walk_at : (s : Slot) (w : FlexWalk) → WalksIn s w → Walked s w.place
walk_at s w h = record {
  before = take w.passed s.blocks;
  rest = drop w.passed s.blocks;
  is = sym (take-append-drop w.passed s.blocks);
  place_is = h.place_is;
}

-- the block at which a walk stands
pub step_item : (b : List ℕ) (s : Slot) (w : FlexWalk) → SlotWords b s → WalksIn s w → is_block b w.place ≡ true
    → Some (row_item b w.place) ≡ slice_get (block_items s) w.passed
step_item b s w k h t = item_here b s w.place w.passed k (walk_at s w h) (sym (length-take-le w.passed s.blocks h.most)) t

pub no_step : (b : List ℕ) (s : Slot) (w : FlexWalk) → SlotWords b s → WalksIn s w → is_block b w.place ≡ false → slice_get (block_items s) w.passed ≡ None
no_step b s w k h t = item_none b s w.place w.passed k (walk_at s w h) (sym (length-take-le w.passed s.blocks h.most)) t

pub all_passed : (b : List ℕ) (s : Slot) (w : FlexWalk) → SlotWords b s → WalksIn s w → is_block b w.place ≡ false → w.passed ≡ length s.blocks
all_passed b s w k h t =
    let l = length-take-le w.passed s.blocks h.most in
    omega (
      arith,
      ap length (take-append-drop w.passed s.blocks),
      length-append (take w.passed s.blocks) (drop w.passed s.blocks),
      ap length (last b s w.place k (walk_at s w h) t),
    )

one_more : (xs ys : List Flex) (p : ℕ) (f : Flex) (after : List Flex) → xs ≡ ys ++ f ∷ after → length ys ≡ p → take (p + 1) xs ≡ ys ++ f ∷ []
one_more xs ys p f after e l =
    let whole : xs ≡ (ys ++ f ∷ []) ++ after = e ∙ sym (append_assoc ys (f ∷ []) after) in
    let n : p + 1 ≡ length (ys ++ f ∷ []) = omega (arith, length-append ys (f ∷ [])) in
    ap (λ i. take i xs) n ∙ ap (take (length (ys ++ f ∷ []))) whole ∙ take-append_seam (ys ++ f ∷ []) after

-- the walk after one block
pub walks_on : (b : List ℕ) (s : Slot) (w : FlexWalk) → SlotWords b s → WalksIn s w → is_block b w.place ≡ true → (size step : ℕ)
    → size ≡ word b (w.place + 4) → step ≡ flex_weight size → WalksIn s (record { passed = w.passed + 1; place = w.place + step })
walks_on b s w k h t size step es e =
    let n = next b s w.place k (walk_at s w h) t in
    let l = length-take-le w.passed s.blocks h.most in
    let is : s.blocks ≡ take w.passed s.blocks ++ n.here ∷ n.after =
    sym (take-append-drop w.passed s.blocks) ∙ ap (λ r. take w.passed s.blocks ++ r) n.rest_is in
    let more = one_more s.blocks (take w.passed s.blocks) w.passed n.here n.after is l in
    let wt = onward b s w.place (walk_at s w h) n size step es e in
    let place = h.place_is in
    record {
      most = omega (arith, ap length is, length-append (take w.passed s.blocks) (n.here ∷ n.after));
      place_is = omega (arith, ap (total weight) more, total-append weight (take w.passed s.blocks) (n.here ∷ []));
    }

heavy : (fs : List Flex) → length fs ≤ total weight fs
heavy [] = omega arith
heavy (f ∷ fs) = let h = heavy fs in omega arith

-- so many blocks were passed at most
pub few_passed : (b : List ℕ) (s : Slot) (w : FlexWalk) → SlotWords b s → WalksIn s w → w.passed ≤ length b
few_passed b s w k h = let m = h.most in let i = k.within in omega (arith, heavy s.blocks)
