-- A slot's blocks as they are listed, all at once.
use Rattle.rh_slot.proofs.Common.{◌≡◌, ℕ, ◌+◌, ◌<◌, ◌≤◌, Bool, true, false, eqb, List, [], ◌∷◌, ◌++◌, length, take, refl, sym, ap, ◌∙◌, arith, Some, map}
use Rattle.rh_slot.proofs.Common.{slice_get, ◌||◌, take_all, length-take-le, Flex, Slot, weight, flex_start, IsFree, HaveAnchors, anchor_count, block_items}
use Rattle.rh_slot.proofs.Common.{BlockItem, eqb_apart}
use Rattle.std.specs.List.{AllByRecursion, IsDistinct, list_any}
use Rattle.std.proofs.lemmas.Bool.{eqb-true}
use Rattle.std.proofs.lemmas.List.{take_more, length-map}
use Rattle.std.proofs.lemmas.Map.Steps.{length-le_from_distinct_below}
use Rattle.std.proofs.lemmas.Option.{get_or_from_slice_get, slice_get_within}
use Rattle.rh_defs.specs.Questions.{block_items_from}

-- ---- there are at most 64 blocks

anchors : List Flex → List ℕ
anchors blocks = map (λ (b : Flex). b.anchor) blocks

apart : (k : ℕ) (blocks : List Flex) → IsFree k blocks → AllByRecursion (λ y. eqb k y ≡ false) (anchors blocks)
unfolding anchors
apart k [] f = tt
apart k (b ∷ blocks) f = (eqb_apart k b.anchor (λ e. f.0 (sym e)), apart k blocks f.1)

distinct : (blocks : List Flex) → HaveAnchors blocks → IsDistinct eqb (anchors blocks)
unfolding anchors IsDistinct
distinct [] h = tt
distinct (b ∷ blocks) h = (apart b.anchor blocks h.1, distinct blocks h.2)

small : (blocks : List Flex) → HaveAnchors blocks → (q : ℕ) → list_any (eqb q) (anchors blocks) ≡ true → q < anchor_count
unfolding anchors
small [] h q e = absurd (cc)
small (b ∷ blocks) h q e = go (eqb q b.anchor) refl e (small blocks h.2 q)
  where
    go : (t : Bool) → eqb q b.anchor ≡ t → (t || list_any (eqb q) (anchors blocks)) ≡ true → (list_any (eqb q) (anchors blocks) ≡ true → q < anchor_count)
        → q < anchor_count
    go true s e rest = let same : q ≡ b.anchor = eqb-true _ _ s in omega (arith, h.0)
    go false s e rest = rest e

pub few_blocks : (blocks : List Flex) → HaveAnchors blocks → length blocks ≤ anchor_count
unfolding anchors
few_blocks blocks h =
    omega (arith, length-map blocks (λ (b : Flex). b.anchor), length-le_from_distinct_below (anchors blocks) anchor_count (distinct blocks h) (small blocks h))

-- ---- the items of a walk

items_length : (place : ℕ) (blocks : List Flex) → length (block_items_from place blocks) ≡ length blocks
items_length place [] = refl
items_length place (b ∷ blocks) = let rest = items_length (place + weight b) blocks in omega (arith, rest)

-- as many items are listed as blocks were passed, and there is one more
pub room_left : (s : Slot) (n : ℕ) (items : List BlockItem) (x : BlockItem) → HaveAnchors s.blocks → items ≡ take n (block_items s)
    → Some x ≡ slice_get (block_items s) n → length items < anchor_count
room_left s n items x h is e =
    let l = slice_get_within (block_items s) n x (sym e) in
    omega (arith, ap length is, length-take-le n (block_items s) (omega arith), few_blocks s.blocks h, items_length (flex_start s) s.blocks, l)

pub one_more : (xs : List BlockItem) (n : ℕ) (items : List BlockItem) (x : BlockItem) → items ≡ take n xs → Some x ≡ slice_get xs n
    → items ++ x ∷ [] ≡ take (n + 1) xs
one_more xs n items x is e =
    ap (λ l. l ++ x ∷ []) is
    ∙ (ap (λ y. take n xs ++ y ∷ []) (sym (get_or_from_slice_get xs n x x (sym e))) ∙ sym (take_more xs n x (slice_get_within xs n x (sym e))))

pub all_listed : (s : Slot) (n : ℕ) (items : List BlockItem) → items ≡ take n (block_items s) → n ≡ length s.blocks → items ≡ block_items s
all_listed s n items is e = is ∙ take_all n (block_items s) (omega (arith, items_length (flex_start s) s.blocks))
