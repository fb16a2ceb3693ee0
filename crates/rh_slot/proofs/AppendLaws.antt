-- A block gets bytes at its end.
use Rattle.rh_slot.proofs.Common.{◌≡◌, ℕ, ◌+◌, ◌-◌, ◌/◌, ◌*◌, ◌<◌, ◌≤◌, ◌≢◌, ◌⊎◌, inl, inr, List, [], ◌++◌, length, take, in_above, Shifted, FoundAt}
use Rattle.rh_slot.proofs.Common.{drop, ltb, refl, sym, ap, subst, ◌∙◌, arith, length-replicate, take_all, append-nil, cases_eq, cases_lt, Ok, Err, unwrap_or}
use Rattle.rh_slot.proofs.Common.{PAGE, NoBlock, NoRoom, word, part, with_part, SameIn, SameOutside, Granted, ◌>>=◌, refuse_if, found_or, fitted, Memory}
use Rattle.rh_slot.proofs.Common.{OnlyArea}
use Rattle.rh_slot.proofs.Common.{bytes, total, pages_for, zeros, written, Split, Flex, Slot, weight, flex_weight, slot_length, slot_pages, IsFree}
use Rattle.rh_slot.proofs.Common.{with_block_bytes, lacks_room, slot_block, slot_put, Lie, SlotWords, heap_place, word_same, part_same, put_outside}
use Rattle.rh_slot.proofs.Common.{SameOutside-self, refuse_if-true, refuse_if-false, ltb_yes, ltb_no, block_of-at, part_of, wider, same_both, in_below}
use Rattle.std.proofs.lemmas.List.{take_at, drop_all}
use Rattle.std.proofs.Math.ListN.{length-append}
use Rattle.rh_defs.specs.declared.refusal.Refusal.TheVariants.{BadRange}
use Rattle.rh_defs.specs.Slot as slot
use Rattle.rh_defs.specs.Slot.{slot_extend}
use Rattle.rh_defs.proofs.BytesLaws.{part_more, part-put}
use Rattle.rh_defs.proofs.SlotRooms.{length-fitted}
use Rattle.rh_slot.specs.Flex.{slot_append}
use Rattle.rh_slot.proofs.EditLaws.{Slid, block_bytes, changed}
use Rattle.rh_slot.proofs.FlexLaws.{then_none, then_at}

-- the steps: those above slide, the size word, and the bytes at the end
pub appended_words : (b b2 b3 d : List ℕ) (s : Slot) (k place size from n to : ℕ) (cut : Split Flex) (xs : List ℕ) → SlotWords b s → FoundAt k s place size cut
    → from ≡ place + flex_weight size → from + n ≡ slot_length s → to ≡ place + flex_weight (size + length xs)
    → ((fs : List Flex) → Lie b from fs → total weight fs ≡ n → Shifted b b2 to fs) → SameIn b b2 heap_place to → to + n ≤ length d
    → word b3 (place + 4) ≡ size + length xs → SameOutside b2 b3 (place + 4) (place + 4 + 4)
    → d ≡ with_part b3 (place + 8 + size) xs
    → SlotWords d (with_block_bytes cut (cut.here.bytes ++ xs) s) × (slot_length (with_block_bytes cut (cut.here.bytes ++ xs) s) ≡ to + n)
appended_words b b2 b3 d s k place size from n to cut xs w t ef en et sh same fits h3 o3 e =
    let old = cut.here.bytes in
    let nb = old ++ xs in
    let long = t.long in
    let low = t.low in
    let ln : length nb ≡ size + length xs = length-append old xs ∙ omega arith in
    let wl : flex_weight (length nb) ≡ flex_weight (size + length xs) = ap flex_weight ln in
    let p = place + 8 in
    let whole = block_bytes b s k place size cut w t in
    let o4 : SameOutside b3 d (p + size) (p + size + length xs) =
    subst (λ c. SameOutside b3 c (p + size) (p + size + length xs)) (sym e) (put_outside b3 (p + size) xs (p + size + length xs) (omega arith)) in
    let l4 = o4.len in
    let o : SameOutside b2 d (place + 4) to = same_both (wider o3 (omega arith) (omega arith)) (wider o4 (omega arith) (omega arith)) in
    let hd : word d (place + 4) ≡ length nb = word_same b3 d (place + 4) (in_below o4 (omega arith)) ∙ h3 ∙ sym ln in
    let e1 : part d p size ≡ old =
    part_same b3 d p size (in_below o4 (omega arith)) ∙ part_same b2 b3 p size (in_above o3 (omega arith))
    ∙ part_same b b2 p size (part_of same (omega arith) (omega arith)) ∙ whole in
    let e2 : part d (p + size) (length xs) ≡ xs = ap (λ c. part c (p + size) (length xs)) e ∙ part-put b3 (p + size) xs (length xs) refl (omega arith) in
    let now : part d p (length nb) ≡ nb =
    ap (part d p) ln ∙ part_more d p size (length xs) ∙ ap (λ l. l ++ part d (p + size) (length xs)) e1 ∙ ap (λ l. old ++ l) e2 in
    let slid : Slid b b b2 s k place size from n to cut = record {
      words = w;
      found = t;
      begins = ef;
      ends = en;
      own = SameOutside-self b p from;
      shifted = sh;
      below = same;
    } in
    changed nb slid fits (omega arith) o hd now

-- the pages that it needs, where the block had the weight v and gets the weight w
pub appended_pages : (b : List ℕ) (s : Slot) (k place size more v w t : ℕ) (cut : Split Flex) → FoundAt k s place size cut → length b ≡ PAGE * slot_pages s
    → v ≡ flex_weight size → w ≡ flex_weight (size + more) → t ≡ slot_length s
    → pages_for (place + w + (t - (place + v))) - length b / PAGE ≡ pages_for (slot.length_with cut (length cut.here.bytes + more) s) - slot_pages s
appended_pages b s k place size more v w t cut f l ev ew et =
    let inside = f.inside in
    let wl : flex_weight (length cut.here.bytes + more) ≡ flex_weight (size + more) = ap (λ i. flex_weight (i + more)) (sym f.long) in
    let vl : weight cut.here ≡ flex_weight size = ap flex_weight (sym f.long) in
    let q : length b / PAGE ≡ slot_pages s = omega arith in
    let top : place + w + (t - (place + v)) ≡ slot.length_with cut (length cut.here.bytes + more) s = omega arith in
    rw (q, top) refl

-- ---- where the bytes come from
other : {m n : Memory} {id : ℕ} (from : ℕ) → OnlyArea m n id → from ≢ id → bytes n from ≡ bytes m from
unfolding bytes
other from only ne = ap (λ o. unwrap_or o []) (only.others from ne)

pub source_inside : (m n : Memory) (id from place more : ℕ) → OnlyArea m n id → length (bytes m id) ≤ length (bytes n id)
    → place + more ≤ length (bytes m from) → place + more ≤ length (bytes n from)
source_inside m n id from place more only l h = elim (cases_eq from id) [
  | inl q ↦ subst (λ i. place + more ≤ length (bytes n i)) (sym q) (omega (arith, l, subst (λ i. place + more ≤ length (bytes m i)) q h))
  | inr ne ↦ rw (other from only ne) h
]

no_part : (b c : List ℕ) (place more : ℕ) → more ≡ 0 → part c place more ≡ part b place more
unfolding part
no_part b c place more e = rw e refl

-- they stay below the blocks
pub source_stays : (m n : Memory) (id from place more hi : ℕ) → OnlyArea m n id → SameIn (bytes m id) (bytes n id) heap_place hi
    → (from ≡ id → 0 < more → heap_place ≤ place) → (from ≡ id → place + more ≤ hi) → part (bytes n from) place more ≡ part (bytes m from) place more
source_stays m n id from place more hi only o low high = elim (cases_eq from id) [
  | inl q ↦ ap (λ i. part (bytes n i) place more) q ∙ here q (cases_lt 0 more) ∙ ap (λ i. part (bytes m i) place more) (sym q)
  | inr ne ↦ ap (λ (b : List ℕ). part b place more) (other from only ne)
]
  where
    here : from ≡ id → (0 < more) ⊎ (more ≤ 0) → part (bytes n id) place more ≡ part (bytes m id) place more
    here q (inl l) = part_same (bytes m id) (bytes n id) place more (part_of o (low q l) (high q))
    here q (inr z) = no_part (bytes m id) (bytes n id) place more (omega arith)

-- ---- what the call answers
pub append_none : (free k : ℕ) (xs : List ℕ) (s : Slot) → IsFree k s.blocks → slot_append free k xs s ≡ Err NoBlock
unfolding slot_append
append_none free k xs s u = then_none k s _ u

-- zeros that are overwritten
refitted : (bytes xs : List ℕ) → written (fitted (length bytes + length xs) bytes) (length bytes) xs ≡ bytes ++ xs
refitted bytes xs =
    let n = length bytes + length xs in
    let z : List ℕ = zeros (n - length bytes) in
    let lz : length z ≡ length xs = length-replicate {A = ℕ} (n - length bytes) 0 ∙ omega arith in
    let is : fitted n bytes ≡ bytes ++ z = ap (λ l. l ++ z) (take_all n bytes (omega arith)) in
    let front : take (length bytes) (bytes ++ z) ≡ bytes = take_at bytes z (length bytes) refl in
    let rest : drop n (bytes ++ z) ≡ [] = drop_all n (bytes ++ z) (omega (arith, length-append bytes z, lz)) in
    ap (λ l. written l (length bytes) xs) is ∙ ap (λ l. l ++ (xs ++ drop n (bytes ++ z))) front ∙ ap (λ l. bytes ++ (xs ++ l)) rest
    ∙ ap (λ l. bytes ++ l) (append-nil xs)

module _ (free k : ℕ) (xs : List ℕ) (s : Slot) (place size : ℕ) (cut : Split Flex) (t : FoundAt k s place size cut) where
  abbrev more : ℕ
  more = length cut.here.bytes + length xs

  abbrev need : ℕ
  need = pages_for (slot.length_with cut more s) - slot_pages s

  pub append_full : free < need → slot_append free k xs s ≡ Err NoRoom
  unfolding slot_append slot_extend ◌>>=◌
  append_full h =
      then_at k s place size cut _ t ∙ ap (λ (g : Granted Slot). g >>= λ l. slot_put k (length cut.here.bytes) xs l)
      (then_at k s place size cut _ t ∙ refuse_if-true (lacks_room free (slot.length_with cut more s) s) NoRoom _ (ltb_yes free need h))

  abbrev longer : Slot
  longer = with_block_bytes cut (fitted more cut.here.bytes) s

  abbrev there : Split Flex
  there = record { before = cut.before; here = record { anchor = cut.here.anchor; bytes = fitted more cut.here.bytes }; after = cut.after }

  extended : need ≤ free → slot_extend free k more s ≡ Ok longer
  unfolding slot_extend
  extended h = then_at k s place size cut _ t ∙ refuse_if-false (lacks_room free (slot.length_with cut more s) s) NoRoom _ (ltb_no free need h)

  overwritten : slot_put k (length cut.here.bytes) xs longer ≡ Ok (with_block_bytes cut (cut.here.bytes ++ xs) s)
  unfolding slot_put slot_block found_or ◌>>=◌
  overwritten =
      ap (λ (o : Granted (Split Flex)). o >>= λ b. refuse_if (ltb (length b.here.bytes) more) BadRange
      >>= λ _. Ok (with_block_bytes b (written b.here.bytes (length cut.here.bytes) xs) longer))
      (ap (λ o. found_or o NoBlock) (block_of-at k longer there refl t.free t.anchor))
      ∙ refuse_if-false (ltb (length there.here.bytes) more) BadRange _ (ltb_no (length there.here.bytes) more
      (omega (arith, length-fitted more cut.here.bytes)))
      ∙ ap (λ l. Ok (with_block_bytes cut l s)) (refitted cut.here.bytes xs)

  pub append_done : need ≤ free → slot_append free k xs s ≡ Ok (with_block_bytes cut (cut.here.bytes ++ xs) s)
  unfolding slot_append ◌>>=◌
  append_done h =
      then_at k s place size cut _ t ∙ ap (λ (g : Granted Slot). g >>= λ l. slot_put k (length cut.here.bytes) xs l) (extended h) ∙ overwritten
