-- A block gets other bytes.
use Rattle.rh_slot.proofs.Common.{◌≡◌, ℕ, ◌+◌, ◌-◌, ◌*◌, ◌/◌, ◌<◌, ◌≤◌, inl, inr, ℤ, pos, negsuc, Bool, true, false, List, [], ◌∷◌, ◌++◌, length, replicate}
use Rattle.rh_slot.proofs.Common.{take, drop, ltb, refl, sym, ap, subst, ◌∙◌, arith, length-replicate, length-take-le, take_all, append-nil, cases_lt, Ok}
use Rattle.rh_slot.proofs.Common.{Err, IsTrue, ◌↔◌, ◌||◌, PAGE, NoBlock, NoRoom, word, part, with_part, SameIn, SameOutside, total, pages_for, zeros, moved}
use Rattle.rh_slot.proofs.Common.{written, Split, fitted, Flex, Slot, weight, flex_weight, slot_length, slot_pages, IsFree, HaveAnchors, with_block_bytes}
use Rattle.rh_slot.proofs.Common.{lacks_room, slot_put, Lie, Anchored, SlotWords, flex_place, heap_place, word_same, part_same, length-part, put_outside}
use Rattle.rh_slot.proofs.Common.{SameOutside-self, sum-append, ltb_yes, ltb_no, part_of, wider, same_both, in_below, in_above, in_both, Carried, Lie-split}
use Rattle.rh_slot.proofs.Common.{Lie-same, Anchored-split, Anchored-same, HaveAnchors-cut, BlockRow, Shifted, FoundAt, FoundFlex}
use Rattle.rh_slot.proofs.Common.{◌>>=◌, refuse_if, refuse_if-true}
use Rattle.rh_slot.proofs.Common.{refuse_if-false}
use Rattle.std.proofs.lemmas.List.{length-drop, drop_all}
use Rattle.std.proofs.Math.ListN.{length-append}
use Rattle.rh_defs.specs.declared.refusal.Refusal.TheVariants.{BadRange}
use Rattle.rh_defs.specs.Slot as slot
use Rattle.rh_defs.specs.Slot.{opened_at, taken_out, slot_extend, slot_mid, slot_read}
use Rattle.rh_defs.proofs.Anchors.{anchors-here}
use Rattle.rh_defs.proofs.BytesLaws.{parts_same, part_more, part-part, part-drop, part-put, part-put_below, part-put_above}
use Rattle.rh_defs.proofs.SlotLaws.{Lie-unique}
use Rattle.rh_slot.specs.Inner.FoundBlocks.{spliced, splice}
use Rattle.rh_slot.proofs.FlexLaws.{rebuilt, above, then_none, then_at, false-true}

-- the slot's length with other bytes in a block
pub length_with : (s : Slot) (k place size : ℕ) (cut : Split Flex) (bytes : List ℕ) → FoundAt k s place size cut
    → slot_length (with_block_bytes cut bytes s) + flex_weight size ≡ slot_length s + flex_weight (length bytes)
length_with s k place size cut bytes t =
    let new : Flex = record { anchor = cut.here.anchor; bytes = bytes } in
    let old : total weight s.blocks ≡ total weight cut.before + (weight cut.here + total weight cut.after) =
    ap (total weight) t.is ∙ sum-append weight cut.before (cut.here ∷ cut.after) in
    let now : total weight (cut.before ++ new ∷ cut.after) ≡ total weight cut.before + (flex_weight (length bytes) + total weight cut.after) =
    sum-append weight cut.before (new ∷ cut.after) in
    let wl : flex_weight size ≡ weight cut.here = ap flex_weight t.long in
    omega arith

-- the blocks above a block, where bytes in it have changed
pub row_over : (b b1 : List ℕ) (s : Slot) (k place size from n : ℕ) → SlotWords b s → FoundFlex k s place size → from ≡ place + flex_weight size
    → from + n ≡ slot_length s → SameOutside b b1 (place + 8) from → BlockRow b1 from n
row_over b b1 s k place size from n w t ef en o =
    let a = above b s k place size from n t.cut w t.at ef en in
    let sum = a.1 in
    record { blocks = t.cut.after; lie = Lie-same b b1 from (from + n) t.cut.after (in_above o (omega arith)) (omega arith) a.0; sum = a.1; anchors = a.2 }

-- A slot's block at place, and the n bytes of blocks above it, which begin at `from` and slide to `to`: b has the slot,
-- b1 other bytes in the block, and c those above it where they go
pub record Slid (b b1 c : List ℕ) (s : Slot) (k place size from n to : ℕ) (cut : Split Flex) : Type 0 where
  pub words : SlotWords b s
  pub found : FoundAt k s place size cut
  pub begins : from ≡ place + flex_weight size
  pub ends : from + n ≡ slot_length s
  pub own : SameOutside b b1 (place + 8) from
  pub shifted : (fs : List Flex) → Lie b1 from fs → total weight fs ≡ n → Shifted b1 c to fs
  pub below : SameIn b1 c heap_place to

-- bytes in a block change, the blocks above slide, and the block gets its new size and bytes
pub changed : {b b1 c d : List ℕ} {s : Slot} {k place size from n to : ℕ} {cut : Split Flex} (bytes : List ℕ) → Slid b b1 c s k place size from n to cut
    → to + n ≤ length d → to ≡ place + flex_weight (length bytes)
    → SameOutside c d (place + 4) to → word d (place + 4) ≡ length bytes → part d (place + 8) (length bytes) ≡ bytes
    → SlotWords d (with_block_bytes cut bytes s) × (slot_length (with_block_bytes cut bytes s) ≡ to + n)
changed {b} {b1} {c} {d} {s} {k} {place} {size} {from} {n} {to} {cut} bytes slid fits et o h p =
    let w = slid.words in
    let t = slid.found in
    let ef = slid.begins in
    let en = slid.ends in
    let ob = slid.own in
    let same = slid.below in
    let a = above b s k place size from n cut w t ef en in
    let xs = cut.before in
    let f = cut.here in
    let ys = cut.after in
    let new : Flex = record { anchor = f.anchor; bytes = bytes } in
    let sum : total weight ys ≡ n = a.1 in
    let x = slid.shifted ys (Lie-same b b1 from (from + n) ys (in_above ob (omega arith)) (omega arith) a.0) sum in
    let st = t.stands in
    let low = t.low in
    let lf = (Lie-split b (flex_place s) xs (f ∷ ys) (subst (Lie b (flex_place s)) t.is w.lie)).1 in
    let hf = (Anchored-split b (flex_place s) xs (f ∷ ys) (subst (Anchored b (flex_place s)) t.is w.anchored)).1 in
    let apart_of = HaveAnchors-cut xs f ys (subst HaveAnchors t.is w.anchors) in
    let sm = apart_of.small in
    let header : word d place ≡ 32768 + 4 * f.anchor =
    word_same c d place (in_below o (omega arith)) ∙ word_same b1 c place (part_of same (omega arith) (omega arith))
    ∙ word_same b b1 place (in_below ob (omega arith)) ∙ ap (word b) st ∙ lf.0 in
    let link : word d (4 * f.anchor) ≡ 32768 + place + 8 =
    word_same c d (4 * f.anchor) (in_below o (omega arith)) ∙ x.hung.others f.anchor sm apart_of.after
    ∙ word_same b b1 (4 * f.anchor) (in_below ob (omega arith)) ∙ hf.0 ∙ ap (λ i. 32768 + i + 8) (sym st) in
    let below : SameIn b d heap_place place =
    in_both (in_below ob (omega arith)) (in_both (part_of same (omega arith) (omega arith)) (in_below o (omega arith))) in
    let long = length_with s k place size cut bytes t in (
      rebuilt b d s xs (f ∷ []) (new ∷ []) ys place to w t.is st (omega arith)
          below (omega arith)
          (header, h, p, tt) (link, tt)
          (Lie-same c d to (to + n) ys (in_above o (omega arith)) (omega arith) x.lie)
          (Anchored-same c d to ys a.2 (in_below o (omega arith)) x.hung.anchored)
          (λ j u v m y. word_same c d (4 * j) (in_below o (omega arith)) ∙ x.hung.others j u y ∙ word_same b b1 (4 * j) (in_below ob (omega arith)))
          (λ j u v. inl v)
          (anchors-here f new ys refl xs (subst HaveAnchors t.is w.anchors)),
      omega arith,
    )

-- no block has moved
unmoved : {b : List ℕ} {s : Slot} {k place size from n : ℕ} {cut : Split Flex} → SlotWords b s → FoundAt k s place size cut → from ≡ place + flex_weight size
    → from + n ≡ slot_length s → (fs : List Flex) → Lie b from fs → total weight fs ≡ n → Shifted b b from fs
unmoved {b} {s} {k} {place} {size} {from} {n} {cut} w t ef en fs l e =
    let a = above b s k place size from n cut w t ef en in
    let same : cut.after ≡ fs = Lie-unique b from cut.after fs a.0 l (a.1 ∙ sym e) in
    let h = (Anchored-split b (flex_place s) cut.before (cut.here ∷ cut.after) (subst (Anchored b (flex_place s)) t.is w.anchored)).1.1 in
    let st = t.stands in
    let wl : flex_weight size ≡ weight cut.here = ap flex_weight t.long in
    let q : flex_place s + total weight cut.before + weight cut.here ≡ from = omega arith in
    let h2 : Anchored b from cut.after = subst (λ p. Anchored b p cut.after) q h in
    record { lie = l; hung = record { anchored = subst (Anchored b from) same h2; others = λ j u v. refl } }

-- ---- parts of a block's bytes
part_take : (b : List ℕ) (p n a : ℕ) (bytes : List ℕ) → part b p n ≡ bytes → a ≤ n → part b p a ≡ take a bytes
part_take b p n a bytes e h =
    let long : length bytes ≡ n = ap length (sym e) ∙ length-part b p n in
    ap (λ q. part b q a) (omega arith) ∙ sym (part-part b p n 0 a (omega arith)) ∙ ap (λ l. part l 0 a) e ∙ part-drop bytes 0 a (omega arith)

part_rest : (b : List ℕ) (p n a r : ℕ) (bytes : List ℕ) → part b p n ≡ bytes → a + r ≡ n → part b (p + a) r ≡ drop a bytes
part_rest b p n a r bytes e h =
    let long : length bytes ≡ n = ap length (sym e) ∙ length-part b p n in
    sym (part-part b p n a r (omega arith)) ∙ ap (λ l. part l a r) e ∙ part-drop bytes a r (omega arith)
    ∙ take_all r (drop a bytes) (omega (arith, length-drop a bytes))

three_parts : (d : List ℕ) (p n a m r : ℕ) (xs ys zs : List ℕ) → n ≡ a + (m + r) → part d p a ≡ xs → part d (p + a) m ≡ ys → part d (p + a + m) r ≡ zs
    → part d p n ≡ xs ++ (ys ++ zs)
three_parts d p n a m r xs ys zs e ex ey ez =
    ap (part d p) e ∙ part_more d p a (m + r) ∙ ap (λ l. l ++ part d (p + a) (m + r)) ex
    ∙ ap (λ l. xs ++ l) (part_more d (p + a) m r ∙ ap (λ l. l ++ part d (p + a + m) r) ey ∙ ap (λ l. ys ++ l) ez)

-- a block's own bytes
pub block_bytes : (b : List ℕ) (s : Slot) (k place size : ℕ) (cut : Split Flex) → SlotWords b s → FoundAt k s place size cut
    → part b (place + 8) size ≡ cut.here.bytes
block_bytes b s k place size cut w t =
    let lf = (Lie-split b (flex_place s) cut.before (cut.here ∷ cut.after) (subst (Lie b (flex_place s)) t.is w.lie)).1 in
    ap (part b (place + 8)) t.long ∙ ap (λ q. part b (q + 8) (length cut.here.bytes)) t.stands ∙ lf.2

block_size : (b : List ℕ) (s : Slot) (k place size : ℕ) (cut : Split Flex) → SlotWords b s → FoundAt k s place size cut → word b (place + 4) ≡ size
block_size b s k place size cut w t =
    let lf = (Lie-split b (flex_place s) cut.before (cut.here ∷ cut.after) (subst (Lie b (flex_place s)) t.is w.lie)).1 in
    ap (λ q. word b (q + 4)) t.stands ∙ lf.1 ∙ sym t.long

-- ---- bytes written
length_written : (bytes xs : List ℕ) (offset : ℕ) → offset + length xs ≤ length bytes → length (written bytes offset xs) ≡ length bytes
length_written bytes xs offset h =
    omega (
      arith,
      length-append (take offset bytes) (xs ++ drop (offset + length xs) bytes),
      length-append xs (drop (offset + length xs) bytes),
      length-take-le offset bytes (omega arith),
      length-drop (offset + length xs) bytes,
    )

pub put_words : (b d : List ℕ) (s : Slot) (k place size offset : ℕ) (cut : Split Flex) (xs : List ℕ) → SlotWords b s → FoundAt k s place size cut
    → offset + length xs ≤ size → d ≡ with_part b (place + 8 + offset) xs
    → SlotWords d (with_block_bytes cut (written cut.here.bytes offset xs) s) ×
    (slot_length (with_block_bytes cut (written cut.here.bytes offset xs) s) ≡ slot_length s)
put_words b d s k place size offset cut xs w t h e =
    let old = cut.here.bytes in
    let new = written old offset xs in
    let i = t.inside in
    let from = place + flex_weight size in
    let n = slot_length s - from in
    let en : from + n ≡ slot_length s = omega arith in
    let long = t.long in
    let fits = w.within in
    let ln : length new ≡ size = length_written old xs offset (omega arith) ∙ sym long in
    let p = place + 8 in
    let r = size - (offset + length xs) in
    let same = block_bytes b s k place size cut w t in
    let o : SameOutside b d (place + 8) from = subst (λ c. SameOutside b c (place + 8) from) (sym e)
    (wider (put_outside b (p + offset) xs (p + offset + length xs) (omega arith)) (omega arith) (omega arith)) in
    let e1 : part (with_part b (p + offset) xs) p offset ≡ take offset old =
    part-put_below b (p + offset) xs p offset (omega arith) ∙ part_take b p size offset old same (omega arith) in
    let e2 : part (with_part b (p + offset) xs) (p + offset) (length xs) ≡ xs = part-put b (p + offset) xs (length xs) refl (omega arith) in
    let e3 : part (with_part b (p + offset) xs) (p + offset + length xs) r ≡ drop (offset + length xs) old =
    part-put_above b (p + offset) xs (p + offset + length xs) r (omega arith)
    ∙ ap (λ q. part b q r) (let z : p + offset + length xs ≡ p + (offset + length xs) = omega arith in z)
    ∙ part_rest b p size (offset + length xs) r old same (omega arith) in
    let now : part d p (length new) ≡ new =
    ap (part d p) ln ∙ ap (λ c. part c p size) e ∙ three_parts (with_part b (p + offset) xs) p size offset (length xs) r _ _ _ (omega arith) e1 e2 e3 in
    let ol = o.len in
    let wl : flex_weight (length new) ≡ flex_weight size = ap flex_weight ln in
    let slid : Slid b b b s k place size from n from cut = record {
      words = w;
      found = t;
      begins = refl;
      ends = en;
      own = SameOutside-self b (place + 8) from;
      shifted = unmoved w t refl en;
      below = record { each = λ j u v. refl };
    } in
    let c = changed new slid (omega arith) (omega arith)
    (wider o (omega arith) (omega arith)) (word_same b d (place + 4) (in_below o (omega arith)) ∙ block_size b s k place size cut w t ∙ sym ln) now in
    (c.0, c.1 ∙ en)

pub read_bytes : (b : List ℕ) (s : Slot) (k place size offset n : ℕ) (cut : Split Flex) → SlotWords b s → FoundAt k s place size cut → offset + n ≤ size
    → part b (place + 8 + offset) n ≡ take n (drop offset cut.here.bytes)
read_bytes b s k place size offset n cut w t h =
    let long = t.long in
    sym (part-part b (place + 8) size offset n h) ∙ ap (λ l. part l offset n) (block_bytes b s k place size cut w t)
    ∙ part-drop cut.here.bytes offset n (omega arith)

-- ---- bytes taken out and zeros put in
length_spliced : (bytes : List ℕ) (offset out with_part : ℕ) → offset ≤ length bytes → out ≤ offset → length (spliced offset out with_part bytes)
    ≡ length bytes - out + with_part
length_spliced bytes offset out with_part h l =
    omega (
      arith,
      length-append (take (offset - out) bytes) (zeros with_part ++ drop offset bytes),
      length-append (zeros with_part) (drop offset bytes),
      length-take-le (offset - out) bytes (omega arith),
      length-drop offset bytes,
      length-replicate {A = ℕ} with_part 0,
    )

part_carried : {b c : List ℕ} {from to n : ℕ} → Carried b c from to n → part c to n ≡ part b from n
part_carried {b} {c} {from} {to} {n} s = parts_same b c from to n (λ k h. s.each k h)

-- where a splice works: `out` bytes end at `offset` of the block, and `put` come there; the m bytes behind them stand from
-- tail on, and the gap opens at `opened`
pub record Splice (place size offset out with_part to tail opened m new : ℕ) : Type 0 where
  pub inside : offset ≤ size
  pub enough : out ≤ offset
  pub new_is : new ≡ size - out + with_part
  pub to_is : to ≡ place + flex_weight new
  pub tail_is : tail ≡ place + 8 + offset
  pub opened_is : opened ≡ tail - out
  pub rest_is : m ≡ size - offset

-- its steps, but for the slide of those above from b1 to b2: the block's own tail goes down, the size word is written, the
-- tail goes up, and zeros come into the gap
pub record SpliceSteps (b b1 b2 b3 b4 d : List ℕ) (place with_part tail opened m new : ℕ) : Type 0 where
  pub down : Carried b b1 tail opened m
  pub only_down : SameOutside b b1 opened (opened + m)
  pub sized : word b3 (place + 4) ≡ new
  pub only_sized : SameOutside b2 b3 (place + 4) (place + 4 + 4)
  pub up : Carried b3 b4 opened (opened + with_part) m
  pub only_up : SameOutside b3 b4 (opened + with_part) (opened + with_part + m)
  pub cleared : part d opened with_part ≡ replicate with_part 0
  pub only_cleared : SameOutside b4 d opened (opened + with_part)

-- what a splice makes of the slot
pub spliced_words : {b b1 b2 b3 b4 d : List ℕ} {s : Slot} {k place size from n to offset out with_part tail opened m new : ℕ} {cut : Split Flex}
    → Slid b b1 b2 s k place size from n to cut → Splice place size offset out with_part to tail opened m new
    → SpliceSteps b b1 b2 b3 b4 d place with_part tail opened m new → to + n ≤ length d
    → SlotWords d (with_block_bytes cut (spliced offset out with_part cut.here.bytes) s) ×
    (slot_length (with_block_bytes cut (spliced offset out with_part cut.here.bytes) s) ≡ to + n)
spliced_words {b} {b1} {b2} {b3} {b4} {d} {s} {k} {place} {size} {from} {n} {to} {offset} {out} {with_part} {tail} {opened} {m} {new} {cut} slid at steps fits =
    let w = slid.words in
    let t = slid.found in
    let ef = slid.begins in
    let en = slid.ends in
    let same = slid.below in
    let ho = at.inside in
    let hl = at.enough in
    let en_new = at.new_is in
    let et = at.to_is in
    let e_tail = at.tail_is in
    let e_opened = at.opened_is in
    let em = at.rest_is in
    let o1 = steps.only_down in
    let o3 = steps.only_sized in
    let o4 = steps.only_up in
    let o5 = steps.only_cleared in
    let old = cut.here.bytes in
    let nb = spliced offset out with_part old in
    let long = t.long in
    let low = t.low in
    let ln : length nb ≡ new = length_spliced old offset out with_part (omega arith) hl ∙ omega arith in
    let wl : flex_weight (length nb) ≡ flex_weight new = ap flex_weight ln in
    let p = place + 8 in
    let a = offset - out in
    let po : opened ≡ p + a = omega arith in
    let whole = block_bytes b s k place size cut w t in
    let o : SameOutside b2 d (place + 4) to =
    same_both (wider o3 (omega arith) (omega arith)) (same_both (wider o4 (omega arith) (omega arith)) (wider o5 (omega arith) (omega arith))) in
    let hd : word d (place + 4) ≡ length nb =
    word_same b4 d (place + 4) (in_below o5 (omega arith)) ∙ word_same b3 b4 (place + 4) (in_below o4 (omega arith)) ∙ steps.sized ∙ sym ln in
    let e1 : part d p a ≡ take a old =
    part_same b4 d p a (in_below o5 (omega arith)) ∙ part_same b3 b4 p a (in_below o4 (omega arith)) ∙ part_same b2 b3 p a (in_above o3 (omega arith))
    ∙ part_same b1 b2 p a (part_of same (omega arith) (omega arith)) ∙ part_same b b1 p a (in_below o1 (omega arith))
    ∙ part_take b p size a old whole (omega arith) in
    let e2 : part d (p + a) with_part ≡ zeros with_part = ap (λ q. part d q with_part) (sym po) ∙ steps.cleared in
    let e3 : part d (p + a + with_part) m ≡ drop offset old =
    ap (λ q. part d q m) (let q : p + a + with_part ≡ opened + with_part = omega arith in q) ∙ part_same b4 d (opened + with_part) m (in_above o5 (omega arith))
    ∙ part_carried steps.up
    ∙ part_same b2 b3 opened m (in_above o3 (omega arith)) ∙ part_same b1 b2 opened m (part_of same (omega arith) (omega arith)) ∙ part_carried steps.down
    ∙ ap (λ q. part b q m) e_tail ∙ part_rest b p size offset m old whole (omega arith) in
    let now : part d p (length nb) ≡ nb = ap (part d p) ln ∙ three_parts d p new a with_part m _ _ _ (omega arith) e1 e2 e3 in
    changed nb slid fits (omega arith) o hd now

-- the bytes that the slot takes after a splice
abbrev after_splice : Split Flex → ℕ → ℕ → Slot → ℕ
after_splice cut out with_part s = slot.length_with cut (length cut.here.bytes - out + with_part) s

-- the pages that a splice needs, where the block had the weight v and gets the weight w
pub spliced_pages : (b : List ℕ) (s : Slot) (k place size out with_part v w t : ℕ) (cut : Split Flex) → FoundAt k s place size cut → length b
    ≡ PAGE * slot_pages s
    → v ≡ flex_weight size → w ≡ flex_weight (size - out + with_part) → t ≡ slot_length s
    → pages_for (place + w + (t - (place + v))) - length b / PAGE ≡ pages_for (slot.length_with cut (length cut.here.bytes - out + with_part) s) - slot_pages s
spliced_pages b s k place size out with_part v w t cut f l ev ew et =
    let inside = f.inside in
    let wl : flex_weight (length cut.here.bytes - out + with_part) ≡ flex_weight (size - out + with_part) = ap (λ i. flex_weight (i - out + with_part))
    (sym f.long) in
    let vl : weight cut.here ≡ flex_weight size = ap flex_weight (sym f.long) in
    let q : length b / PAGE ≡ slot_pages s = omega arith in
    let top : place + w + (t - (place + v)) ≡ after_splice cut out with_part s = omega arith in
    rw (q, top) refl

-- ---- what the calls answer
pub splice_full : (free offset out with_part : ℕ) (cut : Split Flex) (s : Slot)
    → free < pages_for (slot.length_with cut (length cut.here.bytes - out + with_part) s) - slot_pages s → splice free offset out with_part cut s ≡ Err NoRoom
unfolding splice
splice_full free offset out with_part cut s h =
    refuse_if-true (lacks_room free (after_splice cut out with_part s) s) NoRoom _
    (ltb_yes free (pages_for (after_splice cut out with_part s) - slot_pages s) h)

pub splice_done : (free offset out with_part : ℕ) (cut : Split Flex) (s : Slot)
    → pages_for (slot.length_with cut (length cut.here.bytes - out + with_part) s) - slot_pages s ≤ free
    → splice free offset out with_part cut s ≡ Ok (with_block_bytes cut (spliced offset out with_part cut.here.bytes) s)
unfolding splice
splice_done free offset out with_part cut s h =
    refuse_if-false (lacks_room free (after_splice cut out with_part s) s) NoRoom _
    (ltb_no free (pages_for (after_splice cut out with_part s) - slot_pages s) h)

-- a call that gives the block another size and other bytes is a splice of them
splice_as : (free n offset out with_part : ℕ) (bytes : List ℕ) (cut : Split Flex) (s : Slot) → n ≡ length cut.here.bytes - out + with_part
    → bytes ≡ spliced offset out with_part cut.here.bytes
    → (refuse_if (lacks_room free (slot.length_with cut n s) s) NoRoom >>= λ _. Ok (with_block_bytes cut bytes s)) ≡ splice free offset out with_part cut s
unfolding splice
splice_as free n offset out with_part bytes cut s e q =
    ap (λ i. refuse_if (lacks_room free (slot.length_with cut i s) s) NoRoom >>= λ _. Ok (with_block_bytes cut bytes s)) e
    ∙ ap (λ l. refuse_if (lacks_room free (after_splice cut out with_part s) s) NoRoom >>= λ _. Ok (with_block_bytes cut l s)) q

fitted_spliced : (bytes : List ℕ) (n size : ℕ) → size ≡ length bytes → fitted n bytes ≡ spliced size (size - n) (n - size) bytes
fitted_spliced bytes n size e =
    let tail : drop size bytes ≡ [] = drop_all size bytes (omega arith) in
    let front : take n bytes ≡ take (size - (size - n)) bytes = elim (cases_lt n size) [
      | inl l ↦ ap (λ i. take i bytes) (omega arith)
      | inr l ↦ take_all n bytes (omega arith) ∙ sym (take_all (size - (size - n)) bytes (omega arith))
    ] in
    ap (λ l. l ++ zeros (n - length bytes)) front
    ∙ ap (λ l. take (size - (size - n)) bytes ++ l) (ap (λ i. zeros (n - i)) (sym e) ∙ sym (append-nil (zeros (n - size)))
    ∙ ap (λ l. zeros (n - size) ++ l) (sym tail))

pub extend_none : (free k n : ℕ) (s : Slot) → IsFree k s.blocks → slot_extend free k n s ≡ Err NoBlock
unfolding slot_extend
extend_none free k n s u = then_none k s _ u

pub extend_at : (free k n out with_part : ℕ) (s : Slot) (place size : ℕ) (cut : Split Flex) → FoundAt k s place size cut → out ≡ size - n → with_part ≡ n - size
    → slot_extend free k n s ≡ splice free size out with_part cut s
unfolding slot_extend
extend_at free k n out with_part s place size cut t eo ep =
    let long = t.long in
    let q : fitted n cut.here.bytes ≡ spliced size out with_part cut.here.bytes =
    fitted_spliced cut.here.bytes n size t.long ∙ ap (λ i. spliced size i (n - size) cut.here.bytes) (sym eo)
    ∙ ap (λ i. spliced size out i cut.here.bytes) (sym ep) in
    then_at k s place size cut _ t ∙ splice_as free n size out with_part (fitted n cut.here.bytes) cut s (omega arith) q

opened_spliced : (bytes : List ℕ) (offset : ℕ) (by : ℤ) → opened_at offset by bytes ≡ spliced offset (taken_out by) (moved 0 by) bytes
opened_spliced bytes offset (pos n) = ap (λ i. take i bytes ++ (zeros n ++ drop offset bytes)) (omega arith)
    ∙ ap (λ i. take (offset - 0) bytes ++ (zeros i ++ drop offset bytes)) (omega arith)
opened_spliced bytes offset (negsuc n) = ap (λ i. take (offset - (n + 1)) bytes ++ (zeros i ++ drop offset bytes)) (let z : 0 ≡ 0 - (n + 1) = omega arith in z)

moved_parts : (n out with_part : ℕ) (by : ℤ) → out ≡ taken_out by → with_part ≡ moved 0 by → moved n by ≡ n - out + with_part
moved_parts n out with_part (pos k) eo ep = omega arith
moved_parts n out with_part (negsuc k) eo ep = omega arith

pub mid_none : (free k offset : ℕ) (by : ℤ) (s : Slot) → IsFree k s.blocks → slot_mid free k offset by s ≡ Err NoBlock
unfolding slot_mid
mid_none free k offset by s u = then_none k s _ u

or_left : (x y : Bool) → x ≡ true → (x || y) ≡ true
or_left true y e = refl
or_left false y e = absurd (false-true e)

or_right : (x y : Bool) → y ≡ true → (x || y) ≡ true
or_right true y e = refl
or_right false y e = e

or_none : (x y : Bool) → x ≡ false → y ≡ false → (x || y) ≡ false
or_none true y e f = e
or_none false y e f = f

pub mid_above : (free k offset : ℕ) (by : ℤ) (s : Slot) (place size : ℕ) → FoundFlex k s place size → size < offset → slot_mid free k offset by s ≡ Err BadRange
unfolding slot_mid
mid_above free k offset by s place size t h =
    let long = t.at.long in
    then_at k s place size t.cut _ t.at
    ∙ refuse_if-true (ltb (length t.cut.here.bytes) offset || ltb offset (taken_out by)) BadRange _
    (or_left _ _ (ltb_yes (length t.cut.here.bytes) offset (omega arith)))

pub mid_short : (free k offset out : ℕ) (by : ℤ) (s : Slot) (place size : ℕ) → FoundFlex k s place size → out ≡ taken_out by → offset < out
    → slot_mid free k offset by s ≡ Err BadRange
unfolding slot_mid
mid_short free k offset out by s place size t e h =
    then_at k s place size t.cut _ t.at
    ∙ refuse_if-true (ltb (length t.cut.here.bytes) offset || ltb offset (taken_out by)) BadRange _
    (or_right _ _ (ltb_yes offset (taken_out by) (omega arith)))

pub mid_at : (free k offset out with_part : ℕ) (by : ℤ) (s : Slot) (place size : ℕ) (cut : Split Flex) → FoundAt k s place size cut → out ≡ taken_out by
    → with_part ≡ moved 0 by → offset ≤ size → out ≤ offset → slot_mid free k offset by s ≡ splice free offset out with_part cut s
unfolding slot_mid
mid_at free k offset out with_part by s place size cut t eo ep h l =
    let long = t.long in
    let q : opened_at offset by cut.here.bytes ≡ spliced offset out with_part cut.here.bytes =
    opened_spliced cut.here.bytes offset by ∙ ap (λ i. spliced offset i (moved 0 by) cut.here.bytes) (sym eo)
    ∙ ap (λ i. spliced offset out i cut.here.bytes) (sym ep) in
    then_at k s place size cut _ t
    ∙ refuse_if-false (ltb (length cut.here.bytes) offset || ltb offset (taken_out by)) BadRange _
    (or_none _ _ (ltb_no (length cut.here.bytes) offset (omega arith)) (ltb_no offset (taken_out by) (omega arith)))
    ∙ splice_as free (moved (length cut.here.bytes) by) offset out with_part (opened_at offset by cut.here.bytes) cut s
    (moved_parts (length cut.here.bytes) out with_part by eo ep) q

pub put_none : (k offset : ℕ) (xs : List ℕ) (s : Slot) → IsFree k s.blocks → slot_put k offset xs s ≡ Err NoBlock
unfolding slot_put
put_none k offset xs s u = then_none k s _ u

pub put_beyond : (k offset : ℕ) (xs : List ℕ) (s : Slot) (place size : ℕ) → FoundFlex k s place size → size < offset + length xs
    → slot_put k offset xs s ≡ Err BadRange
unfolding slot_put
put_beyond k offset xs s place size t h =
    let long = t.at.long in
    then_at k s place size t.cut _ t.at
    ∙ refuse_if-true (ltb (length t.cut.here.bytes) (offset + length xs)) BadRange _
    (ltb_yes (length t.cut.here.bytes) (offset + length xs) (omega arith))

pub put_at : (k offset : ℕ) (xs : List ℕ) (s : Slot) (place size : ℕ) (cut : Split Flex) → FoundAt k s place size cut → offset + length xs ≤ size
    → slot_put k offset xs s ≡ Ok (with_block_bytes cut (written cut.here.bytes offset xs) s)
unfolding slot_put
put_at k offset xs s place size cut t h =
    let long = t.long in
    then_at k s place size cut _ t
    ∙ refuse_if-false (ltb (length cut.here.bytes) (offset + length xs)) BadRange _ (ltb_no (length cut.here.bytes) (offset + length xs) (omega arith))

pub read_none : (k offset n : ℕ) (s : Slot) → IsFree k s.blocks → slot_read k offset n s ≡ Err NoBlock
unfolding slot_read
read_none k offset n s u = then_none k s _ u

pub read_beyond : (k offset n : ℕ) (s : Slot) (place size : ℕ) → FoundFlex k s place size → size < offset + n → slot_read k offset n s ≡ Err BadRange
unfolding slot_read
read_beyond k offset n s place size t h =
    let long = t.at.long in
    then_at k s place size t.cut _ t.at
    ∙ refuse_if-true (ltb (length t.cut.here.bytes) (offset + n)) BadRange _ (ltb_yes (length t.cut.here.bytes) (offset + n) (omega arith))

pub read_at : (k offset n : ℕ) (s : Slot) (place size : ℕ) (cut : Split Flex) → FoundAt k s place size cut → offset + n ≤ size
    → slot_read k offset n s ≡ Ok (take n (drop offset cut.here.bytes))
unfolding slot_read
read_at k offset n s place size cut t h =
    let long = t.long in
    then_at k s place size cut _ t
    ∙ refuse_if-false (ltb (length cut.here.bytes) (offset + n)) BadRange _ (ltb_no (length cut.here.bytes) (offset + n) (omega arith))

-- a test that says when a range lies in a block
pub beyond : (t : Bool) (reach size : ℕ) → (IsTrue t ↔ (reach ≤ size)) → t ≡ false → size < reach
beyond t reach size d e = elim (cases_lt size reach) [ inl l ↦ l | inr l ↦ absurd (false-true (sym e ∙ d.1 l)) ]
