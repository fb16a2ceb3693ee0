-- What the calls that find, add and take away blocks do to the words of a slot.
use Rattle.rh_slot.proofs.Common.{◌≡◌, ℕ, ◌+◌, ◌-◌, ◌*◌, ◌/◌, ◌<◌, ◌≤◌, ◌≢◌, ◌⊎◌, inl, inr, true, false, List, [], ◌∷◌, ◌++◌, length, replicate, refl, sym}
use Rattle.rh_slot.proofs.Common.{ap, subst, ◌∙◌, append_assoc, arith, rules, append-nil, length-replicate, cases_eq, cases_lt, is_some, Ok, Err, ◌↔◌, PAGE}
use Rattle.rh_slot.proofs.Common.{NoBlock, NoRoom, word, part, SameIn, SameOutside, Granted, ◌>>=◌, found_or, total, pages_for, zeros, Split, Flex, Slot}
use Rattle.rh_slot.proofs.Common.{weight, flex_weight, slot_length, slot_pages, flex_address, IsFree, HaveAnchors, with_block, lacks_room, slot_block}
use Rattle.rh_slot.proofs.Common.{anchor_count, Lie, Anchored, SlotWords, SpellsSlot, flex_place, heap_place, word_same, part_same, sum-append, ltb_yes, ltb_no}
use Rattle.rh_slot.proofs.Common.{part_of, wider, same_both, in_below, in_above, in_both, Lie-split, Lie-same, Anchored-split, Anchored-same, HaveAnchors-cut}
use Rattle.rh_slot.proofs.Common.{block_of-at, Spells-same, BlockRow, Shifted, Walked, FoundAt, FoundFlex, refuse_if-true, refuse_if-false}
use Rattle.rh_defs.specs.declared.refusal.Refusal.TheVariants.{AnchorInUse}
use Rattle.rh_defs.specs.Slot.{without, is_used, slot_size, slot_address, slot_free, slot_alloc}
use Rattle.std.proofs.Common.{ap₂}
use Rattle.std.proofs.lemmas.List.{replicate-append-replicate}
use Rattle.rh_defs.proofs.Anchors.{anchors-append}
use Rattle.rh_defs.proofs.BytesLaws.{part_more}
use Rattle.rh_defs.proofs.SlotLaws.{Lie-join, Anchored-join, IsFree-split, IsFree-join, find, block_of-none}
use Rattle.rh_slot.proofs.ShiftLaws.{apart, Anchored-apart}

-- the slot with other blocks
abbrev pub with_blocks : List Flex → Slot → Slot
with_blocks blocks s = record s { blocks = blocks }

-- bytes that stay up to the top keep the slot
pub words_same : (b c : List ℕ) (s : Slot) → SameIn b c 0 (slot_length s) → slot_length s ≤ length c → SlotWords b s → SlotWords c s
words_same b c s o l w = record {
  heap = Spells-same b c heap_place s.heap (part_of o (omega arith) (omega arith)) (omega arith) w.heap;
  within = l;
  lie = Lie-same b c (flex_place s) (slot_length s) s.blocks (part_of o (omega arith) (omega arith)) (omega arith) w.lie;
  anchored = Anchored-same b c (flex_place s) s.blocks w.anchors (part_of o (omega arith) (omega arith)) w.anchored;
  none = λ k u v. word_same b c (4 * k) (part_of o (omega arith) (omega arith)) ∙ w.none k u v;
  anchors = w.anchors;
}

pub words_grown : (b c : List ℕ) (s : Slot) → SpellsSlot b s → SameIn b c 0 (length b) → length b ≤ length c → SlotWords c s
words_grown b c s x o l = let f = x.words.within in words_same b c s (part_of o (omega arith) (omega arith)) (omega arith) x.words

pub paged : (d : List ℕ) (s : Slot) (t : ℕ) → SlotWords d s → slot_length s ≡ t → length d ≡ PAGE * pages_for t → SpellsSlot d s
paged d s t w q l = record { words = w; pages = l ∙ ap (λ i. PAGE * pages_for i) (sym q) }

pub settled : (d e : List ℕ) (s : Slot) (t : ℕ) → SlotWords d s → slot_length s ≡ t → SameIn d e 0 t → length e ≡ PAGE * pages_for t → SpellsSlot e s
settled d e s t w q o l = paged e s t (words_same d e s (subst (SameIn d e 0) (sym q) o) (omega arith) w) q l

-- ---- the block of an anchor

-- what a word says that is not 0
pub record Leads (b : List ℕ) (s : Slot) (k a : ℕ) : Type 0 where
  pub least : 32776 ≤ a
  pub within : a - 32768 - 8 + 8 ≤ length b
  pub found : (size : ℕ) → size ≡ word b (a - 32768 - 8 + 4) → FoundFlex k s (a - 32768 - 8) size

leads_at : (b : List ℕ) (s : Slot) (k a : ℕ) (xs : List Flex) (f : Flex) (ys : List Flex) → SlotWords b s → s.blocks ≡ xs ++ f ∷ ys → f.anchor ≡ k
    → IsFree k xs → a ≡ word b (4 * k) → Leads b s k a
leads_at b s k a xs f ys w is e u r =
    let l = Lie-split b (flex_place s) xs (f ∷ ys) (subst (Lie b (flex_place s)) is w.lie) in
    let h = Anchored-split b (flex_place s) xs (f ∷ ys) (subst (Anchored b (flex_place s)) is w.anchored) in
    let q : a ≡ 32768 + (flex_place s + total weight xs) + 8 = r ∙ ap (λ j. word b (4 * j)) (sym e) ∙ h.1.0 in
    let sum : total weight s.blocks ≡ total weight xs + (weight f + total weight ys) = ap (total weight) is ∙ sum-append weight xs (f ∷ ys) in
    let fits = w.within in
    let pl : a - 32768 - 8 ≡ flex_place s + total weight xs = omega arith in
    record {
      least = omega arith;
      within = omega arith;
      found = λ size es.
          let long : size ≡ length f.bytes = es ∙ ap (λ j. word b (j + 4)) pl ∙ l.1.1 in
          let wl : flex_weight size ≡ weight f = ap flex_weight long in
          record {
            cut = record { before = xs; here = f; after = ys };
            at = record { is = is; anchor = e; free = u; stands = pl; long = long; low = omega arith; inside = omega arith };
          };
    }

pub leads : (b : List ℕ) (s : Slot) (k p a : ℕ) → SlotWords b s → k < anchor_count → p ≡ 4 * k → a ≡ word b p
    → (a ≡ 0 → IsFree k s.blocks) × (a ≢ 0 → Leads b s k a)
leads b s k p a w l ep e =
    let r : a ≡ word b (4 * k) = e ∙ ap (word b) ep in
    elim (find k s.blocks) [
      | inl u ↦ ((λ z. u), (λ z. absurd (z (r ∙ w.none k l u))))
      | inr t ↦ let x = leads_at b s k a t.before t.here t.after w t.is t.anchor t.free r in
          ((λ z. absurd (let q = x.least in omega arith)), (λ z. x))
    ]

-- ---- blocks in the middle of the list are replaced
Anchored-kept : (b d : List ℕ) (p : ℕ) (xs mid new ys : List Flex) → HaveAnchors (xs ++ (mid ++ ys)) → HaveAnchors (xs ++ (new ++ ys))
    → ((j : ℕ) → j < anchor_count → IsFree j mid → IsFree j new → IsFree j ys → word d (4 * j) ≡ word b (4 * j)) → Anchored b p xs → Anchored d p xs
Anchored-kept b d p [] mid new ys x y o h = tt
Anchored-kept b d p (f ∷ xs) mid new ys x y o h =
    let u = IsFree-split f.anchor mid ys (IsFree-split f.anchor xs (mid ++ ys) x.1).1 in
    let v = IsFree-split f.anchor new ys (IsFree-split f.anchor xs (new ++ ys) y.1).1 in
    (o f.anchor x.0 u.0 v.0 u.1 ∙ h.0, Anchored-kept b d (p + weight f) xs mid new ys x.2 y.2 o h.1)

pub rebuilt : (b d : List ℕ) (s : Slot) (xs mid new ys : List Flex) (p q : ℕ)
    → SlotWords b s → s.blocks ≡ xs ++ (mid ++ ys) → p ≡ flex_place s + total weight xs → q ≡ p + total weight new
    → SameIn b d heap_place p → q + total weight ys ≤ length d
    → Lie d p new → Anchored d p new → Lie d q ys → Anchored d q ys
    → ((j : ℕ) → j < anchor_count → IsFree j mid → IsFree j new → IsFree j ys → word d (4 * j) ≡ word b (4 * j))
    → ((j : ℕ) → j < anchor_count → IsFree j new → IsFree j mid ⊎ (word d (4 * j) ≡ 0))
    → HaveAnchors (xs ++ (new ++ ys))
    → SlotWords d (with_blocks (xs ++ (new ++ ys)) s)
rebuilt b d s xs mid new ys p q w is pp qq same fits ln hn ly hy others lost anchors =
    let lx = (Lie-split b (flex_place s) xs (mid ++ ys) (subst (Lie b (flex_place s)) is w.lie)).0 in
    let hx = (Anchored-split b (flex_place s) xs (mid ++ ys) (subst (Anchored b (flex_place s)) is w.anchored)).0 in
    let old = subst HaveAnchors is w.anchors in
    let sum : total weight (xs ++ (new ++ ys)) ≡ total weight xs + (total weight new + total weight ys) =
    sum-append weight xs (new ++ ys) ∙ ap (λ n. total weight xs + n) (sum-append weight new ys) in
    record {
      heap = Spells-same b d heap_place s.heap (part_of same (omega arith) (omega arith)) (omega arith) w.heap;
      within = omega arith;
      lie = Lie-join d (flex_place s) p xs (new ++ ys) pp (Lie-same b d (flex_place s) p xs (part_of same (omega arith) (omega arith)) (omega arith) lx)
          (Lie-join d p q new ys qq ln ly);
      anchored = Anchored-join d (flex_place s) p xs (new ++ ys) pp (Anchored-kept b d (flex_place s) xs mid new ys old anchors others hx)
          (Anchored-join d p q new ys qq hn hy);
      none = λ j u v.
          let a = IsFree-split j xs (new ++ ys) v in
          let r = IsFree-split j new ys a.1 in
          elim (lost j u r.0) [
            | inl m ↦ others j u m r.0 r.1 ∙ w.none j u (subst (IsFree j) (sym is) (IsFree-join j xs (mid ++ ys) a.0 (IsFree-join j mid ys m r.1)))
            | inr z ↦ z
          ];
      anchors = anchors;
    }

-- where the blocks above a block begin, and how many bytes they take
pub reach : (s : Slot) (k place size w t : ℕ) (cut : Split Flex) → FoundAt k s place size cut → w ≡ flex_weight size → t ≡ slot_length s
    → place + w + (t - (place + w)) ≡ slot_length s
reach s k place size w t cut f ew et = let i = f.inside in omega arith

-- the walk that has passed the blocks up to one
pub walked_past : (s : Slot) (k place size w : ℕ) (cut : Split Flex) → FoundAt k s place size cut → w ≡ flex_weight size → Walked s (place + w)
walked_past s k place size w cut f ew = record {
  before = cut.before ++ cut.here ∷ [];
  rest = cut.after;
  is = f.is ∙ sym (append_assoc cut.before (cut.here ∷ []) cut.after);
  place_is = omega (arith, f.stands, ap flex_weight f.long, sum-append weight cut.before (cut.here ∷ []));
}

-- the blocks above a block
pub above : (b : List ℕ) (s : Slot) (k place size from n : ℕ) (cut : Split Flex) → SlotWords b s → FoundAt k s place size cut
    → from ≡ place + flex_weight size → from + n ≡ slot_length s → Lie b from cut.after × (total weight cut.after ≡ n) × HaveAnchors cut.after
above b s k place size from n cut w t ef en =
    let is = t.is in
    let sum : total weight s.blocks ≡ total weight cut.before + (weight cut.here + total weight cut.after) =
    ap (total weight) is ∙ sum-append weight cut.before (cut.here ∷ cut.after) in
    let l = (Lie-split b (flex_place s) cut.before (cut.here ∷ cut.after) (subst (Lie b (flex_place s)) is w.lie)).1.3 in
    let st = t.stands in
    let wl : flex_weight size ≡ weight cut.here = ap flex_weight t.long in
    let e : flex_place s + total weight cut.before + weight cut.here ≡ from = omega arith in
    (subst (λ p. Lie b p cut.after) e l, omega arith, (HaveAnchors-cut cut.before cut.here cut.after (subst HaveAnchors is w.anchors)).above)

pub row_above : (b : List ℕ) (s : Slot) (k place size from n : ℕ) → SlotWords b s → FoundFlex k s place size → from ≡ place + flex_weight size
    → from + n ≡ slot_length s → BlockRow b from n
row_above b s k place size from n w t ef en =
    let a = above b s k place size from n t.cut w t.at ef en in
    record { blocks = t.cut.after; lie = a.0; sum = a.1; anchors = a.2 }

-- a block goes, and those above it slide down
pub freed : (b c d : List ℕ) (s : Slot) (k p place size from n : ℕ) (cut : Split Flex) → SlotWords b s → FoundAt k s place size cut → k < anchor_count
    → p ≡ 4 * k → from ≡ place + flex_weight size → from + n ≡ slot_length s
    → ((fs : List Flex) → Lie b from fs → total weight fs ≡ n → Shifted b c place fs) → SameIn b c heap_place place → length c ≡ length b
    → SameOutside c d p (p + 4) → word d p ≡ 0
    → SlotWords d (without cut s) × (slot_length (without cut s) ≡ place + n)
freed b c d s k p place size from n cut w t l ep ef en sh same len op zp =
    let o : SameOutside c d (4 * k) (4 * k + 4) = subst (λ i. SameOutside c d i (i + 4)) ep op in
    let z : word d (4 * k) ≡ 0 = ap (word d) (sym ep) ∙ zp in
    let row = above b s k place size from n cut w t ef en in
    let xs = cut.before in
    let f = cut.here in
    let ys = cut.after in
    let apart_of = HaveAnchors-cut xs f ys (subst HaveAnchors t.is w.anchors) in
    let e = t.anchor in
    let sum : total weight ys ≡ n = row.1 in
    let x = sh ys row.0 sum in
    let st = t.stands in
    let fits = w.within in
    let low = t.low in (
      rebuilt b d s xs (f ∷ []) [] ys place place w t.is st (omega arith)
          (in_both same (in_above o (omega arith))) (let dl = o.len in omega arith) tt tt
          (Lie-same c d place (place + total weight ys) ys (in_above o (omega arith)) (omega arith) x.lie)
          (Anchored-apart c d place k ys o (subst (λ j. IsFree j ys) e apart_of.after) x.hung.anchored)
          (λ j u m v y. apart c d j k o (λ q. m.0 (e ∙ sym q)) ∙ x.hung.others j u y)
          (λ j u v. elim (cases_eq j k) [ inl q ↦ inr (ap (λ i. word d (4 * i)) q ∙ z) | inr q ↦ inl ((λ r. q (sym r ∙ e)), tt) ])
          apart_of.rest,
      (let both : total weight (xs ++ ys) ≡ total weight xs + total weight ys = sum-append weight xs ys in omega arith),
    )

-- the words of a new block of n bytes at t are written one after another: its header, its size, its zeros, and the anchor
-- word at p
pub record AllocSteps (b b1 b2 b3 d : List ℕ) (p n t : ℕ) : Type 0 where
  pub header : word b1 t ≡ 32768 + p
  pub only_header : SameOutside b b1 t (t + 4)
  pub sized : word b2 (t + 4) ≡ n
  pub only_sized : SameOutside b1 b2 (t + 4) (t + 4 + 4)
  pub cleared : part b3 (t + 8) n ≡ replicate n 0
  pub only_cleared : SameOutside b2 b3 (t + 8) (t + 8 + n)
  pub hung : word d p ≡ 32768 + t + 8
  pub only_hung : SameOutside b3 d p (p + 4)

-- of n bytes from a place on those that stood there before are cleared, and the others come as zeros
pub all_cleared : {b b1 b2 b3 : List ℕ} (t n used end : ℕ) → used ≤ n → (n ≡ used) ⊎ (end ≤ t + 8 + used) → t + 8 + n ≤ length b
    → SameOutside b b1 t (t + 4) → SameOutside b1 b2 (t + 4) (t + 4 + 4) → SameOutside b2 b3 (t + 8) (t + 8 + used)
    → part b3 (t + 8) used ≡ replicate used 0
    → ((place count : ℕ) → end ≤ place → place + count ≤ length b → part b place count ≡ replicate count 0) → part b3 (t + 8) n ≡ replicate n 0
all_cleared {b} {b1} {b2} {b3} t n used end few (inl e) inside o0 o1 o2 cleared come =
    ap (part b3 (t + 8)) e ∙ cleared ∙ ap (λ k. replicate k 0) (sym e)
all_cleared {b} {b1} {b2} {b3} t n used end few (inr high) inside o0 o1 o2 cleared come =
    let rest = n - used in
    let all : used + rest ≡ n = omega arith in
    let place = t + 8 + used in
    let same : part b3 place rest ≡ part b place rest =
    part_same b2 b3 place rest (in_above o2 (omega arith)) ∙ part_same b1 b2 place rest (in_above o1 (omega arith))
    ∙ part_same b b1 place rest (in_above o0 (omega arith)) in
    ap (part b3 (t + 8)) (sym all) ∙ part_more b3 (t + 8) used rest
    ∙ ap₂ (λ x y. x ++ y) cleared (same ∙ come place rest high (omega arith)) ∙ replicate-append-replicate used rest 0
    ∙ ap (λ k. replicate k 0) all

-- what they make of the slot
pub alloced : {b b1 b2 b3 d : List ℕ} {s : Slot} {k p n t : ℕ} → SlotWords b s → IsFree k s.blocks → k < anchor_count → p ≡ 4 * k → t ≡ slot_length s
    → t + flex_weight n ≤ length b → AllocSteps b b1 b2 b3 d p n t
    → SlotWords d (with_block k (zeros n) s) × (slot_length (with_block k (zeros n) s) ≡ t + flex_weight n)
alloced {b} {b1} {b2} {b3} {d} {s} {k} {p} {n} {t} w u l ep e fits steps =
    let h0 = steps.header in
    let o0 = steps.only_header in
    let h1 = steps.sized in
    let o1 = steps.only_sized in
    let h2 = steps.cleared in
    let o2 = steps.only_cleared in
    let hp = steps.hung in
    let op = steps.only_hung in
    let o3 : SameOutside b3 d (4 * k) (4 * k + 4) = subst (λ i. SameOutside b3 d i (i + 4)) ep op in
    let h3 : word d (4 * k) ≡ 32768 + t + 8 = ap (word d) (sym ep) ∙ hp in
    let f : Flex = record { anchor = k; bytes = zeros n } in
    let ln = length-replicate {A = ℕ} n 0 in
    let wl : weight f ≡ flex_weight n = ap flex_weight ln in
    let big : SameOutside b b3 t (t + 8 + n) =
    same_both (wider o0 (omega arith) (omega arith)) (same_both (wider o1 (omega arith) (omega arith)) (wider o2 (omega arith) (omega arith))) in
    let a0 : word d t ≡ 32768 + 4 * k =
    word_same b3 d t (in_above o3 (omega arith)) ∙ word_same b2 b3 t (in_below o2 (omega arith)) ∙ word_same b1 b2 t (in_below o1 (omega arith)) ∙ h0
    ∙ ap (λ i. 32768 + i) ep in
    let a1 : word d (t + 4) ≡ length (zeros n) =
    word_same b3 d (t + 4) (in_above o3 (omega arith)) ∙ word_same b2 b3 (t + 4) (in_below o2 (omega arith)) ∙ h1 ∙ sym ln in
    let a2 : part d (t + 8) (length (zeros n)) ≡ zeros n =
    ap (part d (t + 8)) ln ∙ part_same b3 d (t + 8) n (in_above o3 (omega arith)) ∙ h2 in
    let len : length d ≡ length b = o3.len ∙ big.len in (
      rebuilt b d s s.blocks [] (f ∷ []) [] t (t + flex_weight n) w (sym (append-nil s.blocks)) e (omega arith)
          (in_both (in_below big (omega arith)) (in_above o3 (omega arith))) (omega arith)
          (a0, a1, a2, tt) (h3, tt) tt tt
          (λ j v m x y. apart b3 d j k o3 (λ q. x.0 (sym q)) ∙ word_same b b3 (4 * j) (in_below big (omega arith)))
          (λ j v x. inl tt)
          (anchors-append s.blocks f w.anchors u l),
      (let both = sum-append weight s.blocks (f ∷ []) in omega arith),
    )

-- ---- what the calls answer
pub block_none : (k : ℕ) (s : Slot) → IsFree k s.blocks → slot_block k s ≡ Err NoBlock
unfolding slot_block found_or
block_none k s u = ap (λ o. found_or o NoBlock) (block_of-none k s u)

pub block_at : (k : ℕ) (s : Slot) (place size : ℕ) (cut : Split Flex) → FoundAt k s place size cut → slot_block k s ≡ Ok cut
unfolding slot_block found_or
block_at k s place size cut t = ap (λ o. found_or o NoBlock) (block_of-at k s cut t.is t.free t.anchor)

-- a call that begins with the anchor's block
pub then_none : {B : Type 0} (k : ℕ) (s : Slot) (next : Split Flex → Granted B) → IsFree k s.blocks → (slot_block k s >>= next) ≡ Err NoBlock
unfolding ◌>>=◌
then_none k s next u = ap (λ (o : Granted (Split Flex)). o >>= next) (block_none k s u)

pub then_at : {B : Type 0} (k : ℕ) (s : Slot) (place size : ℕ) (cut : Split Flex) (next : Split Flex → Granted B) → FoundAt k s place size cut
    → (slot_block k s >>= next) ≡ next cut
unfolding ◌>>=◌
then_at k s place size cut next t = ap (λ (o : Granted (Split Flex)). o >>= next) (block_at k s place size cut t)

pub size_none : (k : ℕ) (s : Slot) → IsFree k s.blocks → slot_size k s ≡ Err NoBlock
unfolding slot_size
size_none k s u = then_none k s _ u

pub size_found : (k : ℕ) (s : Slot) (place size : ℕ) → FoundFlex k s place size → slot_size k s ≡ Ok size
unfolding slot_size
size_found k s place size t = then_at k s place size t.cut _ t.at ∙ ap (λ (n : ℕ). Ok n) (sym t.at.long)

pub address_none : (k : ℕ) (s : Slot) → IsFree k s.blocks → slot_address k s ≡ Err NoBlock
unfolding slot_address
address_none k s u = then_none k s _ u

pub address_found : (k : ℕ) (s : Slot) (place size : ℕ) → FoundFlex k s place size → slot_address k s ≡ Ok (32768 + place + 8)
unfolding slot_address
address_found k s place size t = then_at k s place size t.cut _ t.at ∙ ap (λ (n : ℕ). Ok n) (let st = t.at.stands in omega arith)

pub free_none : (k : ℕ) (s : Slot) → IsFree k s.blocks → slot_free k s ≡ Err NoBlock
unfolding slot_free
free_none k s u = then_none k s _ u

pub free_at : (k : ℕ) (s : Slot) (place size : ℕ) (cut : Split Flex) → FoundAt k s place size cut → slot_free k s ≡ Ok (without cut s)
unfolding slot_free
free_at k s place size cut t = then_at k s place size cut _ t

pub alloc_used : (free k n : ℕ) (s : Slot) (place size : ℕ) → FoundFlex k s place size → slot_alloc free k n s ≡ Err AnchorInUse
unfolding slot_alloc
alloc_used free k n s place size t = refuse_if-true (is_used k s) AnchorInUse _ (ap is_some (block_of-at k s t.cut t.at.is t.at.free t.at.anchor))

pub alloc_full : (free k n : ℕ) (s : Slot) → IsFree k s.blocks → free < pages_for (slot_length s + flex_weight n) - slot_pages s
    → slot_alloc free k n s ≡ Err NoRoom
unfolding slot_alloc
alloc_full free k n s u h =
    refuse_if-false (is_used k s) AnchorInUse _ (ap is_some (block_of-none k s u))
    ∙ refuse_if-true (lacks_room free (slot_length s + flex_weight n) s) NoRoom _ (ltb_yes free (pages_for (slot_length s + flex_weight n) - slot_pages s) h)

pub alloc_done : (free k n : ℕ) (s : Slot) (a : ℕ) → IsFree k s.blocks → pages_for (slot_length s + flex_weight n) - slot_pages s ≤ free
    → a ≡ flex_address s s.blocks → slot_alloc free k n s ≡ Ok (with_block k (zeros n) s, a)
unfolding slot_alloc
alloc_done free k n s a u h e =
    refuse_if-false (is_used k s) AnchorInUse _ (ap is_some (block_of-none k s u))
    ∙ refuse_if-false (lacks_room free (slot_length s + flex_weight n) s) NoRoom _ (ltb_no free (pages_for (slot_length s + flex_weight n) - slot_pages s) h)
    ∙ ap (λ (i : ℕ). Ok (with_block k (zeros n) s, i)) (sym e)

-- the pages that a new block needs
pub pages_more : (b : List ℕ) (s : Slot) (n t w : ℕ) → length b ≡ PAGE * slot_pages s → t ≡ slot_length s → w ≡ flex_weight n
    → pages_for (t + w) - length b / PAGE ≡ pages_for (slot_length s + flex_weight n) - slot_pages s
pages_more b s n t w l et ew =
    let q : length b / PAGE ≡ slot_pages s = omega arith in
    let top : t + w ≡ slot_length s + flex_weight n = omega arith in
    rw (q, top) refl

-- the same of its two ends
pub pages_wanted : (s : Slot) (n t w a b : ℕ) → t ≡ slot_length s → w ≡ flex_weight n → a ≡ pages_for (t + w) → b ≡ pages_for t
    → a - b ≡ pages_for (slot_length s + flex_weight n) - slot_pages s
pages_wanted s n t w a b et ew ea eb = rw (ea, eb, et, ew) refl

-- whether pages were refused, by what the slot wants
pub has_room : {P : Type 0} (free x y : ℕ) → (P ↔ (free < x)) → (P → ⊥) → x ≡ y → y ≤ free
has_room free x y d n e = elim (cases_lt free x) [ inl l ↦ absurd (n (d.1 l)) | inr l ↦ omega arith ]

pub has_none : {P : Type 0} (free x y : ℕ) → (P ↔ (free < x)) → P → x ≡ y → free < y
has_none free x y d n e = let l = d.0 n in omega arith

pub false-true : false ≡ true → ⊥
false-true e = search rules
