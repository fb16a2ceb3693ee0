-- Laws of flex blocks that lie in bytes.
use Rattle.rh_defs.proofs.Common.{◌≡◌, ℕ, ◌+◌, ◌*◌, ◌<◌, ◌≤◌, ◌≢◌, ◌⊎◌, inl, inr, List, [], ◌∷◌, ◌++◌, length, get_or, refl, sym, ap, subst, ◌∙◌, arith}
use Rattle.rh_defs.proofs.Common.{cases_eq, ◌==◌, Some, None, part, SameIn, SameOutside, total, Split, first_at, Heap, Spells, Flex, Slot, weight}
use Rattle.rh_defs.proofs.Common.{flex_weight, flex_start, IsFree, HaveAnchors, anchor_count, word_same, part_same}
use Rattle.rh_defs.specs.Inner.NonePassing.{NonePass}
use Rattle.rh_defs.specs.Slot.{block_of}
use Rattle.rh_defs.specs.SlotImage.{Lie, Anchored, heap_place}
use Rattle.rh_defs.proofs.BytesLaws.{words_same, parts_same, SameOutside-wider, SameOutside-both}
use Rattle.rh_defs.proofs.HeapLists.{first_at-none, first_at-found, eqb_same, eqb_apart, HasRoom-from_tidy}
use Rattle.rh_defs.proofs.HeapStretch.{Stand-kept}

-- ---- ranges of equal bytes, from the wider to the narrower
pub part_of : {b c : List ℕ} {lo hi : ℕ} → SameIn b c lo hi → {x y : ℕ} → lo ≤ x → y ≤ hi → SameIn b c x y
part_of s l h = record { each = λ k u v. s.each k (omega arith) (omega arith) }

pub wider : {b c : List ℕ} {lo hi : ℕ} → SameOutside b c lo hi → {x y : ℕ} → x ≤ lo → hi ≤ y → SameOutside b c x y
wider {b} {c} {lo} {hi} s {x} {y} l h = SameOutside-wider b c lo hi x y s l h

pub same_both : {b c d : List ℕ} {lo hi : ℕ} → SameOutside b c lo hi → SameOutside c d lo hi → SameOutside b d lo hi
same_both {b} {c} {d} {lo} {hi} s t = SameOutside-both b c d lo hi s t

pub in_below : {b c : List ℕ} {lo hi : ℕ} → SameOutside b c lo hi → {x y : ℕ} → y ≤ lo → SameIn b c x y
in_below s h = record { each = λ k u v. s.below k (omega arith) }

pub in_above : {b c : List ℕ} {lo hi : ℕ} → SameOutside b c lo hi → {x y : ℕ} → hi ≤ x → SameIn b c x y
in_above s h = record { each = λ k u v. s.above k (omega arith) }

pub in_both : {b c d : List ℕ} {lo hi : ℕ} → SameIn b c lo hi → SameIn c d lo hi → SameIn b d lo hi
in_both s t = record { each = λ k u v. t.each k u v ∙ s.each k u v }

-- ---- the headers and the bytes of blocks
pub flex_same : (f g : Flex) → f.anchor ≡ g.anchor → f.bytes ≡ g.bytes → f ≡ g
flex_same f g a e =
    ap (λ (k : ℕ). let r : Flex = record { anchor = k; bytes = f.bytes } in r) a
    ∙ ap (λ (l : List ℕ). let r : Flex = record { anchor = g.anchor; bytes = l } in r) e

pub Lie-split : (b : List ℕ) (p : ℕ) (xs ys : List Flex) → Lie b p (xs ++ ys) → Lie b p xs × Lie b (p + total weight xs) ys
Lie-split b p [] ys h = (tt, let e : p ≡ p + 0 = omega arith in subst (λ q. Lie b q ys) e h)
Lie-split b p (f ∷ xs) ys h =
    let r = Lie-split b (p + weight f) xs ys h.3 in
    let e : p + weight f + total weight xs ≡ p + (weight f + total weight xs) = omega arith in
    ((h.0, h.1, h.2, r.0), subst (λ q. Lie b q ys) e r.1)

pub Lie-join : (b : List ℕ) (p q : ℕ) (xs ys : List Flex) → q ≡ p + total weight xs → Lie b p xs → Lie b q ys → Lie b p (xs ++ ys)
Lie-join b p q [] ys e l m = let z : q ≡ p = omega arith in subst (λ i. Lie b i ys) z m
Lie-join b p q (f ∷ xs) ys e l m = (l.0, l.1, l.2, Lie-join b (p + weight f) q xs ys (omega arith) l.3 m)

-- blocks stay where their bytes stay
pub Lie-same : (b c : List ℕ) (p e : ℕ) (fs : List Flex) → SameIn b c p e → p + total weight fs ≤ e → Lie b p fs → Lie c p fs
Lie-same b c p e [] s h l = tt
Lie-same b c p e (f ∷ fs) s h l = (
  word_same b c p (part_of s (omega arith) (omega arith)) ∙ l.0,
  word_same b c (p + 4) (part_of s (omega arith) (omega arith)) ∙ l.1,
  part_same b c (p + 8) (length f.bytes) (part_of s (omega arith) (omega arith)) ∙ l.2,
  Lie-same b c (p + weight f) e fs (part_of s (omega arith) (omega arith)) (omega arith) l.3,
)

-- n bytes of the second list from `to` on are the first one's from `from` on
pub record Carried (b c : List ℕ) (from to n : ℕ) : Type 0 where
  pub each : (k : ℕ) → k < n → get_or c (to + k) 0 ≡ get_or b (from + k) 0

moved_by : {b c : List ℕ} {from to n : ℕ} → Carried b c from to n → {m : ℕ} (d : ℕ) → d + m ≤ n → (k : ℕ) → k < m
    → get_or c (to + d + k) 0 ≡ get_or b (from + d + k) 0
moved_by {b} {c} {from} {to} s d h k l =
    ap (λ i. get_or c i 0) (let e : to + d + k ≡ to + (d + k) = omega arith in e) ∙ s.each (d + k) (omega arith)
    ∙ ap (λ i. get_or b i 0) (let e : from + (d + k) ≡ from + d + k = omega arith in e)

rest_of : {b c : List ℕ} {from to n : ℕ} → Carried b c from to n → {m : ℕ} (d : ℕ) → d + m ≤ n → Carried b c (from + d) (to + d) m
rest_of s d h = record { each = moved_by s d h }

-- blocks that slid
pub Lie-carried : (b c : List ℕ) (from to : ℕ) (fs : List Flex) → Carried b c from to (total weight fs) → Lie b from fs → Lie c to fs
Lie-carried b c from to [] s l = tt
Lie-carried b c from to (f ∷ fs) s l = (
  words_same b c from to (λ k h. s.each k (omega arith)) ∙ l.0,
  words_same b c (from + 4) (to + 4) (moved_by s 4 (omega arith)) ∙ l.1,
  parts_same b c (from + 8) (to + 8) (length f.bytes) (moved_by s 8 (omega arith)) ∙ l.2,
  Lie-carried b c (from + weight f) (to + weight f) fs (rest_of s (weight f) (omega arith)) l.3,
)

-- from one place on only one list of blocks of one weight lies
pub Lie-unique : (b : List ℕ) (p : ℕ) (fs gs : List Flex) → Lie b p fs → Lie b p gs → total weight fs ≡ total weight gs → fs ≡ gs
Lie-unique b p [] [] l m e = refl
Lie-unique b p [] (g ∷ gs) l m e = absurd (omega arith)
Lie-unique b p (f ∷ fs) [] l m e = absurd (omega arith)
Lie-unique b p (f ∷ fs) (g ∷ gs) l m e =
    let anchor : f.anchor ≡ g.anchor = let a = l.0 in let c = m.0 in omega arith in
    let long : length f.bytes ≡ length g.bytes = sym l.1 ∙ m.1 in
    let bytes : f.bytes ≡ g.bytes = sym l.2 ∙ ap (part b (p + 8)) long ∙ m.2 in
    let one : f ≡ g = flex_same f g anchor bytes in
    let rest : Lie b (p + weight f) gs = subst (λ n. Lie b (p + flex_weight n) gs) (sym long) m.3 in
    ap (λ h. h ∷ fs) one ∙ ap (λ hs. g ∷ hs) (Lie-unique b (p + weight f) fs gs l.3 rest
    (let w : flex_weight (length f.bytes) ≡ flex_weight (length g.bytes) = ap flex_weight long in omega arith))

pub none_weigh : (fs : List Flex) → total weight fs ≡ 0 → fs ≡ []
none_weigh [] e = refl
none_weigh (f ∷ fs) e = absurd (omega arith)

-- ---- their anchor words
pub Anchored-split : (b : List ℕ) (p : ℕ) (xs ys : List Flex) → Anchored b p (xs ++ ys) → Anchored b p xs × Anchored b (p + total weight xs) ys
Anchored-split b p [] ys h = (tt, let e : p ≡ p + 0 = omega arith in subst (λ q. Anchored b q ys) e h)
Anchored-split b p (f ∷ xs) ys h =
    let r = Anchored-split b (p + weight f) xs ys h.1 in
    let e : p + weight f + total weight xs ≡ p + (weight f + total weight xs) = omega arith in
    ((h.0, r.0), subst (λ q. Anchored b q ys) e r.1)

pub Anchored-join : (b : List ℕ) (p q : ℕ) (xs ys : List Flex) → q ≡ p + total weight xs → Anchored b p xs → Anchored b q ys → Anchored b p (xs ++ ys)
Anchored-join b p q [] ys e l m = let z : q ≡ p = omega arith in subst (λ i. Anchored b i ys) z m
Anchored-join b p q (f ∷ xs) ys e l m = (l.0, Anchored-join b (p + weight f) q xs ys (omega arith) l.1 m)

pub Anchored-same : (b c : List ℕ) (p : ℕ) (fs : List Flex) → HaveAnchors fs → SameIn b c 0 heap_place → Anchored b p fs → Anchored c p fs
Anchored-same b c p [] a s h = tt
Anchored-same b c p (f ∷ fs) a s h =
    let small = a.0 in
    (word_same b c (4 * f.anchor) (part_of s (omega arith) (omega arith)) ∙ h.0, Anchored-same b c (p + weight f) fs a.2 s h.1)

-- ---- anchors
pub IsFree-split : (k : ℕ) (xs ys : List Flex) → IsFree k (xs ++ ys) → IsFree k xs × IsFree k ys
IsFree-split k [] ys u = (tt, u)
IsFree-split k (f ∷ xs) ys u = let r = IsFree-split k xs ys u.1 in ((u.0, r.0), r.1)

pub IsFree-join : (k : ℕ) (xs ys : List Flex) → IsFree k xs → IsFree k ys → IsFree k (xs ++ ys)
IsFree-join k [] ys u v = v
IsFree-join k (f ∷ xs) ys u v = (u.0, IsFree-join k xs ys u.1 v)

-- a block's anchor is none of the others'
pub record Apart (xs : List Flex) (f : Flex) (ys : List Flex) : Type 0 where
  pub small : f.anchor < anchor_count
  pub before : IsFree f.anchor xs
  pub after : IsFree f.anchor ys
  pub above : HaveAnchors ys
  pub rest : HaveAnchors (xs ++ ys)

pub HaveAnchors-cut : (xs : List Flex) (f : Flex) (ys : List Flex) → HaveAnchors (xs ++ f ∷ ys) → Apart xs f ys
HaveAnchors-cut [] f ys a = record { small = a.0; before = tt; after = a.1; above = a.2; rest = a.2 }
HaveAnchors-cut (g ∷ xs) f ys a =
    let r = HaveAnchors-cut xs f ys a.2 in
    let u = IsFree-split g.anchor xs (f ∷ ys) a.1 in
    let ne = u.1.0 in
    record {
      small = r.small;
      before = ((λ e. ne (sym e)), r.before);
      after = r.after;
      above = r.above;
      rest = (a.0, IsFree-join g.anchor xs ys u.0 u.1.1, r.rest);
    }

-- the block of an anchor, with the blocks before it and behind it
pub record At (k : ℕ) (fs : List Flex) : Type 0 where
  pub before : List Flex
  pub here : Flex
  pub after : List Flex
  pub is : fs ≡ before ++ here ∷ after
  pub anchor : here.anchor ≡ k
  pub free : IsFree k before

at_next : (k : ℕ) (f : Flex) (fs : List Flex) → f.anchor ≢ k → At k fs → At k (f ∷ fs)
at_next k f fs ne t = record { before = f ∷ t.before; here = t.here; after = t.after; is = ap (λ l. f ∷ l) t.is; anchor = t.anchor; free = (ne, t.free) }

pub find : (k : ℕ) (fs : List Flex) → IsFree k fs ⊎ At k fs
find k [] = inl tt
find k (f ∷ fs) = elim (cases_eq f.anchor k) [
  | inl e ↦ inr (record { before = []; here = f; after = fs; is = refl; anchor = e; free = tt })
  | inr ne ↦ elim (find k fs) [ inl u ↦ inl (ne, u) | inr t ↦ inr (at_next k f fs ne t) ]
]

none_pass : (k p : ℕ) (xs : List Flex) → IsFree k xs → NonePass weight (λ _ b. b.anchor == k) p xs
none_pass k p [] u = tt
none_pass k p (f ∷ xs) u = (eqb_apart f.anchor k u.0, none_pass k (p + weight f) xs u.1)

pub block_of-none : (k : ℕ) (s : Slot) → IsFree k s.blocks → block_of k s ≡ None
block_of-none k s u = first_at-none weight (λ _ b. b.anchor == k) (flex_start s) s.blocks (none_pass k (flex_start s) s.blocks u)

pub block_of-at : (k : ℕ) (s : Slot) (c : Split Flex) → s.blocks ≡ c.before ++ c.here ∷ c.after → IsFree k c.before → c.here.anchor ≡ k → block_of k s ≡ Some c
block_of-at k s c is u e =
    ap (first_at weight (λ _ b. b.anchor == k) (flex_start s)) is
    ∙ first_at-found weight (λ _ b. b.anchor == k) (flex_start s) c.before c.here c.after (none_pass k (flex_start s) c.before u) (eqb_same c.here.anchor k e)

-- ---- the C heap
pub Spells-same : (b c : List ℕ) (at : ℕ) (h : Heap) → SameIn b c at (at + h.end) → at + h.end ≤ length c → Spells b at h → Spells c at h
Spells-same b c at h s l w =
    let fits = w.heap.fits in
    record {
      heap = w.heap;
      within = l;
      special = word_same b c at (part_of s (omega arith) (omega arith)) ∙ w.special;
      base = word_same b c (at + 8) (part_of s (omega arith) (omega arith)) ∙ w.base;
      last = word_same b c (at + 12) (part_of s (omega arith) (omega arith)) ∙ w.last;
      stand = Stand-kept b c (at + 4) (at + 16) h.segments (HasRoom-from_tidy _ h.segments w.heap.tidy)
          (word_same b c (at + 4) (part_of s (omega arith) (omega arith))) (part_of s (omega arith) (omega arith)) w.stand;
    }
