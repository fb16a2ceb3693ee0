-- Blocks that slid, and the walk that writes their anchor words.
use Rattle.rh_slot.proofs.Common.{◌≡◌, ℕ, ◌+◌, ◌-◌, ◌*◌, ◌^◌, ◌<◌, ◌≤◌, ◌≢◌, ◌⊎◌, inl, inr, List, [], ◌∷◌, ◌++◌, length, get_or, refl, sym, ap, subst, ◌∙◌}
use Rattle.rh_slot.proofs.Common.{append_assoc, arith, cases_lt, append-nil, word, with_part, part, SameOutside, total, Flex, weight, flex_weight, IsFree}
use Rattle.rh_slot.proofs.Common.{HaveAnchors, heap_start, Lie, Anchored, heap_place, word_same, length-put, length-part, SameOutside-self, sum-append, wider}
use Rattle.rh_slot.proofs.Common.{same_both, in_below, in_above, Lie-same, HaveAnchors-cut, Carried, BlockRow, Shifted, HangsApart}
use Rattle.rh_defs.specs.Bytes.{put_word}
use Rattle.rh_defs.proofs.BytesLaws.{length-put_word, put_above, put_inside, put-part, put_word_outside, word-part, word-put_above, word-put_inside}
use Rattle.rh_defs.proofs.BytesLaws.{word-put_word}
use Rattle.rh_defs.proofs.SlotLaws.{Lie-carried, Lie-unique, Anchored-join, IsFree-split, none_weigh}
use Rattle.rh_slot.specs.Row.{Hung}
use Rattle.rh_slot.specs.Inner.RowWalks.{Hanging}

pub hanging_start : (b : List ℕ) (from n : ℕ) → BlockRow b from n → Hanging b b from n from
hanging_start b from n r = record {
  before = [];
  rest = r.blocks;
  lie = r.lie;
  sum = r.sum;
  anchors = r.anchors;
  place = omega arith;
  left = (let e = r.sum in omega arith);
  rest_lies = r.lie;
  hung = record { anchored = tt; others = λ k l u. refl };
  outside = SameOutside-self b 0 heap_place;
}

pub hanging_end : (b c : List ℕ) (from n p : ℕ) → Hanging b c from n p → from + n ≤ p → (fs : List Flex) → Lie b from fs → total weight fs ≡ n
    → Hung b c from fs
hanging_end b c from n p w h fs l e =
    let z : total weight w.rest ≡ 0 = let q = w.left in omega arith in
    let none : w.rest ≡ [] = none_weigh w.rest z in
    let same : w.before ≡ fs =
    sym (append-nil w.before) ∙ ap (λ r. w.before ++ r) (sym none) ∙ Lie-unique b from (w.before ++ w.rest) fs w.lie l (w.sum ∙ sym e) in
    subst (Hung b c from) same w.hung

sides : (j k : ℕ) → j ≢ k → (j < k) ⊎ (k < j)
sides j k n = grind arith

-- another anchor's word stays
pub apart : (c d : List ℕ) (j k : ℕ) → SameOutside c d (4 * k) (4 * k + 4) → j ≢ k → word d (4 * j) ≡ word c (4 * j)
apart c d j k s n = elim (sides j k n) [
  | inl l ↦ word_same c d (4 * j) (in_below s (omega arith))
  | inr l ↦ word_same c d (4 * j) (in_above s (omega arith))
]

pub Anchored-apart : (c d : List ℕ) (p k : ℕ) (fs : List Flex) → SameOutside c d (4 * k) (4 * k + 4) → IsFree k fs → Anchored c p fs → Anchored d p fs
Anchored-apart c d p k [] s u h = tt
Anchored-apart c d p k (f ∷ fs) s u h = (apart c d f.anchor k s u.0 ∙ h.0, Anchored-apart c d (p + weight f) k fs s u.1 h.1)

-- what the header words at a place say
pub record Turn (b c : List ℕ) (from n p a s : ℕ) : Type 0 where
  pub least : 32768 ≤ a
  pub most : a + 4 ≤ heap_start
  pub on : p + flex_weight s ≤ from + n
  pub next : (d : List ℕ) (w : ℕ) → w ≡ flex_weight s → SameOutside c d (a - 32768) (a - 32768 + 4) → word d (a - 32768) ≡ 32768 + p + 8
      → Hanging b d from n (p + w)

turn_at : (b c : List ℕ) (from n p a s : ℕ) (xs ys : List Flex) → Lie b from (xs ++ ys) → total weight (xs ++ ys) ≡ n → HaveAnchors (xs ++ ys)
    → p ≡ from + total weight xs → p + total weight ys ≡ from + n → Lie c p ys → Hung b c from xs → SameOutside b c 0 heap_place
    → p < from + n → heap_place ≤ from → a ≡ word c p → s ≡ word c (p + 4) → Turn b c from n p a s
turn_at b c from n p a s xs [] l sum dis pl left lies hung out lt low ea es = absurd (omega arith)
turn_at b c from n p a s xs (f ∷ ys) l sum dis pl left lies hung out lt low ea es =
    let cut = HaveAnchors-cut xs f ys dis in
    let small = cut.small in
    let la : a ≡ 32768 + 4 * f.anchor = ea ∙ lies.0 in
    let ls : s ≡ length f.bytes = es ∙ lies.1 in
    let wl : flex_weight s ≡ flex_weight (length f.bytes) = ap flex_weight ls in
    let at : a - 32768 ≡ 4 * f.anchor = omega arith in
    let assoc : (xs ++ f ∷ []) ++ ys ≡ xs ++ f ∷ ys = append_assoc xs (f ∷ []) ys in
    record {
      least = omega arith;
      most = omega arith;
      on = omega arith;
      next = λ d w ew o e.
          let ws : w ≡ weight f = ew ∙ wl in
          let o4 : SameOutside c d (4 * f.anchor) (4 * f.anchor + 4) = subst (λ q. SameOutside c d q (q + 4)) at o in
          let e4 : word d (4 * f.anchor) ≡ 32768 + p + 8 = ap (word d) (sym at) ∙ e in
          record {
            before = xs ++ f ∷ [];
            rest = ys;
            lie = rw assoc l;
            sum = rw assoc sum;
            anchors = rw assoc dis;
            place = omega (arith, sum-append weight xs (f ∷ []));
            left = omega arith;
            rest_lies = subst (λ m. Lie d (p + m) ys) (sym ws)
                (Lie-same c d (p + weight f) (from + n) ys (in_above o4 (omega arith)) (omega arith) lies.3);
            hung = record {
              anchored = Anchored-join d from p xs (f ∷ []) pl (Anchored-apart c d from f.anchor xs o4 cut.before hung.anchored) (e4, tt);
              others = λ k u v.
                  let r = IsFree-split k xs (f ∷ []) v in
                  apart c d k f.anchor o4 (λ q. r.1.0 (sym q)) ∙ hung.others k u r.0;
            };
            outside = same_both out (wider o4 (omega arith) (omega arith));
          };
    }

pub turn : (b c : List ℕ) (from n p a s : ℕ) → Hanging b c from n p → p < from + n → heap_place ≤ from → a ≡ word c p → s ≡ word c (p + 4)
    → Turn b c from n p a s
turn b c from n p a s w lt low ea es = turn_at b c from n p a s w.before w.rest w.lie w.sum w.anchors w.place w.left w.rest_lies w.hung w.outside lt low ea es

room_at : (c : List ℕ) (p e : ℕ) (ys : List Flex) → p + total weight ys ≡ e → p < e → p + 8 ≤ e
room_at c p e [] l lt = absurd (omega arith)
room_at c p e (f ∷ ys) l lt = omega arith

pub room : (b c : List ℕ) (from n p : ℕ) → Hanging b c from n p → p < from + n → p + 8 ≤ from + n
room b c from n p w lt = room_at c p (from + n) w.rest w.left lt

-- ---- the same walk where the anchor words stand apart

-- a byte that stays in what is written stays where it is written
covered : (b x y : List ℕ) (k : ℕ) → length y ≡ length x → length x ≤ length b → get_or y k 0 ≡ get_or x k 0 → get_or (with_part b 0 y) k 0 ≡ get_or
    (with_part b 0 x) k 0
covered b x y k e l s = elim (cases_lt k (length x)) [
  | inl i ↦ put_inside b 0 y k k (omega arith) (omega arith) (omega arith) ∙ s ∙ sym (put_inside b 0 x k k (omega arith) (omega arith) (omega arith))
  | inr o ↦ put_above b 0 y k (omega arith) ∙ sym (put_above b 0 x k (omega arith))
]

outside_put : (b x y : List ℕ) (lo hi : ℕ) → SameOutside x y lo hi → length x ≤ length b → SameOutside (with_part b 0 x) (with_part b 0 y) lo hi
outside_put b x y lo hi s l = record {
  len = length-put b 0 y ∙ sym (length-put b 0 x);
  below = λ k h. covered b x y k s.len l (s.below k h);
  above = λ k h. covered b x y k s.len l (s.above k h);
}

pub apart_start : (b x : List ℕ) (from n k : ℕ) → BlockRow b from n → heap_place ≤ length b → k ≡ heap_place → x ≡ part b 0 k → HangsApart b x from n from
apart_start b x from n k r w ek ex =
    let len : length x ≡ k = ap length ex ∙ length-part b 0 k in
    let same : with_part b 0 x ≡ b = ap (with_part b 0) ex ∙ put-part b 0 k (omega arith) in
    record {
      long = omega arith;
      walk = subst (λ c. Hanging b c from n from) (sym same) (hanging_start b from n r);
    }

pub apart_end : (b x c : List ℕ) (from n p : ℕ) → HangsApart b x from n p → c ≡ with_part b 0 x → from + n ≤ p → (fs : List Flex) → Lie b from fs
    → total weight fs ≡ n → Hung b c from fs
apart_end b x c from n p h e le fs l s = subst (λ r. Hung b r from fs) (sym e) (hanging_end b (with_part b 0 x) from n p h.walk le fs l s)

pub apart_room : (b x : List ℕ) (from n p : ℕ) → HangsApart b x from n p → p < from + n → p + 8 ≤ from + n
apart_room b x from n p h lt = room b (with_part b 0 x) from n p h.walk lt

-- what the header words at a place say, and the walk behind the block
pub record TurnApart (b x : List ℕ) (from n p a s : ℕ) : Type 0 where
  pub least : 32768 ≤ a
  pub within : a - 32768 + 4 ≤ length x
  pub on : p + flex_weight s ≤ from + n
  pub next : (y : List ℕ) (q : ℕ) → y ≡ put_word x (a - 32768) (32768 + p + 8) → q ≡ p + flex_weight s → HangsApart b y from n q

pub turn_apart : (b x : List ℕ) (from n p a s : ℕ) → HangsApart b x from n p → p < from + n → heap_place ≤ from → from + n ≤ length b → length b ≤ 2 ^ 30
    → a ≡ word b p → s ≡ word b (p + 4) → TurnApart b x from n p a s
turn_apart b x from n p a s h lt low within small ea es =
    let long = h.long in
    let at = h.walk.place in
    let head : a ≡ word (with_part b 0 x) p = ea ∙ sym (word-put_above b 0 x p (omega arith)) in
    let size : s ≡ word (with_part b 0 x) (p + 4) = es ∙ sym (word-put_above b 0 x (p + 4) (omega arith)) in
    let t = turn b (with_part b 0 x) from n p a s h.walk lt low head size in
    let least = t.least in
    let most = t.most in
    record {
      least = least;
      within = omega arith;
      on = t.on;
      next = λ y q ey eq.
          let len : length y ≡ length x = ap length ey ∙ length-put_word x (a - 32768) (32768 + p + 8) in
          let o : SameOutside x y (a - 32768) (a - 32768 + 4) = subst (λ z. SameOutside x z (a - 32768) (a - 32768 + 4)) (sym ey)
          (put_word_outside x (a - 32768) (32768 + p + 8) (a - 32768 + 4) (omega arith)) in
          let e : word y (a - 32768) ≡ 32768 + p + 8 =
          ap (λ z. word z (a - 32768)) ey ∙ word-put_word x (a - 32768) (32768 + p + 8) (omega arith) (omega arith) in
          record {
            long = len ∙ long;
            walk = subst (Hanging b (with_part b 0 y) from n) (sym eq)
                (t.next (with_part b 0 y) (flex_weight s) refl (outside_put b x y (a - 32768) (a - 32768 + 4) o (omega arith))
                (word-put_inside b 0 y (a - 32768) (a - 32768) (omega arith) (omega arith) (omega arith) ∙ e));
          };
    }

-- a word of a page is the area's
word_of_page : (b page : List ℕ) (start k at p : ℕ) → page ≡ part b start k → at + 4 ≤ length page → p ≡ start + at → word page at ≡ word b p
word_of_page b page start k at p e l ep =
    ap (λ z. word z at) e ∙ word-part b start k at (omega (arith, ap length e, length-part b start k)) ∙ ap (word b) (sym ep)

-- the same where the header is read in the bytes of a page
pub turn_in_page : (b x page : List ℕ) (from n start k p a s : ℕ) → HangsApart b x from n p → page ≡ part b start k → start ≤ p → p + 8 ≤ start + length page
    → p + 8 ≤ from + n
    → heap_place ≤ from → from + n ≤ length b → length b ≤ 2 ^ 30 → a ≡ word page (p - start) → s ≡ word page (p - start + 4) → TurnApart b x from n p a s
turn_in_page b x page from n start k p a s h e lo hi lt low within small ea es =
    turn_apart b x from n p a s h (omega arith) low within small
    (ea ∙ word_of_page b page start k (p - start) p e (omega arith) (omega arith))
    (es ∙ word_of_page b page start k (p - start + 4) (p + 4) e (omega arith) (omega arith))

-- what slid and then was hung
pub shifted : (b c d : List ℕ) (from to n : ℕ) (fs : List Flex) → Carried b c from to n → SameOutside b c to (to + n) → heap_place ≤ to
    → SameOutside c d 0 heap_place → to + n ≤ length b → Lie b from fs → total weight fs ≡ n → Hung c d to fs → Shifted b d to fs
shifted b c d from to n fs s o t h r l e x = record {
  lie = Lie-same c d to (to + n) fs (in_above h t) (omega arith) (Lie-carried b c from to fs (subst (Carried b c from to) (sym e) s) l);
  hung = record {
    anchored = x.anchored;
    others = λ k u v. x.others k u v ∙ word_same b c (4 * k) (in_below o (omega arith));
  };
}
