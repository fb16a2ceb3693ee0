-- The table's words on rooms, beside those that the desk goes by.
use Rattle.rh_laws.proofs.Common.{◌≡◌, ℕ, suc, ◌+◌, ◌-◌, ◌<◌, ◌≤◌, Bool, true, false, cond, leb, ltb, eqb, List, [], ◌∷◌, length, Option, Some, None, inl}
use Rattle.rh_laws.proofs.Common.{inr, refl, sym, ap, ◌∙◌, arith, max, is_some, nat_lt, nat_le, ◌||◌, ℤ, pos, negsuc, option_map, leb_tells, eqb-true, Body}
use Rattle.rh_laws.proofs.Common.{Letter, lacks_pages, Split, Segment, Used, Hole, Heap, base, first_place, hole_for, is_hole_for, largest_hole, need}
use Rattle.rh_laws.proofs.Common.{place_after, resize_need, segment_size, size_of, way_to, Slot, lacks_room, slot_pages, leb_yes, leb_no}
use borrow.Author.Tests.{leb-true, leb-false, ltb-true, ltb-false, eqb-false}
use Rattle.rh_defs.specs.declared.message.Body.TheVariants.{DataSave, DataSaveAck, DataLoad, DataLoadAck, RamFetch, RamTransmit, Other}
use Rattle.rh_defs.specs.Pieces.{pages_for, behind, first_at}
use Rattle.rh_defs.specs.Heap.{Stays, Shrinks, GrowsIntoHole, GrowsAtTop, end_for, shortage_in, way_beyond, way_to_grow}
use Rattle.rh_defs.specs.Module.{changed_length, whole_pages}
use Rattle.rh_defs.specs.Messages.{body_bytes, parcel_size}
use Rattle.rh_defs.specs.Post.{message_of}
use Rattle.rh_defs.specs.Commands.{shrinks_below}
use Rattle.rh_defs.proofs.MessageLaws.{length-body, length-name_bytes}
use Rattle.rh_laws.specs.RefusalRooms.{gained_pages, has_hole, hole_behind, lost_bytes, message_size, new_place, short_for, short_of}

-- ---- tests of numbers that say the same

pub le_same : (a b c e : ℕ) → (a ≤ b → c ≤ e) → (c ≤ e → a ≤ b) → leb a b ≡ leb c e
le_same a b c e f g = elim (leb_tells a b) [
  | inl u ↦ u.0 ∙ sym (leb_yes c e (f u.1))
  | inr u ↦ elim (leb_tells c e) [
    | inl v ↦ absurd (let h : a ≤ b = g v.1 in omega (arith, u.1))
    | inr v ↦ u.0 ∙ sym v.0
  ]
]

pub lt_same : (a b c e : ℕ) → (a < b → c < e) → (c < e → a < b) → ltb a b ≡ ltb c e
lt_same a b c e f g =
    le_same (suc a) b (suc c) e (λ h. let x : c < e = f (omega arith) in omega arith)
    (λ h. let x : a < b = g (omega arith) in omega arith)

-- ---- holes

is_some-map : {A B : Type 0} (f : A → B) (o : Option A) → is_some (option_map f o) ≡ is_some o
is_some-map f None = refl
is_some-map f (Some x) = refl

-- a hole is found for a segment that the largest one has room for
pub hole-found : (t place : ℕ) (segments : List Segment) → 0 < t
    → is_some (first_at size_of (is_hole_for t) place segments) ≡ nat_le t (largest_hole segments)
hole-found t place [] big = sym (leb_no t 0 big)
hole-found t place (Used bytes ∷ segments) big =
    is_some-map (behind (Used bytes)) (first_at size_of (is_hole_for t) (place + (4 + length bytes)) segments)
    ∙ hole-found t (place + (4 + length bytes)) segments big
    ∙ le_same t (largest_hole segments) t (max 0 (largest_hole segments)) (λ h. omega arith) (λ h. omega arith)
hole-found t place (Hole n ∷ segments) big = go (leb t n) refl (hole-found t (place + n) segments big)
  where
    go : (b : Bool) → leb t n ≡ b
        → is_some (first_at size_of (is_hole_for t) (place + n) segments) ≡ nat_le t (largest_hole segments)
        → is_some (cond b (Some (record { before = []; here = Hole n; after = segments }))
        (option_map (behind (Hole n)) (first_at size_of (is_hole_for t) (place + n) segments))) ≡ nat_le t (max n (largest_hole segments))
    go true e rest = let fits : t ≤ n = leb-true t n e in sym (leb_yes t (max n (largest_hole segments)) (omega arith))
    go false e rest =
        let small : n < t = leb-false t n e in
        is_some-map (behind (Hole n)) (first_at size_of (is_hole_for t) (place + n) segments)
        ∙ rest ∙ le_same t (largest_hole segments) t (max n (largest_hole segments)) (λ h. omega arith) (λ h. omega arith)

-- by how much a heap is short of a new block
pub need-short : (n : ℕ) (h : Heap) → need n h ≡ short_of n h
need-short n h = go (hole_for (segment_size n) h.segments) (hole-found (segment_size n) first_place h.segments (omega arith))
  where
    go : (o : Option (Split Segment)) → is_some o ≡ has_hole (segment_size n) h
        → shortage_in (segment_size n) h o ≡ cond (has_hole (segment_size n) h) 0 ((base h + segment_size n) - h.end)
    go (Some s) e = ap (λ (b : Bool). cond b 0 ((base h + segment_size n) - h.end)) e
    go None e = ap (λ (b : Bool). cond b 0 ((base h + segment_size n) - h.end)) e

-- ---- resizes

-- the shortage of a segment of t bytes, by what stands behind the block
abbrev short_at : ℕ → Split Segment → List Segment → Heap → ℕ
short_at t s after h =
    cond (nat_le t (size_of s.here + hole_behind after) || has_hole t h) 0 ((new_place after s h + t) - h.end)

zero_either : (b : Bool) (n : ℕ) → n ≡ 0 → cond b 0 n ≡ 0
zero_either true n e = refl
zero_either false n e = e

module _ (t : ℕ) (s : Split Segment) (h : Heap) where
  -- the block with the hole behind it has room
  fits_behind : (after : List Segment) → leb t (size_of s.here + hole_behind after) ≡ true
      → 0 - h.end ≡ short_at t s after h
  fits_behind after e =
      let none : 0 - h.end ≡ 0 = omega arith in
      none ∙ sym (ap (λ (b : Bool). cond (b || has_hole t h) 0 ((new_place after s h + t) - h.end)) e)

  -- and where it hasn't
  moves : (after : List Segment) (o : Option (Split Segment)) → is_some o ≡ has_hole t h
      → leb t (size_of s.here + hole_behind after) ≡ false
      → end_for (way_beyond after o) t s h - h.end ≡ short_at t s after h
  moves [] (Some x) e f =
      let none : 0 - h.end ≡ 0 = omega arith in
      none ∙ ap (λ (b : Bool). cond b 0 ((new_place [] s h + t) - h.end)) e
      ∙ sym (ap (λ (b : Bool). cond (b || has_hole t h) 0 ((new_place [] s h + t) - h.end)) f)
  moves (g ∷ after) (Some x) e f =
      let none : 0 - h.end ≡ 0 = omega arith in
      none ∙ ap (λ (b : Bool). cond b 0 ((new_place (g ∷ after) s h + t) - h.end)) e
      ∙ sym (ap (λ (b : Bool). cond (b || has_hole t h) 0 ((new_place (g ∷ after) s h + t) - h.end)) f)
  moves [] None e f =
      ap (λ (b : Bool). cond b 0 ((new_place [] s h + t) - h.end)) e
      ∙ sym (ap (λ (b : Bool). cond (b || has_hole t h) 0 ((new_place [] s h + t) - h.end)) f)
  moves (g ∷ after) None e f =
      ap (λ (b : Bool). cond b 0 ((new_place (g ∷ after) s h + t) - h.end)) e
      ∙ sym (ap (λ (b : Bool). cond (b || has_hole t h) 0 ((new_place (g ∷ after) s h + t) - h.end)) f)

  beyond : (after : List Segment) → 0 < t → leb t (size_of s.here + hole_behind after) ≡ false
      → end_for (way_beyond after (hole_for t h.segments)) t s h - h.end ≡ short_at t s after h
  beyond after big f = moves after (hole_for t h.segments) (hole-found t first_place h.segments big) f

  grows : (after : List Segment) → 0 < t → size_of s.here < t
      → end_for (way_to_grow t s after h) t s h - h.end ≡ short_at t s after h
  grows [] big more = go (leb (place_after s.before + t) h.end) refl
    where
      go : (b : Bool) → leb (place_after s.before + t) h.end ≡ b
          → end_for (cond b GrowsAtTop (way_beyond [] (hole_for t h.segments))) t s h - h.end ≡ short_at t s [] h
      go true e =
          let fits : place_after s.before + t ≤ h.end = leb-true _ _ e in
          let none : (place_after s.before + t) - h.end ≡ 0 = omega arith in
          none ∙ sym (zero_either (nat_le t (size_of s.here + 0) || has_hole t h) _ none)
      go false e = beyond [] big (leb_no t (size_of s.here + 0) (omega arith))
  grows (Used bytes ∷ after) big more = beyond (Used bytes ∷ after) big (leb_no t (size_of s.here + 0) (omega arith))
  grows (Hole m ∷ after) big more = go (leb t (size_of s.here + m)) refl
    where
      go : (b : Bool) → leb t (size_of s.here + m) ≡ b
          → end_for (cond b (GrowsIntoHole m after) (way_beyond (Hole m ∷ after) (hole_for t h.segments))) t s h - h.end
          ≡ short_at t s (Hole m ∷ after) h
      go true e = fits_behind (Hole m ∷ after) e
      go false e = beyond (Hole m ∷ after) big e

  way-short : 0 < t → end_for (way_to t s h) t s h - h.end ≡ short_at t s s.after h
  way-short big = go (eqb t (size_of s.here)) (ltb t (size_of s.here)) refl refl
    where
      enough : t ≤ size_of s.here → leb t (size_of s.here + hole_behind s.after) ≡ true
      enough small = leb_yes t (size_of s.here + hole_behind s.after) (omega arith)

      go : (b c : Bool) → eqb t (size_of s.here) ≡ b → ltb t (size_of s.here) ≡ c
          → end_for (cond b Stays (cond c Shrinks (way_to_grow t s s.after h))) t s h - h.end ≡ short_at t s s.after h
      go true c e f = fits_behind s.after (enough (let same : t ≡ size_of s.here = eqb-true _ _ e in omega arith))
      go false true e f = fits_behind s.after (enough (let less : t < size_of s.here = ltb-true _ _ f in omega arith))
      go false false e f =
          let other : t ≡ size_of s.here → ⊥ = eqb-false _ _ e in
          let least : size_of s.here ≤ t = ltb-false _ _ f in
          grows s.after big (omega arith)

-- by how much a heap is short of a block's new size
pub resize-short : (n : ℕ) (s : Split Segment) (h : Heap) → resize_need n s h ≡ short_for n s h
resize-short n s h = way-short (segment_size n) s h (omega arith)

-- ---- slots

pub room-same : (free bytes : ℕ) (s : Slot) → lacks_room free bytes s ≡ nat_lt (slot_pages s + free) (pages_for bytes)
room-same free bytes s =
    lt_same free (pages_for bytes - slot_pages s) (slot_pages s + free) (pages_for bytes) (λ h. omega arith) (λ h. omega arith)

-- ---- messages

pub size-same : (l : Letter) → parcel_size (message_of l 0) ≡ message_size l.body
size-same l = go l.body
  where
    go : (b : Body) → 8 + (16 + length (body_bytes b)) ≡ message_size b
    go (DataSave f) = let n = length-body (DataSave f) in let m = length-name_bytes f.name in omega arith
    go (DataSaveAck f) = let n = length-body (DataSaveAck f) in let m = length-name_bytes f.name in omega arith
    go (DataLoad f) = let n = length-body (DataLoad f) in let m = length-name_bytes f.name in omega arith
    go (DataLoadAck f) = let n = length-body (DataLoadAck f) in let m = length-name_bytes f.name in omega arith
    go (RamFetch buffer n) = let m = length-body (RamFetch buffer n) in omega arith
    go (RamTransmit buffer n) = let m = length-body (RamTransmit buffer n) in omega arith
    go (Other o) = let m = length-body (Other o) in omega arith

-- ---- areas

-- an area that keeps what it must loses too much
pub shrinks-same : (least n : ℕ) (delta : ℤ) → least ≤ n
    → shrinks_below least n delta ≡ nat_lt n (least + lost_bytes delta)
shrinks-same least n (pos by) h = sym (leb_no (suc n) (least + 0) (omega arith))
shrinks-same least n (negsuc by) h = refl

-- the same by the length after the change, which is 0 at least
pub module_shrinks-same : (least n : ℕ) (delta : ℤ) → 0 < least → least ≤ n
    → nat_lt (changed_length n delta) least ≡ nat_lt n (least + lost_bytes delta)
module_shrinks-same least n (pos by) some h =
    lt_same (n + whole_pages (pos by)) least n (least + 0) (λ x. absurd (omega arith)) (λ x. absurd (omega arith))
module_shrinks-same least n (negsuc by) some h =
    lt_same (n - whole_pages (negsuc by)) least n (least + whole_pages (negsuc by)) (λ x. omega arith) (λ x. omega arith)

-- the pages that a change takes
pub gains-same : (free n : ℕ) (delta : ℤ)
    → lacks_pages free (changed_length n delta - n) ≡ nat_lt free (gained_pages delta)
gains-same free n (pos by) = ap (nat_lt free) (let e : pages_for ((n + whole_pages (pos by)) - n) ≡ pages_for by = omega arith in e)
gains-same free n (negsuc by) = ap (nat_lt free) (let e : pages_for ((n - whole_pages (negsuc by)) - n) ≡ 0 = omega arith in e)
