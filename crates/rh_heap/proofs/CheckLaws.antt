-- How far a check has come.
use Rattle.rh_heap.proofs.Common.{◌≡◌, ℕ, zero, suc, ◌+◌, ◌-◌, ◌%◌, ◌<◌, ◌≤◌, ◌⊎◌, inl, inr, Bool, true, false, List, [], ◌∷◌, ◌++◌, length, refl, sym, ap}
use Rattle.rh_heap.proofs.Common.{subst, ◌∙◌, append_assoc, arith, append-nil, Some, None, word, part, total, Segment, Used, Hole, Heap, IsTidy, size_of}
use Rattle.rh_heap.proofs.Common.{Stand, Spells, BadLink, length-part, total-append, last_link-append, heap_of-Spells, last_link}
use Rattle.rh_defs.specs.Heap.{hole_size}
use Rattle.rh_defs.specs.HeapImage.{IsImage, heap_of, is_size, is_link, next_place, fault_from, fault_of, has_descriptor}
use Rattle.rh_defs.specs.declared.heap.HeapFault.{HeapFault}
use Rattle.rh_defs.specs.declared.heap.HeapFault.TheVariants.{BadSize}
use Rattle.rh_defs.proofs.HeapLists.{sum-append}
use Rattle.rh_defs.proofs.HeapLaws.{Open-join, Stand-join}
use Rattle.rh_defs.proofs.HeapFaults.{LinkIs, ends, leads, link_from, size_from, at_base, at_hole, next_is, fault-end, fault-used, fault-used_size}
use Rattle.rh_defs.proofs.HeapFaults.{fault-hole, fault-hole_size, fault-hole_link, fault_of-segments, fault_of-link, descriptor_from, image_clean}
use Rattle.rh_heap.specs.HeapChecks.{used_count, used_size, hole_count, summary_of}
use Rattle.rh_heap.specs.declared.image.Summary.{Summary}
use Rattle.rh_defs.specs.HeapParts.{Open}

-- the sums of the segments that were passed
pub record SumsOf (ss : List Segment) (sums : Summary) : Type 0 where
  pub used : sums.used ≡ total used_count ss
  pub used_bytes : sums.used_bytes ≡ total used_size ss
  pub holes : sums.holes ≡ total hole_count ss
  pub hole_bytes : sums.hole_bytes ≡ total hole_size ss

-- the check has come to a place, behind the link at `from`
pub record Checked (b : List ℕ) (base from place : ℕ) (sums : Summary) : Type 0 where
  pub passed : List Segment
  pub after_hole : Bool
  pub open_ : Open b 4 16 passed
  pub at_place : place ≡ 16 + total size_of passed
  pub at_link : from ≡ last_link 4 16 passed
  pub tidy : (ys : List Segment) → IsTidy after_hole ys → IsTidy false (passed ++ ys)
  pub link : LinkIs b base from place
  pub past : after_hole ≡ true → place < next_place b base from
  pub fuel : ℕ
  pub enough : base ≤ place + fuel
  pub fault : fault_from fuel b base from place ≡ fault_of b
  pub sums_of : SumsOf passed sums
  pub ahead : from + 4 ≤ place
  pub below : place ≤ base
  pub within : base ≤ length b
  pub top : sums.top ≡ length b - base
  pub counts : sums.used + sums.holes ≤ place
  pub sizes : sums.used_bytes + sums.hole_bytes ≤ place
  pub eighths : place % 8 ≡ 0
  pub whole : base % 8 ≡ 0

pub check_start : (b : List ℕ) (base : ℕ) (top : ℕ) → has_descriptor b ≡ true → base ≡ word b 8 → is_link b base 4 16 ≡ true → top ≡ length b - base
    → Checked b base 4 16 (record { used = 0; used_bytes = 0; holes = 0; hole_bytes = 0; top = top })
check_start b base top d e l t =
    let w = descriptor_from b d in
    let low = w.low in
    let high = w.high in
    let l' : is_link b (word b 8) 4 16 ≡ true = subst (λ i. is_link b i 4 16 ≡ true) e l in
    record {
      passed = [];
      after_hole = false;
      open_ = tt;
      at_place = refl;
      at_link = refl;
      tidy = λ ys y. y;
      link = link_from b base 4 16 l;
      past = λ e. absurd cc;
      fuel = length b;
      enough = omega arith;
      fault = ap (λ i. fault_from (length b) b i 4 16) e ∙ sym (fault_of-segments b d l');
      sums_of = record { used = refl; used_bytes = refl; holes = refl; hole_bytes = refl };
      ahead = omega arith;
      below = omega arith;
      within = omega arith;
      top = t;
      counts = omega arith;
      sizes = omega arith;
      eighths = refl;
      whole = rw e w.whole;
    }

-- where the next linked hole is
pub record NextPlace (base place next : ℕ) : Type 0 where
  pub least : place ≤ next
  pub most : next ≤ base
  pub room : (next ≡ base) ⊎ (next + 8 ≤ base)

next_place_is : (b : List ℕ) (base from place : ℕ) → from < place → place ≤ base → LinkIs b base from place → NextPlace base place (next_place b base from)
next_place_is b base from place l h k = elim (next_is b base from place l k) [
  | at_base z n ↦ record { least = omega arith; most = omega arith; room = inl n }
  | at_hole n a m t ↦ record { least = omega arith; most = omega arith; room = inr (omega arith) }
]

pub next_is_at : (b : List ℕ) (base from place : ℕ) (sums : Summary) (next : ℕ) → Checked b base from place sums → next ≡ next_place b base from
    → NextPlace base place next
next_is_at b base from place sums next w e =
    let a = w.ahead in
    subst (NextPlace base place) (sym e) (next_place_is b base from place (omega arith) w.below w.link)

pub used_room : (b : List ℕ) (base from place : ℕ) (sums : Summary) (next : ℕ) → Checked b base from place sums → next ≡ next_place b base from
    → place < next → place + 4 ≤ length b
used_room b base from place sums next w e l =
    let n = next_is_at b base from place sums next w e in
    let m = n.most in
    let p = w.eighths in
    let q = w.whole in
    let i = w.within in
    omega arith

fuel_more : (n base place : ℕ) → base ≤ place + n → place < base → (k : ℕ) × (n ≡ suc k)
fuel_more zero base place h l = absurd (omega arith)
fuel_more (suc k) base place h l = (k, refl)

tidy_used : (passed : List Segment) (after : Bool) (bs : List ℕ) → ((ys : List Segment) → IsTidy after ys → IsTidy false (passed ++ ys))
    → (4 + length bs) % 8 ≡ 0 → (ys : List Segment) → IsTidy false ys → IsTidy false ((passed ++ Used bs ∷ []) ++ ys)
tidy_used passed false bs t m ys y = rw (append_assoc passed (Used bs ∷ []) ys) (t (Used bs ∷ ys) (m, y))
tidy_used passed true bs t m ys y = rw (append_assoc passed (Used bs ∷ []) ys) (t (Used bs ∷ ys) (m, y))

-- a used segment is right
pub pass_used : (b : List ℕ) (base from place : ℕ) (sums : Summary) (next size : ℕ) → Checked b base from place sums → next ≡ next_place b base from
    → place < next → size ≡ word b place
    → is_size size ≡ true → place + size ≤ next
    → Checked b base from (place + size)
    (record { used = sums.used + 1; used_bytes = sums.used_bytes + size; holes = sums.holes; hole_bytes = sums.hole_bytes; top = sums.top })
pass_used b base from place sums next size w en ln es s fit =
    let n = next_is_at b base from place sums next w en in
    let nm = n.most in
    let big = (size_from size s).0 in
    let mult = (size_from size s).1 in
    let bs = part b (place + 4) (size - 4) in
    let len : length bs ≡ size - 4 = length-part b (place + 4) (size - 4) in
    let whole : 4 + length bs ≡ size = omega arith in
    let more = fuel_more w.fuel base place w.enough (omega arith) in
    let at = w.at_place in
    let enough = w.enough in
    let counts = w.counts in
    let sizes = w.sizes in
    let ahead = w.ahead in
    let us = w.sums_of in
    let k = more.0 in
    let ek = more.1 in
    let lb : place < base = omega arith in
    let fits_next : place + word b place ≤ next_place b base from = omega arith in
    let at_next : place < next_place b base from = omega arith in
    record {
      passed = w.passed ++ Used bs ∷ [];
      after_hole = false;
      open_ = Open-join b 4 16 w.passed (Used bs ∷ []) w.open_
          (subst (λ p. Open b (last_link 4 16 w.passed) p (Used bs ∷ [])) w.at_place (sym es ∙ sym whole, ap (part b (place + 4)) len, tt));
      at_place = omega (arith, total-append w.passed (Used bs ∷ []));
      at_link = w.at_link ∙ sym (last_link-append 4 16 w.passed (Used bs ∷ []));
      tidy = tidy_used w.passed w.after_hole bs w.tidy (rw whole mult);
      link = elim (next_is b base from place (omega arith) w.link) [
        | at_base z _ ↦ ends z
        | at_hole e a m t ↦ leads (omega arith) m t
      ];
      past = λ e. absurd cc;
      fuel = k;
      enough = omega arith;
      fault = ap (λ i. fault_from k b base from (place + i)) es ∙ sym (fault-used k b base from place lb at_next (subst (λ i. is_size i ≡ true) es s) fits_next)
          ∙ ap (λ i. fault_from i b base from place) (sym ek) ∙ w.fault;
      sums_of = record {
        used = omega (arith, us.used, sum-append used_count w.passed (Used bs ∷ []));
        used_bytes = omega (arith, us.used_bytes, sum-append used_size w.passed (Used bs ∷ []));
        holes = omega (arith, us.holes, sum-append hole_count w.passed (Used bs ∷ []));
        hole_bytes = omega (arith, us.hole_bytes, sum-append hole_size w.passed (Used bs ∷ []));
      };
      ahead = omega arith;
      below = omega arith;
      within = w.within;
      top = w.top;
      counts = omega arith;
      sizes = omega arith;
      eighths = let old = w.eighths in omega arith;
      whole = w.whole;
    }

pub used_fault : (b : List ℕ) (base from place : ℕ) (sums : Summary) (next size : ℕ) → Checked b base from place sums → next ≡ next_place b base from
    → place < next → size ≡ word b place → (is_size size ≡ false) ⊎ (next < place + size) → fault_of b ≡ Some BadSize
used_fault b base from place sums next size w en ln es s =
    let n = next_is_at b base from place sums next w en in
    let nm = n.most in
    let lb : place < base = omega arith in
    let more = fuel_more w.fuel base place w.enough lb in
    sym w.fault ∙ ap (λ i. fault_from i b base from place) more.1
    ∙ fault-used_size more.0 b base from place lb (omega arith) (elim s [ inl e ↦ inl (subst (λ i. is_size i ≡ false) es e) | inr g ↦ inr (omega arith) ])

tidy_hole : (passed : List Segment) (after : Bool) (n : ℕ) → after ≡ false → ((ys : List Segment) → IsTidy after ys → IsTidy false (passed ++ ys)) → 0 < n
    → n % 8 ≡ 0 → (ys : List Segment) → IsTidy true ys → IsTidy false ((passed ++ Hole n ∷ []) ++ ys)
tidy_hole passed true n e t h m ys y = absurd cc
tidy_hole passed false n e t h m ys y = rw (append_assoc passed (Hole n ∷ []) ys) (t (Hole n ∷ ys) (h, m, y))

not_true : (a : Bool) → (a ≡ true → ⊥) → a ≡ false
not_true true f = absurd (f refl)
not_true false f = refl

-- a hole stands where the link leads
at_a_hole : (b : List ℕ) (base from place next : ℕ) → LinkIs b base from place → from < place → place < base → next ≡ next_place b base from → next ≤ place
    → (from + word b from ≡ place) × (place + 8 ≤ base)
at_a_hole b base from place next k l lb en ln = elim (next_is b base from place l k) [
  | at_base z e ↦ absurd (omega arith)
  | at_hole e a m t ↦ (omega arith, omega arith)
]

pub hole_room : (b : List ℕ) (base from place : ℕ) (sums : Summary) (next : ℕ) → Checked b base from place sums → place < base
    → next ≡ next_place b base from → next ≤ place → place + 8 ≤ length b
hole_room b base from place sums next w lb en ln =
    let a = w.ahead in
    let r = (at_a_hole b base from place next w.link (omega arith) lb en ln).1 in
    let i = w.within in
    omega arith

-- a hole is right
pub pass_hole : (b : List ℕ) (base from place : ℕ) (sums : Summary) (next size : ℕ) → Checked b base from place sums → place < base
    → next ≡ next_place b base from → next ≤ place → size ≡ word b (place + 4)
    → is_size size ≡ true → place + size < base → is_link b base place (place + size + 1) ≡ true
    → Checked b base place (place + size)
    (record { used = sums.used; used_bytes = sums.used_bytes; holes = sums.holes + 1; hole_bytes = sums.hole_bytes + size; top = sums.top })
pass_hole b base from place sums next size w lb en ln es s fit g =
    let a = w.ahead in
    let there = at_a_hole b base from place next w.link (omega arith) lb en ln in
    let here = there.0 in
    let big = (size_from size s).0 in
    let mult = (size_from size s).1 in
    let more = fuel_more w.fuel base place w.enough lb in
    let k = more.0 in
    let ek = more.1 in
    let at = w.at_place in
    let enough = w.enough in
    let counts = w.counts in
    let sizes = w.sizes in
    let us = w.sums_of in
    let free : w.after_hole ≡ false = not_true w.after_hole (λ e. let p = w.past e in omega arith) in
    let next_ok = link_from b base place (place + size + 1) g in
    record {
      passed = w.passed ++ Hole size ∷ [];
      after_hole = true;
      open_ = Open-join b 4 16 w.passed (Hole size ∷ []) w.open_
          (subst (λ f. Open b f (16 + total size_of w.passed) (Hole size ∷ [])) w.at_link
          (subst (λ p. Open b from p (Hole size ∷ [])) w.at_place (here, sym es, tt)));
      at_place = omega (arith, total-append w.passed (Hole size ∷ []));
      at_link = w.at_place ∙ sym (last_link-append 4 16 w.passed (Hole size ∷ []));
      tidy = tidy_hole w.passed w.after_hole size free w.tidy (omega arith) mult;
      link = elim next_ok [ ends z ↦ ends z | leads l m t ↦ leads (omega arith) m t ];
      past = λ e. elim (next_is b base place (place + size + 1) (omega arith) next_ok) [ at_base z n ↦ omega arith | at_hole n l m t ↦ omega arith ];
      fuel = k;
      enough = omega arith;
      fault = ap (λ i. fault_from k b base place (place + i)) es
          ∙ sym (fault-hole k b base from place lb (omega arith) (subst (λ i. is_size i ≡ true) es s) (omega arith)
          (subst (λ i. is_link b base place (place + i + 1) ≡ true) es g))
          ∙ ap (λ i. fault_from i b base from place) (sym ek) ∙ w.fault;
      sums_of = record {
        used = omega (arith, us.used, sum-append used_count w.passed (Hole size ∷ []));
        used_bytes = omega (arith, us.used_bytes, sum-append used_size w.passed (Hole size ∷ []));
        holes = omega (arith, us.holes, sum-append hole_count w.passed (Hole size ∷ []));
        hole_bytes = omega (arith, us.hole_bytes, sum-append hole_size w.passed (Hole size ∷ []));
      };
      ahead = omega arith;
      below = omega arith;
      within = w.within;
      top = w.top;
      counts = omega arith;
      sizes = omega arith;
      eighths = let old = w.eighths in omega arith;
      whole = w.whole;
    }

pub hole_fault : (b : List ℕ) (base from place : ℕ) (sums : Summary) (next size : ℕ) → Checked b base from place sums → place < base
    → next ≡ next_place b base from → next ≤ place → size ≡ word b (place + 4) → (is_size size ≡ false) ⊎ (base ≤ place + size) → fault_of b ≡ Some BadSize
hole_fault b base from place sums next size w lb en ln es s =
    let more = fuel_more w.fuel base place w.enough lb in
    sym w.fault ∙ ap (λ i. fault_from i b base from place) more.1
    ∙ fault-hole_size more.0 b base from place lb (omega arith) (elim s [ inl e ↦ inl (subst (λ i. is_size i ≡ false) es e) | inr g ↦ inr (omega arith) ])

pub link_fault : (b : List ℕ) (base from place : ℕ) (sums : Summary) (next size : ℕ) → Checked b base from place sums → place < base
    → next ≡ next_place b base from → next ≤ place → size ≡ word b (place + 4)
    → is_size size ≡ true → place + size < base → is_link b base place (place + size + 1) ≡ false → fault_of b ≡ Some BadLink
link_fault b base from place sums next size w lb en ln es s fit g =
    let more = fuel_more w.fuel base place w.enough lb in
    sym w.fault ∙ ap (λ i. fault_from i b base from place) more.1
    ∙ fault-hole_link more.0 b base from place lb (omega arith) (subst (λ i. is_size i ≡ true) es s) (omega arith)
    (subst (λ i. is_link b base place (place + i + 1) ≡ false) es g)

-- all is passed
pub record Accepted (b : List ℕ) (sums : Summary) : Type 0 where
  pub image : IsImage b (heap_of b 0)
  pub sums_of : sums ≡ summary_of (heap_of b 0)
  pub clean : fault_of b ≡ None

made : ℕ → ℕ → ℕ → ℕ → ℕ → Summary
made u ub o ob t = record { used = u; used_bytes = ub; holes = o; hole_bytes = ob; top = t }

summary_same : (s : Summary) (u ub o ob t : ℕ) → s.used ≡ u → s.used_bytes ≡ ub → s.holes ≡ o → s.hole_bytes ≡ ob → s.top ≡ t
    → s ≡ record { used = u; used_bytes = ub; holes = o; hole_bytes = ob; top = t }
unfolding made
summary_same s u ub o ob t eu eub eo eob et =
    ap (λ x. made x s.used_bytes s.holes s.hole_bytes s.top) eu ∙ ap (λ x. made u x s.holes s.hole_bytes s.top) eub
    ∙ ap (λ x. made u ub x s.hole_bytes s.top) eo ∙ ap (λ x. made u ub o x s.top) eob ∙ ap (made u ub o ob) et

accepted_at : (b : List ℕ) (base from place : ℕ) (sums : Summary) → (d : has_descriptor b ≡ true) → base ≡ word b 8 → (w : Checked b base from place sums)
    → place ≡ base → w.after_hole ≡ false → Accepted b sums
accepted_at b base from place sums d e w at free =
    let desc = descriptor_from b d in
    let a = w.ahead in
    let top : word b from ≡ 0 = elim w.link [ ends z ↦ z | leads l m t ↦ absurd (omega arith) ] in
    let ep = w.at_place in
    let h : Heap = record { segments = w.passed; end = length b } in
    let tidy : IsTidy false w.passed = subst (IsTidy false) (append-nil w.passed) (w.tidy [] (subst (λ i. IsTidy i []) (sym free) tt)) in
    let within = w.within in
    let spells : Spells b 0 h = record {
      heap = record { tidy = tidy; fits = omega arith; multiple = desc.multiple };
      within = omega arith;
      special = desc.special;
      base = omega arith;
      last = desc.end_;
      stand = subst (Stand b 4 16) (append-nil w.passed) (Stand-join b 4 16 w.passed [] w.open_ (ap (word b) (sym w.at_link) ∙ top));
    } in
    let same = heap_of-Spells b 0 h spells in
    let us = w.sums_of in
    let all : sums ≡ summary_of h =
    summary_same sums _ _ _ _ _ us.used us.used_bytes us.holes us.hole_bytes (w.top ∙ ap (λ i. length b - i) (sym at ∙ w.at_place)) in
    record {
      image = subst (IsImage b) (sym same) (record { whole = refl; spells = spells });
      sums_of = all ∙ ap summary_of (sym same);
      clean = sym w.fault ∙ fault-end w.fuel b base from place (omega arith);
    }

pub accepted : (b : List ℕ) (base from place : ℕ) (sums : Summary) → has_descriptor b ≡ true → base ≡ word b 8 → Checked b base from place sums
    → base ≤ place → Accepted b sums
accepted b base from place sums d e w l =
    let low = w.below in
    let a = w.ahead in
    let n = (next_place_is b base from place (omega arith) w.below w.link).most in
    accepted_at b base from place sums d e w (omega arith) (not_true w.after_hole (λ t. let p = w.past t in omega arith))

-- bytes with a fault are no image
pub refused : (b : List ℕ) (f : HeapFault) → fault_of b ≡ Some f → (false ≡ true → IsImage b (heap_of b 0)) × (IsImage b (heap_of b 0) → false ≡ true)
refused b f e = (λ t. absurd cc, λ i. let n = image_clean b (heap_of b 0) i in let q : Some f ≡ None = sym e ∙ n in absurd cc)

pub link_refused : (b : List ℕ) (base : ℕ) → has_descriptor b ≡ true → base ≡ word b 8 → is_link b base 4 16 ≡ false → fault_of b ≡ Some BadLink
link_refused b base d e l = fault_of-link b d (subst (λ i. is_link b i 4 16 ≡ false) e l)
