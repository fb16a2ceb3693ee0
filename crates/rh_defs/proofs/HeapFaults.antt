-- Laws of faults: the tests on sizes and links, and that an image has no fault.
use Rattle.rh_defs.proofs.Common.{◌≡◌, ℕ, zero, suc, ◌+◌, ◌%◌, ◌<◌, ◌≤◌, ◌≢◌, ◌⊎◌, inl, inr, Bool, true, false, List, [], ◌∷◌, length, leb, ltb, eqb, refl}
use Rattle.rh_defs.proofs.Common.{sym, ap, ◌∙◌, arith, nat_tests, eqb_tells, Some, None, ◌&&◌, ◌||◌, word, total, Segment, Used, Hole, Heap, IsTidy, size_of}
use Rattle.rh_defs.proofs.Common.{Stand}
use Rattle.rh_defs.specs.HeapImage.{IsImage, is_size, is_link, next_place, fault_from, fault_of, has_descriptor, special_word}
use Rattle.rh_defs.specs.declared.heap.HeapFault.TheVariants.{BadSize, BadDescriptor, BadLink}
use Rattle.rh_defs.proofs.HeapLists.{cond_true, cond_false, eqb_same, eqb_apart, leb_yes, leb_no}

-- ---- tests
both : (x y : Bool) → (x && y) ≡ true → (x ≡ true) × (y ≡ true)
both true y e = (refl, e)
both false y e = absurd cc

and_true : (x y : Bool) → x ≡ true → y ≡ true → (x && y) ≡ true
and_true x y e f = rw (e, f) refl

and_left : (x y : Bool) → x ≡ false → (x && y) ≡ false
and_left x y e = rw e refl

and_right : (x y : Bool) → y ≡ false → (x && y) ≡ false
and_right true y e = e
and_right false y e = refl

either_of : (x y : Bool) → (x || y) ≡ true → (x ≡ true) ⊎ (y ≡ true)
either_of true y e = inl refl
either_of false y e = inr e

or_left : (x y : Bool) → x ≡ true → (x || y) ≡ true
or_left x y e = rw e refl

or_right : (x y : Bool) → y ≡ true → (x || y) ≡ true
or_right true y e = refl
or_right false y e = e

pub le_from : (x y : ℕ) → leb x y ≡ true → x ≤ y
le_from x y e = grind (arith, nat_tests)

pub lt_from : (x y : ℕ) → ltb x y ≡ true → x < y
lt_from x y e = grind (arith, nat_tests)

lt_yes : (x y : ℕ) → x < y → ltb x y ≡ true
lt_yes x y h = grind (arith, nat_tests)

lt_no : (x y : ℕ) → y ≤ x → ltb x y ≡ false
lt_no x y h = grind (arith, nat_tests)

pub eq_from : (x y : ℕ) → eqb x y ≡ true → x ≡ y
eq_from x y e = elim (eqb_tells x y) [ inl u ↦ u.1 | inr v ↦ absurd (let q : true ≡ false = sym e ∙ v.0 in cc) ]

pub size_from : (n : ℕ) → is_size n ≡ true → (8 ≤ n) × (n % 8 ≡ 0)
size_from n e = let t = both (ltb 0 n) (eqb (n % 8) 0) e in let a = lt_from 0 n t.0 in let b = eq_from (n % 8) 0 t.1 in (omega arith, b)

pub size_yes : (n : ℕ) → 0 < n → n % 8 ≡ 0 → is_size n ≡ true
size_yes n h m = and_true (ltb 0 n) (eqb (n % 8) 0) (lt_yes 0 n h) (eqb_same (n % 8) 0 m)

-- the link at f is 0, or leads to a place from p on where a hole has room
pub data LinkIs (b : List ℕ) (base f p : ℕ) : Type 0 where
  ends : word b f ≡ 0 → LinkIs b base f p
  leads : p ≤ f + word b f → (f + word b f) % 8 ≡ 0 → f + word b f + 8 ≤ base → LinkIs b base f p

pub link_from : (b : List ℕ) (base f p : ℕ) → is_link b base f p ≡ true → LinkIs b base f p
link_from b base f p e = elim (either_of (eqb (word b f) 0) _ e) [
  | inl z ↦ ends (eq_from (word b f) 0 z)
  | inr t ↦
      let x = both (eqb ((f + word b f) % 8) 0 && leb p (f + word b f)) (leb (f + word b f + 8) base) t in
      let y = both (eqb ((f + word b f) % 8) 0) (leb p (f + word b f)) x.0 in
      leads (le_from p (f + word b f) y.1) (eq_from ((f + word b f) % 8) 0 y.0) (le_from (f + word b f + 8) base x.1)
]

pub link_yes : (b : List ℕ) (base f p : ℕ) → LinkIs b base f p → is_link b base f p ≡ true
link_yes b base f p (ends z) = or_left (eqb (word b f) 0) _ (eqb_same (word b f) 0 z)
link_yes b base f p (leads l m h) = or_right (eqb (word b f) 0) _
    (and_true (eqb ((f + word b f) % 8) 0 && leb p (f + word b f)) (leb (f + word b f + 8) base)
    (and_true (eqb ((f + word b f) % 8) 0) (leb p (f + word b f)) (eqb_same ((f + word b f) % 8) 0 m) (leb_yes p (f + word b f) l))
    (leb_yes (f + word b f + 8) base h))

-- a link to a place further on leads to a place before it, too
pub LinkIs-sooner : (b : List ℕ) (base f p q : ℕ) → q ≤ p → LinkIs b base f p → LinkIs b base f q
LinkIs-sooner b base f p q l (ends z) = ends z
LinkIs-sooner b base f p q l (leads a m h) = leads (omega arith) m h

next_zero : (b : List ℕ) (base f : ℕ) → word b f ≡ 0 → next_place b base f ≡ base
next_zero b base f e = cond_true (eqb (word b f) 0) _ _ (eqb_same (word b f) 0 e)

next_some : (b : List ℕ) (base f : ℕ) → word b f ≢ 0 → next_place b base f ≡ f + word b f
next_some b base f e = cond_false (eqb (word b f) 0) _ _ (eqb_apart (word b f) 0 e)

-- where a right link leads
pub data NextIs (b : List ℕ) (base f p : ℕ) : Type 0 where
  at_base : word b f ≡ 0 → next_place b base f ≡ base → NextIs b base f p
  at_hole : next_place b base f ≡ f + word b f → p ≤ f + word b f → (f + word b f) % 8 ≡ 0 → f + word b f + 8 ≤ base → NextIs b base f p

pub next_is : (b : List ℕ) (base f p : ℕ) → f < p → LinkIs b base f p → NextIs b base f p
next_is b base f p l (ends z) = at_base z (next_zero b base f z)
next_is b base f p l (leads a m h) = at_hole (next_some b base f (omega arith)) a m h

-- ---- one step of the walk
module _ (k : ℕ) (b : List ℕ) (base f p : ℕ) where
  pub fault-end : base ≤ p → fault_from k b base f p ≡ None
  unfolding fault_from
  fault-end h = fault-end_at k
    where
      fault-end_at : (i : ℕ) → fault_from i b base f p ≡ None
      fault-end_at zero = refl
      fault-end_at (suc i) = cond_true (leb base p) _ _ (leb_yes base p h)

  pub fault-used : p < base → p < next_place b base f → is_size (word b p) ≡ true → p + word b p ≤ next_place b base f
      → fault_from (suc k) b base f p ≡ fault_from k b base f (p + word b p)
  unfolding fault_from
  fault-used lb ln s l = cond_false (leb base p) _ _ (leb_no base p lb) ∙ cond_true (ltb p (next_place b base f)) _ _ (lt_yes p (next_place b base f) ln)
      ∙ cond_true (is_size (word b p) && leb (p + word b p) (next_place b base f)) _ _
      (and_true (is_size (word b p)) _ s (leb_yes (p + word b p) (next_place b base f) l))

  pub fault-used_size : p < base → p < next_place b base f → (is_size (word b p) ≡ false) ⊎ (next_place b base f < p + word b p)
      → fault_from (suc k) b base f p ≡ Some BadSize
  unfolding fault_from
  fault-used_size lb ln s = cond_false (leb base p) _ _ (leb_no base p lb) ∙ cond_true (ltb p (next_place b base f)) _ _ (lt_yes p (next_place b base f) ln)
      ∙ cond_false (is_size (word b p) && leb (p + word b p) (next_place b base f)) _ _
      (elim s [ inl e ↦ and_left (is_size (word b p)) _ e | inr g ↦ and_right (is_size (word b p)) _ (leb_no (p + word b p) (next_place b base f) g) ])

  pub fault-hole : p < base → next_place b base f ≤ p → is_size (word b (p + 4)) ≡ true → p + word b (p + 4) < base
      → is_link b base p (p + word b (p + 4) + 1) ≡ true → fault_from (suc k) b base f p ≡ fault_from k b base p (p + word b (p + 4))
  unfolding fault_from
  fault-hole lb ln s l g = cond_false (leb base p) _ _ (leb_no base p lb) ∙ cond_false (ltb p (next_place b base f)) _ _ (lt_no p (next_place b base f) ln)
      ∙ cond_true (is_size (word b (p + 4)) && ltb (p + word b (p + 4)) base) _ _ (and_true (is_size (word b (p + 4))) _ s (lt_yes (p + word b (p + 4)) base l))
      ∙ cond_true (is_link b base p (p + word b (p + 4) + 1)) _ _ g

  pub fault-hole_size : p < base → next_place b base f ≤ p → (is_size (word b (p + 4)) ≡ false) ⊎ (base ≤ p + word b (p + 4))
      → fault_from (suc k) b base f p ≡ Some BadSize
  unfolding fault_from
  fault-hole_size lb ln s = cond_false (leb base p) _ _ (leb_no base p lb) ∙ cond_false (ltb p (next_place b base f)) _ _ (lt_no p (next_place b base f) ln)
      ∙ cond_false (is_size (word b (p + 4)) && ltb (p + word b (p + 4)) base) _ _
      (elim s [ inl e ↦ and_left (is_size (word b (p + 4))) _ e | inr g ↦ and_right (is_size (word b (p + 4))) _ (lt_no (p + word b (p + 4)) base g) ])

  pub fault-hole_link : p < base → next_place b base f ≤ p → is_size (word b (p + 4)) ≡ true → p + word b (p + 4) < base
      → is_link b base p (p + word b (p + 4) + 1) ≡ false → fault_from (suc k) b base f p ≡ Some BadLink
  unfolding fault_from
  fault-hole_link lb ln s l g = cond_false (leb base p) _ _ (leb_no base p lb) ∙ cond_false (ltb p (next_place b base f)) _ _ (lt_no p (next_place b base f) ln)
      ∙ cond_true (is_size (word b (p + 4)) && ltb (p + word b (p + 4)) base) _ _ (and_true (is_size (word b (p + 4))) _ s (lt_yes (p + word b (p + 4)) base l))
      ∙ cond_false (is_link b base p (p + word b (p + 4) + 1)) _ _ g

module _ (b : List ℕ) where
  pub fault_of-descriptor : has_descriptor b ≡ false → fault_of b ≡ Some BadDescriptor
  unfolding fault_of
  fault_of-descriptor e = cond_false (has_descriptor b) _ _ e

  pub fault_of-link : has_descriptor b ≡ true → is_link b (word b 8) 4 16 ≡ false → fault_of b ≡ Some BadLink
  unfolding fault_of
  fault_of-link e l = cond_true (has_descriptor b) _ _ e ∙ cond_false (is_link b (word b 8) 4 16) _ _ l

  pub fault_of-segments : has_descriptor b ≡ true → is_link b (word b 8) 4 16 ≡ true → fault_of b ≡ fault_from (length b) b (word b 8) 4 16
  unfolding fault_of
  fault_of-segments e l = cond_true (has_descriptor b) _ _ e ∙ cond_true (is_link b (word b 8) 4 16) _ _ l

-- ---- an image has no fault

-- the link before tidy segments is right
link_is : (b : List ℕ) (base f p : ℕ) (after : Bool) (ss : List Segment) → f < p → p % 8 ≡ 0 → p + total size_of ss ≡ base → IsTidy after ss → Stand b f p ss
    → LinkIs b base f p
link_is b base f p false [] l m e t h = ends h
link_is b base f p true [] l m e t h = absurd t
link_is b base f p false (Used bs ∷ ss) l m e t h = LinkIs-sooner b base f (p + (4 + length bs)) p (omega arith)
    (link_is b base f (p + (4 + length bs)) false ss (omega arith) (let q = t.0 in omega arith) (omega arith) t.1 h.2)
link_is b base f p true (Used bs ∷ ss) l m e t h = LinkIs-sooner b base f (p + (4 + length bs)) p (omega arith)
    (link_is b base f (p + (4 + length bs)) false ss (omega arith) (let q = t.0 in omega arith) (omega arith) t.1 h.2)
link_is b base f p true (Hole n ∷ ss) l m e t h = absurd t
link_is b base f p false (Hole n ∷ ss) l m e t h =
    let at = h.0 in let some = t.0 in let mult = t.1 in
    leads (omega arith) (rw at m) (omega arith)

-- and the link of a hole leads past the segment behind it
link_is_past : (b : List ℕ) (base f p : ℕ) (ss : List Segment) → f < p → p % 8 ≡ 0 → p + total size_of ss ≡ base → IsTidy true ss → Stand b f p ss
    → LinkIs b base f (p + 1) × (p < base)
link_is_past b base f p [] l m e t h = absurd t
link_is_past b base f p (Hole n ∷ ss) l m e t h = absurd t
link_is_past b base f p (Used bs ∷ ss) l m e t h = (
  LinkIs-sooner b base f (p + (4 + length bs)) (p + 1) (omega arith) (link_is b base f (p + (4 + length bs)) false ss (omega arith) (let q = t.0 in omega
      arith) (omega arith) t.1 h.2),
  omega arith,
)

fault-zero : (b : List ℕ) (base f p : ℕ) → fault_from zero b base f p ≡ None
unfolding fault_from
fault-zero b base f p = refl

clean_used : (k : ℕ) (b : List ℕ) (base f p : ℕ) (bs : List ℕ) (ss : List Segment) → f < p → p % 8 ≡ 0 → p + (4 + length bs + total size_of ss) ≡ base
    → (4 + length bs) % 8 ≡ 0 → IsTidy false ss → Stand b f p (Used bs ∷ ss)
    → fault_from k b base f (p + (4 + length bs)) ≡ None → fault_from (suc k) b base f p ≡ None
clean_used k b base f p bs ss l m e s t h rest =
    let size = h.0 in
    let where_to : p + (4 + length bs) ≤ next_place b base f = elim (next_is b base f (p + (4 + length bs)) (omega arith)
    (link_is b base f (p + (4 + length bs)) false ss (omega arith) (omega arith) (omega arith) t h.2)) [
      | at_base z n ↦ omega arith
      | at_hole n a x y ↦ omega arith
    ] in
    fault-used k b base f p (omega arith) (omega arith) (size_yes (word b p) (omega arith) (rw size s)) (omega arith)
    ∙ ap (λ i. fault_from k b base f (p + i)) size ∙ rest

clean : (k : ℕ) (b : List ℕ) (base f p : ℕ) (after : Bool) (ss : List Segment) → f < p → p % 8 ≡ 0 → p + total size_of ss ≡ base → IsTidy after ss
    → Stand b f p ss → fault_from k b base f p ≡ None
clean zero b base f p after ss l m e t h = fault-zero b base f p
clean (suc k) b base f p false [] l m e t h = fault-end (suc k) b base f p (omega arith)
clean (suc k) b base f p true [] l m e t h = absurd t
clean (suc k) b base f p false (Used bs ∷ ss) l m e t h =
    clean_used k b base f p bs ss l m e t.0 t.1 h (clean k b base f (p + (4 + length bs)) false ss (omega arith) (let q = t.0 in omega arith) (omega arith)
    t.1 h.2)
clean (suc k) b base f p true (Used bs ∷ ss) l m e t h =
    clean_used k b base f p bs ss l m e t.0 t.1 h (clean k b base f (p + (4 + length bs)) false ss (omega arith) (let q = t.0 in omega arith) (omega arith)
    t.1 h.2)
clean (suc k) b base f p true (Hole n ∷ ss) l m e t h = absurd t
clean (suc k) b base f p false (Hole n ∷ ss) l m e t h =
    let at = h.0 in let size = h.1 in let some = t.0 in let mult = t.1 in
    let next = next_some b base f (omega arith) in
    let past = link_is_past b base p (p + n) ss (omega arith) (omega arith) (omega arith) t.2 h.2 in
    let below = past.1 in
    fault-hole k b base f p (omega arith) (omega arith) (size_yes (word b (p + 4)) (omega arith) (rw size mult)) (omega arith)
    (link_yes b base p (p + word b (p + 4) + 1) (LinkIs-sooner b base p (p + n + 1) (p + word b (p + 4) + 1) (omega arith) past.0))
    ∙ ap (λ i. fault_from k b base p (p + i)) size
    ∙ clean k b base p (p + n) true ss (omega arith) (omega arith) (omega arith) t.2 h.2

pub multiple_of_sizes : (after : Bool) (ss : List Segment) → IsTidy after ss → total size_of ss % 8 ≡ 0
multiple_of_sizes false [] t = refl
multiple_of_sizes true [] t = refl
multiple_of_sizes false (Used bs ∷ ss) t = let a = t.0 in let r = multiple_of_sizes false ss t.1 in omega arith
multiple_of_sizes true (Used bs ∷ ss) t = let a = t.0 in let r = multiple_of_sizes false ss t.1 in omega arith
multiple_of_sizes true (Hole n ∷ ss) t = absurd t
multiple_of_sizes false (Hole n ∷ ss) t = let a = t.1 in let r = multiple_of_sizes true ss t.2 in omega arith

pub image_has_descriptor : (b : List ℕ) (h : Heap) → IsImage b h → has_descriptor b ≡ true
image_has_descriptor b h i =
    let s = i.spells in
    let m = s.heap.multiple in
    let f = s.heap.fits in
    let t = multiple_of_sizes false h.segments s.heap.tidy in
    let w = i.whole in
    let base = s.base in
    let last = s.last in
    and_true _ _ (and_true _ _ (and_true _ _ (and_true _ _ (and_true _ _ (and_true _ _
    (eqb_same (length b % 8) 0 (rw w m)) (leb_yes 16 (length b) (omega arith))) (eqb_same (word b 0) special_word s.special)) (eqb_same (word b 12) (length
    b) (omega arith)))
    (eqb_same (word b 8 % 8) 0 (omega arith))) (leb_yes 16 (word b 8) (omega arith))) (leb_yes (word b 8) (length b) (omega arith))

-- bytes that spell a heap have no fault
pub image_clean : (b : List ℕ) (h : Heap) → IsImage b h → fault_of b ≡ None
image_clean b h i =
    let s = i.spells in
    let base = s.base in
    let link = link_is b (word b 8) 4 16 false h.segments (omega arith) refl (omega arith) s.heap.tidy s.stand in
    fault_of-segments b (image_has_descriptor b h i) (link_yes b (word b 8) 4 16 link)
    ∙ clean (length b) b (word b 8) 4 16 false h.segments (omega arith) refl (omega arith) s.heap.tidy s.stand

-- what the test on the descriptor says
pub record Descriptor (b : List ℕ) : Type 0 where
  pub multiple : length b % 8 ≡ 0
  pub least : 16 ≤ length b
  pub special : word b 0 ≡ special_word
  pub end_ : word b 12 ≡ length b
  pub low : 16 ≤ word b 8
  pub high : word b 8 ≤ length b
  pub whole : word b 8 % 8 ≡ 0

pub descriptor_from : (b : List ℕ) → has_descriptor b ≡ true → Descriptor b
descriptor_from b e =
    let t6 = both _ (leb (word b 8) (length b)) e in
    let t5 = both _ (leb 16 (word b 8)) t6.0 in
    let t4 = both _ (eqb (word b 8 % 8) 0) t5.0 in
    let t3 = both _ (eqb (word b 12) (length b)) t4.0 in
    let t2 = both _ (eqb (word b 0) special_word) t3.0 in
    let t1 = both (eqb (length b % 8) 0) (leb 16 (length b)) t2.0 in
    record {
      multiple = eq_from (length b % 8) 0 t1.0;
      least = le_from 16 (length b) t1.1;
      special = eq_from (word b 0) special_word t2.1;
      end_ = eq_from (word b 12) (length b) t3.1;
      low = le_from 16 (word b 8) t5.1;
      high = le_from (word b 8) (length b) t6.1;
      whole = eq_from (word b 8 % 8) 0 t4.1;
    }
