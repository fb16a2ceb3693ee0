-- No two live messages have one ref, as it is seen of a desk, and once a task let go of what it held and took a message: what is
-- held differs from what is queued and from what other tasks hold, and what came back from what is unread.
use Rattle.rh_laws.proofs.Common.{Desk, Has, List, None, Option, Parcel, Seat, Some, [], ap, arith, eqb_tells, held_by, inl, inr, map, none_some, option_map}
use Rattle.rh_laws.proofs.Common.{put_same, refl, seen_parcel, subst, sym, view, ℕ, ◌++◌, ◌∙◌, ◌∷◌, ◌≡◌, ◌≢◌, ◌⊎◌}
use Rattle.std.specs.List.{AllByRecursion, flat_map}
use Rattle.rh_safety.specs.Refs.{AllDiffer, HaveOwnRefs, held_refs, ref_of}
use Rattle.rh_safety.proofs.Basics.{Has-append, Has-left, Has-right, first_has, without_has}
use Rattle.rh_safety.proofs.Ends.{Code, Letter, Message, Plain, Recorded, Returned, first_for, put, without_first}
use Rattle.rh_safety.proofs.Invariant.{Rises, Unread}
use Rattle.rh_safety.proofs.Posts.{back_has, unheld}
use Rattle.rh_safety.proofs.Sight as sight
use Rattle.rh_safety.proofs.Sight.{back, returned}

pub record Alone (q : List Message) (held : ℕ → Option Message) : Type 0 where
  pub hand : (j : ℕ) (m y : Message) → held j ≡ Some m → Has y q → y.letter.me ≢ m.letter.me
  pub hands : (i j : ℕ) (m y : Message) → held i ≡ Some m → held j ≡ Some y → m.letter.me ≡ y.letter.me → i ≡ j
  pub back : (m y : Message) → Has m q → Has y q → Unread m → y.code ≡ Returned → y.letter.me ≢ m.letter.me

me_of : {l k : Letter} → l ≡ k → l.me ≡ k.me
me_of e = ap (λ (l : Letter). l.me) e

-- ---- of a desk whose live refs differ

differ-has : (n : ℕ) (ns : List ℕ) → AllByRecursion (λ m. m ≢ n) ns → Has n ns → ⊥
differ-has n [] all has = has
differ-has n (m ∷ ns) all (inl e) = all.0 e
differ-has n (m ∷ ns) all (inr has) = differ-has n ns all.1 has

differ-parts : (xs ys : List ℕ) → AllDiffer (xs ++ ys) → (n : ℕ) → Has n xs → Has n ys → ⊥
differ-parts [] ys d n has there = has
differ-parts (x ∷ xs) ys d n (inl e) there = differ-has x (xs ++ ys) d.0 (Has-right x xs ys (subst (λ k. Has k ys) (sym e) there))
differ-parts (x ∷ xs) ys d n (inr has) there = differ-parts xs ys d.1 n has there

differ-right : (xs ys : List ℕ) → AllDiffer (xs ++ ys) → AllDiffer ys
differ-right [] ys d = d
differ-right (x ∷ xs) ys d = differ-right xs ys d.1

ref-in : (ps : List Parcel) (y : Message) → Has y (map seen_parcel ps) → Has y.letter.me (map ref_of ps)
ref-in [] y has = absurd has
ref-in (p ∷ ps) y (inl e) = inl (ap (λ (z : Message). z.letter.me) e)
ref-in (p ∷ ps) y (inr has) = inr (ref-in ps y has)

-- two messages in a queue, of which one alone came back
queue-differs : (ps : List Parcel) (ys : List ℕ) (m y : Message) → AllDiffer (map ref_of ps ++ ys) → Has m (map seen_parcel ps) → Has y (map seen_parcel ps) →
    Unread m → y.code ≡ Returned → y.letter.me ≢ m.letter.me
queue-differs [] ys m y d a b un code = absurd a
queue-differs (p ∷ ps) ys m y d (inl a) (inl b) un code = absurd (un (ap (λ (z : Message). z.code) (sym a ∙ b) ∙ code))
queue-differs (p ∷ ps) ys m y d (inl a) (inr b) un code = λ same. differ-has (ref_of p) (map ref_of ps ++ ys) d.0
    (Has-left (ref_of p) (map ref_of ps) ys (subst (λ n. Has n (map ref_of ps)) (same ∙ ap (λ (z : Message). z.letter.me) (sym a)) (ref-in ps y b)))
queue-differs (p ∷ ps) ys m y d (inr a) (inl b) un code = λ same. differ-has (ref_of p) (map ref_of ps ++ ys) d.0
    (Has-left (ref_of p) (map ref_of ps) ys (subst (λ n. Has n (map ref_of ps)) (sym same ∙ ap (λ (z : Message). z.letter.me) (sym b)) (ref-in ps m a)))
queue-differs (p ∷ ps) ys m y d (inr a) (inr b) un code = queue-differs ps ys m y d.1 a b un code

abbrev held_all : List Seat → List ℕ
held_all seats = flat_map (λ (s : Seat). held_refs s.holds) seats

hold-in : (o : Option Parcel) (p : Parcel) → o ≡ Some p → Has (ref_of p) (held_refs o)
hold-in o p e = subst (λ v. Has (ref_of p) (held_refs v)) (sym e) (inl refl)

held-in : (j : ℕ) (seats : List Seat) (p : Parcel) → held_by j seats ≡ Some p → Has (ref_of p) (held_all seats)
held-in j [] p e = absurd (none_some None refl e)
held-in j (s ∷ seats) p e = elim (eqb_tells s.handle j) [
  | inl z ↦ Has-left (ref_of p) (held_refs s.holds) (held_all seats) (hold-in s.holds p (rw z.0 at e))
  | inr z ↦ Has-right (ref_of p) (held_refs s.holds) (held_all seats) (held-in j seats p (rw z.0 at e))
]

held-one : (i j : ℕ) (seats : List Seat) (p q : Parcel) → AllDiffer (held_all seats) → held_by i seats ≡ Some p → held_by j seats ≡ Some q →
    ref_of p ≡ ref_of q → i ≡ j
held-one i j [] p q d e f same = absurd (none_some None refl e)
held-one i j (s ∷ seats) p q d e f same = elim (eqb_tells s.handle i) [
  | inl a ↦ elim (eqb_tells s.handle j) [
    | inl b ↦ sym a.1 ∙ b.1
    | inr b ↦ absurd (differ-parts (held_refs s.holds) (held_all seats) d (ref_of q)
        (subst (λ n. Has n (held_refs s.holds)) same (hold-in s.holds p (rw a.0 at e))) (held-in j seats q (rw b.0 at f)))
  ]
  | inr a ↦ elim (eqb_tells s.handle j) [
    | inl b ↦ absurd (differ-parts (held_refs s.holds) (held_all seats) d (ref_of q) (hold-in s.holds q (rw b.0 at f))
        (subst (λ n. Has n (held_all seats)) same (held-in i seats p (rw a.0 at e))))
    | inr b ↦ held-one i j seats p q (differ-right (held_refs s.holds) (held_all seats) d) (rw a.0 at e) (rw b.0 at f) same
  ]
]

-- the message that is seen to be held
held-parcel : (o : Option Parcel) (m : Message) → option_map seen_parcel o ≡ Some m → (p : Parcel) × ((o ≡ Some p) × (ref_of p ≡ m.letter.me))
held-parcel None m e = absurd (none_some None refl e)
held-parcel (Some p) m e = let same : seen_parcel p ≡ m = cc in (p, (refl, ap (λ (z : Message). z.letter.me) same))

pub alone-of : (d : Desk) → HaveOwnRefs d → Alone (view d).queue (view d).held
alone-of d own = record {
  hand = λ j m y e has.
      let p = held-parcel (held_by j d.post.seats) m e in
      λ same. differ-parts (map ref_of d.post.queued) (held_all d.post.seats) own.differ y.letter.me (ref-in d.post.queued y has)
      (subst (λ n. Has n (held_all d.post.seats)) (p.1.1 ∙ sym same) (held-in j d.post.seats p.0 p.1.0));
  hands = λ i j m y e f same.
      let p = held-parcel (held_by i d.post.seats) m e in
      let q = held-parcel (held_by j d.post.seats) y f in
      held-one i j d.post.seats p.0 q.0 (differ-right (map ref_of d.post.queued) (held_all d.post.seats) own.differ) p.1.0 q.1.0 (p.1.1 ∙ same ∙ sym q.1.1);
  back = λ m y has_m has_y un code. queue-differs d.post.queued (held_all d.post.seats) m y own.differ has_m has_y un code;
}

-- the rest of the queue, once the first message for a task was taken
pub rest-apart : (k : ℕ) (q : List Message) (m y : Message) → first_for k q ≡ Some m → Rises q → Has y (without_first k q) → Unread y → Unread m →
    y.letter.me ≢ m.letter.me
rest-apart k [] m y e up has u v = absurd has
rest-apart k (x ∷ q) m y e up has u v = elim (eqb_tells x.to k) [
  | inl z ↦
      let one : x ≡ m = let s = rw z.0 at e in cc in
      let r = up.0 y (rw z.0 at has) (subst Unread (sym one) v) u in
      λ same. let me = ap (λ (n : Message). n.letter.me) one in omega (arith, r, same, me)
  | inr z ↦ elim (let s : Has y (x ∷ without_first k q) = rw z.0 at has in s) [
    | inl s ↦
        let r = up.0 m (first_has k q m (rw z.0 at e)).0 (subst Unread (sym s) u) v in
        λ same. let me = ap (λ (n : Message). n.letter.me) s in omega (arith, r, same, me)
    | inr s ↦ rest-apart k q m y (rw z.0 at e) up.1 s u v
  ]
]

pub unread_or_back : (y : Message) → Unread y ⊎ (y.code ≡ Returned)
unread_or_back y = by y.code refl
  where
    by : (c : Code) → y.code ≡ c → Unread y ⊎ (y.code ≡ Returned)
    by Plain e = inl (λ r. let z : Plain ≡ Returned = sym e ∙ r in (cc))
    by Recorded e = inl (λ r. let z : Recorded ≡ Returned = sym e ∙ r in (cc))
    by Returned e = inr e

-- ---- a task lets go of what it holds

pub returned-alone : (d : sight.Desk) (k : ℕ) (o : Option Message) → d.held k ≡ o → Alone d.queue d.held → Alone (returned d k o).queue (returned d k o).held
returned-alone d k None is a = a
returned-alone d k (Some m) is a = record {
  hand = λ j x y e has. elim (Has-append y d.queue (back d.live m) has) [
    | inl h ↦ a.hand j x y (unheld d k j x e) h
    | inr h ↦ λ same.
        let z = me_of (back_has (d.live m.letter.from) m y h).1 in
        let here : j ≡ k = a.hands j k x m (unheld d k j x e) is (sym same ∙ z) in
        none_some _ (put_same d.held k None) (subst (λ i. put d.held k None i ≡ Some x) here e)
  ];
  hands = λ i j x y e f same. a.hands i j x y (unheld d k i x e) (unheld d k j y f) same;
  back = λ x y has_x has_y un code. elim (Has-append x d.queue (back d.live m) has_x) [
    | inr h ↦ absurd (un (back_has (d.live m.letter.from) m x h).0)
    | inl h ↦ elim (Has-append y d.queue (back d.live m) has_y) [
      | inl g ↦ a.back x y h g un code
      | inr g ↦ λ same. a.hand k m x is h (sym same ∙ me_of (back_has (d.live m.letter.from) m y g).1)
    ]
  ];
}

-- ---- a message is taken

-- what is held then: as before, or the task has the message
abbrev pub Holds : sight.Desk → ℕ → Message → (ℕ → Option Message) → Type 0
Holds d k m hd = (j : ℕ) (y : Message) → hd j ≡ Some y → (d.held j ≡ Some y) ⊎ ((j ≡ k) × ((m ≡ y) × Unread m))

module _ (d : sight.Desk) (k : ℕ) (m : Message) (first : first_for k d.queue ≡ Some m) (up : Rises d.queue) (a : Alone d.queue d.held) where
  here : Has m d.queue
  here = (first_has k d.queue m first).0

  -- no message that is left in the queue has its ref
  pub left-apart : Unread m → (y : Message) → Has y (without_first k d.queue) → y.letter.me ≢ m.letter.me
  left-apart un y has = elim (unread_or_back y) [
    | inl u ↦ rest-apart k d.queue m y first up has u un
    | inr c ↦ a.back m y here (without_has k d.queue y has) un c
  ]

  module _ (hd : ℕ → Option Message) (h : Holds d k m hd) where
    -- only the task may hold a message of that ref
    pub picked-hand : (j : ℕ) (y : Message) → hd j ≡ Some y → y.letter.me ≡ m.letter.me → j ≡ k
    picked-hand j y e same = elim (h j y e) [ inl o ↦ absurd (a.hand j y m o here (sym same)) | inr o ↦ o.0 ]
