-- The small moves, part by part: what is known, the next ref, what is offered, and one record written anew.
use Rattle.rh_safety.proofs.Common.{◌≡◌, ◌≢◌, ℕ, ◌+◌, ◌≤◌, ◌<◌, Bool, true, List, [], Option, Some, None, refl, sym, ap, ◌∙◌, subst, ◌⊎◌, inl, inr, arith}
use Rattle.rh_safety.proofs.Common.{eqb_tells, Letter, Sending, Taking, Asked, Out, Open, Out_done, Out_failed, In, Fetching, Draining, Asking, In_done}
use Rattle.rh_safety.proofs.Common.{In_failed, is_growing, out_id, in_id, in_anchor, Has, Active, put, with_id, one_more, none_some, Offered, LetterIn}
use Rattle.rh_safety.proofs.Common.{LetterCarries, Counted, Counts, Begins, Untouched, IsGood, HasBuffer}
use Rattle.rh_safety.proofs.Sight.{Scrap}
use Rattle.rh_safety.proofs.Basics.{with_old, more_old}
use Rattle.rh_safety.proofs.Invariant.{LetterAck, LetterFile, Loads, Below, Offers, LetterOut, LetterOlder, LetterAhead, Source, AtMost, Letters, Outs, Ins}
use Rattle.rh_safety.proofs.Invariant.{Boths}

-- ---- which letters are known

abbrev pub Lets : Type 1
Lets = Letter → Type 0

pub letters_more : {K L : Lets} {o : Offered} {next handle : ℕ} (n : Letter) → ((l : Letter) → L l → K l ⊎ (l ≡ n)) →
    Below next handle n → Offers o n → Letters K o next handle → Letters L o next handle
letters_more {K} {L} {o} {next} {handle} n f b of i = record {
  below = λ l k. elim (f l k) [ inl a ↦ i.below l a | inr a ↦ subst (λ z. Below next handle z) (sym a) b ];
  offers = λ l k. elim (f l k) [ inl a ↦ i.offers l a | inr a ↦ subst (λ z. Offers o z) (sym a) of ];
}

pub outs_more : {K L : Lets} {o : Offered} {sending : ℕ → List Out} {block : ℕ → ℕ → Option (List ℕ)} {next : ℕ}
    (n : Letter) →
    ((l : Letter) → L l → K l ⊎ (l ≡ n)) → ((s : ℕ) (x : Sending) → Has (Open x) (sending s) → LetterOut n s x) →
    Outs K o sending block next → Outs L o sending block next
outs_more n f new i = record {
  letter = λ l k s x q. elim (f l k) [
    | inl a ↦ i.letter l a s x q
    | inr a ↦ subst (λ z. LetterOut z s x) (sym a) (new s x q)
  ];
  source = i.source;
  counted = i.counted;
  lasts = i.lasts;
}

pub ins_more : {K L : Lets} {o : Offered} {e : ℕ → ℕ → Bool} {taking : ℕ → List In} {block heap : ℕ → ℕ →
    Option (List ℕ)} {buf : ℕ → ℕ} {next : ℕ} (n : Letter) →
    ((l : Letter) → L l → K l ⊎ (l ≡ n)) →
    ((r : ℕ) (t : Taking) → Active (taking r) t → LetterIn n r t) → ((r : ℕ) (t : Taking) → Has (Fetching t)
    (taking r) → LetterCarries o n t (heap r) (buf r)) → Ins K o e taking block heap buf next → Ins L o e taking block
    heap buf next
ins_more {K} {L} {o} {e} {taking} {block} {heap} {buf} n f new1 new2 i = record {
  letter = λ l k r t q. elim (f l k) [
    | inl a ↦ i.letter l a r t q
    | inr a ↦ subst (λ z. LetterIn z r t) (sym a) (new1 r t q)
  ];
  carries = λ l k r t q. elim (f l k) [
    | inl a ↦ i.carries l a r t q
    | inr a ↦ subst (λ z. LetterCarries o z t (heap r)
        (buf r)) (sym a) (new2 r t q)
  ];
  good = i.good;
  counted = i.counted;
  buffer = i.buffer;
  buffers = i.buffers;
  documents = i.documents;
  room = i.room;
}

pub boths_more : {K L : Lets} {sending : ℕ → List Out} {taking : ℕ → List In} (n : Letter) →
    ((l : Letter) → L l → K l ⊎ (l ≡ n)) →
    ((s : ℕ) (x : Sending) → Has (Open x) (sending s) → (r : ℕ) (t : Taking) → Active (taking r) t → LetterOlder n s x
    t) →
    ((s : ℕ) (x : Sending) → Has (Open x) (sending s) → (r : ℕ) (t : Taking) → Has (Fetching t) (taking r) →
    LetterAhead n s x t) → Boths K sending taking → Boths L sending taking
boths_more n f new1 new2 i = record {
  older = λ l k s x q r t u. elim (f l k) [
    | inl a ↦ i.older l a s x q r t u
    | inr a ↦ subst (λ z. LetterOlder z s x t)
        (sym a) (new1 s x q r t u)
  ];
  ahead = λ l k s x q r t u. elim (f l k) [
    | inl a ↦ i.ahead l a s x q r t u
    | inr a ↦ subst (λ z. LetterAhead z s x t)
        (sym a) (new2 s x q r t u)
  ];
  apart = i.apart;
}

pub letters_fewer : {K L : Lets} {o : Offered} {next handle : ℕ} → ((l : Letter) → L l → K l) →
    Letters K o next handle → Letters L o next handle
letters_fewer f i = record { below = λ l k. i.below l (f l k); offers = λ l k. i.offers l (f l k) }

pub outs_fewer : {K L : Lets} {o : Offered} {sending : ℕ → List Out} {block : ℕ → ℕ → Option (List ℕ)} {next : ℕ} →
    ((l : Letter) → L l → K l) → Outs K o sending block next → Outs L o sending block next
outs_fewer f i = record { letter = λ l k. i.letter l (f l k); source = i.source; counted = i.counted; lasts = i.lasts }

pub ins_fewer : {K L : Lets} {o : Offered} {e : ℕ → ℕ → Bool} {taking : ℕ → List In} {block heap : ℕ → ℕ →
    Option (List ℕ)} {buf : ℕ → ℕ} {next : ℕ} →
    ((l : Letter) → L l → K l) → Ins K o e taking block heap buf next → Ins L o e taking block heap buf next
ins_fewer f i = record {
  letter = λ l k. i.letter l (f l k);
  carries = λ l k. i.carries l (f l k);
  good = i.good;
  counted = i.counted;
  buffer = i.buffer;
  buffers = i.buffers;
  documents = i.documents;
  room = i.room;
}

pub boths_fewer : {K L : Lets} {sending : ℕ → List Out} {taking : ℕ → List In} → ((l : Letter) → L l → K l) →
    Boths K sending taking → Boths L sending taking
boths_fewer f i = record { older = λ l k. i.older l (f l k); ahead = λ l k. i.ahead l (f l k); apart = i.apart }

-- ---- the next ref, and what is offered

pub letters_bump : {K : Lets} {o : Offered} {a b handle next : ℕ} → a ≤ b → handle ≤ next → Letters K o a handle →
    Letters K o b next
letters_bump le up i = record {
  below = λ l k. let w = i.below l k in record {
    me = let u = w.me in omega arith;
    answers = let u = w.answers in omega arith;
    from = let u = w.from in omega arith;
  };
  offers = i.offers;
}

pub outs_bump : {K : Lets} {o : Offered} {sending : ℕ → List Out} {block : ℕ → ℕ → Option (List ℕ)} {a b : ℕ} →
    a ≤ b → Outs K o sending block a → Outs K o sending block b
outs_bump le i = record {
  letter = i.letter;
  source = λ s x q. let w = i.source s x q in record {
    all = w.all;
    offered = w.offered;
    there = w.there;
    fits = w.fits;
    unread = w.unread;
    below = let u = w.below in omega arith;
  };
  counted = i.counted;
  lasts = i.lasts;
}

pub ins_bump : {K : Lets} {o : Offered} {e : ℕ → ℕ → Bool} {taking : ℕ → List In} {block heap : ℕ → ℕ →
    Option (List ℕ)} {buf : ℕ → ℕ} {a b : ℕ} →
    a ≤ b → Ins K o e taking block heap buf a → Ins K o e taking block heap buf b
ins_bump le i = record {
  letter = i.letter;
  carries = i.carries;
  good = i.good;
  counted = i.counted;
  buffer = λ r t q. let w = i.buffer r t q in record {
    bytes = w.bytes;
    there = w.there;
    size = w.size;
    below = let u = w.below in omega arith;
  };
  buffers = i.buffers;
  documents = i.documents;
  room = i.room;
}

-- more is offered
abbrev pub Grows : Offered → Offered → Type 0
Grows o p = (id : ℕ) (all : List ℕ) → o id ≡ Some all → p id ≡ Some all

begins_grow : {o p : Offered} {id n : ℕ} {b : Option (List ℕ)} → Grows o p → Begins o id n b → Begins p id n b
begins_grow g z = record { all = z.all; offered = g _ _ z.offered; there = z.there; fits = z.fits }

good_grow : {o p : Offered} (w : In) (b : Option (List ℕ)) → Grows o p → IsGood o w b → IsGood p w b
good_grow (Fetching t) b g z = begins_grow g z
good_grow (Draining t) b g z = begins_grow g z
good_grow (Asking q) b g z = begins_grow g z
good_grow (In_done i a n) b g z = record { all = z.all; offered = g _ _ z.offered; there = z.there }
good_grow (In_failed i a n) b g z = begins_grow g z

at_most_grow : {o p : Offered} {id n : ℕ} → Grows o p → AtMost o id n → AtMost p id n
at_most_grow g z = record { all = z.all; offered = g _ _ z.offered; fits = z.fits }

counts_grow : {o p : Offered} (w : In) → Grows o p → Counts o w → Counts p w
counts_grow (Fetching t) g z = at_most_grow g z
counts_grow (Draining t) g z = at_most_grow g z
counts_grow (Asking q) g z = at_most_grow g z
counts_grow (In_done i a n) g z = record { all = z.all; offered = g _ _ z.offered; whole = z.whole }
counts_grow (In_failed i a n) g z = at_most_grow g z

pub letters_grow : {K : Lets} {o p : Offered} {next handle : ℕ} → Grows o p → Letters K o next handle →
    Letters K p next handle
letters_grow g i = record {
  below = i.below;
  offers = λ l k. record {
    some = λ is. let w = (i.offers l k).some is in (w.0, g _ _ w.1);
  };
}

pub outs_grow : {K : Lets} {o p : Offered} {sending : ℕ → List Out} {block : ℕ → ℕ → Option (List ℕ)} {next : ℕ} →
    Grows o p → Outs K o sending block next → Outs K p sending block next
outs_grow g i = record {
  letter = i.letter;
  source = λ s x q. let z = i.source s x q in record {
    all = z.all;
    offered = g _ _ z.offered;
    there = z.there;
    fits = z.fits;
    unread = z.unread;
    below = z.below;
  };
  counted = λ s a n q. let z = i.counted s a n q in record { all = z.all; offered = g _ _ z.offered; whole = z.whole };
  lasts = i.lasts;
}

pub ins_grow : {K : Lets} {o p : Offered} {e : ℕ → ℕ → Bool} {taking : ℕ → List In} {block heap : ℕ → ℕ →
    Option (List ℕ)} {buf : ℕ → ℕ} {next : ℕ} →
    Grows o p → Ins K o e taking block heap buf next → Ins K p e taking block heap buf next
ins_grow g i = record {
  letter = i.letter;
  carries = λ l k r t q. record {
    carries = λ a b c. let z = (i.carries l k r t q).carries a b c in record {
      all = z.all;
      bytes = z.bytes;
      offered = g _ _ z.offered;
      there = z.there;
      same = z.same;
      fits = z.fits;
      short = z.short;
    };
  };
  good = λ r w q u. good_grow w _ g (i.good r w q u);
  counted = λ r w q. counts_grow w g (i.counted r w q);
  buffer = i.buffer;
  buffers = i.buffers;
  documents = i.documents;
  room = i.room;
}

-- ---- one record written anew: each record is an old one, of another id where it is the same task's, or v of task h

abbrev pub Move : {A : Type 0} → (A → ℕ) → (ℕ → List A) → (ℕ → List A) → ℕ → A → Type 0
Move {A} f old new h v = (s : ℕ) (w : A) → Has w (new s) → (Has w (old s) × (s ≡ h → f w ≢ f v)) ⊎ ((s ≡ h) × (w ≡ v))

pub at_put : {A : Type 0} (old : ℕ → List A) (h : ℕ) (xs : List A) (s : ℕ) (w : A) → Has w (put old h xs s) →
    ((s ≡ h) × Has w xs) ⊎ ((s ≢ h) × Has w (old s))
at_put old h xs s w q = elim (eqb_tells s h) [ inl a ↦ inl (a.1, rw a.0 at q) | inr a ↦ inr (a.1, rw a.0 at q) ]

pub move_with : {A : Type 0} (f : A → ℕ) (old : ℕ → List A) (h i : ℕ) (v : A) → f v ≡ i →
    Move f old (put old h (with_id f i v (old h))) h v
move_with f old h i v e s w q =
    elim (at_put old h (with_id f i v (old h)) s w q) [
      | inl a ↦ elim (with_old f i v (old h) w a.1) [
        | inl b ↦ inl (subst (λ j. Has w (old j)) (sym a.0) b.0, λ r k. b.1 (k ∙ e))
        | inr b ↦ inr (a.0, b)
      ]
      | inr a ↦ inl (a.1, λ r. absurd (a.0 r))
    ]

pub move_more : {A : Type 0} (f : A → ℕ) (old : ℕ → List A) (h most : ℕ) (keep : A → Bool) (v : A) →
    ((w : A) → Has w (old h) → f w ≢ f v) → Move f old (put old h (one_more most keep (old h) v)) h v
move_more f old h most keep v ne s w q =
    elim (at_put old h (one_more most keep (old h) v) s w q) [
      | inl a ↦ elim (more_old most keep (old h) v w a.1) [
        | inl b ↦ inl (subst (λ j. Has w (old j)) (sym a.0) b, λ r. ne w b)
        | inr b ↦ inr (a.0, b)
      ]
      | inr a ↦ inl (a.1, λ r. absurd (a.0 r))
    ]

-- fewer records
abbrev pub Fewer : {A : Type 0} → (ℕ → List A) → (ℕ → List A) → Type 0
Fewer {A} old new = (s : ℕ) (w : A) → Has w (new s) → Has w (old s)

pub none_left : {A : Type 0} (old : ℕ → List A) (h : ℕ) → Fewer old (put old h [])
none_left old h s w q = elim (at_put old h [] s w q) [ inl a ↦ absurd a.1 | inr a ↦ a.1 ]

pub fewer_active : (old new : ℕ → List In) → Fewer old new → (r : ℕ) (t : Taking) → Active (new r) t → Active (old r) t
fewer_active old new f r t (inl a) = inl (f r (Fetching t) a)
fewer_active old new f r t (inr a) = inr (f r (Draining t) a)

-- the outgoing record v of task h

pub record OpenOk (K : Lets) (o : Offered) (outs : List Out) (block : ℕ → Option (List ℕ)) (next h : ℕ)
    (y : Sending) : Type 0 where
  pub letter : (l : Letter) → K l → LetterOut l h y
  pub source : Source o y block next
  pub lasts : (x : Sending) → Has (Open x) outs → x.id ≢ y.id → x.last ≢ y.last

abbrev pub OutOk : Lets → Offered → (ℕ → List Out) → (ℕ → ℕ → Option (List ℕ)) → ℕ → ℕ → Out → Type 0
OutOk K o sending block next h (Open y) = OpenOk K o (sending h) (block h) next h y
OutOk K o sending block next h (Out_done i n) = Counted o i n
OutOk K o sending block next h (Out_failed i n) = Unit {0}

pub outs_move : {K : Lets} {o : Offered} {sending : ℕ → List Out} {block : ℕ → ℕ → Option (List ℕ)} {next : ℕ}
    (new : ℕ → List Out) (h : ℕ) (v : Out) →
    Move out_id sending new h v → OutOk K o sending block next h v → Outs K o sending block next →
    Outs K o new block next
outs_move {K} {o} {sending} {block} {next} new h v m ok i =
    let at = λ (s : ℕ) (w : Out) (p : s ≡ h) (q : w ≡ v). subst (λ z. OutOk K o sending block next s z) (sym q)
    (subst (λ j. OutOk K o sending block next j v) (sym p) ok) in
    record {
      letter = λ l k s x q. elim (m s (Open x) q) [
        | inl a ↦ i.letter l k s x a.0
        | inr a ↦ (at s (Open x) a.0
            a.1).letter l k
      ];
      source = λ s x q. elim (m s (Open x) q) [ inl a ↦ i.source s x a.0 | inr a ↦ (at s (Open x) a.0 a.1).source ];
      counted = λ s j n q. elim (m s (Out_done j n) q) [
        | inl a ↦ i.counted s j n a.0
        | inr a ↦ at s (Out_done j n) a.0
            a.1
      ];
      lasts = λ s x y q r e. elim (m s (Open x) q) [
        | inl a ↦ elim (m s (Open y) r) [
          | inl b ↦ i.lasts s x y a.0 b.0 e
          | inr b ↦ absurd ((at s (Open y) b.0 b.1).lasts x a.0 (λ z. a.1 b.0 (z ∙ ap out_id b.1)) e)
        ]
        | inr a ↦ elim (m s (Open y) r) [
          | inl b ↦ absurd ((at s (Open x) a.0 a.1).lasts y b.0 (λ z. b.1 a.0 (z ∙ ap out_id a.1)) (sym e))
          | inr b ↦ ap out_id (a.1 ∙ sym b.1)
        ]
      ];
    }

pub outs_less : {K : Lets} {o : Offered} {sending : ℕ → List Out} {block : ℕ → ℕ → Option (List ℕ)} {next : ℕ}
    (new : ℕ → List Out) (bl : ℕ → ℕ → Option (List ℕ)) →
    Fewer sending new → ((s : ℕ) (x : Sending) → Has (Open x) (new s) → bl s x.anchor ≡ block s x.anchor) →
    Outs K o sending block next → Outs K o new bl next
outs_less new bl f same i = record {
  letter = λ l k s x q. i.letter l k s x (f s (Open x) q);
  source = λ s x q. let w = i.source s x (f s (Open x) q) in record {
    all = w.all;
    offered = w.offered;
    there = same s x q ∙ w.there;
    fits = w.fits;
    unread = w.unread;
    below = w.below;
  };
  counted = λ s j n q. i.counted s j n (f s (Out_done j n) q);
  lasts = λ s x y q r. i.lasts s x y (f s (Open x) q) (f s (Open y) r);
}

-- the incoming record v of task h

pub record ActiveOk (K : Lets) (ins : List In) (heap : ℕ → Option (List ℕ)) (buf next h : ℕ) (t : Taking) : Type 0 where
  pub letter : (l : Letter) → K l → LetterIn l h t
  pub buffer : HasBuffer t heap buf next
  pub buffers : (u : Taking) → Active ins u → u.id ≢ t.id → u.buffer ≢ t.buffer

pub record FetchOk (K : Lets) (o : Offered) (ins : List In) (heap : ℕ → Option (List ℕ)) (buf next h : ℕ)
    (t : Taking) : Type 0 where
  pub active : ActiveOk K ins heap buf next h t
  pub carries : (l : Letter) → K l → LetterCarries o l t heap buf

abbrev pub HoldOk : Lets → Offered → (ℕ → List In) → (ℕ → ℕ → Option (List ℕ)) → (ℕ → ℕ) → ℕ → ℕ → In → Type 0
HoldOk K o taking heap buf next h (Fetching t) = FetchOk K o (taking h) (heap h) (buf h) next h t
HoldOk K o taking heap buf next h (Draining t) = ActiveOk K (taking h) (heap h) (buf h) next h t
HoldOk K o taking heap buf next h _ = Unit {0}

pub record InOk (K : Lets) (o : Offered) (e : ℕ → ℕ → Bool) (taking : ℕ → List In) (block heap : ℕ → ℕ →
    Option (List ℕ)) (buf : ℕ → ℕ) (next h : ℕ) (v : In) : Type 0 where
  pub holds : HoldOk K o taking heap buf next h v
  pub good : Untouched (e h) v → IsGood o v (block h (in_anchor v))
  pub counted : Counts o v
  pub beside : (u : In) → Has u (taking h) → is_growing u ≡ true → in_id u ≢ in_id v → Untouched (e h) v →
      in_anchor v ≢ in_anchor u
  pub documents : is_growing v ≡ true → (w : In) → Has w (taking h) → Untouched (e h) w → in_id w ≢ in_id v →
      in_anchor w ≢ in_anchor v

-- a record that holds a buffer after a move
pub move_active : (taking new : ℕ → List In) (h : ℕ) (v : In) → Move in_id taking new h v → (r : ℕ) (t : Taking) →
    Active (new r) t →
    (Active (taking r) t × (r ≡ h → t.id ≢ in_id v)) ⊎ ((r ≡ h) × ((Fetching t ≡ v) ⊎ (Draining t ≡ v)))
move_active taking new h v m r t (inl q) = elim (m r (Fetching t) q) [
  | inl a ↦ inl (inl a.0, a.1)
  | inr a ↦ inr (
    a.0,
    inl a.1,
  )
]
move_active taking new h v m r t (inr q) = elim (m r (Draining t) q) [
  | inl a ↦ inl (inr a.0, a.1)
  | inr a ↦ inr (
    a.0,
    inr a.1,
  )
]

pub ins_move : {K : Lets} {o : Offered} {e : ℕ → ℕ → Bool} {taking : ℕ → List In} {block heap : ℕ → ℕ →
    Option (List ℕ)} {buf : ℕ → ℕ} {next : ℕ} (new : ℕ → List In) (bl : ℕ → ℕ → Option (List ℕ)) (h : ℕ) (v : In) →
    Move in_id taking new h v →
    ((r : ℕ) (w : In) → Has w (taking r) → (r ≡ h → in_id w ≢ in_id v) → Untouched (e r) w → bl r (in_anchor w) ≡
    block r (in_anchor w)) →
    InOk K o e taking bl heap buf next h v → Ins K o e taking block heap buf next → Ins K o e new bl heap buf next
ins_move {K} {o} {e} {taking} {block} {heap} {buf} {next} new bl h v m same ok i =
    let at = λ (r : ℕ) (w : In) (p : r ≡ h) (q : w ≡ v). subst (λ z. InOk K o e taking bl heap buf next r z) (sym q)
    (subst (λ j. InOk K o e taking bl heap buf next j v) (sym p) ok) in
    let here = λ (r : ℕ) (t : Taking) (p : r ≡ h) (q : (Fetching t ≡ v) ⊎ (Draining t ≡ v)). elim q as (λ _.
    ActiveOk K (taking r) (heap r) (buf r) next r t) [
      | inl a ↦ (at r (Fetching t) p a).holds.active
      | inr a ↦ (at r (Draining t) p a).holds
    ] in
    let id_of = λ (t : Taking) (q : (Fetching t ≡ v) ⊎ (Draining t ≡ v)). elim q as (λ _. t.id ≡ in_id v)
    [ inl a ↦ ap in_id a | inr a ↦ ap in_id a ] in
    record {
      letter = λ l k r t q. elim (move_active taking new h v m r t q) [
        | inl a ↦ i.letter l k r t a.0
        | inr a ↦ (here r t a.0 a.1).letter l k
      ];
      carries = λ l k r t q. elim (m r (Fetching t) q) [
        | inl a ↦ i.carries l k r t a.0
        | inr a ↦ (at r (Fetching t)
            a.0 a.1).holds.carries l k
      ];
      good = λ r w q u. elim (m r w q) [
        | inl a ↦ subst (λ z. IsGood o w z) (sym (same r w a.0 a.1 u)) (i.good r w a.0 u)
        | inr a ↦ (at r w a.0 a.1).good u
      ];
      counted = λ r w q. elim (m r w q) [ inl a ↦ i.counted r w a.0 | inr a ↦ (at r w a.0 a.1).counted ];
      buffer = λ r t q. elim (move_active taking new h v m r t q) [
        | inl a ↦ i.buffer r t a.0
        | inr a ↦ (here r t a.0
            a.1).buffer
      ];
      buffers = λ r t u q p z. elim (move_active taking new h v m r t q) [
        | inl a ↦ elim (move_active taking new h v m r u p) [
          | inl b ↦ i.buffers r t u a.0 b.0 z
          | inr b ↦ absurd ((here r u b.0 b.1).buffers t a.0 (λ y. a.1 b.0 (y ∙ id_of u b.1)) z)
        ]
        | inr a ↦ elim (move_active taking new h v m r u p) [
          | inl b ↦ absurd ((here r t a.0 a.1).buffers u b.0 (λ y. b.1 a.0 (y ∙ id_of t a.1)) (sym z))
          | inr b ↦ id_of t a.1 ∙ sym (id_of u b.1)
        ]
      ];
      documents = λ r t w q y p u z. elim (m r t q) [
        | inl a ↦ elim (m r w p) [
          | inl b ↦ i.documents r t w a.0 y b.0 u z
          | inr b ↦ absurd ((at r w b.0 b.1).beside t a.0 y (λ j. a.1 b.0 (j ∙ ap in_id b.1)) u z)
        ]
        | inr a ↦ elim (m r w p) [
          | inl b ↦ absurd ((at r t a.0 a.1).documents y w b.0 u (λ j. b.1 a.0 (j ∙ ap in_id a.1)) z)
          | inr b ↦ ap in_id (b.1 ∙ sym a.1)
        ]
      ];
      room = i.room;
    }

-- fewer records, other edits, other blocks, and other heaps where no buffer lies
pub record Kept (e e' : ℕ → ℕ → Bool) (new : ℕ → List In) (block heap bl hp : ℕ → ℕ → Option (List ℕ)) : Type 0 where
  pub before : (r : ℕ) (w : In) → Has w (new r) → Untouched (e' r) w → Untouched (e r) w
  pub blocks : (r : ℕ) (w : In) → Has w (new r) → Untouched (e' r) w → bl r (in_anchor w) ≡ block r (in_anchor w)
  pub heaps : (r : ℕ) (t : Taking) → Active (new r) t → hp r t.buffer ≡ heap r t.buffer

pub ins_less : {K : Lets} {o : Offered} {e : ℕ → ℕ → Bool} {taking : ℕ → List In} {block heap : ℕ → ℕ →
    Option (List ℕ)} {buf : ℕ → ℕ} {next : ℕ} (e' : ℕ → ℕ → Bool) (new : ℕ → List In) (bl hp : ℕ → ℕ →
    Option (List ℕ)) →
    Fewer taking new → Kept e e' new block heap bl hp → Ins K o e taking block heap buf next →
    Ins K o e' new bl hp buf next
ins_less {K} {o} {e} {taking} {block} {heap} {buf} {next} e' new bl hp f c i =
    let act = λ (r : ℕ) (t : Taking) (q : Active (new r) t). fewer_active taking new f r t q in
    record {
      letter = λ l k r t q. i.letter l k r t (act r t q);
      carries = λ l k r t q. record {
        carries = λ a b g. let z = (i.carries l k r t (f r (Fetching t) q)).carries a b
            g in record {
              all = z.all;
              bytes = z.bytes;
              offered = z.offered;
              there = c.heaps r t (inl q) ∙ z.there;
              same = z.same;
              fits = z.fits;
              short = z.short;
            };
      };
      good = λ r w q u. subst (λ z. IsGood o w z) (sym (c.blocks r w q u)) (i.good r w (f r w q) (c.before r w q u));
      counted = λ r w q. i.counted r w (f r w q);
      buffer = λ r t q. let w = i.buffer r t (act r t q) in record {
        bytes = w.bytes;
        there = c.heaps r t q ∙ w.there;
        size = w.size;
        below = w.below;
      };
      buffers = λ r t u q p. i.buffers r t u (act r t q) (act r u p);
      documents = λ r t w q y p u. i.documents r t w (f r t q) y (f r w p) (c.before r w p u);
      room = i.room;
    }

-- ---- both ends

pub record BothOpenOk (K : Lets) (taking : ℕ → List In) (h : ℕ) (y : Sending) : Type 0 where
  pub older : (l : Letter) → K l → (r : ℕ) (t : Taking) → Active (taking r) t → LetterOlder l h y t
  pub ahead : (l : Letter) → K l → (r : ℕ) (t : Taking) → Has (Fetching t) (taking r) → LetterAhead l h y t
  pub apart : (v : In) → Has v (taking h) → is_growing v ≡ true → y.anchor ≢ in_anchor v

abbrev pub BothOutOk : Lets → (ℕ → List In) → ℕ → Out → Type 0
BothOutOk K taking h (Open y) = BothOpenOk K taking h y
BothOutOk K taking h (Out_done i n) = Unit {0}
BothOutOk K taking h (Out_failed i n) = Unit {0}

pub boths_out : {K : Lets} {sending : ℕ → List Out} {taking : ℕ → List In} (new : ℕ → List Out) (h : ℕ) (v : Out) →
    Move out_id sending new h v → BothOutOk K taking h v → Boths K sending taking → Boths K new taking
boths_out {K} {sending} {taking} new h v m ok i =
    let at = λ (s : ℕ) (w : Out) (p : s ≡ h) (q : w ≡ v). subst (λ z. BothOutOk K taking s z) (sym q)
    (subst (λ j. BothOutOk K taking j v) (sym p) ok) in
    record {
      older = λ l k s x q r t u. elim (m s (Open x) q) [
        | inl a ↦ i.older l k s x a.0 r t u
        | inr a ↦ (at s (Open x)
            a.0 a.1).older l k r t u
      ];
      ahead = λ l k s x q r t u. elim (m s (Open x) q) [
        | inl a ↦ i.ahead l k s x a.0 r t u
        | inr a ↦ (at s (Open x)
            a.0 a.1).ahead l k r t u
      ];
      apart = λ s x t q u y. elim (m s (Open x) q) [
        | inl a ↦ i.apart s x t a.0 u y
        | inr a ↦ (at s (Open x) a.0
            a.1).apart t u y
      ];
    }

pub record BothActiveOk (K : Lets) (sending : ℕ → List Out) (t : Taking) : Type 0 where
  pub older : (l : Letter) → K l → (s : ℕ) (x : Sending) → Has (Open x) (sending s) → LetterOlder l s x t

pub record BothFetchOk (K : Lets) (sending : ℕ → List Out) (h : ℕ) (t : Taking) : Type 0 where
  pub active : BothActiveOk K sending t
  pub ahead : (l : Letter) → K l → (s : ℕ) (x : Sending) → Has (Open x) (sending s) → LetterAhead l s x t

abbrev pub BothInOk : Lets → (ℕ → List Out) → ℕ → In → Type 0
BothInOk K sending h (Fetching t) = BothFetchOk K sending h t
BothInOk K sending h (Draining t) = BothActiveOk K sending t
BothInOk K sending h _ = Unit {0}

pub boths_in : {K : Lets} {sending : ℕ → List Out} {taking : ℕ → List In} (new : ℕ → List In) (h : ℕ) (v : In) →
    Move in_id taking new h v → BothInOk K sending h v →
    (is_growing v ≡ true → (x : Sending) → Has (Open x) (sending h) → x.anchor ≢ in_anchor v) →
    Boths K sending taking → Boths K sending new
boths_in {K} {sending} {taking} new h v m ok apart i =
    let at = λ (s : ℕ) (w : In) (p : s ≡ h) (q : w ≡ v). subst (λ z. BothInOk K sending s z) (sym q)
    (subst (λ j. BothInOk K sending j v) (sym p) ok) in
    let here = λ (r : ℕ) (t : Taking) (p : r ≡ h) (q : (Fetching t ≡ v) ⊎ (Draining t ≡ v)). elim q as (λ _.
    BothActiveOk K sending t) [ inl a ↦ (at r (Fetching t) p a).active | inr a ↦ at r (Draining t) p a ] in
    record {
      older = λ l k s x q r t u. elim (move_active taking new h v m r t u) [
        | inl a ↦ i.older l k s x q r t a.0
        | inr
            a ↦ (here r t a.0 a.1).older l k s x q
      ];
      ahead = λ l k s x q r t u. elim (m r (Fetching t) u) [
        | inl a ↦ i.ahead l k s x q r t a.0
        | inr a ↦ (at r (Fetching t) a.0 a.1).ahead l k s x q
      ];
      apart = λ s x t q u y. elim (m s t u) [
        | inl a ↦ i.apart s x t q a.0 y
        | inr a ↦ λ z. apart (subst (λ j. is_growing j ≡ true) a.1 y) x (subst (λ j. Has (Open x) (sending j)) a.0 q)
            (z ∙ ap in_anchor a.1)
      ];
    }

pub boths_less : {K : Lets} {sending : ℕ → List Out} {taking : ℕ → List In} (new : ℕ → List Out) (ins : ℕ → List In) →
    Fewer sending new → Fewer taking ins → Boths K sending taking → Boths K new ins
boths_less {K} {sending} {taking} new ins f g i = record {
  older = λ l k s x q r t u. i.older l k s x (f s (Open x) q) r t (fewer_active taking ins g r t u);
  ahead = λ l k s x q r t u. i.ahead l k s x (f s (Open x) q) r t (g r (Fetching t) u);
  apart = λ s x t q u. i.apart s x t (f s (Open x) q) (g s t u);
}

-- ---- the scrap file

pub loads_more : {K L : Lets} {o : Offered} {taking : ℕ → List In} {scrap : Option Scrap} {next : ℕ} (n : Letter) →
    ((l : Letter) → L l → K l ⊎ (l ≡ n)) →
    ((r : ℕ) (q : Asked) → Has (Asking q) (taking r) → LetterAck n q) → ((r : ℕ) (q : Asked) → Has (Asking q)
    (taking r) → LetterFile o scrap n q) → Loads K o taking scrap next → Loads L o taking scrap next
loads_more {K} {L} {o} {taking} {scrap} n f new1 new2 i = record {
  ack = λ l k r q u. elim (f l k) [ inl a ↦ i.ack l a r q u | inr a ↦ subst (λ z. LetterAck z q) (sym a) (new1 r q u) ];
  file = λ l k r q u. elim (f l k) [
    | inl a ↦ i.file l a r q u
    | inr a ↦ subst (λ z. LetterFile o scrap z q) (sym a) (new2 r q u)
  ];
  ack_below = i.ack_below;
  load_below = i.load_below;
}

pub loads_fewer : {K L : Lets} {o : Offered} {taking : ℕ → List In} {scrap : Option Scrap} {next : ℕ} →
    ((l : Letter) → L l → K l) → Loads K o taking scrap next → Loads L o taking scrap next
loads_fewer f i = record {
  ack = λ l k. i.ack l (f l k);
  file = λ l k. i.file l (f l k);
  ack_below = i.ack_below;
  load_below = i.load_below;
}

pub loads_bump : {K : Lets} {o : Offered} {taking : ℕ → List In} {scrap : Option Scrap} {a b : ℕ} → a ≤ b →
    Loads K o taking scrap a → Loads K o taking scrap b
loads_bump le i = record {
  ack = i.ack;
  file = i.file;
  ack_below = λ r q u. let w = i.ack_below r q u in omega arith;
  load_below = λ f s. let w = i.load_below f s in omega arith;
}

-- a letter with a new ref that is no DataSaveAck
pub loads_other : {K L : Lets} {o : Offered} {taking : ℕ → List In} {scrap : Option Scrap} {next : ℕ} (n : Letter) →
    ((l : Letter) → L l → K l ⊎ (l ≡ n)) → n.me ≡ next → Loads K o taking scrap next →
    Loads L o taking scrap (next + 1)
loads_other n f fresh i =
    loads_bump (omega arith) (loads_more n f
    (λ r q u. let w = i.ack_below r q u in record { names = λ k b. absurd (omega arith) })
    (λ r q u. record { whole = λ s b k c. absurd (let w = i.load_below s b in omega arith) }) i)

pub loads_grow : {K : Lets} {o p : Offered} {taking : ℕ → List In} {scrap : Option Scrap} {next : ℕ} → Grows o p →
    Loads K o taking scrap next → Loads K p taking scrap next
loads_grow g i = record {
  ack = i.ack;
  file = λ l k r q u. record {
    whole = λ f s a b c.
        g _ _ ((i.file l k r q u).whole f s a b c);
  };
  ack_below = i.ack_below;
  load_below = i.load_below;
}

pub loads_less : {K : Lets} {o : Offered} {taking : ℕ → List In} {scrap : Option Scrap} {next : ℕ} (new : ℕ → List In) →
    Fewer taking new → Loads K o taking scrap next → Loads K o new scrap next
loads_less new f i = record {
  ack = λ l k r q u. i.ack l k r q (f r (Asking q) u);
  file = λ l k r q u. i.file l k r q
      (f r (Asking q) u);
  ack_below = λ r q u. i.ack_below r q (f r (Asking q) u);
  load_below = i.load_below;
}

pub loads_lost : {K : Lets} {o : Offered} {taking : ℕ → List In} {scrap : Option Scrap} {next : ℕ} →
    Loads K o taking scrap next → Loads K o taking None next
loads_lost i = record {
  ack = i.ack;
  file = λ l k r q u. record { whole = λ f s. absurd (none_some None refl s) };
  ack_below = i.ack_below;
  load_below = λ f s. absurd (none_some None refl s);
}

pub record AskOk (K : Lets) (next : ℕ) (q : Asked) : Type 0 where
  pub fresh : q.ack ≡ next
  pub me : (l : Letter) → K l → l.me < next
  pub answers : (l : Letter) → K l → l.answers < next

abbrev pub LoadOk : Lets → ℕ → In → Type 0
LoadOk K next (Fetching t) = Unit {0}
LoadOk K next (Draining t) = Unit {0}
LoadOk K next (Asking q) = AskOk K next q
LoadOk K next (In_done i a n) = Unit {0}
LoadOk K next (In_failed i a n) = Unit {0}

pub loads_in : {K : Lets} {o : Offered} {taking : ℕ → List In} {scrap : Option Scrap} {next : ℕ} (new : ℕ → List In)
    (h : ℕ) (v : In) →
    Move in_id taking new h v → LoadOk K next v → Loads K o taking scrap next → Loads K o new scrap (next + 1)
loads_in {K} {o} {taking} {scrap} {next} new h v m ok i =
    let at = λ (q : Asked) (e : Asking q ≡ v). let z : AskOk K next q = subst (λ w. LoadOk K next w) (sym e) ok in z in
    record {
      ack = λ l k r q u. elim (m r (Asking q) u) [
        | inl a ↦ i.ack l k r q a.0
        | inr a ↦ let w = at q a.1 in let b =
            w.me l k in let f = w.fresh in record { names = λ c g. absurd (omega arith) }
      ];
      file = λ l k r q u. elim (m r (Asking q) u) [
        | inl a ↦ i.file l k r q a.0
        | inr a ↦ let w = at q a.1 in let b =
            w.answers l k in let f = w.fresh in record { whole = λ s c g j y. absurd (omega arith) }
      ];
      ack_below = λ r q u. elim (m r (Asking q) u) [
        | inl a ↦ let w = i.ack_below r q a.0 in omega arith
        | inr a ↦ let
            w = at q a.1 in let f = w.fresh in omega arith
      ];
      load_below = λ f s. let w = i.load_below f s in omega arith;
    }

-- a record that asks for nothing
pub loads_end : {K : Lets} {o : Offered} {taking : ℕ → List In} {scrap : Option Scrap} {next : ℕ} (new : ℕ → List In)
    (h : ℕ) (v : In) →
    Move in_id taking new h v → ((q : Asked) → Asking q ≡ v → ⊥) → Loads K o taking scrap next →
    Loads K o new scrap next
loads_end {K} {o} {taking} new h v m none i =
    let old : (r : ℕ) (q : Asked) → Has (Asking q) (new r) → Has (Asking q) (taking r) = λ r q u.
    elim (m r (Asking q) u) [ inl a ↦ a.0 | inr a ↦ absurd (none q a.1) ] in
    record {
      ack = λ l k r q u. i.ack l k r q (old r q u);
      file = λ l k r q u. i.file l k r q (old r q u);
      ack_below = λ r q u. i.ack_below r q (old r q u);
      load_below = i.load_below;
    }
