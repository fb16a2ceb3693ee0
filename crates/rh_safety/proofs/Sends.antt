-- Sends keep the invariant.
use Rattle.rh_safety.proofs.Common.{◌≡◌, ◌≢◌, ℕ, ◌+◌, ◌≤◌, ◌<◌, Bool, true, List, [], ◌∷◌, ◌++◌, length, Option, Some, None, refl, sym, ap, ◌∙◌, subst, ◌⊎◌}
use Rattle.rh_safety.proofs.Common.{inl, inr, arith, eqb_tells, Recorded, DataSave, RamFetch, RamTransmit, Letter, Message, Sending, Taking, Out, Open}
use Rattle.rh_safety.proofs.Common.{Out_done, Out_failed, In, Fetching, Draining, Asking, In_done, In_failed, is_growing, out_id, in_id, in_anchor, Has}
use Rattle.rh_safety.proofs.Common.{Active, put, with_id, sent, still_held, put_all, put_same, put_other, none_some, Ascend, one_of_id, Offered, queued, kept}
use Rattle.rh_safety.proofs.Common.{latest, Knows, LetterIn, known_by, Counted, Begins, Untouched, HasBuffer, Order, Unread, Inv, IsWaiting, PendingAt}
use Rattle.rh_safety.proofs.Sight.{owned, Desk}
use Rattle.rh_safety.proofs.Basics.{length_with, Has-append, pair_append}
use Rattle.rh_safety.proofs.Invariant.{Offers, Carries, Source, at_most, Waits, Asks}
use Rattle.rh_safety.proofs.Moves.{letters_more, outs_more, ins_more, boths_more, letters_bump, outs_bump, ins_bump, Move, OutOk, outs_move, outs_less}
use Rattle.rh_safety.proofs.Moves.{ins_move, move_active, BothOutOk, boths_out, boths_in, loads_other, loads_end}
use Rattle.rh_safety.proofs.Filings.{NotTheLoad, filed_in, filed_sent}

-- ---- what is known after a send

pub still_some : (o : Option Message) (a : ℕ) (y : Message) → still_held o a ≡ Some y → o ≡ Some y
still_some None a y is = is
still_some (Some m) a y is = elim (eqb_tells m.letter.me a) [
  | inl w ↦ absurd (none_some None refl (rw w.0 at is))
  | inr w ↦ rw w.0 at is
]

-- what is held after a send was held before it
pub still_is : (d : Desk) (h a k : ℕ) (y : Message) → put d.held h (still_held (d.held h) a) k ≡ Some y →
    d.held k ≡ Some y
still_is d h a k y = put_all (λ j z. z ≡ Some y → d.held j ≡ Some y) d.held h (still_held (d.held h) a)
    (still_some (d.held h) a y) (λ j ne q. q) k

pub sent_knows : (d : Desk) (h : ℕ) (m : Message) → m.letter.from ≡ h → (l : Letter) → Knows (sent d h m) l →
    Knows d l ⊎ (l ≡ m.letter)
sent_knows d h m own l (queued y has eq) =
    elim (Has-append y d.queue (m ∷ []) has) [
      | inl a ↦ inl (queued y a eq)
      | inr b ↦ elim b [ inl c ↦ inr (sym eq ∙ ap (λ (z : Message). z.letter) (sym c)) | inr c ↦ absurd c ]
    ]
sent_knows d h m own l (kept k y is eq) = inl (kept k y (still_is d h m.letter.answers k y is) eq)
sent_knows d h m own l (latest k y is eq) =
    elim (eqb_tells k h) [
      | inl a ↦ let z : Some m ≡ Some y = sym (put_same d.last h (Some m)) ∙ subst (λ j. put d.last h (Some m) j ≡
          Some y) a.1 is in
          let u : y ≡ m = cc in
          inr (sym eq ∙ ap (λ (x : Message). (owned k x).letter) u ∙ ap (λ (j : ℕ). (owned j m).letter) (a.1 ∙ sym own))
      | inr a ↦ inl (latest k y (sym (put_other d.last h (Some m) k a.1) ∙ is) eq)
    ]

-- ---- the order of refs and ids

pub put_ascends : {A : Type 0} (f : A → ℕ) (old : ℕ → List A) (h : ℕ) (xs : List A) → ((s : ℕ) → Ascend f (old s)) →
    Ascend f xs → (s : ℕ) → Ascend f (put old h xs s)
put_ascends f old h xs p here s = put_all (λ j z. Ascend f z) old h xs here (λ j ne. p j) s

pub order_out : {q : List Message} {sending : ℕ → List Out} {taking : ℕ → List In} {next : ℕ} (new : ℕ → List Out)
    (h : ℕ) (v : Out) →
    Move out_id sending new h v → ((s : ℕ) → Ascend out_id (new s)) → out_id v < next → Order q sending taking next →
    Order q new taking next
order_out new h v m up lt i = record {
  rises = i.rises;
  above = i.above;
  outs = up;
  ins = i.ins;
  out_below = λ s w q. elim (m s w q) [ inl a ↦ i.out_below s w a.0 | inr a ↦ let z = ap out_id a.1 in omega arith ];
  in_below = i.in_below;
}

pub order_in : {q : List Message} {sending : ℕ → List Out} {taking : ℕ → List In} {next : ℕ} (new : ℕ → List In)
    (h : ℕ) (v : In) →
    Move in_id taking new h v → ((s : ℕ) → Ascend in_id (new s)) → in_id v < next →
    ((m : Message) → Has m q → Unread m → m.to ≡ h → in_id v < m.letter.me) → Order q sending taking next →
    Order q sending new next
order_in new h v m up lt above i = record {
  rises = i.rises;
  above = λ r w y p has un to. elim (m r w p) [
    | inl a ↦ i.above r w y a.0 has un to
    | inr a ↦ let z = ap in_id a.1 in
        let u = above y has un (to ∙ a.0) in omega arith
  ];
  outs = i.outs;
  ins = up;
  out_below = i.out_below;
  in_below = λ r w q. elim (m r w q) [ inl a ↦ i.in_below r w a.0 | inr a ↦ let z = ap in_id a.1 in omega arith ];
}

pub order_send : {q : List Message} {sending : ℕ → List Out} {taking : ℕ → List In} {next : ℕ} (m : Message) →
    m.letter.me ≡ next → ((y : Message) → Has y q → y.letter.me < next) → Order q sending taking next →
    Order (q ++ m ∷ []) sending taking (next + 1)
order_send {q} m fresh old i = record {
  rises = pair_append (λ a b. Unread a → Unread b → a.letter.me < b.letter.me) q (m ∷ []) i.rises (λ y h. absurd h, tt)
      (λ x y h k u v. elim k [
        | inl e ↦ let z = old x h in let w = ap (λ (j : Message). j.letter.me) e in omega arith
        | inr e ↦ absurd e
      ]);
  above = λ r w y p has un to. elim (Has-append y q (m ∷ []) has) [
    | inl a ↦ i.above r w y p a un to
    | inr a ↦ elim a [
      | inl e ↦ let z = i.in_below r w p in let w = ap (λ (j : Message). j.letter.me) e in omega arith
      | inr e ↦ absurd e
    ]
  ];
  outs = i.outs;
  ins = i.ins;
  out_below = λ s v q. let z = i.out_below s v q in omega arith;
  in_below = λ r w q. let z = i.in_below r w q in omega arith;
}

-- one record of an id
pub one_active : (ws : List In) (t u : Taking) → Ascend in_id ws → Active ws t → Active ws u → t.id ≡ u.id → t ≡ u
one_active ws t u up (inl a) (inl b) e = let z : Fetching t ≡ Fetching u = one_of_id in_id ws (Fetching t)
    (Fetching u) up a b e in cc
one_active ws t u up (inl a) (inr b) e = let z : Fetching t ≡ Draining u = one_of_id in_id ws (Fetching t)
    (Draining u) up a b e in cc
one_active ws t u up (inr a) (inl b) e = let z : Draining t ≡ Fetching u = one_of_id in_id ws (Draining t)
    (Fetching u) up a b e in cc
one_active ws t u up (inr a) (inr b) e = let z : Draining t ≡ Draining u = one_of_id in_id ws (Draining t)
    (Draining u) up a b e in cc

-- ---- how long the lists are

few_at : {A : Type 0} {most : ℕ} (old new : ℕ → List A) (h : ℕ) → ((s : ℕ) → s ≢ h → new s ≡ old s) →
    length (new h) ≤ most → ((s : ℕ) → length (old s) ≤ most) → (s : ℕ) → length (new s) ≤ most
few_at {A} {most} old new h same here i s = elim (eqb_tells s h) [
  | inl a ↦ subst (λ j. length (new j) ≤ most) (sym a.1) here
  | inr a ↦ subst (λ z. length z ≤ most) (sym (same s a.1)) (i s)
]

pub few_here : {A : Type 0} {most : ℕ} (old : ℕ → List A) (h : ℕ) (xs : List A) → length xs ≤ most →
    length (put old h xs h) ≤ most
few_here {A} {most} old h xs le = subst (λ z. length z ≤ most) (sym (put_same old h xs)) le

pub few_put : {A : Type 0} {most : ℕ} (old : ℕ → List A) (h : ℕ) (xs : List A) → length xs ≤ most →
    ((s : ℕ) → length (old s) ≤ most) → (s : ℕ) → length (put old h xs s) ≤ most
few_put old h xs le i = few_at old (put old h xs) h (put_other old h xs) (few_here old h xs le) i

pub few_with : {A : Type 0} {most : ℕ} (f : A → ℕ) (xs : List A) (i : ℕ) (v : A) → length xs ≤ most →
    length (with_id f i v xs) ≤ most
few_with f xs i v le = let z = length_with f i v xs in omega arith

-- ---- what is waited for

-- a message with another ref leaves what is waited for
pub waits_sent : (d : Desk) (h : ℕ) (m : Message) (s : ℕ) (l : Letter) (x : Sending) (ws : List In) (buf : ℕ) →
    ((t : Taking) → Active ws t → m.letter.me ≢ t.fetch) → Waits d.queue d.held s l x ws buf →
    Waits (sent d h m).queue (sent d h m).held s l x ws buf
waits_sent d h m s l x ws buf other a = record {
  taking = a.taking;
  is_active = a.is_active;
  same_id = a.same_id;
  sender = a.sender;
  names = a.names;
  amount = a.amount;
  newer = a.newer;
  level = a.level;
  unread = λ y has q. elim (Has-append y d.queue (m ∷ []) has) [
    | inl b ↦ a.unread y b q
    | inr b ↦ elim b [
      | inl c ↦ absurd (other a.taking a.is_active (ap (λ (z : Message). z.letter.me) c ∙ q))
      | inr c ↦ absurd c
    ]
  ];
  free = λ k y is. a.free k y (still_is d h m.letter.answers k y is);
}

-- the records that hold buffers stay, but for that of id i of task h
abbrev pub KeepsActive : (ℕ → List In) → (ℕ → List In) → ℕ → ℕ → Type 0
KeepsActive old new h i = (r : ℕ) (t : Taking) → Active (old r) t → (r ≡ h → t.id ≢ i) → Active (new r) t

pub waits_kept : {q : List Message} {held : ℕ → Option Message} {s : ℕ} {l : Letter} {x : Sending} {buf : ℕ}
    (ws vs : List In) →
    ((t : Taking) → Active ws t → t.id ≡ x.id → Active vs t) → Waits q held s l x ws buf → Waits q held s l x vs buf
waits_kept ws vs f a = record {
  taking = a.taking;
  is_active = f a.taking a.is_active a.same_id;
  same_id = a.same_id;
  sender = a.sender;
  names = a.names;
  amount = a.amount;
  newer = a.newer;
  level = a.level;
  unread = a.unread;
  free = a.free;
}

-- no fetch of task h for id i is to be answered
abbrev pub Quiet : Desk → ℕ → ℕ → Type 0
Quiet d h i = (s : ℕ) (x : Sending) → Has (Open x) (d.sending s) → (l : Letter) →
    Asks (Knows d) d.live d.file s x l → l.from ≡ h → x.id ≢ i

abbrev pub Pending : Desk → Type 0
Pending d = (s : ℕ) (x : Sending) → Has (Open x) (d.sending s) → PendingAt d s x

-- ---- a letter of a sender, a DataSave or a transmit, and its record v

pub record NewOpen (o : Offered) (d : Desk) (h : ℕ) (n : Letter) (y : Sending) : Type 0 where
  pub last : y.last ≡ d.next_ref
  pub same_id : n.kind ≡ DataSave → y.id ≡ y.last
  pub id : (r : ℕ) (t : Taking) → n.kind ≡ RamTransmit → Has (Fetching t) (d.taking r) → n.answers ≡ t.fetch →
      y.id ≡ t.id
  pub level : (r : ℕ) (t : Taking) → n.kind ≡ RamTransmit → Has (Fetching t) (d.taking r) → n.answers ≡ t.fetch →
      y.count ≡ t.count + n.amount
  pub source : Source o y (d.block h) (d.next_ref + 1)
  pub apart : (v : In) → Has v (d.taking h) → is_growing v ≡ true → y.anchor ≢ in_anchor v

abbrev pub OutPart : Offered → Desk → ℕ → Letter → Out → Type 0
OutPart o d h n (Open y) = NewOpen o d h n y
OutPart o d h n (Out_done i k) = Counted o i k
OutPart o d h n (Out_failed i k) = Unit {0}

pub record NewOut (o : Offered) (d : Desk) (new : ℕ → List Out) (h : ℕ) (n : Letter) (v : Out) : Type 0 where
  pub move : Move out_id d.sending new h v
  pub ascends : Ascend out_id (new h)
  pub few : length (new h) ≤ d.most
  pub elsewhere : (s : ℕ) → s ≢ h → new s ≡ d.sending s
  pub born : out_id v < d.next_ref + 1
  pub fresh : n.me ≡ d.next_ref
  pub from : n.from ≡ h
  pub not_fetch : n.kind ≡ RamFetch → ⊥
  pub old : n.answers < d.next_ref
  pub apart_load : NotTheLoad d.scrap n.answers
  pub handle : h < d.next_handle
  pub offers : Offers o n
  pub carries : (r : ℕ) (t : Taking) → n.kind ≡ RamTransmit → Has (Fetching t) (d.taking r) → n.answers ≡ t.fetch →
      h ≡ t.sender → Carries o n t (d.heap r) (d.buf r)
  pub older : (x : Sending) → Has (Open x) (d.sending h) → x.id ≢ out_id v → (r : ℕ) (t : Taking) →
      Active (d.taking r) t → n.kind ≡ RamTransmit → n.answers ≡ t.fetch → x.id ≢ t.id
  pub part : OutPart o d h n v

out_ok : {o : Offered} {e : ℕ → ℕ → Bool} {d : Desk} (h : ℕ) (n : Letter) (v : Out) → OutPart o d h n v → Inv o e d →
    OutOk (Knows d) o d.sending d.block (d.next_ref + 1) h v
out_ok h n (Open y) p i = record {
  letter = λ l k. let b = i.letters.below l k in let z = p.last in record {
    owner = λ q. absurd (let u = b.me in omega arith);
    same_id = λ q r. absurd (let u = b.me in omega arith);
  };
  source = p.source;
  lasts = λ x q ne e. let w = i.outs.source h x q in let z = p.last in let u = w.below in omega arith;
}
out_ok h n (Out_done j k) p i = p
out_ok h n (Out_failed j k) p i = tt

both_ok : {o : Offered} {e : ℕ → ℕ → Bool} {d : Desk} (h : ℕ) (n : Letter) (v : Out) → OutPart o d h n v → Inv o e d →
    BothOutOk (Knows d) d.taking h v
both_ok h n (Open y) p i = record {
  older = λ l k r t q. let b = i.letters.below l k in let z = p.last in record {
    older = λ a c f g. let u =
        b.answers in omega arith;
  };
  ahead = λ l k r t q. let b = i.letters.below l k in let z = p.last in record {
    same_id = λ a c f g. absurd (let u =
        b.me in omega arith);
    ahead = λ a c f g. absurd (let u = b.me in omega arith);
  };
  apart = p.apart;
}
both_ok h n (Out_done j k) p i = tt
both_ok h n (Out_failed j k) p i = tt

pub queue_below : {o : Offered} {e : ℕ → ℕ → Bool} {d : Desk} → Inv o e d → (y : Message) → Has y d.queue →
    y.letter.me < d.next_ref
queue_below i y h = (i.letters.below y.letter (queued y h refl)).me

pub out_inv : {o : Offered} {e : ℕ → ℕ → Bool} {d : Desk} (new : ℕ → List Out) (h : ℕ) (v : Out) (m : Message) →
    NewOut o d new h m.letter v → Inv o e d → Inv o e (sent (record d { sending = new }) h m)
out_inv {o} {e} {d} new h v m n i =
    let d2 : Desk = record d { sending = new } in
    let nl = m.letter in
    let at = λ (y : Sending) (q : Open y ≡ v). let z : NewOpen o d h nl y = subst (λ u. OutPart o d h nl u) (sym q)
    n.part in z in
    let up : (s : ℕ) → Ascend out_id (new s) = λ s. elim (eqb_tells s h) [
      | inl a ↦ subst (λ j. Ascend out_id (new j))
          (sym a.1) n.ascends
      | inr a ↦ subst (λ z. Ascend out_id z) (sym (n.elsewhere s a.1)) (i.order.outs s)
    ] in
    record {
      letters = letters_more nl (sent_knows d2 h m n.from) (let f = n.fresh in let b = n.old in record {
        me = omega arith;
        answers = omega arith;
        from = rw n.from n.handle;
      }) n.offers (letters_bump (omega arith)
          (omega arith) i.letters);
      outs = outs_more nl (sent_knows d2 h m n.from)
          (λ s x q. elim (n.move s (Open x) q) [
            | inl a ↦ let w = i.outs.source s x a.0 in let f = n.fresh in record {
              owner = λ b. absurd (let u =
                  w.below in omega arith);
              same_id = λ b c. absurd (let u = w.below in omega arith);
            }
            | inr a ↦ record { owner = λ b. n.from ∙ sym a.0; same_id = λ b c. (at x a.1).same_id c }
          ])
          (outs_move new h v n.move (out_ok {e = e} h nl v n.part i) (outs_bump (omega arith) i.outs));
      ins = ins_more nl (sent_knows d2 h m n.from)
          (λ r t q. let w = i.ins.buffer r t q in let f = n.fresh in record {
            owner = λ b. absurd (let u = w.below in omega arith);
            names = λ b c. absurd (let u = w.below in omega arith);
          })
          (λ r t q. record { carries = λ a b c. n.carries r t a q b (sym n.from ∙ c) })
          (ins_bump (omega arith) i.ins);
      boths = boths_more nl (sent_knows d2 h m n.from)
          (λ s x q r t u. elim (n.move s (Open x) q) [
            | inl a ↦ record {
              older = λ b c f g. let here : s ≡ h = sym c ∙ n.from in
                  absurd (n.older x (subst (λ j. Has (Open x) (d.sending j)) here a.0) (a.1 here) r t u b f g);
            }
            | inr a ↦ record { older = λ b c f g. let z = (at x a.1).last in let y = n.old in omega arith }
          ])
          (λ s x q r t u. elim (n.move s (Open x) q) [
            | inl a ↦ let w = i.outs.source s x a.0 in let f = n.fresh in record {
              same_id = λ b c f g.
                  absurd (let u = w.below in omega arith);
              ahead = λ b c f g. absurd (let u = w.below in omega arith);
            }
            | inr a ↦ record {
              same_id = λ b c f g. (at x a.1).id r t b u f;
              ahead = λ b c f g. (at x a.1).level r t b u f;
            }
          ])
          (boths_out new h v n.move (both_ok {e = e} h nl v n.part i) i.boths);
      loads = loads_other nl (sent_knows d2 h m n.from) n.fresh i.loads;
      files = filed_sent h m (sent_knows d2 h m n.from) n.fresh i.loads.load_below n.apart_load i.files;
      few = record { outs = few_at d.sending new h n.elsewhere n.few i.few.outs; ins = i.few.ins };
      order = order_out new h v n.move up n.born (order_send m n.fresh (queue_below i) i.order);
      alive = i.alive;
      positive = omega arith;
    }

pub out_pending : {o : Offered} {e : ℕ → ℕ → Bool} {d : Desk} (new : ℕ → List Out) (h : ℕ) (v : Out) (m : Message) →
    NewOut o d new h m.letter v → Inv o e d → ((s : ℕ) (x : Sending) → Has (Open x) (d.sending s) →
    (s ≡ h → x.id ≢ out_id v) → PendingAt d s x) → Pending (sent (record d { sending = new }) h m)
out_pending {o} {e} {d} new h v m n i p s x q l k =
    let d2 : Desk = record d { sending = new } in
    elim (sent_knows d2 h m n.from l k.known) [
      | inl a ↦ elim (n.move s (Open x) q) [
        | inl b ↦ waits_sent d2 h m s l x (d.taking l.from) (d.buf l.from) (λ u act eq. let w = i.ins.buffer l.from u
            act in let f = n.fresh in let y = w.below in absurd (omega arith))
            (p s x b.0 b.1 l (known_by k a))
        | inr b ↦ let y : NewOpen o d h m.letter x = subst (λ u. OutPart o d h m.letter u) (sym b.1) n.part in let z =
            y.last in let c = i.letters.below l a in absurd (let u = c.answers in let g = k.answers in omega arith)
      ]
      | inr a ↦ absurd (n.not_fetch (ap (λ (z : Letter). z.kind) (sym a) ∙ k.kind))
    ]

-- ---- a new fetch

abbrev pub fetch_of : ℕ → Taking → ℕ → ℕ → Message
fetch_of h t answers buf = record {
  code = Recorded;
  to = t.sender;
  letter = record {
    from = h;
    me = t.fetch;
    answers = answers;
    kind = RamFetch;
    address = t.buffer;
    amount = buf;
  };
}

pub record NewFetch (o : Offered) (e : ℕ → ℕ → Bool) (d : Desk) (new : ℕ → List In) (bl : ℕ → ℕ → Option (List ℕ))
    (h : ℕ) (t : Taking) (answers : ℕ) : Type 0 where
  pub move : Move in_id d.taking new h (Fetching t)
  pub keeps : KeepsActive d.taking new h t.id
  pub puts : Active (new h) t
  pub ascends : Ascend in_id (new h)
  pub few : length (new h) ≤ d.most
  pub elsewhere : (s : ℕ) → s ≢ h → new s ≡ d.taking s
  pub born : t.id < d.next_ref
  pub above : (m : Message) → Has m d.queue → Unread m → m.to ≡ h → t.id < m.letter.me
  pub fresh : t.fetch ≡ d.next_ref
  pub old : answers < d.next_ref
  pub apart_load : NotTheLoad d.scrap answers
  pub own_load : NotTheLoad d.scrap t.id
  pub handle : h < d.next_handle
  pub sources : (s : ℕ) (x : Sending) → Has (Open x) (d.sending s) → bl s x.anchor ≡ d.block s x.anchor
  pub same : (r : ℕ) (w : In) → Has w (d.taking r) → (r ≡ h → in_id w ≢ t.id) → Untouched (e r) w →
      bl r (in_anchor w) ≡ d.block r (in_anchor w)
  pub begins : Begins o t.id t.count (bl h t.anchor)
  pub buffer : HasBuffer t (d.heap h) (d.buf h) (d.next_ref + 1)
  pub buffers : (u : Taking) → Active (d.taking h) u → u.id ≢ t.id → u.buffer ≢ t.buffer
  pub documents : (w : In) → Has w (d.taking h) → Untouched (e h) w → in_id w ≢ t.id → in_anchor w ≢ t.anchor
  pub apart : (x : Sending) → Has (Open x) (d.sending h) → x.anchor ≢ t.anchor

pub growing_untouched : (e : ℕ → Bool) (w : In) → is_growing w ≡ true → Untouched e w
growing_untouched e (Fetching t) q = tt
growing_untouched e (Draining t) q = absurd (let z : Bool.false ≡ true = q in (cc))
growing_untouched e (Asking a) q = tt
growing_untouched e (In_done i a n) q = absurd (let z : Bool.false ≡ true = q in (cc))
growing_untouched e (In_failed i a n) q = absurd (let z : Bool.false ≡ true = q in (cc))

fetch_letter : {o : Offered} {e : ℕ → ℕ → Bool} {d : Desk} (h : ℕ) (t : Taking) (answers r : ℕ) (u : Taking) →
    t.fetch ≡ d.next_ref → Inv o e d →
    (Active (d.taking r) u × (r ≡ h → u.id ≢ t.id)) ⊎ ((r ≡ h) × ((Fetching u ≡ Fetching t) ⊎ (Draining u ≡ Fetching
    t))) →
    LetterIn (fetch_of h t answers (d.buf h)).letter r u
fetch_letter h t answers r u fresh i (inl a) = let w = i.ins.buffer r u a.0 in let z = w.below in record {
  owner = λ b. absurd (omega arith);
  names = λ b c. absurd (omega arith);
}
fetch_letter h t answers r u fresh i (inr a) =
    let same : u ≡ t = elim a.1 as (λ _. u ≡ t) [
      | inl b ↦ let z : Fetching u ≡ Fetching t = b in cc
      | inr b ↦ let z :
          Draining u ≡ Fetching t = b in cc
    ] in
    record { owner = λ b. sym a.0; names = λ b c. ap (λ (z : Taking). z.buffer) (sym same) }

pub fetch_inv : {o : Offered} {e : ℕ → ℕ → Bool} {d : Desk} (new : ℕ → List In) (bl : ℕ → ℕ → Option (List ℕ)) (h : ℕ)
    (t : Taking) (answers : ℕ) → NewFetch o e d new bl h t answers → Inv o e d →
    Inv o e (sent (record d { block = bl; taking = new }) h (fetch_of h t answers (d.buf h)))
fetch_inv {o} {e} {d} new bl h t answers n i =
    let m = fetch_of h t answers (d.buf h) in
    let d2 : Desk = record d { block = bl; taking = new } in
    let up : (s : ℕ) → Ascend in_id (new s) = λ s. elim (eqb_tells s h) [
      | inl a ↦ subst (λ j. Ascend in_id (new j))
          (sym a.1) n.ascends
      | inr a ↦ subst (λ z. Ascend in_id z) (sym (n.elsewhere s a.1)) (i.order.ins s)
    ] in
    record {
      letters = letters_more m.letter (sent_knows d2 h m refl) (let f = n.fresh in let b = n.old in record {
        me = omega arith;
        answers = omega arith;
        from = n.handle;
      }) (record {
        some = λ q. absurd (let z : RamFetch ≡
            DataSave = q in (cc));
      }) (letters_bump (omega arith) (omega arith) i.letters);
      outs = outs_more m.letter (sent_knows d2 h m refl)
          (λ s x q. let w = i.outs.source s x q in let f = n.fresh in record {
            owner = λ b. absurd (let u = w.below in omega arith);
            same_id = λ b c. absurd (let u = w.below in omega arith);
          })
          (outs_less d.sending bl (λ s w q. q) n.sources (outs_bump (omega arith) i.outs));
      ins = ins_more m.letter (sent_knows d2 h m refl)
          (λ r u q. fetch_letter h t answers r u n.fresh i (move_active d.taking new h (Fetching t) n.move r u q))
          (λ r u q. record { carries = λ a. absurd (let z : RamFetch ≡ RamTransmit = a in (cc)) })
          (ins_move new bl h (Fetching t) n.move n.same (record {
            holds = record {
              active = record {
                letter = λ l k. let b = i.letters.below l k in let f = n.fresh in record {
                  owner = λ q.
                      absurd (let u = b.me in omega arith);
                  names = λ q r. absurd (let u = b.me in omega arith);
                };
                buffer = n.buffer;
                buffers = n.buffers;
              };
              carries = λ l k. let b = i.letters.below l k in let f = n.fresh in record {
                carries = λ a c g.
                    absurd (let u = b.answers in omega arith);
              };
            };
            good = λ u. n.begins;
            counted = at_most n.begins;
            beside = λ u q y ne w z. n.documents u q (growing_untouched (e h) u y) ne (sym z);
            documents = λ y. n.documents;
          }) (ins_bump (omega arith) i.ins));
      boths = boths_more m.letter (sent_knows d2 h m refl)
          (λ s x q r u p. record { older = λ a. absurd (let z : RamFetch ≡ RamTransmit = a in (cc)) })
          (λ s x q r u p. record {
            same_id = λ a. absurd (let z : RamFetch ≡ RamTransmit = a in (cc));
            ahead = λ a.
                absurd (let z : RamFetch ≡ RamTransmit = a in (cc));
          })
          (boths_in new h (Fetching t) n.move (record {
            active = record {
              older = λ l k s x q. let b = i.letters.below l k in let f = n.fresh in record {
                older = λ a c g y. absurd (let u = b.answers in omega arith);
              };
            };
            ahead = λ l k s x q. let b = i.letters.below l k in let f = n.fresh in record {
              same_id = λ a c g y.
                  absurd (let u = b.answers in omega arith);
              ahead = λ a c g y. absurd (let u = b.answers in omega arith);
            };
          }) (λ y. n.apart) i.boths);
      loads = loads_other m.letter (sent_knows d2 h m refl) n.fresh (loads_end new h (Fetching t) n.move (λ q u.
          absurd (let z : Asking q ≡ Fetching t = u in (cc))) i.loads);
      files = filed_sent h m (sent_knows d2 h m refl) n.fresh i.loads.load_below n.apart_load
          (filed_in new h (Fetching t) n.move n.own_load i.files);
      few = record { outs = i.few.outs; ins = few_at d.taking new h n.elsewhere n.few i.few.ins };
      order = order_send m n.fresh (queue_below i) (order_in new h (Fetching t) n.move up n.born n.above i.order);
      alive = i.alive;
      positive = omega arith;
    }

pub fetch_pending : {o : Offered} {e : ℕ → ℕ → Bool} {d : Desk} (new : ℕ → List In) (bl : ℕ → ℕ → Option (List ℕ))
    (h : ℕ) (t : Taking) (answers : ℕ) →
    NewFetch o e d new bl h t answers → Inv o e d → Quiet d h t.id →
    ((s : ℕ) (x : Sending) → Has (Open x) (d.sending s) → answers ≡ x.last → h ≡ x.recipient → (t.id ≡ x.id) ×
    (t.sender ≡ s) × (x.count ≡ t.count)) → Pending d → Pending (sent (record d { block = bl; taking = new }) h
    (fetch_of h t answers (d.buf h)))
fetch_pending {o} {e} {d} new bl h t answers n i quiet level p s x q l k =
    let m = fetch_of h t answers (d.buf h) in
    let d2 : Desk = record d { block = bl; taking = new } in
    let fresh = n.fresh in
    elim (sent_knows d2 h m refl l k.known) [
      | inl a ↦
          let k0 : Asks (Knows d) d.live d.file s x l = known_by k a in
          waits_kept (d.taking l.from) (new l.from) (λ u act z. n.keeps l.from u act (λ r f. quiet s x q l k0 r
          (sym z ∙ f)))
          (waits_sent d2 h m s l x (d.taking l.from) (d.buf l.from) (λ u act eq. let w = i.ins.buffer l.from u act in
          let b = w.below in absurd (omega arith)) (p s x q l k0))
      | inr a ↦ subst (λ z. Waits (sent d2 h m).queue (sent d2 h m).held s z x (new z.from) (d.buf z.from)) (sym a)
          (let v = level s x q (ap (λ (z : Letter). z.answers) (sym a) ∙ k.answers) (ap (λ (z : Letter). z.from)
          (sym a) ∙ k.from) in
          let w = i.outs.source s x q in
          record {
            taking = t;
            is_active = n.puts;
            same_id = v.0;
            sender = v.1;
            names = refl;
            amount = refl;
            newer = let b = w.below in omega arith;
            level = v.2;
            unread = λ y has r. elim (Has-append y d.queue (m ∷ []) has) [
              | inl b ↦ let u = queue_below i y b in absurd (omega arith)
              | inr b ↦ elim b [
                | inl c ↦ subst (λ (z : Message). IsWaiting z s m.letter) c (record {
                  code = refl;
                  to = v.1;
                  from = refl;
                  kind = refl;
                  answers = refl;
                })
                | inr c ↦ absurd c
              ]
            ];
            free = λ b y is r. let u = i.letters.below y.letter (kept b y (still_is d2 h answers b y is) refl) in
                let c = u.me in omega arith;
          })
    ]
