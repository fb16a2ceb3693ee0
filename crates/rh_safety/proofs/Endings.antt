-- Ends of records, writes and edits keep the invariant.
use Rattle.rh_safety.proofs.Common.{◌≡◌, ◌≢◌, ℕ, ◌<◌, Bool, true, false, List, length, take, Option, Some, None, refl, sym, ap, ◌∙◌, subst, inl, inr, arith}
use Rattle.rh_safety.proofs.Common.{eqb_tells, Recorded, DataSave, RamFetch, RamTransmit, DataLoad, Letter, Message, Sending, Taking, Asked, Open, In}
use Rattle.rh_safety.proofs.Common.{Fetching, Draining, Asking, In_done, In_failed, is_going, is_growing, in_id, in_anchor, Has, Active, put, with_id, sent}
use Rattle.rh_safety.proofs.Common.{put_same, put_other, same_value, one_of_id, with_ascends, Offered, Knows, known_by, Begins, Counts, Untouched, IsGood}
use Rattle.rh_safety.proofs.Common.{Unread, Inv, Good}
use Rattle.rh_safety.proofs.Ends.{DataSaveAck}
use Rattle.rh_safety.proofs.Sight.{Desk, ended, asked}
use Rattle.rh_safety.proofs.Basics.{with_keeps, with_puts}
use Rattle.rh_safety.proofs.Invariant.{Asks}
use Rattle.rh_safety.proofs.Moves.{letters_more, outs_more, ins_more, boths_more, letters_bump, outs_bump, ins_bump, Move, outs_less, HoldOk, ins_move}
use Rattle.rh_safety.proofs.Moves.{move_active, move_with, ins_less, BothInOk, boths_in, loads_more, loads_other, loads_lost, loads_in, loads_end}
use Rattle.rh_safety.proofs.Filings.{NotTheLoad, filed_in, filed_none, filed_sent, record_apart}
use Rattle.rh_safety.proofs.Sends.{KeepsActive, Quiet, few_put, few_with, one_active, order_in, order_send, put_ascends, queue_below, sent_knows, waits_kept}
use Rattle.rh_safety.proofs.Sends.{waits_sent}

-- ---- a record ends

pub put2_other : {A : Type 0} (f : ℕ → ℕ → A) (h a : ℕ) (v : A) (r b : ℕ) → (r ≡ h → b ≢ a) →
    put f h (put (f h) a v) r b ≡ f r b
put2_other f h a v r b ne =
    elim (eqb_tells r h) [
      | inl w ↦ rw w.0 (put_other (f h) a v b (ne w.1) ∙ ap (λ j. f j b) (sym w.1))
      | inr w ↦ rw w.0 refl
    ]

pub put2_same : {A : Type 0} (f : ℕ → ℕ → A) (h a : ℕ) (v : A) → put f h (put (f h) a v) h a ≡ v
put2_same {A = A} f h a v = ap (λ (g : ℕ → A). g a) (put_same f h (put (f h) a v)) ∙ put_same (f h) a v

pub keeps_with : (old : ℕ → List In) (h i : ℕ) (v : In) → KeepsActive old (put old h (with_id in_id i v (old h))) h i
keeps_with old h i v r t act ne =
    elim (eqb_tells r h) [
      | inl w ↦ rw w.0 (elim act [
        | inl a ↦ inl (with_keeps in_id i v (old h) (Fetching t) (subst (λ j. Has (Fetching t) (old j)) w.1 a) (ne w.1))
        | inr a ↦ inr (with_keeps in_id i v (old h) (Draining t) (subst (λ j. Has (Draining t) (old j)) w.1 a) (ne w.1))
      ])
      | inr w ↦ rw w.0 act
    ]

-- a block of the heap that is no buffer
pub heap_inv : {o : Offered} {e : ℕ → ℕ → Bool} {d : Desk} (h a : ℕ) (v : Option (List ℕ)) → ((t : Taking) →
    Active (d.taking h) t → t.buffer ≢ a) → Inv o e d → Inv o e (record d {
      heap = put d.heap h (put (d.heap h) a v);
    })
heap_inv {o} {e} {d} h a v free i = record {
  letters = i.letters;
  outs = i.outs;
  ins = ins_less e d.taking d.block (put d.heap h (put (d.heap h) a v)) (λ s w q. q)
      (record {
        before = λ r w q u. u;
        blocks = λ r w q u. refl;
        heaps = λ r u q. put2_other d.heap h a v r u.buffer
            (λ here. free u (subst (λ j. Active (d.taking j) u) here q));
      }) i.ins;
  boths = i.boths;
  loads = i.loads;
  files = i.files;
  few = i.few;
  order = i.order;
  alive = i.alive;
  positive = i.positive;
}

-- a record that is over, in the place of one of its id
pub record Ends (o : Offered) (e : ℕ → ℕ → Bool) (d : Desk) (bl : ℕ → ℕ → Option (List ℕ)) (h i : ℕ) (v : In) : Type 0
  where
    pub same_id : in_id v ≡ i
    pub over : is_going v ≡ false
    pub was : In
    pub has : Has was (d.taking h)
    pub was_id : in_id was ≡ i
    pub holds : HoldOk (Knows d) o d.taking d.heap d.buf d.next_ref h v
    pub both : BothInOk (Knows d) d.sending h v
    pub sources : (s : ℕ) (x : Sending) → Has (Open x) (d.sending s) → bl s x.anchor ≡ d.block s x.anchor
    pub same : (r : ℕ) (w : In) → Has w (d.taking r) → (r ≡ h → in_id w ≢ in_id v) → Untouched (e r) w →
        bl r (in_anchor w) ≡ d.block r (in_anchor w)
    pub good : Untouched (e h) v → IsGood o v (bl h (in_anchor v))
    pub counted : Counts o v
    pub beside : (u : In) → Has u (d.taking h) → is_growing u ≡ true → in_id u ≢ in_id v → Untouched (e h) v →
        in_anchor v ≢ in_anchor u

-- what goes on is not over
going_on : (v w : In) → is_going v ≡ false → w ≡ v → is_going w ≡ true → ⊥
going_on v w over same going = let z : Bool.true ≡ false = sym going ∙ ap is_going same ∙ over in (cc)

growing_goes : (w : In) → is_growing w ≡ true → is_going w ≡ true
growing_goes (Fetching t) q = refl
growing_goes (Draining t) q = refl
growing_goes (Asking a) q = refl
growing_goes (In_done i a n) q = q
growing_goes (In_failed i a n) q = q

pub end_inv : {o : Offered} {e : ℕ → ℕ → Bool} {d : Desk} (bl : ℕ → ℕ → Option (List ℕ)) (h j : ℕ) (v : In) →
    Ends o e d bl h j v → Inv o e d → Inv o e (record d {
      block = bl;
      taking = put d.taking h (with_id in_id j v (d.taking h));
    })
end_inv {o} {e} {d} bl h j v n i =
    let new = put d.taking h (with_id in_id j v (d.taking h)) in
    let mv : Move in_id d.taking new h v = move_with in_id d.taking h j v n.same_id in
    let same_id = n.same_id in
    let was_id = n.was_id in
    record {
      letters = i.letters;
      outs = outs_less d.sending bl (λ s w q. q) n.sources i.outs;
      ins = ins_move new bl h v mv n.same (record {
        holds = n.holds;
        good = n.good;
        counted = n.counted;
        beside = n.beside;
        documents = λ y. absurd (going_on v v n.over refl (growing_goes v y));
      }) i.ins;
      boths = boths_in new h v mv n.both (λ y. absurd (going_on v v n.over refl (growing_goes v y))) i.boths;
      loads = loads_end new h v mv (λ q u. going_on v (Asking q) n.over u refl) i.loads;
      files = filed_in new h v mv (record_apart h n.was (in_id v) n.has (was_id ∙ sym same_id) i.files) i.files;
      few = record {
        outs = i.few.outs;
        ins = few_put d.taking h (with_id in_id j v (d.taking h)) (few_with in_id
            (d.taking h) j v (i.few.ins h)) i.few.ins;
      };
      order = order_in new h v mv (put_ascends in_id d.taking h (with_id in_id j v (d.taking h)) i.order.ins
          (with_ascends in_id j v (d.taking h) n.same_id (i.order.ins h))) (let z = i.order.in_below h n.was n.has in
          omega arith) (λ m has un to. let z = i.order.above h n.was m n.has has un to in omega arith) i.order;
      alive = i.alive;
      positive = i.positive;
    }

pub ended_good : {o : Offered} {e : ℕ → ℕ → Bool} {d : Desk} (bl : ℕ → ℕ → Option (List ℕ)) (h : ℕ) (t : Taking)
    (v : In) → Active (d.taking h) t → Quiet d h t.id → Ends o e d bl h t.id v → Good o e d →
    Good o e (ended (record d { block = bl }) h t v)
ended_good {o} {e} {d} bl h t v act quiet n g =
    let i = g.inv in
    let new = put d.taking h (with_id in_id t.id v (d.taking h)) in
    let mv : Move in_id d.taking new h v = move_with in_id d.taking h t.id v n.same_id in
    record {
      inv = heap_inv h t.buffer None (λ u q. elim (move_active d.taking new h v mv h u q) [
        | inl a ↦ λ eq. a.1 refl (i.ins.buffers h u t a.0 act eq ∙ sym n.same_id)
        | inr a ↦ elim a.1 [
          | inl b ↦ absurd (going_on v (Fetching u) n.over b refl)
          | inr b ↦ absurd
              (going_on v (Draining u) n.over b refl)
        ]
      ]) (end_inv bl h t.id v n i);
      pending = λ s x q l k.
          waits_kept (d.taking l.from) (new l.from) (λ u a z. keeps_with d.taking h t.id v l.from u a (λ r f.
          quiet s x q l k r (sym z ∙ f))) (g.pending s x q l k);
      born = g.born;
    }

pub active_id : {o : Offered} {e : ℕ → ℕ → Bool} {d : Desk} (h : ℕ) (t : Taking) → Active (d.taking h) t → Inv o e d →
    (t.id < d.next_ref) × ((m : Message) → Has m d.queue → Unread m → m.to ≡ h → t.id < m.letter.me)
active_id h t (inl a) i = (i.order.in_below h (Fetching t) a, λ m has un to. i.order.above h (Fetching t) m a has un to)
active_id h t (inr a) i = (i.order.in_below h (Draining t) a, λ m has un to. i.order.above h (Draining t) m a has un to)

-- a record that holds a buffer has an id of its own
pub not_active : {o : Offered} {e : ℕ → ℕ → Bool} {d : Desk} (h : ℕ) (w : In) → Inv o e d → Has w (d.taking h) →
    ((t : Taking) → w ≡ Fetching t → ⊥) → ((t : Taking) → w ≡ Draining t → ⊥) → (u : Taking) → Active (d.taking h) u →
    u.id ≢ in_id w
not_active {o} {e} {d} h w i has f g u (inl a) eq = f u (one_of_id in_id (d.taking h) w (Fetching u) (i.order.ins h)
    has a (sym eq))
not_active {o} {e} {d} h w i has f g u (inr a) eq = g u (one_of_id in_id (d.taking h) w (Draining u) (i.order.ins h)
    has a (sym eq))

-- a record that waited for a file is over
pub asked_over : {o : Offered} {e : ℕ → ℕ → Bool} {d : Desk} (bl : ℕ → ℕ → Option (List ℕ)) (h : ℕ) (q : Asked)
    (v : In) → Has (Asking q) (d.taking h) → Ends o e d bl h q.id v → Good o e d → Good o e (record d {
      block = bl;
      taking = put d.taking h (with_id in_id q.id v (d.taking h));
    })
asked_over {o} {e} {d} bl h q v has n g =
    let new = put d.taking h (with_id in_id q.id v (d.taking h)) in
    record {
      inv = end_inv bl h q.id v n g.inv;
      pending = λ s x p l k.
          waits_kept (d.taking l.from) (new l.from)
          (λ u a z. keeps_with d.taking h q.id v l.from u a (λ r. not_active h (Asking q) g.inv has (λ t y.
          let b : Asking q ≡ Fetching t = y in (cc)) (λ t y. let b : Asking q ≡ Draining t = y in (cc)) u
          (subst (λ j. Active (d.taking j) u) r a)))
          (g.pending s x p l k);
      born = g.born;
    }

-- a letter that says nothing of bytes
pub record Tells (d : Desk) (h : ℕ) (n : Letter) : Type 0 where
  pub fresh : n.me ≡ d.next_ref
  pub old : n.answers < d.next_ref
  pub from : n.from < d.next_handle
  pub sender : n.from ≡ h
  pub not_save : n.kind ≡ DataSave → ⊥
  pub not_fetch : n.kind ≡ RamFetch → ⊥
  pub not_transmit : n.kind ≡ RamTransmit → ⊥
  pub apart : NotTheLoad d.scrap n.answers

pub tell_good : {o : Offered} {e : ℕ → ℕ → Bool} {d : Desk} (h : ℕ) (m : Message) → Tells d h m.letter → Good o e d →
    Good o e (sent d h m)
tell_good {o} {e} {d} h m n g =
    let i = g.inv in
    let nl = m.letter in
    let f = n.fresh in
    record {
      inv = record {
        letters = letters_more nl (sent_knows d h m n.sender) (let b = n.old in record {
          me = omega arith;
          answers = omega arith;
          from = n.from;
        }) (record { some = λ q. absurd (n.not_save q) }) (letters_bump (omega arith)
            (omega arith) i.letters);
        outs = outs_more nl (sent_knows d h m n.sender)
            (λ s x q. let w = i.outs.source s x q in record {
              owner = λ b. absurd (let u = w.below in omega arith);
              same_id = λ b c. absurd (let u = w.below in omega arith);
            })
            (outs_bump (omega arith) i.outs);
        ins = ins_more nl (sent_knows d h m n.sender)
            (λ r t q. let w = i.ins.buffer r t q in record {
              owner = λ b. absurd (let u = w.below in omega arith);
              names = λ b c. absurd (let u = w.below in omega arith);
            })
            (λ r t q. record { carries = λ a. absurd (n.not_transmit a) })
            (ins_bump (omega arith) i.ins);
        boths = boths_more nl (sent_knows d h m n.sender)
            (λ s x q r t u. record { older = λ a. absurd (n.not_transmit a) })
            (λ s x q r t u. record {
              same_id = λ a. absurd (n.not_transmit a);
              ahead = λ a.
                  absurd (n.not_transmit a);
            }) i.boths;
        loads = loads_other nl (sent_knows d h m n.sender) n.fresh i.loads;
        files = filed_sent h m (sent_knows d h m n.sender) n.fresh i.loads.load_below n.apart i.files;
        few = i.few;
        order = order_send m n.fresh (queue_below i) i.order;
        alive = i.alive;
        positive = omega arith;
      };
      pending = λ s x q l k. elim (sent_knows d h m n.sender l k.known) [
        | inl a ↦ waits_sent d h m s l x (d.taking l.from) (d.buf l.from) (λ u act eq. let w = i.ins.buffer l.from u
            act in let y = w.below in absurd (omega arith))
            (g.pending s x q l (known_by k a))
        | inr a ↦ absurd (n.not_fetch (ap (λ (z : Letter). z.kind) (sym a) ∙ k.kind))
      ];
      born = λ j le. g.born j (omega arith);
    }

-- a record that waits for a file holds no buffer
still_active : (taking new : ℕ → List In) (h : ℕ) (q : Asked) → Move in_id taking new h (Asking q) →
    (r : ℕ) (u : Taking) → Active (new r) u → Active (taking r) u × (r ≡ h → u.id ≢ q.id)
still_active taking new h q m r u (inl y) = elim (m r (Fetching u) y) [
  | inl a ↦ (inl a.0, a.1)
  | inr a ↦ absurd
      (let z : Fetching u ≡ Asking q = a.1 in (cc))
]
still_active taking new h q m r u (inr y) = elim (m r (Draining u) y) [
  | inl a ↦ (inr a.0, a.1)
  | inr a ↦ absurd
      (let z : Draining u ≡ Asking q = a.1 in (cc))
]

-- the first fetch is back: the buffer goes, and the sender is asked for a file
pub asked_good : {o : Offered} {e : ℕ → ℕ → Bool} {d : Desk} (h : ℕ) (t : Taking) → Has (Fetching t) (d.taking h) →
    t.count ≡ 0 → h < d.next_handle → Quiet d h t.id → Good o e d → Good o e (asked d h t)
asked_good {o} {e} {d} h t is none handle quiet g =
    let i = g.inv in
    let q : Asked = record { id = t.id; sender = t.sender; anchor = t.anchor; ack = d.next_ref } in
    let v = Asking q in
    let new = put d.taking h (with_id in_id t.id v (d.taking h)) in
    let mv : Move in_id d.taking new h v = move_with in_id d.taking h t.id v refl in
    let m : Message = record {
      code = Recorded;
      to = t.sender;
      letter = record {
        from = h;
        me = d.next_ref;
        answers = t.id;
        kind = DataSaveAck;
        address = 0;
        amount = 0;
      };
    } in
    let d1 : Desk = record d { taking = new } in
    let doc : Begins o t.id t.count (d.block h t.anchor) = i.ins.good h (Fetching t) is tt in
    let id = i.order.in_below h (Fetching t) is in
    let step1 : Inv o e (sent d1 h m) = record {
      letters = letters_more m.letter (sent_knows d1 h m refl) (record {
        me = omega arith;
        answers = omega arith;
        from = handle;
      }) (record { some = λ y. absurd (let z : DataSaveAck ≡ DataSave = y in (cc)) }) (letters_bump
          (omega arith) (omega arith) i.letters);
      outs = outs_more m.letter (sent_knows d1 h m refl)
          (λ s x y. let w = i.outs.source s x y in record {
            owner = λ b. absurd (let u = w.below in omega arith);
            same_id = λ b c. absurd (let u = w.below in omega arith);
          })
          (outs_bump (omega arith) i.outs);
      ins = ins_more m.letter (sent_knows d1 h m refl)
          (λ r u y. let w = i.ins.buffer r u (still_active d.taking new h q mv r u y).0 in let z = w.below in
          record { owner = λ b. absurd (omega arith); names = λ b c. absurd (omega arith) })
          (λ r u y. record { carries = λ a. absurd (let z : DataSaveAck ≡ RamTransmit = a in (cc)) })
          (ins_move new d.block h v mv (λ r w p ne u. refl)
          (record {
            holds = tt;
            good = λ u. record {
              all = doc.all;
              offered = doc.offered;
              there = doc.there ∙
                  ap (λ k. Option.Some (take k doc.all)) none;
              fits = omega arith;
            };
            counted = record { all = doc.all; offered = doc.offered; fits = omega arith };
            beside = λ u y z ne w eq. ne (sym (i.ins.documents h u (Fetching t) y z is tt eq));
            documents = λ y w p u ne eq. ne (i.ins.documents h (Fetching t) w is refl p u eq);
          }) (ins_bump (omega arith) i.ins));
      boths = boths_more m.letter (sent_knows d1 h m refl)
          (λ s x p r u y. record { older = λ a. absurd (let z : DataSaveAck ≡ RamTransmit = a in (cc)) })
          (λ s x p r u y. record {
            same_id = λ a. absurd (let z : DataSaveAck ≡ RamTransmit = a in (cc));
            ahead = λ a.
                absurd (let z : DataSaveAck ≡ RamTransmit = a in (cc));
          })
          (boths_in new h v mv tt (λ y x p. i.boths.apart h x (Fetching t) p is refl) i.boths);
      loads = loads_more m.letter (sent_knows d1 h m refl)
          (λ r u y. elim (mv r (Asking u) y) [
            | inl a ↦ let w = i.loads.ack_below r u a.0 in record { names = λ b c. absurd (omega arith) }
            | inr a ↦ let z : u ≡ q = (let w : Asking u ≡ Asking q = a.1 in cc) in record {
              names = λ b c.
                  ap (λ (j : Asked). j.id) (sym z);
            }
          ])
          (λ r u y. record { whole = λ f s a. absurd (let z : DataSaveAck ≡ DataLoad = a in (cc)) })
          (loads_in new h v mv (record {
            fresh = refl;
            me = λ l k. (i.letters.below l k).me;
            answers = λ l k.
                (i.letters.below l k).answers;
          }) i.loads);
      files = let other = record_apart h (Fetching t) t.id is refl i.files in
          filed_sent h m (sent_knows d1 h m refl) refl i.loads.load_below other (filed_in new h v mv other i.files);
      few = record {
        outs = i.few.outs;
        ins = few_put d.taking h (with_id in_id t.id v (d.taking h)) (few_with in_id
            (d.taking h) t.id v (i.few.ins h)) i.few.ins;
      };
      order = order_send m refl (queue_below i) (order_in new h v mv (put_ascends in_id d.taking h (with_id in_id t.id
          v (d.taking h)) i.order.ins (with_ascends in_id t.id v (d.taking h) refl (i.order.ins h))) id
          (λ y has un to. i.order.above h (Fetching t) y is has un to) i.order);
      alive = i.alive;
      positive = omega arith;
    } in
    record {
      inv = heap_inv h t.buffer None (λ u y eq. let a = still_active d.taking new h q mv h u y in
          a.1 refl (i.ins.buffers h u t a.0 (inl is) eq)) step1;
      pending = λ s x p l k. elim (sent_knows d1 h m refl l k.known) [
        | inl a ↦
            let k0 : Asks (Knows d) d.live d.file s x l = known_by k a in
            waits_kept (d.taking l.from) (new l.from) (λ u b z. keeps_with d.taking h t.id v l.from u b (λ r f.
            quiet s x p l k0 r (sym z ∙ f)))
            (waits_sent d1 h m s l x (d.taking l.from) (d.buf l.from) (λ u act eq. let w = i.ins.buffer l.from u
            act in let y = w.below in absurd (omega arith)) (g.pending s x p l k0))
        | inr a ↦ absurd (let z : DataSaveAck ≡ RamFetch = ap (λ (z : Letter). z.kind) (sym a) ∙ k.kind in (cc))
      ];
      born = λ j le. g.born j (omega arith);
    }

-- a record that keeps its buffer, and takes no more
pub drained_good : {o : Offered} {e : ℕ → ℕ → Bool} {d : Desk} (h : ℕ) (t : Taking) → Has (Fetching t) (d.taking h) →
    Good o e d → Good o e (record d { taking = put d.taking h (with_id in_id t.id (Draining t) (d.taking h)) })
drained_good {o} {e} {d} h t here g =
    let i = g.inv in
    let v = Draining t in
    let new = put d.taking h (with_id in_id t.id v (d.taking h)) in
    let mv : Move in_id d.taking new h v = move_with in_id d.taking h t.id v refl in
    let act : Active (d.taking h) t = inl here in
    record {
      inv = record {
        letters = i.letters;
        outs = i.outs;
        ins = ins_move new d.block h v mv (λ r w q ne u. refl)
            (record {
              holds = record {
                letter = λ l k. i.ins.letter l k h t act;
                buffer = i.ins.buffer h t act;
                buffers = λ u a ne eq. ne (i.ins.buffers h u t a act eq);
              };
              good = λ u. i.ins.good h (Fetching t) here tt;
              counted = i.ins.counted h (Fetching t) here;
              beside = λ u q y ne w eq. ne (sym (i.ins.documents h u (Fetching t) q y here tt eq));
              documents = λ y. absurd (let z : Bool.false ≡ true = y in (cc));
            }) i.ins;
        boths = boths_in new h v mv (record { older = λ l k s x q. i.boths.older l k s x q h t act }) (λ y.
            absurd (let z : Bool.false ≡ true = y in (cc))) i.boths;
        loads = loads_end new h v mv (λ q u. absurd (let z : Asking q ≡ Draining t = u in (cc))) i.loads;
        files = filed_in new h v mv (record_apart h (Fetching t) t.id here refl i.files) i.files;
        few = record {
          outs = i.few.outs;
          ins = few_put d.taking h (with_id in_id t.id v (d.taking h)) (few_with in_id
              (d.taking h) t.id v (i.few.ins h)) i.few.ins;
        };
        order = order_in new h v mv (put_ascends in_id d.taking h (with_id in_id t.id v (d.taking h)) i.order.ins
            (with_ascends in_id t.id v (d.taking h) refl (i.order.ins h))) (i.order.in_below h (Fetching t) here)
            (λ m has un to. i.order.above h (Fetching t) m here has un to) i.order;
        alive = i.alive;
        positive = i.positive;
      };
      pending = λ s x q l k.
          waits_kept (d.taking l.from) (new l.from)
          (λ u a z. elim (eqb_tells u.id t.id) [
            | inl b ↦ elim (eqb_tells l.from h) [
              | inl c ↦
                  let z : u ≡ t = one_active (d.taking h) u t (i.order.ins h) (subst (λ j. Active (d.taking j) u) c.1
                  a) act b.1 in
                  rw c.0 (inr (subst (λ j. Has (Draining j) (with_id in_id t.id v (d.taking h))) (sym z)
                  (with_puts in_id t.id v (d.taking h) (Fetching t) here refl)))
              | inr c ↦ keeps_with d.taking h t.id v l.from u a (λ r. absurd (c.1 r))
            ]
            | inr b ↦ keeps_with d.taking h t.id v l.from u a (λ r. b.1)
          ])
          (g.pending s x q l k);
      born = g.born;
    }

-- ---- the heap and the blocks of one task

-- bytes of the same length go into the buffer, while no transmit for it is unread
pub write_inv : {o : Offered} {e : ℕ → ℕ → Bool} {d : Desk} (r : ℕ) (t : Taking) (old bytes : List ℕ) →
    Active (d.taking r) t → d.heap r t.buffer ≡ Some old → length bytes ≡ length old →
    ((l : Letter) (u : Taking) → Knows d l → l.kind ≡ RamTransmit → Has (Fetching u) (d.taking r) → l.answers ≡
    u.fetch → l.from ≡ u.sender → u.id ≢ t.id) →
    Inv o e d → Inv o e (record d { heap = put d.heap r (put (d.heap r) t.buffer (Some bytes)) })
write_inv {o} {e} {d} r t old bytes act is same none i =
    let hp = put d.heap r (put (d.heap r) t.buffer (Some bytes)) in
    let n = i.ins in
    record {
      letters = i.letters;
      outs = i.outs;
      ins = record {
        letter = n.letter;
        carries = λ l k j u q. record {
          carries = λ a b c.
              let z = (n.carries l k j u q).carries a b c in
              record {
                all = z.all;
                bytes = z.bytes;
                offered = z.offered;
                there = put2_other d.heap r t.buffer (Some bytes) j u.buffer (λ here eq. none l u k a
                    (subst (λ y. Has (Fetching u) (d.taking y)) here q) b c (n.buffers r u t
                    (subst (λ y. Active (d.taking y) u) here (inl q)) act eq)) ∙ z.there;
                same = z.same;
                fits = z.fits;
                short = z.short;
              };
        };
        good = n.good;
        counted = n.counted;
        buffer = λ j u q.
            let w = n.buffer j u q in
            elim (eqb_tells j r) [
              | inl a ↦ elim (eqb_tells u.buffer t.buffer) [
                | inl b ↦ record {
                  bytes = bytes;
                  there = ap (λ y. put d.heap r (put (d.heap r) t.buffer (Some bytes)) y u.buffer) a.1 ∙
                      ap (λ y. put d.heap r (put (d.heap r) t.buffer (Some bytes)) r y) b.1 ∙ put2_same d.heap r
                      t.buffer (Some bytes);
                  size = let e = same ∙ ap length (same_value (d.heap r t.buffer) is (subst (λ y. d.heap r y ≡ Some
                      w.bytes) b.1 (subst (λ y. d.heap y u.buffer ≡ Some w.bytes) a.1 w.there))) in let z = w.size in
                      omega arith;
                  below = w.below;
                }
                | inr b ↦ record {
                  bytes = w.bytes;
                  there = put2_other d.heap r t.buffer (Some bytes) j u.buffer
                      (λ here. b.1) ∙ w.there;
                  size = w.size;
                  below = w.below;
                }
              ]
              | inr a ↦ record {
                bytes = w.bytes;
                there = put2_other d.heap r t.buffer (Some bytes) j u.buffer
                    (λ here. absurd (a.1 here)) ∙ w.there;
                size = w.size;
                below = w.below;
              }
            ];
        buffers = n.buffers;
        documents = n.documents;
        room = n.room;
      };
      boths = i.boths;
      loads = i.loads;
      files = i.files;
      few = i.few;
      order = i.order;
      alive = i.alive;
      positive = i.positive;
    }

-- a block that no record rests on
pub record NotUsed (d : Desk) (e e' : ℕ → ℕ → Bool) (h a : ℕ) : Type 0 where
  pub sources : (x : Sending) → Has (Open x) (d.sending h) → x.anchor ≢ a
  pub documents : (w : In) → Has w (d.taking h) → Untouched (e' h) w → in_anchor w ≢ a
  pub before : (r : ℕ) (w : In) → Untouched (e' r) w → Untouched (e r) w

pub block_inv : {o : Offered} {e : ℕ → ℕ → Bool} {d : Desk} (e' : ℕ → ℕ → Bool) (h a : ℕ) (v : Option (List ℕ)) →
    NotUsed d e e' h a → Inv o e d → Inv o e' (record d { block = put d.block h (put (d.block h) a v) })
block_inv {o} {e} {d} e' h a v n i = record {
  letters = i.letters;
  outs = outs_less d.sending (put d.block h (put (d.block h) a v)) (λ s w q. q) (λ s x q. put2_other d.block h a v s
      x.anchor (λ here. n.sources x (subst (λ j. Has (Open x) (d.sending j)) here q))) i.outs;
  ins = ins_less e' d.taking (put d.block h (put (d.block h) a v)) d.heap (λ s w q. q)
      (record {
        before = λ r w q u. n.before r w u;
        blocks = λ r w q u. put2_other d.block h a v r (in_anchor w) (λ here. n.documents w
            (subst (λ j. Has w (d.taking j)) here q) (subst (λ j. Untouched (e' j) w) here u));
        heaps = λ r u q. refl;
      }) i.ins;
  boths = i.boths;
  loads = i.loads;
  files = i.files;
  few = i.few;
  order = i.order;
  alive = i.alive;
  positive = i.positive;
}

-- ---- the scrap file

pub lost_good : {o : Offered} {e : ℕ → ℕ → Bool} {d : Desk} → Good o e d → Good o e (record d { scrap = None })
lost_good g = record {
  inv = record {
    letters = g.inv.letters;
    outs = g.inv.outs;
    ins = g.inv.ins;
    boths = g.inv.boths;
    loads = loads_lost g.inv.loads;
    files = filed_none;
    few = g.inv.few;
    order = g.inv.order;
    alive = g.inv.alive;
    positive = g.inv.positive;
  };
  pending = λ s x q l k. g.pending s x q l k;
  born = g.born;
}
