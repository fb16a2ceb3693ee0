-- What tasks with code of their own do keeps the invariant of a masked desk: their messages are DataSaves there, and what such
-- an id offers grows by what is taken of it.
use Rattle.rh_safety.proofs.Common.{◌≡◌, ◌≢◌, ℕ, ◌+◌, ◌<◌, Bool, true, false, List, [], ◌∷◌, ◌++◌, Option, Some, refl, sym}
use Rattle.rh_safety.proofs.Common.{ap, ◌∙◌, subst, ◌⊎◌, inl, inr, arith, eqb_tells, length-append, DataSave, RamFetch, RamTransmit, Letter, Message}
use Rattle.rh_safety.proofs.Common.{Sending, Taking, Asked, Out, Open, Out_done, In, Fetching, Draining, Asking, In_done, In_failed, out_id, in_id, in_anchor}
use Rattle.rh_safety.proofs.Common.{is_growing, Has, Active, put, put_same, put_other, one_of_id, Offered, Knows, known_by, queued, kept, latest}
use Rattle.rh_safety.proofs.Common.{Begins, Counts, IsGood, Inv, Good, LiveFile}
use Rattle.rh_safety.proofs.Common.{Ascend, Code, Plain, Recorded, leb_tells, nat_lt, same_value, sent, suc, with_ascends, with_id, if◌then◌else◌}
use Rattle.std.proofs.lemmas.List.{take-append-le}
use Rattle.rh_safety.proofs.Sight.{Desk, Scrap, owned}
use Rattle.rh_safety.proofs.Basics.{Has-append}
use Rattle.rh_safety.proofs.Invariant.{Known, AtMost}
use Rattle.rh_safety.proofs.Masks.{foreign}
use Rattle.rh_safety.proofs.Filings.{NotTheLoad}
use Rattle.rh_safety.proofs.Moves.{letters_more, outs_more, ins_more, boths_more, letters_bump, outs_bump, ins_bump, loads_other, move_with, outs_less}
use Rattle.rh_safety.proofs.Moves.{ins_less}
use Rattle.rh_safety.proofs.Sends.{NewOut, OutPart, few_here, few_with, order_send, out_inv, out_pending, queue_below}
use Rattle.rh_safety.proofs.Polls.{Portion}
use Rattle.rh_safety.proofs.Posts.{fewer_inv, waits_fewer}
use Rattle.rh_safety.proofs.Runs.{grown_inv, grows_put, born_put}

-- ---- a message that such a task sends

-- what is held was held
abbrev pub Holds_less : Desk → (ℕ → Option Message) → Type 0
Holds_less d hd = (k : ℕ) (y : Message) → hd k ≡ Some y → d.held k ≡ Some y

pub foreign_knows : (d : Desk) (h : ℕ) (m : Message) (hd : ℕ → Option Message) → Holds_less d hd → m.letter.from ≡ h →
    (l : Letter) → Knows (foreign d h m hd) l → Knows d l ⊎ (l ≡ m.letter)
foreign_knows d h m hd fewer own l (queued y has eq) = elim (Has-append y d.queue (m ∷ []) has) as (λ _. Knows d l ⊎ (l ≡ m.letter)) [
  | inl a ↦ inl (queued y a eq)
  | inr b ↦ elim b as (λ _. Knows d l ⊎ (l ≡ m.letter)) [
    | inl c ↦ inr (sym eq ∙ ap (λ (z : Message). z.letter) (sym c))
    | inr c ↦ absurd c
  ]
]
foreign_knows d h m hd fewer own l (kept k y is eq) = inl (kept k y (fewer k y is) eq)
foreign_knows d h m hd fewer own l (latest k y is eq) = elim (eqb_tells k h) as (λ _. Knows d l ⊎ (l ≡ m.letter)) [
  | inl a ↦
      let z : Some m ≡ Some y = sym (put_same d.last h (Some m)) ∙ subst (λ j. put d.last h (Some m) j ≡ Some y) a.1 is in
      let u : y ≡ m = cc in
      inr (sym eq ∙ ap (λ (x : Message). (owned k x).letter) u ∙ ap (λ (j : ℕ). (owned j m).letter) (a.1 ∙ sym own))
  | inr a ↦ inl (latest k y (sym (put_other d.last h (Some m) k a.1) ∙ is) eq)
]

module _ {o : Offered} {e : ℕ → ℕ → Bool} {d : Desk} (h : ℕ) (m : Message) (hd : ℕ → Option Message) (fewer : Holds_less d hd) where
  -- what is held may be less: the message answers whichever it names
  pub foreign_good : m.letter.me ≡ d.next_ref → m.letter.from ≡ h → m.letter.answers ≡ 0 → m.letter.kind ≡ DataSave →
      h < d.next_handle → LiveFile (foreign d h m hd) → Good o e d →
      Good (put o d.next_ref (Some [])) e (foreign d h m hd)
  foreign_good fresh own none kind handle live g =
      let n = m.letter in
      let p : Offered = put o d.next_ref (Some []) in
      let i : Inv p e d = grown_inv (grows_put o d.next_ref (Some []) (g.born d.next_ref (omega arith))) g.inv in
      let knows = foreign_knows d h m hd fewer own in
      record {
        inv = record {
          letters = letters_more n knows (record {
            me = omega (arith, fresh);
            answers = omega (arith, none);
            from = subst (λ j. j < d.next_handle) (sym own) handle;
          }) (record { some = λ r. ([], ap p fresh ∙ put_same o d.next_ref (Some [])) }) (letters_bump (omega arith)
              (omega arith) i.letters);
          outs = outs_more n knows
              (λ s x q. let w = i.outs.source s x q in record {
                owner = λ b. absurd (let u = w.below in omega (arith, u, b, fresh));
                same_id = λ b c. absurd (let u = w.below in omega (arith, u, b, fresh));
              })
              (outs_bump (omega arith) i.outs);
          ins = ins_more n knows
              (λ r t q. let w = i.ins.buffer r t q in record {
                owner = λ b. absurd (let u = w.below in omega (arith, u, b, fresh));
                names = λ b c. absurd (let u = w.below in omega (arith, u, b, fresh));
              })
              (λ r t q. record { carries = λ a. absurd (let z : DataSave ≡ RamTransmit = sym kind ∙ a in (cc)) })
              (ins_bump (omega arith) i.ins);
          boths = boths_more n knows
              (λ s x q r t u. record { older = λ a. absurd (let z : DataSave ≡ RamTransmit = sym kind ∙ a in (cc)) })
              (λ s x q r t u. record {
                same_id = λ a. absurd (let z : DataSave ≡ RamTransmit = sym kind ∙ a in (cc));
                ahead = λ a. absurd (let z : DataSave ≡ RamTransmit = sym kind ∙ a in (cc));
              }) i.boths;
          loads = loads_other n knows fresh i.loads;
          files = λ f s. let w = i.files f s in record {
            live = live f s;
            some = w.some;
            kinds = λ l k eq. elim (knows l k) [
              | inl a ↦ w.kinds l a eq
              | inr a ↦ absurd (let z = i.loads.load_below f s in let me : l.me ≡ n.me = ap (λ (y : Letter). y.me) a in
                  omega (arith, z, me, eq, fresh))
            ];
            unanswered = λ l k eq. elim (knows l k) [
              | inl a ↦ w.unanswered l a eq
              | inr a ↦ let z : l.answers ≡ n.answers = ap (λ (y : Letter). y.answers) a in let y = w.some in
                  omega (arith, z, eq, none, y)
            ];
            ids = w.ids;
          };
          few = i.few;
          order = order_send m fresh (queue_below i) i.order;
          alive = i.alive;
          positive = omega arith;
        };
        pending = λ s x q l k. elim (knows l k.known) [
          | inl a ↦
              let w = g.pending s x q l (known_by k a) in
              waits_fewer (d.queue ++ m ∷ []) hd w
              (λ y has r. elim (Has-append y d.queue (m ∷ []) has) [
                | inl b ↦ w.unread y b r
                | inr b ↦ elim b [
                  | inl c ↦ absurd (let z = i.ins.buffer l.from w.taking w.is_active in let u = z.below in
                      let v : m.letter.me ≡ w.taking.fetch = ap (λ (z : Message). z.letter.me) c ∙ r in omega (arith, u, v, fresh))
                  | inr c ↦ absurd c
                ]
              ])
              (λ k y is. w.free k y (fewer k y is))
          | inr a ↦ absurd (let z : DataSave ≡ RamFetch = sym kind ∙ ap (λ (z : Letter). z.kind) (sym a) ∙ k.kind in (cc))
        ];
        born = born_put o d.next_ref (Some []) g.born;
      }

-- fewer messages are held
pub held_known : (d : Desk) (hd : ℕ → Option Message) → Holds_less d hd → (l : Letter) → Known d.queue hd d.last l → Knows d l
held_known d hd fewer l (queued y has eq) = queued y has eq
held_known d hd fewer l (kept k y is eq) = kept k y (fewer k y is) eq
held_known d hd fewer l (latest k y is eq) = latest k y is eq

-- what such a task holds may be put down
pub put_down_good : {o : Offered} {e : ℕ → ℕ → Bool} {d : Desk} (hd : ℕ → Option Message) →
    Holds_less d hd → LiveFile (record d { held = hd }) → Good o e d → Good o e (record d { held = hd })
put_down_good {o} {e} {d} hd fewer live g =
    let knows = held_known d hd fewer in
    record {
      inv = fewer_inv d.queue hd d.last knows g.inv.order.rises (λ y has u. has) live g.inv;
      pending = λ s x q l k.
          let w = g.pending s x q l (known_by k (knows l k.known)) in
          waits_fewer d.queue hd w (λ y has r. w.unread y has r) (λ k y is. w.free k y (fewer k y is));
      born = g.born;
    }

-- ---- the slot of a task without records

pub slot_good : {o : Offered} {e : ℕ → ℕ → Bool} {d : Desk} (h : ℕ) (bl hp : ℕ → Option (List ℕ)) → d.sending h ≡ [] →
    d.taking h ≡ [] → Good o e d → Good o e (record d { block = put d.block h bl; heap = put d.heap h hp })
slot_good {o} {e} {d} h bl hp no_outs no_ins g =
    let i = g.inv in
    record {
      inv = record {
        letters = i.letters;
        outs = outs_less d.sending (put d.block h bl) (λ s w q. q) (λ s x q.
            ap (λ (m : ℕ → Option (List ℕ)). m x.anchor) (put_other d.block h bl s (λ here.
            subst (λ (xs : List Out). Has (Open x) xs) no_outs (subst (λ j. Has (Open x) (d.sending j)) here q)))) i.outs;
        ins = ins_less e d.taking (put d.block h bl) (put d.heap h hp) (λ s w q. q)
            (record {
              before = λ r w q u. u;
              blocks = λ r w q u. ap (λ (m : ℕ → Option (List ℕ)). m (in_anchor w)) (put_other d.block h bl r (λ here.
                  subst (λ (xs : List In). Has w xs) no_ins (subst (λ j. Has w (d.taking j)) here q)));
              heaps = λ r t q. ap (λ (m : ℕ → Option (List ℕ)). m t.buffer) (put_other d.heap h hp r (λ here.
                  none_active t (subst (λ (xs : List In). Active xs t) no_ins (subst (λ j. Active (d.taking j) t) here q))));
            }) i.ins;
        boths = i.boths;
        loads = i.loads;
        files = i.files;
        few = i.few;
        order = i.order;
        alive = i.alive;
        positive = i.positive;
      };
      pending = λ s x q l k. g.pending s x q l k;
      born = g.born;
    }
  where
    none_active : (t : Taking) → Active [] t → ⊥
    none_active t (inl a) = a
    none_active t (inr a) = a

-- ---- what is offered grows at its end

-- what an id offers is the front of what it offers then
abbrev pub Longer : Offered → Offered → ℕ → Type 0
Longer o p id = (all : List ℕ) → o id ≡ Some all → (more : List ℕ) × (p id ≡ Some (all ++ more))

begins_longer : (o p : Offered) (id n : ℕ) (b : Option (List ℕ)) → Longer o p id → Begins o id n b → Begins p id n b
begins_longer o p id n b longer z =
    let w = longer z.all z.offered in
    record {
      all = z.all ++ w.0;
      offered = w.1;
      there = z.there ∙ ap (λ (x : List ℕ). Option.Some x) (sym (take-append-le n z.all w.0 z.fits));
      fits = let y = z.fits in let l = length-append z.all w.0 in omega (arith, y, l);
    }

at_most_longer : (o p : Offered) (id n : ℕ) → Longer o p id → AtMost o id n → AtMost p id n
at_most_longer o p id n longer z =
    let w = longer z.all z.offered in
    record { all = z.all ++ w.0; offered = w.1; fits = let y = z.fits in let l = length-append z.all w.0 in omega (arith, y, l) }

good_longer : (o p : Offered) (w : In) (b : Option (List ℕ)) → is_growing w ≡ true → Longer o p (in_id w) → IsGood o w b → IsGood p w b
good_longer o p (Fetching t) b g longer z = begins_longer o p t.id t.count b longer z
good_longer o p (Draining t) b g longer z = begins_longer o p t.id t.count b longer z
good_longer o p (Asking q) b g longer z = begins_longer o p q.id 0 b longer z
good_longer o p (In_done i a n) b g longer z = absurd (let y : Bool.false ≡ true = g in (cc))
good_longer o p (In_failed i a n) b g longer z = begins_longer o p i n b longer z

counts_longer : (o p : Offered) (w : In) → is_growing w ≡ true → Longer o p (in_id w) → Counts o w → Counts p w
counts_longer o p (Fetching t) g longer z = at_most_longer o p t.id t.count longer z
counts_longer o p (Draining t) g longer z = at_most_longer o p t.id t.count longer z
counts_longer o p (Asking q) g longer z = at_most_longer o p q.id 0 longer z
counts_longer o p (In_done i a n) g longer z = absurd (let y : Bool.false ≡ true = g in (cc))
counts_longer o p (In_failed i a n) g longer z = at_most_longer o p i n longer z

good_same : (o p : Offered) (w : In) (b : Option (List ℕ)) → p (in_id w) ≡ o (in_id w) → IsGood o w b → IsGood p w b
good_same o p (Fetching t) b e z = record { all = z.all; offered = e ∙ z.offered; there = z.there; fits = z.fits }
good_same o p (Draining t) b e z = record { all = z.all; offered = e ∙ z.offered; there = z.there; fits = z.fits }
good_same o p (Asking q) b e z = record { all = z.all; offered = e ∙ z.offered; there = z.there; fits = z.fits }
good_same o p (In_done i a n) b e z = record { all = z.all; offered = e ∙ z.offered; there = z.there }
good_same o p (In_failed i a n) b e z = record { all = z.all; offered = e ∙ z.offered; there = z.there; fits = z.fits }

pub counts_same : (o p : Offered) (w : In) → p (in_id w) ≡ o (in_id w) → Counts o w → Counts p w
counts_same o p (Fetching t) e z = record { all = z.all; offered = e ∙ z.offered; fits = z.fits }
counts_same o p (Draining t) e z = record { all = z.all; offered = e ∙ z.offered; fits = z.fits }
counts_same o p (Asking q) e z = record { all = z.all; offered = e ∙ z.offered; fits = z.fits }
counts_same o p (In_done i a n) e z = record { all = z.all; offered = e ∙ z.offered; whole = z.whole }
counts_same o p (In_failed i a n) e z = record { all = z.all; offered = e ∙ z.offered; fits = z.fits }

-- the one record of the id, which grows, of task h; nobody promised it bytes, and there is no scrap file where it waits for one
pub record Alone (d : Desk) (h : ℕ) (w : In) : Type 0 where
  pub has : Has w (d.taking h)
  pub growing : is_growing w ≡ true
  pub one : (r : ℕ) (v : In) → Has v (d.taking r) → in_id v ≡ in_id w → r ≡ h
  pub outs : (s : ℕ) (v : Out) → Has v (d.sending s) → out_id v ≢ in_id w
  pub unsent : (l : Letter) (t : Taking) → Knows d l → Fetching t ≡ w → l.kind ≡ RamTransmit → l.answers ≡ t.fetch → l.from ≢ t.sender
  pub unsaved : (q : Asked) (f : Scrap) → Asking q ≡ w → d.scrap ≡ Some f → ⊥

pub longer_good : {o : Offered} {e : ℕ → ℕ → Bool} {d : Desk} (h : ℕ) (w : In) (all more : List ℕ) → Alone d h w →
    o (in_id w) ≡ Some all → Good o e d → Good (put o (in_id w) (Some (all ++ more))) e d
longer_good {o} {e} {d} h w all more alone of g =
    let i = g.inv in
    let id = in_id w in
    let p : Offered = put o id (Some (all ++ more)) in
    let same : (j : ℕ) → j ≢ id → p j ≡ o j = λ j ne. put_other o id (Some (all ++ more)) j ne in
    let longer : Longer o p id = λ xs q. (
      more,
      put_same o id (Some (all ++ more)) ∙
          ap (λ (x : List ℕ). Option.Some (x ++ more)) (let z : Some all ≡ Some xs = sym of ∙ q in (let y : all ≡ xs = cc in y)),
    ) in
    let mine : (r : ℕ) (v : In) → Has v (d.taking r) → in_id v ≡ id → v ≡ w = λ r v q eq.
    one_of_id in_id (d.taking h) v w (i.order.ins h) (subst (λ j. Has v (d.taking j)) (alone.one r v q eq) q) alone.has eq in
    let apart : (s : ℕ) (x : Sending) → Has (Open x) (d.sending s) → p x.id ≡ o x.id = λ s x q. same x.id (alone.outs s (Open x) q) in
    record {
      inv = record {
        letters = record {
          below = i.letters.below;
          offers = λ l k. record {
            some = λ kind.
                let z = (i.letters.offers l k).some kind in
                elim (eqb_tells l.me id) [
                  | inl a ↦ (all ++ more, ap p a.1 ∙ put_same o id (Some (all ++ more)))
                  | inr a ↦ (z.0, same l.me a.1 ∙ z.1)
                ];
          };
        };
        outs = record {
          letter = i.outs.letter;
          source = λ s x q. let z = i.outs.source s x q in record {
            all = z.all;
            offered = apart s x q ∙ z.offered;
            there = z.there;
            fits = z.fits;
            unread = z.unread;
            below = z.below;
          };
          counted = λ s j n q. let z = i.outs.counted s j n q in record {
            all = z.all;
            offered = same j (alone.outs s (Out_done j n) q) ∙ z.offered;
            whole = z.whole;
          };
          lasts = i.outs.lasts;
        };
        ins = record {
          letter = i.ins.letter;
          carries = λ l k r t q. record {
            carries = λ a b c.
                let z = (i.ins.carries l k r t q).carries a b c in
                record {
                  all = z.all;
                  bytes = z.bytes;
                  offered = same t.id (λ eq. alone.unsent l t k (mine r (Fetching t) q eq) a b c) ∙ z.offered;
                  there = z.there;
                  same = z.same;
                  fits = z.fits;
                  short = z.short;
                };
          };
          good = λ r v q u. elim (eqb_tells (in_id v) id) [
            | inl a ↦ good_longer o p v _ (subst (λ z. is_growing z ≡ true) (sym (mine r v q a.1)) alone.growing)
                (subst (Longer o p) (sym a.1) longer) (i.ins.good r v q u)
            | inr a ↦ good_same o p v _ (same (in_id v) a.1) (i.ins.good r v q u)
          ];
          counted = λ r v q. elim (eqb_tells (in_id v) id) [
            | inl a ↦ counts_longer o p v (subst (λ z. is_growing z ≡ true) (sym (mine r v q a.1)) alone.growing)
                (subst (Longer o p) (sym a.1) longer) (i.ins.counted r v q)
            | inr a ↦ counts_same o p v (same (in_id v) a.1) (i.ins.counted r v q)
          ];
          buffer = i.ins.buffer;
          buffers = i.ins.buffers;
          documents = i.ins.documents;
          room = i.ins.room;
        };
        boths = i.boths;
        loads = record {
          ack = i.loads.ack;
          file = λ l k r q u. record {
            whole = λ f s a b c.
                same q.id (λ eq. alone.unsaved q f (mine r (Asking q) u eq) s) ∙ (i.loads.file l k r q u).whole f s a b c;
          };
          ack_below = i.loads.ack_below;
          load_below = i.loads.load_below;
        };
        files = i.files;
        few = i.few;
        order = i.order;
        alive = i.alive;
        positive = i.positive;
      };
      pending = λ s x q l k. g.pending s x q l k;
      born = λ j le. same j (λ eq. let z = i.order.in_below h w alone.has in omega (arith, z, eq, le)) ∙ g.born j le;
    }

-- ---- what goes out to such a task

-- a fetch that no record sent
pub record Unfetched (d : Desk) (h : ℕ) (l : Letter) : Type 0 where
  pub below : l.me < d.next_ref
  pub apart : NotTheLoad d.scrap l.me
  pub handle : h < d.next_handle
  pub none : (b : ℕ) (u : Taking) → Active (d.taking b) u → l.me ≢ u.fetch

-- the transmit that answers it
abbrev pub transmit_of : Desk → ℕ → Letter → ℕ → ℕ → Code → Message
transmit_of d h l to n c = record {
  code = c;
  to = to;
  letter = record {
    from = h;
    me = d.next_ref;
    answers = l.me;
    kind = RamTransmit;
    address = l.address;
    amount = n;
  };
}

-- the desk with that message, and the record written anew
abbrev pub answered : Desk → ℕ → Sending → Out → Message → Desk
answered d h x v m = sent (record d { sending = put d.sending h (with_id out_id x.id v (d.sending h)) }) h m

module _ {o : Offered} {e : ℕ → ℕ → Bool} {d : Desk} (h : ℕ) (l : Letter) (x : Sending) (g : Good o e d)
    (is : Has (Open x) (d.sending h)) (u : Unfetched d h l) where
  moved : (to n : ℕ) (v : Out) (c : Code) → out_id v ≡ x.id → OutPart o d h (transmit_of d h l to n c).letter v →
      Good o e (answered d h x v (transmit_of d h l to n c))
  moved to n v c same_id part =
      let i = g.inv in
      let m = transmit_of d h l to n c in
      let vs = with_id out_id x.id v (d.sending h) in
      let s : NewOut o d (put d.sending h vs) h m.letter v = record {
        move = move_with out_id d.sending h x.id v same_id;
        ascends = subst (λ z. Ascend out_id z) (sym (put_same d.sending h vs)) (with_ascends out_id x.id v (d.sending h)
            same_id (i.order.outs h));
        few = few_here d.sending h vs (few_with out_id (d.sending h) x.id v (i.few.outs h));
        elsewhere = put_other d.sending h vs;
        born = let z = i.order.out_below h (Open x) is in omega (arith, z, same_id);
        fresh = refl;
        from = refl;
        not_fetch = λ q. absurd (let z : RamTransmit ≡ RamFetch = q in (cc));
        old = u.below;
        apart_load = u.apart;
        handle = u.handle;
        offers = record { some = λ q. absurd (let z : RamTransmit ≡ DataSave = q in (cc)) };
        carries = λ b t k q f s. absurd (u.none b t (inl q) f);
        older = λ y q ne b t act k f eq. u.none b t act f;
        part = part;
      } in
      record {
        inv = out_inv (put d.sending h vs) h v m s i;
        pending = out_pending (put d.sending h vs) h v m s i (λ s y q ne b k. g.pending s y q b k);
        born = λ j le. g.born j (omega arith);
      }

  -- fewer bytes than were asked for are the last
  pub answered_apart : (to n : ℕ) (source : List ℕ) → d.block h x.anchor ≡ Some source → Portion source x l n → (b : Bool) →
      nat_lt n l.amount ≡ b → Good o e (answered d h x (if b then Out_done x.id (x.count + n) else Open (record x {
        count = x.count + n;
        last = d.next_ref;
      })) (transmit_of d h l to n (if b then Plain else Recorded)))
  answered_apart to n source there p b q =
      let w = g.inv.outs.source h x is in
      let same : source ≡ w.all = same_value (d.block h x.anchor) there w.there in
      let of : o x.id ≡ Some source = w.offered ∙ ap (λ (j : List ℕ). Option.Some j) (sym same) in
      by_length b q of
    where
      by_length : (b : Bool) → nat_lt n l.amount ≡ b → o x.id ≡ Some source →
          Good o e (answered d h x (if b then Out_done x.id (x.count + n) else Open (record x {
            count = x.count + n;
            last = d.next_ref;
          })) (transmit_of d h l to n (if b then Plain else Recorded)))
      by_length true q of =
          let less : n < l.amount = elim (leb_tells (suc n) l.amount) [
            | inl b ↦ b.1
            | inr b ↦ absurd (let u = b.0 in (cc))
          ] in
          moved to n (Out_done x.id (x.count + n)) Plain refl (record { all = source; offered = of; whole = p.short less })
      by_length false q of =
          let born = g.inv.order.out_below h (Open x) is in
          moved to n (Open (record x { count = x.count + n; last = d.next_ref })) Recorded refl (record {
            last = refl;
            same_id = λ k. absurd (let z : RamTransmit ≡ DataSave = k in (cc));
            id = λ b t k r f. absurd (u.none b t (inl r) f);
            level = λ b t k r f. absurd (u.none b t (inl r) f);
            source = record {
              all = source;
              offered = of;
              there = there;
              fits = p.fits;
              unread = λ r. absurd (omega (arith, r, born));
              below = omega arith;
            };
            apart = λ v r z. g.inv.boths.apart h x v is r z;
          })
