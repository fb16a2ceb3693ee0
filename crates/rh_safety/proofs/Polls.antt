-- What is known of a message that a poll takes, and of the fetch among them.
use Rattle.rh_safety.proofs.Common.{nat_le, ◌≡◌, ◌≢◌, ℕ, suc, ◌+◌, ◌≤◌, ◌<◌, Bool, true, false, List, ◌++◌, length, take, drop, Option, Some, None, refl, sym}
use Rattle.rh_safety.proofs.Common.{ap, ◌∙◌, subst, ◌⊎◌, inl, inr, arith, length-drop, if◌then◌else◌, nat_eq, nat_lt, leb_tells, eq-eqb, Code, Plain}
use Rattle.rh_safety.proofs.Common.{Recorded, DataSave, DataLoad, RamFetch, RamTransmit, Letter, Message, Sending, Taking, Out, Open, Out_done, out_id, Has}
use Rattle.rh_safety.proofs.Common.{Active, put, with_id, first_for, without_first, sent, would_answer, put_all, put_same, put_other, and_left, and_right}
use Rattle.rh_safety.proofs.Common.{is_equal, length_take, Ascend, with_ascends, Offered, queued, Knows, Unread, Inv, PendingAt, Good, IsLive, waits}
use Rattle.rh_safety.proofs.Common.{rests, LiveFile, known_by}
use Rattle.std.proofs.lemmas.Bool.Decides.{nat_tests}
use Rattle.rh_safety.proofs.Ends.{Returned}
use Rattle.rh_defs.specs.Sender as sender
use Rattle.rh_safety.proofs.Sight.{Desk, returned, picked, failed, answer_of, lost_if}
use Rattle.rh_safety.proofs.Basics.{first_has, without_has, front_written, length_written}
use Rattle.rh_safety.proofs.Moves.{Move, move_with}
use Rattle.rh_safety.proofs.Filings.{none_live}
use Rattle.rh_safety.proofs.Sends.{few_here, few_with, one_active, Quiet, OutPart, NewOut, out_inv, out_pending}
use Rattle.rh_safety.proofs.Endings.{lost_good, put2_same, write_inv}
use Rattle.rh_safety.proofs.Posts.{OneMore, returned_good, picked_known, picked_inv, picked_pending, first_below}
use Rattle.rh_safety.proofs.Arrivals.{LetterOk, Read, letter_apart, shut_good}

-- ---- RAMFetch

-- what the sender knows where it is to answer; the other records of task h that would answer the fetch are x alone
pub record FetchCall (o : Offered) (e : ℕ → ℕ → Bool) (d : Desk) (h : ℕ) (x : Sending) (l : Letter) : Type 0 where
  pub inv : Inv o e d
  pub others : (s : ℕ) (y : Sending) → Has (Open y) (d.sending s) → (s ≡ h → y.id ≢ x.id) → PendingAt d s y
  pub born : (i : ℕ) → d.next_ref ≤ i → o i ≡ None
  pub read : Read o d h l
  pub is_open : Has (Open x) (d.sending h)
  pub kind : l.kind ≡ RamFetch
  pub from : l.from ≡ x.recipient

-- the record that waits for the answer
pub record Waiter (d : Desk) (h : ℕ) (x : Sending) (l : Letter) : Type 0 where
  pub taking : Taking
  pub is_active : Active (d.taking x.recipient) taking
  pub same_id : taking.id ≡ x.id
  pub sender : taking.sender ≡ h
  pub names : taking.buffer ≡ l.address
  pub amount : l.amount ≡ d.buf x.recipient
  pub newer : x.last < taking.fetch
  pub level : x.count ≡ taking.count

pub record Portion (source : List ℕ) (x : Sending) (l : Letter) (n : ℕ) : Type 0 where
  pub within : n ≤ l.amount
  pub fits : x.count + n ≤ length source
  pub short : n < l.amount → x.count + n ≡ length source

pub portion_ok : (source : List ℕ) (x : Sending) (l : Letter) → x.count ≤ length source →
    Portion source x l (sender.next_part (answer_of l x) (length source)).n
portion_ok source x l le = record { within = omega arith; fits = omega arith; short = λ s. omega arith }

module _ {o : Offered} {e : ℕ → ℕ → Bool} {d : Desk} (h : ℕ) (l : Letter) (x : Sending) (g : FetchCall o e d h x l) where
  pub failed_good : Good o e (failed d h x)
  failed_good = shut_good h x g.inv g.others g.born g.is_open

  module _ (a : Waiter d h x l) where
    -- a record whose fetch this is, is the one that waits
    which : (b : ℕ) (u : Taking) → Active (d.taking b) u → l.me ≡ u.fetch → (b ≡ x.recipient) × (u ≡ a.taking)
    which b u act f =
        let w = g.read.ok.inn b u act in
        let here : b ≡ x.recipient = sym (w.owner f) ∙ g.from in
        let there : Active (d.taking x.recipient) u = subst (λ j. Active (d.taking j) u) here act in (
          here,
          one_active (d.taking x.recipient) u a.taking (g.inv.order.ins x.recipient) there a.is_active
              (g.inv.ins.buffers x.recipient u a.taking there a.is_active (sym (w.names f g.kind) ∙ sym a.names)),
        )

    abbrev filled : List ℕ → List ℕ → ℕ → Desk
    filled source old n = record d {
      heap = put d.heap x.recipient (put (d.heap x.recipient) l.address
          (Some (take n (drop x.count source) ++ drop n old)));
    }

    abbrev told : ℕ → ℕ → Code → Message
    told to n c = record {
      code = c;
      to = to;
      letter = record {
        from = h;
        me = d.next_ref;
        answers = l.me;
        kind = RamTransmit;
        address = l.address;
        amount = n;
      };
    }

    -- the desk once n bytes went out, where the sender's record is v from then on
    abbrev gone : ℕ → List ℕ → List ℕ → ℕ → Out → Code → Desk
    gone to source old n v c =
        sent (record (filled source old n) { sending = put d.sending h (with_id out_id x.id v (d.sending h)) }) h
        (told to n c)

    -- n bytes are moved, and the sender's record is v from then on
    moved_good : (to : ℕ) (source old : List ℕ) (n : ℕ) (v : Out) (c : Code) → o x.id ≡ Some source →
        d.heap x.recipient l.address ≡ Some old → l.amount ≤ length old → Portion source x l n →
        out_id v ≡ x.id → OutPart o (filled source old n) h (told to n c).letter v → Good o e (gone to source old n v c)
    moved_good to source old n v c of there room p same_id opens =
        let i = g.inv in
        let r = x.recipient in
        let t = a.taking in
        let part : List ℕ = take n (drop x.count source) in
        let new : List ℕ = part ++ drop n old in
        let size : length part ≡ n = let f = p.fits in length_take n (drop x.count source) (simp length-drop
        (omega arith)) in
        let fits_old : n ≤ length old = let w = p.within in omega arith in
        let names = a.names in
        let hp : ℕ → ℕ → Option (List ℕ) = put d.heap r (put (d.heap r) l.address (Some new)) in
        let d1 : Desk = record d { heap = hp } in
        let step1 : Inv o e d1 =
        subst (λ b. Inv o e (record d { heap = put d.heap r (put (d.heap r) b (Some new)) })) names
        (write_inv r t old new a.is_active (ap (d.heap r) names ∙ there) (length_written n part old size fits_old)
        (λ y u k q w f b same.
        let z : u ≡ t = one_active (d.taking r) u t (i.order.ins r) (inl w) a.is_active same in
        let from : y.from ≡ h = b ∙ ap (λ (j : Taking). j.sender) z ∙ a.sender in
        let older = (i.boths.older y k h x g.is_open r t a.is_active).older q from (f ∙ ap (λ (j : Taking). j.fetch)
        z) (sym a.same_id) in
        let newer = a.newer in
        let late : u.fetch ≡ t.fetch = ap (λ (j : Taking). j.fetch) z in
        omega arith) i) in
        let m : Message = told to n c in
        let mv : Move out_id d.sending (put d.sending h (with_id out_id x.id v (d.sending h))) h v = move_with out_id
        d.sending h x.id v same_id in
        let sent_out : NewOut o d1 (put d.sending h (with_id out_id x.id v (d.sending h))) h m.letter v = record {
          move = mv;
          ascends = subst (λ z. Ascend out_id z) (sym (put_same d.sending h (with_id out_id x.id v (d.sending h))))
              (with_ascends out_id x.id v (d.sending h) same_id (i.order.outs h));
          few = few_here d.sending h (with_id out_id x.id v (d.sending h)) (few_with out_id (d.sending h) x.id v
              (i.few.outs h));
          elsewhere = put_other d.sending h (with_id out_id x.id v (d.sending h));
          born = let z = i.order.out_below h (Open x) g.is_open in omega arith;
          fresh = refl;
          from = refl;
          not_fetch = λ q. absurd (let z : RamTransmit ≡ RamFetch = q in (cc));
          old = g.read.ok.below.me;
          apart_load = letter_apart g.read (λ k. let z : RamFetch ≡ DataLoad = sym g.kind ∙ k in (cc));
          handle = g.read.handle;
          offers = record { some = λ q. absurd (let z : RamTransmit ≡ DataSave = q in (cc)) };
          carries = λ b u k q f s.
              let mine = which b u (inl q) f in
              let z = mine.1 in
              let w = p.fits in
              let level : x.count ≡ u.count = a.level ∙ ap (λ (j : Taking). j.count) (sym z) in
              let address : u.buffer ≡ l.address = ap (λ (j : Taking). j.buffer) z ∙ names in
              let amount : l.amount ≡ d.buf b = a.amount ∙ ap d.buf (sym mine.0) in
              record {
                all = source;
                bytes = new;
                offered = ap o (ap (λ (j : Taking). j.id) z ∙ a.same_id) ∙ of;
                there = subst (λ j. hp j u.buffer ≡ Some new) (sym mine.0) (ap (hp r) address ∙ put2_same d.heap r
                    l.address (Some new));
                same = front_written n part old size ∙ ap (λ j. take n (drop j source)) level;
                fits = omega arith;
                short = λ s. let y : n < l.amount = omega arith in let short = p.short y in omega arith;
              };
          older = λ y q ne b u act k f eq. ne (eq ∙ ap (λ (j : Taking). j.id) (which b u act f).1 ∙ a.same_id ∙
              sym same_id);
          part = opens;
        } in
        record {
          inv = out_inv (put d.sending h (with_id out_id x.id v (d.sending h))) h v m sent_out step1;
          pending = out_pending (put d.sending h (with_id out_id x.id v (d.sending h))) h v m sent_out step1
              (λ s y q ne b k. g.others s y q (λ here eq. ne here (eq ∙ sym same_id)) b k);
          born = λ j le. g.born j (omega arith);
        }

    -- a short answer is the last
    pub answered_good : (to : ℕ) (source old : List ℕ) (n : ℕ) → source ≡ (g.inv.outs.source h x g.is_open).all →
        d.heap x.recipient l.address ≡ Some old → l.amount ≤ length old → Portion source x l n → (b : Bool) →
        nat_lt n l.amount ≡ b →
        Good o e (gone to source old n (if b then Out_done x.id (x.count + n) else Open (record x {
          count = x.count + n;
          last = d.next_ref;
        })) (if b then Plain else Recorded))
    answered_good to source old n eq there room p b q =
        let w = g.inv.outs.source h x g.is_open in
        let of : o x.id ≡ Some source = w.offered ∙ ap (λ (j : List ℕ). Option.Some j) (sym eq) in
        by_length b q of
      where
        by_length : (b : Bool) → nat_lt n l.amount ≡ b → o x.id ≡ Some source →
            Good o e (gone to source old n (if b then Out_done x.id (x.count + n) else Open (record x {
              count = x.count + n;
              last = d.next_ref;
            })) (if b then Plain else Recorded))
        by_length true q of =
            let less : n < l.amount = elim (leb_tells (suc n) l.amount) [
              | inl b ↦ b.1
              | inr b ↦ absurd (let u = b.0 in (cc))
            ] in
            moved_good to source old n (Out_done x.id (x.count + n)) Plain of there room p refl (record {
              all = source;
              offered = of;
              whole = p.short less;
            })
        by_length false q of =
            let w = g.inv.outs.source h x g.is_open in
            let born = g.inv.order.out_below h (Open x) g.is_open in
            moved_good to source old n (Open (record x { count = x.count + n; last = d.next_ref })) Recorded of there
            room p refl
            (record {
              last = refl;
              same_id = λ k. absurd (let z : RamTransmit ≡ DataSave = k in (cc));
              id = λ b u k r f. sym a.same_id ∙ ap (λ (j : Taking). j.id) (sym (which b u (inl r) f).1);
              level = λ b u k r f. ap (λ j. j + n) (a.level ∙ ap (λ (j : Taking). j.count) (sym (which b u (inl r)
                  f).1));
              source = record {
                all = source;
                offered = of;
                there = w.there ∙ ap (λ (j : List ℕ). Option.Some j) (sym eq);
                fits = p.fits;
                unread = λ r. absurd (omega arith);
                below = omega arith;
              };
              apart = λ u r z. g.inv.boths.apart h x u g.is_open r z;
            })

pub would_true : (x : Sending) (l : Letter) → l.from ≡ x.recipient → l.answers ≡ x.last → 0 < l.amount →
    would_answer l x ≡ true
would_true x l a b c =
    let w1 : nat_eq l.from x.recipient ≡ true = eq-eqb _ _ a in
    let w2 : nat_eq l.answers x.last ≡ true = eq-eqb _ _ b in
    let w3 : nat_le 1 l.amount ≡ true = grind (arith, nat_tests) in
    rw (w1, w2, w3) refl

pub record Would (x : Sending) (l : Letter) : Type 0 where
  pub from : l.from ≡ x.recipient
  pub answers : l.answers ≡ x.last

pub would_tells : (x : Sending) (l : Letter) → would_answer l x ≡ true → Would x l
would_tells x l q =
    let q1 = and_left _ (nat_le 1 l.amount) q in
    record {
      from = is_equal _ _ (and_left (nat_eq l.from x.recipient) _ q1);
      answers = is_equal _ _
          (and_right _ (nat_eq l.answers x.last) q1);
    }

-- ---- polls

pub put_one : (d : Desk) (h : ℕ) (m : Message) → OneMore d.held (put d.held h (Some m)) m
put_one d h m k y r = put_all (λ j z. z ≡ Some y → (d.held j ≡ Some y) ⊎ (m ≡ y)) d.held h (Some m)
    (λ a. inr (let z : m ≡ y = cc in z)) (λ j ne a. inl a) k r

unpicked : (d : Desk) (h : ℕ) (m : Message) (hd : ℕ → Option Message) {ref : ℕ} → first_for h d.queue ≡ Some m → OneMore d.held hd m →
    IsLive (without_first h d.queue) hd ref → IsLive d.queue d.held ref
unpicked d h m hd first one (waits y has same) = waits y (without_has h d.queue y has) same
unpicked d h m hd first one (rests k y is same) = elim (one k y is) [
  | inl a ↦ rests k y a same
  | inr a ↦ waits m (first_has h d.queue m first).0 (ap (λ (z : Message). z.letter.me) a ∙ same)
]

-- what a handler is given: the desk after the taking, and the letter taken
pub record Taken (o : Offered) (e : ℕ → ℕ → Bool) (d : Desk) (h : ℕ) (l : Letter) : Type 0 where
  pub inv : Inv o e d
  pub born : (i : ℕ) → d.next_ref ≤ i → o i ≡ None
  pub read : Read o d h l
  -- nothing was lost for a record that would not answer it
  pub others : (s : ℕ) (x : Sending) → Has (Open x) (d.sending s) →
      (s ≡ h → l.kind ≡ RamFetch → would_answer l x ≡ true → d.file h ≡ false → ⊥) → PendingAt d s x
  -- and where one would, the fetch's sender still holds the buffer
  pub waiter : (x : Sending) → Has (Open x) (d.sending h) → l.kind ≡ RamFetch → would_answer l x ≡ true →
      d.file h ≡ false → d.live x.recipient ≡ true → Waiter d h x l

-- another letter than a fetch
pub not_fetch_good : {o : Offered} {e : ℕ → ℕ → Bool} {d : Desk} (h : ℕ) (l : Letter) → Taken o e d h l →
    (l.kind ≡ RamFetch → ⊥) → Good o e d
not_fetch_good h l t other = record {
  inv = t.inv;
  pending = λ s x q. t.others s x q (λ here k. absurd (other k));
  born = t.born;
}

module _ {o : Offered} {e : ℕ → ℕ → Bool} {d : Desk} (h : ℕ) (l : Letter) (t : Taken o e d h l) where
  -- a fetch that no record would answer
  pub unanswered_good : ((x : Sending) → Has (Open x) (d.sending h) → would_answer l x ≡ true → d.file h ≡ false → ⊥) →
      Good o e d
  unanswered_good none = record {
    inv = t.inv;
    pending = λ s x r. t.others s x r (λ here c f y. none x (subst (λ j. Has (Open x) (d.sending j)) here r) f y);
    born = t.born;
  }

  -- a fetch that a record answers
  pub called : l.kind ≡ RamFetch → d.file h ≡ false → (x : Sending) → Has (Open x) (d.sending h) → would_answer l x ≡ true →
      FetchCall o e d h x l
  called k file x has passes =
      let u = would_tells x l passes in
      record {
        inv = t.inv;
        others = λ s y r ne. t.others s y r (λ here c f n. ne here (t.inv.outs.lasts h y x
            (subst (λ j. Has (Open y) (d.sending j)) here r) has (sym (would_tells y l f).answers ∙ u.answers)));
        born = t.born;
        read = t.read;
        is_open = has;
        kind = k;
        from = u.from;
      }

module _ {o : Offered} {e : ℕ → ℕ → Bool} {d : Desk} (h : ℕ) (m : Message) (g : Good o e d)
    (is_first : first_for h d.queue ≡ Some m) (handle : h < d.next_handle) where
  here : Has m d.queue
  here = (first_has h d.queue m is_first).0

  to : m.to ≡ h
  to = (first_has h d.queue m is_first).1

  letter_ok : LetterOk o d m.letter
  letter_ok =
      let i = g.inv in
      let k : Knows d m.letter = queued m here refl in
      record {
        below = i.letters.below m.letter k;
        offers = i.letters.offers m.letter k;
        out = i.outs.letter m.letter k;
        inn = i.ins.letter m.letter k;
        carries = i.ins.carries m.letter k;
        older = i.boths.older m.letter k;
        ahead = i.boths.ahead m.letter k;
        ack = i.loads.ack m.letter k;
        file = i.loads.file m.letter k;
        loads = λ f s. (i.files f s).kinds m.letter k;
      }

  pub taken : Unread m → (hd : ℕ → Option Message) → OneMore d.held hd m →
      LiveFile (record d { queue = without_first h d.queue; held = hd }) → Taken o e (record d {
        queue = without_first h d.queue;
        held = hd;
      }) h m.letter
  taken un hd one live = record {
    inv = picked_inv h m hd here one live g.inv;
    born = g.born;
    read = record {
      ok = record {
        below = letter_ok.below;
        offers = letter_ok.offers;
        out = letter_ok.out;
        inn = letter_ok.inn;
        carries = letter_ok.carries;
        older = letter_ok.older;
        ahead = letter_ok.ahead;
        ack = letter_ok.ack;
        file = letter_ok.file;
        loads = letter_ok.loads;
      };
      handle = handle;
      past = λ w q. g.inv.order.above h w m q here un to;
      next_up = λ y has u eq. first_below h d.queue m is_first g.inv.order.rises y has eq un u;
    };
    others = λ s x q never. picked_pending h m hd here one g.inv s x
        (λ l a f pos wait n file. let same : s ≡ h = sym wait.to ∙ to in never same wait.kind (would_true x m.letter
        (wait.from ∙ f) (wait.answers ∙ a) (omega arith)) (ap d.file (sym same) ∙ file))
        (g.pending s x q);
    waiter = λ x q k w file live.
        let u = would_tells x m.letter w in
        let from = u.from in
        let alive : d.live m.letter.from ≡ true = rw from live in
        let v = g.pending h x q m.letter (record {
          known = queued m here refl;
          kind = k;
          answers = u.answers;
          from = from;
          live = alive;
          fetches = file;
        }) in
        record {
          taking = v.taking;
          is_active = subst (λ j. Active (d.taking j) v.taking) from v.is_active;
          same_id = v.same_id;
          sender = v.sender;
          names = v.names;
          amount = v.amount ∙ ap d.buf from;
          newer = v.newer;
          level = v.level;
        };
  }

  -- a message that came back
  pub back_ready : m.code ≡ Returned → LiveFile (picked d h m Returned) → Good o e (picked d h m Returned) × ((t : Taking) → Active (d.taking h) t →
      m.letter.me ≡ t.fetch → Quiet (picked d h m Returned) h t.id)
  back_ready code safe =
      let one : OneMore d.held d.held m = λ k y q. inl q in (
        record {
          inv = picked_inv h m d.held here one safe g.inv;
          pending = λ s x q. picked_pending h m d.held here one g.inv s x (λ l a f pos wait n file. let z : Returned ≡
              Recorded = sym code ∙ wait.code in (cc)) (g.pending s x q);
          born = g.born;
        },
        λ t act eq s x q l k from same.
            let w = g.pending s x q l (known_by k (picked_known d h m d.held here one l k.known)) in
            let z : w.taking ≡ t = one_active (d.taking h) w.taking t (g.inv.order.ins h) (subst (λ j.
            Active (d.taking j) w.taking) from w.is_active) act (w.same_id ∙ same) in
            let wait = w.unread m here (eq ∙ ap (λ (y : Taking). y.fetch) (sym z)) in
            let y : Returned ≡ Recorded = sym code ∙ wait.code in absurd (cc),
      )

  -- a message that wants no answer, or is held
  pub came_taken : (c : Code) → m.code ≡ c → (c ≡ Returned → ⊥) → LiveFile (picked d h m c) → Taken o e (picked d h m c) h m.letter
  came_taken Plain q ne live = taken (λ r. ne (sym q ∙ r)) d.held (λ k y r. inl r) live
  came_taken Recorded q ne live = taken (λ r. ne (sym q ∙ r)) (put d.held h (Some m)) (put_one d h m) live
  came_taken Returned q ne live = absurd (ne refl)

-- what a task holds goes back, and with it the scrap file, or not
pub left_good : {o : Offered} {e : ℕ → ℕ → Bool} {d : Desk} (b : Bool) (h : ℕ) (v : Option Message) → d.held h ≡ v →
    LiveFile (lost_if b (returned d h v)) → Good o e d → Good o e (lost_if b (returned d h v))
left_good true h None is live g = lost_good g
left_good true h (Some m) is live g = returned_good h (Some m) is (λ f. none_live f) (lost_good g)
left_good false h v is live g = returned_good h v is live g

-- a message that is queued or held once another one was picked was so before
pub unpicked_live : (d : Desk) (h : ℕ) (m : Message) (c : Code) → first_for h d.queue ≡ Some m → LiveFile (picked d h m c) → LiveFile d
unpicked_live d h m Plain first live f s = unpicked d h m d.held first (λ k y r. inl r) (live f s)
unpicked_live d h m Recorded first live f s = unpicked d h m (put d.held h (Some m)) first (put_one d h m) (live f s)
unpicked_live d h m Returned first live f s = unpicked d h m d.held first (λ k y r. inl r) (live f s)

pub lost_if_handle : (d : Desk) (b : Bool) (h : ℕ) → h < d.next_handle → h < (lost_if b d).next_handle
lost_if_handle d true h lt = lt
lost_if_handle d false h lt = lt

pub returned_handle : (d : Desk) (v : Option Message) (h k : ℕ) → k < d.next_handle → k < (returned d h v).next_handle
returned_handle d None h k lt = lt
returned_handle d (Some m) h k lt = lt
