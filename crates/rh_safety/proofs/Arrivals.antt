-- What a DataSave, a transmit, a failure and the scrap file make of the records keeps the invariant.
use Rattle.rh_safety.proofs.Common.{nat_le, ◌≡◌, ◌≢◌, ℕ, ◌+◌, ◌≤◌, ◌<◌, Bool, true, false, List, [], ◌++◌, length, take, drop, Option, Some, None, refl, sym}
use Rattle.rh_safety.proofs.Common.{ap, ◌∙◌, subst, inl, inr, arith, nat_eq, eqb_tells, leb_tells, Plain, Recorded, DataSave, RamFetch, RamTransmit, DataLoad}
use Rattle.rh_safety.proofs.Common.{Letter, Message, Sending, Taking, Asked, Out, Open, Out_done, Out_failed, In, Fetching, Draining, Asking, In_done}
use Rattle.rh_safety.proofs.Common.{In_failed, out_id, in_id, in_anchor, is_going, is_growing, Has, Active, put, how_many, one_more, with_id, put_same}
use Rattle.rh_safety.proofs.Common.{put_other, same_value, none_some, and_left, and_right, is_equal, Ascend, with_ascends, Offered, Knows, LetterIn}
use Rattle.rh_safety.proofs.Common.{LetterCarries, Counted, Begins, Untouched, IsGood, Unread, Inv, IsWaiting, PendingAt, Good}
use Rattle.std.proofs.lemmas.Grind.{common_steps}
use Rattle.rh_safety.proofs.Ends.{DataSaveAck, DataLoadAck}
use Rattle.rh_defs.specs.Receiver.{is_answer}
use Rattle.rh_safety.proofs.Sight.{Desk, Scrap, begun, ended, bytes_of, longer, fetched, given_up, with_in, copied, told, with_out, failed, filed}
use Rattle.rh_safety.proofs.Basics.{length_more, take_more, with_puts, more_keeps, more_puts, more_ascends}
use Rattle.rh_safety.proofs.Invariant.{LetterAck, LetterFile, Below, Offers, LetterOut, LetterOlder, LetterAhead, Carries, AtMost, Whole, at_most}
use Rattle.rh_safety.proofs.Moves.{Move, OutOk, BothOutOk, move_with, move_more, outs_move, boths_out}
use Rattle.rh_safety.proofs.Filings.{NotTheLoad, filed_new, none_apart, record_apart}
use Rattle.rh_safety.proofs.Sends.{few_put, few_here, few_with, sent_knows, put_ascends, order_out, one_active, KeepsActive, Quiet, NewOut, out_inv}
use Rattle.rh_safety.proofs.Sends.{out_pending, NewFetch, fetch_inv, fetch_pending}
use Rattle.rh_safety.proofs.Endings.{asked_over, tell_good, lost_good, put2_other, put2_same, keeps_with, Ends, ended_good, active_id, heap_inv}

-- a letter that was known when it was taken
pub record LetterOk (o : Offered) (d : Desk) (l : Letter) : Type 0 where
  pub below : Below d.next_ref d.next_handle l
  pub offers : Offers o l
  pub out : (s : ℕ) (x : Sending) → Has (Open x) (d.sending s) → LetterOut l s x
  pub inn : (r : ℕ) (t : Taking) → Active (d.taking r) t → LetterIn l r t
  pub carries : (r : ℕ) (t : Taking) → Has (Fetching t) (d.taking r) → LetterCarries o l t (d.heap r) (d.buf r)
  pub older : (s : ℕ) (x : Sending) → Has (Open x) (d.sending s) → (r : ℕ) (t : Taking) → Active (d.taking r) t →
      LetterOlder l s x t
  pub ahead : (s : ℕ) (x : Sending) → Has (Open x) (d.sending s) → (r : ℕ) (t : Taking) →
      Has (Fetching t) (d.taking r) → LetterAhead l s x t
  pub ack : (r : ℕ) (q : Asked) → Has (Asking q) (d.taking r) → LetterAck l q
  pub file : (r : ℕ) (q : Asked) → Has (Asking q) (d.taking r) → LetterFile o d.scrap l q
  pub loads : (f : Scrap) → d.scrap ≡ Some f → l.me ≡ f.load → l.kind ≡ DataLoad

-- what a handler of task h is given: the letter, and where its ref stands
pub record Read (o : Offered) (d : Desk) (h : ℕ) (l : Letter) : Type 0 where
  pub ok : LetterOk o d l
  pub handle : h < d.next_handle
  pub past : (w : In) → Has w (d.taking h) → in_id w < l.me
  pub next_up : (m : Message) → Has m d.queue → Unread m → m.to ≡ h → l.me < m.letter.me

-- another letter than a DataLoad has another ref than the scrap file's
pub letter_apart : {o : Offered} {d : Desk} {h : ℕ} {l : Letter} → Read o d h l → (l.kind ≡ DataLoad → ⊥) →
    NotTheLoad d.scrap l.me
letter_apart rd other f s eq = other (rd.ok.loads f s eq)

-- ---- quiet records

-- a record of the id would hold a buffer
waiting_active : {o : Offered} {e : ℕ → ℕ → Bool} {d : Desk} (h i : ℕ) → Good o e d →
    ((w : Taking) → Active (d.taking h) w → w.id ≡ i → (s : ℕ) (x : Sending) → Has (Open x) (d.sending s) → x.id ≡ i →
    w.sender ≡ s → x.last < w.fetch →
    (l : Letter) → ((m : Message) → Has m d.queue → m.letter.me ≡ w.fetch → IsWaiting m s l) →
    ((k : ℕ) (m : Message) → d.held k ≡ Some m → m.letter.me ≢ w.fetch) → ⊥) → Quiet d h i
waiting_active {o} {e} {d} h i g never s x q l k from same =
    let w = g.pending s x q l k in
    never w.taking (subst (λ j. Active (d.taking j) w.taking) from w.is_active) (w.same_id ∙ same) s x q same w.sender
    w.newer l w.unread w.free

-- a reader of the transmit that answers its fetch waits for nothing
pub read_quiet : {o : Offered} {e : ℕ → ℕ → Bool} {d : Desk} (h : ℕ) (t : Taking) (n : Letter) → Active (d.taking h) t →
    n.kind ≡ RamTransmit → n.from ≡ t.sender → n.answers ≡ t.fetch → LetterOk o d n → Good o e d → Quiet d h t.id
read_quiet {o} {e} {d} h t n act kind from answers ok g =
    waiting_active h t.id g (λ w a same s x q i sender newer l unread free.
    let z : w ≡ t = one_active (d.taking h) w t (g.inv.order.ins h) a act same in
    let to : t.sender ≡ s = subst (λ (y : Taking). y.sender ≡ s) z sender in
    let lt : x.last < t.fetch = subst (λ (y : Taking). x.last < y.fetch) z newer in
    let older = (ok.older s x q h t act).older kind (from ∙ to) answers i in omega arith)

-- ---- DataSave

pub has_block : (o : Offered) (w : In) (b : Option (List ℕ)) → IsGood o w b → (bytes : List ℕ) × (b ≡ Some bytes)
has_block o (Fetching t) b z = (_, z.there)
has_block o _ b z = (_, z.there)

keeps_more : (old : ℕ → List In) (h most i : ℕ) (v : In) →
    KeepsActive old (put old h (one_more most is_going (old h) v)) h i
keeps_more old h most i v r t act ne =
    elim (eqb_tells r h) [
      | inl w ↦ rw w.0 (elim act [
        | inl a ↦ inl (more_keeps most is_going (old h) v (Fetching t) (subst (λ j. Has (Fetching t) (old j)) w.1 a)
            refl)
        | inr a ↦ inr (more_keeps most is_going (old h) v (Draining t) (subst (λ j. Has (Draining t) (old j)) w.1 a)
            refl)
      ])
      | inr w ↦ rw w.0 act
    ]

-- a first fetch was sent
pub record Began (d : Desk) (h : ℕ) (l : Letter) (after : Desk) : Type 0 where
  pub anchor : ℕ
  pub address : ℕ
  pub bytes : List ℕ
  pub raw : Bool
  pub free_anchor : d.block h anchor ≡ None
  pub free_address : d.heap h address ≡ None
  pub size : d.buf h ≤ length bytes
  pub few : how_many is_going (d.taking h) < d.most
  pub seen : after ≡ begun d h anchor address bytes l raw

pub began_good : {o : Offered} {e : ℕ → ℕ → Bool} {d : Desk} (h : ℕ) (l : Letter) → Good o e d → Read o d h l →
    l.kind ≡ DataSave → (after : Desk) → Began d h l after → Good o e after
began_good {o} {e} {d} h l g rd kind after b =
    let anchor = b.anchor in
    let address = b.address in
    let bytes = b.bytes in
    let size = b.size in
    let i = g.inv in
    let ok = rd.ok in
    let bl : ℕ → ℕ → Option (List ℕ) = put d.block h (put (d.block h) anchor (Some [])) in
    let hp : ℕ → ℕ → Option (List ℕ) = put d.heap h (put (d.heap h) address (Some bytes)) in
    let t : Taking = record {
      id = l.me;
      sender = l.from;
      anchor = anchor;
      buffer = address;
      count = 0;
      fetch = d.next_ref;
      raw = b.raw;
    } in
    let new : ℕ → List In = put d.taking h (one_more d.most is_going (d.taking h) (Fetching t)) in
    let of = ok.offers.some kind in
    let no_buffer : (u : Taking) → Active (d.taking h) u → u.buffer ≢ address = λ u a eq. let w = i.ins.buffer h
    u a in none_some (d.heap h address) b.free_address (subst (λ j. d.heap h j ≡ Some w.bytes) eq w.there) in
    let no_document : (w : In) → Has w (d.taking h) → Untouched (e h) w → in_anchor w ≢ anchor = λ w q u eq.
    let z = has_block o w (d.block h (in_anchor w)) (i.ins.good h w q u) in none_some (d.block h anchor)
    b.free_anchor (subst (λ j. d.block h j ≡ Some z.0) eq z.1) in
    let no_source : (x : Sending) → Has (Open x) (d.sending h) → x.anchor ≢ anchor = λ x q eq. let w =
    i.outs.source h x q in none_some (d.block h anchor) b.free_anchor (subst (λ j. d.block h j ≡ Some w.all) eq
    w.there) in
    let d1 : Desk = record d { heap = hp } in
    let step1 : Inv o e d1 = heap_inv h address (Some bytes) no_buffer i in
    let quiet : Quiet d1 h l.me = λ s x q n k from eq.
    let w = g.pending s x q n k in
    let a : Active (d.taking h) w.taking = subst (λ j. Active (d.taking j) w.taking) from w.is_active in
    let less : w.taking.id < l.me = elim a as (λ _. w.taking.id < l.me) [
      | inl b ↦ rd.past (Fetching w.taking) b
      | inr
          b ↦ rd.past (Draining w.taking) b
    ] in
    let same = w.same_id in
    omega arith in
    let me : l.me < d.next_ref = ok.below.me in
    let nf : NewFetch o e d1 new bl h t l.me = record {
      move = move_more in_id d.taking h d.most is_going (Fetching t) (λ w q eq. let z = rd.past w q in omega arith);
      keeps = keeps_more d.taking h d.most l.me (Fetching t);
      puts = subst (λ z. Active z t) (sym (put_same d.taking h (one_more d.most is_going (d.taking h) (Fetching t))))
          (inl (more_puts d.most is_going (d.taking h) (Fetching t)));
      ascends = subst (λ z. Ascend in_id z) (sym (put_same d.taking h (one_more d.most is_going (d.taking h)
          (Fetching t)))) (more_ascends in_id d.most is_going (d.taking h) (Fetching t) (i.order.ins h) rd.past);
      few = few_here d.taking h (one_more d.most is_going (d.taking h) (Fetching t)) (length_more d.most is_going
          (d.taking h) (Fetching t) b.few (i.few.ins h));
      elsewhere = put_other d.taking h (one_more d.most is_going (d.taking h) (Fetching t));
      born = me;
      above = rd.next_up;
      fresh = refl;
      old = me;
      apart_load = letter_apart rd (λ k. let z : DataSave ≡ DataLoad = sym kind ∙ k in (cc));
      own_load = letter_apart rd (λ k. let z : DataSave ≡ DataLoad = sym kind ∙ k in (cc));
      handle = rd.handle;
      sources = λ s x q. put2_other d.block h anchor (Some []) s x.anchor (λ here. no_source x
          (subst (λ j. Has (Open x) (d.sending j)) here q));
      same = λ r w q ne u. put2_other d.block h anchor (Some []) r (in_anchor w) (λ here. no_document w
          (subst (λ j. Has w (d.taking j)) here q) (subst (λ j. Untouched (e j) w) here u));
      begins = record {
        all = of.0;
        offered = of.1;
        there = put2_same d.block h anchor (Some []);
        fits = omega arith;
      };
      buffer = record {
        bytes = bytes;
        there = put2_same d.heap h address (Some bytes);
        size = size;
        below = omega arith;
      };
      buffers = λ u a ne. no_buffer u a;
      documents = λ w q u ne. no_document w q u;
      apart = no_source;
    } in
    subst (λ z. Good o e z) (sym b.seen) (record {
      inv = fetch_inv new bl h t l.me nf step1;
      pending = fetch_pending new bl h t l.me nf step1 quiet
          (λ s x q c f. let w = ok.out s x q in let same = w.same_id c kind in
          (c ∙ sym same, w.owner c, (i.outs.source s x q).unread (sym same)))
          (λ s x q n k. g.pending s x q n k);
      born = λ j le. g.born j (omega arith);
    })

-- ---- RAMTransmit

pub record Matched (d : Desk) (h : ℕ) (t : Taking) (l : Letter) : Type 0 where
  pub from : l.from ≡ t.sender
  pub answers : l.answers ≡ t.fetch
  pub address : l.address ≡ t.buffer
  pub amount : l.amount ≤ d.buf h

pub matched : (d : Desk) (h : ℕ) (t : Taking) (l : Letter) → is_answer (d.buf h) l.from l.answers l.address l.amount t
    ≡ true →
    Matched d h t l
matched d h t l q =
    let q3 = and_left _ (nat_le l.amount (d.buf h)) q in
    let q2 = and_left _ (nat_eq l.address t.buffer) q3 in
    record {
      from = is_equal _ _ (and_left (nat_eq l.from t.sender) _ q2);
      answers = is_equal _ _ (and_right _ (nat_eq l.answers t.fetch) q2);
      address = is_equal _ _ (and_right _ (nat_eq l.address t.buffer) q3);
      amount = elim (leb_tells l.amount (d.buf h)) [
        | inl w ↦ w.1
        | inr w ↦ absurd (let a = w.0 in let b = and_right _
            (nat_le l.amount (d.buf h)) q in (cc))
      ];
    }

-- the document with the buffer's bytes at its end
abbrev pub grown_block : Desk → ℕ → Taking → ℕ → ℕ → ℕ → Option (List ℕ)
grown_block d h t n = put d.block h (put (d.block h) t.anchor (Some (bytes_of (d.block h t.anchor) ++ take n
    (bytes_of (d.heap h t.buffer)))))

record Grown (o : Offered) (e : ℕ → ℕ → Bool) (d : Desk) (h : ℕ) (t : Taking) (n : ℕ) : Type 0 where
  begins : Begins o t.id (t.count + n) (grown_block d h t n h t.anchor)
  short : n < d.buf h → Whole o t.id (grown_block d h t n h t.anchor)
  last : n < d.buf h → Counted o t.id (t.count + n)
  sources : (s : ℕ) (x : Sending) → Has (Open x) (d.sending s) → grown_block d h t n s x.anchor ≡ d.block s x.anchor
  same : (r : ℕ) (w : In) → Has w (d.taking r) → (r ≡ h → in_id w ≢ t.id) → Untouched (e r) w →
      grown_block d h t n r (in_anchor w) ≡ d.block r (in_anchor w)

pub take_whole : (n : ℕ) (xs : List ℕ) → n ≡ length xs → take n xs ≡ xs
take_whole n xs e = grind (arith, common_steps)

grown : {o : Offered} {e : ℕ → ℕ → Bool} {d : Desk} (h : ℕ) (t : Taking) (l : Letter) → Inv o e d →
    Has (Fetching t) (d.taking h) → Carries o l t (d.heap h) (d.buf h) → Grown o e d h t l.amount
grown {o} {e} {d} h t l i is c =
    let n = l.amount in
    let doc : Begins o t.id t.count (d.block h t.anchor) = i.ins.good h (Fetching t) is tt in
    let all = doc.all in
    let same : c.all ≡ all = same_value (o t.id) c.offered doc.offered in
    let old : bytes_of (d.block h t.anchor) ≡ take t.count all = ap bytes_of doc.there in
    let part : take n (bytes_of (d.heap h t.buffer)) ≡ take n (drop t.count all) = ap (λ b. take n (bytes_of b))
    c.there ∙ c.same ∙ ap (λ (x : List ℕ). take n (drop t.count x)) same in
    let new = bytes_of (d.block h t.anchor) ++ take n (bytes_of (d.heap h t.buffer)) in
    let eq : new ≡ take (t.count + n) all = ap (λ (x : List ℕ). x ++ take n (bytes_of (d.heap h t.buffer))) old ∙
    ap (λ (x : List ℕ). take t.count all ++ x) part ∙ sym (take_more t.count n all) in
    let there : grown_block d h t n h t.anchor ≡ Some new = put2_same d.block h t.anchor (Some new) in
    let fits : t.count + n ≤ length all = subst (λ (x : List ℕ). t.count + n ≤ length x) same c.fits in
    record {
      begins = record {
        all = all;
        offered = doc.offered;
        there = there ∙ ap (λ (x : List ℕ). Option.Some x) eq;
        fits = fits;
      };
      short = λ less. record {
        all = all;
        offered = doc.offered;
        there = there ∙ ap (λ (x : List ℕ). Option.Some x)
            (eq ∙ take_whole (t.count + n) all (c.short less ∙ ap length same));
      };
      last = λ less. record { all = all; offered = doc.offered; whole = c.short less ∙ ap length same };
      sources = λ s x q. put2_other d.block h t.anchor (Some new) s x.anchor (λ here. i.boths.apart h x (Fetching t)
          (subst (λ j. Has (Open x) (d.sending j)) here q) is refl);
      same = λ r w q ne u. put2_other d.block h t.anchor (Some new) r (in_anchor w) (λ here eq.
          ne here (i.ins.documents h (Fetching t) w is refl (subst (λ j. Has w (d.taking j)) here q)
          (subst (λ j. Untouched (e j) w) here u) eq));
    }

-- a record that ends, and what its document is
end_of : {o : Offered} {e : ℕ → ℕ → Bool} {d : Desk} (bl : ℕ → ℕ → Option (List ℕ)) (h i a n : ℕ) (was : In) →
    Has was (d.taking h) → in_id was ≡ i → Inv o e d →
    ((s : ℕ) (x : Sending) → Has (Open x) (d.sending s) → bl s x.anchor ≡ d.block s x.anchor) →
    ((r : ℕ) (w : In) → Has w (d.taking r) → (r ≡ h → in_id w ≢ i) → Untouched (e r) w → bl r (in_anchor w) ≡ d.block
    r (in_anchor w)) →
    (e h i ≡ false → Begins o i n (bl h a)) → AtMost o i n → ((u : In) → Has u (d.taking h) → is_growing u ≡ true → in_id u ≢ i →
    e h i ≡ false → a ≢ in_anchor u) → Ends o e d bl h i (In_failed i a n)
end_of bl h i a n was has was_id inv sources same good counted beside = record {
  same_id = refl;
  over = refl;
  was = was;
  has = has;
  was_id = was_id;
  holds = tt;
  both = tt;
  sources = sources;
  same = same;
  good = good;
  counted = counted;
  beside = beside;
}

done_of : {o : Offered} {e : ℕ → ℕ → Bool} {d : Desk} (bl : ℕ → ℕ → Option (List ℕ)) (h i a n : ℕ) (was : In) →
    Has was (d.taking h) → in_id was ≡ i → Inv o e d →
    ((s : ℕ) (x : Sending) → Has (Open x) (d.sending s) → bl s x.anchor ≡ d.block s x.anchor) →
    ((r : ℕ) (w : In) → Has w (d.taking r) → (r ≡ h → in_id w ≢ i) → Untouched (e r) w → bl r (in_anchor w) ≡ d.block
    r (in_anchor w)) →
    Whole o i (bl h a) → Counted o i n → ((u : In) → Has u (d.taking h) → is_growing u ≡ true → in_id u ≢ i → a ≢ in_anchor u) →
    Ends o e d bl h i (In_done i a n)
done_of bl h i a n was has was_id inv sources same good counted beside = record {
  same_id = refl;
  over = refl;
  was = was;
  has = has;
  was_id = was_id;
  holds = tt;
  both = tt;
  sources = sources;
  same = same;
  good = λ u. good;
  counted = counted;
  beside = λ u q y ne f. beside u q y ne;
}

beside_growing : {o : Offered} {e : ℕ → ℕ → Bool} {d : Desk} (h : ℕ) (w : In) → Inv o e d → Has w (d.taking h) →
    Untouched (e h) w → (u : In) → Has u (d.taking h) → is_growing u ≡ true → in_id u ≢ in_id w →
    in_anchor w ≢ in_anchor u
beside_growing h w i is un u q y ne eq = ne (sym (i.ins.documents h u w q y is un eq))

-- a transmit whose bytes a record takes
pub record Takes (o : Offered) (d : Desk) (h : ℕ) (t : Taking) (l : Letter) : Type 0 where
  pub carries : Carries o l t (d.heap h) (d.buf h)
  pub quiet : Quiet d h t.id
  pub below : l.me < d.next_ref
  pub apart : NotTheLoad d.scrap l.me
  pub handle : h < d.next_handle
  pub level : (s : ℕ) (x : Sending) → Has (Open x) (d.sending s) → l.me ≡ x.last → h ≡ x.recipient →
      (t.id ≡ x.id) × (t.sender ≡ s) × (x.count ≡ t.count + l.amount)

module _ {o : Offered} {e : ℕ → ℕ → Bool} {d : Desk} (h : ℕ) (t : Taking) (l : Letter) (g : Good o e d)
    (is : Has (Fetching t) (d.taking h)) (takes : Takes o d h t l) where
  -- the bytes are in the document, and no other fetch could be sent
  pub stopped_takes : Good o e (ended (longer d h t l.amount) h t (In_failed t.id t.anchor (t.count + l.amount)))
  stopped_takes =
      let w = grown {e = e} h t l g.inv is takes.carries in
      ended_good (grown_block d h t l.amount) h t (In_failed t.id t.anchor (t.count + l.amount)) (inl is) takes.quiet
      (end_of (grown_block d h t l.amount) h t.id t.anchor (t.count + l.amount) (Fetching t) is refl g.inv w.sources
      w.same (λ u. w.begins) (at_most w.begins) (λ u q y ne f. beside_growing h (Fetching t) g.inv is tt u q y ne)) g

  -- the bytes are in the document, and the next fetch is sent
  pub fetched_takes : Good o e (fetched (longer d h t l.amount) h t l.amount l.me)
  fetched_takes =
      let i = g.inv in
      let w = grown {e = e} h t l i is takes.carries in
      let u : Taking = record {
        id = t.id;
        sender = t.sender;
        anchor = t.anchor;
        buffer = t.buffer;
        count = t.count + l.amount;
        fetch = d.next_ref;
        raw = t.raw;
      } in
      let new : ℕ → List In = put d.taking h (with_id in_id t.id (Fetching u) (d.taking h)) in
      let b = i.ins.buffer h t (inl is) in
      let id = active_id h t (inl is) i in
      let nf : NewFetch o e d new (grown_block d h t l.amount) h u l.me = record {
        move = move_with in_id d.taking h t.id (Fetching u) refl;
        keeps = keeps_with d.taking h t.id (Fetching u);
        puts = subst (λ z. Active z u) (sym (put_same d.taking h (with_id in_id t.id (Fetching u) (d.taking h))))
            (inl (with_puts in_id t.id (Fetching u) (d.taking h) (Fetching t) is refl));
        ascends = subst (λ z. Ascend in_id z) (sym (put_same d.taking h (with_id in_id t.id (Fetching u)
            (d.taking h)))) (with_ascends in_id t.id (Fetching u) (d.taking h) refl (i.order.ins h));
        few = few_here d.taking h (with_id in_id t.id (Fetching u) (d.taking h)) (few_with in_id (d.taking h) t.id
            (Fetching u) (i.few.ins h));
        elsewhere = put_other d.taking h (with_id in_id t.id (Fetching u) (d.taking h));
        born = id.0;
        above = id.1;
        fresh = refl;
        old = takes.below;
        apart_load = takes.apart;
        own_load = record_apart h (Fetching t) t.id is refl i.files;
        handle = takes.handle;
        sources = w.sources;
        same = w.same;
        begins = w.begins;
        buffer = record { bytes = b.bytes; there = b.there; size = b.size; below = omega arith };
        buffers = λ v a ne eq. ne (i.ins.buffers h v t a (inl is) eq);
        documents = λ v q z ne eq. ne (i.ins.documents h (Fetching t) v is refl q z eq);
        apart = λ x q. i.boths.apart h x (Fetching t) q is refl;
      } in
      record {
        inv = fetch_inv new (grown_block d h t l.amount) h u l.me nf i;
        pending = fetch_pending new (grown_block d h t l.amount) h u l.me nf i takes.quiet takes.level g.pending;
        born = λ j le. g.born j (omega arith);
      }

  -- the bytes were the last
  pub finished_takes : l.amount < d.buf h →
      Good o e (ended (longer d h t l.amount) h t (In_done t.id t.anchor (t.count + l.amount)))
  finished_takes less =
      let w = grown {e = e} h t l g.inv is takes.carries in
      ended_good (grown_block d h t l.amount) h t (In_done t.id t.anchor (t.count + l.amount)) (inl is) takes.quiet
      (done_of (grown_block d h t l.amount) h t.id t.anchor (t.count + l.amount) (Fetching t) is refl g.inv w.sources
      w.same (w.short less) (w.last less) (beside_growing h (Fetching t) g.inv is tt)) g

module _ {o : Offered} {e : ℕ → ℕ → Bool} {d : Desk} (h : ℕ) (t : Taking) (l : Letter) (g : Good o e d)
    (rd : Read o d h l) (kind : l.kind ≡ RamTransmit) (is : Has (Fetching t) (d.taking h)) (m : Matched d h t l) where
  -- such a transmit is one that is known
  takes_here : Takes o d h t l
  takes_here = record {
    carries = (rd.ok.carries h t is).carries kind m.answers m.from;
    quiet = read_quiet h t l (inl is) kind m.from m.answers rd.ok g;
    below = rd.ok.below.me;
    apart = letter_apart rd (λ k. let z : RamTransmit ≡ DataLoad = sym kind ∙ k in (cc));
    handle = rd.handle;
    level = λ s x q c f.
        let from = (rd.ok.out s x q).owner c in
        let both = rd.ok.ahead s x q h t is in
        (sym (both.same_id kind from m.answers c), sym m.from ∙ from, both.ahead kind from m.answers c);
  }

  pub stopped_good : Good o e (ended (longer d h t l.amount) h t (In_failed t.id t.anchor (t.count + l.amount)))
  stopped_good = stopped_takes h t l g is takes_here

  pub fetched_good : Good o e (fetched (longer d h t l.amount) h t l.amount l.me)
  fetched_good = fetched_takes h t l g is takes_here

  pub finished_good : l.amount < d.buf h →
      Good o e (ended (longer d h t l.amount) h t (In_done t.id t.anchor (t.count + l.amount)))
  finished_good less = finished_takes h t l g is takes_here less

-- a Draining record, or one whose fetch is back, fails with the bytes that it has
pub given_up_good : {o : Offered} {e : ℕ → ℕ → Bool} {d : Desk} (h : ℕ) (t : Taking) → Good o e d →
    Active (d.taking h) t → Quiet d h t.id → Good o e (given_up d h t)
given_up_good {o} {e} {d} h t g (inl is) quiet =
    ended_good d.block h t (In_failed t.id t.anchor t.count) (inl is) quiet
    (end_of d.block h t.id t.anchor t.count (Fetching t) is refl g.inv (λ s x q. refl) (λ r w q ne u. refl) (λ u.
    g.inv.ins.good h (Fetching t) is tt) (g.inv.ins.counted h (Fetching t) is) (λ u q y ne f. beside_growing h (Fetching t) g.inv is tt u q y ne)) g
given_up_good {o} {e} {d} h t g (inr is) quiet =
    ended_good d.block h t (In_failed t.id t.anchor t.count) (inr is) quiet
    (end_of d.block h t.id t.anchor t.count (Draining t) is refl g.inv (λ s x q. refl) (λ r w q ne u. refl) (λ u.
    g.inv.ins.good h (Draining t) is u) (g.inv.ins.counted h (Draining t) is) (λ u q y ne f. beside_growing h (Draining t) g.inv is f u q y ne)) g

-- ---- messages that came back

-- a record that sends no more
pub over_good : {o : Offered} {e : ℕ → ℕ → Bool} {d : Desk} (h : ℕ) (x : Sending) (v : Out) → out_id v ≡ x.id →
    OutOk (Knows d) o d.sending d.block d.next_ref h v → BothOutOk (Knows d) d.taking h v →
    ((y : Sending) → Open y ≡ v → ⊥) → Inv o e d →
    ((s : ℕ) (y : Sending) → Has (Open y) (d.sending s) → (s ≡ h → y.id ≢ x.id) → PendingAt d s y) →
    ((i : ℕ) → d.next_ref ≤ i → o i ≡ None) → Has (Open x) (d.sending h) → Good o e (with_out d h x v)
over_good {o} {e} {d} h x v same_id ok both never i others born is =
    let new : ℕ → List Out = put d.sending h (with_id out_id x.id v (d.sending h)) in
    let mv : Move out_id d.sending new h v = move_with out_id d.sending h x.id v same_id in
    record {
      inv = record {
        letters = i.letters;
        outs = outs_move new h v mv ok i.outs;
        ins = i.ins;
        boths = boths_out new h v mv both i.boths;
        loads = i.loads;
        files = i.files;
        few = record {
          outs = few_put d.sending h (with_id out_id x.id v (d.sending h)) (few_with out_id (d.sending h)
              x.id v (i.few.outs h)) i.few.outs;
          ins = i.few.ins;
        };
        order = order_out new h v mv (put_ascends out_id d.sending h (with_id out_id x.id v (d.sending h))
            i.order.outs (with_ascends out_id x.id v (d.sending h) same_id (i.order.outs h))) (let z =
            i.order.out_below h (Open x) is in omega arith) i.order;
        alive = i.alive;
        positive = i.positive;
      };
      pending = λ s y q l k. elim (mv s (Open y) q) [
        | inl a ↦ others s y a.0 (λ here eq. a.1 here (eq ∙ sym same_id)) l k
        | inr a ↦ absurd (never y a.1)
      ];
      born = born;
    }

pub shut_good : {o : Offered} {e : ℕ → ℕ → Bool} {d : Desk} (h : ℕ) (x : Sending) → Inv o e d →
    ((s : ℕ) (y : Sending) → Has (Open y) (d.sending s) → (s ≡ h → y.id ≢ x.id) → PendingAt d s y) →
    ((i : ℕ) → d.next_ref ≤ i → o i ≡ None) → Has (Open x) (d.sending h) → Good o e (failed d h x)
shut_good h x i others born is = over_good h x (Out_failed x.id x.count) refl tt tt (λ y q. let z : Open y ≡
    Out_failed x.id x.count = q in (cc)) i others born is

-- ---- the scrap file

-- a record that waits for a file fails with no bytes
pub unasked_good : {o : Offered} {e : ℕ → ℕ → Bool} {d : Desk} (h : ℕ) (q : Asked) → Has (Asking q) (d.taking h) →
    Good o e d → Good o e (with_in d h q (In_failed q.id q.anchor 0))
unasked_good {o} {e} {d} h q is g =
    asked_over d.block h q (In_failed q.id q.anchor 0) is
    (end_of d.block h q.id q.anchor 0 (Asking q) is refl g.inv (λ s x p. refl) (λ r w p ne u. refl) (λ u.
    g.inv.ins.good h (Asking q) is tt) (g.inv.ins.counted h (Asking q) is) (λ u p y ne f. beside_growing h (Asking q) g.inv is tt u p y ne)) g

-- a DataSaveAck that a record answers: each record that sent it is of one transfer with that
pub record Files_for (d : Desk) (h : ℕ) (l : Letter) (x : Sending) : Type 0 where
  pub below : l.me < d.next_ref
  pub apart : NotTheLoad d.scrap l.me
  pub handle : h < d.next_handle
  pub asked : (r : ℕ) (q : Asked) → Has (Asking q) (d.taking r) → l.me ≡ q.ack → q.id ≡ x.id

-- the source becomes the scrap file
pub filed_for : {o : Offered} {e : ℕ → ℕ → Bool} {d : Desk} (h : ℕ) (l : Letter) (x : Sending) (bytes : List ℕ) →
    Good o e d → Files_for d h l x → Has (Open x) (d.sending h) → d.block h x.anchor ≡ Some bytes →
    Good o e (filed d h l x bytes)
filed_for {o} {e} {d} h l x bytes g ff is there =
    let i = g.inv in
    let w = i.outs.source h x is in
    let eq : bytes ≡ w.all = same_value (d.block h x.anchor) there w.there in
    let y : Sending = record {
      id = x.id;
      recipient = x.recipient;
      anchor = x.anchor;
      count = x.count;
      last = d.next_ref;
    } in
    let vs = with_id out_id x.id (Open y) (d.sending h) in
    let new : ℕ → List Out = put d.sending h vs in
    let m : Message = record {
      code = Recorded;
      to = x.recipient;
      letter = record {
        from = h;
        me = d.next_ref;
        answers = l.me;
        kind = DataLoad;
        address = 0;
        amount = length bytes;
      };
    } in
    let id = i.order.out_below h (Open x) is in
    let sent_out : NewOut o d new h m.letter (Open y) = record {
      move = move_with out_id d.sending h x.id (Open y) refl;
      ascends = subst (λ z. Ascend out_id z) (sym (put_same d.sending h vs)) (with_ascends out_id x.id (Open y)
          (d.sending h) refl (i.order.outs h));
      few = few_here d.sending h vs (few_with out_id (d.sending h) x.id (Open y) (i.few.outs h));
      elsewhere = put_other d.sending h vs;
      born = omega arith;
      fresh = refl;
      from = refl;
      not_fetch = λ q. absurd (let z : DataLoad ≡ RamFetch = q in (cc));
      old = ff.below;
      apart_load = ff.apart;
      handle = ff.handle;
      offers = record { some = λ q. absurd (let z : DataLoad ≡ DataSave = q in (cc)) };
      carries = λ b u k. absurd (let z : DataLoad ≡ RamTransmit = k in (cc));
      older = λ z q ne b u act k. absurd (let z : DataLoad ≡ RamTransmit = k in (cc));
      part = record {
        last = refl;
        same_id = λ k. absurd (let z : DataLoad ≡ DataSave = k in (cc));
        id = λ b u k. absurd (let z : DataLoad ≡ RamTransmit = k in (cc));
        level = λ b u k. absurd (let z : DataLoad ≡ RamTransmit = k in (cc));
        source = record {
          all = w.all;
          offered = w.offered;
          there = w.there;
          fits = w.fits;
          unread = λ r.
              absurd (omega arith);
          below = omega arith;
        };
        apart = λ u r z. i.boths.apart h x u is r z;
      };
    } in
    let step1 = out_inv new h (Open y) m sent_out i in
    let d1 : Desk = record d { sending = new } in
    record {
      inv = record {
        letters = step1.letters;
        outs = step1.outs;
        ins = step1.ins;
        boths = step1.boths;
        loads = record {
          ack = step1.loads.ack;
          file = λ n k r q u. record {
            whole = λ f s c a b.
                let load : f.load ≡ d.next_ref = (let z : Option.Some (record { load = d.next_ref; bytes = bytes }) ≡
                Some f = s in ap (λ (j : Scrap). j.load) (sym (some_is z))) in
                let same : f.bytes ≡ bytes = (let z : Option.Some (record { load = d.next_ref; bytes = bytes }) ≡ Some
                f = s in ap (λ (j : Scrap). j.bytes) (sym (some_is z))) in
                elim (sent_knows d1 h m refl n k) [
                  | inl old ↦ absurd (let z = (i.letters.below n old).me in omega arith)
                  | inr now ↦
                      let names = ff.asked r q u (ap (λ (j : Letter). j.answers) (sym now) ∙ b) in
                      ap o names ∙ w.offered ∙ ap (λ (j : List ℕ). Option.Some j) (sym eq ∙ sym same)
                ];
          };
          ack_below = step1.loads.ack_below;
          load_below = λ f s. let load : f.load ≡ d.next_ref =
              (let z : Option.Some (record { load = d.next_ref; bytes = bytes }) ≡ Some f = s in ap (λ (j : Scrap).
              j.load) (sym (some_is z))) in omega arith;
        };
        files = filed_new d.queue m (record { load = d.next_ref; bytes = bytes }) (sent_knows d1 h m refl) refl refl ff.below
            (λ n k. (i.letters.below n k).me) (λ n k. (i.letters.below n k).answers) (λ r v has. i.order.in_below r v has);
        few = step1.few;
        order = step1.order;
        alive = step1.alive;
        positive = step1.positive;
      };
      pending = λ s z q n k. out_pending new h (Open y) m sent_out i (λ b u r ne. g.pending b u r) s z q n
          k;
      born = λ j le. g.born j (omega arith);
    }
  where
    some_is : {a b : Scrap} → Option.Some a ≡ Some b → a ≡ b
    some_is q = cc

-- so it is for one that is known
pub filed_good : {o : Offered} {e : ℕ → ℕ → Bool} {d : Desk} (h : ℕ) (l : Letter) (x : Sending) (bytes : List ℕ) →
    Good o e d → Read o d h l → l.kind ≡ DataSaveAck → Has (Open x) (d.sending h) → l.answers ≡ x.id →
    d.block h x.anchor ≡ Some bytes → Good o e (filed d h l x bytes)
filed_good h l x bytes g rd kind is answers there =
    filed_for h l x bytes g (record {
      below = rd.ok.below.me;
      apart = letter_apart rd (λ k. let z : DataSaveAck ≡ DataLoad = sym kind ∙ k in (cc));
      handle = rd.handle;
      asked = λ r q u b. sym ((rd.ok.ack r q u).names kind b) ∙ answers;
    }) is there

-- all of the source was loaded
pub loaded_good : {o : Offered} {e : ℕ → ℕ → Bool} {d : Desk} (h : ℕ) (x : Sending) (bytes : List ℕ) → Good o e d →
    Has (Open x) (d.sending h) → d.block h x.anchor ≡ Some bytes →
    Good o e (with_out d h x (Out_done x.id (length bytes)))
loaded_good {o} {e} {d} h x bytes g is there =
    let w = g.inv.outs.source h x is in
    let same : bytes ≡ w.all = same_value (d.block h x.anchor) there w.there in
    over_good h x (Out_done x.id (length bytes)) refl (record {
      all = w.all;
      offered = w.offered;
      whole = ap length
          same;
    })
    tt (λ y r. let z : Open y ≡ Out_done x.id (length bytes) = r in (cc)) g.inv (λ s y r ne. g.pending s y r) g.born is

-- the file is the document
module _ {o : Offered} {e : ℕ → ℕ → Bool} {d : Desk} (h : ℕ) (l : Letter) (q : Asked) (g : Good o e d)
    (me : l.me < d.next_ref) (handle : h < d.next_handle) (is : Has (Asking q) (d.taking h)) (bytes : List ℕ)
    (of : o q.id ≡ Some bytes) where
  abbrev with_file : ℕ → ℕ → Option (List ℕ)
  with_file = put d.block h (put (d.block h) q.anchor (Some (bytes_of (d.block h q.anchor) ++ bytes)))

  file_there : with_file h q.anchor ≡ Some bytes
  file_there =
      let w : Begins o q.id 0 (d.block h q.anchor) = g.inv.ins.good h (Asking q) is tt in
      put2_same d.block h q.anchor (Some (bytes_of (d.block h q.anchor) ++ bytes)) ∙
      ap (λ b. Option.Some (bytes_of b ++ bytes)) w.there

  file_sources : (s : ℕ) (x : Sending) → Has (Open x) (d.sending s) → with_file s x.anchor ≡ d.block s x.anchor
  file_sources s x p = put2_other d.block h q.anchor (Some (bytes_of (d.block h q.anchor) ++ bytes)) s x.anchor
      (λ here. g.inv.boths.apart h x (Asking q) (subst (λ j. Has (Open x) (d.sending j)) here p) is refl)

  file_same : (r : ℕ) (w : In) → Has w (d.taking r) → (r ≡ h → in_id w ≢ q.id) → Untouched (e r) w →
      with_file r (in_anchor w) ≡ d.block r (in_anchor w)
  file_same r w p ne u = put2_other d.block h q.anchor (Some (bytes_of (d.block h q.anchor) ++ bytes)) r (in_anchor w)
      (λ here eq. ne here (g.inv.ins.documents h (Asking q) w is refl (subst (λ j. Has w (d.taking j)) here p)
      (subst (λ j. Untouched (e j) w) here u) eq))

  pub told_good : Good o e (told (copied d h q bytes) h l q (length bytes))
  told_good =
      let g1 = lost_good (asked_over with_file h q (In_done q.id q.anchor (length bytes)) is
      (done_of with_file h q.id q.anchor (length bytes) (Asking q) is refl g.inv file_sources file_same
      (record { all = bytes; offered = of; there = file_there }) (record { all = bytes; offered = of; whole = refl })
      (beside_growing h (Asking q) g.inv is tt)) g) in
      tell_good h (record {
        code = Plain;
        to = q.sender;
        letter = record {
          from = h;
          me = d.next_ref;
          answers = l.me;
          kind = DataLoadAck;
          address = 0;
          amount = length bytes;
        };
      })
      (record {
        fresh = refl;
        old = me;
        from = handle;
        sender = refl;
        not_save = λ k. let z : DataLoadAck ≡ DataSave =
            k in (cc);
        not_fetch = λ k. let z : DataLoadAck ≡ RamFetch = k in (cc);
        not_transmit = λ k.
            let z : DataLoadAck ≡ RamTransmit = k in (cc);
        apart = none_apart l.me;
      }) g1

  -- the same, where the sender could not be told
  pub untold_good : Good o e (with_in (copied d h q bytes) h q (In_failed q.id q.anchor (length bytes)))
  untold_good =
      lost_good (asked_over with_file h q (In_failed q.id q.anchor (length bytes)) is
      (end_of with_file h q.id q.anchor (length bytes) (Asking q) is refl g.inv file_sources file_same (λ u.
      record {
        all = bytes;
        offered = of;
        there = file_there ∙ ap (λ (b : List ℕ). Option.Some b)
            (sym (take_whole (length bytes) bytes refl));
        fits = omega arith;
      }) (record { all = bytes; offered = of; fits = omega arith }) (λ u p y ne f. beside_growing h (Asking q)
      g.inv is tt u p y ne)) g)
