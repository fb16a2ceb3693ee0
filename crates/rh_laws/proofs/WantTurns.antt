-- Each act on a message is one deed, so that what each deed leaves holds after it.
use Rattle.rh_laws.proofs.Common.{Acknowledge, Active, Asked, Body, Bool, Desk, Flex, Handled, Has, List, None, Option, Parcel, Recorded, Scrap, Sending, Some}
use Rattle.rh_laws.proofs.Common.{Split, Taking, Task, User, [], action_of, and_left, and_right, answers_none, ap, arith, eq-eqb, false, field_is, handled}
use Rattle.rh_laws.proofs.Common.{if◌then◌else◌, in_id, inl, inr, is_equal, leb_tells, leb_yes, length, live_of, nat_eq, nat_le, nat_lt, next_ref, none_some}
use Rattle.rh_laws.proofs.Common.{not, option_map, out_id, refl, same_value, subst, suc, sym, task_of, true, view, with_sending, ℕ, ◌&&◌, ◌+◌, ◌<◌, ◌∙◌, ◌≡◌}
use Rattle.rh_laws.proofs.Common.{◌≤◌, ◌≢◌, ◌⊎◌, blocks_of, buffers_of, drop, first_is, take}
use Rattle.rh_defs.specs.declared.message.Action.TheVariants as action
use Rattle.rh_defs.specs.declared.message.Body.TheVariants as body
use Rattle.rh_defs.specs.declared.message.FileData.{FileData}
use Rattle.rh_defs.specs.declared.transfer_action.Transmit.{Transmit}
use Rattle.rh_defs.specs.declared.transfer_action.Part.{Part}
use Rattle.rh_defs.specs.IncomingEvents.{end_failed}
use Rattle.rh_defs.specs.Letters.{transmit_letter}
use Rattle.rh_defs.specs.Places.{buffer_at, written_in}
use Rattle.rh_defs.specs.Slot.{Slot}
use Rattle.rh_defs.specs.Sender as sender
use Rattle.rh_defs.specs.Receiver as receiver
use Rattle.rh_safety.proofs.Acts as acts
use Rattle.rh_safety.proofs.Acts.{Act, ForAsking, ForOpen, abandons, asks, back-is, claims, fails, finishes, gives_up, handled-acts, is_back, is_file}
use Rattle.rh_safety.proofs.Acts.{is_for_active, is_for_asking, is_for_open, loads, loads_only, not-back, part_of, poured, saves, sends, skips, takes_full}
use Rattle.rh_safety.proofs.Acts.{takes_last, takes_some, transmit_of}
use Rattle.rh_safety.proofs.Basics.{not_true}
use Rattle.rh_safety.proofs.Ends.{Asking, Fetching, Draining, In, In_done, In_failed, Message, Open, Out, Out_done, Out_failed, is_going, put}
use Rattle.rh_safety.proofs.Ends.{with_id}
use Rattle.rh_safety.proofs.Invariant.{Unread}
use Rattle.rh_safety.proofs.Moves.{move_more}
use Rattle.rh_safety.proofs.PollTurns.{unlike}
use Rattle.rh_safety.proofs.SeenActs.{asks_seen, buffer_size, claims_seen, ends_seen, fetched_seen, loads_only_seen, loads_seen, none_before, recipient_lives}
use Rattle.rh_safety.proofs.SeenActs.{saves_seen}
use Rattle.rh_safety.proofs.SeenDocuments.{ended_view, letter_of}
use Rattle.rh_safety.proofs.SeenSends.{sent_slot, sent_view}
use Rattle.rh_safety.proofs.SeenTasks.{ins_view, outs_view, slot_at, slot_is, slot_view}
use Rattle.rh_safety.proofs.Sight as sight
use Rattle.rh_safety.proofs.View.{seen_letter, seen_scrap}
use Rattle.rh_laws.proofs.Wants.{Asks, Tells, Want, file, is_sent, part, peer_of, ref_of, reply, want_in, want_out}
use Rattle.rh_laws.proofs.WantEdits.{For, after, answer, own_back}
use Rattle.rh_laws.proofs.WantDeeds.{Anew, Goes, IsSpent, Meets, Replying, Sends, Turns}
use Rattle.rh_laws.proofs.WantRecords.{InWant, NoneIn, NoneOut, OnlyIn, OnlyOut, Ready, asks-fits, by_ask, by_drain, by_fetch, deed, files, fits, idle}
use Rattle.rh_laws.proofs.WantRecords.{ids-moved, in-deed, in-want, ins-moved, none-sent, out-deed, out-want, outs-stay, parts, replies, sort_of, tells-fits}
use Rattle.rh_laws.proofs.WantRecords.{un}

less-of : (a b : ℕ) → nat_lt a b ≡ true → a < b
less-of a b e = elim (leb_tells (suc a) b) [ inl w ↦ w.1 | inr w ↦ absurd (let z = w.0 in (cc)) ]

not-less : (a b : ℕ) → nat_lt a b ≡ false → b ≤ a
not-less a b e = elim (leb_tells (suc a) b) [ inl w ↦ absurd (let z = w.0 in (cc)) | inr w ↦ let z = w.1 in omega (arith, z) ]

-- what is known of the task's records, and that none of them is of the message, where it is to come
pub record Reads (D : sight.Desk) (k : ℕ) (m : Parcel) : Type 0 where
  pub lasts : (x y : Sending) → Has (Open x) (D.sending k) → Has (Open y) (D.sending k) → x.last ≡ y.last → x.id ≡ y.id
  pub room : 0 < D.buf k
  pub unborn : (m.code ≡ Acknowledge → ⊥) → (w : In) → Has w (D.taking k) → in_id w ≢ m.message.my_ref

module _ (Q : sight.Desk → Type 0) (d : Desk) (t : Task) (m : Parcel) (is : task_of t.handle d.tasks ≡ Some t)
    (reads : Reads (view d) t.handle m) where
  abbrev D : sight.Desk
  D = view d

  abbrev k : ℕ
  k = t.handle

  abbrev M : Body → Message
  M b = record { code = m.code; to = m.to; letter = letter_of m b }

  live : D.live k ≡ true
  live = live_of d k t is

  takings : D.taking k ≡ t.taking
  takings = field_is (λ y. y.taking) [] k d.tasks t is

  sendings : D.sending k ≡ t.sending
  sendings = field_is (λ y. y.sending) [] k d.tasks t is

  opened : (x : Sending) → Has (Open x) t.sending → Has (Open x) (D.sending k)
  opened x has = subst (Has (Open x)) (sym sendings) has

  in_has : (w : In) → Has w t.taking → Has w (D.taking k)
  in_has w has = subst (Has w) (sym takings) has

  -- one letter, and what a new record wants
  module _ (b : Body) (bf : Ready Q D k (M b)) where
    sends-one : (sc : Option sight.Scrap) (n : Message) → Sends D k (M b) sc n → (q : Message) → Some n ≡ Some q → Sends D k (M b) sc q
    sends-one sc n s q e = let same : n ≡ q = cc in subst (Sends D k (M b) sc) same s

    anew-one : (n : Message) (x : Want) → ref_of x ≡ D.next_ref → Asks x (D.buf k) (D.file k) n.letter → n.to ≡ peer_of x → n.code ≡ Recorded →
        (w : Want) → Some x ≡ Some w → Anew D k (Some n) w
    anew-one n x ref wanted to code w e =
        let same : x ≡ w = cc in
        subst (Anew D k (Some n)) same (record { n = n; is = refl; ref = ref; asks = wanted; to = to; code = code })

    reply-sent : (sc : Option sight.Scrap) (n : Message) → n.letter.from ≡ k → n.letter.me ≡ D.next_ref → n.letter.answers ≡ m.message.my_ref →
        Unread (M b) → (n.code ≡ Acknowledge → ⊥) → n.to ≡ m.message.from →
        ((w : Want) (room : ℕ) (no_fetch : Bool) → Asks w room no_fetch (letter_of m b) → Tells w room no_fetch sc n) → Sends D k (M b) sc n
    reply-sent sc n from me answers came unread to tells = record {
      from = from;
      me = me;
      below = let z = bf.before.mine in omega (arith, z, answers);
      answers = inr (record { came = came; answers = answers; unread = unread; to = to; tells = tells });
    }

    replying-one : (n : Message) → n.letter.answers ≡ m.message.my_ref → Replying (M b) (Some n)
    replying-one n answers q e = let same : n ≡ q = cc in ap (λ (y : Message). y.letter.answers) (sym same) ∙ answers

    anew-open : (n : Message) (y : Sending) → y.last ≡ D.next_ref → is_sent (D.file k) n.letter.kind ≡ true → n.to ≡ y.recipient → n.code ≡ Recorded →
        (w : Want) → want_out (D.file k) (Open y) ≡ Some w → Anew D k (Some n) w
    anew-open n y last kind to code w e =
        let z = out-want (D.file k) (Open y) w e in
        let same : y ≡ z.0 = let q = z.1.0 in cc in
        anew-one n (reply y.last y.recipient) last kind to code w (ap (λ (x : Sending). Some (reply x.last x.recipient)) same ∙ ap Some (sym z.1.1))

    -- a record that goes out and comes to its end
    shut-out : {y : sight.Desk} (x : Sending) (v : Out) → out_id v ≡ x.id → want_out (D.file k) v ≡ None → y ≡ sight.with_out D k x v → NoneIn D k (M b) →
        OnlyOut D k (M b) x.id → Turns D k (M b) None v → Q y
    shut-out x v id ended q none own turn =
        out-deed D k (M b) bf None x.id v D.block D.heap D.scrap id q none own (λ w r. absurd (none_some _ ended r))
        (none-sent D k (M b) D.scrap) turn (λ f s. s)

    -- one that comes in
    shut-in : {y : sight.Desk} (v u : In) (bl hp : ℕ → ℕ → Option (List ℕ)) (sc : Option sight.Scrap) → want_in v ≡ None →
        y ≡ record D { taking = put D.taking k (with_id in_id (in_id v) v (D.taking k)); block = bl; heap = hp; scrap = sc } →
        Has u (D.taking k) → in_id u ≡ in_id v → OnlyIn D k (M b) (in_id v) → NoneOut D k (M b) →
        ((f : sight.Scrap) → D.scrap ≡ Some f → (sc ≡ Some f) ⊎ ((f.load ≡ m.message.my_ref) × Unread (M b))) → Q y
    shut-in v u bl hp sc ended q has id own none scrap =
        in-deed D k (M b) bf None v u bl hp sc q has id own none (λ w r. absurd (none_some _ ended r)) (none-sent D k (M b) sc) scrap

  -- ---- which records a message is for

  both : (x y : Bool) → x ≡ true → y ≡ true → (x && y) ≡ true
  both true y p q = q
  both false y p q = unlike p

  -- the ref that a message names: its own, if it came back
  abbrev aim : Bool → ℕ
  aim back = if back then m.message.my_ref else m.message.your_ref

  -- what is known of a record that it is for
  record Aimed (back : Bool) (b : Body) (w : Want) : Type 0 where
    sorts : fits back (action_of b) (sort_of w) ≡ true
    refs : aim back ≡ ref_of w
    tells : back ≡ false → (m.message.from ≡ peer_of w) × Tells w (D.buf k) (D.file k) D.scrap (M b)

  aimed : (back : Bool) → is_back m.code ≡ back → (b : Body) (w : Want) → For D (M b) k w → Aimed back b w
  aimed true q b w (answer u from answers tells) = absurd (u (back-is m.code q))
  aimed true q b w (own_back c r a) = record { sorts = asks-fits w _ _ (letter_of m b) a; refs = r; tells = λ e. unlike (sym e) }
  aimed false q b w (answer u from answers tells) = record { sorts = tells-fits w _ _ _ (M b) tells; refs = answers; tells = λ e. (from, tells) }
  aimed false q b w (own_back c r a) = absurd (not-back m.code q c)

  -- such a record passes the message's test
  would-open : (back : Bool) (b : Body) (x : Sending) → Aimed back b (reply x.last x.recipient) → is_for_open d t m back b x ≡ true
  would-open true (body.DataSave y) x a = eq-eqb x.last m.message.my_ref (sym a.refs)
  would-open true (body.DataLoad y) x a = eq-eqb x.last m.message.my_ref (sym a.refs)
  would-open true (body.RamTransmit y n) x a = eq-eqb x.last m.message.my_ref (sym a.refs)
  would-open false (body.DataLoadAck y) x a =
      both _ _ (eq-eqb m.message.from x.recipient (a.tells refl).0) (eq-eqb m.message.your_ref x.last a.refs)
  would-open false (body.RamFetch buffer n) x a = by (a.tells refl).1
    where
      by : Tells (reply x.last x.recipient) (D.buf k) (D.file k) D.scrap (M (body.RamFetch buffer n)) →
          is_for_open d t m false (body.RamFetch buffer n) x ≡ true
      by (inl kind) = absurd (let z : action.RamFetch ≡ action.DataLoadAck = kind in (cc))
      by (inr z) = both _ _ (ap not (sym (field_is (λ y. answers_none y.manner) false k d.tasks t is) ∙ z.0))
          (both _ _ (both _ _ (eq-eqb m.message.from x.recipient (a.tells refl).0) (eq-eqb m.message.your_ref x.last a.refs)) (leb_yes 1 n z.1.1))
  would-open back b x a = un a.sorts

  would-active : (back : Bool) (b : Body) (f : Taking) → Aimed back b (part f.fetch f.sender f.buffer) → is_for_active d t m back b f ≡ true
  would-active true (body.RamFetch y n) f a = eq-eqb f.fetch m.message.my_ref (sym a.refs)
  would-active false (body.RamTransmit buffer n) f a =
      let x = (a.tells refl).1 in
      let size : D.buf k ≡ t.buffer = field_is (λ y. y.buffer) 1 k d.tasks t is in
      both _ _ (both _ _ (both _ _ (eq-eqb m.message.from f.sender (a.tells refl).0) (eq-eqb m.message.your_ref f.fetch a.refs)) (eq-eqb buffer f.buffer x.1.0))
      (leb_yes n t.buffer (let z = x.1.1 in omega (arith, z, size)))
  would-active back b f a = un a.sorts

  would-asking : (back : Bool) (b : Body) (q : Asked) → Aimed back b (file q.ack q.sender) → is_for_asking d t m back b q ≡ true
  would-asking true (body.DataSaveAck y) q a = eq-eqb q.ack m.message.my_ref (sym a.refs)
  would-asking false (body.DataLoad y) q a =
      let z = (a.tells refl).1 in
      both _ _ (named d.scrap z.1.1.0 z.1.1.1.0 z.1.1.1.1)
      (both _ _ (eq-eqb m.message.from q.sender (a.tells refl).0) (eq-eqb m.message.your_ref q.ack a.refs))
    where
      named : (v : Option Scrap) (g : sight.Scrap) → option_map seen_scrap v ≡ Some g → g.load ≡ m.message.my_ref → is_file m.message.my_ref v ≡ true
      named None g e l = absurd (none_some None refl e)
      named (Some h) g e l = let same : seen_scrap h ≡ g = cc in eq-eqb h.load m.message.my_ref (ap (λ (y : sight.Scrap). y.load) same ∙ l)
  would-asking back b q a = un a.sorts

  -- a record that passes a test has the ref, and no message that tests such is for one of the other kind
  open-last : (back : Bool) (b : Body) (x : Sending) → is_for_open d t m back b x ≡ true →
      (aim back ≡ x.last) × ((fits back (action_of b) parts ≡ false) × (fits back (action_of b) files ≡ false))
  open-last true (body.DataSave y) x p = (sym (is_equal _ _ p), (refl, refl))
  open-last true (body.DataLoad y) x p = (sym (is_equal _ _ p), (refl, refl))
  open-last true (body.RamTransmit y n) x p = (sym (is_equal _ _ p), (refl, refl))
  open-last false (body.DataSaveAck y) x p =
      let id = is_equal _ _ (and_right (nat_eq m.message.from x.recipient) _ (and_left _ (nat_eq x.id x.last) p)) in
      let last = is_equal _ _ (and_right (nat_eq m.message.from x.recipient && nat_eq m.message.your_ref x.id) _ p) in
      (id ∙ last, (refl, refl))
  open-last false (body.DataLoadAck y) x p = (is_equal _ _ (and_right (nat_eq m.message.from x.recipient) _ p), (refl, refl))
  open-last false (body.RamFetch y n) x p =
      (is_equal _ _ (and_right (nat_eq m.message.from x.recipient) _ (and_left _ (nat_le 1 n) (and_right (not (answers_none t.manner)) _ p))), (refl, refl))
  open-last back b x p = unlike p

  -- such a record's recipient sent it
  open-from : (b : Body) (x : Sending) → is_for_open d t m false b x ≡ true → m.message.from ≡ x.recipient
  open-from (body.DataSaveAck y) x p = is_equal _ _ (and_left (nat_eq m.message.from x.recipient) _ (and_left _ (nat_eq x.id x.last) p))
  open-from (body.DataLoadAck y) x p = is_equal _ _ (and_left (nat_eq m.message.from x.recipient) _ p)
  open-from (body.RamFetch y n) x p =
      is_equal _ _ (and_left (nat_eq m.message.from x.recipient) _ (and_left _ (nat_le 1 n) (and_right (not (answers_none t.manner)) _ p)))
  open-from b x p = unlike p

  meets : (code : is_back m.code ≡ false) (b : Body) (x : Sending) → ForOpen d t m false b x → Meets D k (M b) x.id
  meets code b x it = record {
    one = x;
    has = opened x it.has;
    id = refl;
    unread = not-back m.code code;
    answers = (open-last false b x it.passes).0;
    from = open-from b x it.passes;
  }

  active-last : (back : Bool) (b : Body) (f : Taking) → is_for_active d t m back b f ≡ true → (aim back ≡ f.fetch) × (fits back (action_of b) replies ≡ false)
  active-last true (body.RamFetch y n) f p = (sym (is_equal _ _ p), refl)
  active-last false (body.RamTransmit buffer n) f p =
      (is_equal _ _ (and_right (nat_eq m.message.from f.sender) _ (and_left _ (nat_eq buffer f.buffer) (and_left _ (nat_le n t.buffer) p))), refl)
  active-last back b f p = unlike p

  asking-last : (back : Bool) (b : Body) (q : Asked) → is_for_asking d t m back b q ≡ true → (aim back ≡ q.ack) × (fits back (action_of b) replies ≡ false)
  asking-last true (body.DataSaveAck y) q p = (sym (is_equal _ _ p), refl)
  asking-last false (body.DataLoad y) q p =
      (is_equal _ _ (and_right (nat_eq m.message.from q.sender) _ (and_right (is_file m.message.my_ref d.scrap) _ p)), refl)
  asking-last back b q p = unlike p

  -- ---- each act

  module _ (back : Bool) (code : is_back m.code ≡ back) (b : Body) (bf : Ready Q D k (M b)) where
    -- one that comes in is for none of these
    no-in : ((f : Taking) → Active (D.taking k) f → Aimed back b (part f.fetch f.sender f.buffer) → ⊥) →
        ((q : Asked) → Has (Asking q) (D.taking k) → Aimed back b (file q.ack q.sender) → ⊥) → NoneIn D k (M b)
    no-in parts_ files_ w j z f = by (in-want z.one w z.wants)
      where
        a : Aimed back b w
        a = aimed back code b w f

        by : InWant z.one w → ⊥
        by (by_fetch g same is_w) = parts_ g (inl (subst (λ v. Has v (D.taking k)) same z.has)) (subst (Aimed back b) is_w a)
        by (by_drain g same is_w) = parts_ g (inr (subst (λ v. Has v (D.taking k)) same z.has)) (subst (Aimed back b) is_w a)
        by (by_ask g same is_w) = files_ g (subst (λ v. Has v (D.taking k)) same z.has) (subst (Aimed back b) is_w a)

    no-out : ((x : Sending) → Has (Open x) (D.sending k) → Aimed back b (reply x.last x.recipient) → ⊥) → NoneOut D k (M b)
    no-out none w z f =
        let y = out-want (D.file k) z.one w z.wants in
        none y.0 (subst (λ v. Has v (D.sending k)) y.1.0 z.has) (subst (Aimed back b) y.1.1 (aimed back code b w f))

    -- the records whose ref it names have one id
    same-in : (v : In) (x : Want) → Has v (D.taking k) → want_in v ≡ Some x → aim back ≡ ref_of x → OnlyIn D k (M b) (in_id v)
    same-in v x has wants r w j z f =
        bf.before.apart k w x j (in_id v) z (record { one = v; has = has; wants = wants; id = refl }) (sym (aimed back code b w f).refs ∙ r)

    same-out : (x : Sending) → Has (Open x) (D.sending k) → aim back ≡ x.last → OnlyOut D k (M b) x.id
    same-out x has r w u there wants f =
        let z = out-want (D.file k) u w wants in
        ap out_id z.1.0 ∙ reads.lasts z.0 x (subst (λ y. Has y (D.sending k)) z.1.0 there) has
        (ap ref_of (sym z.1.1) ∙ sym (aimed back code b w f).refs ∙ r)

    module _ (x : Sending) (it : ForOpen d t m back b x) where
      out-none : NoneIn D k (M b)
      out-none = let z = (open-last back b x it.passes).1 in no-in (λ f act a. un (sym z.0 ∙ a.sorts)) (λ q has a. un (sym z.1 ∙ a.sorts))

      out-own : OnlyOut D k (M b) x.id
      out-own = same-out x (opened x it.has) (open-last back b x it.passes).0

    module _ (f : Taking) (passes : is_for_active d t m back b f ≡ true) where
      active-none : NoneOut D k (M b)
      active-none = no-out (λ x has a. un (sym (active-last back b f passes).1 ∙ a.sorts))

      active-own : (u : In) → Has u t.taking → want_in u ≡ Some (part f.fetch f.sender f.buffer) → OnlyIn D k (M b) (in_id u)
      active-own u has wants = same-in u (part f.fetch f.sender f.buffer) (in_has u has) wants (active-last back b f passes).0

      -- its transfer ends
      ends : {y : sight.Desk} (u : In) → Has u t.taking → in_id u ≡ f.id → want_in u ≡ Some (part f.fetch f.sender f.buffer) →
          (v : In) (bl : ℕ → ℕ → Option (List ℕ)) → want_in v ≡ None → in_id v ≡ f.id → y ≡ record D {
            taking = put D.taking k (with_id in_id (in_id v) v (D.taking k));
            block = bl;
            heap = put D.heap k (put (D.heap k) f.buffer None);
          } → Q y
      ends u has id wants v bl ended same e =
          shut-in b bf v u bl (put D.heap k (put (D.heap k) f.buffer None)) D.scrap ended e (in_has u has) (id ∙ sym same)
          (λ w j z g. active-own u has wants w j z g ∙ id ∙ sym same) active-none (λ g s. inl s)

    module _ (q : Asked) (it : ForAsking d t m back b q) where
      asking-none : NoneOut D k (M b)
      asking-none = no-out (λ x has a. un (sym (asking-last back b q it.passes).1 ∙ a.sorts))

      asking-own : OnlyIn D k (M b) q.id
      asking-own = same-in (Asking q) (file q.ack q.sender) (in_has (Asking q) it.has) refl (asking-last back b q it.passes).0

  -- a fetch answers what was sent before
  tells-fetch : (b : Body) → fits true (action_of b) parts ≡ false → fits true (action_of b) files ≡ false → ((c : Bool) → is_sent c (action_of b) ≡ not c) →
      (n : Message) → n.letter.kind ≡ action.RamFetch → n.letter.amount ≡ D.buf k → (w : Want) (room : ℕ) (c : Bool) → Asks w room c (letter_of m b) →
      Tells w room c D.scrap n
  tells-fetch b p q r n kind amount (part x y u) room c a = un (sym p ∙ asks-fits (part x y u) room c (letter_of m b) a)
  tells-fetch b p q r n kind amount (file x y) room c a = un (sym q ∙ asks-fits (file x y) room c (letter_of m b) a)
  tells-fetch b p q r n kind amount (reply x y) room c a =
      inr (not_true c (sym (r c) ∙ a), (kind, let z = reads.room in omega (arith, z, amount)))

  tells-bytes : (buffer size : ℕ) (a : Transmit) (n : Message) → a.buffer ≡ buffer → a.room ≡ size → n.letter.kind ≡ action.RamTransmit →
      n.letter.address ≡ a.buffer → n.letter.amount ≤ a.room → (w : Want) (room : ℕ) (c : Bool) → Asks w room c (letter_of m (body.RamFetch buffer size)) →
      Tells w room c D.scrap n
  tells-bytes buffer size a n place same kind address less (part r p u) room c x =
      (kind, (address ∙ place ∙ x.1.0, let z = x.1.1 in omega (arith, less, z, same)))
  tells-bytes buffer size a n place same kind address less (file r p) room c x = un (asks-fits (file r p) room c (letter_of m (body.RamFetch buffer size)) x)
  tells-bytes buffer size a n place same kind address less (reply r p) room c x = un (asks-fits (reply r p) room c (letter_of m (body.RamFetch buffer size)) x)

  tells-file : (y : FileData) (g : sight.Scrap) (n : Message) → n.letter.kind ≡ action.DataLoad → n.code ≡ Recorded → g.load ≡ n.letter.me →
      (w : Want) (room : ℕ) (c : Bool) → Asks w room c (letter_of m (body.DataSaveAck y)) → Tells w room c (Some g) n
  tells-file y g n kind code load (part r p u) room c a = un (asks-fits (part r p u) room c (letter_of m (body.DataSaveAck y)) a)
  tells-file y g n kind code load (file r p) room c a = (kind, (code, (g, (refl, load))))
  tells-file y g n kind code load (reply r p) room c a = un (asks-fits (reply r p) room c (letter_of m (body.DataSaveAck y)) a)

  tells-loaded : (y : FileData) (n : Message) → n.letter.kind ≡ action.DataLoadAck → (v : Want) (room : ℕ) (c : Bool) →
      Asks v room c (letter_of m (body.DataLoad y)) → Tells v room c None n
  tells-loaded y n kind (part r p u) room c a = un (asks-fits (part r p u) room c (letter_of m (body.DataLoad y)) a)
  tells-loaded y n kind (file r p) room c a = un (asks-fits (file r p) room c (letter_of m (body.DataLoad y)) a)
  tells-loaded y n kind (reply r p) room c a = inl kind

  recorded : Recorded ≡ Acknowledge → ⊥
  recorded e = let z : Recorded ≡ Acknowledge = e in (cc)

  -- the scrap file that the message loads is gone
  gone : {file_ : Scrap} (code : is_back m.code ≡ false) (b : Body) → d.scrap ≡ Some file_ → file_.load ≡ m.message.my_ref →
      (g : sight.Scrap) → D.scrap ≡ Some g → (None ≡ Some g) ⊎ ((g.load ≡ m.message.my_ref) × Unread (M b))
  gone {file_} code b there load g e =
      let same : seen_scrap file_ ≡ g = same_value D.scrap (ap (option_map seen_scrap) there) e in
      inr (ap (λ (y : sight.Scrap). y.load) (sym same) ∙ load, not-back m.code code)

  -- a part of the source answers a fetch
  module _ (code : is_back m.code ≡ false) (buffer size : ℕ) (bf : Ready Q D k (M (body.RamFetch buffer size)))
      (x : Sending) (s : Split Flex) (r : Task) (sent : Desk)
      (it : ForOpen d t m false (body.RamFetch buffer size) x) (w : acts.Sends d t m buffer size x s r sent) where
    abbrev b : Body
    b = body.RamFetch buffer size

    abbrev a : Transmit
    a = transmit_of d t m buffer size x

    abbrev p : Part
    p = part_of d t m buffer size x s

    abbrev n : Message
    n = seen_letter (transmit_letter k a p) D.next_ref

    abbrev turned : Bool → Out
    turned c = if c then Out_done x.id (p.offset + p.n) else Open (record x { count = p.offset + p.n; last = D.next_ref })

    manner : answers_none t.manner ≡ false
    manner = not_true _ (and_left _ (sender.would_answer m.message.from m.message.your_ref size x) it.passes)

    passes : sender.would_answer m.message.from m.message.your_ref size x ≡ true
    passes = and_right (not (answers_none t.manner)) _ it.passes

    fetches : D.file k ≡ false
    fetches = field_is (λ y. answers_none y.manner) false k d.tasks t is ∙ manner

    lives : D.live x.recipient ≡ true
    lives = recipient_lives d t m is buffer size x s r sent w

    coded : (c : Bool) → p.is_last ≡ c → n.code ≡ (if c then User else Recorded)
    coded c last = ap (λ c. if c then User else Recorded) last

    unread : (c : Bool) → (if c then User else Recorded) ≡ Acknowledge → ⊥
    unread true e = let z : User ≡ Acknowledge = e in (cc)
    unread false e = recorded e

    id_of : (c : Bool) → out_id (turned c) ≡ x.id
    id_of true = refl
    id_of false = refl

    anew : (c : Bool) → p.is_last ≡ c → (v : Want) → want_out (D.file k) (turned c) ≡ Some v → Anew D k (Some n) v
    anew true last v e = absurd (none_some None refl e)
    anew false last v e =
        anew-open b bf n (record x { count = p.offset + p.n; last = D.next_ref }) refl (ap not fetches) (open-from b x it.passes) (coded false last) v e

    turn : (c : Bool) → p.is_last ≡ c → Turns D k (M b) (Some n) (turned c)
    unfolding meets
    turn false last = inr (meets code b x it)
    turn true last = (
      meets code b x it,
      inr (record {
        fetch = refl;
        would = passes;
        fetches = fetches;
        lives = lives;
        letter = n;
        is = refl;
        code = coded true last;
        kind = refl;
        to = refl;
        answers = refl;
        address = refl;
        short = less-of p.n size last;
        whole = refl;
      }),
    )

    -- the slot that the part is written into
    abbrev edit : Slot → Slot
    edit z = written_in buffer (take p.n (drop p.offset s.here.bytes)) (buffer_at buffer size z) z

    abbrev blocks : ℕ → ℕ → Option (List ℕ)
    blocks = put D.block r.handle (blocks_of (edit r.slot))

    abbrev heaps : ℕ → ℕ → Option (List ℕ)
    heaps = put D.heap r.handle (buffers_of (edit r.slot))

    seen : view (with_sending k (sender.sent a p (next_ref d)) (poured d t m buffer size p s r sent)) ≡
        after D k (put D.sending k (sender.sent a p D.next_ref (D.sending k))) D.taking blocks heaps D.scrap (Some n)
    seen =
        let letter = transmit_letter k a p in
        let v : view sent ≡ sight.sent D k n = sent_view d sent letter w.letter live in
        let there : r.handle ≡ x.recipient = is_equal _ _ (first_is (λ (y : Task). nat_eq y.handle x.recipient) d.tasks r w.to).1 in
        let here : (view sent).live r.handle ≡ true = ap (λ (y : sight.Desk). y.live r.handle) v ∙ ap D.live there ∙ live_of d x.recipient r w.to in
        let slot : slot_at sent r.handle ≡ r.slot = sent_slot d sent letter w.letter r.handle ∙ ap (slot_at d) there ∙ slot_is d x.recipient r w.to in
        let z = slot_view sent r.handle edit r.slot here slot ∙ ap (λ (y : sight.Desk). record y {
          block = put y.block r.handle (blocks_of (edit r.slot));
          heap = put y.heap r.handle (buffers_of (edit r.slot));
        }) v in
        outs_view _ k (sender.sent a p D.next_ref) (ap (λ (y : sight.Desk). y.live k) z ∙ live) ∙
        ap (λ (y : sight.Desk). record y { sending = put y.sending k (sender.sent a p D.next_ref (y.sending k)) }) z

    part-sent : Q (view (with_sending k (sender.sent a p (next_ref d)) (poured d t m buffer size p s r sent)))
    part-sent =
        out-deed D k (M b) bf (Some n) x.id (sender.after_sent a p D.next_ref) blocks heaps D.scrap (id_of p.is_last) seen
        (out-none false code b bf x it) (out-own false code b bf x it) (anew p.is_last refl)
        (sends-one b bf D.scrap n (reply-sent b bf D.scrap n refl refl refl (not-back m.code code) (unread p.is_last) refl
        (tells-bytes buffer size a n refl refl refl refl (omega arith)))) (turn p.is_last refl) (λ f z. z)

  act-waits : {back : Bool} {b : Body} {y : Handled} → Act d t m back b y → (code : is_back m.code ≡ back) → Ready Q D k (M b) → Q (view y.0)
  act-waits {back} {b} (skips free) code bf =
      idle D k (M b) bf refl
      (no-in back code b bf (λ f act a. unlike (sym (free.active f (subst (λ ws. Active ws f) takings act)) ∙ would-active back b f a))
      (λ q has a. unlike (sym (free.asking q (subst (Has (Asking q)) takings has)) ∙ would-asking back b q a)))
      (no-out back code b bf (λ x has a. unlike (sym (free.open_ x (subst (Has (Open x)) sendings has)) ∙ would-open back b x a)))
  act-waits {back} {b} (fails x y it why) code bf =
      shut-out b bf x (Out_failed x.id x.count) refl refl (outs_view d k (sender.sending_failed x) live) (out-none back code b bf x it)
      (out-own back code b bf x it) tt
  act-waits (finishes {file = f} x s it there) code bf =
      let b : Body = body.DataLoadAck f in
      shut-out b bf x (Out_done x.id (length s.here.bytes)) refl refl (outs_view d k (sender.sending_loaded x (length s.here.bytes)) live)
      (out-none false code b bf x it) (out-own false code b bf x it) (meets code b x it, inl refl)
  act-waits (saves {file = f} x s sent it there none l) code bf =
      let b : Body = body.DataSaveAck f in
      let from : m.message.from ≡ x.recipient = open-from b x it.passes in
      let n : Message = record {
        code = Recorded;
        to = x.recipient;
        letter = record { from = k; me = D.next_ref; answers = m.message.my_ref; kind = action.DataLoad; address = 0; amount = length s.here.bytes };
      } in
      let g : sight.Scrap = record { load = D.next_ref; bytes = s.here.bytes } in
      out-deed D k (M b) bf (Some n) x.id (Open (record x { last = D.next_ref })) D.block D.heap (Some g) refl (saves_seen d t m is b x s sent from l)
      (out-none false code b bf x it) (out-own false code b bf x it) (anew-open b bf n (record x { last = D.next_ref }) refl refl refl refl)
      (sends-one b bf (Some g) n (reply-sent b bf (Some g) n refl refl refl (not-back m.code code) recorded (sym from)
      (tells-file f g n refl refl refl))) (inr (meets code b x it)) (λ h z. absurd (none_some D.scrap (none_before d t m is none) z))
  act-waits (sends {buffer = buffer} {n = size} x s r sent it w) code bf = part-sent code buffer size bf x s r sent it w
  act-waits (claims {file = x} c g p sent few free claim alloc l) code bf =
      let b : Body = body.DataSave x in
      let w = claims_seen d t m is b c g p sent few free claim alloc l in
      let f : Taking = record {
        id = m.message.my_ref;
        sender = m.message.from;
        anchor = w.anchor;
        buffer = w.address;
        count = 0;
        fetch = D.next_ref;
        raw =
            w.raw;
      } in
      let n : Message = record {
        code = Recorded;
        to = m.message.from;
        letter = record { from = k; me = D.next_ref; answers = m.message.my_ref; kind = action.RamFetch; address = w.address; amount = D.buf k };
      } in
      let move = move_more in_id D.taking k D.most is_going (Fetching f) (λ v has e. reads.unborn (not-back m.code code) v has e) in
      let no_in = no-in false code b bf (λ g act a. un a.sorts) (λ q has a. un a.sorts) in
      deed D k (M b) bf (Some n) D.sending _ (put D.block k (put (D.block k) w.anchor (Some [])))
      (put D.heap k (put (D.heap k) w.address (Some w.bytes))) D.scrap
      w.seen (record {
        fresh = f.id;
        ins = ins-moved D k (M b) (Some n) _ (Fetching f) move (λ v j z g. absurd (no_in v j z g))
            (λ v e. (
              anew-one b bf n (part D.next_ref m.message.from w.address) refl (refl, (refl, omega arith)) refl refl v e,
              Goes.begins refl (replying-one b bf n refl) refl (not-back m.code code),
            ));
        outs = outs-stay D k (M b) (Some n) (no-out false code b bf (λ x has a. un a.sorts));
        turns = λ h v has. inl has;
        ids = ids-moved D k (M b) (Some n) _ (Fetching f) move (inr (n, (refl, refl)));
        sends = sends-one b bf D.scrap n (reply-sent b bf D.scrap n refl refl refl (not-back m.code code) recorded refl
            (tells-fetch b refl refl (λ c. refl) n refl refl));
        scrap = λ g s. inl s;
      })
  act-waits {back} {b} (gives_up f y it why) code bf = by it.has
    where
      by : Active t.taking f → Q (view (end_failed d t f))
      by (inl has) = ends back code b bf f it.passes (Fetching f) has refl refl (In_failed f.id f.anchor f.count) D.block refl refl
          (ended_view d k f (receiver.taking_failed f) live)
      by (inr has) = ends back code b bf f it.passes (Draining f) has refl refl (In_failed f.id f.anchor f.count) D.block refl refl
          (ended_view d k f (receiver.taking_failed f) live)
  act-waits (takes_last {buffer = buffer} {n = n} f longer it l less) code bf =
      ends false code (body.RamTransmit buffer n) bf f it.passes (Fetching f) it.has refl refl (In_done f.id f.anchor (f.count + n))
      (sight.longer D k f n).block refl refl (ends_seen d t m is n f longer l (In_done f.id f.anchor (f.count + n)))
  act-waits (takes_some {buffer = buffer} {n = n} f longer why it l) code bf =
      ends false code (body.RamTransmit buffer n) bf f it.passes (Fetching f) it.has refl refl (In_failed f.id f.anchor (f.count + n))
      (sight.longer D k f n).block refl refl (ends_seen d t m is n f longer l (In_failed f.id f.anchor (f.count + n)))
  act-waits (takes_full {buffer = buffer} {n = size} f longer sent it l full s) code bf =
      let b : Body = body.RamTransmit buffer size in
      let g : Taking = record { id = f.id; sender = f.sender; anchor = f.anchor; buffer = f.buffer; count = f.count + size; fetch = D.next_ref; raw = f.raw } in
      let from : m.message.from ≡ f.sender =
      is_equal _ _ (and_left (nat_eq m.message.from f.sender) _ (and_left _ (nat_eq buffer f.buffer) (and_left _ (nat_le size t.buffer) it.passes))) in
      let n : Message = record {
        code = Recorded;
        to = f.sender;
        letter = record { from = k; me = D.next_ref; answers = m.message.my_ref; kind = action.RamFetch; address = f.buffer; amount = D.buf k };
      } in
      in-deed D k (M b) bf (Some n) (Fetching g) (Fetching f) (sight.longer D k f size).block D.heap D.scrap
      (fetched_seen d t m is size f longer l buffer sent s) (in_has (Fetching f) it.has) refl
      (active-own false code b bf f it.passes (Fetching f) it.has refl) (active-none false code b bf f it.passes)
      (λ w e. (
        anew-one b bf n (part D.next_ref f.sender f.buffer) refl (refl, (refl, omega arith)) refl refl w e,
        Goes.fills f (in_has (Fetching f) it.has) refl refl (not-back m.code code) from (active-last false b f it.passes).0
            (let z = not-less size t.buffer full in let q = buffer_size d t m is in omega (arith, z, q)) (replying-one b bf n refl),
      ))
      (sends-one b bf D.scrap n (reply-sent b bf D.scrap n refl refl refl (not-back m.code code) recorded (sym from)
      (tells-fetch b refl refl (λ c. refl) n refl refl))) (λ g s. inl s)
  act-waits (asks {buffer = buffer} {n = size} f sent it none l) code bf =
      let b : Body = body.RamFetch buffer size in
      let n : Message = record {
        code = Recorded;
        to = f.sender;
        letter = record { from = k; me = D.next_ref; answers = f.id; kind = action.DataSaveAck; address = 0; amount = 0 };
      } in
      let q : Asked = record { id = f.id; sender = f.sender; anchor = f.anchor; ack = D.next_ref } in
      let has = in_has (Fetching f) it.has in
      in-deed D k (M b) bf (Some n) (Asking q) (Fetching f) D.block (put D.heap k (put (D.heap k) f.buffer None)) D.scrap (asks_seen d t m is f sent l) has refl
      (active-own true code b bf f it.passes (Fetching f) it.has refl) (active-none true code b bf f it.passes)
      (λ w e. (
        anew-one b bf n (file D.next_ref f.sender) refl refl refl refl w e,
        Goes.asks_file f q refl has refl refl (back-is m.code code) (active-last true b f it.passes).0,
      ))
      (sends-one b bf D.scrap n (record {
        from = refl;
        me = refl;
        below = bf.before.ids k (Fetching f) has;
        answers = inl (IsSpent.named k (Fetching f) has refl);
      })) (λ g z. inl z)
  act-waits {back} {b} (abandons q y it why) code bf =
      shut-in b bf (In_failed q.id q.anchor 0) (Asking q) D.block D.heap D.scrap refl (ins_view d k (receiver.abandoned q 0) live)
      (in_has (Asking q) it.has) refl (asking-own back code b bf q it) (asking-none back code b bf q it) (λ f z. inl z)
  act-waits (loads_only {file = x} q scrap longer why it w) code bf =
      let b : Body = body.DataLoad x in
      shut-in b bf (In_failed q.id q.anchor (length scrap.bytes)) (Asking q) (sight.copied D k q scrap.bytes).block D.heap None refl
      (loads_only_seen d t m is q scrap longer w) (in_has (Asking q) it.has) refl (asking-own false code b bf q it)
      (asking-none false code b bf q it) (gone code b w.there w.names)
  act-waits (loads {file = x} q scrap longer sent it w l) code bf =
      let b : Body = body.DataLoad x in
      let from : m.message.from ≡ q.sender =
      is_equal _ _ (and_left (nat_eq m.message.from q.sender) _ (and_right (is_file m.message.my_ref d.scrap) _ it.passes)) in
      let n : Message = record {
        code = User;
        to = q.sender;
        letter = record { from = k; me = D.next_ref; answers = m.message.my_ref; kind = action.DataLoadAck; address = 0; amount = length scrap.bytes };
      } in
      in-deed D k (M b) bf (Some n) (In_done q.id q.anchor (length scrap.bytes)) (Asking q) (sight.copied D k q scrap.bytes).block D.heap None
      (loads_seen d t m is q scrap longer w b sent from l) (in_has (Asking q) it.has) refl (asking-own false code b bf q it)
      (asking-none false code b bf q it) (λ u e. absurd (none_some None refl e))
      (sends-one b bf None n (reply-sent b bf None n refl refl refl (not-back m.code code) (λ e. let y : User ≡ Acknowledge = e in (cc)) (sym from)
      (tells-loaded x n refl)))
      (gone code b w.there w.names)

  -- a message that was taken
  pub handled-waits : Ready Q D k (M m.message.body) → Q (view (handled d t m m.code).0)
  handled-waits bf = act-waits (handled-acts d t m m.code) refl bf
