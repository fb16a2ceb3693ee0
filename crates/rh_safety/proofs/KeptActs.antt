-- Each act on a message that another task with records sent keeps what is known.
use Rattle.rh_safety.proofs.Common.{Active, Asked, Body, Bool, Desk, Edits, Good, Handled, Has, Incoming, Letter, List, Offers}
use Rattle.rh_safety.proofs.Common.{Parcel, Scrap, Sending, Some, Taking, Task, [], and_left, and_right, answers_none, ap, arith, either, false, field_is}
use Rattle.rh_safety.proofs.Common.{inl, inr, ins_view, is_equal, leb_tells, length, live_of, nat_eq, nat_lt, not, option_map, outs_view, refl}
use Rattle.rh_safety.proofs.Common.{same_value, seen_scrap, subst, suc, sym, task_of, true, view, ℕ, ◌+◌, ◌∙◌, ◌≡◌, ◌≤◌}
use Rattle.rh_defs.specs.declared.message.Body.TheVariants as body
use Rattle.rh_defs.specs.declared.transfer.Incoming.TheVariants as incoming
use Rattle.rh_defs.specs.declared.transfer.Outgoing.TheVariants as outgoing
use Rattle.rh_defs.specs.Receiver as receiver
use Rattle.rh_defs.specs.Sender as sender
use Rattle.rh_safety.proofs.Acts.{Act, ForActive, ForAsking, ForFetching, Loads, abandons, asks, claims, fails, finishes, gives_up, is_file, is_for_open, loads}
use Rattle.rh_safety.proofs.Acts.{loads_only}
use Rattle.rh_safety.proofs.Acts.{part_of, saves, sends, skips, takes_full, takes_last, takes_some}
use Rattle.rh_safety.proofs.Arrivals.{Matched, began_good, fetched_good, filed_good, finished_good, given_up_good, loaded_good, matched, read_quiet}
use Rattle.rh_safety.proofs.Arrivals.{shut_good, stopped_good, told_good, unasked_good, untold_good}
use Rattle.rh_safety.proofs.Basics.{not_true}
use Rattle.rh_safety.proofs.Endings.{asked_good}
use Rattle.rh_safety.proofs.Polls.{FetchCall, Taken, Waiter, answered_good, called, failed_good, not_fetch_good, portion_ok, unanswered_good}
use Rattle.rh_safety.proofs.SeenActs.{Reaches, asks_seen, buffer_size, claims_raw, claims_seen, ends_seen, fetch_in, loads_only_seen, loads_seen}
use Rattle.rh_safety.proofs.SeenActs.{recipient_lives}
use Rattle.rh_safety.proofs.SeenActs.{saves_seen}
use Rattle.rh_safety.proofs.SeenActs.{sends_seen, source_seen, taken_desk, takes_full_seen, takes_last_seen}
use Rattle.rh_safety.proofs.SeenDocuments.{ended_view, letter_of}
use Rattle.rh_safety.proofs.Sends.{Quiet}
use Rattle.rh_defs.specs.RawTasks.{is_raw_at}
use Rattle.rh_defs.specs.declared.message.Letter.{Letter as PostedLetter}
use Rattle.rh_safety.proofs.Common.{Slot, drop, seen_letter, take, transmit_letter, with_slot, with_task, ◌++◌}
use Rattle.rh_safety.proofs.SentMessages.{asked_masked, asking, before_asked, before_begun, before_fetched, begun_masked, fetched_masked, fetching}
use Rattle.rh_safety.proofs.SentMessages.{filed_masked}
use Rattle.rh_safety.proofs.SentMessages.{filed_record, loaded, loading, next_record, told_masked}
use Rattle.rh_safety.proofs.Common.{DataSave, Message, Ok, Option, if◌then◌else◌, is_going, send_letter, Outgoing, Part, Transmit, Unread, in_id, one_more}
use Rattle.rh_safety.proofs.Common.{out_id, put, with_id, ◌<◌, ◌≢◌}
use Rattle.rh_safety.specs.RawIds.{Gave}
use Rattle.rh_safety.proofs.Invariant.{Counted}
use Rattle.rh_safety.proofs.Masks.{masked, mask_sent, masked_scrap}
use Rattle.rh_safety.proofs.Moves.{move_more, move_with}
use Rattle.rh_safety.proofs.Raws.{OutFits, Raws, below_move, fresh_ref, raws_in, raws_renewed, raws_sent, raws_turned}
use Rattle.rh_safety.proofs.Arrivals.{Began}
use Rattle.rh_safety.proofs.Acts.{transmit_of}
use Rattle.rh_safety.proofs.Sight as sight

-- what is known of a desk, beside what its ids offer
pub record Sound (o : Offers) (e : Edits) (R : Gave) (H : ℕ → Bool) (D : sight.Desk) : Type 0 where
  pub good : Good o e (masked R D)
  pub raws : Raws R H o (masked R D)

pub sound_at : {o : Offers} {e : Edits} {R : Gave} {H : ℕ → Bool} {D E : sight.Desk} → D ≡ E → Sound o e R H E → Sound o e R H D
sound_at {o} {e} {R} {H} q s = subst (λ (z : sight.Desk). Sound o e R H z) (sym q) s

-- the same of a desk that is masked alike
pub sound_as : {o : Offers} {e : Edits} {R : Gave} {H : ℕ → Bool} {D E : sight.Desk} → masked R D ≡ E → Good o e E → Raws R H o E → Sound o e R H D
sound_as {o} {e} {R} {H} q g r = record {
  good = subst (λ (z : sight.Desk). Good o e z) (sym q) g;
  raws = subst (λ (z : sight.Desk). Raws R H o z) (sym q) r;
}

-- What is known of the desk on which a message is handled that came back, or not: l is it as it is seen. A message that is to
-- come has another ref.
pub record Ready (o : Offers) (e : Edits) (R : Gave) (H : ℕ → Bool) (d : Desk) (t : Task) (m : Parcel) (back : Bool) (l : Letter) : Type 0 where
  pub came : back ≡ false → Taken o e (masked R (view d)) t.handle l
  pub good : back ≡ true → Good o e (masked R (view d))
  pub quiet : back ≡ true → (f : Taking) → Active ((view d).taking t.handle) f → m.message.my_ref ≡ f.fetch →
      Quiet (masked R (view d)) t.handle f.id
  pub raws : Raws R H o (masked R (view d))
  pub unlike : back ≡ false → (y : Message) → Has y (masked R (view d)).queue → Unread y → y.letter.me ≢ m.message.my_ref
  pub unborn : back ≡ false → (k : ℕ) (w : Incoming) → Has w ((view d).taking k) → in_id w ≢ m.message.my_ref
  pub empty : back ≡ false → R m.message.my_ref ≡ true → o m.message.my_ref ≡ Some []
  pub sender : R m.message.my_ref ≡ H m.message.from
  pub below : m.message.from < (view d).next_handle
  pub flag : (there sent : Desk) (l : PostedLetter) → l.to ≡ m.message.from → there.post ≡ d.post → send_letter l there ≡ Ok sent →
      is_raw_at m.message.from d ≡ H m.message.from

abbrev is_fetch : Body → Bool
is_fetch (body.RamFetch buffer n) = true
is_fetch b = false

-- the post stays where a slot changes
pub slot_post : (d : Desk) (h : ℕ) (s : Slot) → (with_slot h s d).post ≡ d.post
unfolding with_task
slot_post d h s = refl

-- a first fetch, as it is seen
abbrev pub began_masked : (R : Gave) (D : sight.Desk) (h : ℕ) (l : Letter) (after : sight.Desk) → R D.next_ref ≡ false → Began D h l after →
    Began (masked R D) h l (masked R after)
began_masked R D h l after fresh b = record {
  anchor = b.anchor;
  address = b.address;
  bytes = b.bytes;
  raw = b.raw;
  free_anchor = b.free_anchor;
  free_address = b.free_address;
  size = b.size;
  few = b.few;
  seen = ap (masked R) b.seen ∙ begun_masked R D fresh h b.anchor b.address b.bytes l b.raw;
}

-- the desk once a transmit was taken, as it is seen
pub taken_masked : (R : Gave) (D : sight.Desk) (h : ℕ) (f : Taking) (l : Letter) → R D.next_ref ≡ false →
    masked R (taken_desk D h f l) ≡ taken_desk (masked R D) h f l
taken_masked R D h f l fresh = go (nat_lt l.amount (D.buf h))
  where
    go : (b : Bool) → masked R (if b then sight.ended (sight.longer D h f l.amount) h f (incoming.Done f.id f.anchor (f.count + l.amount))
        else sight.fetched (sight.longer D h f l.amount) h f l.amount l.me) ≡
        (if b then sight.ended (sight.longer (masked R D) h f l.amount) h f (incoming.Done f.id f.anchor (f.count + l.amount))
        else sight.fetched (sight.longer (masked R D) h f l.amount) h f l.amount l.me)
    go true = refl
    go false = fetched_masked R (sight.longer D h f l.amount) fresh h f l.amount l.me

-- what a record of the sender becomes fits
pub after_fits : (R : Gave) (a : Transmit) (p : Part) (ref : ℕ) → R ref ≡ false → OutFits R (sender.after_sent a p ref)
after_fits R a p ref fresh = either (OutFits R) p.is_last _ _ (λ last. tt) (λ more. fresh)

pub after_id : (a : Transmit) (p : Part) (ref : ℕ) → out_id (sender.after_sent a p ref) ≡ a.transfer.id
after_id a p ref = either (λ (v : Outgoing). out_id v ≡ a.transfer.id) p.is_last _ _ (λ last. refl) (λ more. refl)

module _ (R : Gave) (H : ℕ → Bool) (d : Desk) (t : Task) (m : Parcel) (is : task_of t.handle d.tasks ≡ Some t) where
  abbrev h : ℕ
  h = t.handle

  abbrev D : sight.Desk
  D = view d

  abbrev E : sight.Desk
  E = masked R (view d)

  live : D.live h ≡ true
  live = live_of d h t is

  sending_is : D.sending h ≡ t.sending
  sending_is = field_is (λ y. y.sending) [] h d.tasks t is

  taking_is : D.taking h ≡ t.taking
  taking_is = field_is (λ y. y.taking) [] h d.tasks t is

  pub opened : (x : Sending) → Has (outgoing.Open x) t.sending → Has (outgoing.Open x) (D.sending h)
  opened x has = subst (Has (outgoing.Open x)) (sym sending_is) has

  pub in_has : (w : Incoming) → Has w t.taking → Has w (D.taking h)
  in_has w has = subst (Has w) (sym taking_is) has

  pub buffered : (f : Taking) → Active t.taking f → Active (D.taking h) f
  buffered f has = subst (λ ws. Active ws f) (sym taking_is) has

  pub match : (buffer n : ℕ) (f : Taking) → ForActive d t m false (body.RamTransmit buffer n) f → Matched E h f (letter_of m (body.RamTransmit buffer n))
  match buffer n f it = matched E h f (letter_of m (body.RamTransmit buffer n))
      (subst (λ k. receiver.is_answer k m.message.from m.message.your_ref buffer n f ≡ true) (sym (buffer_size d t m is)) it.passes)

  module _ {o : Offers} {e : Edits} where
    -- ---- a fetch

    module _ (buffer n : ℕ) (tk : Taken o e E h (fetch_in m buffer n)) (x : Sending) (has : Has (outgoing.Open x) t.sending)
        (file : answers_none t.manner ≡ false) (passes : sight.would_answer (fetch_in m buffer n) x ≡ true) where
      off : D.file h ≡ false
      off = field_is (λ y. answers_none y.manner) false h d.tasks t is ∙ file

      pub calls : FetchCall o e E h x (fetch_in m buffer n)
      calls = called h (fetch_in m buffer n) tk refl off x (opened x has) passes

      pub waits : D.live x.recipient ≡ true → Waiter E h x (fetch_in m buffer n)
      waits lives = tk.waiter x (opened x has) refl passes off lives

      -- the range that it names is in one buffer
      pub reaches : D.live x.recipient ≡ true → Reaches D (sight.answer_of (fetch_in m buffer n) x)
      reaches lives =
          let w = waits lives in
          let held = tk.inv.ins.buffer x.recipient w.taking w.is_active in
          record {
            old = held.bytes;
            there = ap (D.heap x.recipient) (sym w.names) ∙ held.there;
            fits = let y = w.amount in let z = held.size in omega arith;
          }

    plain : (b : Body) → is_fetch b ≡ false → Taken o e E h (letter_of m b) → Good o e E
    plain (body.RamFetch buffer n) q tk = absurd (let z : true ≡ false = q in (cc))
    plain b q tk = not_fetch_good h (letter_of m b) tk (λ k. cc)

    -- ---- each act, of a message that isn't theirs and is for a task that has no code of its own

    module _ (mine : R m.message.my_ref ≡ false) (plays : H h ≡ false) where
      -- ids after a record was written anew
      below_renewed : Good o e E → (w v : Incoming) → Has w (D.taking h) → in_id v ≡ in_id w → (k : ℕ) (u : Incoming) →
          Has u (put D.taking h (with_id in_id (in_id w) v (D.taking h)) k) → in_id u < D.next_ref
      below_renewed g w v has same =
          below_move D.taking D.next_ref (put D.taking h (with_id in_id (in_id w) v (D.taking h))) h v (move_with in_id D.taking h (in_id w) v same)
          (let z = g.inv.order.in_below h w has in omega (arith, z, same)) g.inv.order.in_below

      -- a transfer from the sender of the message isn't theirs
      not_theirs : {back : Bool} {l : Letter} → Ready o e R H d t m back l → (i sender : ℕ) → R i ≡ H sender → m.message.from ≡ sender → R i ≡ true → ⊥
      not_theirs r i sender raws from theirs =
          let z : true ≡ false = sym theirs ∙ raws ∙ sym (ap H from) ∙ sym r.sender ∙ mine in (cc)

      out_failed : {y : sight.Desk} (x : Sending) → Has (outgoing.Open x) t.sending → Good o e E → Raws R H o E → y ≡ sight.failed D h x →
          Sound o e R H y
      out_failed x has g raws v =
          sound_at v (sound_as refl (shut_good h x g.inv (λ s z r ne. g.pending s z r) g.born (opened x has))
          (raws_turned E h (outgoing.Open x) (outgoing.Failed x.id x.count) (opened x has) refl tt raws))

      taken : {y : sight.Desk} (buffer n : ℕ) (f : Taking) → ForFetching d t m false (body.RamTransmit buffer n) f →
          y ≡ taken_desk D h f (letter_of m (body.RamTransmit buffer n)) → Ready o e R H d t m false (letter_of m (body.RamTransmit buffer n)) →
          Sound o e R H y
      taken buffer n f it v r =
          let l : Letter = letter_of m (body.RamTransmit buffer n) in
          let tk = r.came refl in
          let g = plain (body.RamTransmit buffer n) refl tk in
          let a = match buffer n f (record { has = inl it.has; passes = it.passes }) in
          let fresh = fresh_ref E r.raws in
          let has = in_has (incoming.Fetching f) it.has in
          let never : R f.id ≡ true → ⊥ = not_theirs r f.id f.sender (r.raws.senders h f (inl has)) a.from in
          sound_at v (either (λ (z : sight.Desk). Sound o e R H z) (nat_lt n (D.buf h)) _ _
          (λ short. sound_as refl (finished_good h f l g tk.read refl has a (elim (leb_tells (suc n) (D.buf h)) [
            | inl w ↦ w.1
            | inr w ↦ absurd (let z = w.0 in (cc))
          ]))
          (raws_renewed E h (incoming.Fetching f) (incoming.Done f.id f.anchor (f.count + n)) has refl tt (λ theirs. absurd (never theirs)) r.raws))
          (λ full. sound_as (fetched_masked R (sight.longer D h f n) fresh h f n l.me) (fetched_good h f l g tk.read refl has a)
          (raws_sent (before_fetched (sight.longer E h f n) h f n) h (fetching E h f l.me) refl refl plays refl
          (below_renewed g (incoming.Fetching f) (incoming.Fetching (next_record D f n)) has refl)
          (raws_renewed E h (incoming.Fetching f) (incoming.Fetching (next_record D f n)) has refl
          (fresh, r.raws.senders h f (inl has), r.raws.given h f (inl has), r.raws.flags h f has) (λ theirs. absurd (never theirs)) r.raws))))

      -- a record that has a buffer ends
      given_up : {y : sight.Desk} (f : Taking) → Active t.taking f → Good o e E → Quiet E h f.id → Raws R H o E → y ≡ sight.given_up D h f → Sound o e R H y
      given_up f (inl has) g quiet raws v =
          sound_at v (sound_as refl (given_up_good h f g (inl (in_has _ has)) quiet)
          (raws_renewed E h (incoming.Fetching f) (incoming.Failed f.id f.anchor f.count) (in_has _ has) refl tt
          (λ theirs. raws.exact h (incoming.Fetching f) (in_has _ has) theirs) raws))
      given_up f (inr has) g quiet raws v =
          sound_at v (sound_as refl (given_up_good h f g (inr (in_has _ has)) quiet)
          (raws_renewed E h (incoming.Draining f) (incoming.Failed f.id f.anchor f.count) (in_has _ has) refl tt
          (λ theirs. raws.exact h (incoming.Draining f) (in_has _ has) theirs) raws))

      -- one that waits for a file fails without it
      abandoned : {y : sight.Desk} (q : Asked) → Has (incoming.Asking q) t.taking → Good o e E → Raws R H o E →
          y ≡ sight.with_in D h q (incoming.Failed q.id q.anchor 0) → Sound o e R H y
      abandoned q has g raws v =
          sound_at v (sound_as refl (unasked_good h q (in_has _ has) g)
          (raws_renewed E h (incoming.Asking q) (incoming.Failed q.id q.anchor 0) (in_has _ has) refl tt
          (λ theirs. raws.exact h (incoming.Asking q) (in_has _ has) theirs) raws))

      -- the bytes of the scrap file are those that were offered
      whole : (file : _) (q : Asked) (scrap : Scrap) (longer : Desk) → ForAsking d t m false (body.DataLoad file) q → Loads d t m q scrap longer →
          Taken o e E h (letter_of m (body.DataLoad file)) → o q.id ≡ Some scrap.bytes
      whole file q scrap longer it w tk =
          let shown : E.scrap ≡ Some (seen_scrap scrap) = ap (λ (s : Option Scrap). masked_scrap R (option_map seen_scrap s)) w.there ∙
          (let z : R scrap.load ≡ false = ap R w.names ∙ mine in rw z refl) in
          (tk.read.ok.file h q (in_has _ it.has)).whole (seen_scrap scrap) shown refl (sym w.names)
          (is_equal _ _ (and_right (nat_eq m.message.from q.sender) _ (and_right (is_file m.message.my_ref d.scrap) _ it.passes)))

      -- a first fetch
      claimed : (b : Body) (after : sight.Desk) → is_fetch b ≡ false → (letter_of m b).kind ≡ DataSave → Ready o e R H d t m false (letter_of m b) →
          (began : Began D h (letter_of m b) after) → began.raw ≡ R m.message.my_ref → Sound o e R H after
      claimed b after plain_ kind r began flag =
          let l = letter_of m b in
          let tk = r.came refl in
          let g = plain b plain_ tk in
          let fresh = fresh_ref E r.raws in
          let w = began_masked R D h l after fresh began in
          let f : Taking = record {
            id = l.me;
            sender = l.from;
            anchor = w.anchor;
            buffer = w.address;
            count = 0;
            fetch = D.next_ref;
            raw = w.raw;
          } in
          let new : ℕ → List Incoming = put D.taking h (one_more D.most is_going (D.taking h) (incoming.Fetching f)) in
          let move = move_more in_id D.taking h D.most is_going (incoming.Fetching f) (λ u has eq. r.unborn refl h u has eq) in
          record {
            good = began_good h l g tk.read kind (masked R after) w;
            raws = subst (λ (z : sight.Desk). Raws R H o z) (sym w.seen)
                (raws_sent (before_begun E h w.anchor w.address w.bytes l w.raw) h (fetching E h f l.me) refl refl plays refl
                (below_move D.taking D.next_ref new h (incoming.Fetching f) move tk.read.ok.below.me g.inv.order.in_below)
                (raws_in new h (incoming.Fetching f) move (record {
                  fits = (fresh, r.sender, r.below, flag);
                  exact = λ theirs. absurd (let z : true ≡ false = sym theirs ∙ mine in (cc));
                  one = λ k u has eq. absurd (r.unborn refl k u has eq);
                  fresh = λ y has un eq. r.unlike refl y has un (sym eq);
                  mine = plays;
                }) r.raws));
          }

      pub act_sound : {back : Bool} {b : Body} {y : Handled} → Act d t m back b y → Ready o e R H d t m back (letter_of m b) → Sound o e R H (view y.0)
      act_sound (skips {back = true} none) r = record { good = r.good refl; raws = r.raws }
      act_sound (skips {back = false} {b = body.RamFetch buffer n} none) r = record {
        good = unanswered_good h (fetch_in m buffer n) (r.came refl) (λ x has would file.
            let off = sym (field_is (λ y. answers_none y.manner) false h d.tasks t is) ∙ file in
            let z : is_for_open d t m false (body.RamFetch buffer n) x ≡ true = rw off would in
            let no = none.open_ x (subst (Has (outgoing.Open x)) sending_is has) in
            let both : true ≡ false = sym z ∙ no in cc);
        raws = r.raws;
      }
      act_sound (skips {back = false} {b = b} none) r = record { good = plain b refl (r.came refl); raws = r.raws }
      act_sound (fails {back = true} x y it why) r = out_failed x it.has (r.good refl) r.raws (outs_view d h (sender.sending_failed x) live)
      act_sound (fails {back = false} {b = body.RamFetch buffer n} x y it why) r =
          let file = not_true _ (and_left _ (sender.would_answer m.message.from m.message.your_ref n x) it.passes) in
          let passes = and_right (not (answers_none t.manner)) _ it.passes in
          sound_at (outs_view d h (sender.sending_failed x) live)
          (sound_as refl (failed_good h (fetch_in m buffer n) x (calls buffer n (r.came refl) x it.has file passes))
          (raws_turned E h (outgoing.Open x) (outgoing.Failed x.id x.count) (opened x it.has) refl tt r.raws))
      act_sound (fails {back = false} {b = b} x y it why) r =
          out_failed x it.has (plain b refl (r.came refl)) r.raws (outs_view d h (sender.sending_failed x) live)
      act_sound (sends {buffer = buffer} {n = n} x source s sent it w) r =
          let l : Letter = fetch_in m buffer n in
          let file = not_true _ (and_left _ (sender.would_answer m.message.from m.message.your_ref n x) it.passes) in
          let passes = and_right (not (answers_none t.manner)) _ it.passes in
          let g = calls buffer n (r.came refl) x it.has file passes in
          let lives = recipient_lives d t m is buffer n x source s sent w in
          let reach = reaches buffer n (r.came refl) x it.has file passes lives in
          let S : List ℕ = source.here.bytes in
          let of = g.inv.outs.source h x g.is_open in
          let all : S ≡ of.all = same_value (D.block h x.anchor) (source_seen d t m is x source w.source_is) of.there in
          let fresh = fresh_ref E r.raws in
          let a = transmit_of d t m buffer n x in
          let p = part_of d t m buffer n x source in
          sound_at (sends_seen d t m is buffer n x source s sent w reach)
          (sound_as (mask_sent R (record D {
            heap = put D.heap x.recipient (put (D.heap x.recipient) buffer (Some (take p.n (drop p.offset S) ++ drop p.n reach.old)));
            sending = put D.sending h (sender.sent a p D.next_ref (D.sending h));
          }) h (seen_letter (transmit_letter h a p) D.next_ref) fresh)
          (answered_good h l x g (waits buffer n (r.came refl) x it.has file passes lives) m.message.from S reach.old p.n all reach.there reach.fits
          (portion_ok S x l (subst (λ (z : List ℕ). x.count ≤ length z) (sym all) of.fits)) _ refl)
          (raws_sent (record E { sending = put D.sending h (sender.sent a p D.next_ref (D.sending h)) }) h
          (seen_letter (transmit_letter h a p) D.next_ref) refl refl plays refl g.inv.order.in_below
          (raws_turned E h (outgoing.Open x) (sender.after_sent a p D.next_ref) (opened x it.has) (after_id a p D.next_ref)
          (after_fits R a p D.next_ref fresh) r.raws)))
      act_sound (saves {file = file} x source sent it there none l) r =
          let both = and_left _ (nat_eq x.id x.last) it.passes in
          let g = plain (body.DataSaveAck file) refl (r.came refl) in
          let k : Letter = letter_of m (body.DataSaveAck file) in
          let fresh = fresh_ref E r.raws in
          sound_at (saves_seen d t m is (body.DataSaveAck file) x source sent (is_equal _ _ (and_left (nat_eq m.message.from x.recipient) _ both)) l)
          (sound_as (filed_masked R D fresh h k x source.here.bytes)
          (filed_good h k x source.here.bytes g (r.came refl).read refl (opened x it.has)
          (is_equal _ _ (and_right _ (nat_eq m.message.your_ref x.id) both)) (source_seen d t m is x source there))
          (raws_sent (sight.with_out E h x (outgoing.Open (filed_record E x))) h (loading E h k x (length source.here.bytes)) refl refl plays refl
          g.inv.order.in_below
          (raws_turned E h (outgoing.Open x) (outgoing.Open (filed_record E x)) (opened x it.has) refl fresh r.raws)))
      act_sound (finishes {file = file} x source it there) r =
          sound_at (outs_view d h (sender.sending_loaded x (length source.here.bytes)) live)
          (sound_as refl (loaded_good h x source.here.bytes (plain (body.DataLoadAck file) refl (r.came refl)) (opened x it.has)
          (source_seen d t m is x source there))
          (raws_turned E h (outgoing.Open x) (outgoing.Done x.id (length source.here.bytes)) (opened x it.has) refl tt r.raws))
      act_sound (claims {file = file} k b p sent few free claim alloc l) r =
          claimed (body.DataSave file) _ refl refl r (claims_seen d t m is (body.DataSave file) k b p sent few free claim alloc l)
          (claims_raw d t m is (body.DataSave file) k b p sent few free claim alloc l ∙ r.flag _ sent _ refl (slot_post d h p.0) l ∙ sym r.sender)
      act_sound (gives_up {back = true} {b = body.RamFetch buffer n} f y it why) r =
          given_up f it.has (r.good refl) (r.quiet refl f (buffered f it.has) (sym (is_equal _ _ it.passes))) r.raws
          (ended_view d h f (receiver.taking_failed f) live)
      act_sound (gives_up {back = false} {b = body.RamTransmit buffer n} f y it why) r =
          let g = plain (body.RamTransmit buffer n) refl (r.came refl) in
          let a = match buffer n f it in
          given_up f it.has g (read_quiet h f (letter_of m (body.RamTransmit buffer n)) (buffered f it.has) refl a.from a.answers (r.came refl).read.ok g)
          r.raws (ended_view d h f (receiver.taking_failed f) live)
      act_sound (gives_up f y it why) r = absurd (let z : false ≡ true = it.passes in (cc))
      act_sound (takes_last {buffer = buffer} {n = n} f longer it l less) r = taken buffer n f it (takes_last_seen d t m is n f longer l buffer less) r
      act_sound (takes_full {buffer = buffer} {n = n} f longer sent it l full s) r =
          taken buffer n f it (takes_full_seen d t m is n f longer l buffer sent full s) r
      act_sound (takes_some {buffer = buffer} {n = n} f longer why it l) r =
          let a = match buffer n f (record { has = inl it.has; passes = it.passes }) in
          let has = in_has (incoming.Fetching f) it.has in
          sound_at (ends_seen d t m is n f longer l (incoming.Failed f.id f.anchor (f.count + n)))
          (sound_as refl (stopped_good h f (letter_of m (body.RamTransmit buffer n)) (plain (body.RamTransmit buffer n) refl (r.came refl))
          (r.came refl).read refl has a)
          (raws_renewed E h (incoming.Fetching f) (incoming.Failed f.id f.anchor (f.count + n)) has refl tt
          (λ theirs. absurd (not_theirs r f.id f.sender (r.raws.senders h f (inl has)) a.from theirs)) r.raws))
      act_sound (asks f sent it none l) r =
          let g = r.good refl in
          let has = in_has (incoming.Fetching f) it.has in
          let fresh = fresh_ref E r.raws in
          let q : Asked = record { id = f.id; sender = f.sender; anchor = f.anchor; ack = D.next_ref } in
          sound_at (asks_seen d t m is f sent l)
          (sound_as (asked_masked R D fresh h f)
          (asked_good h f has (is_equal _ _ none) (g.inv.alive h live) (r.quiet refl f (buffered f (inl it.has)) (sym (is_equal _ _ it.passes))) g)
          (raws_sent (before_asked E h f) h (asking E h f) refl refl plays refl (below_renewed g (incoming.Fetching f) (incoming.Asking q) has refl)
          (raws_renewed E h (incoming.Fetching f) (incoming.Asking q) has refl (fresh, r.raws.senders h f (inl has), r.raws.given h f (inl has))
          (λ theirs. subst (λ n. Counted o f.id n) (is_equal _ _ none) (r.raws.exact h (incoming.Fetching f) has theirs)) r.raws)))
      act_sound (abandons {back = true} q y it why) r = abandoned q it.has (r.good refl) r.raws (ins_view d h (receiver.abandoned q 0) live)
      act_sound (abandons {back = false} {b = body.DataLoad file} q y it why) r =
          abandoned q it.has (plain (body.DataLoad file) refl (r.came refl)) r.raws (ins_view d h (receiver.abandoned q 0) live)
      act_sound (abandons q y it why) r = absurd (let z : false ≡ true = it.passes in (cc))
      act_sound (loads_only {file = file} q scrap longer why it w) r =
          let g = plain (body.DataLoad file) refl (r.came refl) in
          let has = in_has (incoming.Asking q) it.has in
          let from = is_equal _ _ (and_left (nat_eq m.message.from q.sender) _ (and_right (is_file m.message.my_ref d.scrap) _ it.passes)) in
          sound_at (loads_only_seen d t m is q scrap longer w)
          (sound_as refl (untold_good h (letter_of m (body.DataLoad file)) q g (r.came refl).read.ok.below.me (r.came refl).read.handle has scrap.bytes
          (whole file q scrap longer it w (r.came refl)))
          (raws_renewed E h (incoming.Asking q) (incoming.Failed q.id q.anchor (length scrap.bytes)) has refl tt
          (λ theirs. absurd (not_theirs r q.id q.sender (r.raws.askers h q has) from theirs)) r.raws))
      act_sound (loads {file = file} q scrap longer sent it w l) r =
          let g = plain (body.DataLoad file) refl (r.came refl) in
          let has = in_has (incoming.Asking q) it.has in
          let from = is_equal _ _ (and_left (nat_eq m.message.from q.sender) _ (and_right (is_file m.message.my_ref d.scrap) _ it.passes)) in
          let fresh = fresh_ref E r.raws in
          let n = length scrap.bytes in
          sound_at (loads_seen d t m is q scrap longer w (body.DataLoad file) sent from l)
          (sound_as (told_masked R (sight.copied D h q scrap.bytes) fresh h (letter_of m (body.DataLoad file)) q n)
          (told_good h (letter_of m (body.DataLoad file)) q g (r.came refl).read.ok.below.me (r.came refl).read.handle has scrap.bytes
          (whole file q scrap longer it w (r.came refl)))
          (raws_sent (sight.with_in (sight.copied E h q scrap.bytes) h q (incoming.Done q.id q.anchor n)) h
          (loaded E h (letter_of m (body.DataLoad file)) q n) refl refl plays refl
          (below_renewed g (incoming.Asking q) (incoming.Done q.id q.anchor n) has refl)
          (raws_renewed E h (incoming.Asking q) (incoming.Done q.id q.anchor n) has refl tt
          (λ theirs. absurd (not_theirs r q.id q.sender (r.raws.askers h q has) from theirs)) r.raws)))
