-- Each act on a message that a task with code of its own sent keeps what is known. Such a message is seen as a DataSave; what its
-- transfer offers grows by what is taken.
use Rattle.rh_safety.proofs.Common.{Active, Asked, Body, Bool, DataSave, Desk, Edits, Good, Handled, Has, Incoming, Letter, List, None, Offers}
use Rattle.rh_safety.proofs.Common.{Option, Outcome, Refusal, if◌then◌else◌, ◌&&◌}
use Rattle.rh_safety.proofs.Common.{Parcel, Part, RamFetch, Scrap, Sending, Slot, Some, Taking, Task, Transmit, [], and_left, and_right, answers_none, ap}
use Rattle.rh_safety.proofs.Common.{arith, blocks_of}
use Rattle.rh_safety.proofs.Common.{buffer_at, buffers_of, drop, either, false, field_is, in_id, inl, inr, ins_view, is_equal, is_going, leb_tells}
use Rattle.rh_safety.proofs.Common.{length, length-append, length_take, live_of, nat_eq, nat_lt, not, one_more, option_map, outs_view, put, put_other, put_same}
use Rattle.rh_safety.proofs.Common.{refl}
use Rattle.rh_safety.proofs.Common.{same_value, seen_letter, seen_scrap, slot_is, subst, suc, sym, take, task_of, transmit_letter, true, view, with_id, ℕ, ◌+◌}
use Rattle.rh_safety.proofs.Common.{◌∙◌}
use Rattle.rh_safety.proofs.Common.{◌≡◌, ◌≢◌, ◌≤◌, ◌<◌}
use Rattle.rh_safety.proofs.Common.{Flex, Split, first_is, nat_le, next_ref, slot_at, with_sending, ◌++◌, ◌∷◌}
use Rattle.std.proofs.Math.Seq.{drop-append_seam}
use Rattle.rh_defs.specs.declared.message.Body.TheVariants as body
use Rattle.rh_defs.specs.declared.transfer.Incoming.TheVariants as incoming
use Rattle.rh_defs.specs.declared.transfer.Outgoing.TheVariants as outgoing
use Rattle.rh_defs.specs.Places.{written_in}
use Rattle.rh_defs.specs.Receiver as receiver
use Rattle.rh_defs.specs.Sender as sender
use Rattle.std.specs.Prelude.{unwrap_or}
use Rattle.rh_defs.specs.declared.message.FileData.{FileData}
use Rattle.rh_defs.specs.declared.reply.Outcome.TheVariants as outcome
use Rattle.rh_defs.specs.Records.{active_of, asking_of}
use Rattle.rh_safety.specs.Buffers.{bytes_of_buffer}
use Rattle.rh_safety.specs.Given.{takes_bytes, takes_file}
use Rattle.rh_safety.specs.RawIds.{Gave}
use Rattle.rh_safety.proofs.Tolds.{told_by, told_bytes, told_file, told_none}
use Rattle.rh_safety.proofs.Sight as sight
use Rattle.rh_safety.proofs.Acts.{Act, ForActive, ForAsking, ForFetching, Leaves, Sends, abandons, drained, refused, unanswered, asks, claims, fails}
use Rattle.rh_safety.proofs.Acts.{finishes, gives_up, is_file, loads, loads_only}
use Rattle.rh_safety.proofs.Acts.{part_of, poured, saves, sends, skips, takes_full, takes_last, takes_some, transmit_of}
use Rattle.rh_safety.proofs.Arrivals.{Began, Matched, Takes, began_good, fetched_takes, filed_for, finished_takes, given_up_good, loaded_good, matched}
use Rattle.rh_safety.proofs.Arrivals.{shut_good, stopped_takes, take_whole, told_good, unasked_good, untold_good}
use Rattle.rh_safety.proofs.Filings.{NotTheLoad}
use Rattle.rh_safety.proofs.Invariant.{Counted}
use Rattle.rh_safety.proofs.KeptActs.{Ready, Sound, after_fits, after_id, began_masked, slot_post, sound_as, sound_at}
use Rattle.rh_safety.proofs.Masks.{masked, mask_file, mask_sent, masked_scrap}
use Rattle.rh_safety.proofs.Moves.{move_more, move_with}
use Rattle.rh_safety.proofs.Polls.{not_fetch_good, portion_ok}
use Rattle.rh_safety.proofs.Raws.{Raws, alone_is, below_move, fresh_ref, raws_in, raws_renewed, raws_sent, raws_took, raws_turned, theirs_quiet}
use Rattle.rh_safety.proofs.SeenActs.{buffer_size, claims_raw, claims_seen, ends_seen, fetch_in, loads_only_seen, loads_seen, saves_seen, source_seen}
use Rattle.rh_safety.proofs.SeenActs.{taken_desk}
use Rattle.rh_safety.proofs.SeenActs.{takes_full_seen, takes_last_seen}
use Rattle.rh_safety.proofs.SeenDocuments.{buffer_is, ended_view, letter_of}
use Rattle.rh_safety.proofs.SeenSends.{sent_slot, sent_view}
use Rattle.rh_safety.proofs.SeenTasks.{slot_view}
use Rattle.rh_safety.proofs.SentMessages.{before_begun, before_fetched, fetched_masked, fetching, filed_masked, filed_record, loaded, loading, next_record}
use Rattle.rh_safety.proofs.SentMessages.{told_masked}
use Rattle.rh_safety.proofs.Strangers.{answered_apart, longer_good, slot_good}

-- such a message as it is seen
abbrev pub strange : Parcel → Letter
strange m = record {
  from = m.message.from;
  me = m.message.my_ref;
  answers = 0;
  kind = DataSave;
  address = 0;
  amount = 0;
}

-- a record that has a buffer, as it is seen
buffered_in : (d : Desk) (t : Task) → task_of t.handle d.tasks ≡ Some t → (f : Taking) → Active t.taking f → Active ((view d).taking t.handle) f
buffered_in d t is f has = subst (λ ws. Active ws f) (sym (field_is (λ y. y.taking) [] t.handle d.tasks t is)) has

module _ (R : Gave) (H : ℕ → Bool) (d : Desk) (t : Task) (m : Parcel) (is : task_of t.handle d.tasks ≡ Some t)
    (theirs : R m.message.my_ref ≡ true) (plays : H t.handle ≡ false) where
  abbrev h : ℕ
  h = t.handle

  abbrev D : sight.Desk
  D = view d

  abbrev E : sight.Desk
  E = masked R (view d)

  live : D.live h ≡ true
  live = live_of d h t is

  sending_is : D.sending h ≡ t.sending
  sending_is = field_is (λ y. y.sending) [] h d.tasks t is

  taking_is : D.taking h ≡ t.taking
  taking_is = field_is (λ y. y.taking) [] h d.tasks t is

  opened : (x : Sending) → Has (outgoing.Open x) t.sending → Has (outgoing.Open x) (D.sending h)
  opened x has = subst (Has (outgoing.Open x)) (sym sending_is) has

  in_has : (w : Incoming) → Has w t.taking → Has w (D.taking h)
  in_has w has = subst (Has w) (sym taking_is) has

  -- a ref of the desk's own is another one
  apart : (i : ℕ) → R i ≡ false → m.message.my_ref ≢ i
  apart i mine eq = let z : true ≡ false = sym theirs ∙ ap R eq ∙ mine in (cc)

  not_load : NotTheLoad E.scrap m.message.my_ref
  not_load f s = apart f.load (mask_file R D.scrap f s).1

  match : (buffer n : ℕ) (f : Taking) → ForActive d t m false (body.RamTransmit buffer n) f → Matched E h f (letter_of m (body.RamTransmit buffer n))
  match buffer n f it = matched E h f (letter_of m (body.RamTransmit buffer n))
      (subst (λ k. receiver.is_answer k m.message.from m.message.your_ref buffer n f ≡ true) (sym (buffer_size d t m is)) it.passes)

  module _ {o : Offers} {e : Edits} {back : Bool} (r : Ready o e R H d t m back (strange m)) where
    fresh : R D.next_ref ≡ false
    fresh = fresh_ref E r.raws

    -- the sender's handle is theirs
    theirs_too : H m.message.from ≡ true
    theirs_too = sym r.sender ∙ theirs

    base : Good o e E
    base = go back refl
      where
        go : (b : Bool) → back ≡ b → Good o e E
        go true q = r.good q
        go false q = not_fetch_good h (strange m) (r.came q) (λ k. let z : DataSave ≡ RamFetch = k in (cc))

    -- ---- records that end or are turned, whatever is offered

    out_failed : {y : sight.Desk} (x : Sending) → Has (outgoing.Open x) t.sending → y ≡ sight.failed D h x → Sound o e R H y
    out_failed x has v =
        (sound_at v (sound_as refl (shut_good h x base.inv (λ s z b ne. base.pending s z b) base.born (opened x has))
        (raws_turned E h (outgoing.Open x) (outgoing.Failed x.id x.count) (opened x has) refl tt r.raws)))

    given_up : {y : sight.Desk} (f : Taking) → Active t.taking f → R f.id ≡ true → y ≡ sight.given_up D h f → Sound o e R H y
    given_up f (inl has) his v =
        (sound_at v (sound_as refl (given_up_good h f base (inl (in_has _ has)) (theirs_quiet E h f.id r.raws his))
        (raws_renewed E h (incoming.Fetching f) (incoming.Failed f.id f.anchor f.count) (in_has _ has) refl tt
        (λ q. r.raws.exact h (incoming.Fetching f) (in_has _ has) q) r.raws)))
    given_up f (inr has) his v =
        (sound_at v (sound_as refl (given_up_good h f base (inr (in_has _ has)) (theirs_quiet E h f.id r.raws his))
        (raws_renewed E h (incoming.Draining f) (incoming.Failed f.id f.anchor f.count) (in_has _ has) refl tt
        (λ q. r.raws.exact h (incoming.Draining f) (in_has _ has) q) r.raws)))

    abandoned : {y : sight.Desk} (q : Asked) → Has (incoming.Asking q) t.taking → y ≡ sight.with_in D h q (incoming.Failed q.id q.anchor 0) →
        Sound o e R H y
    abandoned q has v =
        (sound_at v (sound_as refl (unasked_good h q (in_has _ has) base)
        (raws_renewed E h (incoming.Asking q) (incoming.Failed q.id q.anchor 0) (in_has _ has) refl tt
        (λ z. r.raws.exact h (incoming.Asking q) (in_has _ has) z) r.raws)))

    module _ (tk : back ≡ false) where
      me : m.message.my_ref < D.next_ref
      me = (r.came tk).read.ok.below.me

      handle : h < D.next_handle
      handle = (r.came tk).read.handle

      -- ---- a first fetch

      claimed : (b : Body) (after : sight.Desk) → (began : Began D h (letter_of m b) after) → began.raw ≡ R m.message.my_ref → Sound o e R H after
      claimed b after began flag =
          let w : Began E h (strange m) (masked R after) = record {
            anchor = began.anchor;
            address = began.address;
            bytes = began.bytes;
            raw = began.raw;
            free_anchor = began.free_anchor;
            free_address = began.free_address;
            size = began.size;
            few = began.few;
            seen = (began_masked R D h (letter_of m b) after fresh began).seen;
          } in
          let f : Taking = record {
            id = m.message.my_ref;
            sender = m.message.from;
            anchor = w.anchor;
            buffer = w.address;
            count = 0;
            fetch = D.next_ref;
            raw = w.raw;
          } in
          let new : ℕ → List Incoming = put D.taking h (one_more D.most is_going (D.taking h) (incoming.Fetching f)) in
          let move = move_more in_id D.taking h D.most is_going (incoming.Fetching f) (λ u has eq. r.unborn tk h u has eq) in
          (record {
            good = began_good h (strange m) base (r.came tk).read refl (masked R after) w;
            raws = subst (λ (z : sight.Desk). Raws R H o z) (sym w.seen)
                (raws_sent (before_begun E h w.anchor w.address w.bytes (strange m) w.raw) h (fetching E h f m.message.my_ref) refl refl plays refl
                (below_move D.taking D.next_ref new h (incoming.Fetching f) move me base.inv.order.in_below)
                (raws_in new h (incoming.Fetching f) move (record {
                  fits = (fresh, r.sender, r.below, flag);
                  exact = λ q. record { all = []; offered = r.empty tk q; whole = refl };
                  one = λ k u has eq. absurd (r.unborn tk k u has eq);
                  fresh = λ y has un eq. r.unlike tk y has un (sym eq);
                  mine = plays;
                }) r.raws));
          })

      -- ---- bytes that were moved into the buffer

      module _ (buffer n : ℕ) (f : Taking) (it : ForFetching d t m false (body.RamTransmit buffer n) f) where
        abbrev l : Letter
        l = letter_of m (body.RamTransmit buffer n)

        has : Has (incoming.Fetching f) (D.taking h)
        has = in_has (incoming.Fetching f) it.has

        a : Matched E h f l
        a = match buffer n f (record { has = inl it.has; passes = it.passes })

        his : R f.id ≡ true
        his = r.raws.senders h f (inl has) ∙ ap H (sym a.from) ∙ theirs_too

        -- what was taken before, and what is in the buffer
        before : Counted o f.id f.count
        before = r.raws.exact h (incoming.Fetching f) has his

        abbrev in_buffer : List ℕ
        in_buffer = (base.inv.ins.buffer h f (inl has)).bytes

        abbrev more : List ℕ
        more = take n in_buffer

        size : length more ≡ n
        size = let b = base.inv.ins.buffer h f (inl has) in let z = b.size in let y = a.amount in length_take n in_buffer (omega (arith, z, y))

        abbrev p : Offers
        p = put o f.id (Some (before.all ++ more))

        total : length (before.all ++ more) ≡ f.count + n
        total = let z = length-append before.all more in let y = before.whole in omega (arith, z, y, size)

        same : (i : ℕ) → R i ≡ false → p i ≡ o i
        same i q = put_other o f.id (Some (before.all ++ more)) i (λ eq. let z : true ≡ false = sym his ∙ ap R (sym eq) ∙ q in (cc))

        longer : Good p e E
        longer = longer_good h (incoming.Fetching f) before.all more
            (alone_is R H o D h (incoming.Fetching f) r.raws has refl his (λ q s eq. absurd (let z : incoming.Asking q ≡ incoming.Fetching f = eq in (cc))))
            before.offered base

        counted : Counted p f.id (f.count + n)
        counted = record { all = before.all ++ more; offered = put_same o f.id (Some (before.all ++ more)); whole = sym total }

        takes : Takes p E h f l
        takes = record {
          carries = record {
            all = before.all ++ more;
            bytes = in_buffer;
            offered = put_same o f.id (Some (before.all ++ more));
            there = (base.inv.ins.buffer h f (inl has)).there;
            same = sym (take_whole n more (sym size)) ∙ ap (take n) (sym (drop-append_seam before.all more) ∙
                ap (λ k. drop k (before.all ++ more)) (sym before.whole));
            fits = let z = total in omega (arith, z);
            short = λ less. sym total;
          };
          quiet = theirs_quiet E h f.id r.raws his;
          below = me;
          apart = not_load;
          handle = handle;
          level = λ s x opens eq. absurd (apart x.last (r.raws.lasts s x opens) eq);
        }

        below_next : (k : ℕ) (u : Incoming) → Has u (put D.taking h (with_id in_id f.id (incoming.Fetching (next_record D f n)) (D.taking h)) k)
            → in_id u < D.next_ref
        below_next = below_move D.taking D.next_ref (put D.taking h (with_id in_id f.id (incoming.Fetching (next_record D f n)) (D.taking h))) h
            (incoming.Fetching (next_record D f n))
            (move_with in_id D.taking h f.id (incoming.Fetching (next_record D f n)) refl)
            (base.inv.order.in_below h (incoming.Fetching f) has) base.inv.order.in_below

        taken : {y : sight.Desk} → y ≡ taken_desk D h f l → Sound p e R H y
        taken v = sound_at v (either (λ (z : sight.Desk). Sound p e R H z) (nat_lt n (D.buf h)) _ _
            (λ short. sound_as refl (finished_takes h f l longer has takes (elim (leb_tells (suc n) (D.buf h)) [
              | inl w ↦ w.1
              | inr w ↦ absurd (let z = w.0 in (cc))
            ]))
            (raws_took E h (incoming.Fetching f) (incoming.Done f.id f.anchor (f.count + n)) (Some (before.all ++ more)) has refl tt counted r.raws))
            (λ full. sound_as (fetched_masked R (sight.longer D h f n) fresh h f n l.me) (fetched_takes h f l longer has takes)
            (raws_sent (before_fetched (sight.longer E h f n) h f n) h (fetching E h f l.me) refl refl plays refl below_next
            (raws_took E h (incoming.Fetching f) (incoming.Fetching (next_record D f n)) (Some (before.all ++ more)) has refl
            (fresh, r.raws.senders h f (inl has), r.raws.given h f (inl has), r.raws.flags h f has) counted r.raws))))

        stopped : {y : sight.Desk} → y ≡ sight.ended (sight.longer D h f n) h f (incoming.Failed f.id f.anchor (f.count + n)) → Sound p e R H y
        stopped v = sound_at v (sound_as refl (stopped_takes h f l longer has takes)
            (raws_took E h (incoming.Fetching f) (incoming.Failed f.id f.anchor (f.count + n)) (Some (before.all ++ more)) has refl tt counted r.raws))

        -- by what was done: the buffer's bytes are these
        told : (c : Outcome) → takes_bytes c ≡ true → told_by o R t d.scrap m false (body.RamTransmit buffer n) c ≡ p
        told c took =
            let test = receiver.is_answer t.buffer m.message.from m.message.your_ref buffer n in
            let old : unwrap_or (o f.id) [] ≡ before.all = ap (λ (x : Option (List ℕ)). unwrap_or x []) before.offered in
            let there : bytes_of_buffer t.slot f.buffer ≡ Some in_buffer = buffer_is f.buffer t.slot ∙
            ap (λ (x : ℕ → Option (List ℕ)). x f.buffer) (sym (field_is (λ y. buffers_of y.slot) (λ a. None) h d.tasks t is)) ∙
            (base.inv.ins.buffer h f (inl has)).there in
            let bytes : take n (unwrap_or (bytes_of_buffer t.slot f.buffer) []) ≡ more = ap (λ (x : Option (List ℕ)). take n (unwrap_or x [])) there in
            ap (λ b. if b then told_bytes o R t (active_of test t.taking) n else o) took ∙ ap (λ v. told_bytes o R t v n) it.found ∙
            ap (λ b. if b then put o f.id (Some (unwrap_or (o f.id) [] ++ take n (unwrap_or (bytes_of_buffer t.slot f.buffer) []))) else o) his ∙
            ap (λ (x : List ℕ). put o f.id (Some (x ++ take n (unwrap_or (bytes_of_buffer t.slot f.buffer) [])))) old ∙
            ap (λ (x : List ℕ). put o f.id (Some (before.all ++ x))) bytes

      -- ---- a file of theirs

      module _ (q : Asked) (scrap : Scrap) (has : Has (incoming.Asking q) (D.taking h)) (from : m.message.from ≡ q.sender)
          (there : d.scrap ≡ Some scrap) (names : scrap.load ≡ m.message.my_ref) where
        his_file : R q.id ≡ true
        his_file = r.raws.askers h q has ∙ ap H (sym from) ∙ theirs_too

        none_before : Counted o q.id 0
        none_before = r.raws.exact h (incoming.Asking q) has his_file

        abbrev all : List ℕ
        all = none_before.all ++ scrap.bytes

        all_is : all ≡ scrap.bytes
        all_is = go none_before.all none_before.whole
          where
            go : (xs : List ℕ) → 0 ≡ length xs → xs ++ scrap.bytes ≡ scrap.bytes
            go [] z = refl
            go (x ∷ xs) z = absurd (omega (arith, z))

        abbrev file_offers : Offers
        file_offers = put o q.id (Some all)

        same_file : (i : ℕ) → R i ≡ false → file_offers i ≡ o i
        same_file i z = put_other o q.id (Some all) i (λ eq. let y : true ≡ false = sym his_file ∙ ap R (sym eq) ∙ z in (cc))

        unseen : E.scrap ≡ None
        unseen = ap (λ (s : Option Scrap). masked_scrap R (option_map seen_scrap s)) there ∙
            (let z : R scrap.load ≡ true = ap R names ∙ theirs in rw z refl)

        filed : Good file_offers e E
        filed = longer_good h (incoming.Asking q) none_before.all scrap.bytes
            (alone_is R H o D h (incoming.Asking q) r.raws has refl his_file (λ y s eq shown. let z : None ≡ Some s = sym unseen ∙ shown in (cc)))
            none_before.offered base

        offered : file_offers q.id ≡ Some scrap.bytes
        offered = put_same o q.id (Some all) ∙ ap (λ (x : List ℕ). Option.Some x) all_is

        counted_file : Counted file_offers q.id (length scrap.bytes)
        counted_file = record { all = scrap.bytes; offered = offered; whole = refl }

        -- by what was done
        told_loaded : (b : FileData) (c : Outcome) → takes_file c ≡ true → asking_of (receiver.is_load m.message.from m.message.your_ref) t.taking ≡ Some q →
            told_by o R t d.scrap m false (body.DataLoad b) c ≡ file_offers
        told_loaded b c took found =
            let old : unwrap_or (o q.id) [] ≡ none_before.all = ap (λ (x : Option (List ℕ)). unwrap_or x []) none_before.offered in
            ap (λ v. if v then told_file o R (asking_of (receiver.is_load m.message.from m.message.your_ref) t.taking) d.scrap else o) took ∙
            ap (λ v. told_file o R v d.scrap) found ∙ ap (told_file o R (Some q)) there ∙
            ap (λ v. if v then put o q.id (Some (unwrap_or (o q.id) [] ++ scrap.bytes)) else o) his_file ∙
            ap (λ (x : List ℕ). put o q.id (Some (x ++ scrap.bytes))) old

      -- ---- bytes that go out to it

      module _ (buffer n : ℕ) (x : Sending) (source : Split Flex) (to : Task) (sent : Desk) (has : Has (outgoing.Open x) (D.sending h))
          (from : m.message.from ≡ x.recipient) (s : Sends d t m buffer n x source to sent) where
        abbrev act : Transmit
        act = transmit_of d t m buffer n x

        abbrev part : Part
        part = part_of d t m buffer n x source

        abbrev k : ℕ
        k = to.handle

        abbrev edit : Slot → Slot
        edit s = written_in buffer (take part.n (drop part.offset source.here.bytes)) (buffer_at buffer n s) s

        abbrev S : List ℕ
        S = source.here.bytes

        abbrev fetch : Letter
        fetch = fetch_in m buffer n

        there : k ≡ x.recipient
        there = is_equal _ _ (first_is (λ (y : Task). nat_eq y.handle x.recipient) d.tasks to s.to).1

        its : H k ≡ true
        its = ap H (there ∙ sym from) ∙ theirs_too

        not_here : h ≢ k
        not_here eq = let z : true ≡ false = sym its ∙ ap H (sym eq) ∙ plays in (cc)

        -- the desk with the other slot
        abbrev F : sight.Desk
        F = record E { block = put D.block k (blocks_of (edit to.slot)); heap = put D.heap k (buffers_of (edit to.slot)) }

        slot_is_good : Good o e F
        slot_is_good = slot_good k (blocks_of (edit to.slot)) (buffers_of (edit to.slot)) (r.raws.none_out k its) (r.raws.none_in k its) base

        -- and with the message, and the record written anew
        abbrev gone : sight.Desk
        gone = sight.sent (record D {
          block = put D.block k (blocks_of (edit to.slot));
          heap = put D.heap k (buffers_of (edit to.slot));
          sending = put D.sending h (sender.sent act part D.next_ref (D.sending h));
        }) h (seen_letter (transmit_letter h act part) D.next_ref)

        gone_seen : view (with_sending h (sender.sent act part (next_ref d)) (poured d t m buffer n part source to sent)) ≡ gone
        gone_seen =
            let letter = transmit_letter h act part in
            let v : view sent ≡ sight.sent D h (seen_letter letter D.next_ref) = sent_view d sent letter s.letter live in
            let lives : (view sent).live k ≡ true = ap (λ (y : sight.Desk). y.live k) v ∙ ap D.live there ∙ live_of d x.recipient to s.to in
            let slot : slot_at sent k ≡ to.slot = sent_slot d sent letter s.letter k ∙ ap (slot_at d) there ∙ slot_is d x.recipient to s.to in
            let w = slot_view sent k edit to.slot lives slot ∙ ap (λ (y : sight.Desk). record y {
              block = put y.block k (blocks_of (edit to.slot));
              heap = put y.heap k (buffers_of (edit to.slot));
            }) v in
            outs_view _ h (sender.sent act part D.next_ref) (ap (λ (y : sight.Desk). y.live h) w ∙ live) ∙
            ap (λ (y : sight.Desk). record y { sending = put y.sending h (sender.sent act part D.next_ref (y.sending h)) }) w

        sent_out : Sound o e R H (view (with_sending h (sender.sent act part (next_ref d)) (poured d t m buffer n part source to sent)))
        sent_out =
            let of = base.inv.outs.source h x has in
            let here : D.block h x.anchor ≡ Some S = source_seen d t m is x source s.source_is in
            let all : S ≡ of.all = same_value (D.block h x.anchor) here of.there in
            (sound_at gone_seen (sound_as (mask_sent R (record D {
              block = put D.block k (blocks_of (edit to.slot));
              heap = put D.heap k (buffers_of (edit to.slot));
              sending = put D.sending h (sender.sent act part D.next_ref (D.sending h));
            }) h (seen_letter (transmit_letter h act part) D.next_ref) fresh)
            (answered_apart {d = F} h fetch x slot_is_good has (record {
              below = me;
              apart = not_load;
              handle = handle;
              none = λ b u act eq. apart u.fetch (r.raws.fetches b u act) eq;
            }) m.message.from part.n S (ap (λ (f : ℕ → Option (List ℕ)). f x.anchor) (put_other D.block k (blocks_of (edit to.slot)) h not_here) ∙ here)
            (portion_ok S x fetch (subst (λ (z : List ℕ). x.count ≤ length z) (sym all) of.fits)) _ refl)
            (raws_sent (record E { sending = put D.sending h (sender.sent act part D.next_ref (D.sending h)) }) h
            (seen_letter (transmit_letter h act part) D.next_ref) refl refl plays refl base.inv.order.in_below
            (raws_turned E h (outgoing.Open x) (sender.after_sent act part D.next_ref) has (after_id act part D.next_ref)
            (after_fits R act part D.next_ref fresh) r.raws))))

    -- ---- each act

    not_back : back ≡ true → (i : ℕ) → R i ≡ false → i ≡ m.message.my_ref → ⊥
    not_back q i mine eq = apart i mine (sym eq)

-- the record that a DataLoad is for
load_found : (d : Desk) (t : Task) (m : Parcel) (file : FileData) (q : Asked) → ForAsking d t m false (body.DataLoad file) q →
    asking_of (receiver.is_load m.message.from m.message.your_ref) t.taking ≡ Some q
load_found d t m file q it =
    subst (λ c. asking_of (λ (y : Asked). c && receiver.is_load m.message.from m.message.your_ref y) t.taking ≡ Some q)
    (and_left (is_file m.message.my_ref d.scrap) _ it.passes) it.found

-- nothing is taken where something was refused
told_refused : (o : Offers) (R : Gave) (t : Task) (file : Option Scrap) (m : Parcel) (b : Body) (y : Outcome) → (r : Refusal) × (y ≡ outcome.Refused r) →
    told_by o R t file m false b y ≡ o
told_refused o R t file m b y why =
    ap (told_by o R t file m false b) why.1 ∙ told_none o R t file m false b (outcome.Refused why.0) refl refl

-- or where a record ends
told_given_up : (o : Offers) (R : Gave) (d : Desk) (t : Task) (m : Parcel) (buffer n : ℕ) (f : Taking) (y : Outcome) →
    Leaves d t m false (body.RamTransmit buffer n) f y → told_by o R t d.scrap m false (body.RamTransmit buffer n) y ≡ o
told_given_up o R d t m buffer n f y (drained found) = go (takes_bytes y)
  where
    go : (c : Bool) → (if c then told_bytes o R t (active_of (receiver.is_answer t.buffer m.message.from m.message.your_ref buffer n) t.taking) n else o) ≡ o
    go true = ap (λ v. told_bytes o R t v n) found
    go false = refl
told_given_up o R d t m buffer n f y (refused r is) = told_refused o R t d.scrap m (body.RamTransmit buffer n) y (r, is)
told_given_up o R d t m buffer n f y (unanswered found back_ none) = absurd (let z : false ≡ true = back_ in (cc))

-- in other words
pub sound_told : {o p : Offers} {e : Edits} {R : Gave} {H : ℕ → Bool} {D : sight.Desk} → p ≡ o → Sound o e R H D → Sound p e R H D
sound_told {e = e} {R} {H} {D} q s = subst (λ (z : Offers). Sound z e R H D) (sym q) s

pub act_strange : (R : Gave) (H : ℕ → Bool) (d : Desk) (t : Task) (m : Parcel) (is : task_of t.handle d.tasks ≡ Some t) →
    R m.message.my_ref ≡ true → H t.handle ≡ false → {o : Offers} {e : Edits} {back : Bool} {b : Body} {y : Handled} → Act d t m back b y →
    Ready o e R H d t m back (strange m) → Sound (told_by o R t d.scrap m back b y.1) e R H (view y.0)
act_strange R H d t m is theirs plays (skips {back = true} none) r = record { good = r.good refl; raws = r.raws }
act_strange R H d t m is theirs plays {o = o} (skips {back = false} {b = b} none) r =
    sound_told (told_none o R t d.scrap m false b outcome.Ignored refl refl) (record { good = base R H d t m is theirs plays r; raws = r.raws })
act_strange R H d t m is theirs plays (fails {back = true} x y it why) r =
    out_failed R H d t m is theirs plays r x it.has (outs_view d t.handle (sender.sending_failed x) (live_of d t.handle t is))
act_strange R H d t m is theirs plays {o = o} (fails {back = false} {b = b} x y it why) r =
    sound_told (told_refused o R t d.scrap m b y why)
    (out_failed R H d t m is theirs plays r x it.has (outs_view d t.handle (sender.sending_failed x) (live_of d t.handle t is)))
act_strange R H d t m is theirs plays (sends {buffer = buffer} {n = n} x source s sent it w) r =
    let passes = and_right (not (answers_none t.manner)) _ it.passes in
    let from = is_equal _ _ (and_left (nat_eq m.message.from x.recipient) _ (and_left _ (nat_le 1 n) passes)) in
    sent_out R H d t m is theirs plays r refl buffer n x source s sent (opened R H d t m is theirs plays x it.has) from w
act_strange R H d t m is theirs plays (saves {file = file} x source sent it there none l) r =
    let both = and_left _ (nat_eq x.id x.last) it.passes in
    let k : Letter = letter_of m (body.DataSaveAck file) in
    let D = view d in
    let h = t.handle in
    let has = opened R H d t m is theirs plays x it.has in
    let g = base R H d t m is theirs plays r in
    let new_ref = fresh R H d t m is theirs plays r in
    (sound_at (saves_seen d t m is (body.DataSaveAck file) x source sent (is_equal _ _ (and_left (nat_eq m.message.from x.recipient) _ both)) l)
    (sound_as (filed_masked R D new_ref h k x source.here.bytes)
    (filed_for h k x source.here.bytes g (record {
      below = me R H d t m is theirs plays r refl;
      apart = not_load R H d t m is theirs plays;
      handle = handle R H d t m is theirs plays r refl;
      asked = λ j q has eq. absurd (apart R H d t m is theirs plays q.ack (r.raws.acks j q has) eq);
    }) has (source_seen d t m is x source there))
    (raws_sent (sight.with_out (masked R D) h x (outgoing.Open (filed_record D x))) h (loading D h k x (length source.here.bytes)) refl refl plays refl
    g.inv.order.in_below
    (raws_turned (masked R D) h (outgoing.Open x) (outgoing.Open (filed_record D x)) has refl new_ref r.raws))))
act_strange R H d t m is theirs plays (finishes {file = file} x source it there) r =
    let h = t.handle in
    let has = opened R H d t m is theirs plays x it.has in
    (sound_at (outs_view d h (sender.sending_loaded x (length source.here.bytes)) (live_of d h t is))
    (sound_as refl (loaded_good h x source.here.bytes (base R H d t m is theirs plays r) has (source_seen d t m is x source there))
    (raws_turned (masked R (view d)) h (outgoing.Open x) (outgoing.Done x.id (length source.here.bytes)) has refl tt r.raws)))
act_strange R H d t m is theirs plays (claims {file = file} k b p sent few free claim alloc l) r =
    claimed R H d t m is theirs plays r refl (body.DataSave file) _ (claims_seen d t m is (body.DataSave file) k b p sent few free claim alloc l)
    (claims_raw d t m is (body.DataSave file) k b p sent few free claim alloc l ∙ r.flag _ sent _ refl (slot_post d t.handle p.0) l ∙ sym r.sender)
act_strange R H d t m is theirs plays (gives_up {back = true} {b = body.RamFetch buffer n} f y it why) r =
    absurd (not_back R H d t m is theirs plays r refl f.fetch (r.raws.fetches t.handle f (buffered_in d t is f it.has)) (is_equal _ _ it.passes))
act_strange R H d t m is theirs plays {o = o} (gives_up {back = false} {b = body.RamTransmit buffer n} f y it why) r =
    let a = match R H d t m is theirs plays buffer n f it in
    sound_told (told_given_up o R d t m buffer n f y why)
    (given_up R H d t m is theirs plays r f it.has
    (r.raws.senders t.handle f (buffered_in d t is f it.has) ∙ ap H (sym a.from) ∙ theirs_too R H d t m is theirs plays r)
    (ended_view d t.handle f (receiver.taking_failed f) (live_of d t.handle t is)))
act_strange R H d t m is theirs plays (gives_up f y it why) r = absurd (let z : false ≡ true = it.passes in (cc))
act_strange R H d t m is theirs plays (takes_last {buffer = buffer} {n = n} f longer it l less) r =
    sound_told (told R H d t m is theirs plays r refl buffer n f it (outcome.TookLast n) refl)
    (taken R H d t m is theirs plays r refl buffer n f it (takes_last_seen d t m is n f longer l buffer less))
act_strange R H d t m is theirs plays (takes_full {buffer = buffer} {n = n} f longer sent it l full s) r =
    sound_told (told R H d t m is theirs plays r refl buffer n f it (outcome.TookFull n (next_ref longer)) refl)
    (taken R H d t m is theirs plays r refl buffer n f it (takes_full_seen d t m is n f longer l buffer sent full s))
act_strange R H d t m is theirs plays (takes_some {buffer = buffer} {n = n} f longer why it l) r =
    sound_told (told R H d t m is theirs plays r refl buffer n f it (outcome.TookFailed n why) refl)
    (stopped R H d t m is theirs plays r refl buffer n f it (ends_seen d t m is n f longer l (incoming.Failed f.id f.anchor (f.count + n))))
act_strange R H d t m is theirs plays (asks f sent it none l) r =
    absurd (not_back R H d t m is theirs plays r refl f.fetch (r.raws.fetches t.handle f (buffered_in d t is f (inl it.has))) (is_equal _ _ it.passes))
act_strange R H d t m is theirs plays (abandons {back = true} q y it why) r =
    abandoned R H d t m is theirs plays r q it.has (ins_view d t.handle (receiver.abandoned q 0) (live_of d t.handle t is))
act_strange R H d t m is theirs plays {o = o} (abandons {back = false} {b = b} q y it why) r =
    sound_told (told_refused o R t d.scrap m b y why)
    (abandoned R H d t m is theirs plays r q it.has (ins_view d t.handle (receiver.abandoned q 0) (live_of d t.handle t is)))
act_strange R H d t m is theirs plays (loads_only {file = file} q scrap longer why it w) r =
    let h = t.handle in
    let has = in_has R H d t m is theirs plays (incoming.Asking q) it.has in
    let from = is_equal _ _ (and_left (nat_eq m.message.from q.sender) _ (and_right (is_file m.message.my_ref d.scrap) _ it.passes)) in
    let n = length scrap.bytes in
    let counted = counted_file R H d t m is theirs plays r refl q scrap has from w.there w.names in
    sound_told (told_loaded R H d t m is theirs plays r refl q scrap has from w.there w.names file (outcome.LoadedFailed n why) refl
    (load_found d t m file q it))
    (sound_at (loads_only_seen d t m is q scrap longer w)
    (sound_as refl (untold_good h (strange m) q (filed R H d t m is theirs plays r refl q scrap has from w.there w.names)
    (me R H d t m is theirs plays r refl) (handle R H d t m is theirs plays r refl) has scrap.bytes
    (offered R H d t m is theirs plays r refl q scrap has from w.there w.names))
    (raws_took (masked R (view d)) h (incoming.Asking q) (incoming.Failed q.id q.anchor n) _ has refl tt counted r.raws)))
act_strange R H d t m is theirs plays (loads {file = file} q scrap longer sent it w l) r =
    let h = t.handle in
    let D = view d in
    let has = in_has R H d t m is theirs plays (incoming.Asking q) it.has in
    let from = is_equal _ _ (and_left (nat_eq m.message.from q.sender) _ (and_right (is_file m.message.my_ref d.scrap) _ it.passes)) in
    let n = length scrap.bytes in
    let v = incoming.Done q.id q.anchor n in
    let g = base R H d t m is theirs plays r in
    let counted = counted_file R H d t m is theirs plays r refl q scrap has from w.there w.names in
    sound_told (told_loaded R H d t m is theirs plays r refl q scrap has from w.there w.names file (outcome.Loaded n) refl (load_found d t m file q it))
    (sound_at (loads_seen d t m is q scrap longer w (body.DataLoad file) sent from l)
    (sound_as (told_masked R (sight.copied D h q scrap.bytes) (fresh R H d t m is theirs plays r) h (strange m) q n)
    (told_good h (strange m) q (filed R H d t m is theirs plays r refl q scrap has from w.there w.names)
    (me R H d t m is theirs plays r refl) (handle R H d t m is theirs plays r refl) has scrap.bytes
    (offered R H d t m is theirs plays r refl q scrap has from w.there w.names))
    (raws_sent (sight.with_in (sight.copied (masked R D) h q scrap.bytes) h q v) h (loaded D h (strange m) q n) refl refl plays refl
    (below_move D.taking D.next_ref (put D.taking h (with_id in_id q.id v (D.taking h))) h v (move_with in_id D.taking h q.id v refl)
    (g.inv.order.in_below h (incoming.Asking q) has) g.inv.order.in_below)
    (raws_took (masked R D) h (incoming.Asking q) v _ has refl tt counted r.raws))))
