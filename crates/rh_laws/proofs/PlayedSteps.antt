-- Each command leaves each record waiting whose other end the desk plays, and ends those of transfers whose sender says Done.
use Rattle.rh_laws.proofs.Common.{Answer, Body, Bool, Changed, Command, Desk, Edits, Fits, Has, List, Manner, None, NoTask, NotOpen, NothingSent, Offers}
use Rattle.rh_laws.proofs.Common.{OnGrant, Option}
use Rattle.rh_laws.proofs.Common.{Ok, Refusal, Reply, Scrap, Sending, Slot, Some, Taking, Task, [], answers_none, any-grant, ap, arith, blocks_of}
use Rattle.rh_laws.proofs.Common.{buffers_of, cancel_in, cancel_out, change, chosen, eq-eqb, eqb_tells, false, field_is, find, first_is, found_name, found_or}
use Rattle.rh_laws.proofs.Common.{free_pages, granted, granted-both, granted-on, granted-past, granted-then, has_name, held_by, idle_block, if◌then◌else◌}
use Rattle.rh_laws.proofs.Common.{in_id}
use Rattle.rh_laws.proofs.Common.{in_slot, inl, inr, is_equal, is_found, is_open, is_some, kill, length, live_of, make, named, next_ref, none_some, not}
use Rattle.rh_laws.proofs.Common.{open_of}
use Rattle.rh_laws.proofs.Common.{option_map, or_else-keeps, out_id, poll, post_poll, put_other, refl, repeat, save, seen_parcel, send_letter, start_task, step}
use Rattle.rh_laws.proofs.Common.{subst, sym}
use Rattle.rh_laws.proofs.Common.{task_at, task_of, the_task, true, unwrap_or, view, with_delivered, with_id, with_sending, with_slot, with_taking}
use Rattle.rh_laws.proofs.Common.{◌==◌, with_task, ℕ, ◌<◌, ◌∙◌, ◌≡◌}
use Rattle.rh_defs.specs.declared.command.Command.TheVariants as command
use Rattle.rh_defs.specs.declared.message.Action.TheVariants as action
use Rattle.rh_defs.specs.declared.message.Body.TheVariants as body
use Rattle.rh_defs.specs.declared.message.Letter.{Letter as Letter_}
use Rattle.rh_defs.specs.declared.raw_command.RawCommand.TheVariants as raw
use Rattle.rh_defs.specs.declared.reply.Reply.TheVariants as reply
use Rattle.rh_defs.specs.Commands.{with_new_task, with_released}
use Rattle.rh_defs.specs.Desk.{kept_scrap}
use Rattle.rh_defs.specs.IncomingEvents.{is_deaf, without_buffer}
use Rattle.rh_defs.specs.Letters.{save_letter}
use Rattle.rh_defs.specs.OutgoingEvents.{scrap_shortage, wider}
use Rattle.rh_defs.specs.Pieces.{Split}
use Rattle.rh_defs.specs.Places.{bytes_held, written_held}
use Rattle.rh_defs.specs.Post.{post_death, put_down}
use Rattle.rh_defs.specs.RawCommands.{ack, after_answer, raw_letter, send, spool, spool_letter, transfer}
use Rattle.rh_defs.specs.RawTasks.{is_raw, is_raw_task}
use Rattle.rh_defs.specs.Receiver as receiver
use Rattle.rh_defs.specs.Records.{is_meant}
use Rattle.rh_defs.specs.Sender as sender
use Rattle.rh_defs.specs.Slot.{Flex, flex_start, new_slot, weight}
use Rattle.rh_safety.specs.RawIds.{Gave, gave_next}
use Rattle.rh_safety.specs.Refs.{HaveOwnRefs}
use Rattle.rh_safety.proofs.Ends.{Asking, Draining, Fetching, In, In_done, In_failed, Message, Open, Out, Out_failed, Recorded, Returned, put}
use Rattle.rh_safety.proofs.FlexMaps as flex
use Rattle.rh_safety.proofs.Invariant.{Known, Knows}
use Rattle.rh_safety.proofs.Keeps.{Stands, from_found}
use Rattle.rh_safety.proofs.Masks.{mask_knows, masked, masked_letter}
use Rattle.rh_safety.proofs.Moves.{move_more, move_with}
use Rattle.rh_safety.proofs.SeenBlocks.{the_idle}
use Rattle.rh_safety.proofs.SeenPosts.{after_kill, killed_view, with_scrap}
use Rattle.rh_safety.proofs.SeenSaves.{after_save}
use Rattle.rh_safety.proofs.SeenSends.{held_put, held_seen, sent_view}
use Rattle.rh_safety.proofs.SeenStarts.{begin_is, no_task_of, started_view}
use Rattle.rh_safety.proofs.SeenTaking.{poll_taken_is}
use Rattle.rh_safety.proofs.SeenTasks.{ins_view, outs_view, slot_is, slot_view}
use Rattle.rh_safety.proofs.Sight as sight
use Rattle.rh_safety.proofs.Sight.{owned}
use Rattle.rh_safety.proofs.View.{flex_map, seen_last, seen_letter, seen_scrap}
use Rattle.rh_defs.specs.AnyMessage.{body_of, read_body}
use Rattle.rh_safety.specs.Offered.{last_of}
use Rattle.rh_safety.proofs.Raws.{mine_out}
use Rattle.rh_laws.specs.Addressed.{Addresses, Parties, addressed_as, addressed_last, addresses_next, parties_of, parties_to}
use Rattle.rh_laws.specs.RawHandles.{RawHandles, raw_next}
use Rattle.rh_laws.proofs.DoneDeeds.{Taken}
use Rattle.rh_laws.proofs.DoneEdits.{cancelled-matched, down-matched, failed-matched, framed-matched, killed-matched, sent-matched, started-matched}
use Rattle.rh_laws.proofs.DonePolls.{IsPlayed, Pairs}
use Rattle.rh_laws.proofs.Dones.{ends-map, matched-of}
use Rattle.rh_laws.proofs.PlayedDeeds.{PlayedWait, Took}
use Rattle.rh_laws.proofs.PlayedEdits.{fewer-played, framed-played, killed-played, started-played}
use Rattle.rh_laws.proofs.PlayedPolls.{Goes_on, apart-from, none-waits-there, own_ref, played-taken, ready-played}
use Rattle.rh_laws.proofs.PlayedRaws.{down-played, sent-played}
use Rattle.rh_laws.proofs.PlayedRaws as raws
use Rattle.rh_laws.proofs.WantTasks.{file-kept, home, refs-below}
use Rattle.rh_laws.proofs.WantDeeds.{Anew, IsSpent, Sends}
use Rattle.rh_laws.proofs.WantEdits.{For, KeepsFile, Then, answer, own_back}
use Rattle.rh_laws.proofs.WantRecords.{OutsOf, TurnsOf, asks-fits, deed, ids-stay, ins-stay, outs-moved, outs-stay, turns-moved, un}
use Rattle.rh_laws.proofs.Wants.{InWants, WaitsFor, Want, Wants, is_sent, peer_of, ref_of, reply, want_in, want_out}

not_off : (b : Bool) → not b ≡ false → b ≡ true
not_off true e = refl
not_off false e = absurd (let z : true ≡ false = e in (cc))

-- what is addressed later is of refs that are given later
less-put : {A : Addresses} {C : RawHandles} (n : ℕ) (v : Option Parties) (ref : ℕ) → ref < n → IsPlayed (put A n v) C ref → IsPlayed A C ref
less-put {A} n v ref lt q = record {
  parties = q.parties;
  is = sym (put_other A n v ref (λ e. omega (arith, lt, e))) ∙ q.is;
  played = q.played;
}

less-as : {A : Addresses} {C : RawHandles} (n : ℕ) (v : Option Parties) (b : Body) (ref : ℕ) → ref < n → IsPlayed (addressed_as A n v b) C ref
    → IsPlayed A C ref
less-as n v (body.DataSave f) ref lt q = less-put n v ref lt q
less-as n v (body.DataSaveAck f) ref lt q = q
less-as n v (body.DataLoad f) ref lt q = q
less-as n v (body.DataLoadAck f) ref lt q = q
less-as n v (body.RamFetch buffer k) ref lt q = q
less-as n v (body.RamTransmit buffer k) ref lt q = q
less-as n v (body.Other o) ref lt q = q

less-last : {A : Addresses} {C : RawHandles} (n : ℕ) (last : Option (Letter_ × ℕ)) (ref : ℕ) → ref < n → IsPlayed (addressed_last A n last) C ref →
    IsPlayed A C ref
less-last n None ref lt q = q
less-last {A} n (Some last) ref lt q = less-as n (A last.1) (read_body last.0.body) ref lt q

module _ {o : Offers} {e : Edits} {A : Addresses} {R : Gave} {C : RawHandles} (d : Desk) (fit : Fits d) (stands : Stands o e R (view d))
    (both : Goes_on A C R (view d)) (pairs : Pairs A R (view d)) (own_refs : HaveOwnRefs d) where
  goes : PlayedWait C R (view d)
  goes = both.played

  abbrev V : sight.Desk
  V = view d

  record Stays (c : Command) (a : Answer) : Type 0 where
    desk : Goes_on (addresses_next A d c a.1) (raw_next C c a.1) (gave_next R d c a.1) (view a.0)

  known-below : (l : _) → Knows V l → (l.me < V.next_ref) × ((masked_letter (R l.me) l).answers < V.next_ref)
  known-below l kn = let b = stands.good.inv.letters.below _ (mask_knows R V l kn) in (b.me, b.answers)

  below : (h : ℕ) (w : Want) → Wants V h w → ref_of w < V.next_ref
  below = refs-below stands.good.inv

  -- a task of theirs has no records
  blank : (t : Task) → task_of t.handle d.tasks ≡ Some t → is_raw t.manner ≡ true → (w : Want) → Wants V t.handle w → ⊥
  blank t is its w x = none-waits-there (masked R V) stands.raws t.handle w
      (sym (stands.raws.manners t.handle (live_of d t.handle t is)) ∙ field_is (λ y. is_raw y.manner) false t.handle d.tasks t is ∙ its) x

  apart : (t : Task) → task_of t.handle d.tasks ≡ Some t → is_raw t.manner ≡ true → (j : ℕ) (w : Want) (i : ℕ) → InWants (V.taking j) w i → R i ≡ false →
      peer_of w ≡ t.handle → ⊥
  apart t is its = apart-from (masked R V) stands.raws t.handle
      (sym (stands.raws.manners t.handle (live_of d t.handle t is)) ∙ field_is (λ y. is_raw y.manner) false t.handle d.tasks t is ∙ its)

  coded : (t : Task) → task_of t.handle d.tasks ≡ Some t → is_raw t.manner ≡ true → C t.handle ≡ true
  coded t is its = sym (goes.codes.manners t.handle (live_of d t.handle t is)) ∙ field_is (λ y. is_raw y.manner) false t.handle d.tasks t is ∙ its

  -- ---- tasks begin and end

  kill-stays : (name : List ℕ) → OnGrant (Stays (command.Kill name)) (kill d name)
  unfolding kill with_delivered
  kill-stays name = granted-then _ _ λ t q. granted (record { desk = gone t.handle })
    where
      gone : (k : ℕ) → Goes_on A C R (view (after_kill d k))
      gone k =
          let sc = option_map seen_scrap (kept_scrap (post_death k d.post) d.scrap) in
          let seen : view (after_kill d k) ≡ with_scrap sc (sight.killed V k) = killed_view d k fit in
          subst (Goes_on A C R) (sym seen) (record {
            played = killed-played V k sc (home d) (subst (KeepsFile V) seen (λ f s live. file-kept d (post_death k d.post) f s live)) goes;
            matched = killed-matched V k sc both.matched;
          })

  start-stays : (name : List ℕ) (buffer : ℕ) (manner : Manner) → OnGrant (Stays (command.Task name buffer manner)) (start_task d name buffer manner)
  unfolding start_task
  start-stays name buffer manner =
      granted-past _ _ _ λ a. granted-past _ _ _ λ b. granted-past _ _ _ λ c. granted-then _ _ λ s q.
      granted (record {
        desk = subst (λ (z : Slot). Goes_on A (put C d.next_handle (is_raw manner)) R (view (with_new_task name buffer manner z d)))
            (begin_is (free_pages d) s q) begun;
      })
    where
      less : (ref : ℕ) → IsPlayed A (put C d.next_handle (is_raw manner)) ref → IsPlayed A C ref
      less ref q = record {
        parties = q.parties;
        is = q.is;
        played = elim (eqb_tells q.parties.receiver d.next_handle) [
          | inl z ↦ ap C z.1 ∙ goes.codes.unborn d.next_handle (omega arith)
          | inr z ↦ sym (put_other C d.next_handle (is_raw manner) q.parties.receiver z.1) ∙ q.played
        ];
      }

      begun : Goes_on A (put C d.next_handle (is_raw manner)) R (view (with_new_task name buffer manner new_slot d))
      begun =
          let none = no_task_of d d.next_handle (λ l. let z = stands.good.inv.alive d.next_handle l in omega (arith, z)) in
          subst (Goes_on A (put C d.next_handle (is_raw manner)) R) (sym (started_view d name buffer manner none)) (record {
            played = started-played V buffer (is_deaf manner) (answers_none manner) (is_raw manner)
                (λ l kn. (stands.good.inv.letters.below _ (mask_knows R V l kn)).from) goes;
            matched = matched-of (λ ref s v has b. less ref)
                (started-matched V buffer (is_deaf manner) (answers_none manner) (is_raw manner) both.matched);
          })

  -- ---- letters that answer nothing

  -- as if a message had come back that is for no record
  abbrev idler : ℕ → Message
  idler k = record { code = Returned; to = k; letter = record { from = k; me = 0; answers = 0; kind = action.DataLoadAck; address = 0; amount = 0 } }

  never-for : {h k : ℕ} {w : Want} → For V (idler k) h w → ⊥
  never-for {k = k} {w = w} (answer u from answers tells) = u refl
  never-for {k = k} {w = w} (own_back c r a) = un (asks-fits w _ _ (idler k).letter a)

  took-idler : (k : ℕ) → Took C R V k (idler k)
  took-idler k = record {
    waits = λ h w x mine. by h w x (goes.waits h w x mine);
    apart = goes.apart;
    to = refl;
    below = λ l kn. (known-below l kn).0;
    mine = stands.good.inv.positive;
    answers = λ l kn mine. subst (λ b. (masked_letter b l).answers < V.next_ref) mine (known-below l kn).1;
    played = λ l kn lives plays. stands.raws.letters _ (mask_knows R V l kn) ∙ sym (stands.raws.manners l.from lives) ∙ plays;
    refs = below;
    own = λ h w x. own_ref (masked R V) stands.raws h w x;
    ids = stands.good.inv.order.in_below;
    positive = stands.good.inv.positive;
    mute = goes.mute;
    queue = λ un. absurd (un refl);
    hand = λ un. absurd (un refl);
    seated = goes.seated;
    codes = goes.codes;
    senders = goes.senders;
    fresh = stands.raws.refs _ (omega arith);
  }
    where
      by : (h : ℕ) (w : Want) → Wants V h w → WaitsFor V h w → Then V (idler k) h w
      by h w x (inl u) = Then.asking u (λ s. absurd
          (let z = (goes.mute (ref_of w) (own_ref (masked R V) stands.raws h w x) u.live).some in omega (arith, z, s)))
      by h w x (inr a) = Then.told a

  -- it answers nothing, and no record goes on by it
  taken-idler : (k : ℕ) → V.live k ≡ true → V.raw k ≡ false → Taken (IsPlayed A C) C R V k (idler k)
  taken-idler k lives plays = record {
    unbegun = both.matched.unbegun;
    first = both.matched.first;
    ends = λ s i n r w done has id. ends-map w refl (λ t is y fin there. inl there) (both.matched.ends s i n r w done has id);
    heard = record {
      lives = lives;
      plays = plays;
      mute = λ other. absurd (other refl);
      offer = λ un. absurd (un refl);
      answers = λ un. absurd (un refl);
      waiter = λ x has kind would fetches there un. absurd (un refl);
      told = λ un. absurd (un refl);
      home = λ x r w has. pairs.home k x r w has;
      carried = λ f has kind un. absurd (un refl);
      nobody = λ un. absurd (un refl);
      filler = λ un. absurd (un refl);
      senders = λ l kn s v has from. stands.raws.letters _ (mask_knows R V l kn) ∙ ap stands.coded from ∙ mine_out (masked R V) s v stands.raws has;
      out_ids = stands.raws.outs;
    };
    before = took-idler k;
    outs = stands.good.inv.order.out_below;
    ascends = stands.good.inv.order.ins;
  }

  sent-all : {B : Addresses} → ((ref : ℕ) → ref < V.next_ref → IsPlayed B C ref → IsPlayed A C ref) → (k : ℕ) → V.live k ≡ true → V.raw k ≡ false →
      (n : Message) (sd : ℕ → List Out) → n.letter.from ≡ k → n.letter.me ≡ V.next_ref → n.letter.answers < V.next_ref →
      IsSpent V n.letter.answers → OutsOf V k (idler k) (Some n) sd → TurnsOf V k (idler k) (Some n) sd →
      {y : sight.Desk} → y ≡ sight.sent (record V { sending = sd }) k n → Goes_on B C R y
  sent-all fewer k lives plays n sd from me less never outs turns q =
      deed V k (idler k) (ready-played V k (idler k) fewer (taken-idler k lives plays)) (Some n) sd V.taking V.block V.heap V.scrap q (record {
        fresh = 0;
        ins = ins-stay V k (idler k) (Some n) 0 (λ w j x f. never-for f);
        outs = outs;
        turns = turns;
        ids = ids-stay V k (idler k) (Some n);
        sends = λ l e. let same : n ≡ l = cc in subst (Sends V k (idler k) V.scrap) same (record { from = from; me = me; below = less; answers = inl never });
        scrap = λ f s. inl s;
      })

  -- what a message of theirs leaves of both
  theirs-goes : {B : Addresses} → ((ref : ℕ) → ref < V.next_ref → IsPlayed B C ref → IsPlayed A C ref) → (t : Task) → task_of t.handle d.tasks ≡ Some t →
      is_raw t.manner ≡ true → (m : Message) → m.letter.from ≡ t.handle → m.letter.me ≡ V.next_ref → (sc : Option sight.Scrap) →
      KeepsFile V (with_scrap sc (sight.sent V t.handle m)) → Goes_on B C (put R V.next_ref true) (with_scrap sc (sight.sent V t.handle m))
  theirs-goes fewer t is its m from me sc keeps = record {
    played = sent-played V t.handle (coded t is its) (blank t is its) (apart t is its) goes m from me (λ k kn. (known-below k kn).0) below sc keeps;
    matched = sent-matched V t.handle m from me (λ v has. subst (Has v) (stands.raws.none_in t.handle theirs) has)
        (λ r x act. (stands.good.inv.ins.buffer r x act).below) stands.good.inv.order.in_below stands.good.inv.order.out_below fewer sc both.matched;
  }
    where
      theirs : stands.coded t.handle ≡ true
      theirs = sym (stands.raws.manners t.handle (live_of d t.handle t is)) ∙ field_is (λ y. is_raw y.manner) false t.handle d.tasks t is ∙ its

  -- one of theirs, with the scrap file given up or not
  sent-theirs : {B : Addresses} → ((ref : ℕ) → ref < V.next_ref → IsPlayed B C ref → IsPlayed A C ref) → (t : Task) → task_of t.handle d.tasks ≡ Some t
      → is_raw t.manner ≡ true → (l : Letter_) → l.from ≡ t.handle → (sent : Desk) →
      send_letter l d ≡ Ok sent → Goes_on B C (put R d.post.next_ref true) (view (after_answer sent))
  unfolding with_delivered
  sent-theirs {B} fewer t is its l from sent y =
      let h : ℕ = t.handle in
      let m = seen_letter l d.post.next_ref in
      let live = live_of d h t is in
      let v : view sent ≡ sight.sent V h m =
      sent_view d sent l y (ap V.live from ∙ live) ∙ ap (λ k. sight.sent V k m) from in
      let sc = option_map seen_scrap (kept_scrap sent.post sent.scrap) in
      let seen : view (after_answer sent) ≡ with_scrap sc (sight.sent V h m) = ap (with_scrap sc) v in
      let keeps : KeepsFile V (with_scrap sc (sight.sent V h m)) = subst (KeepsFile V) seen (λ f s live.
      file-kept sent sent.post f (ap (λ (S : sight.Desk). S.scrap) v ∙ s) live) in
      subst (Goes_on B C (put R d.post.next_ref true)) (sym seen) (theirs-goes fewer t is its m from refl sc keeps)

  -- whom a repeat is to
  abbrev repeated : List ℕ → Addresses
  repeated name = addressed_last A d.post.next_ref (last_of (find (has_name name) d.tasks))

  fewer-repeated : (name : List ℕ) (ref : ℕ) → ref < V.next_ref → IsPlayed (repeated name) C ref → IsPlayed A C ref
  fewer-repeated name ref lt q = less-last d.post.next_ref (last_of (find (has_name name) d.tasks)) ref lt q

  repeat-stays : (name : List ℕ) → OnGrant (Stays (command.Repeat name)) (repeat d name)
  unfolding repeat
  repeat-stays name = granted-then _ _ λ t q. granted-then _ _ λ last z. granted-then _ _ λ sent y.
      granted (record {
        desk = subst (λ (b : Bool). Goes_on (repeated name) C (if b then put R d.post.next_ref true else R)
            (view (if is_raw t.manner then after_answer sent else sent)))
            (sym (ap is_raw_task (found_name d name t q))) (either-way t last sent q z y (is_raw t.manner) refl);
      })
    where
      again : (t : Task) (last : Letter_ × ℕ) (sent : Desk) → named name d ≡ Ok t → found_or t.last_sent NothingSent ≡ Ok last →
          send_letter (record last.0 { from = t.handle }) d ≡ Ok sent → is_raw t.manner ≡ false → Goes_on (repeated name) C R (view sent)
      again t last sent q z y plays =
          let is = the_task d name t fit q in
          let l : Letter_ = record last.0 { from = t.handle } in
          let live = live_of d t.handle t is in
          let its = field_is (λ x. is_raw x.manner) false t.handle d.tasks t is ∙ plays in
          let there : V.last t.handle ≡ Some (seen_last last) =
          field_is (λ x. option_map seen_last x.last_sent) _ t.handle d.tasks t is ∙ ap (option_map seen_last) (is_found t.last_sent NothingSent last z) in
          let kn : Knows V (owned t.handle (seen_last last)).letter = Known.latest t.handle (seen_last last) there refl in
          let mine = (took-idler t.handle).played _ kn live its in
          sent-all (fewer-repeated name) t.handle live its (seen_letter l d.post.next_ref) V.sending refl refl ((took-idler t.handle).answers _ kn mine)
          (IsSpent.answered _ kn live its refl)
          (outs-stay V t.handle (idler t.handle) (Some (seen_letter l d.post.next_ref)) (λ w x f. never-for f)) (λ h v has. inl has)
          (sent_view d sent l y live)

      either-way : (t : Task) (last : Letter_ × ℕ) (sent : Desk) → named name d ≡ Ok t → found_or t.last_sent NothingSent ≡ Ok last →
          send_letter (record last.0 { from = t.handle }) d ≡ Ok sent → (b : Bool) → is_raw t.manner ≡ b →
          Goes_on (repeated name) C (if b then put R d.post.next_ref true else R) (view (if b then after_answer sent else sent))
      either-way t last sent q z y true its = sent-theirs (fewer-repeated name) t (the_task d name t fit q) its (record last.0 { from = t.handle }) refl sent y
      either-way t last sent q z y false its = again t last sent q z y its

  save-stays : (name : List ℕ) (k : ℕ) (to leaf : List ℕ) → OnGrant (Stays (command.Save name k to leaf)) (save d name k to leaf)
  unfolding save
  save-stays name k to leaf =
      granted-then _ _ λ t q. granted-then _ _ λ b i. granted-past _ _ _ λ full. granted-then _ _ λ r z. granted-then _ _ λ sent y. granted-past _ _ _ λ its.
      granted (record { desk = saved t b r sent q i y its })
    where
      saved : (t : Task) (b : Split Flex) (r : Task) (sent : Desk) → named name d ≡ Ok t → idle_block k t ≡ Ok b →
          send_letter (save_letter t.handle r.handle (length b.here.bytes) leaf) d ≡ Ok sent → is_raw t.manner ≡ false →
          Goes_on (put A d.post.next_ref (parties_of (find (has_name name) d.tasks) (find (has_name to) d.tasks))) C R
          (view (with_sending t.handle (sender.sending_offered (next_ref d) r.handle k) sent))
      saved t b r sent q i y its =
          let h : ℕ = t.handle in
          let is = the_task d name t fit q in
          let there : flex_map t.slot.blocks k ≡ Some b.here.bytes = (flex.edits weight (flex_start t.slot) k t.slot.blocks).found b (the_idle k t b i).block in
          let n : Message = record {
            code = Recorded;
            to = r.handle;
            letter = record { from = h; me = V.next_ref; answers = 0; kind = action.DataSave; address = 0; amount = length (sight.bytes_of (V.block h k)) };
          } in
          let x : Sending = record { id = V.next_ref; recipient = r.handle; anchor = k; count = 0; last = V.next_ref } in
          let move = move_more out_id V.sending h V.most is_open (Open x) (λ v has e. let z = stands.good.inv.order.out_below h v has in omega (arith, z, e)) in
          sent-all (less-put d.post.next_ref (parties_of (find (has_name name) d.tasks) (find (has_name to) d.tasks))) h (live_of d h t is)
          (field_is (λ y. is_raw y.manner) false h d.tasks t is ∙ its) n _ refl refl stands.good.inv.positive (IsSpent.none refl)
          (outs-moved V h (idler h) (Some n) _ (Open x) move
          (λ w u has wants f. absurd (never-for f)) (λ w wants. anew h n x refl refl refl refl refl w (V.file h) refl wants))
          (turns-moved V h (idler h) (Some n) _ (Open x) move (inl refl))
          (after_save d sent t r k leaf b.here.bytes is there y)
        where
          anew : (h : ℕ) (n : Message) (x : Sending) → x.last ≡ V.next_ref → x.id ≡ x.last → n.to ≡ x.recipient → n.letter.kind ≡ action.DataSave →
              n.code ≡ Recorded → (w : Want) (c : Bool) → V.file h ≡ c → want_out c (Open x) ≡ Some w → Anew V h (Some n) w
          anew h n x last id to kind code w true c wants =
              absurd (none_some None refl (rw (eq-eqb x.last x.id (sym id)) at wants))
          anew h n x last id to kind code w false c wants =
              let same : reply x.last x.recipient ≡ w = let z : Some (reply x.last x.recipient) ≡ Some w = wants in cc in
              subst (Anew V h (Some n)) same (record {
                n = n;
                is = refl;
                ref = last;
                asks = ap (is_sent (V.file h)) kind ∙ ap not c;
                to = to;
                code = code;
              })

  -- ---- cancels

  cancel_out-stays : (name : List ℕ) (id : Option ℕ) → OnGrant (Stays (command.CancelOut name id)) (cancel_out d name id)
  unfolding cancel_out sender.cancel_sending
  cancel_out-stays name id =
      granted-then _ _ λ t q. granted-then _ _ λ records z.
      granted (record {
        desk = from_found (open_of (λ x. is_meant id x.id) t.sending) NotOpen (λ x. sender.sending_failed x t.sending) records z (λ x found same.
            failed t x records q same);
      })
    where
      failed : (t : Task) (x : Sending) (records : List Out) → named name d ≡ Ok t → sender.sending_failed x t.sending ≡ records →
          Goes_on A C R (view (with_sending t.handle (λ _. records) d))
      failed t x records q same =
          let is = the_task d name t fit q in
          let k : ℕ = t.handle in
          let sd = put V.sending k (with_id out_id x.id (Out_failed x.id x.count) (V.sending k)) in
          let move = move_with out_id V.sending k x.id (Out_failed x.id x.count) refl in
          let seen : view (with_sending k (λ _. records) d) ≡ record V { sending = sd } = outs_view d k (λ _. records) (live_of d k t is)
          ∙ ap (λ (y : List Out). record V { sending = put V.sending k y })
          (sym same ∙ ap (sender.sending_failed x) (sym (field_is (λ y. y.sending) [] k d.tasks t is))) in
          subst (Goes_on A C R) (sym seen) (record {
            matched = failed-matched V sd (λ h v has. elim (move h v has) [ inl z ↦ inl z.0 | inr z ↦ inr (x.id, (x.count, z.1)) ]) both.matched;
            played = fewer-played V sd V.taking V.block V.heap (record {
              ins = λ h w i y. y;
              outs = λ h w y. elim (move h y.one y.has) [
                | inl z ↦ record { one = y.one; has = z.0; wants = y.wants }
                | inr z ↦ absurd (none_some None refl (ap (want_out (V.file h)) (sym z.1) ∙ y.wants))
              ];
              taking = λ r v has. (v, (has, refl));
            }) goes;
          })

  cancelled-wants : (x : In) (w : Want) → want_in (receiver.cancelled x) ≡ Some w → want_in x ≡ Some w
  cancelled-wants (Fetching f) w e = by f.raw e
    where
      by : (b : Bool) → want_in (if b then In_failed f.id f.anchor f.count else Draining f) ≡ Some w → want_in (Fetching f) ≡ Some w
      by true e = absurd (none_some None refl e)
      by false e = e
  cancelled-wants (Draining f) w e = e
  cancelled-wants (Asking q) w e = absurd (none_some None refl e)
  cancelled-wants (In_done i a n) w e = e
  cancelled-wants (In_failed i a n) w e = e

  cancelled-id : (x : In) → in_id (receiver.cancelled x) ≡ in_id x
  cancelled-id (Fetching f) = chosen (λ (v : In). in_id v ≡ f.id) f.raw (In_failed f.id f.anchor f.count) (Draining f) refl refl
  cancelled-id _ = refl

  -- the desk with a buffer released, or not
  record Released (k : ℕ) (v : Option Taking) : Type 0 where
    blocks : ℕ → ℕ → Option (List ℕ)
    heaps : ℕ → ℕ → Option (List ℕ)
    seen : view (with_released k v d) ≡ record V { block = blocks; heap = heaps }

  released : (t : Task) → task_of t.handle d.tasks ≡ Some t → (v : Option Taking) → Released t.handle v
  released t is None = record { blocks = V.block; heaps = V.heap; seen = refl }
  released t is (Some f) = record {
    blocks = put V.block t.handle (blocks_of (without_buffer f.buffer t.slot));
    heaps = put V.heap t.handle (buffers_of (without_buffer f.buffer t.slot));
    seen = slot_view d t.handle (without_buffer f.buffer) t.slot (live_of d t.handle t is) (slot_is d t.handle t is);
  }

  cancel_in-stays : (name : List ℕ) (id : Option ℕ) → OnGrant (Stays (command.CancelIn name id)) (cancel_in d name id)
  unfolding cancel_in receiver.cancel_taking
  cancel_in-stays name id =
      granted-then _ _ λ t q. granted-then _ _ λ records z.
      granted (record {
        desk = from_found (find (receiver.is_wanted id) t.taking) NotOpen (λ x. with_id in_id (in_id x) (receiver.cancelled x) t.taking) records z
            (λ x found same. given_up t x records q (first_is (receiver.is_wanted id) t.taking x found).0 same (receiver.released_by id t.taking));
      })
    where
      given_up : (t : Task) (x : In) (records : List In) → named name d ≡ Ok t → Has x t.taking →
          with_id in_id (in_id x) (receiver.cancelled x) t.taking ≡ records → (v : Option Taking) →
          Goes_on A C R (view (with_taking t.handle (λ _. records) (with_released t.handle v d)))
      given_up t x records q has same v =
          let is = the_task d name t fit q in
          let k : ℕ = t.handle in
          let own = field_is (λ y. y.taking) [] k d.tasks t is in
          let here : Has x (V.taking k) = subst (Has x) (sym own) has in
          let tk = put V.taking k (with_id in_id (in_id x) (receiver.cancelled x) (V.taking k)) in
          let move = move_with in_id V.taking k (in_id x) (receiver.cancelled x) (cancelled-id x) in
          let b = released t is v in
          let live : (view (with_released k v d)).live k ≡ true = ap (λ (S : sight.Desk). S.live k) b.seen ∙ live_of d k t is in
          let seen : view (with_taking k (λ _. records) (with_released k v d)) ≡ record V { taking = tk; block = b.blocks; heap = b.heaps } =
          ins_view (with_released k v d) k (λ _. records) live ∙ ap (λ (S : sight.Desk). record S { taking = put S.taking k records }) b.seen ∙
          ap (λ (y : List In). record V { taking = put V.taking k y; block = b.blocks; heap = b.heaps })
          (sym same ∙ ap (with_id in_id (in_id x) (receiver.cancelled x)) (sym own)) in
          subst (Goes_on A C R) (sym seen) (record {
            matched = framed-matched (record V { taking = tk }) b.blocks b.heaps V.scrap (cancelled-matched V k x tk here move both.matched);
            played = fewer-played V V.sending tk b.blocks b.heaps (record {
              ins = λ h w i y. elim (move h y.one y.has) [
                | inl z ↦ record { one = y.one; has = z.0; wants = y.wants; id = y.id }
                | inr z ↦ record {
                  one = x;
                  has = subst (λ j. Has x (V.taking j)) (sym z.0) here;
                  wants = cancelled-wants x w (ap want_in (sym z.1) ∙ y.wants);
                  id = sym (cancelled-id x) ∙ ap in_id (sym z.1) ∙ y.id;
                }
              ];
              outs = λ h w y. y;
              taking = λ r v has_v. elim (move r v has_v) [
                | inl z ↦ (v, (z.0, refl))
                | inr z ↦ (x, (subst (λ j. Has x (V.taking j)) (sym z.0) here, sym (cancelled-id x) ∙ ap in_id (sym z.1)))
              ];
            }) goes;
          })

  -- ---- commands on memory, and polls

  framed : (bl hp : ℕ → ℕ → Option (List ℕ)) → Goes_on A C R (record V { block = bl; heap = hp })
  framed bl hp = record {
    played = framed-played V bl hp V.scrap (λ f z l. z) goes;
    matched = framed-matched V bl hp V.scrap both.matched;
  }

  other-slot : (t : Task) (s : Slot) → task_of t.handle d.tasks ≡ Some t → Goes_on A C R (view (with_slot t.handle s d))
  other-slot t s is =
      subst (Goes_on A C R) (sym (slot_view d t.handle (λ _. s) t.slot (live_of d t.handle t is) (slot_is d t.handle t is)))
      (framed (put V.block t.handle (blocks_of s)) (put V.heap t.handle (buffers_of s)))

  memory-stays : (c : Command) → ((r : Reply) → addresses_next A d c r ≡ A) → ((r : Reply) → raw_next C c r ≡ C) → ((r : Reply) → gave_next R d c r ≡ R) →
      (a : Answer) → Changed c d a → Stays c a
  memory-stays c same_a same_c same_r a x = record {
    desk = subst (λ (B : Addresses). Goes_on B (raw_next C c a.1) (gave_next R d c a.1) (view a.0)) (sym (same_a a.1))
        (subst (λ (S : RawHandles). Goes_on A S (gave_next R d c a.1) (view a.0)) (sym (same_c a.1))
        (subst (λ (S : Gave). Goes_on A C S (view a.0)) (sym (same_r a.1)) (by a x)));
  }
    where
      by : (a : Answer) → Changed c d a → Goes_on A C R (view a.0)
      by _ (in_slot name t s about q quiet) = other-slot t s (the_task d name t fit q)
      by _ _ = both

  make-stays : (most : ℕ) → OnGrant (Stays (command.Make most)) (make d most)
  unfolding make
  make-stays most = granted-past _ _ _ λ x. granted-past _ _ _ λ y. granted (record { desk = both })

  poll-stays : (name : List ℕ) → OnGrant (Stays (command.Poll name)) (poll d name)
  unfolding poll
  poll-stays name = granted-then _ _ λ t q.
      let is = the_task d name t fit q in
      let h : ℕ = t.handle in
      granted (record {
        desk = played-taken d t fit is stands both pairs own_refs (post_poll h d.post) (fit.polled h) (poll_taken_is d h fit (live_of d h t is))
            (post_poll h d.post).1 refl;
      })

  -- ---- tasks with code of their own

  send-stays : (name : List ℕ) (recorded : Bool) (h ref a : ℕ) (bytes : Option (List ℕ)) →
      OnGrant (Stays (command.Raw (raw.Send name recorded h ref a bytes))) (send d name recorded h ref a (unwrap_or bytes []))
  unfolding send
  send-stays name recorded h ref a bytes =
      granted-then _ _ λ t q. granted-then _ _ λ sent y. granted-past _ _ _ λ off. granted-past _ _ _ λ few.
      granted (record {
        desk = sent-theirs (less-as d.post.next_ref (parties_to (find (has_name name) d.tasks) h) (read_body (body_of a (unwrap_or bytes []))))
            t (the_task d name t fit q) (not_off (is_raw t.manner) off) (raw_letter t.handle recorded h ref a (unwrap_or bytes [])) refl sent y;
      })

  transfer-stays : (name : List ℕ) (x h y n : ℕ) → OnGrant (Stays (command.Raw (raw.Transfer name x h y n))) (transfer d name x h y n)
  unfolding transfer
  transfer-stays name x h y n =
      granted-then _ _ λ t q. granted-past _ _ _ λ open_. granted-then _ _ λ r i. granted-past _ _ _ λ off.
      granted (record { desk = moved t r i })
    where
      moved : (t r : Task) → found_or (task_at h d) NoTask ≡ Ok r →
          Goes_on A C R (view (with_task r.handle (λ (r : Task). record r { slot = written_held y (bytes_held x n t.slot) r.slot }) d))
      moved t r i =
          let found : task_at h d ≡ Some r = is_found (task_at h d) _ r i in
          let same : r.handle ≡ h = is_equal _ _ (first_is (λ (k : Task). k.handle == h) d.tasks r found).1 in
          let is : task_of r.handle d.tasks ≡ Some r = ap (λ k. task_of k d.tasks) same ∙ found in
          let edit : Slot → Slot = λ s. written_held y (bytes_held x n t.slot) s in
          subst (Goes_on A C R) (sym (slot_view d r.handle edit r.slot (live_of d r.handle r is) (slot_is d r.handle r is)))
          (framed (put V.block r.handle (blocks_of (edit r.slot))) (put V.heap r.handle (buffers_of (edit r.slot))))

  ack-stays : (name : List ℕ) → OnGrant (Stays (command.Raw (raw.Ack name))) (ack d name)
  unfolding ack with_delivered
  ack-stays name = granted-then _ _ λ t q. granted-past _ _ _ λ off.
      granted (record { desk = down t (the_task d name t fit q) (not_off (is_raw t.manner) off) })
    where
      down : (t : Task) → task_of t.handle d.tasks ≡ Some t → is_raw t.manner ≡ true → Goes_on A C R (view (with_delivered (put_down t.handle d.post) d))
      down t is its =
          let h : ℕ = t.handle in
          let p = put_down h d.post in
          let held : (k : ℕ) → held_seen p.seats k ≡ put V.held h None k = λ k. ap (option_map seen_parcel) (held_put h d.post.seats k) ∙
          elim (eqb_tells k h) as (λ _. option_map seen_parcel (put (λ j. held_by j d.post.seats) h None k) ≡ put V.held h None k) [
            | inl b ↦ rw b.0 refl
            | inr b ↦ rw b.0 refl
          ] in
          let sc = option_map seen_scrap (kept_scrap p d.scrap) in
          let seen : view (with_delivered p d) ≡ raws.put_down V h sc = λ i. record V { held = λ k. held k i; scrap = sc } in
          subst (Goes_on A C R) (sym seen) (record {
            played = down-played V h (coded t is its) (blank t is its) (apart t is its) goes sc
                (subst (KeepsFile V) seen (λ f s live. file-kept d p f s live));
            matched = down-matched V h sc both.matched;
          })

  spool-stays : (name : List ℕ) (k h ref : ℕ) → OnGrant (Stays (command.Raw (raw.Spool name k h ref))) (spool d name k h ref)
  unfolding spool
  spool-stays name k h ref =
      granted-then _ _ λ t q. granted-then _ _ λ b i. granted-past _ _ _ λ none. granted-both _ (any-grant _) λ x u. granted-past _ _ _ λ room.
      granted-then _ _ λ sent y. granted-past _ _ _ λ off. granted-past _ _ _ λ few.
      granted (record { desk = spooled t (the_task d name t fit q) (not_off (is_raw t.manner) off) b.here.bytes sent none y })
    where
      no_file : (v : Option Scrap) → is_some v ≡ false → option_map seen_scrap v ≡ None
      no_file None q = refl
      no_file (Some f) q = absurd (let z : true ≡ false = q in (cc))

      spooled : (t : Task) → task_of t.handle d.tasks ≡ Some t → is_raw t.manner ≡ true → (bytes : List ℕ) (sent : Desk) → is_some d.scrap ≡ false →
          send_letter (spool_letter t.handle h ref (length bytes)) (wider (scrap_shortage (length bytes) d) d) ≡ Ok sent →
          Goes_on A C (put R d.post.next_ref true) (view (record sent { scrap = Some (record { load = next_ref d; bytes = bytes }) }))
      spooled t is its bytes sent none y =
          let g : ℕ = t.handle in
          let l = spool_letter g h ref (length bytes) in
          let m = seen_letter l d.post.next_ref in
          let file : sight.Scrap = record { load = d.post.next_ref; bytes = bytes } in
          let v : view sent ≡ sight.sent V g m = sent_view (wider (scrap_shortage (length bytes) d) d) sent l y (live_of d g t is) in
          let seen : view (record sent { scrap = Some (record { load = next_ref d; bytes = bytes }) }) ≡ with_scrap (Some file) (sight.sent V g m) =
          ap (with_scrap (Some file)) v in
          subst (Goes_on A C (put R d.post.next_ref true)) (sym seen) (theirs-goes (λ ref lt x. x) t is its m refl refl (Some file)
          (λ f s live. absurd (none_some V.scrap (no_file d.scrap none) s)))

  -- ---- each command

  change-stays : (c : Command) → OnGrant (Stays c) (change d c)
  change-stays (command.Task name buffer manner) = start-stays name buffer manner
  change-stays (command.Kill name) = kill-stays name
  change-stays (command.Save name k to leaf) = save-stays name k to leaf
  change-stays (command.Poll name) = poll-stays name
  change-stays (command.CancelIn name id) = cancel_in-stays name id
  change-stays (command.CancelOut name id) = cancel_out-stays name id
  change-stays (command.Repeat name) = repeat-stays name
  change-stays (command.Make most) = make-stays most
  change-stays (command.Raw (raw.Send name recorded h ref a bytes)) = send-stays name recorded h ref a bytes
  change-stays (command.Raw (raw.Write name x bytes)) =
      granted-on d (command.Raw (raw.Write name x bytes)) refl (memory-stays (command.Raw (raw.Write name x bytes)) (λ r. refl) (λ r. refl) (λ r. refl))
  change-stays (command.Raw (raw.Transfer name x h y n)) = transfer-stays name x h y n
  change-stays (command.Raw (raw.Ack name)) = ack-stays name
  change-stays (command.Raw (raw.Spool name k h ref)) = spool-stays name k h ref
  change-stays (command.Raw (raw.Scrap name k)) =
      granted-on d (command.Raw (raw.Scrap name k)) refl (memory-stays (command.Raw (raw.Scrap name k)) (λ r. refl) (λ r. refl) (λ r. refl))
  change-stays c = granted-on d c tt (memory-stays c (λ r. refl) (λ r. refl) (λ r. refl))

  -- what is refused changes nothing
  refused-stays : (c : Command) (refusal : Refusal) → Stays c (d, reply.Refused refusal)
  refused-stays (command.Repeat name) refusal = record { desk = same (is_raw_task (find (has_name name) d.tasks)) }
    where
      same : (b : Bool) → Goes_on A C (if b then R else R) V
      same true = both
      same false = both
  refused-stays (command.Raw (raw.Send name recorded h ref a bytes)) refusal = record { desk = both }
  refused-stays (command.Raw (raw.Write name x bytes)) refusal = record { desk = both }
  refused-stays (command.Raw (raw.Transfer name x h y n)) refusal = record { desk = both }
  refused-stays (command.Raw (raw.Ack name)) refusal = record { desk = both }
  refused-stays (command.Raw (raw.Spool name k h ref)) refusal = record { desk = both }
  refused-stays (command.Raw (raw.Scrap name k)) refusal = record { desk = both }
  refused-stays c refusal = record { desk = both }

  pub step-played : (c : Command) →
      Goes_on (addresses_next A d c (step d c).1) (raw_next C c (step d c).1) (gave_next R d c (step d c).1) (view (step d c).0)
  step-played c = (or_else-keeps (Stays c) _ (change-stays c) (refused-stays c)).desk
