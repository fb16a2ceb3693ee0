-- A poll keeps what is known.
use Rattle.rh_safety.proofs.Common.{◌≡◌, ◌≢◌, ℕ, ◌<◌, Bool, true, false, List, [], Option, Some, None, Ok, refl, sym, ap, ◌∙◌, subst, inl, option_map, either}
use Rattle.rh_safety.proofs.Common.{Acknowledge, Body, EventCode, Parcel, Post, post_poll, post_send, Desk, Task, named, with_delivered, handled, has_seat}
use Rattle.rh_safety.proofs.Common.{send_letter, find, has_name, Answer, Asked}
use Rattle.rh_safety.proofs.Common.{Handled, Incoming, Letter, Message, Recorded, User, action_of, free_pages, field_is, refuse_if}
use Rattle.rh_safety.proofs.Common.{poll, poll_taken, step, view, seen_parcel, task_of, Offers, Edits, first_for, without_first, Good, LiveFile, Knows, queued}
use Rattle.rh_safety.proofs.Common.{Unread}
use Rattle.rh_safety.proofs.Common.{live_of, Fits, HaveOwnSeats, bind, done, instead_of, the_task, Taking, Active, Has, in_id, put}
use Rattle.rh_safety.proofs.Common.{Err, Granted, NoTask, Refusal, not, of, ◌>>=◌, ◌>>◌}
use Rattle.rh_defs.specs.declared.command.Command.TheVariants as command
use Rattle.rh_defs.specs.declared.message.Letter.{Letter as PostedLetter}
use Rattle.rh_defs.specs.declared.transfer.Outgoing.TheVariants as outgoing
use Rattle.rh_defs.specs.declared.message.Body.TheVariants as body
use Rattle.rh_defs.specs.declared.reply.Outcome.TheVariants as outcome
use Rattle.rh_defs.specs.AnyMessage.{as_read}
use Rattle.rh_defs.specs.Messages.{is_kind}
use Rattle.rh_defs.specs.Post.{sendable}
use Rattle.rh_defs.specs.RawTasks.{is_raw, is_raw_task}
use Rattle.rh_defs.proofs.AnyMessageLaws.{kind-reads}
use Rattle.rh_defs.specs.AnyMessage.{read_body}
use Rattle.rh_defs.specs.declared.reply.Reply.TheVariants as reply
use Rattle.rh_defs.specs.declared.transfer.Incoming.TheVariants as incoming
use Rattle.rh_defs.specs.Desk.{kept_scrap}
use Rattle.rh_safety.specs.Given.{is_bounce}
use Rattle.rh_safety.specs.RawIds.{Gave}
use Rattle.rh_safety.proofs.Tolds.{told_by, told_event, told_mine, told_none, told_polled}
use Rattle.rh_safety.proofs.Sight as sight
use Rattle.rh_safety.proofs.Basics.{first_has}
use Rattle.rh_safety.proofs.Polls.{Taken, came_taken, back_ready, left_good, unpicked_live, lost_if_handle, returned_handle, put_one, unanswered_good}
use Rattle.rh_safety.proofs.SeenBlocks.{found_name, from_bind, granted_first}
use Rattle.rh_safety.proofs.SeenTaking.{IsTaken, picked_by, poll_taken_is}
use Rattle.rh_safety.proofs.SeenFiles.{delivered_live}
use Rattle.rh_safety.proofs.Sends.{Quiet}
use Rattle.rh_safety.proofs.Acts.{back-is, handled-acts, is_back, not-back}
use Rattle.rh_safety.proofs.Keeps.{Keeps, Stands, Tells, stands, strong, tells_as}
use Rattle.rh_safety.proofs.KeptActs.{Ready, Sound, act_sound}
use Rattle.rh_safety.proofs.StrangeActs.{act_strange, sound_told, strange}
use Rattle.rh_safety.proofs.SeenDocuments.{letter_of}
use Rattle.rh_safety.proofs.Masks.{masked, masked_message, mask_first, mask_live_file, mask_lost, mask_picked, mask_returned}
use Rattle.rh_safety.proofs.Raws.{Raws, first_differs, is_known, raws_picked, raws_returned}

-- what is known of the desk that a message is handled on: it was taken just now, or came back
pub record Given (o : Offers) (e : Edits) (R : Gave) (H : ℕ → Bool) (d : Desk) (t : Task) (m : Parcel) : Type 0 where
  pub is : task_of t.handle d.tasks ≡ Some t
  pub came : (m.code ≡ Acknowledge → ⊥) → Taken o e (masked R (view d)) t.handle (masked_message R (seen_parcel m)).letter
  pub back : m.code ≡ Acknowledge → Good o e (masked R (view d))
  pub quiet : m.code ≡ Acknowledge → (k : Taking) → Active ((view d).taking t.handle) k → m.message.my_ref ≡ k.fetch →
      Quiet (masked R (view d)) t.handle k.id
  pub raws : Raws R H o (masked R (view d))
  pub unlike : (m.code ≡ Acknowledge → ⊥) → (y : Message) → Has y (masked R (view d)).queue → Unread y → y.letter.me ≢ m.message.my_ref
  pub unborn : (m.code ≡ Acknowledge → ⊥) → (k : ℕ) (w : Incoming) → Has w ((view d).taking k) → in_id w ≢ m.message.my_ref
  pub empty : (m.code ≡ Acknowledge → ⊥) → R m.message.my_ref ≡ true → o m.message.my_ref ≡ Some []
  pub sender : R m.message.my_ref ≡ H m.message.from
  pub kind : is_known (masked_message R (seen_parcel m)).letter.kind ≡ true
  pub below : m.message.from < (view d).next_handle
  pub seats : (k : ℕ) → has_seat k d.post.seats ≡ (view d).live k

-- ---- a letter that was sent was for a live task

tested : {A : Type 0} (b : Bool) (r : Refusal) (next : Granted A) (x : A) → (refuse_if b r >> next) ≡ Ok x → b ≡ false
unfolding refuse_if ◌>>=◌ ◌>>◌
tested true r next x q = absurd (let z : Err r ≡ Ok x = q in (cc))
tested false r next x q = refl

not_off : (b : Bool) → not b ≡ false → b ≡ true
not_off true e = refl
not_off false e = absurd (let z : true ≡ false = e in (cc))

pub goes_to : (d there sent : Desk) (l : PostedLetter) (k : ℕ) → l.to ≡ k → there.post ≡ d.post → send_letter l there ≡ Ok sent →
    has_seat k d.post.seats ≡ true
unfolding send_letter post_send sendable
goes_to d there sent l k to same q =
    let w = from_bind (post_send (free_pages there) l there.post) _ sent q in
    let p = granted_first (sendable l there.post) _ w.value w.first in
    let seat = not_off (has_seat l.to there.post.seats) (tested _ NoTask _ p.0 p.1) in
    ap (λ (y : Post). has_seat k y.seats) (sym same) ∙ ap (λ j. has_seat j there.post.seats) (sym to) ∙ seat

-- a live task is of the manner that its handle tells
pub raw_of : (v : Option Task) → is_raw_task v ≡ of (λ t. is_raw t.manner) false v
raw_of None = refl
raw_of (Some t) = refl

-- ---- what is done with the message

-- a task whose body is one of the six kinds is read as it is
pub known_kind : (b : Body) → is_known (action_of b) ≡ true → is_kind b ≡ true
known_kind (body.Other o) q = q
known_kind b q = refl

pub read_same : (m : Parcel) → is_kind m.message.body ≡ true → as_read m ≡ m
read_same m q = ap (λ b. record m { message = record m.message { body = b } }) (kind-reads m.message.body q)

module _ {o : Offers} {e : Edits} {R : Gave} {H : ℕ → Bool} (d : Desk) (t : Task) (m : Parcel) (w : Given o e R H d t m) where
  -- what is known of it, as it is seen
  ready : (c : EventCode) → m.code ≡ c → (l : _) → (masked_message R (seen_parcel m)).letter ≡ l → Ready o e R H d t m (is_back c) l
  ready c code l same = record {
    came = λ b. subst (λ z. Taken o e (masked R (view d)) t.handle z) same (w.came (λ a. not-back c b (sym code ∙ a)));
    good = λ b. w.back (code ∙ back-is c b);
    quiet = λ b. w.quiet (code ∙ back-is c b);
    raws = w.raws;
    unlike = λ b. w.unlike (λ a. not-back c b (sym code ∙ a));
    unborn = λ b. w.unborn (λ a. not-back c b (sym code ∙ a));
    empty = λ b. w.empty (λ a. not-back c b (sym code ∙ a));
    sender = w.sender;
    below = w.below;
    flag = λ there sent l to post q.
        raw_of (task_of m.message.from d.tasks) ∙ w.raws.manners m.message.from
        (sym (w.seats m.message.from) ∙ goes_to d there sent l m.message.from to post q);
  }

  -- what the records of the task are of, where the message is the desk's own
  mine_active : R m.message.my_ref ≡ false → (f : Taking) → Has (incoming.Fetching f) t.taking → m.message.from ≡ f.sender → R f.id ≡ false
  mine_active mine f has from =
      w.raws.senders t.handle f (inl (subst (Has (incoming.Fetching f)) (sym (field_is (λ y. y.taking) [] t.handle d.tasks t w.is)) has)) ∙
      ap H (sym from) ∙ sym w.sender ∙ mine

  mine_asking : R m.message.my_ref ≡ false → (q : Asked) → Has (incoming.Asking q) t.taking → m.message.from ≡ q.sender → R q.id ≡ false
  mine_asking mine q has from =
      w.raws.askers t.handle q (subst (Has (incoming.Asking q)) (sym (field_is (λ y. y.taking) [] t.handle d.tasks t w.is)) has) ∙
      ap H (sym from) ∙ sym w.sender ∙ mine

  -- by a task that the desk plays
  handled_sound : H t.handle ≡ false →
      Sound (told_by o R t d.scrap m (is_back m.code) (read_body m.message.body) (handled d t (as_read m) m.code).1) e R H
      (view (handled d t (as_read m) m.code).0)
  handled_sound plays = go (R m.message.my_ref) refl
    where
      strangely : R m.message.my_ref ≡ true → Ready o e R H d t m (is_back m.code) (strange m)
      strangely theirs = ready m.code refl (strange m) (rw theirs refl)

      go : (b : Bool) → R m.message.my_ref ≡ b →
          Sound (told_by o R t d.scrap m (is_back m.code) (read_body m.message.body) (handled d t (as_read m) m.code).1) e R H
          (view (handled d t (as_read m) m.code).0)
      go true theirs =
          act_strange R H d t (as_read m) w.is theirs plays (handled-acts d t (as_read m) m.code)
          (record {
            came = (strangely theirs).came;
            good = (strangely theirs).good;
            quiet = (strangely theirs).quiet;
            raws = (strangely theirs).raws;
            unlike = (strangely theirs).unlike;
            unborn = (strangely theirs).unborn;
            empty = (strangely theirs).empty;
            sender = (strangely theirs).sender;
            below = (strangely theirs).below;
            flag = (strangely theirs).flag;
          })
      go false mine =
          let seen : (masked_message R (seen_parcel m)).letter ≡ letter_of m m.message.body = rw mine refl in
          let same = read_same m (known_kind m.message.body (ap (λ (z : Letter). is_known z.kind) (sym seen) ∙ w.kind)) in
          sound_told (told_mine o R t d.scrap m (mine_active mine) (mine_asking mine) (is_back m.code) (read_body m.message.body)
          (handled d t (as_read m) m.code).1)
          (subst (λ (z : Parcel). Sound o e R H (view (handled d t z m.code).0)) (sym same)
          (act_sound R H d t m w.is mine plays (handled-acts d t m m.code) (ready m.code refl (letter_of m m.message.body) seen)))

  -- by one with code of its own: nothing
  handed_good : H t.handle ≡ true → Good o e (masked R (view d))
  handed_good its = go m.code refl
    where
      taken : (m.code ≡ Acknowledge → ⊥) → Good o e (masked R (view d))
      taken ne = unanswered_good t.handle (masked_message R (seen_parcel m)).letter (w.came ne) (λ x has would file.
          subst (λ xs. Has (outgoing.Open x) xs) (w.raws.none_out t.handle its) has)

      go : (c : EventCode) → m.code ≡ c → Good o e (masked R (view d))
      go Acknowledge q = w.back q
      go User q = taken (λ a. let z : User ≡ Acknowledge = sym q ∙ a in (cc))
      go Recorded q = taken (λ a. let z : Recorded ≡ Acknowledge = sym q ∙ a in (cc))

-- whether a message came back, in either words
bounce_is : (c : EventCode) → is_bounce c ≡ is_back c
bounce_is User = refl
bounce_is Recorded = refl
bounce_is Acknowledge = refl

-- ---- the message that is taken

pick_raws : {R : Gave} {H : ℕ → Bool} {o : Offers} (D : sight.Desk) (h : ℕ) (x : Message) (c : EventCode) → first_for h D.queue ≡ Some x →
    Raws R H o D → Raws R H o (sight.picked D h x c)
pick_raws D h x User first raws = raws_picked D h x D.held (first_has h D.queue x first).0 (λ k y r. inl r) raws
pick_raws D h x Recorded first raws = raws_picked D h x (put D.held h (Some x)) (first_has h D.queue x first).0 (put_one D h x) raws
pick_raws D h x Acknowledge first raws = raws_picked D h x D.held (first_has h D.queue x first).0 (λ k y r. inl r) raws

picked_queue : (D : sight.Desk) (h : ℕ) (x : Message) (c : EventCode) → (sight.picked D h x c).queue ≡ without_first h D.queue
picked_queue D h x User = refl
picked_queue D h x Recorded = refl
picked_queue D h x Acknowledge = refl

lost_raws : {R : Gave} {H : ℕ → Bool} {o : Offers} (b : Bool) (D : sight.Desk) → Raws R H o D → Raws R H o (sight.lost_if b D)
lost_raws true D raws = raws
lost_raws false D raws = raws

lost_taking : (b : Bool) (D : sight.Desk) (k : ℕ) → (sight.lost_if b D).taking k ≡ D.taking k
lost_taking true D k = refl
lost_taking false D k = refl

returned_taking : (D : sight.Desk) (h : ℕ) (v : Option Message) (k : ℕ) → (sight.returned D h v).taking k ≡ D.taking k
returned_taking D h None k = refl
returned_taking D h (Some m) k = refl

-- handles stay
lost_next : (b : Bool) (D : sight.Desk) → (sight.lost_if b D).next_handle ≡ D.next_handle
lost_next true D = refl
lost_next false D = refl

returned_next : (D : sight.Desk) (h : ℕ) (v : Option Message) → (sight.returned D h v).next_handle ≡ D.next_handle
returned_next D h None = refl
returned_next D h (Some m) = refl

module _ {o : Offers} {e : Edits} {R : Gave} (d : Desk) (t : Task) (f : Fits d) (is : task_of t.handle d.tasks ≡ Some t)
    (g : Tells o e R (view d)) (p : Post × Option Parcel) (own : HaveOwnSeats p.0) (w : IsTaken d t.handle p) where
  abbrev h : ℕ
  h = t.handle

  abbrev E : sight.Desk
  E = masked R (view d)

  -- the desk that the message is taken from, and that as it is seen
  abbrev bare : sight.Desk
  bare = sight.lost_if w.lost (sight.returned (view d) h ((view d).held h))

  abbrev left : sight.Desk
  left = sight.lost_if w.lost (sight.returned E h (E.held h))

  left_is : masked R bare ≡ left
  left_is = mask_lost R w.lost (sight.returned (view d) h ((view d).held h)) ∙ ap (sight.lost_if w.lost) (mask_returned R (view d) h ((view d).held h))

  left_is_good : LiveFile left → Good o e left
  left_is_good live = left_good w.lost h (E.held h) refl live g.good

  left_raws : Raws R g.coded o left
  left_raws = lost_raws w.lost (sight.returned E h (E.held h)) (raws_returned E h (E.held h) refl g.raws)

  abbrev after : Desk
  after = with_delivered p.0 d

  -- a scrap file that is still there has its DataLoad
  safe : LiveFile (masked R (view after))
  safe = mask_live_file R (view after) (delivered_live d p.0 own)

  below : h < left.next_handle
  below = lost_if_handle (sight.returned E h (E.held h)) w.lost h
      (returned_handle E (E.held h) h h (g.good.inv.alive h (live_of d h t is)))

  -- records stay
  left_taking : (k : ℕ) → (view after).taking k ≡ left.taking k
  unfolding with_delivered
  left_taking k = sym (lost_taking w.lost (sight.returned E h (E.held h)) k ∙ returned_taking E h (E.held h) k)

  pub given_as : (m : Parcel) → p.1 ≡ Some m → Given o e R g.coded after t m
  unfolding with_delivered
  given_as m q =
      let x = masked_message R (seen_parcel m) in
      let first : first_for h left.queue ≡ Some x = ap (λ (y : sight.Desk). first_for h y.queue) (sym left_is) ∙ mask_first R h bare.queue ∙
      ap (option_map (masked_message R)) (w.first ∙ ap (option_map seen_parcel) q) in
      let seen : masked R (view after) ≡ sight.picked left h x m.code = ap (masked R) (w.seen ∙ ap (λ (v : Option Parcel).
      picked_by h (option_map seen_parcel v) bare) q) ∙ mask_picked R bare h (seen_parcel m) m.code ∙ ap
      (λ (z : sight.Desk). sight.picked z h x m.code) left_is in
      let picked_safe : LiveFile (sight.picked left h x m.code) = subst LiveFile seen safe in
      let left_ok : Good o e left = left_is_good (unpicked_live left h x m.code first picked_safe) in
      let here : Has x left.queue = (first_has h left.queue x first).0 in
      let known : Knows left x.letter = queued x here refl in
      let unread : (m.code ≡ Acknowledge → ⊥) → Unread x = λ ne. ne in
      let back : m.code ≡ Acknowledge → Good o e (masked R (view after)) × ((k : Taking) → Active
      ((view after).taking h) k → m.message.my_ref ≡ k.fetch → Quiet (masked R (view after)) h k.id) = λ code.
      subst (λ (y : sight.Desk). Good o e y × ((k : Taking) → Active (y.taking h) k →
      m.message.my_ref ≡ k.fetch → Quiet y h k.id)) (sym (seen ∙ ap (sight.picked left h x) code))
      (back_ready h x left_ok first below code (subst (λ c. LiveFile (sight.picked left h x c)) code picked_safe)) in
      record {
        is = is;
        came = λ ne. subst (λ (y : sight.Desk). Taken o e y h x.letter) (sym seen) (came_taken h x left_ok first
            below m.code refl ne picked_safe);
        back = λ code. (back code).0;
        quiet = λ code. (back code).1;
        raws = subst (λ (y : sight.Desk). Raws R g.coded o y) (sym seen) (pick_raws left h x m.code first left_raws);
        unlike = λ ne y has un. first_differs h left.queue x first left_ok.inv.order.rises y
            (subst (λ (q : List Message). Has y q) (ap (λ (z : sight.Desk). z.queue) seen ∙ picked_queue left h x m.code) has) (unread ne) un;
        unborn = λ ne k v has. left_raws.fresh k v x (subst (λ (ws : List Incoming). Has v ws) (left_taking k) has) here (unread ne);
        empty = λ ne theirs. left_raws.empty x here (unread ne) theirs;
        sender = left_raws.letters x.letter known;
        kind = left_raws.kinds x.letter known;
        below = subst (λ n. m.message.from < n)
            (lost_next w.lost (sight.returned E h (E.held h)) ∙ returned_next E h (E.held h)) (left_ok.inv.letters.below x.letter known).from;
        seats = λ k. w.seats k ∙ f.seats k;
      }

  -- what is told by the event
  abbrev Told : Option Parcel → Answer → Type 0
  Told v a = Tells (told_event o R t (kept_scrap p.0 d.scrap) v a.1) e R (view a.0)

  by_message : (v : Option Parcel) → p.1 ≡ v → Told v (poll_taken after t v)
  unfolding poll_taken with_delivered
  by_message None q =
      let seen : masked R (view after) ≡ left = ap (masked R) (w.seen ∙ ap (λ (v : Option Parcel). picked_by h
      (option_map seen_parcel v) bare) q) ∙ left_is in
      stands g (subst (λ (z : sight.Desk). Good o e z) (sym seen) (left_is_good (subst LiveFile seen safe)))
      (subst (λ (z : sight.Desk). Raws R g.coded o z) (sym seen) left_raws)
  by_message (Some m) q =
      let it = given_as m q in
      let raw : (view d).raw h ≡ is_raw t.manner = field_is (λ y. is_raw y.manner) false h d.tasks t is in
      let coded : is_raw t.manner ≡ g.coded h = sym raw ∙ g.raws.manners h (live_of d h t is) in
      either (λ (x : Handled). Tells (told_by o R t (kept_scrap p.0 d.scrap) m (is_bounce m.code) (read_body m.message.body) x.1) e R (view x.0))
      (is_raw t.manner) (after, outcome.Taken) _
      (λ its. tells_as (told_none o R t (kept_scrap p.0 d.scrap) m (is_bounce m.code) (read_body m.message.body) outcome.Taken refl refl)
      (stands g (handed_good after t m it (sym coded ∙ its)) it.raws))
      (λ plays.
      let w = handled_sound after t m it (sym coded ∙ plays) in
      let x = handled after t (as_read m) m.code in
      tells_as (ap (λ b. told_by o R t (kept_scrap p.0 d.scrap) m b (read_body m.message.body) x.1) (bounce_is m.code))
      (record { coded = g.coded; good = w.good; raws = w.raws }))

-- where nothing is told of what theirs offer
pub given : {o : Offers} {e : Edits} {R : Gave} (d : Desk) (t : Task) (f : Fits d) (is : task_of t.handle d.tasks ≡ Some t)
    (g : Stands o e R (view d)) (p : Post × Option Parcel) (own : HaveOwnSeats p.0) (w : IsTaken d t.handle p) (m : Parcel) → p.1 ≡ Some m →
    Given g.offers e R g.coded (with_delivered p.0 d) t m
given d t f is g p own w m q = given_as d t f is (strong g) p own w m q

pub poll_keeps : {o : Offers} {e : Edits} {R : Gave} (d : Desk) (name : List ℕ) → Fits d → Tells o e R (view d) →
    Keeps o e R d (command.Poll name) (step d (command.Poll name))
unfolding poll
poll_keeps {o} {e} {R} d name f g =
    let P = Keeps o e R d (command.Poll name) in
    bind P (named name d) _ (instead_of d) (λ r. refused r) (λ t q. done P _ (instead_of d) (
    let is = the_task d name t f q in
    let p = post_poll t.handle d.post in
    let a = poll_taken (with_delivered p.0 d) t p.1 in
    tells_as (ap (λ v. told_polled o R d v a.1) (found_name d name t q))
    (by_message d t f is g p (f.polled t.handle) (poll_taken_is d t.handle f (live_of d t.handle t is)) p.1 refl)))
  where
    told_refusal : (v : Option Task) (r : Refusal) → told_polled o R d v (reply.Refused r) ≡ o
    told_refusal None r = refl
    told_refusal (Some t) r = go (post_poll t.handle d.post).1
      where
        go : (v : Option Parcel) → told_event o R t (kept_scrap (post_poll t.handle d.post).0 d.scrap) v (reply.Refused r) ≡ o
        go None = refl
        go (Some m) = refl

    refused : (r : Refusal) → Keeps o e R d (command.Poll name) (instead_of d r)
    refused r = tells_as (told_refusal (find (has_name name) d.tasks) r) g
