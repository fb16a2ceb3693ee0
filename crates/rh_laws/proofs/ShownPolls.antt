-- Each message that a poll handles leaves all slots with no bytes but those that their tasks may show.
use Rattle.rh_laws.proofs.Common.{[], accept, ack_back, Acknowledge, all-mono, AllByRecursion, and_left, any-grant, append, Append, append-all, appended, arith}
use Rattle.rh_laws.proofs.Common.{as_returned, ask, Asked, Body, delivered, bounced_to, chosen}
use Rattle.rh_laws.proofs.Common.{Claim, cond, Desk, drop, eqb_tells, EventCode, fail_sending, false}
use Rattle.rh_laws.proofs.Common.{Fetch, fetch_more, first_is, Flex, free_pages, granted, granted-both, granted-past, granted-then, granted-with, handled}
use Rattle.rh_laws.proofs.Common.{Handled, Has, IfSome, ignored, Incoming, inl, inr, is_equal, is_found, length, Letter, List, load_file, loaded, LoadFile}
use Rattle.rh_laws.proofs.Common.{Next, next_ref, None, NoTask, Ok, OnGrant, Option, or_else-keeps, Outcome, Outgoing, Parcel, Part, perform_send, perform_take}
use Rattle.rh_laws.proofs.Common.{Post, post_poll, Recorded, refl, save_scrap, SaveFile, Scrap, send_letter, send_with, SendAction, Sending, Slot, slot_block}
use Rattle.rh_laws.proofs.Common.{Some, Split, subst, sym, take, take_with, TakeAction, Taking, taking_ended, Task, task_at, took, transmit, Transmit, true}
use Rattle.rh_laws.proofs.Common.{User, with_delivered, with_sending, with_slot, with_taking, with_task, ℕ, ◌++◌, ◌+◌, ◌<◌, ◌==◌, ◌∙◌, ◌∷◌, ◌≡◌}
use Rattle.rh_defs.specs.declared.message.Body.TheVariants as body
use Rattle.rh_defs.specs.declared.transfer.Outgoing.TheVariants as outgoing
use Rattle.rh_defs.specs.declared.transfer_action.SendAction.TheVariants as send_action
use Rattle.rh_defs.specs.declared.transfer_action.TakeAction.TheVariants as take_action
use Rattle.rh_defs.specs.declared.transfer_action.Next.TheVariants as next_action
use Rattle.rh_defs.specs.Sender as sender
use Rattle.rh_defs.specs.Post.{parcel_of, post_death, post_is_live}
use Rattle.rh_defs.specs.Desk.{kept_scrap}
use Rattle.rh_defs.specs.OutgoingEvents.{wider}
use Rattle.rh_safety.proofs.Actions.{bounce-does, load-does, open-does, save-does, transmit-does}
use Rattle.rh_laws.specs.MayShow.{MayShow}
use Rattle.rh_laws.proofs.Addresses.{all-edit}
use Rattle.rh_laws.proofs.ShownSlots.{alloc-only, AreOnly, claim-only, extend-only, first-only, granted-as, HasOnly, part-only, put-only, without-only}
use Rattle.rh_laws.proofs.ShownSlots.{written-only}
use Rattle.rh_laws.proofs.Queues.{bounce_held-left, death-left, death-seats, first-cut, held-by-all, IsCut, IsMine, Left, poll-taken, polled-seats}
use Rattle.rh_laws.proofs.Queues.{sent-is, with_held-all}
use Rattle.rh_laws.proofs.Common.{◌⊎◌, ap, bounce_held, first_for, held_by, Seat}
use Rattle.rh_defs.specs.Letters.{load_letter}
use Rattle.rh_defs.specs.Messages.{is_recorded}
use Rattle.rh_defs.specs.Post.{put_down, with_held}
use Rattle.rh_defs.specs.RawCommands.{after_answer}

-- ---- desks

-- a task has no bytes but those that it may show
abbrev pub HasOwn : MayShow → Task → Type 0
HasOwn may t = HasOnly (may t.handle) t.slot

-- a queued message, if it is the DataLoad of the scrap file and didn't come back: whom it is for may show the file's bytes
abbrev pub IsFor : MayShow → Scrap → Parcel → Type 0
IsFor may file p = (p.code ≡ Acknowledge → ⊥) → p.message.my_ref ≡ file.load → AreOnly (may p.to) file.bytes

-- a held one likewise, by which its holder may show them
abbrev pub HoldsFor : MayShow → Scrap → Seat → Type 0
HoldsFor may file s = (p : Parcel) → s.holds ≡ Some p → p.message.my_ref ≡ file.load → AreOnly (may s.handle) file.bytes

-- so it is of each task, and of the scrap file, where there is one
pub record HaveOwn (may : MayShow) (d : Desk) : Type 0 where
  pub all : AllByRecursion (HasOwn may) d.tasks
  pub file : (file : Scrap) → d.scrap ≡ Some file → AllByRecursion (IsFor may file) d.post.queued
  pub hand : (file : Scrap) → d.scrap ≡ Some file → AllByRecursion (HoldsFor may file) d.post.seats
  pub given : (file : Scrap) → d.scrap ≡ Some file → file.load < d.post.next_ref

-- the refs of queued and held messages were given
abbrev pub HasRefs : Desk → Type 0
HasRefs d =
    AllByRecursion (λ (p : Parcel). p.message.my_ref < next_ref d) d.post.queued
    × AllByRecursion (λ (s : Seat). (p : Parcel) → s.holds ≡ Some p → p.message.my_ref < next_ref d) d.post.seats

-- a desk with the same tasks, messages and scrap file
pub same-own : {may : MayShow} {d : Desk} (e : Desk) → e.tasks ≡ d.tasks → e.scrap ≡ d.scrap → e.post.queued ≡ d.post.queued →
    e.post.seats ≡ d.post.seats → e.post.next_ref ≡ d.post.next_ref → HaveOwn may d → HaveOwn may e
same-own {may} e tasks scrap queued seats next g = record {
  all = subst (AllByRecursion (HasOwn may)) (sym tasks) g.all;
  file = λ file q. subst (AllByRecursion (IsFor may file)) (sym queued) (g.file file (sym scrap ∙ q));
  hand = λ file q. subst (AllByRecursion (HoldsFor may file)) (sym seats) (g.hand file (sym scrap ∙ q));
  given = λ file q. subst (λ n. file.load < n) (sym next) (g.given file (sym scrap ∙ q));
}

-- of a message that goes back nothing is asked
pub back-for : (may : MayShow) (file : Scrap) (p : Parcel) → IsFor may file (as_returned p)
back-for may file p ne = absurd (ne refl)

-- of a seat that holds nothing neither
empty-for : (may : MayShow) (file : Scrap) (s : Seat) → HoldsFor may file (record s { holds = None })
empty-for may file s p is = absurd cc

-- a handle may have put down what it held
put-down-for : (may : MayShow) (file : Scrap) (h : ℕ) {old new : List Seat} → (new ≡ old) ⊎ (new ≡ with_held h None old) →
    AllByRecursion (HoldsFor may file) old → AllByRecursion (HoldsFor may file) new
put-down-for may file h {old} seats all = elim seats [
  | inl e ↦ subst (AllByRecursion (HoldsFor may file)) (sym e) all
  | inr e ↦ subst (AllByRecursion (HoldsFor may file)) (sym e)
      (with_held-all (HoldsFor may file) h None (λ s here. empty-for may file s) old all)
]

-- the first message for a handle, which it may hold then
first-held : (may : MayShow) (file : Scrap) (h : ℕ) (o : Option (Parcel × List Parcel)) →
    IfSome o (IsCut (IsFor may file) (back-for may file) h) →
    IfSome o (λ t. is_recorded t.0.code ≡ true → (s : Seat) → s.handle ≡ h → HoldsFor may file (record s { holds = Some t.0 }))
first-held may file h None cut = tt
first-held may file h (Some t) cut = λ recorded s here p is me.
    let same : t.0 ≡ p = cc in
    let came : t.0.code ≡ Acknowledge → ⊥ = λ z. let y : is_recorded Acknowledge ≡ true = ap is_recorded (sym z) ∙ recorded in cc in
    let own = cut.first.agrees came (ap (λ (q : Parcel). q.message.my_ref) same ∙ me) in
    subst (λ j. AreOnly (may j) file.bytes) (cut.first.own ∙ sym here) own

-- a scrap file that was kept was there
was-there : (p : Post) (file : Scrap) (o : Option Scrap) → kept_scrap p o ≡ Some file → o ≡ Some file
was-there p file None q = q
was-there p file (Some other) q =
    elim (post_is_live other.load p) as (λ b. cond b (Some other) None ≡ Some file → Some other ≡ Some file)
    [ true ↦ λ q. q | false ↦ λ q. absurd cc ] q

-- after a letter was sent
pub record Sent (may : MayShow) (l : Letter) (d e : Desk) : Type 0 where
  pub own : HaveOwn may e
  pub block : ℕ
  pub queued : e.post.queued ≡ d.post.queued ++ parcel_of l d.post.next_ref block ∷ []
  pub next : e.post.next_ref ≡ d.post.next_ref + 1
  pub seats : (e.post.seats ≡ d.post.seats) ⊎ (e.post.seats ≡ with_held l.from None d.post.seats)

module _ {may : MayShow} where
  pub task-own : (h : ℕ) (edit : Task → Task) → ((t : Task) → t.handle ≡ h → HasOwn may t → HasOwn may (edit t)) → (d : Desk) →
      HaveOwn may d → HaveOwn may (with_task h edit d)
  unfolding with_task
  task-own h edit keeps d g = record { all = all-edit (HasOwn may) h edit keeps d.tasks g.all; file = g.file; hand = g.hand; given = g.given }

  pub slot-own : (h : ℕ) (s : Slot) → HasOnly (may h) s → (d : Desk) → HaveOwn may d → HaveOwn may (with_slot h s d)
  slot-own h s stays d g =
      task-own h (λ (t : Task). record t { slot = s }) (λ t same is. subst (λ j. HasOnly (may j) s) (sym same) stays) d g

  pub outs-own : (h : ℕ) (edit : List Outgoing → List Outgoing) (d : Desk) → HaveOwn may d → HaveOwn may (with_sending h edit d)
  outs-own h edit d g = task-own h (λ (t : Task). record t { sending = edit t.sending }) (λ t same is. is) d g

  pub ins-own : (h : ℕ) (edit : List Incoming → List Incoming) (d : Desk) → HaveOwn may d → HaveOwn may (with_taking h edit d)
  ins-own h edit d g = task-own h (λ (t : Task). record t { taking = edit t.taking }) (λ t same is. is) d g

  ended-own : (h : ℕ) (x : Taking) (edit : List Incoming → List Incoming) (d : Desk) → HaveOwn may d → HaveOwn may (taking_ended h x edit d)
  unfolding taking_ended
  ended-own h x edit d g =
      ins-own h edit _ (task-own h _ (λ t same is. without-only is x.buffer) d g)

  pub letter-sent : (l : Letter) (d : Desk) → HaveOwn may d → OnGrant (Sent may l d) (send_letter l d)
  unfolding send_letter with_task
  letter-sent l d g =
      granted-with _ (sent-is (free_pages d) l d.post) λ sent w.
      granted (record {
        own = record {
          all = all-edit (HasOwn may) l.from (λ (t : Task). record t { last_sent = Some (l, sent.1) }) (λ t same is. is) d.tasks g.all;
          file = λ file q. subst (AllByRecursion (IsFor may file)) (sym w.queued) (append-all (IsFor may file) d.post.queued _
              (g.file file q) (λ code same. absurd (let low = g.given file q in omega (arith, low, same))));
          hand = λ file q. put-down-for may file l.from w.seats (g.hand file q);
          given = λ file q. let low = g.given file q in let next = w.next in omega (arith, low, next);
        };
        block = w.block;
        queued = w.queued;
        next = w.next;
        seats = w.seats;
      })

  pub letter-own : (l : Letter) (d : Desk) → HaveOwn may d → OnGrant (HaveOwn may) (send_letter l d)
  letter-own l d g = granted-as (λ e (w : Sent may l d e). w.own) (letter-sent l d g)

  -- a post that messages went out of
  pub with_delivered-own : (p : Post) (d : Desk) → ((file : Scrap) → Left (IsFor may file) (back-for may file) d.post p) →
      ((file : Scrap) → AllByRecursion (IsFor may file) d.post.queued → AllByRecursion (HoldsFor may file) d.post.seats →
      AllByRecursion (HoldsFor may file) p.seats) → HaveOwn may d → HaveOwn may (with_delivered p d)
  unfolding with_delivered
  with_delivered-own p d left hand g = record {
    all = g.all;
    hand = λ file q. let there = was-there p file d.scrap q in hand file (g.file file there) (g.hand file there);
    file = λ file q. (left file).mail (g.file file (was-there p file d.scrap q));
    given = λ file q. subst (λ n. file.load < n) (sym (left file).next) (g.given file (was-there p file d.scrap q));
  }

  pub polled-own : (h : ℕ) (d : Desk) → HaveOwn may d → HaveOwn may (with_delivered (post_poll h d.post).0 d)
  polled-own h d g =
      let between : Post = bounce_held h (held_by h d.post.seats) d.post in
      with_delivered-own _ d (λ file. (poll-taken (IsFor may file) (back-for may file) h d.post).left)
      (λ file mail all. polled-seats (HoldsFor may file) (empty-for may file) h d.post
      (first-held may file h (first_for h between.queued) (first-cut (IsFor may file) (back-for may file) h between.queued
      ((bounce_held-left (IsFor may file) (back-for may file) h (held_by h d.post.seats) d.post).mail mail))) all) g

  -- a task may put down what it holds
  pub put_down-own : (h : ℕ) (d : Desk) → HaveOwn may d → HaveOwn may (with_delivered (put_down h d.post) d)
  put_down-own h d g = with_delivered-own (put_down h d.post) d (λ file. record { mail = λ all. all; next = refl })
      (λ file mail all. put-down-for may file h (inr refl) all) g

  -- the scrap file kept or given up after a message
  pub answered-own : (sent : Desk) → HaveOwn may sent → HaveOwn may (after_answer sent)
  answered-own sent g = with_delivered-own sent.post sent (λ file. record { mail = λ all. all; next = refl }) (λ file mail all. all) g

  -- what a task holds, if it is the DataLoad of the scrap file
  pub held-for : (h : ℕ) (d : Desk) → HaveOwn may d → (file : Scrap) → d.scrap ≡ Some file → (p : Parcel) → held_by h d.post.seats ≡ Some p →
      p.message.my_ref ≡ file.load → AreOnly (may h) file.bytes
  held-for h d g file there p is me =
      let s = held-by-all (HoldsFor may file) h d.post.seats p (g.hand file there) is in
      subst (λ j. AreOnly (may j) file.bytes) s.1.1.0 (s.1.0 p s.1.1.1 me)

  -- the message that a poll takes, if it is the DataLoad of the scrap file
  pub taken-for : (h : ℕ) (d : Desk) → HaveOwn may d → (m : Parcel) → (post_poll h d.post).1 ≡ Some m → (m.code ≡ Acknowledge → ⊥) → (file : Scrap) →
      (with_delivered (post_poll h d.post).0 d).scrap ≡ Some file → file.load ≡ m.message.my_ref → AreOnly (may h) file.bytes
  unfolding with_delivered
  taken-for h d g m q ne file there load =
      let all = g.file file (was-there (post_poll h d.post).0 file d.scrap there) in
      let mine = subst (λ (v : Option Parcel). IfSome v (IsMine (IsFor may file) (back-for may file) h)) q
      ((poll-taken (IsFor may file) (back-for may file) h d.post).mine all) in
      subst (λ j. AreOnly (may j) file.bytes) mine.own (mine.agrees ne (sym load))

  pub death-own : (h : ℕ) (d : Desk) → HaveOwn may d → HaveOwn may (with_delivered (post_death h d.post) d)
  death-own h d g = with_delivered-own _ d (λ file. death-left (IsFor may file) (back-for may file) h d.post)
      (λ file mail all. death-seats (HoldsFor may file) (empty-for may file) h d.post all) g

-- a new scrap file, whose DataLoad was sent to a task that may show its bytes; no message had the DataLoad's ref
pub filed-own : (may : MayShow) (l : Letter) (d sent : Desk) (bytes : List ℕ) → HasRefs d → Sent may l d sent → AreOnly (may l.to) bytes →
    HaveOwn may (record sent { scrap = Some (record { load = next_ref d; bytes = bytes }) })
filed-own may l d sent bytes refs w e = record {
  all = w.own.all;
  file = λ other q. let one : file ≡ other = cc in
      subst (λ (z : Scrap). AllByRecursion (IsFor may z) sent.post.queued) one
      (subst (AllByRecursion (IsFor may file)) (sym w.queued) (append-all (IsFor may file) d.post.queued _
      (all-mono {Q = IsFor may file} (λ (p : Parcel) (low : p.message.my_ref < next_ref d) code same.
      absurd (omega (arith, low, same))) d.post.queued refs.0)
      (λ code same. e)));
  hand = λ other q. let one : file ≡ other = cc in
      subst (λ (z : Scrap). AllByRecursion (HoldsFor may z) sent.post.seats) one
      (put-down-for may file l.from w.seats (all-mono {Q = HoldsFor may file}
      (λ (s : Seat) (low : (p : Parcel) → s.holds ≡ Some p → p.message.my_ref < next_ref d) p is me.
      let under = low p is in absurd (omega (arith, under, me))) d.post.seats refs.1));
  given = λ other q. let one : file ≡ other = cc in
      subst (λ (z : Scrap). z.load < sent.post.next_ref) one (let next = w.next in omega (arith, next));
}
  where
    file : Scrap
    file = record { load = next_ref d; bytes = bytes }

-- ---- what is done with a message

-- after a message was handled
record Leaves (may : MayShow) (x : Handled) : Type 0 where
  desk : HaveOwn may x.0

module _ (may : MayShow) (t : Task) (own : HasOwn may t) where
  abbrev h : ℕ
  h = t.handle

  -- the recipient may show the bytes of the source
  abbrev pub Sourced : Sending → Type 0
  Sourced x = (source : Split Flex) → slot_block x.anchor t.slot ≡ Ok source → AreOnly (may x.recipient) source.here.bytes

  -- a file is for the recipient, who asked for it, and no queued message has the ref that its DataLoad gets
  abbrev IsAsked : Desk → SendAction → Type 0
  IsAsked d (send_action.SaveFile c) = (c.to ≡ c.transfer.recipient) × HasRefs d
  IsAsked d c = Unit {0}

  abbrev Sends : Desk → SendAction → Type 0
  Sends d c = Sourced (sender.transfer_of c) × IsAsked d c

  -- the task may show the bytes of its scrap file
  abbrev Takes : Desk → TakeAction → Type 0
  Takes d (take_action.LoadFile c) = (file : Scrap) → d.scrap ≡ Some file → file.load ≡ c.answers → AreOnly (may h) file.bytes
  Takes d c = Unit {0}

  module _ (d : Desk) (g : HaveOwn may d) where
    ignored-own : Leaves may (ignored d)
    ignored-own = record { desk = g }

    ended-with : (x : Taking) (edit : List Incoming → List Incoming) (o : Outcome) → Leaves may (taking_ended h x edit d, o)
    ended-with x edit o = record { desk = ended-own h x edit d g }

    ins-with : (edit : List Incoming → List Incoming) (o : Outcome) → Leaves may (with_taking h edit d, o)
    ins-with edit o = record { desk = ins-own h edit d g }

    outs-with : (edit : List Outgoing → List Outgoing) (o : Outcome) → Leaves may (with_sending h edit d, o)
    outs-with edit o = record { desk = outs-own h edit d g }

    transmit-own : (c : Transmit) (source : Split Flex) → AreOnly (may c.transfer.recipient) source.here.bytes →
        OnGrant (Leaves may) (transmit d t c source)
    unfolding transmit
    transmit-own c source e =
        granted-then _ _ λ r live. granted-past _ _ _ λ reach. granted-with _ (letter-own _ d g) λ sent all.
        let p : Part = sender.next_part c (length source.here.bytes) in
        let found : task_at c.transfer.recipient d ≡ Some r = is_found _ NoTask r live in
        let same : r.handle ≡ c.transfer.recipient =
        is_equal _ _ (first_is (λ (y : Task). y.handle == c.transfer.recipient) d.tasks r found).1 in
        granted (record {
          desk = outs-own h _ _ (task-own r.handle _ (λ u here is.
              written-only is c.buffer c.room (take p.n (drop p.offset source.here.bytes))
              (part-only (may u.handle) p.n p.offset source.here.bytes
              (subst (λ j. AreOnly (may j) source.here.bytes) (sym (here ∙ same)) e))) sent all);
        })

    save_scrap-own : (c : SaveFile) (source : Split Flex) → AreOnly (may c.transfer.recipient) source.here.bytes →
        IsAsked d (send_action.SaveFile c) → OnGrant (Leaves may) (save_scrap d t c source)
    unfolding save_scrap
    save_scrap-own c source e asked =
        granted-past _ _ _ λ busy. granted-both _ (any-grant _) λ y u. granted-past _ _ _ λ room.
        granted-with _ (letter-sent _ _ (same-own (wider _ d) refl refl refl refl refl g)) λ sent w.
        let refs : HasRefs d = asked.1 in
        granted (record {
          desk = outs-own h _ _ (filed-own may (load_letter h c (length source.here.bytes)) d sent source.here.bytes refs
              (record { own = w.own; block = w.block; queued = w.queued; next = w.next; seats = w.seats })
              (subst (λ j. AreOnly (may j) source.here.bytes) (sym asked.0) e));
        })

    send_with-own : (c : SendAction) (source : Split Flex) → AreOnly (may (sender.transfer_of c).recipient) source.here.bytes → IsAsked d c →
        OnGrant (Leaves may) (send_with d t c source)
    unfolding send_with
    send_with-own (send_action.Transmit c) source e to = transmit-own c source e
    send_with-own (send_action.SaveFile c) source e to = save_scrap-own c source e to
    send_with-own (send_action.Finish x) source e to = granted (outs-with _ _)

    perform_send-own : (v : Option SendAction) → IfSome v (Sends d) → Leaves may (perform_send d t v)
    unfolding perform_send
    perform_send-own None sends = ignored-own
    perform_send-own (Some c) sends =
        or_else-keeps (Leaves may) _ (granted-then _ _ λ source found. send_with-own c source (sends.0 source found) sends.1) (λ refusal. outs-with _ _)

    fail_sending-own : (v : Option Sending) → Leaves may (fail_sending d t v)
    unfolding fail_sending
    fail_sending-own None = ignored-own
    fail_sending-own (Some x) = outs-with _ _

    accept-own : (c : Claim) → OnGrant (Leaves may) (accept d t c)
    unfolding accept
    accept-own c =
        granted-then _ _ λ k free. granted-with _ (claim-only own (free_pages d) t.buffer) λ b claimed.
        granted-with _ (alloc-only claimed _ k 0) λ p there.
        granted-with _ (letter-own _ _ (slot-own h p.0 there d g)) λ sent all.
        granted (record { desk = ins-own h _ _ all })

    appended-own : (k : ℕ) (bytes : List ℕ) → AreOnly (may h) bytes → OnGrant (HaveOwn may) (appended d t k bytes)
    unfolding appended
    appended-own k bytes e =
        granted-then _ _ λ document found.
        granted-with _ (extend-only own (free_pages d) k _) λ longer stays.
        granted-with _ (put-only stays k _ bytes e) λ s filled.
        granted (slot-own h s filled d g)

    fetch_more-own : (c : Append) (b : Fetch) → OnGrant (Leaves may) (fetch_more d t c b)
    unfolding fetch_more
    fetch_more-own c b = granted-with _ (letter-own _ d g) λ sent all. granted (record { desk = ins-own h _ _ all })

    took-own : (c : Append) (b : Next) → Leaves may (took d t c b)
    unfolding took
    took-own c next_action.Finish = ended-with c.transfer _ _
    took-own c (next_action.Fetch b) = or_else-keeps (Leaves may) _ (fetch_more-own c b) (λ refusal. ended-with c.transfer _ _)

    ask-own : (x : Taking) → OnGrant (Leaves may) (ask d t x)
    unfolding ask
    ask-own x = granted-with _ (letter-own _ d g) λ sent all. granted (record { desk = ended-own h x _ sent all })

    ack_back-own : (v : Option Asked) → Leaves may (ack_back d t v)
    unfolding ack_back
    ack_back-own None = ignored-own
    ack_back-own (Some q) = ins-with _ _

    loaded-own : (c : LoadFile) (n : ℕ) → Leaves may (loaded d t c n)
    unfolding loaded
    loaded-own c n =
        or_else-keeps (Leaves may) _
        (granted-with _ (letter-own _ d g) λ sent all. granted (record { desk = ins-own h _ _ all }))
        (λ refusal. ins-with _ _)

  module _ (d : Desk) (g : HaveOwn may d) where
    append-own : (c : Append) → Leaves may (append d t c)
    unfolding append
    append-own c =
        or_else-keeps (Leaves may) _
        (granted-with _ (appended-own d g c.transfer.anchor _ (first-only own c.n c.transfer.buffer)) λ longer all.
        granted (took-own longer all c c.next))
        (λ refusal. ended-with d g c.transfer _ _)

    load_file-own : (c : LoadFile) (v : Option Scrap) → ((file : Scrap) → v ≡ Some file → file.load ≡ c.answers → AreOnly (may h) file.bytes) →
        Leaves may (load_file d t c v)
    unfolding load_file
    load_file-own c None stays = ignored-own d g
    load_file-own c (Some file) stays = elim (eqb_tells file.load c.answers) [
      | inl w ↦ rw w.0 (or_else-keeps (Leaves may) _
          (granted-with _ (appended-own d g c.transfer.anchor file.bytes (stays file refl w.1)) λ longer all.
          granted (loaded-own (record longer { scrap = None }) (record {
            all = all.all;
            file = λ other q. absurd cc;
            hand = λ other q. absurd cc;
            given = λ other q. absurd cc;
          }) c
          (length file.bytes)))
          (λ refusal. ins-with d g _ _))
      | inr w ↦ rw w.0 (ignored-own d g)
    ]

    take_with-own : (c : TakeAction) → Takes d c → Leaves may (take_with d t c)
    unfolding take_with
    take_with-own (take_action.Claim c) takes = or_else-keeps (Leaves may) _ (accept-own d g c) (λ refusal. ignored-own d g)
    take_with-own (take_action.Append c) takes = append-own c
    take_with-own (take_action.AskForFile x) takes = or_else-keeps (Leaves may) _ (ask-own d g x) (λ refusal. ended-with d g x _ _)
    take_with-own (take_action.LoadFile c) takes = load_file-own c d.scrap takes
    take_with-own (take_action.Release c) takes = ended-with d g c.transfer _ _

    perform_take-own : (v : Option TakeAction) → IfSome v (Takes d) → Leaves may (perform_take d t v)
    unfolding perform_take
    perform_take-own None takes = ignored-own d g
    perform_take-own (Some c) takes = take_with-own c takes

    -- ---- one message

    -- of each open transfer of the task, the recipient may show the bytes of the source
    abbrev pub Offered : Type 0
    Offered = (x : Sending) → Has (outgoing.Open x) t.sending → Sourced x

    -- the task may show the bytes of the scrap file whose DataLoad the message is
    abbrev pub Filed : Parcel → Type 0
    Filed m = (file : Scrap) → d.scrap ≡ Some file → file.load ≡ m.message.my_ref → AreOnly (may h) file.bytes

    module _ (m : Parcel) (offered : Offered) (refs : HasRefs d) where
      delivered-own : (b : Body) → Filed m → Leaves may (delivered d t m b)
      unfolding delivered
      delivered-own (body.DataSave file) filed = perform_take-own _ (save-does (Takes d) t.taking _ _ _ _ tt)
      delivered-own (body.DataSaveAck file) filed =
          perform_send-own d g _ (open-does (Sends d) t.sending (sender.file_for m.message.from m.message.my_ref) _ (λ x has p.
          let both = and_left _ (x.id == x.last) p in
          (offered x has, (is_equal _ _ (and_left (m.message.from == x.recipient) _ both), refs))))
      delivered-own (body.DataLoad file) filed = perform_take-own _ (load-does (Takes d) t.taking _ _ _ (λ q has p. filed))
      delivered-own (body.DataLoadAck file) filed = perform_send-own d g _ (open-does (Sends d) t.sending _ _ (λ x has p. (offered x has, tt)))
      delivered-own (body.RamFetch buffer amount) filed =
          chosen (Leaves may) _ _ _ (ignored-own d g) (perform_send-own d g _ (open-does (Sends d) t.sending _ _ (λ x has p. (offered x has, tt))))
      delivered-own (body.RamTransmit buffer n) filed =
          perform_take-own _ (transmit-does (Takes d) t.taking _ _ _ _ _ _ (λ x has. tt) (λ x e has. tt))
      delivered-own (body.Other o) filed = ignored-own d g

      bounced_to-own : (b : Body) → Leaves may (bounced_to d t m b)
      unfolding bounced_to
      bounced_to-own (body.DataSaveAck file) = ack_back-own d g _
      bounced_to-own (body.DataLoadAck file) = ignored-own d g
      bounced_to-own (body.RamFetch buffer amount) =
          perform_take-own _ (bounce-does (Takes d) t.taking _ (λ x has. tt) (λ x e has. tt))
      bounced_to-own (body.Other o) = ignored-own d g
      bounced_to-own b = fail_sending-own d g _

      pub handled-own : (c : EventCode) → ((c ≡ Acknowledge → ⊥) → Filed m) → HaveOwn may (handled d t m c).0
      unfolding handled
      handled-own User filed = (delivered-own m.message.body (filed (λ z. cc))).desk
      handled-own Recorded filed = (delivered-own m.message.body (filed (λ z. cc))).desk
      handled-own Acknowledge filed = (bounced_to-own m.message.body).desk
