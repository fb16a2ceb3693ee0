-- Two tasks polled in turn bring a transfer to its end, on the desk itself.
use Rattle.rh_safety.proofs.Common.{first_for, ◌≡◌, ℕ, zero, suc, ◌+◌, ◌-◌, ◌*◌, ◌/◌, ◌<◌, ◌≤◌, Bool, true, false, not, List, [], ◌∷◌, length, Option, Some}
use Rattle.rh_safety.proofs.Common.{None, refl}
use Rattle.rh_safety.proofs.Common.{sym, ap, ◌∙◌, subst, arith, ◌&&◌, ◌==◌, find, map, Ok, option_map, list_any, Command, Recorded, Incoming, is_name, IsDesk}
use Rattle.rh_safety.proofs.Common.{in_range, Parcel, Seat, held_by, post_poll, ◌>>=◌, found_or, or_else, Desk, Task, has_name, task_at, named}
use Rattle.rh_safety.proofs.Common.{with_delivered, Answer, poll, poll_taken, step, after, is_open, is_going, answers_none, EventCode, User, Acknowledge}
use Rattle.rh_safety.proofs.Common.{Taking, view, seen_parcel, blocks_of, of, task_of, Has, Out, Open, Out_done, In_done, Fetching, Message, Plain, Edits}
use Rattle.rh_safety.proofs.Common.{either, and_left, and_right, none_some, Offered, Good, field_is, live_of, Fits}
use Rattle.std.specs.List.{AllByRecursion}
use Rattle.rh_safety.proofs.Common.{Handled}
use Rattle.rh_defs.specs.declared.reply.Outcome.TheVariants as outcome
use Rattle.rh_defs.specs.AnyMessage.{as_read}
use Rattle.rh_defs.specs.RawTasks.{is_raw}
use Rattle.rh_defs.specs.declared.refusal.Refusal.TheVariants.{NoName}
use Rattle.rh_defs.specs.declared.command.Command.TheVariants as command
use Rattle.rh_defs.specs.declared.reply.Reply.TheVariants as reply
use Rattle.rh_defs.specs.Forms.{is_leaf}
use Rattle.rh_defs.proofs.Steps.{step-keeps}
use Rattle.rh_safety.specs.Alternation.{is_refused_poll, all_granted, turns, turns_before, CanAlternate, SenderDone, ReceiverDone, EndsDone, Alternates}
use Rattle.rh_safety.proofs.Sight as sight
use Rattle.rh_safety.proofs.Basics.{contains_of, not_true}
use Rattle.rh_safety.proofs.Arrivals.{Began}
use Rattle.rh_safety.proofs.Turns.{Pair, Waiting, Answered, AllCame, Ready, asked, open_record, answers_it, gone_desk, sent_last, sent_full, sender_record}
use Rattle.rh_safety.proofs.Turns.{sent_back, taking_record, takes_it, taken_it, took_full, took_rest, outgoing_at, offer, offer_queued, none_held, pair_of}
use Rattle.rh_safety.proofs.Turns.{took_first}
use Rattle.rh_safety.proofs.SeenTasks.{found_task}
use Rattle.rh_safety.proofs.SeenKeys.{keys_of, named_in, raw_in, raw_is, handle_named, SameKeys, handled_keys}
use Rattle.rh_safety.proofs.SeenTaking.{poll_taken_is}
use Rattle.rh_safety.proofs.SeenSaves.{IsSaved, save_step}
use Rattle.rh_safety.proofs.SeenDesks.{fits}
use Rattle.rh_safety.proofs.SeenLaws.{IsReached, block_is}
use Rattle.rh_safety.specs.RawIds.{Gave}
use Rattle.rh_safety.proofs.Invariant.{Order}
use Rattle.rh_safety.proofs.Masks.{masked, masked_message}
use Rattle.rh_safety.proofs.Raws.{is_known}
use Rattle.rh_safety.proofs.PollTurns.{Turn, none_is, turn_is, fetch_turn, taker, transmit_turn, save_turn}

-- ---- one poll, by name

-- a name's handle
abbrev pub IsNamed : List ℕ → Desk → ℕ → Type 0
IsNamed name d h = named_in name (keys_of d.tasks) ≡ Some h

-- the desk plays the task of the handle
abbrev pub IsPlayed : Desk → ℕ → Type 0
IsPlayed d h = raw_in h (keys_of d.tasks) ≡ false

-- the desk after a poll of task h
pub record IsPolled (d : Desk) (h : ℕ) (a : Answer) : Type 0 where
  pub turn : (m : Message) → is_known m.letter.kind ≡ true → IsPlayed d h → (view d).held h ≡ None → (view d).queue ≡ m ∷ [] → m.to ≡ h → Turn d h m a
  pub none : first_for h (sight.returned (view d) h ((view d).held h)).queue ≡ None →
      sight.lost (view a.0) ≡ sight.lost (sight.returned (view d) h ((view d).held h))
  pub keys : SameKeys d a.0
  pub kept : IsDesk a.0

pub taken_keys : (d : Desk) (t : Task) (v : Option Parcel) → SameKeys d (poll_taken d t v).0
unfolding poll_taken
taken_keys d t None = refl
taken_keys d t (Some m) = either (λ (x : Handled). SameKeys d x.0) (is_raw t.manner) (d, outcome.Taken) _ (λ raw. refl)
    (λ plays. handled_keys d t (as_read m) m.code)

pub delivered_keys : (p : _) (d : Desk) → SameKeys d (with_delivered p d)
unfolding with_delivered
delivered_keys p d = refl

pub found_of : (h : ℕ) (o : Option Task) → option_map (λ (t : Task). t.handle) o ≡ Some h →
    (t : Task) × (o ≡ Some t) × (t.handle ≡ h)
found_of h None q = absurd (none_some None refl q)
found_of h (Some t) q = (t, refl, let z : Some t.handle ≡ Some h = q in (let y : t.handle ≡ h = cc in y))

pub poll_step : (d : Desk) (name : List ℕ) (t : Task) → find (has_name name) d.tasks ≡ Some t →
    step d (command.Poll name) ≡ poll_taken (with_delivered (post_poll t.handle d.post).0 d) t (post_poll t.handle
    d.post).1
unfolding poll named found_or or_else ◌>>=◌
poll_step d name t q =
    ap (λ (o : Option Task). or_else (found_or o NoName >>= (λ (u : Task).
    Ok (poll_taken (with_delivered (post_poll u.handle d.post).0 d) u (post_poll u.handle d.post).1))) (λ refusal.
    (d, reply.Refused refusal))) q

pub poll_in_range : (name : List ℕ) → is_name name ≡ true → in_range (command.Poll name) ≡ true
unfolding in_range
poll_in_range name q = q

-- what goes on from poll to poll: both tasks with their names, which the desk plays
record Tasks (s r : List ℕ) (hs hr : ℕ) (d : Desk) : Type 0 where
  pub kept : IsDesk d
  pub plays_sender : IsPlayed d hs
  pub plays_receiver : IsPlayed d hr
  pub valid_sender : is_name s ≡ true
  pub valid_receiver : is_name r ≡ true
  pub sender : IsNamed s d hs
  pub receiver : IsNamed r d hr

pub is_polled : (d : Desk) (name : List ℕ) (h : ℕ) → IsDesk d → is_name name ≡ true → IsNamed name d h →
    IsPolled d h (step d (command.Poll name))
is_polled d name h kept valid is_named =
    let f = fits d kept in
    let w = found_of h (find (has_name name) d.tasks) (handle_named name d.tasks ∙ is_named) in
    let t = w.0 in
    let is : task_of t.handle d.tasks ≡ Some t = found_task (has_name name) d.tasks t f.handles w.1 in
    let p = post_poll t.handle d.post in
    let taken = poll_taken_is d t.handle f (live_of d t.handle t is) in
    let same = poll_step d name t w.1 in
    subst (λ (k : ℕ). IsPolled d k (step d (command.Poll name))) w.2 (record {
      turn = λ m known plays none queue to. subst (λ (y : Answer). Turn d t.handle m y) (sym same) (turn_is d t p taken is m known
          (sym (field_is (λ (y : Task). is_raw y.manner) false t.handle d.tasks t is) ∙ raw_is t.handle d.tasks ∙ plays) none queue to);
      none = λ nothing. subst (λ (y : Answer). sight.lost (view y.0) ≡ sight.lost (sight.returned (view d) t.handle
          ((view d).held t.handle))) (sym same) (none_is d t p taken is nothing);
      keys = subst (λ (y : Answer). SameKeys d y.0) (sym same) (taken_keys (with_delivered p.0 d) t p.1 ∙ delivered_keys p.0 d);
      kept = step-keeps d (command.Poll name) (poll_in_range name valid) kept;
    })

next_tasks : {s r : List ℕ} {hs hr : ℕ} {d : Desk} (h : ℕ) (name : List ℕ) →
    Tasks s r hs hr d → IsPolled d h (step d (command.Poll name)) → Tasks s r hs hr (step d (command.Poll name)).0
next_tasks {s = s} {r = r} {hs = hs} {hr = hr} {d = d} h name t p = record {
  kept = p.kept;
  plays_sender = ap (raw_in hs) p.keys ∙ t.plays_sender;
  plays_receiver = ap (raw_in hr) p.keys ∙ t.plays_receiver;
  valid_sender = t.valid_sender;
  valid_receiver = t.valid_receiver;
  sender = ap (named_in s) p.keys ∙ t.sender;
  receiver = ap (named_in r) p.keys ∙ t.receiver;
}

pub granted : (d : Desk) (c : Command) (cs : List Command) → all_granted d (c ∷ cs) ≡ true →
    is_refused_poll (step d c).1 ≡ false
granted d c cs q = not_true _ (and_left (not (is_refused_poll (step d c).1)) _ q)

pub rest_granted : (d : Desk) (c : Command) (cs : List Command) → all_granted d (c ∷ cs) ≡ true →
    all_granted (step d c).0 cs ≡ true
rest_granted d c cs q = and_right (not (is_refused_poll (step d c).1)) _ q

-- ---- a turn of each

module _ (s r : List ℕ) (p : Pair) where
  abbrev IsPair : Desk → Type 0
  IsPair = Tasks s r p.sender p.receiver

  -- a fetch waits, and so many bytes have come
  record AtFetch (d : Desk) (k : ℕ) : Type 0 where
    pub tasks : IsPair d
    pub waits : Waiting p (sight.lost (view d)) k

  -- how it ends
  record Ends (before last : Desk) : Type 0 where
    pub sent : Has (Out_done p.id (length p.source)) ((view before).sending p.sender)
    pub came : AllCame p (sight.lost (view last))

  sender_polled : (d : Desk) → IsPair d → IsPolled d p.sender (step d (command.Poll s))
  sender_polled d t = is_polled d s p.sender t.kept t.valid_sender t.sender

  receiver_polled : (d : Desk) → IsPair d → IsPolled d p.receiver (step d (command.Poll r))
  receiver_polled d t = is_polled d r p.receiver t.kept t.valid_receiver t.receiver

  -- the sender answers
  sender_turn : (d : Desk) (k : ℕ) (w : AtFetch d k) (within : k ≤ length p.source) →
      is_refused_poll (step d (command.Poll s)).1 ≡ false →
      sight.lost (view (step d (command.Poll s)).0) ≡ gone_desk p (sight.lost (view d)) k w.waits within
  sender_turn d k w within ok =
      let x = w.waits in
      let m = asked p (sight.lost (view d)) k x within in
      fetch_turn d p.sender m _ ((sender_polled d w.tasks).turn m refl w.tasks.plays_sender (x.held p.sender) x.queue refl) ok
      (λ z. let y : Recorded ≡ Acknowledge = z in (cc)) refl (open_record p (sight.lost (view d)) k x within) p.source
      x.bytes (record {
        fetches = x.fetches;
        found = answers_it p (sight.lost (view d)) k x within;
        there = x.source;
        buffer = x.buffer;
        fits = x.fits;
      })

  -- the receiver takes the bytes
  receiver_turn : (d : Desk) (k n me : ℕ) (v : Out) (c : EventCode) (w : Answered p (sight.lost (view d)) k n me v c) →
      IsPair d → (c ≡ Acknowledge → ⊥) → n ≤ p.room → is_refused_poll (step d (command.Poll r)).1 ≡ false →
      sight.lost (view (step d (command.Poll r)).0) ≡ taken_it p (sight.lost (view d)) k n me v c w
  receiver_turn d k n me v c w t came small ok =
      let D = sight.lost (view d) in
      let m = sent_back p D k n me v c w in
      transmit_turn d p.receiver m _ ((receiver_polled d t).turn m refl t.plays_receiver (w.held p.receiver) w.queue refl) ok came refl
      (taking_record p D k n me v c w) (same_taker c (taking_record p D k n me v c w) (takes_it p D k n me v c w small))
    where
      same_taker : (c2 : EventCode) (x : Taking) → taker (sight.lost (view d)) p.receiver
          (sent_back p (sight.lost (view d)) k n me v c w).letter ≡ Some (Fetching x) →
          taker (sight.picked (sight.lost (view d)) p.receiver (sent_back p (sight.lost (view d)) k n me v c w)
          c2) p.receiver (sent_back p (sight.lost (view d)) k n me v c w).letter ≡ Some (Fetching x)
      same_taker User x q = q
      same_taker _ x q = q

  last_turn : (d : Desk) (k : ℕ) → AtFetch d k → k ≤ length p.source → length p.source < k + p.room →
      all_granted d (command.Poll s ∷ turns r s zero) ≡ true →
      Ends (after d (command.Poll s ∷ turns_before r s zero)) (after d (command.Poll s ∷ turns r s zero))
  last_turn d k w within short q =
      let n : ℕ = length p.source - k in
      let d1 : Desk = (step d (command.Poll s)).0 in
      let v : Out = Out_done p.id (length p.source) in
      let turn = sender_turn d k w within (granted d (command.Poll s) (turns r s zero) q) in
      let a : Answered p (sight.lost (view d1)) k n (view d).next_ref v Plain = subst (λ (y : sight.Desk).
      Answered p y k n (view d).next_ref v Plain) (sym turn) (sent_last p (sight.lost (view d)) k w.waits within short) in
      let t1 = next_tasks p.sender s w.tasks (sender_polled d w.tasks) in
      let less : n < p.room = omega arith in
      let all : k + n ≡ length p.source = omega arith in
      let eq = receiver_turn d1 k n (view d).next_ref v Plain a t1 (λ z. let y : Plain ≡ Acknowledge = z in (cc))
      (omega arith) (granted d1 (command.Poll r) [] (rest_granted d (command.Poll s) (turns r s zero) q)) in
      record {
        sent = sender_record a;
        came = subst (λ (y : sight.Desk). AllCame p y) (sym eq) (took_rest p (sight.lost (view d1)) k n
            (view d).next_ref v Plain a refl less all refl);
      }

  more_turns : (j : ℕ) (d : Desk) (k : ℕ) → AtFetch d k → k + j * p.room ≤ length p.source →
      length p.source < k + j * p.room + p.room → all_granted d (command.Poll s ∷ turns r s j) ≡ true →
      Ends (after d (command.Poll s ∷ turns_before r s j)) (after d (command.Poll s ∷ turns r s j))
  more_turns zero d k w le lt q = last_turn d k w (omega arith) (omega arith) q
  more_turns (suc j) d k w le lt q =
      let n : ℕ = p.room in
      let more : k + j * n + n ≤ length p.source = let z = suc_mul j n in omega arith in
      let less : length p.source < k + j * n + n + n = let z = suc_mul j n in omega arith in
      let within : k ≤ length p.source = omega arith in
      let d1 : Desk = (step d (command.Poll s)).0 in
      let d2 : Desk = (step d1 (command.Poll r)).0 in
      let v : Out = Open (outgoing_at p (k + n) (view d).next_ref) in
      let turn = sender_turn d k w within (granted d (command.Poll s) (turns r s (suc j)) q) in
      let a : Answered p (sight.lost (view d1)) k n (view d).next_ref v Recorded = subst (λ (y : sight.Desk).
      Answered p y k n (view d).next_ref v Recorded) (sym turn) (sent_full p (sight.lost (view d)) k w.waits within (omega arith)) in
      let t1 = next_tasks p.sender s w.tasks (sender_polled d w.tasks) in
      let q1 = rest_granted d (command.Poll s) (turns r s (suc j)) q in
      let eq = receiver_turn d1 k n (view d).next_ref v Recorded a t1 (λ z. let y : Recorded ≡ Acknowledge = z in (cc))
      (omega arith) (granted d1 (command.Poll r) (command.Poll s ∷ turns r s j) q1) in
      more_turns j d2 (k + n) (record {
        tasks = next_tasks p.receiver r t1 (receiver_polled d1 t1);
        waits = subst (λ (y : sight.Desk). Waiting p y (k + n)) (sym eq) (took_full p (sight.lost (view d1)) k n
            (view d).next_ref v Recorded a refl refl refl);
      }) (omega arith) (omega arith) (rest_granted d1 (command.Poll r) (command.Poll s ∷ turns r s j) q1)
    where
      suc_mul : (a b : ℕ) → suc a * b ≡ a * b + b
      suc_mul a b = grind arith

-- ---- what is told at the end

-- a record of a task
pub has_sent : (d : Desk) (h : ℕ) (v : Out) → Has v ((view d).sending h) →
    (t : Task) × (task_at h d ≡ Some t) × Has v t.sending
has_sent d h v = go (task_of h d.tasks) refl
  where
    go : (o : Option Task) → task_of h d.tasks ≡ o → Has v (of (λ (t : Task). t.sending) [] o) →
        (t : Task) × (task_at h d ≡ Some t) × Has v t.sending
    go None e q = absurd q
    go (Some t) e q = (t, e, q)

has_taken : (d : Desk) (h : ℕ) (w : Incoming) → Has w ((view d).taking h) →
    (t : Task) × (task_at h d ≡ Some t) × Has w t.taking
has_taken d h w = go (task_of h d.tasks) refl
  where
    go : (o : Option Task) → task_of h d.tasks ≡ o → Has w (of (λ (t : Task). t.taking) [] o) →
        (t : Task) × (task_at h d ≡ Some t) × Has w t.taking
    go None e q = absurd q
    go (Some t) e q = (t, e, q)

pub sender_done : (d : Desk) (h id : ℕ) (source : List ℕ) → Has (Out_done id (length source)) ((view d).sending h) →
    SenderDone d h id source
sender_done d h id source q =
    let w = has_sent d h (Out_done id (length source)) q in
    record { task = w.0; is = w.1; sends = contains_of w.0.sending (Out_done id (length source)) w.2 }

pub receiver_done : (d : Desk) (h id anchor : ℕ) (source : List ℕ) →
    Has (In_done id anchor (length source)) ((view d).taking h) → (view d).block h anchor ≡ Some source →
    ReceiverDone d h id source
receiver_done d h id anchor source has there =
    let w = has_taken d h (In_done id anchor (length source)) has in
    record {
      task = w.0;
      is = w.1;
      anchor = anchor;
      takes = contains_of w.0.taking (In_done id anchor (length source)) w.2;
      document = sym (block_is w.0.slot anchor) ∙ sym (ap (λ (g : ℕ → Option (List ℕ)). g anchor)
          (field_is (λ (y : Task). blocks_of y.slot) (λ a. None) h d.tasks w.0 w.1)) ∙ there;
    }

-- ---- the save and the first poll

-- nobody holds a message
pub none_seated : (h : ℕ) (seats : List Seat) → AllByRecursion (λ (seat : Seat). seat.holds ≡ None) seats →
    held_by h seats ≡ None
none_seated h [] all = refl
none_seated h (seat ∷ seats) all = either (λ (o : Option Parcel). o ≡ None) (seat.handle == h) seat.holds
    (held_by h seats) (λ e. all.0) (λ e. none_seated h seats all.1)

-- both tasks are ready
can_be_ready : {o : Offered} {e : Edits} (R : Gave) (d : Desk) (s r : List ℕ) (k : ℕ) (t u : Task) (source : List ℕ) →
    Fits d → Good o e (masked R (view d)) → CanAlternate d s r k t u source →
    Ready (sight.lost (view d)) t.handle u.handle k source
can_be_ready R d s r k t u source f g c =
    let empty : (view d).queue ≡ [] = ap (map seen_parcel) c.queue in
    let ordered : List Message → Type 0 = λ q. Order q (view d).sending (view d).taking (view d).next_ref in
    let is_t : task_of t.handle d.tasks ≡ Some t = found_task (has_name s) d.tasks t f.handles c.sender_is in
    let is_u : task_of u.handle d.tasks ≡ Some u = found_task (has_name r) d.tasks u f.handles c.receiver_is in
    record {
      queue = empty;
      held = λ h. ap (option_map seen_parcel) (none_seated h d.post.seats c.held);
      closed = ap (list_any is_open) (field_is (λ (y : Task). y.sending) [] t.handle d.tasks t is_t) ∙ c.closed;
      idle = ap (list_any is_going) (field_is (λ (y : Task). y.taking) [] u.handle d.tasks u is_u) ∙ c.idle;
      block = ap (λ (m : ℕ → Option (List ℕ)). m k) (field_is (λ (y : Task). blocks_of y.slot) (λ a. None) t.handle
          d.tasks t is_t) ∙ block_is t.slot k ∙ c.block;
      fetches = field_is (λ (y : Task). answers_none y.manner) false t.handle d.tasks t is_t ∙ c.answers;
      some = g.inv.ins.room u.handle;
      order = subst ordered (sym empty) (subst ordered (ap (map (masked_message R)) empty) g.inv.order);
    }

-- a save that was accepted, and polls that are refused nothing
record IsSavedFor (d : Desk) (s r : List ℕ) (k : ℕ) (leaf : List ℕ) (t u : Task) (source : List ℕ)
    (id : ℕ) : Type 0 where
  pub valid : in_range (command.Save s k r leaf) ≡ true
  pub can : CanAlternate d s r k t u source
  pub plays : is_raw u.manner ≡ false
  pub accepted : (step d (command.Save s k r leaf)).1 ≡ reply.Sent id
  pub all : all_granted (step d (command.Save s k r leaf)).0 (turns r s (suc (length source / u.buffer))) ≡ true

pub save_names : (s : List ℕ) (k : ℕ) (r leaf : List ℕ) → in_range (command.Save s k r leaf) ≡ true →
    (is_name s ≡ true) × (is_name r ≡ true)
unfolding in_range
save_names s k r leaf q = both (is_name s) _ (is_name r) (is_leaf leaf) q
  where
    both : (a b c e : Bool) → (a && b && c && e) ≡ true → (a ≡ true) × (c ≡ true)
    both true true true e q = (refl, refl)
    both true true false e q = absurd cc
    both true false c e q = absurd cc
    both false b c e q = absurd cc

module _ (d : Desk) (w : IsReached d) (s r : List ℕ) (k : ℕ) (leaf : List ℕ) (t u : Task) (source : List ℕ) (id : ℕ)
    (c : IsSavedFor d s r k leaf t u source id) where
  abbrev hs : ℕ
  hs = t.handle

  abbrev hr : ℕ
  hr = u.handle

  abbrev save : Command
  save = command.Save s k r leaf

  abbrev j : ℕ
  j = length source / u.buffer

  abbrev d0 : Desk
  d0 = (step d save).0

  abbrev D : sight.Desk
  D = sight.lost (view d)

  fitting : Fits d
  fitting = fits d w.kept

  ready : Ready D hs hr k source
  ready = can_be_ready w.gave d s r k t u source fitting w.stands.good c.can

  saved_is : IsSaved d d0 t hr k id
  saved_is = save_step d s k r leaf t u id fitting c.can.sender_is c.can.receiver_is c.accepted

  seen0 : sight.lost (view d0) ≡ sight.saved D hs k hr
  seen0 = ap sight.lost saved_is.seen

  tasks0 : Tasks s r hs hr d0
  tasks0 = record {
    kept = step-keeps d save c.valid w.kept;
    plays_sender = ap (raw_in hs) saved_is.keys ∙ sym (raw_is hs d.tasks) ∙ field_is (λ (y : Task). is_raw y.manner) false hs d.tasks t
        (found_task (has_name s) d.tasks t fitting.handles c.can.sender_is) ∙ saved_is.plays;
    plays_receiver = ap (raw_in hr) saved_is.keys ∙ sym (raw_is hr d.tasks) ∙ field_is (λ (y : Task). is_raw y.manner) false hr d.tasks u
        (found_task (has_name r) d.tasks u fitting.handles c.can.receiver_is) ∙ c.plays;
    valid_sender = (save_names s k r leaf c.valid).0;
    valid_receiver = (save_names s k r leaf c.valid).1;
    sender = ap (named_in s) saved_is.keys ∙ sym (handle_named s d.tasks) ∙ ap (option_map (λ (y : Task). y.handle))
        c.can.sender_is;
    receiver = ap (named_in r) saved_is.keys ∙ sym (handle_named r d.tasks) ∙ ap (option_map (λ (y : Task). y.handle))
        c.can.receiver_is;
  }

  first : IsPolled d0 hr (step d0 (command.Poll r))
  first = is_polled d0 r hr tasks0.kept tasks0.valid_receiver tasks0.receiver

  abbrev d1 : Desk
  d1 = (step d0 (command.Poll r)).0

  -- the offer is taken
  began : Began (sight.picked (sight.saved D hs k hr) hr (offer D hs hr k) Recorded) hr (offer D hs hr k).letter
      (sight.lost (view d1))
  began =
      let m = offer D hs hr k in
      let none = ap (λ (y : sight.Desk). y.held hr) seen0 ∙ none_held D hs hr k source ready hr in
      let queue = ap (λ (y : sight.Desk). y.queue) seen0 ∙ offer_queued D hs hr k source ready in
      subst (λ (y : sight.Desk). Began (sight.picked y hr m Recorded) hr m.letter (sight.lost (view d1))) seen0
      (save_turn d0 hr m (step d0 (command.Poll r)) (first.turn m refl tasks0.plays_receiver none queue refl) (granted d0 (command.Poll r)
      (command.Poll s ∷ turns r s j) c.all) (λ z. let y : Recorded ≡ Acknowledge = z in (cc)) refl)

  abbrev p : Pair
  p = pair_of D hs hr k source began.anchor began.address began.raw

  room_is : p.room ≡ u.buffer
  room_is = field_is (λ (y : Task). y.buffer) 1 hr d.tasks u (found_task (has_name r) d.tasks u fitting.handles
      c.can.receiver_is)

  ends : Ends s r p (after d1 (command.Poll s ∷ turns_before r s j))
      (after d1 (command.Poll s ∷ turns r s j))
  ends =
      let some : 0 < u.buffer = subst (λ n. 0 < n) room_is ready.some in
      let size = room_is in
      let same : j * p.room ≡ j * u.buffer = ap (λ n. j * n) room_is in
      more_turns s r p j d1 0 (record {
        tasks = next_tasks hr r tasks0 first;
        waits = took_first D hs hr k source ready (sight.lost (view d1)) began;
      }) (omega arith) (omega arith) (rest_granted d0 (command.Poll r) (command.Poll s ∷ turns r s j) c.all)

  done : EndsDone d0 s r (suc j) hs hr id source
  done = subst (λ i. EndsDone d0 s r (suc j) hs hr i source) saved_is.ref (record {
    before = sender_done _ hs p.id source ends.sent;
    sends = sender_done _ hs p.id source ends.came.sends;
    takes = receiver_done _ hr p.id p.document p.source ends.came.takes ends.came.document;
  })

pub alternates : (d : Desk) → IsReached d → Alternates d
alternates d w s r k leaf t u source id plays valid can accepted all =
    let j : ℕ = length source / u.buffer in
    let d0 : Desk = (step d (command.Save s k r leaf)).0 in
    let one : suc j ≡ j + 1 = omega arith in
    subst (λ n. EndsDone d0 s r n t.handle u.handle id source) one (done d w s r k leaf t u source id (record {
      valid = valid;
      can = can;
      plays = plays;
      accepted = accepted;
      all = subst (λ (n : ℕ). all_granted d0 (turns r s n) ≡ true) (sym one) all;
    }))
