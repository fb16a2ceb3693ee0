-- A poll that takes the one message of the post, and what is seen of the desk once it was dealt with.
use Rattle.rh_safety.proofs.Common.{◌≡◌, ℕ, ◌≤◌, Bool, true, false, List, [], ◌∷◌, length, Option, Some, None, refl, sym, ap, ◌∙◌, subst, inl, inr, ◌+◌}
use Rattle.rh_safety.proofs.Common.{if◌then◌else◌, nat_lt, option_map, Body, EventCode, User, Recorded, Acknowledge, Sending, Taking, Incoming, Parcel}
use Rattle.rh_safety.proofs.Common.{Scrap, put_same, FoundActive, active_is, drains, fetches, inr, not, open_is, same_value, ◌&&◌, action_of, Post, Desk, Task}
use Rattle.rh_safety.proofs.Common.{with_delivered, Handled, open_of, answers_none, Answer}
use Rattle.rh_safety.proofs.Common.{poll_taken, view, seen_parcel, task_of, Letter, Message, first_for, none_some, field_is}
use Rattle.rh_defs.specs.declared.message.Action.TheVariants as action
use Rattle.rh_defs.specs.declared.message.Body.TheVariants as body
use Rattle.rh_defs.specs.declared.reply.Outcome.TheVariants as outcome
use Rattle.rh_defs.specs.declared.transfer.Incoming.TheVariants as incoming
use Rattle.rh_defs.specs.Records.{active_of}
use Rattle.rh_defs.specs.Receiver as receiver
use Rattle.rh_defs.specs.Transfer as transfer
use Rattle.rh_defs.specs.Commands.{event}
use Rattle.rh_defs.specs.Desk.{kept_scrap}
use Rattle.rh_defs.specs.Post.{post_is_live}
use Rattle.rh_safety.proofs.Invariant.{rests}
use Rattle.rh_safety.proofs.SeenFiles.{seen_live}
use Rattle.rh_safety.specs.Alternation.{is_refusal, is_refused_poll}
use Rattle.rh_safety.proofs.Sight as sight
use Rattle.rh_defs.specs.AnyMessage.{as_read}
use Rattle.rh_defs.specs.RawTasks.{is_raw}
use Rattle.rh_safety.proofs.KeptPolls.{known_kind, read_same}
use Rattle.rh_safety.proofs.Raws.{is_known}
use Rattle.rh_safety.proofs.Arrivals.{Began}
use Rattle.rh_safety.proofs.Turns.{first_one}
use Rattle.rh_safety.proofs.SeenTaking.{IsTaken, lost_queue, picked_by}
use Rattle.rh_safety.proofs.SeenDocuments.{letter_of}
use Rattle.rh_safety.proofs.Acts.{Act, abandons, claims, drained, fails, gives_up, handled-acts, refused, sends, skips, takes_full, takes_last, takes_some}
use Rattle.rh_safety.proofs.Acts.{unanswered}
use Rattle.rh_safety.proofs.SeenActs.{claims_seen, fetch_in, gone, sends_seen, source_seen, taken_desk, takes_full_seen, takes_last_seen}

-- ---- the message that is taken

-- the scrap file of a recorded message stays when that is taken
abbrev pub KeepsFile : Desk → Desk → Parcel → Type 0
KeepsFile d e p = (file : Scrap) → d.scrap ≡ Some file → p.code ≡ Recorded → file.load ≡ p.message.my_ref →
    e.scrap ≡ Some file

-- A task takes the message, which is the only one, and deals with it. The scrap file is left out of what is seen, since it may
-- have gone with a message before, but for the file of a recorded message that is taken.
pub data Turn (d : Desk) : ℕ → Message → Answer → Type 0 where
  takes : (e : Desk) (t : Task) (p : Parcel) → task_of t.handle e.tasks ≡ Some t →
      sight.lost (view e) ≡ sight.picked (sight.lost (view d)) t.handle (seen_parcel p) p.code → KeepsFile d e p →
      Turn d t.handle (seen_parcel p) (event p (transfer.handled e t p p.code))

pub one_of : (o : Option Parcel) (m : Message) → option_map seen_parcel o ≡ Some m →
    (p : Parcel) × (o ≡ Some p) × (seen_parcel p ≡ m)
one_of None m q = absurd (none_some None refl q)
one_of (Some p) m q = (
  p,
  refl,
  let z : Option.Some (seen_parcel p) ≡ Some m = q in (let y : seen_parcel p ≡ m = cc in
      y),
)

pub lost_twice : (b : Bool) (d : sight.Desk) → sight.lost (sight.lost_if b d) ≡ sight.lost d
lost_twice true d = refl
lost_twice false d = refl

pub lost_picked : (d : sight.Desk) (h : ℕ) (m : Message) (c : EventCode) →
    sight.lost (sight.picked d h m c) ≡ sight.picked (sight.lost d) h m c
lost_picked d h m User = refl
lost_picked d h m _ = refl

module _ (d : Desk) (t : Task) (p : Post × Option Parcel) (w : IsTaken d t.handle p)
    (is : task_of t.handle d.tasks ≡ Some t) where
  abbrev here : ℕ
  here = t.handle

  abbrev left : Desk
  left = with_delivered p.0 d

  -- the poll of a task that holds nothing, where the post has one message for it
  pub turn_is : (m : Message) → is_known m.letter.kind ≡ true → is_raw t.manner ≡ false → (view d).held here ≡ None → (view d).queue ≡ m ∷ [] → m.to ≡ here →
      Turn d here m (poll_taken left t p.1)
  unfolding poll_taken with_delivered
  turn_is m known plays none queue to =
      let back = sight.returned (view d) here ((view d).held here) in
      let same : sight.lost_if w.lost back ≡ sight.lost_if w.lost (view d) = ap (λ (v : Option Message).
      sight.lost_if w.lost (sight.returned (view d) here v)) none in
      let first : option_map seen_parcel p.1 ≡ Some m = sym w.first ∙ ap (λ (y : sight.Desk). first_for here y.queue)
      same ∙ ap (first_for here) (lost_queue w.lost (view d) ∙ queue) ∙ first_one here m to in
      let o = one_of p.1 m first in
      let q : Parcel = o.0 in
      let seen : view left ≡ sight.picked (sight.lost_if w.lost (view d)) here (seen_parcel q) q.code = w.seen ∙
      ap (λ (v : Option Parcel). picked_by here (option_map seen_parcel v) (sight.lost_if w.lost back)) o.1 ∙
      ap (λ (y : sight.Desk). sight.picked y here (seen_parcel q) q.code) same in
      let taken : sight.lost (view left) ≡ sight.picked (sight.lost (view d)) here (seen_parcel q) q.code =
      ap sight.lost seen ∙ lost_picked (sight.lost_if w.lost (view d)) here (seen_parcel q) q.code ∙
      ap (λ (y : sight.Desk). sight.picked y here (seen_parcel q) q.code) (lost_twice w.lost (view d)) in
      let keeps : KeepsFile d left q = λ file there code load.
      let held : (view left).held here ≡ Some (seen_parcel q) = ap (λ (y : sight.Desk). y.held here)
      (taken ∙ ap (sight.picked (sight.lost (view d)) here (seen_parcel q)) code) ∙
      put_same (view d).held here (Some (seen_parcel q)) in
      let live : post_is_live file.load p.0 ≡ true = seen_live p.0 file.load (rests here (seen_parcel q) held
      (sym load)) in
      ap (kept_scrap p.0) there ∙ (rw live refl) in
      subst (λ (v : Option Parcel). Turn d here m (poll_taken left t v)) (sym o.1)
      (subst (λ (x : Message). Turn d here x (event (as_read q) (transfer.received left t (as_read q)))) o.2
      (subst (λ (z : Parcel). Turn d here (seen_parcel q) (event z (transfer.received left t z)))
      (sym (read_same q (known_kind q.message.body (ap (λ (y : Message). is_known y.letter.kind) o.2 ∙ known))))
      (subst (λ (b : Bool). Turn d here (seen_parcel q) (event q (if b then (left, outcome.Taken) else transfer.handled left t q q.code)))
      (sym plays) (takes left t q is taken keeps))))

  -- the poll of a task for which there is no message, even where one has gone back
  pub none_is : first_for here (sight.returned (view d) here ((view d).held here)).queue ≡ None →
      sight.lost (view (poll_taken left t p.1).0) ≡ sight.lost (sight.returned (view d) here ((view d).held here))
  unfolding poll_taken
  none_is none =
      let back = sight.returned (view d) here ((view d).held here) in
      let nothing = empty p.1 (sym w.first ∙ ap (first_for here) (lost_queue w.lost back) ∙ none) in
      let seen : view left ≡ sight.lost_if w.lost back = w.seen ∙ ap (λ (v : Option Parcel).
      picked_by here (option_map seen_parcel v) (sight.lost_if w.lost back)) nothing in
      subst (λ (v : Option Parcel). sight.lost (view (poll_taken left t v).0) ≡ sight.lost back) (sym nothing)
      (ap sight.lost seen ∙ lost_twice w.lost back)
    where
      empty : (o : Option Parcel) → option_map seen_parcel o ≡ None → o ≡ None
      empty None q = refl
      empty (Some m) q = absurd (none_some None refl (sym q))

-- a message that came
pub came_acts : (d : Desk) (t : Task) (p : Parcel) → (p.code ≡ Acknowledge → ⊥) → Act d t p false p.message.body (transfer.handled d t p p.code)
came_acts d t p came = by p.code came
  where
    by : (c : EventCode) → (c ≡ Acknowledge → ⊥) → Act d t p false p.message.body (transfer.handled d t p c)
    by User ne = handled-acts d t p User
    by Recorded ne = handled-acts d t p Recorded
    by Acknowledge ne = absurd (ne refl)

pub unlike : {A : Type 0} → false ≡ true → A
unlike e = absurd (let z : Bool.false ≡ true = e in (cc))

-- ---- a fetch

-- the record x of task h answers the fetch l from the source, into the buffer's old bytes
pub record Answers (d : sight.Desk) (h : ℕ) (l : Letter) (x : Sending) (source old : List ℕ) : Type 0 where
  pub fetches : d.file h ≡ false
  pub found : open_of (sight.would_answer l) (d.sending h) ≡ Some x
  pub there : d.block h x.anchor ≡ Some source
  pub buffer : d.heap x.recipient l.address ≡ Some old
  pub fits : l.amount ≤ length old

module _ (d : Desk) (t : Task) (m : Parcel) (is : task_of t.handle d.tasks ≡ Some t) where
  abbrev h : ℕ
  h = t.handle

  fetch_goes : (b : Body) {y : Handled} → Act d t m false b y → action_of b ≡ action.RamFetch → (x : Sending) (source old : List ℕ) →
      Answers (sight.lost (view d)) h (letter_of m b) x source old → is_refusal (action_of b) y.1 ≡ false →
      view y.0 ≡ gone (view d) h (sight.answer_of (letter_of m b) x) source old
  fetch_goes (body.RamFetch buffer n) a kind x source old w granted = by a granted
    where
      file : answers_none t.manner ≡ false
      file = sym (field_is (λ y. answers_none y.manner) false h d.tasks t is) ∙ w.fetches

      found : open_of (sight.would_answer (fetch_in m buffer n)) t.sending ≡ Some x
      found = ap (open_of (sight.would_answer (fetch_in m buffer n))) (sym (field_is (λ y. y.sending) [] h d.tasks t is)) ∙ w.found

      by : {y : Handled} → Act d t m false (body.RamFetch buffer n) y → is_refusal action.RamFetch y.1 ≡ false →
          view y.0 ≡ gone (view d) h (sight.answer_of (fetch_in m buffer n) x) source old
      by (skips none) ok =
          let z = open_is (sight.would_answer (fetch_in m buffer n)) t.sending x found in
          unlike (sym (none.open_ x z.0) ∙ rw file z.1)
      by (fails y o it why) ok = absurd (let z : is_refusal action.RamFetch (outcome.Refused why.0) ≡ false = subst
          (λ o. is_refusal action.RamFetch o ≡ false) why.1 ok in (cc))
      by (gives_up f o it why) ok = unlike it.passes
      by (abandons q o it why) ok = unlike it.passes
      by (sends y s r sent it z) ok =
          let same : y ≡ x = same_value (open_of (sight.would_answer (fetch_in m buffer n)) t.sending)
          (subst (λ c. open_of (λ u. not c && sight.would_answer (fetch_in m buffer n) u) t.sending ≡ Some y) file it.found) found in
          let bytes : s.here.bytes ≡ source = same_value ((view d).block h x.anchor)
          (ap (λ (u : Sending). (view d).block h u.anchor) (sym same) ∙ source_seen d t m is y s z.source_is) w.there in
          sends_seen d t m is buffer n y s r sent z (record {
            old = old;
            there = ap (λ (u : Sending). (view d).heap u.recipient buffer) same ∙ w.buffer;
            fits = w.fits;
          }) ∙ ap (λ u. gone (view d) h (sight.answer_of (fetch_in m buffer n) y) u old) bytes
          ∙ ap (λ u. gone (view d) h (sight.answer_of (fetch_in m buffer n) u) source old) same
  fetch_goes b a kind x source old w granted = absurd cc

pub fetch_turn : (d : Desk) (h : ℕ) (m : Message) (a : Answer) → Turn d h m a →
    is_refused_poll a.1 ≡ false → (m.code ≡ Acknowledge → ⊥) → m.letter.kind ≡ action.RamFetch → (x : Sending)
    (source old : List ℕ) → Answers (sight.picked (sight.lost (view d)) h m m.code) h m.letter x source old →
    sight.lost (view a.0) ≡ gone (sight.picked (sight.lost (view d)) h m m.code) h (sight.answer_of m.letter x) source old
fetch_turn d h m a (takes d2 t p is taken keeps) granted came kind x source old w =
    let l : Letter = (seen_parcel p).letter in
    ap sight.lost (fetch_goes d2 t p is p.message.body (came_acts d2 t p came) kind x source old
    (subst (λ (y : sight.Desk). Answers y t.handle l x source old) (sym taken) w) granted) ∙
    ap (λ (y : sight.Desk). gone y t.handle (sight.answer_of l x) source old) taken

-- ---- a transmit

-- the record of task h that takes the transmit
abbrev pub taker : sight.Desk → ℕ → Letter → Option Incoming
taker d h l = active_of (receiver.is_answer (d.buf h) l.from l.answers l.address l.amount) (d.taking h)

module _ (d : Desk) (t : Task) (m : Parcel) (is : task_of t.handle d.tasks ≡ Some t) where
  transmit_goes : (b : Body) {y : Handled} → Act d t m false b y → action_of b ≡ action.RamTransmit → (r : Taking) →
      taker (view d) t.handle (letter_of m b) ≡ Some (incoming.Fetching r) → is_refusal (action_of b) y.1 ≡ false →
      view y.0 ≡ taken_desk (view d) t.handle r (letter_of m b)
  transmit_goes (body.RamTransmit buffer n) a kind r taking granted = by a granted
    where
      l : Letter
      l = letter_of m (body.RamTransmit buffer n)

      test : Taking → Bool
      test = receiver.is_answer t.buffer m.message.from m.message.your_ref buffer n

      found : active_of test t.taking ≡ Some (incoming.Fetching r)
      found = ap (λ k. active_of (receiver.is_answer k m.message.from m.message.your_ref buffer n) t.taking)
          (sym (field_is (λ y. y.buffer) 1 t.handle d.tasks t is)) ∙
          ap (active_of (receiver.is_answer ((view d).buf t.handle) m.message.from m.message.your_ref buffer n))
          (sym (field_is (λ y. y.taking) [] t.handle d.tasks t is)) ∙ taking

      one : (f : Taking) → active_of test t.taking ≡ Some (incoming.Fetching f) → f ≡ r
      one f e = let z : incoming.Fetching f ≡ incoming.Fetching r = same_value (active_of test t.taking) e found in cc

      by : {y : Handled} → Act d t m false (body.RamTransmit buffer n) y → is_refusal action.RamTransmit y.1 ≡ false → view y.0 ≡ taken_desk
          (view d) t.handle r l
      by (skips none) ok = lacks (active_is test t.taking (incoming.Fetching r) found)
        where
          lacks : {A : Type 0} {w : Incoming} → FoundActive test t.taking w → A
          lacks (fetches f has e) = unlike (sym (none.active f (inl has)) ∙ e)
          lacks (drains f has e) = unlike (sym (none.active f (inr has)) ∙ e)
      by (fails y o it why) ok = unlike it.passes
      by (abandons q o it why) ok = unlike it.passes
      by (gives_up f o it (drained e)) ok =
          absurd (let z : incoming.Draining f ≡ incoming.Fetching r = same_value (active_of test t.taking) e found in (cc))
      by (gives_up f o it (refused s e)) ok =
          absurd (let z : is_refusal action.RamTransmit (outcome.Refused s) ≡ false = subst (λ o. is_refusal action.RamTransmit o ≡ false) e ok in (cc))
      by (gives_up f o it (unanswered e back some)) ok = unlike back
      by (takes_last f longer it e less) ok = takes_last_seen d t m is n f longer e buffer less ∙ ap (λ g. taken_desk (view d) t.handle g l) (one f it.found)
      by (takes_full f longer sent it e full s) ok =
          takes_full_seen d t m is n f longer e buffer sent full s ∙ ap (λ g. taken_desk (view d) t.handle g l) (one f it.found)
      by (takes_some f longer s it e) ok = absurd (let z : is_refusal action.RamTransmit (outcome.TookFailed n s) ≡ false = ok in (cc))
  transmit_goes b a kind r taking granted = absurd cc

  save_goes : (b : Body) {y : Handled} → Act d t m false b y → action_of b ≡ action.DataSave → is_refusal (action_of b) y.1 ≡ false →
      Began (view d) t.handle (letter_of m b) (view y.0)
  save_goes (body.DataSave file) (claims k c p sent few free claim alloc l) kind ok = claims_seen d t m is
      (body.DataSave file) k c p sent few free claim alloc l
  save_goes (body.DataSave file) (skips none) kind ok = absurd (let z : is_refusal action.DataSave outcome.Ignored ≡ false = ok in (cc))
  save_goes (body.DataSave file) (fails y o it why) kind ok = unlike it.passes
  save_goes (body.DataSave file) (abandons q o it why) kind ok = unlike it.passes
  save_goes (body.DataSave file) (gives_up f o it why) kind ok = unlike it.passes
  save_goes b a kind ok = absurd cc

lost_taken : (d : sight.Desk) (h : ℕ) (r : Taking) (l : Letter) →
    sight.lost (taken_desk d h r l) ≡ taken_desk (sight.lost d) h r l
lost_taken d h r l = go (nat_lt l.amount (d.buf h))
  where
    go : (c : Bool) →
        sight.lost (if c then sight.ended (sight.longer d h r l.amount) h r (incoming.Done r.id r.anchor
        (r.count + l.amount)) else sight.fetched (sight.longer d h r l.amount) h r l.amount l.me) ≡
        (let D = sight.longer (sight.lost d) h r l.amount in
        if c then sight.ended D h r (incoming.Done r.id r.anchor (r.count + l.amount)) else sight.fetched D h r
        l.amount l.me)
    go true = refl
    go false = refl

pub transmit_turn : (d : Desk) (h : ℕ) (m : Message) (a : Answer) → Turn d h m a → is_refused_poll a.1 ≡ false →
    (m.code ≡ Acknowledge → ⊥) → m.letter.kind ≡ action.RamTransmit → (r : Taking) →
    taker (sight.picked (sight.lost (view d)) h m m.code) h m.letter ≡ Some (incoming.Fetching r) →
    sight.lost (view a.0) ≡ taken_desk (sight.picked (sight.lost (view d)) h m m.code) h r m.letter
transmit_turn d h m a (takes d2 t p is taken keeps) granted came kind r found =
    let l : Letter = (seen_parcel p).letter in
    ap sight.lost (transmit_goes d2 t p is p.message.body (came_acts d2 t p came) kind r (ap (λ (y : sight.Desk). taker y t.handle l) taken ∙ found) granted) ∙
    lost_taken (view d2) t.handle r l ∙ ap (λ (y : sight.Desk). taken_desk y t.handle r l) taken

-- ---- a DataSave

pub save_turn : (d : Desk) (h : ℕ) (m : Message) (a : Answer) → Turn d h m a → is_refused_poll a.1 ≡ false →
    (m.code ≡ Acknowledge → ⊥) → m.letter.kind ≡ action.DataSave →
    Began (sight.picked (sight.lost (view d)) h m m.code) h m.letter (sight.lost (view a.0))
save_turn d h m a (takes d2 t p is taken keeps) granted came kind =
    let w = save_goes d2 t p is p.message.body (came_acts d2 t p came) kind granted in
    subst (λ (y : sight.Desk). Began y t.handle (seen_parcel p).letter (sight.lost (view (transfer.handled d2 t p p.code).0))) taken (record {
      anchor = w.anchor;
      address = w.address;
      bytes = w.bytes;
      raw = w.raw;
      free_anchor = w.free_anchor;
      free_address = w.free_address;
      size = w.size;
      few = w.few;
      seen = ap sight.lost w.seen;
    })
