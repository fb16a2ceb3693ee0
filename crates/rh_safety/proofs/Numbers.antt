-- The numbers that are answered go up, since each is the desk's next one, and the next one goes up by one.
use Rattle.rh_safety.proofs.Common.{◌≡◌, ℕ, ◌+◌, ◌≤◌, true, refl, sym, subst, ◌∙◌, arith, List, [], ◌∷◌, ◌++◌, length, Option, Some, None, Ok, ◌==◌, not}
use Rattle.rh_safety.proofs.Common.{filter, Command, Manner, Body, EventCode, User, Recorded, Acknowledge, Refusal, Outcome, Reply, Asked, Incoming, Sending}
use Rattle.rh_safety.proofs.Common.{Taking, Split, Heap, Flex, Slot, Parcel, is_recorded, Post, Seat, answers_held, held_by, has_seat, bounced, bounce_held}
use Rattle.rh_safety.proofs.Common.{bounce_all, without_block, taken_from, queued_in, put_down, post_join, post_send, post_poll, post_death, Desk, Task}
use Rattle.rh_safety.proofs.Common.{Scrap, next_ref, free_pages, with_slot, with_task, with_delivered, send_letter, Handled, Transmit, SaveFile, SendAction}
use Rattle.rh_safety.proofs.Common.{Claim, Append, Fetch, Next, LoadFile, TakeAction, transmit, save_scrap, send_with, perform_send, fail_sending}
use Rattle.rh_safety.proofs.Common.{taking_ended, accept, appended, fetch_more, took, append, ask, ack_back, loaded, load_file, take_with, perform_take}
use Rattle.rh_safety.proofs.Common.{delivered, bounced_to, handled, Answer, start_task, kill, make, save, repeat, poll, poll_taken, cancel_in, cancel_out, step}
use Rattle.rh_safety.proofs.Common.{after, start_with, Always, OnGrant, granted, granted-then, granted-with, granted-past, or_else-keeps, chosen}
use Rattle.rh_defs.specs.declared.command.Command.TheVariants as command
use Rattle.rh_defs.specs.declared.message.Body.TheVariants.{DataSave, DataSaveAck, DataLoad, DataLoadAck, Other, RamFetch, RamTransmit}
use Rattle.rh_defs.specs.declared.message.Letter.{Letter}
use Rattle.rh_defs.specs.declared.reply.Outcome.TheVariants as outcome
use Rattle.rh_defs.specs.declared.reply.Reply.TheVariants as reply
use Rattle.rh_defs.specs.declared.transfer_action.SendAction.TheVariants as send_action
use Rattle.rh_defs.specs.declared.transfer_action.TakeAction.TheVariants as take_action
use Rattle.rh_defs.specs.declared.transfer_action.Next.TheVariants as next
use Rattle.rh_defs.specs.declared.transfer_action.Ending.{Ending}
use Rattle.rh_defs.specs.declared.transfer_action.Ending.TheVariants as ending
use Rattle.rh_defs.specs.Sender.{transfer_of}
use Rattle.rh_defs.specs.Post.{first_for}
use Rattle.rh_defs.specs.Desk.{with_module}
use Rattle.rh_defs.specs.OutgoingEvents.{refused as failed_by}
use Rattle.rh_defs.specs.IncomingEvents.{outcome_of_end}
use Rattle.rh_defs.specs.AnyMessage.{as_read}
use Rattle.rh_defs.specs.Commands.{change, with_released}
use Rattle.rh_defs.specs.RawCommands.{ack, after_answer, send, spool, transfer}
use Rattle.rh_defs.specs.RawTasks.{is_raw}
use Rattle.rh_defs.specs.Transfer.{received}
use Rattle.rh_defs.specs.declared.raw_command.RawCommand.TheVariants as raw
use Rattle.rh_safety.proofs.Common.{Bool, with_taking}
use Rattle.rh_defs.proofs.Chains.{granted-both}
use Rattle.rh_safety.proofs.LiveRefs.{OneEach, live_with, own-refs, no_more-one, posted-one, put_down-one, join-one, poll-fewer, death-fewer}
use Rattle.rh_defs.proofs.Changes.{Changed, IsOnMemory, in_areas, in_made, in_module, in_nothing, in_slot}
use Rattle.rh_defs.proofs.QuestionLaws.{is_quiet}
use Rattle.rh_defs.proofs.Steps.{granted-on}
use Rattle.rh_safety.specs.Refs.{HaveOwnRefs}
use Rattle.rh_safety.specs.Numbers.{GoUp, NumbersGoUp, handles_in, refs_in, refs_of_outcome, areas_in}
use Rattle.rh_safety.proofs.Acts.{any-grant}

-- ---- numbers that go up

go-up-from : (a b c : ℕ) (ns : List ℕ) → a ≤ b → GoUp b c ns → GoUp a c ns
go-up-from a b c [] low up = omega (arith, up)
go-up-from a b c (n ∷ ns) low up = (omega (arith, up.0), up.1)

go-up-join : (a b c : ℕ) (ms ns : List ℕ) → GoUp a b ms → GoUp b c ns → GoUp a c (ms ++ ns)
go-up-join a b c [] ns first rest = go-up-from a b c ns first rest
go-up-join a b c (m ∷ ms) ns first rest = (first.0, go-up-join (m + 1) b c ms ns first.1 rest)

none-of : (a b : ℕ) → b ≡ a → GoUp a b []
none-of a b e = omega (arith, e)

one-of : (a b : ℕ) → b ≡ a + 1 → GoUp a b (a ∷ [])
one-of a b e = (omega arith, omega (arith, e))

-- ---- posts

bounced-ref : (p : Parcel) (post : Post) → (bounced p post).next_ref ≡ post.next_ref
bounced-ref p post = chosen (λ (x : Post). x.next_ref ≡ post.next_ref) (has_seat p.message.from post.seats) _ _ refl refl

bounce_held-ref : (h : ℕ) (o : Option Parcel) (post : Post) → (bounce_held h o post).next_ref ≡ post.next_ref
bounce_held-ref h None post = refl
bounce_held-ref h (Some p) post = bounced-ref p _

bounce_all-ref : (queue : List Parcel) (post : Post) → (bounce_all queue post).next_ref ≡ post.next_ref
bounce_all-ref [] post = refl
bounce_all-ref (p ∷ queue) post =
    bounce_all-ref queue _
    ∙ chosen (λ (x : Post). x.next_ref ≡ post.next_ref) (is_recorded p.code) (bounced p post) (without_block p post) (bounced-ref p post) refl

taken_from-ref : (h : ℕ) (o : Option (Parcel × List Parcel)) (post : Post) → (taken_from h o post).0.next_ref ≡ post.next_ref
taken_from-ref h None post = refl
taken_from-ref h (Some t) post = chosen (λ (x : Post). x.next_ref ≡ post.next_ref) (is_recorded t.0.code) _ _ refl refl

pub post_poll-ref : (h : ℕ) (post : Post) → (post_poll h post).0.next_ref ≡ post.next_ref
unfolding post_poll
post_poll-ref h post =
    let between : Post = bounce_held h (held_by h post.seats) post in
    taken_from-ref h (first_for h between.queued) between ∙ bounce_held-ref h (held_by h post.seats) post

post_death-ref : (h : ℕ) (post : Post) → (post_death h post).next_ref ≡ post.next_ref
unfolding post_death
post_death-ref h post =
    let rest : Post = record post {
      seats = filter (λ (s : Seat). not (s.handle == h)) post.seats;
      queued = filter (λ (p : Parcel). not (p.to == h)) post.queued;
    } in
    bounce_all-ref (filter (λ (p : Parcel). p.to == h) post.queued) (bounce_held h (held_by h post.seats) rest)
    ∙ bounce_held-ref h (held_by h post.seats) rest

-- a letter that is sent gets the next ref, and its message is the only live one of that ref
record IsSent (post : Post) (sent : Post × ℕ) : Type 0 where
  next : sent.0.next_ref ≡ post.next_ref + 1
  mail : OneEach post → OneEach sent.0

post_send-ref : (room : ℕ) (l : Letter) (post : Post) → OnGrant (IsSent post) (post_send room l post)
unfolding post_send
post_send-ref room l post =
    granted-both _ (any-grant _) λ x u. granted-then _ _ λ there e.
    granted (record {
      next = chosen (λ (x : Post). x.next_ref ≡ post.next_ref + 1) (answers_held l.your_ref (held_by l.from post.seats))
          (put_down l.from (queued_in l there post)) (queued_in l there post) refl refl;
      mail = posted-one l there post;
    })

-- ---- desks

-- where the live messages had different refs, they still have
abbrev pub StillDiffer : Desk → Desk → Type 0
StillDiffer d e = OneEach d.post → OneEach e.post

same-mail : {post : Post} → OneEach post → OneEach post
same-mail is = is

less-mail : {old new : Post} → new.next_ref ≡ old.next_ref → ((ref : ℕ) → live_with ref new ≤ live_with ref old) →
    OneEach old → OneEach new
less-mail next fewer = no_more-one (record { fewer = fewer; next = next })

module-mail : (h : Heap) (d : Desk) → StillDiffer d (with_module h d)
module-mail h d = less-mail refl (λ ref. omega arith)

-- nothing was given
record Stands (d e : Desk) : Type 0 where
  handle : e.next_handle ≡ d.next_handle
  ref : next_ref e ≡ next_ref d
  area : e.next_area ≡ d.next_area
  mail : StillDiffer d e

stands : {d e : Desk} → e.next_handle ≡ d.next_handle → next_ref e ≡ next_ref d → e.next_area ≡ d.next_area → StillDiffer d e →
    Stands d e
stands h r a m = record { handle = h; ref = r; area = a; mail = m }

-- one ref was given
record SentOne (d e : Desk) : Type 0 where
  handle : e.next_handle ≡ d.next_handle
  ref : next_ref e ≡ next_ref d + 1
  area : e.next_area ≡ d.next_area
  mail : StillDiffer d e

send_letter-one : (l : Letter) (d : Desk) → OnGrant (SentOne d) (send_letter l d)
unfolding send_letter with_task
send_letter-one l d =
    granted-with _ (post_send-ref (free_pages d) l d.post) λ sent one.
    granted (record { handle = refl; ref = one.next; area = refl; mail = one.mail })

-- ---- messages

-- the refs that were given are those of the outcome
record Marks (d : Desk) (h : Handled) : Type 0 where
  handle : h.0.next_handle ≡ d.next_handle
  refs : GoUp (next_ref d) (next_ref h.0) (refs_of_outcome h.1)
  area : h.0.next_area ≡ d.next_area
  mail : StillDiffer d h.0

quiet : {d e : Desk} {o : Outcome} → Stands d e → refs_of_outcome o ≡ [] → Marks d (e, o)
quiet {d} {e} {o} s none = record {
  handle = s.handle;
  refs = subst (GoUp (next_ref d) (next_ref e)) (sym none) (none-of (next_ref d) (next_ref e) s.ref);
  area = s.area;
  mail = s.mail;
}

-- a message more, whose ref is told
tells : {d sent e : Desk} {o : Outcome} → SentOne d sent → Stands sent e → refs_of_outcome o ≡ next_ref d ∷ [] → Marks d (e, o)
tells {d} {sent} {e} {o} one s outcome_of_end = record {
  handle = s.handle ∙ one.handle;
  refs = subst (GoUp (next_ref d) (next_ref e)) (sym outcome_of_end) (one-of (next_ref d) (next_ref e) (s.ref ∙ one.ref));
  area = s.area ∙ one.area;
  mail = λ is. s.mail (one.mail is);
}

-- a message more, whose ref isn't told
hides : {d sent e : Desk} {o : Outcome} → SentOne d sent → Stands sent e → refs_of_outcome o ≡ [] → Marks d (e, o)
hides {d} {sent} {e} {o} one s none = record {
  handle = s.handle ∙ one.handle;
  refs = subst (GoUp (next_ref d) (next_ref e)) (sym none) (omega (arith, one.ref, s.ref));
  area = s.area ∙ one.area;
  mail = λ is. s.mail (one.mail is);
}

past : {d e : Desk} {h : Handled} → Stands d e → Marks e h → Marks d h
past {d} {e} {h} s m = record {
  handle = m.handle ∙ s.handle;
  refs = subst (λ r. GoUp r (next_ref h.0) (refs_of_outcome h.1)) s.ref m.refs;
  area = m.area ∙ s.area;
  mail = λ is. m.mail (s.mail is);
}

-- a transfer that ends early tells no ref
ending-quiet : (e : Ending) → refs_of_outcome (outcome_of_end e) ≡ []
ending-quiet ending.Drained = refl
ending-quiet _ = refl

module _ (d : Desk) (t : Task) where
  ignored-marks : Marks d (d, outcome.Ignored)
  ignored-marks = quiet (stands refl refl refl same-mail) refl

  failed-marks : (x : Sending) (refusal : Refusal) → Marks d (failed_by d t x refusal)
  unfolding with_task
  failed-marks x refusal = quiet (stands refl refl refl same-mail) refl

  fail_sending-marks : (o : Option Sending) → Marks d (fail_sending d t o)
  unfolding fail_sending with_task
  fail_sending-marks None = ignored-marks
  fail_sending-marks (Some x) = quiet (stands refl refl refl same-mail) refl

  transmit-marks : (a : Transmit) (source : Split Flex) → OnGrant (Marks d) (transmit d t a source)
  unfolding transmit with_task
  transmit-marks a source =
      granted-then _ _ λ r live. granted-past _ _ _ λ reach. granted-with _ (send_letter-one _ d) λ sent one.
      granted (tells one (stands refl refl refl same-mail) refl)

  save_scrap-marks : (a : SaveFile) (source : Split Flex) → OnGrant (Marks d) (save_scrap d t a source)
  unfolding save_scrap with_task
  save_scrap-marks a source =
      granted-past _ _ _ λ busy. granted-both _ (any-grant _) λ y u. granted-past _ _ _ λ room. granted-with _ (send_letter-one _ _) λ sent one.
      granted (tells {sent = sent} (record { handle = one.handle; ref = one.ref; area = one.area; mail = one.mail }) (stands refl refl refl same-mail) refl)

  send_with-marks : (a : SendAction) (source : Split Flex) → OnGrant (Marks d) (send_with d t a source)
  unfolding send_with with_task
  send_with-marks (send_action.Transmit a) source = transmit-marks a source
  send_with-marks (send_action.SaveFile a) source = save_scrap-marks a source
  send_with-marks (send_action.Finish x) source = granted (quiet (stands refl refl refl same-mail) refl)

  perform_send-marks : (o : Option SendAction) → Marks d (perform_send d t o)
  unfolding perform_send
  perform_send-marks None = ignored-marks
  perform_send-marks (Some a) =
      or_else-keeps (Marks d) _ (granted-then _ _ λ source found. send_with-marks a source) (failed-marks (transfer_of a))

  accept-marks : (a : Claim) → OnGrant (Marks d) (accept d t a)
  unfolding accept with_task
  accept-marks a =
      granted-then _ _ λ k free. granted-then _ _ λ b claimed. granted-then _ _ λ p there. granted-with _ (send_letter-one _ _) λ sent one.
      granted (tells {sent = sent} (record { handle = one.handle; ref = one.ref; area = one.area; mail = one.mail }) (stands refl refl refl same-mail) refl)

  appended-stands : (k : ℕ) (bytes : List ℕ) → OnGrant (Stands d) (appended d t k bytes)
  unfolding appended with_task
  appended-stands k bytes =
      granted-then _ _ λ document found. granted-then _ _ λ longer e. granted-then _ _ λ s f. granted (stands refl refl refl same-mail)

  -- a transfer ended
  ended-marks : (f : Taking) (edit : List Incoming → List Incoming) (o : Outcome) → refs_of_outcome o ≡ [] → Marks d (taking_ended t.handle f edit d, o)
  unfolding taking_ended with_task
  ended-marks f edit o none = quiet (stands refl refl refl same-mail) none

  fetch_more-marks : (a : Append) (b : Fetch) → OnGrant (Marks d) (fetch_more d t a b)
  unfolding fetch_more with_task
  fetch_more-marks a b = granted-with _ (send_letter-one _ d) λ sent one. granted (tells one (stands refl refl refl same-mail) refl)

  took-marks : (a : Append) (b : Next) → Marks d (took d t a b)
  unfolding took
  took-marks a next.Finish = ended-marks a.transfer _ _ refl
  took-marks a (next.Fetch b) = or_else-keeps (Marks d) _ (fetch_more-marks a b) (λ refusal. ended-marks a.transfer _ _ refl)

  ask-marks : (f : Taking) → OnGrant (Marks d) (ask d t f)
  unfolding ask taking_ended with_task
  ask-marks f = granted-with _ (send_letter-one _ d) λ sent one. granted (tells one (stands refl refl refl same-mail) refl)

  ack_back-marks : (o : Option Asked) → Marks d (ack_back d t o)
  unfolding ack_back with_task
  ack_back-marks None = ignored-marks
  ack_back-marks (Some q) = quiet (stands refl refl refl same-mail) refl

  loaded-marks : (a : LoadFile) (n : ℕ) → Marks d (loaded d t a n)
  unfolding loaded with_task
  loaded-marks a n =
      or_else-keeps (Marks d) _ (granted-with _ (send_letter-one _ d) λ sent one. granted (hides one (stands refl refl refl same-mail) refl))
      (λ refusal. quiet (stands refl refl refl same-mail) refl)

module _ (d : Desk) (t : Task) where
  append-marks : (a : Append) → Marks d (append d t a)
  unfolding append
  append-marks a =
      or_else-keeps (Marks d) _
      (granted-with _ (appended-stands d t a.transfer.anchor _) λ longer s. granted (past s (took-marks longer t a a.next)))
      (λ refusal. ended-marks d t a.transfer _ _ refl)

  load_file-marks : (a : LoadFile) (o : Option Scrap) → Marks d (load_file d t a o)
  unfolding load_file with_task
  load_file-marks a None = ignored-marks d t
  load_file-marks a (Some file) =
      chosen (Marks d) _ _ _
      (or_else-keeps (Marks d) _
      (granted-with _ (appended-stands d t a.transfer.anchor file.bytes) λ longer s.
      granted (past (stands s.handle s.ref s.area s.mail) (loaded-marks (record longer { scrap = None }) t a (length file.bytes))))
      (λ refusal. quiet (stands refl refl refl same-mail) refl))
      (ignored-marks d t)

  take_with-marks : (a : TakeAction) → Marks d (take_with d t a)
  unfolding take_with
  take_with-marks (take_action.Claim a) = or_else-keeps (Marks d) _ (accept-marks d t a) (λ refusal. ignored-marks d t)
  take_with-marks (take_action.Append a) = append-marks a
  take_with-marks (take_action.AskForFile f) = or_else-keeps (Marks d) _ (ask-marks d t f) (λ refusal. ended-marks d t f _ _ refl)
  take_with-marks (take_action.LoadFile a) = load_file-marks a d.scrap
  take_with-marks (take_action.Release a) = ended-marks d t a.transfer _ _ (ending-quiet a.ending)

  perform_take-marks : (o : Option TakeAction) → Marks d (perform_take d t o)
  unfolding perform_take
  perform_take-marks None = ignored-marks d t
  perform_take-marks (Some a) = take_with-marks a

  delivered-marks : (m : Parcel) (body : Body) → Marks d (delivered d t m body)
  unfolding delivered
  delivered-marks m (DataSave file) = perform_take-marks _
  delivered-marks m (DataSaveAck file) = perform_send-marks d t _
  delivered-marks m (DataLoad file) = perform_take-marks _
  delivered-marks m (DataLoadAck file) = perform_send-marks d t _
  delivered-marks m (RamFetch buffer amount) = chosen (Marks d) _ _ _ (ignored-marks d t) (perform_send-marks d t _)
  delivered-marks m (RamTransmit buffer n) = perform_take-marks _
  delivered-marks m (Other o) = ignored-marks d t

  bounced_to-marks : (m : Parcel) (body : Body) → Marks d (bounced_to d t m body)
  unfolding bounced_to
  bounced_to-marks m (DataSave file) = fail_sending-marks d t _
  bounced_to-marks m (DataSaveAck file) = ack_back-marks d t _
  bounced_to-marks m (DataLoad file) = fail_sending-marks d t _
  bounced_to-marks m (DataLoadAck file) = ignored-marks d t
  bounced_to-marks m (RamFetch buffer amount) = perform_take-marks _
  bounced_to-marks m (RamTransmit buffer n) = fail_sending-marks d t _
  bounced_to-marks m (Other o) = ignored-marks d t

  handled-marks : (m : Parcel) (code : EventCode) → Marks d (handled d t m code)
  unfolding handled
  handled-marks m User = delivered-marks m m.message.body
  handled-marks m Recorded = delivered-marks m m.message.body
  handled-marks m Acknowledge = bounced_to-marks m m.message.body

  -- a task with code of its own does nothing with it
  received-marks : (m : Parcel) → Marks d (received d t m)
  received-marks m = chosen (Marks d) (is_raw t.manner) (d, outcome.Taken) _ (quiet (stands refl refl refl same-mail) refl) (handled-marks m m.code)

-- ---- commands

-- the numbers that were given are those of the reply
record Counts (d : Desk) (a : Answer) : Type 0 where
  handles : GoUp d.next_handle a.0.next_handle (handles_in a.1)
  refs : GoUp (next_ref d) (next_ref a.0) (refs_in a.1)
  areas : GoUp d.next_area a.0.next_area (areas_in a.1)
  mail : StillDiffer d a.0

silent : {d e : Desk} {said : Reply} → Stands d e → handles_in said ≡ [] → refs_in said ≡ [] → areas_in said ≡ [] → Counts d (e, said)
silent {d} {e} {said} s h r a = record {
  handles = subst (GoUp d.next_handle e.next_handle) (sym h) (none-of d.next_handle e.next_handle s.handle);
  refs = subst (GoUp (next_ref d) (next_ref e)) (sym r) (none-of (next_ref d) (next_ref e) s.ref);
  areas = subst (GoUp d.next_area e.next_area) (sym a) (none-of d.next_area e.next_area s.area);
  mail = s.mail;
}

-- a quiet reply gives no number
quiet-gives : (said : Reply) → is_quiet said ≡ true → (handles_in said ≡ []) × (refs_in said ≡ []) × (areas_in said ≡ [])
quiet-gives (reply.Started handle) quiet = absurd cc
quiet-gives (reply.Sent ref) quiet = absurd cc
quiet-gives (reply.Event code action mine yours outcome) quiet = absurd cc
quiet-gives (reply.Made number) quiet = absurd cc
quiet-gives said quiet = (refl, refl, refl)

silent-as : {d e : Desk} {said : Reply} → Stands d e → is_quiet said ≡ true → Counts d (e, said)
silent-as {said = said} s quiet = let gives = quiet-gives said quiet in silent s gives.0 gives.1 gives.2

-- a message that was sent
sent-counts : {d sent e : Desk} → SentOne d sent → Stands sent e → Counts d (e, reply.Sent (next_ref d))
sent-counts {d} {sent} {e} one s = record {
  handles = none-of d.next_handle e.next_handle (s.handle ∙ one.handle);
  refs = one-of (next_ref d) (next_ref e) (s.ref ∙ one.ref);
  areas = none-of d.next_area e.next_area (s.area ∙ one.area);
  mail = λ is. s.mail (one.mail is);
}

module _ (d : Desk) where
  still : {e : Desk} {said : Reply} → Stands d e → handles_in said ≡ [] → refs_in said ≡ [] → areas_in said ≡ [] → OnGrant (Counts d) (Ok (e, said))
  still s h r a = granted (silent s h r a)

  start_task-counts : (name : List ℕ) (buffer : ℕ) (manner : Manner) → OnGrant (Counts d) (start_task d name buffer manner)
  unfolding start_task post_join
  start_task-counts name buffer manner =
      granted-past _ _ _ λ a. granted-past _ _ _ λ b. granted-past _ _ _ λ c. granted-then _ _ λ s e.
      granted (record {
        handles = one-of d.next_handle (d.next_handle + 1) refl;
        refs = none-of (next_ref d) (next_ref d) refl;
        areas = none-of d.next_area d.next_area refl;
        mail = join-one d.next_handle d.post;
      })

  kill-counts : (name : List ℕ) → OnGrant (Counts d) (kill d name)
  unfolding kill with_delivered
  kill-counts name =
      granted-then _ _ λ t e.
      let next = post_death-ref t.handle d.post in
      still (stands refl next refl (less-mail next λ ref. death-fewer ref t.handle d.post)) refl refl refl

  slot-stands : (h : ℕ) (s : Slot) → Stands d (with_slot h s d)
  unfolding with_task
  slot-stands h s = stands refl refl refl same-mail

  save-counts : (name : List ℕ) (k : ℕ) (to leaf : List ℕ) → OnGrant (Counts d) (save d name k to leaf)
  unfolding save with_task
  save-counts name k to leaf =
      granted-then _ _ λ t e. granted-then _ _ λ b f. granted-past _ _ _ λ full. granted-then _ _ λ r g. granted-with _ (send_letter-one _ d) λ sent one.
      granted-past _ _ _ λ kind. granted (sent-counts one (stands refl refl refl same-mail))

  -- the scrap file kept or given up after a message
  answer-stands : (sent : Desk) → Stands sent (after_answer sent)
  unfolding with_delivered
  answer-stands sent = stands refl refl refl same-mail

  repeat-counts : (name : List ℕ) → OnGrant (Counts d) (repeat d name)
  unfolding repeat
  repeat-counts name =
      granted-then _ _ λ t e. granted-then _ _ λ last f. granted-with _ (send_letter-one _ d) λ sent one.
      granted (sent-counts one (chosen (Stands sent) (is_raw t.manner) _ _ (answer-stands sent) (stands refl refl refl same-mail)))

  released-stands : (h : ℕ) (o : Option Taking) (edit : List Incoming → List Incoming) → Stands d (with_taking h edit (with_released h o d))
  unfolding with_task
  released-stands h None edit = stands refl refl refl same-mail
  released-stands h (Some f) edit = stands refl refl refl same-mail

  cancel_in-counts : (name : List ℕ) (id : Option ℕ) → OnGrant (Counts d) (cancel_in d name id)
  unfolding cancel_in
  cancel_in-counts name id = granted-then _ _ λ t e. granted-then _ _ λ records f. still (released-stands t.handle _ _) refl refl refl

  cancel_out-counts : (name : List ℕ) (id : Option ℕ) → OnGrant (Counts d) (cancel_out d name id)
  unfolding cancel_out with_task
  cancel_out-counts name id = granted-then _ _ λ t e. granted-then _ _ λ records f. still (stands refl refl refl same-mail) refl refl refl

  make-counts : (most : ℕ) → OnGrant (Counts d) (make d most)
  unfolding make
  make-counts most =
      granted-past _ _ _ λ few. granted-past _ _ _ λ more.
      granted (record {
        handles = none-of d.next_handle d.next_handle refl;
        refs = none-of (next_ref d) (next_ref d) refl;
        areas = one-of d.next_area (d.next_area + 1) refl;
        mail = same-mail;
      })

  -- a message of a task with code of its own
  send-counts : (name : List ℕ) (recorded : Bool) (h ref a : ℕ) (bytes : List ℕ) → OnGrant (Counts d) (send d name recorded h ref a bytes)
  unfolding send
  send-counts name recorded h ref a bytes =
      granted-then _ _ λ t e. granted-with _ (send_letter-one _ d) λ sent one. granted-past _ _ _ λ kind. granted-past _ _ _ λ given.
      granted (sent-counts one (answer-stands sent))

  spool-counts : (name : List ℕ) (k h ref : ℕ) → OnGrant (Counts d) (spool d name k h ref)
  unfolding spool
  spool-counts name k h ref =
      granted-then _ _ λ t e. granted-then _ _ λ b f. granted-past _ _ _ λ busy. granted-both _ (any-grant _) λ y u. granted-past _ _ _ λ room.
      granted-with _ (send_letter-one _ _) λ sent one. granted-past _ _ _ λ kind. granted-past _ _ _ λ given.
      granted (sent-counts {sent = sent} (record { handle = one.handle; ref = one.ref; area = one.area; mail = one.mail }) (stands refl refl refl same-mail))

  ack-counts : (name : List ℕ) → OnGrant (Counts d) (ack d name)
  unfolding ack with_delivered
  ack-counts name =
      granted-then _ _ λ t e. granted-past _ _ _ λ kind. still (stands refl refl refl (put_down-one t.handle d.post)) refl refl refl

  transfer-counts : (name : List ℕ) (x h y n : ℕ) → OnGrant (Counts d) (transfer d name x h y n)
  unfolding transfer with_task
  transfer-counts name x h y n =
      granted-then _ _ λ t e. granted-past _ _ _ λ shut. granted-then _ _ λ r live. granted-past _ _ _ λ kind.
      still (stands refl refl refl same-mail) refl refl refl

  changed-counts : {c : Command} (a : Answer) → Changed c d a → Counts d a
  changed-counts _ (in_slot name t s is e quiet) = silent-as (slot-stands t.handle s) quiet
  changed-counts _ (in_module h quiet) = silent-as (stands refl refl refl (module-mail h d)) quiet
  changed-counts _ (in_areas areas quiet) = silent-as (stands refl refl refl same-mail) quiet
  changed-counts _ (in_made areas quiet) = silent-as (stands refl refl refl same-mail) quiet
  changed-counts _ (in_nothing quiet) = silent-as (stands refl refl refl same-mail) quiet

  memory-counts : (c : Command) → IsOnMemory c → OnGrant (Counts d) (change d c)
  memory-counts c is = granted-on d c is changed-counts

-- ---- polls

poll_taken-counts : (d e : Desk) (t : Task) (o : Option Parcel) → Stands d e → Counts d (poll_taken e t o)
unfolding poll_taken
poll_taken-counts d e t None s = silent s refl refl refl
poll_taken-counts d e t (Some m) s =
    let done : Handled = received e t (as_read m) in
    let marks : Marks d done = past s (received-marks e t (as_read m)) in record {
      handles = none-of d.next_handle done.0.next_handle marks.handle;
      refs = marks.refs;
      areas = none-of d.next_area done.0.next_area marks.area;
      mail = marks.mail;
    }

delivered-stands : (p : Post) (d : Desk) → p.next_ref ≡ next_ref d → ((ref : ℕ) → live_with ref p ≤ live_with ref d.post) →
    Stands d (with_delivered p d)
unfolding with_delivered
delivered-stands p d e less = stands refl e refl (less-mail e less)

poll-counts : (d : Desk) (name : List ℕ) → OnGrant (Counts d) (poll d name)
unfolding poll
poll-counts d name =
    granted-then _ _ λ t e.
    let gone : Post × Option Parcel = post_poll t.handle d.post in
    granted (poll_taken-counts d (with_delivered gone.0 d) t gone.1
    (delivered-stands gone.0 d (post_poll-ref t.handle d.post) λ ref. poll-fewer ref t.handle d.post))

-- ---- all commands

change-counts : (d : Desk) (c : Command) → OnGrant (Counts d) (change d c)
change-counts d (command.Task name buffer manner) = start_task-counts d name buffer manner
change-counts d (command.Kill name) = kill-counts d name
change-counts d (command.Save name k to leaf) = save-counts d name k to leaf
change-counts d (command.Poll name) = poll-counts d name
change-counts d (command.CancelIn name id) = cancel_in-counts d name id
change-counts d (command.CancelOut name id) = cancel_out-counts d name id
change-counts d (command.Repeat name) = repeat-counts d name
change-counts d (command.Make most) = make-counts d most
change-counts d (command.Raw (raw.Send name recorded h ref a bytes)) = send-counts d name recorded h ref a _
change-counts d (command.Raw (raw.Spool name k h ref)) = spool-counts d name k h ref
change-counts d (command.Raw (raw.Ack name)) = ack-counts d name
change-counts d (command.Raw (raw.Transfer name x h y n)) = transfer-counts d name x h y n
change-counts d (command.Raw (raw.Write name x bytes)) = memory-counts d (command.Raw (raw.Write name x bytes)) refl
change-counts d (command.Raw (raw.Scrap name k)) = memory-counts d (command.Raw (raw.Scrap name k)) refl
change-counts d c = memory-counts d c tt

step-counts : (d : Desk) (c : Command) → Counts d (step d c)
step-counts d c = or_else-keeps (Counts d) _ (change-counts d c) (λ refusal. silent (stands refl refl refl same-mail) refl refl refl)

pub numbers-go-up : NumbersGoUp
numbers-go-up d [] = record {
  handles = none-of d.next_handle d.next_handle refl;
  refs = none-of (next_ref d) (next_ref d) refl;
  areas = none-of d.next_area d.next_area refl;
}
numbers-go-up d (c ∷ commands) =
    let here = step-counts d c in
    let e : Desk = (step d c).0 in
    let rest = numbers-go-up e commands in record {
      handles = go-up-join d.next_handle e.next_handle (after e commands).next_handle (handles_in (step d c).1) _ here.handles rest.handles;
      refs = go-up-join (next_ref d) (next_ref e) (next_ref (after e commands)) (refs_in (step d c).1) _ here.refs rest.refs;
      areas = go-up-join d.next_area e.next_area (after e commands).next_area (areas_in (step d c).1) _ here.areas rest.areas;
    }

-- ---- refs of live messages

pub after-differ : (d : Desk) (commands : List Command) → StillDiffer d (after d commands)
after-differ d [] is = is
after-differ d (c ∷ commands) is = after-differ (step d c).0 commands ((step-counts d c).mail is)

pub always-own-refs : Always HaveOwnRefs
always-own-refs pool handle ref files commands from ranged =
    let d = start_with pool files handle ref in
    own-refs (after d commands) (after-differ d commands (record { one = λ n. omega arith; given = λ n up. refl }))
