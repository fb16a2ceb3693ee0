-- How the scrap file comes and goes, command by command.
use Rattle.rh_laws.proofs.Common.{◌≡◌, ℕ, Bool, true, false, List, [], length, Option, Some, None, refl, sym, ap, ◌∙◌, inl}
use Rattle.rh_laws.proofs.Common.{inr, find, Ok}
use Rattle.rh_laws.proofs.Common.{is_some, option_map, nat_eq, Command, Manner, Body, Parcel, Post, post_poll, Desk}
use Rattle.rh_laws.proofs.Common.{Scrap, Task}
use Rattle.rh_laws.proofs.Common.{has_name, named, next_ref, send_letter, with_delivered, with_sending, with_taking, with_task, taking_ended, appended}
use Rattle.rh_laws.proofs.Common.{Answer, Letter, Handled, Sending, Taking, Asked, Incoming, Outgoing, Split, Flex, slot_block}
use Rattle.rh_laws.proofs.Common.{handled, event, poll}
use Rattle.rh_laws.proofs.Common.{poll_taken, start_task, kill, make, save, repeat, cancel_in, cancel_out, change, step, OnGrant, granted}
use Rattle.rh_laws.proofs.Common.{granted-past, granted-then}
use Rattle.rh_laws.proofs.Common.{granted-with, granted-both, or_else-keeps, chosen, either, any-grant, found_name, is_equal, and_left}
use Rattle.rh_laws.proofs.Common.{and_right, Has, contains_of}
use Rattle.rh_laws.proofs.Common.{Changed, IsOnMemory, granted-on, in_areas, in_made, in_module, in_nothing, in_slot, unwrap_or, none_some}
use Rattle.rh_defs.proofs.Chains.{grant-holds}
use Rattle.rh_defs.specs.declared.command.Command.TheVariants as command
use Rattle.rh_defs.specs.declared.raw_command.RawCommand.{RawCommand}
use Rattle.rh_defs.specs.declared.raw_command.RawCommand.TheVariants as raw
use Rattle.rh_defs.specs.declared.reply.Outcome.TheVariants as outcome
use Rattle.rh_defs.specs.declared.reply.Reply.TheVariants as reply
use Rattle.rh_defs.specs.declared.transfer.Incoming.TheVariants as incoming
use Rattle.rh_defs.specs.declared.transfer.Outgoing.TheVariants as outgoing
use Rattle.rh_defs.specs.AnyMessage.{as_read}
use Rattle.rh_defs.specs.Commands.{with_released}
use Rattle.rh_defs.specs.Desk.{kept_scrap}
use Rattle.rh_defs.specs.OutgoingEvents.{scrap_shortage, wider}
use Rattle.rh_defs.specs.Places.{bytes_held, written_held}
unfoldable use Rattle.rh_defs.specs.Post.{post_death}
use Rattle.rh_defs.specs.Post.{put_down}
use Rattle.rh_defs.specs.RawCommands.{ack, after_answer, raw_letter, send, spool, spool_letter, transfer}
use Rattle.rh_defs.specs.RawTasks.{is_raw}
use Rattle.rh_defs.specs.Receiver as receiver
use Rattle.rh_defs.specs.Transfer.{received}
use Rattle.rh_safety.specs.Offered.{source_of}
use Rattle.rh_safety.proofs.Acts.{Act, abandons, asks, claims, fails, finishes, gives_up, handled-acts, is_file, loads, loads_only, saves, sends, skips}
use Rattle.rh_safety.proofs.Acts.{takes_full, takes_last, takes_some}
use Rattle.rh_safety.proofs.Numbers.{post_poll-ref}
use Rattle.rh_safety.proofs.SeenBlocks.{the_block}
use Rattle.rh_safety.proofs.SeenFrames.{bind, done, instead_of}
use Rattle.rh_safety.proofs.SeenPosts.{kept_is}
use Rattle.rh_laws.specs.ScrapSteps.{IsGone, IsMade, KeepsScrap, ScrapOf, loaded_of, post_left, post_polled, takes_messages}

-- ---- edits that leave it

pub no-file : (o : Option Scrap) → is_some o ≡ false → o ≡ None
no-file None q = refl
no-file (Some f) q = absurd (let z : true ≡ false = q in (cc))

abbrev Same : Desk → Desk → Type 0
Same d e = e.scrap ≡ d.scrap

letter-same : (l : Letter) (d : Desk) → OnGrant (Same d) (send_letter l d)
unfolding send_letter with_task
letter-same l d = granted-then _ _ λ sent e. granted refl

sent-same : (l : Letter) (d sent : Desk) → send_letter l d ≡ Ok sent → Same d sent
sent-same l d sent q = grant-holds (letter-same l d) q

task-same : (h : ℕ) (f : Task → Task) (d : Desk) → Same d (with_task h f d)
unfolding with_task
task-same h f d = refl

ended-same : (h : ℕ) (f : Taking) (edit : List Incoming → List Incoming) (d : Desk) → Same d (taking_ended h f edit d)
unfolding taking_ended with_task
ended-same h f edit d = refl

longer-same : (d e : Desk) (t : Task) (k : ℕ) (bytes : List ℕ) → appended d t k bytes ≡ Ok e → Same d e
unfolding appended with_task
longer-same d e t k bytes q = grant-holds edits q
  where
    edits : OnGrant (Same d) (appended d t k bytes)
    edits = granted-then _ _ λ document found. granted-then _ _ λ more u. granted-then _ _ λ s v. granted refl

outs-same : (h : ℕ) (edit : List Outgoing → List Outgoing) (d : Desk) → Same d (with_sending h edit d)
outs-same h edit d = task-same h (λ (t : Task). record t { sending = edit t.sending }) d

ins-same : (h : ℕ) (edit : List Incoming → List Incoming) (d : Desk) → Same d (with_taking h edit d)
ins-same h edit d = task-same h (λ (t : Task). record t { taking = edit t.taking }) d

-- ---- what a message makes of it

pub data OfAct (d : Desk) (t : Task) (m : Parcel) (x : Handled) : Type 0 where
  left : Same d x.0 → OfAct d t m x
  filed : (y : Sending) (source : Split Flex) → Has (outgoing.Open y) t.sending → slot_block y.anchor t.slot ≡ Ok source → d.scrap ≡ None →
      x.0.scrap ≡ Some (record { load = next_ref d; bytes = source.here.bytes }) → x.1 ≡ outcome.Saved (length source.here.bytes) (next_ref d) →
      OfAct d t m x
  took : (q : Asked) (file : Scrap) → Has (incoming.Asking q) t.taking → m.message.from ≡ q.sender → m.message.your_ref ≡ q.ack →
      d.scrap ≡ Some file → file.load ≡ m.message.my_ref → x.0.scrap ≡ None → loaded_of x.1 ≡ Some (length file.bytes) → OfAct d t m x

act-scrap : {d : Desk} {t : Task} {m : Parcel} {back : Bool} {b : Body} {x : Handled} → Act d t m back b x → OfAct d t m x
act-scrap (skips none) = OfAct.left refl
act-scrap {d} {t} (fails x o it z) = OfAct.left (outs-same t.handle _ d)
act-scrap {d} {t} (sends x source r sent it w) =
    OfAct.left (outs-same t.handle _ _ ∙ task-same r.handle _ sent ∙ sent-same _ d sent w.letter)
act-scrap {d} {t} (saves x source sent it there none l) =
    OfAct.filed x source it.has there (no-file d.scrap none) (outs-same t.handle _ (record sent { scrap = Some _ })) refl
act-scrap {d} {t} (finishes x source it there) = OfAct.left (outs-same t.handle _ d)
act-scrap {d} {t} (claims k b p sent few free claim alloc l) =
    OfAct.left (ins-same t.handle _ sent ∙ sent-same _ _ sent l ∙ task-same t.handle (λ (u : Task). record u { slot = p.0 }) d)
act-scrap {d} {t} (gives_up f o it z) = OfAct.left (ended-same t.handle f _ d)
act-scrap {d} {t} (takes_last f e it l less) = OfAct.left (ended-same t.handle f _ e ∙ longer-same d e t _ _ l)
act-scrap {d} {t} (takes_some f e o it l) = OfAct.left (ended-same t.handle f _ e ∙ longer-same d e t _ _ l)
act-scrap {d} {t} (takes_full f e sent it l full s) =
    OfAct.left (ins-same t.handle _ sent ∙ sent-same _ e sent s ∙ longer-same d e t _ _ l)
act-scrap {d} {t} (asks f sent it none l) = OfAct.left (ended-same t.handle f _ sent ∙ sent-same _ d sent l)
act-scrap {d} {t} (abandons q o it z) = OfAct.left (ins-same t.handle _ d)
act-scrap {d} {t} {m} (loads_only q file e o it w) =
    let both = and_right (is_file m.message.my_ref d.scrap) _ it.passes in
    OfAct.took q file it.has (is_equal _ _ (and_left _ (nat_eq m.message.your_ref q.ack) both))
    (is_equal _ _ (and_right (nat_eq m.message.from q.sender) _ both)) w.there w.names (ins-same t.handle _ (record e { scrap = None })) refl
act-scrap {d} {t} {m} (loads q file e sent it w l) =
    let both = and_right (is_file m.message.my_ref d.scrap) _ it.passes in
    OfAct.took q file it.has (is_equal _ _ (and_left _ (nat_eq m.message.your_ref q.ack) both))
    (is_equal _ _ (and_right (nat_eq m.message.from q.sender) _ both)) w.there w.names
    (ins-same t.handle _ sent ∙ sent-same _ (record e { scrap = None }) sent l) refl

-- a task with code of its own does nothing with it
received-scrap : (d : Desk) (t : Task) (m : Parcel) → OfAct d t (as_read m) (received d t (as_read m))
received-scrap d t m = either (λ (x : Handled). OfAct d t (as_read m) x) (is_raw t.manner) (d, outcome.Taken) (handled d t (as_read m) m.code)
    (λ its. OfAct.left refl) (λ plays. act-scrap (handled-acts d t (as_read m) m.code))

-- ---- a poll

module _ (d : Desk) (name : List ℕ) (t : Task) (found : find (has_name name) d.tasks ≡ Some t) where
  abbrev C : Command
  C = command.Poll name

  abbrev p : Post × Option Parcel
  p = post_poll t.handle d.post

  abbrev at_ : Desk
  at_ = with_delivered p.0 d

  -- what is left of the file once the message went
  left-is : at_.scrap ≡ kept_scrap p.0 d.scrap
  unfolding with_delivered
  left-is = refl

  gone-so : (a : Answer) → kept_scrap p.0 d.scrap ≡ None → IsGone d C a
  gone-so a dead = record { takes = refl; dead = ap (λ v. kept_scrap (post_polled d v) d.scrap) found ∙ dead }

  stays : (a : Answer) → a.0.scrap ≡ kept_scrap p.0 d.scrap → ScrapOf d C a
  stays a same = elim (kept_is p.0 d.scrap) [
    | inl kept ↦ ScrapOf.kept (same ∙ kept)
    | inr gone ↦ ScrapOf.gone (same ∙ gone) (gone-so a gone)
  ]

  -- a file that is still there
  still : (file : Scrap) → kept_scrap p.0 d.scrap ≡ Some file → d.scrap ≡ Some file
  still file q = elim (kept_is p.0 d.scrap) [
    | inl kept ↦ sym kept ∙ q
    | inr gone ↦ absurd (none_some _ gone q)
  ]

  of-act : (m : Parcel) → p.1 ≡ Some m → (x : Handled) → OfAct at_ t (as_read m) x → ScrapOf d C (event (as_read m) x)
  unfolding with_delivered
  of-act m taken x (OfAct.left same) = stays (event (as_read m) x) (same ∙ left-is)
  of-act m taken x (OfAct.filed y source has there none now said) =
      ScrapOf.made (record { load = next_ref at_; bytes = source.here.bytes }) now (next-is) (IsMade.saved name t y refl found (sym left-is ∙ none)
      (contains_of t.sending (outgoing.Open y) has) (ap (option_map (λ (b : Split Flex). b.here.bytes)) (the_block y.anchor t.slot source there))
      (ap Some said))
    where
      next-is : next_ref at_ ≡ next_ref d
      next-is = post_poll-ref t.handle d.post
  of-act m taken x (OfAct.took q file has from answers there load now said) =
      ScrapOf.loaded now (record {
        name = name;
        is = refl;
        task = t;
        task_is = found;
        message = m;
        taken = taken;
        waits = q;
        asks = contains_of t.taking (incoming.Asking q) has;
        from = from;
        answers = answers;
        file = file;
        there = still file (sym left-is ∙ there);
        load = sym load;
        said = said;
      })

  polled-scrap : (v : Option Parcel) → p.1 ≡ v → ScrapOf d C (poll_taken at_ t v)
  unfolding poll_taken
  polled-scrap None q = stays (at_, reply.NoEvent) left-is
  polled-scrap (Some m) q = of-act m q (received at_ t (as_read m)) (received-scrap at_ t m)

-- ---- the other commands

module _ (d : Desk) where
  -- the file is as it was
  record Stays (a : Answer) : Type 0 where
    same : Same d a.0

  still-there : {a : Answer} → Same d a.0 → OnGrant Stays (Ok a)
  still-there same = granted (record { same = same })

  changed-stays : {c : Command} (a : Answer) → Changed c d a → Stays a
  changed-stays _ (in_slot name t s is e quiet) = record { same = task-same t.handle (λ (u : Task). record u { slot = s }) d }
  changed-stays _ (in_module h quiet) = record { same = refl }
  changed-stays _ (in_areas areas quiet) = record { same = refl }
  changed-stays _ (in_made areas quiet) = record { same = refl }
  changed-stays _ (in_nothing quiet) = record { same = refl }

  memory-stays : (c : Command) → IsOnMemory c → OnGrant Stays (change d c)
  memory-stays c is = granted-on d c is changed-stays

  start-stays : (name : List ℕ) (buffer : ℕ) (manner : Manner) → OnGrant Stays (start_task d name buffer manner)
  unfolding start_task
  start-stays name buffer manner = granted-past _ _ _ λ a. granted-past _ _ _ λ b. granted-past _ _ _ λ c. granted-then _ _ λ s e. still-there refl

  make-stays : (most : ℕ) → OnGrant Stays (make d most)
  unfolding make
  make-stays most = granted-past _ _ _ λ a. granted-past _ _ _ λ b. still-there refl

  save-stays : (name : List ℕ) (k : ℕ) (to leaf : List ℕ) → OnGrant Stays (save d name k to leaf)
  unfolding save
  save-stays name k to leaf =
      granted-then _ _ λ t e. granted-then _ _ λ b f. granted-past _ _ _ λ full. granted-then _ _ λ r g.
      granted-with _ (letter-same _ d) λ sent one. granted-past _ _ _ λ plays. still-there (outs-same t.handle _ sent ∙ one)

  released-same : (h : ℕ) (o : Option Taking) → Same d (with_released h o d)
  released-same h None = refl
  released-same h (Some f) = task-same h _ d

  cancel_in-stays : (name : List ℕ) (id : Option ℕ) → OnGrant Stays (cancel_in d name id)
  unfolding cancel_in
  cancel_in-stays name id = granted-then _ _ λ t e. granted-then _ _ λ records f.
      still-there (ins-same t.handle (λ old. records) _ ∙ released-same t.handle (receiver.released_by id t.taking))

  cancel_out-stays : (name : List ℕ) (id : Option ℕ) → OnGrant Stays (cancel_out d name id)
  unfolding cancel_out
  cancel_out-stays name id = granted-then _ _ λ t e. granted-then _ _ λ records f. still-there (outs-same t.handle (λ old. records) d)

  transfer-stays : (name : List ℕ) (x h y n : ℕ) → OnGrant Stays (transfer d name x h y n)
  unfolding transfer
  transfer-stays name x h y n =
      granted-then _ _ λ t e. granted-past _ _ _ λ open_. granted-then _ _ λ r f. granted-past _ _ _ λ its.
      still-there (task-same r.handle (λ (r : Task). record r { slot = written_held y (bytes_held x n t.slot) r.slot }) d)

  -- by a post out of which messages went
  after-post : (c : Command) (p : Post) (a : Answer) → takes_messages c ≡ true → a.0.scrap ≡ kept_scrap p d.scrap → post_left d c a ≡ p → ScrapOf d c a
  after-post c p a takes same is = elim (kept_is p d.scrap) [
    | inl kept ↦ ScrapOf.kept (same ∙ kept)
    | inr gone ↦ ScrapOf.gone (same ∙ gone) (record { takes = takes; dead = ap (λ q. kept_scrap q d.scrap) is ∙ gone })
  ]

  kill-scrap : (name : List ℕ) → OnGrant (ScrapOf d (command.Kill name)) (kill d name)
  unfolding kill with_delivered
  kill-scrap name = granted-then _ _ λ t e. granted (after-post (command.Kill name) (post_death t.handle d.post) _ refl refl refl)

  ack-scrap : (name : List ℕ) → OnGrant (ScrapOf d (command.Raw (raw.Ack name))) (ack d name)
  unfolding ack with_delivered
  ack-scrap name =
      granted-then _ _ λ t e. granted-past _ _ _ λ its.
      granted (after-post (command.Raw (raw.Ack name)) (put_down t.handle d.post) _ refl refl refl)

  -- the letter may answer its DataLoad
  answered-scrap : (c : Command) (sent : Desk) (r : _) → takes_messages c ≡ true → Same d sent → post_left d c (after_answer sent, r) ≡ sent.post →
      ScrapOf d c (after_answer sent, r)
  unfolding with_delivered
  answered-scrap c sent r takes same is = after-post c sent.post (after_answer sent, r) takes (ap (kept_scrap sent.post) same) is

  send-scrap : (name : List ℕ) (recorded : Bool) (h ref act : ℕ) (bytes : Option (List ℕ)) →
      OnGrant (ScrapOf d (command.Raw (raw.Send name recorded h ref act bytes))) (send d name recorded h ref act (unwrap_or bytes []))
  unfolding send with_delivered
  send-scrap name recorded h ref act bytes =
      granted-then _ _ λ t e. granted-with _ (letter-same (raw_letter t.handle recorded h ref act (unwrap_or bytes [])) d) λ sent same.
      granted-past _ _ _ λ its. granted-past _ _ _ λ was.
      granted (answered-scrap (command.Raw (raw.Send name recorded h ref act bytes)) sent _ refl same refl)

  repeat-scrap : (name : List ℕ) → OnGrant (ScrapOf d (command.Repeat name)) (repeat d name)
  unfolding repeat with_delivered
  repeat-scrap name =
      granted-then _ _ λ t e. granted-then _ _ λ last f. granted-with _ (letter-same (record last.0 { from = t.handle }) d) λ sent same.
      granted (chosen (λ (y : Desk). ScrapOf d (command.Repeat name) (y, reply.Sent (next_ref d))) (is_raw t.manner) (after_answer sent) sent
      (answered-scrap (command.Repeat name) sent (reply.Sent (next_ref d)) refl same refl) (ScrapOf.kept same))

  spool-scrap : (name : List ℕ) (k h ref : ℕ) → OnGrant (ScrapOf d (command.Raw (raw.Spool name k h ref))) (spool d name k h ref)
  unfolding spool
  spool-scrap name k h ref =
      granted-then _ _ λ t e. granted-then _ _ λ b f. granted-past _ _ _ λ none. granted-both _ (any-grant _) λ x u. granted-past _ _ _ λ fits.
      granted-with _ (letter-same (spool_letter t.handle h ref (length b.here.bytes)) (wider (scrap_shortage (length b.here.bytes) d) d)) λ sent one.
      granted-past _ _ _ λ its. granted-past _ _ _ λ was.
      granted (ScrapOf.made (record { load = next_ref d; bytes = b.here.bytes }) refl refl
      (IsMade.spooled name k h ref refl (no-file d.scrap none)
      (ap (λ o. source_of o k) (found_name d name t e) ∙ ap (option_map (λ (b : Split Flex). b.here.bytes)) (the_block k t.slot b f)) refl))

  raw-scrap : (c : RawCommand) → ScrapOf d (command.Raw c) (step d (command.Raw c))
  raw-scrap (raw.Send name recorded h ref act bytes) = or_else-keeps (ScrapOf d _) _ (send-scrap name recorded h ref act bytes) (λ r. ScrapOf.kept refl)
  raw-scrap (raw.Ack name) = or_else-keeps (ScrapOf d _) _ (ack-scrap name) (λ r. ScrapOf.kept refl)
  raw-scrap (raw.Spool name k h ref) = or_else-keeps (ScrapOf d _) _ (spool-scrap name k h ref) (λ r. ScrapOf.kept refl)
  raw-scrap (raw.Transfer name x h y n) = ScrapOf.kept (or_else-keeps Stays _ (transfer-stays name x h y n) (λ r. record { same = refl })).same
  raw-scrap (raw.Write name x bytes) =
      ScrapOf.kept (or_else-keeps Stays _ (memory-stays (command.Raw (raw.Write name x bytes)) refl) (λ r. record { same = refl })).same
  raw-scrap (raw.Scrap name k) = ScrapOf.kept (or_else-keeps Stays _ (memory-stays (command.Raw (raw.Scrap name k)) refl) (λ r. record { same = refl })).same

  poll-scrap : (name : List ℕ) → ScrapOf d (command.Poll name) (step d (command.Poll name))
  unfolding poll
  poll-scrap name =
      bind (ScrapOf d (command.Poll name)) (named name d) _ (instead_of d) (λ r. ScrapOf.kept refl) (λ t q.
      done (ScrapOf d (command.Poll name)) _ (instead_of d)
      (polled-scrap d name t (found_name d name t q) (post_poll t.handle d.post).1 refl))

  -- a command that leaves it
  stays-so : {c : Command} → OnGrant Stays (change d c) → ScrapOf d c (step d c)
  stays-so q = ScrapOf.kept (or_else-keeps Stays _ q (λ r. record { same = refl })).same

pub keeps-scrap : KeepsScrap
keeps-scrap d (command.Task name buffer manner) = stays-so d (start-stays d name buffer manner)
keeps-scrap d (command.Kill name) = or_else-keeps (ScrapOf d (command.Kill name)) _ (kill-scrap d name) (λ r. ScrapOf.kept refl)
keeps-scrap d (command.Save name k to leaf) = stays-so d (save-stays d name k to leaf)
keeps-scrap d (command.Poll name) = poll-scrap d name
keeps-scrap d (command.CancelIn name id) = stays-so d (cancel_in-stays d name id)
keeps-scrap d (command.CancelOut name id) = stays-so d (cancel_out-stays d name id)
keeps-scrap d (command.Repeat name) = or_else-keeps (ScrapOf d (command.Repeat name)) _ (repeat-scrap d name) (λ r. ScrapOf.kept refl)
keeps-scrap d (command.Make most) = stays-so d (make-stays d most)
keeps-scrap d (command.Raw c) = raw-scrap d c
keeps-scrap d c = stays-so d (memory-stays d c tt)
