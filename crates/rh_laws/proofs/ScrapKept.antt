-- No scrap file is left behind, command by command.
use Rattle.rh_laws.proofs.Common.{◌≡◌, ℕ, ◌+◌, ◌<◌, Bool, true, false, not, List, [], ◌∷◌, ◌⊎◌, length, Option, Some, None, refl, sym, ap, subst, ◌∙◌}
use Rattle.rh_laws.proofs.Common.{inl, inr, arith, ◌==◌, is_some, unwrap_or, IfSome, AllByRecursion, append-all, Ok, Command, Manner, Body, Parcel}
use Rattle.rh_laws.proofs.Common.{Post, post_poll, post_join, Desk, Scrap, Task, Slot, named, next_ref, send_letter, with_delivered}
use Rattle.rh_laws.proofs.Common.{Answer, Letter, Handled, Taking, Incoming, handled, poll, poll_taken, start_task, kill, make}
use Rattle.rh_laws.proofs.Common.{save, repeat, cancel_in, cancel_out, change, step, after, all_in_range, in_range, IsDesk, step-keeps, fits, Fits, the_task}
use Rattle.rh_laws.proofs.Common.{task_of, OnGrant, granted, granted-past, granted-then, granted-with, granted-both, or_else-keeps, chosen, either, any-grant}
use Rattle.rh_laws.proofs.Common.{is_found, and_left, and_right, Has, first_is, in_id, with_id, without_buffer}
use Rattle.rh_laws.proofs.Common.{Changed, IsOnMemory, granted-on, in_areas, in_made, in_module, in_nothing, in_slot}
use Rattle.rh_defs.proofs.Chains.{grant-holds}
use Rattle.rh_defs.proofs.Lists.{filter-all}
use Rattle.rh_defs.specs.declared.command.Command.TheVariants as command
use Rattle.rh_defs.specs.declared.message.Body.TheVariants as body
use Rattle.rh_defs.specs.declared.raw_command.RawCommand.TheVariants as raw
use Rattle.rh_defs.specs.declared.refusal.Refusal.TheVariants.{NotOpen, NothingSent}
use Rattle.rh_defs.specs.declared.reply.Outcome.TheVariants as outcome
use Rattle.rh_defs.specs.declared.transfer.Incoming.TheVariants as incoming
use Rattle.rh_defs.specs.AnyMessage.{as_read, read_body}
use Rattle.rh_defs.specs.Commands.{with_released}
use Rattle.rh_defs.specs.Desk.{kept_scrap}
use Rattle.rh_defs.specs.OutgoingEvents.{scrap_shortage, wider}
use Rattle.rh_defs.specs.Places.{buffer_at, bytes_held, written_held, written_in}
unfoldable use Rattle.rh_defs.specs.Post.{post_death}
use Rattle.rh_defs.specs.Post.{put_down}
use Rattle.rh_defs.specs.RawCommands.{ack, after_answer, raw_letter, send, spool, spool_letter, transfer}
use Rattle.rh_defs.specs.RawTasks.{is_raw}
use Rattle.rh_defs.specs.Receiver as receiver
use Rattle.rh_defs.specs.Records.{is_going}
use Rattle.rh_defs.specs.Transfer.{received}
use Rattle.rh_safety.proofs.Acts.{Act, abandons, asks, claims, fails, finishes, gives_up, handled-acts, loads, loads_only, saves, sends}
use Rattle.rh_safety.proofs.Acts.{skips, takes_full, takes_last, takes_some}
use Rattle.rh_safety.proofs.Numbers.{post_poll-ref}
use Rattle.rh_laws.proofs.Addresses.{all-has, all-more, all-with}
use Rattle.rh_laws.proofs.FileSteps.{no-file}
use Rattle.rh_laws.proofs.LiveMail.{death-mail, join-live, join-mail, poll-mail, put_down-mail}
use Rattle.rh_laws.proofs.Queues.{death-left}
use Rattle.rh_laws.proofs.ScrapRefs.{Ids, IsFine, IsFree, Kept, Stays, TaskRefs, any-sent, bare-holds, bare-stays, delivered-stays, emptied}
use Rattle.rh_laws.proofs.ScrapRefs.{ended-stays, filed-stays, free-later, kept, kept-tells, letter-stays, longer-stays, module-stays, none-free}
use Rattle.rh_laws.proofs.ScrapRefs.{ins-stays, outs-stays, own-sent, refs-as, refs-one, sent-holds, sent-is, slot-stays}

not-not : (b : Bool) → not b ≡ false → b ≡ true
not-not true e = refl
not-not false e = sym e

both-ways : {A : Type 0} (b : Bool) → b ≡ true → b ≡ false → A
both-ways b e f = absurd (let z : true ≡ false = sym e ∙ f in (cc))

-- ---- commands by which no task polls

module _ {n : ℕ} {o : Option Scrap} (d : Desk) (f : Fits d) (w : Stays n o d) where
  record Leaves (a : Answer) : Type 0 where
    desk : Kept a.0

  so : {m : ℕ} {p : Option Scrap} {a : Answer} → Stays m p a.0 → OnGrant Leaves (Ok a)
  so z = granted (record { desk = kept z })

  here : (P : Task → Type 0) (name : List ℕ) (t : Task) → named name d ≡ Ok t → AllByRecursion P d.tasks → P t
  here P name t q all = all-has P d.tasks t all (first_is (λ (y : Task). y.handle == t.handle) d.tasks t (the_task d name t f q)).0

  own : (name : List ℕ) (t : Task) → named name d ≡ Ok t → TaskRefs (IsFree n o) t
  own name t q = here (TaskRefs (IsFree n o)) name t q w.holds.refs

  changed-keeps : {c : Command} (a : Answer) → Changed c d a → Leaves a
  changed-keeps _ (in_slot name t s is e quiet) = record { desk = kept (slot-stays t.handle (λ old. s) d w) }
  changed-keeps _ (in_module h quiet) = record { desk = kept (module-stays d h w) }
  changed-keeps _ (in_areas areas quiet) = record { desk = kept (bare-stays d (record d { areas = areas }) refl refl refl w) }
  changed-keeps _ (in_made areas quiet) = record { desk = kept (bare-stays d (record d { made = areas }) refl refl refl w) }
  changed-keeps _ (in_nothing quiet) = record { desk = kept w }

  memory-keeps : (c : Command) → IsOnMemory c → OnGrant Leaves (change d c)
  memory-keeps c is = granted-on d c is changed-keeps

  start-keeps : (name : List ℕ) (buffer : ℕ) (manner : Manner) → OnGrant Leaves (start_task d name buffer manner)
  unfolding start_task post_join
  start-keeps name buffer manner =
      granted-past _ _ _ λ a. granted-past _ _ _ λ b. granted-past _ _ _ λ c. granted-then _ _ λ s e.
      so (record {
        holds = record {
          next = w.holds.next;
          file = w.holds.file;
          low = w.holds.low;
          given = w.holds.given;
          refs = append-all (TaskRefs (IsFree n o)) d.tasks _ w.holds.refs (record { letter = λ plain. tt; ids = tt });
          mail = join-mail (IsFine n o) d.next_handle d.post w.holds.mail;
        };
        live = λ file q. join-live file.load d.next_handle d.post (w.live file q);
      })

  kill-keeps : (name : List ℕ) → OnGrant Leaves (kill d name)
  unfolding kill with_delivered
  kill-keeps name =
      granted-then _ _ λ t e.
      let next = (death-left (λ p. Unit {0}) (λ p. tt) t.handle d.post).next in
      let z = delivered-stays (post_death t.handle d.post) d w.holds next (death-mail (IsFine n o) t.handle d.post w.holds.mail) in
      so (record {
        holds = record {
          next = z.holds.next;
          file = z.holds.file;
          low = z.holds.low;
          given = z.holds.given;
          refs = filter-all (TaskRefs (IsFree n (kept_scrap (post_death t.handle d.post) o))) (λ other. not (other.handle == t.handle)) d.tasks
              z.holds.refs;
          mail = z.holds.mail;
        };
        live = z.live;
      })

  make-keeps : (most : ℕ) → OnGrant Leaves (make d most)
  unfolding make
  make-keeps most = granted-past _ _ _ λ a. granted-past _ _ _ λ b. so (bare-stays d _ refl refl refl w)

  -- a new message answers none
  save-keeps : (name : List ℕ) (k : ℕ) (to leaf : List ℕ) → OnGrant Leaves (save d name k to leaf)
  unfolding save
  save-keeps name k to leaf =
      granted-then _ _ λ t e. granted-then _ _ λ b g. granted-past _ _ _ λ full. granted-then _ _ λ r h. granted-then _ _ λ sent s.
      granted-past _ _ _ λ plays.
      so (outs-stays t.handle _ sent (letter-stays _ d s w (record {
        given = w.holds.low;
        other = λ file q same. let z = (w.holds.given file q).0 in omega (arith, z, same);
      })))

  released-stays : (h : ℕ) (v : Option Taking) → Stays n o (with_released h v d)
  released-stays h None = w
  released-stays h (Some g) = slot-stays h (λ (s : Slot). without_buffer g.buffer s) d w

  cancelled-id : (r : Incoming) → in_id (receiver.cancelled r) ≡ in_id r
  cancelled-id (incoming.Fetching g) =
      chosen (λ (x : Incoming). in_id x ≡ g.id) g.raw (incoming.Failed g.id g.anchor g.count) (incoming.Draining g) refl refl
  cancelled-id (incoming.Asking q) = refl
  cancelled-id (incoming.Draining g) = refl
  cancelled-id (incoming.Done i a c) = refl
  cancelled-id (incoming.Failed i a c) = refl

  cancel_in-keeps : (name : List ℕ) (id : Option ℕ) → OnGrant Leaves (cancel_in d name id)
  unfolding cancel_in receiver.cancel_taking
  cancel_in-keeps name id =
      granted-then _ _ λ t e. granted-with {Q = Ids n o} _ (granted-then _ _ λ r g.
      let has = (first_is (receiver.is_wanted id) t.taking r (is_found _ NotOpen r g)).0 in
      let free = all-has (λ (v : Incoming). IsFree n o (in_id v)) t.taking r (own name t e).ids has in
      granted (all-with (λ (v : Incoming). IsFree n o (in_id v)) in_id (in_id r) (receiver.cancelled r) t.taking
      (subst (IsFree n o) (sym (cancelled-id r)) free) (own name t e).ids)) λ records q.
      so (ins-stays t.handle (λ old. records) (λ ws all. q) _ (released-stays t.handle (receiver.released_by id t.taking)))

  cancel_out-keeps : (name : List ℕ) (id : Option ℕ) → OnGrant Leaves (cancel_out d name id)
  unfolding cancel_out
  cancel_out-keeps name id = granted-then _ _ λ t e. granted-then _ _ λ records g. so (outs-stays t.handle (λ old. records) d w)

  -- a task with code of its own may answer the scrap file's DataLoad by any letter
  raw-answered : (name : List ℕ) (t : Task) (l : Letter) (sent : Desk) → named name d ≡ Ok t → l.from ≡ t.handle → is_raw t.manner ≡ true →
      send_letter l d ≡ Ok sent → Kept (after_answer sent)
  raw-answered name t l sent e from its s =
      let later = refs-as (IsFree n o) (IsFree (n + 1) o) free-later d.tasks w.holds.refs in
      let is : task_of l.from d.tasks ≡ Some t = ap (λ (h : ℕ). task_of h d.tasks) from ∙ the_task d name t f e in
      let h = sent-holds l d sent (grant-holds (sent-is l d) s) w.holds (own-sent (IsFree (n + 1) o) l d t is (λ plain. both-ways (is_raw t.manner) its plain)
      (here (TaskRefs (IsFree (n + 1) o)) name t e later) later) in
      kept (delivered-stays sent.post sent h refl h.mail)

  repeat-keeps : (name : List ℕ) → OnGrant Leaves (repeat d name)
  unfolding repeat
  repeat-keeps name =
      granted-then _ _ λ t e. granted-then _ _ λ last g. granted-then _ _ λ sent s.
      granted (record {
        desk = either Kept (is_raw t.manner) (after_answer sent) sent
            (λ its. raw-answered name t (record last.0 { from = t.handle }) sent e refl its s)
            (λ plain. kept (letter-stays (record last.0 { from = t.handle }) d s w
            (subst (λ v. IfSome v (λ y. IsFree n o y.0.your_ref)) (is_found t.last_sent NothingSent last g) ((own name t e).letter plain))));
      })

  send-keeps : (name : List ℕ) (recorded : Bool) (h ref a : ℕ) (bytes : List ℕ) → OnGrant Leaves (send d name recorded h ref a bytes)
  unfolding send
  send-keeps name recorded h ref a bytes =
      granted-then _ _ λ t e. granted-then _ _ λ sent s. granted-past _ _ _ λ its. granted-past _ _ _ λ was.
      granted (record { desk = raw-answered name t (raw_letter t.handle recorded h ref a bytes) sent e refl (not-not _ its) s })

  ack-keeps : (name : List ℕ) → OnGrant Leaves (ack d name)
  unfolding ack
  ack-keeps name =
      granted-then _ _ λ t e. granted-past _ _ _ λ its.
      so (delivered-stays (put_down t.handle d.post) d w.holds refl (put_down-mail (IsFine n o) t.handle d.post w.holds.mail))

  none-there : is_some d.scrap ≡ false → o ≡ None
  none-there none = sym w.holds.file ∙ no-file d.scrap none

  spool-keeps : (name : List ℕ) (k h ref : ℕ) → OnGrant Leaves (spool d name k h ref)
  unfolding spool
  spool-keeps name k h ref =
      granted-then _ _ λ t e. granted-then _ _ λ b g. granted-past _ _ _ λ none. granted-both _ (any-grant _) λ x u. granted-past _ _ _ λ fits.
      granted-then _ _ λ sent s. granted-past _ _ _ λ its. granted-past _ _ _ λ was.
      let wide : Desk = wider (scrap_shortage (length b.here.bytes) d) d in
      let l : Letter = spool_letter t.handle h ref (length b.here.bytes) in
      let file : Scrap = record { load = next_ref d; bytes = b.here.bytes } in
      so (filed-stays l wide sent file (grant-holds (sent-is l wide) s) (none-there none) (bare-holds d wide refl refl refl w.holds) w.holds.next refl
      (λ all. own-sent (IsFree (n + 1) (Some file)) l wide t (the_task d name t f e) (λ plain. both-ways (is_raw t.manner) (not-not _ its) plain)
      (here (TaskRefs (IsFree (n + 1) (Some file))) name t e all) all))

  transfer-keeps : (name : List ℕ) (x h y k : ℕ) → OnGrant Leaves (transfer d name x h y k)
  unfolding transfer
  transfer-keeps name x h y k =
      granted-then _ _ λ t e. granted-past _ _ _ λ open_. granted-then _ _ λ r g. granted-past _ _ _ λ its.
      so (slot-stays r.handle (λ (s : Slot). written_held y (bytes_held x k t.slot) s) d w)

-- ---- what a message makes of it

-- a message that is read as a DataLoad
abbrev is_load : Body → Bool
is_load (body.DataLoad file) = true
is_load _ = false

turned : {n : ℕ} {o : Option Scrap} (id : ℕ) (v : Incoming) → IsFree n o (in_id v) → (ws : List Incoming) → Ids n o ws → Ids n o (with_id in_id id v ws)
turned {n} {o} id v q ws all = all-with (λ (u : Incoming). IsFree n o (in_id u)) in_id id v ws q all

module _ {n : ℕ} {o : Option Scrap} (d : Desk) (t : Task) (m : Parcel) (w : Stays n o d) (own : TaskRefs (IsFree n o) t)
    (given : m.message.my_ref < n) where
  one : (v : Incoming) → Has v t.taking → IsFree n o (in_id v)
  one v has = all-has (λ (u : Incoming). IsFree n o (in_id u)) t.taking v own.ids has

  active : (g : Taking) → (Has (incoming.Fetching g) t.taking) ⊎ (Has (incoming.Draining g) t.taking) → IsFree n o g.id
  active g (inl has) = one (incoming.Fetching g) has
  active g (inr has) = one (incoming.Draining g) has

  none-saved : is_some d.scrap ≡ false → o ≡ None
  none-saved none = sym w.holds.file ∙ no-file d.scrap none

  act-kept : {back : Bool} {b : Body} {x : Handled} → (is_load b ≡ false → IsFree n o m.message.my_ref) → Act d t m back b x → Kept x.0
  act-kept free (skips none) = kept w
  act-kept free (fails x y it z) = kept (outs-stays t.handle _ d w)
  act-kept free (sends {buffer = buffer} {n = k} x source r sent it s) =
      let poured : Slot → Slot = λ u. written_in buffer _ (buffer_at buffer k u) u in
      kept (outs-stays t.handle _ _ (slot-stays r.handle poured sent (letter-stays _ d s.letter w (free refl))))
  act-kept free (saves x source sent it there none l) =
      let wide : Desk = wider (scrap_shortage (length source.here.bytes) d) d in
      let file : Scrap = record { load = next_ref d; bytes = source.here.bytes } in
      kept (outs-stays t.handle _ (record sent { scrap = Some file }) (filed-stays _ wide sent file (grant-holds (sent-is _ wide) l) (none-saved none)
      (bare-holds d wide refl refl refl w.holds) w.holds.next refl
      (λ all. any-sent (IsFree (n + 1) (Some file)) _ wide (record {
        given = omega (arith, given);
        other = λ g e same. let z : file ≡ g = cc in
            let y : next_ref d ≡ g.load = ap (λ (x : Scrap). x.load) z in
            let v = w.holds.next in omega (arith, given, v, y, same);
      }) all)))
  act-kept free (finishes x source it there) = kept (outs-stays t.handle _ d w)
  act-kept free (claims k b p sent few unused claim alloc l) =
      kept (ins-stays t.handle _ (λ ws all. all-more (λ (u : Incoming). IsFree (n + 1) o (in_id u)) is_going _ ws (free-later _ (free refl)) all) sent
      (letter-stays _ _ l (slot-stays t.handle (λ (s : Slot). p.0) d w) (free refl)))
  act-kept free (gives_up g y it z) = kept (ended-stays t.handle g _ (turned g.id _ (active g it.has)) d w)
  act-kept free (takes_last g e it l less) =
      kept (ended-stays t.handle g _ (turned g.id _ (one (incoming.Fetching g) it.has)) e (longer-stays d t _ _ l w))
  act-kept free (takes_some g e y it l) =
      kept (ended-stays t.handle g _ (turned g.id _ (one (incoming.Fetching g) it.has)) e (longer-stays d t _ _ l w))
  act-kept free (takes_full g e sent it l full s) =
      kept (ins-stays t.handle _ (turned g.id _ (free-later _ (one (incoming.Fetching g) it.has))) sent
      (letter-stays _ e s (longer-stays d t _ _ l w) (free refl)))
  act-kept free (asks g sent it none l) =
      let id = one (incoming.Fetching g) it.has in
      kept (ended-stays t.handle g _ (turned g.id _ (free-later _ id)) sent (letter-stays _ d l w id))
  act-kept free (abandons q y it z) = kept (ins-stays t.handle _ (turned q.id _ (one (incoming.Asking q) it.has)) d w)
  act-kept free (loads_only q file e y it v) =
      let id = one (incoming.Asking q) it.has in
      kept (ins-stays t.handle _ (turned q.id _ (none-free _ id.given)) (record e { scrap = None }) (emptied e (longer-stays d t _ _ v.longer_is w)))
  act-kept free (loads q file e sent it v l) =
      let id = one (incoming.Asking q) it.has in
      kept (ins-stays t.handle _ (turned q.id _ (free-later _ (none-free _ id.given))) sent
      (letter-stays _ (record e { scrap = None }) l (emptied e (longer-stays d t _ _ v.longer_is w)) (none-free _ given)))

-- ---- a poll

module _ {n : ℕ} {o : Option Scrap} (d : Desk) (t : Task) (w : Stays n o d) (own : TaskRefs (IsFree n o) t) where
  -- a message that isn't read as a DataLoad isn't the scrap file's
  free-of : (m : Parcel) → IsFine n o m.message → is_load (read_body m.message.body) ≡ false → IsFree n o m.message.my_ref
  free-of m fine other = record {
    given = fine.given;
    other = λ file e same.
        let z : is_load (read_body m.message.body) ≡ true = ap (λ (b : Body). is_load (read_body b)) (fine.says file e same) in
        both-ways (is_load (read_body m.message.body)) z other;
  }

  received-kept : (m : Parcel) → IsFine n o m.message → Kept (received d t (as_read m)).0
  received-kept m fine =
      either (λ (x : Handled). Kept x.0) (is_raw t.manner) (d, outcome.Taken) (handled d t (as_read m) m.code) (λ its. kept w)
      (λ plays. act-kept d t (as_read m) w own fine.given (free-of m fine) (handled-acts d t (as_read m) m.code))

  taken-kept : (v : Option Parcel) → IfSome v (λ m. IsFine n o m.message) → Kept (poll_taken d t v).0
  unfolding poll_taken
  taken-kept None fine = kept w
  taken-kept (Some m) fine = received-kept m fine

module _ {n : ℕ} {o : Option Scrap} (d : Desk) (t : Task) (w : Stays n o d) (own : TaskRefs (IsFree n o) t) where
  abbrev p : Post × Option Parcel
  p = post_poll t.handle d.post

  abbrev left : Option Scrap
  left = kept_scrap p.0 o

  own-left : TaskRefs (IsFree n left) t
  own-left = refs-one (IsFree n o) (IsFree n left) (λ ref q. record {
    given = q.given;
    other = λ file e. q.other file (kept-tells p.0 o file e).0;
  }) t own

  fine-left : (v : Option Parcel) → IfSome v (λ m. IsFine n o m.message) → IfSome v (λ m. IsFine n left m.message)
  fine-left None q = tt
  fine-left (Some m) q = record { given = q.given; says = λ file e. q.says file (kept-tells p.0 o file e).0 }

  polled-kept : Kept (poll_taken (with_delivered p.0 d) t p.1).0
  polled-kept =
      let z = poll-mail (IsFine n o) t.handle d.post w.holds.mail in
      taken-kept (with_delivered p.0 d) t (delivered-stays p.0 d w.holds (post_poll-ref t.handle d.post) z.0) own-left p.1 (fine-left p.1 z.1)

-- ---- any command

module _ {n : ℕ} {o : Option Scrap} (d : Desk) (f : Fits d) (w : Stays n o d) where
  poll-keeps : (name : List ℕ) → OnGrant (Leaves d f w) (poll d name)
  unfolding poll
  poll-keeps name = granted-then _ _ λ t e. granted (record { desk = polled-kept d t w (own d f w name t e) })

  change-keeps : (c : Command) → OnGrant (Leaves d f w) (change d c)
  change-keeps (command.Task name buffer manner) = start-keeps d f w name buffer manner
  change-keeps (command.Kill name) = kill-keeps d f w name
  change-keeps (command.Save name k to leaf) = save-keeps d f w name k to leaf
  change-keeps (command.Poll name) = poll-keeps name
  change-keeps (command.CancelIn name id) = cancel_in-keeps d f w name id
  change-keeps (command.CancelOut name id) = cancel_out-keeps d f w name id
  change-keeps (command.Repeat name) = repeat-keeps d f w name
  change-keeps (command.Make most) = make-keeps d f w most
  change-keeps (command.Raw (raw.Send name recorded h ref a bytes)) = send-keeps d f w name recorded h ref a (unwrap_or bytes [])
  change-keeps (command.Raw (raw.Write name x bytes)) = memory-keeps d f w (command.Raw (raw.Write name x bytes)) refl
  change-keeps (command.Raw (raw.Transfer name x h y k)) = transfer-keeps d f w name x h y k
  change-keeps (command.Raw (raw.Ack name)) = ack-keeps d f w name
  change-keeps (command.Raw (raw.Spool name k h ref)) = spool-keeps d f w name k h ref
  change-keeps (command.Raw (raw.Scrap name k)) = memory-keeps d f w (command.Raw (raw.Scrap name k)) refl
  change-keeps c = memory-keeps d f w c tt

step-kept : (d : Desk) → Fits d → (c : Command) → Kept d → Kept (step d c).0
step-kept d f c k =
    (or_else-keeps (Leaves d f k.stays) _ (change-keeps d f k.stays c) (λ refusal. record { desk = k })).desk

pub kept-after : (commands : List Command) → all_in_range commands ≡ true → (d : Desk) → IsDesk d → Kept d → Kept (after d commands)
kept-after [] ranged d is k = k
kept-after (c ∷ commands) ranged d is k =
    let here : in_range c ≡ true = and_left (in_range c) _ ranged in
    kept-after commands (and_right (in_range c) _ ranged) (step d c).0 (step-keeps d c here is) (step-kept d (fits d is) c k)
