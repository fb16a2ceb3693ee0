-- Each command but a poll and a transfer leaves the buffers that fetch from tasks with code of their own as they were.
use Rattle.rh_laws.proofs.Common.{◌≡◌, ℕ, Bool, true, false, not, List, [], ◌∷◌, ◌++◌, length, Option, Some, None, refl, sym, ap, ◌∙◌, subst, ◌⊎◌}
use Rattle.rh_laws.proofs.Common.{inl, inr, ◌==◌, find, filter, ℤ, Ok, option_map, eqb_tells, if◌then◌else◌, any-grant, chosen, unwrap_or, zeros}
use Rattle.rh_laws.proofs.Common.{Command, Manner, Incoming, Taking, NotOpen, Granted, or_else, OnGrant, granted, granted-both, granted-past}
use Rattle.rh_laws.proofs.Common.{granted-then, granted-with, or_else-keeps, Slot, in_id, with_id, Desk, Task, named, next_ref, with_delivered}
use Rattle.rh_laws.proofs.Common.{with_taking, Answer, start_task, kill, alloc, load, put, free, extend, mid, claim, release, resize, budge, save}
use Rattle.rh_laws.proofs.Common.{repeat, cancel_in, cancel_out, step, Has, first_is, none_some, is_found, buffers_of, task_of, without_buffer}
use Rattle.rh_laws.proofs.Common.{held_by}
use Rattle.std.specs.Option.{option_and_then}
use Rattle.rh_defs.specs.declared.command.Command.TheVariants as command
use Rattle.rh_defs.specs.declared.raw_command.RawCommand.{RawCommand}
use Rattle.rh_defs.specs.declared.raw_command.RawCommand.TheVariants as raw
use Rattle.rh_defs.specs.declared.reply.Reply.TheVariants as reply
use Rattle.rh_defs.specs.declared.transfer.Incoming.TheVariants as incoming
use Rattle.rh_defs.specs.Commands.{after_letter, with_released}
use Rattle.rh_defs.specs.OutgoingEvents.{scrap_shortage, wider}
use Rattle.rh_defs.specs.Places.{written_held}
use Rattle.rh_defs.specs.Post.{put_down}
use Rattle.rh_defs.specs.RawCommands.{ack, after_answer, ref_of_held, scrap, send, spool, write}
use Rattle.rh_defs.specs.RawTasks.{is_raw}
use Rattle.rh_defs.specs.Receiver as receiver
use Rattle.rh_safety.proofs.SeenBlocks.{added_still, alloc_is, changed_still, extend_is, free_is, mid_is, put_is}
use Rattle.rh_safety.proofs.SeenDocuments.{rid_of}
use Rattle.rh_safety.proofs.SeenHeaps.{claim_is, claimed_free, claimed_map, gone_map, idle_is, release_is, resize_is}
use Rattle.rh_laws.specs.Contents.{Contents}
use Rattle.rh_laws.specs.Frame.{actor, handle_of, moves_to, poller}
use Rattle.rh_laws.proofs.AccountPolls.{Stands, stands-delivered, stands-letter, stands-own, stands-sends, stands-takes}
use Rattle.rh_laws.proofs.ContentPolls.{Kept}
use Rattle.rh_laws.proofs.ContentRecords.{ended-filled, free-filled, idle-filled, none-filled, renewed-filled, same-filled}
use Rattle.rh_laws.proofs.ContentTasks.{Each, Holds, Own, apart, counted, found, kept-own, left-own, none-of, same-own, slot-own, stand, there, whose}
use Rattle.rh_laws.proofs.Frames.{leaves-others}

-- ---- lists

-- a task of a longer list was there, or is the new one
more-at : (k : ℕ) (new : Task) (ts : List Task) (u : Task) → task_of k (ts ++ new ∷ []) ≡ Some u → (task_of k ts ≡ Some u) ⊎ (u ≡ new)
more-at k new [] u q = elim (eqb_tells new.handle k) [
  | inl a ↦ inr (let z : Some new ≡ Some u = rw a.0 at q in let y : new ≡ u = cc in sym y)
  | inr a ↦ absurd (let z : None ≡ Some u = rw a.0 at q in (cc))
]
more-at k new (x ∷ ts) u q = elim (eqb_tells x.handle k) [
  | inl a ↦ inl (let z : Some x ≡ Some u = rw a.0 at q in rw a.0 z)
  | inr a ↦ rw a.0 (more-at k new ts u (rw a.0 at q))
]

-- the tasks of a handle are gone
less-own : (h : ℕ) (u : Task) (ts : List Task) → task_of h (filter (λ (t : Task). not (t.handle == h)) ts) ≡ Some u → ⊥
less-own h u [] q = none_some None refl q
less-own h u (t ∷ ts) q = elim (eqb_tells t.handle h) [
  | inl w ↦ less-own h u ts (rw w.0 at q)
  | inr w ↦ less-own h u ts (let z = rw (w.0, w.0) at q in z)
]

module _ {g : Contents} {d : Desk} (w : Holds g d) where
  abbrev Still : List ℕ → Answer → Type 0
  Still name = Own g (handle_of name d)

  -- ---- flex blocks

  alloc-own : (name : List ℕ) (k n : ℕ) → OnGrant (Still name) (alloc d name k n)
  unfolding alloc
  alloc-own name k n =
      granted-then _ _ λ t q. granted-then _ _ λ p i. same-own w name t q p.0 _ (added_still k (zeros n) t.slot p.0 (alloc_is _ k n t.slot p i))

  load-own : (name : List ℕ) (k : ℕ) (file : List ℕ) → OnGrant (Still name) (load d name k file)
  unfolding load
  load-own name k file =
      granted-then _ _ λ t q. granted-then _ _ λ entry i. granted-then _ _ λ p j. granted-then _ _ λ s l.
      same-own w name t q s _ (λ a. changed_still (put_is k 0 entry.1 p.0 s l) a
      ∙ added_still k (zeros (length entry.1)) t.slot p.0 (alloc_is _ k (length entry.1) t.slot p j) a)

  put-own : (name : List ℕ) (k offset : ℕ) (bytes : List ℕ) → OnGrant (Still name) (put d name k offset bytes)
  unfolding put
  put-own name k offset bytes =
      granted-then _ _ λ t q. granted-then _ _ λ b i. granted-then _ _ λ s j. same-own w name t q s _ (changed_still (put_is k offset bytes t.slot s j))

  free-own : (name : List ℕ) (k : ℕ) → OnGrant (Still name) (free d name k)
  unfolding free
  free-own name k =
      granted-then _ _ λ t q. granted-then _ _ λ b i. granted-then _ _ λ s j.
      same-own w name t q s _ (λ a. ap (λ (y : Slot). buffers_of y a) (sym (free_is k t.slot s j).same))

  extend-own : (name : List ℕ) (k n : ℕ) → OnGrant (Still name) (extend d name k n)
  unfolding extend
  extend-own name k n =
      granted-then _ _ λ t q. granted-then _ _ λ b i. granted-then _ _ λ s j. same-own w name t q s _ (changed_still (extend_is _ k n t.slot s j))

  mid-own : (name : List ℕ) (k offset : ℕ) (by : ℤ) → OnGrant (Still name) (mid d name k offset by)
  unfolding mid
  mid-own name k offset by =
      granted-then _ _ λ t q. granted-then _ _ λ b i. granted-then _ _ λ s j. same-own w name t q s _ (changed_still (mid_is _ k offset by t.slot s j))

  budge-own : (name : List ℕ) (on : Bool) → OnGrant (Still name) (budge d name on)
  unfolding budge
  budge-own name on = granted-then _ _ λ t q. same-own w name t q _ _ (λ a. refl)

  -- ---- the C heap

  claim-own : (name : List ℕ) (n : ℕ) → OnGrant (Still name) (claim d name n)
  unfolding claim
  claim-own name n =
      granted-then _ _ λ t q. granted-then _ _ λ p i.
      let k = claim_is _ n t.slot p i in
      slot-own w name t q p.0 _ (same-filled (free-filled (counted w name t q) p.1 _ (claimed_free k)) (claimed_map k))

  release-own : (name : List ℕ) (a : ℕ) → OnGrant (Still name) (release d name a)
  unfolding release
  release-own name a =
      granted-then _ _ λ t q. granted-then _ _ λ b i. granted-then _ _ λ s j.
      slot-own w name t q s _ (same-filled (idle-filled (counted w name t q) a None (idle_is a t b i)) (gone_map (release_is a t.slot s j)))

  resize-own : (name : List ℕ) (a : ℕ) (by : ℤ) → OnGrant (Still name) (resize d name a by)
  unfolding resize
  resize-own name a by =
      granted-then _ _ λ t q. granted-then _ _ λ b i. granted-then _ _ λ p j.
      let r = resize_is _ a by t.slot p j in
      slot-own w name t q p.0 _
      (same-filled (free-filled (idle-filled (counted w name t q) a None (idle_is a t b i)) p.1 _ r.2.free) r.2.moved)

  -- ---- messages and records

  save-own : (name : List ℕ) (k : ℕ) (to leaf : List ℕ) → OnGrant (Still name) (save d name k to leaf)
  unfolding save
  save-own name k to leaf =
      granted-then _ _ λ t q. granted-then _ _ λ b i. granted-past _ _ _ λ full. granted-then _ _ λ r j.
      granted-with _ (stands-letter _ (stand w name t q)) λ sent st. granted-past _ _ _ λ plays.
      granted (left-own w name t q (_, reply.Sent (next_ref d)) (stands-sends _ st))

  repeat-own : (name : List ℕ) → OnGrant (Still name) (repeat d name)
  unfolding repeat
  repeat-own name =
      granted-then _ _ λ t q. granted-then _ _ λ last i. granted-with _ (stands-letter _ (stand w name t q)) λ sent st.
      granted (left-own w name t q (after_letter t.manner sent, reply.Sent (next_ref d))
      (chosen (λ (y : Desk). Stands t.handle y t.slot t.taking) (is_raw t.manner) (after_answer sent) sent (stands-delivered sent.post st) st))

  -- the record v given up, and its buffer released where that goes with it
  gave_up : (name : List ℕ) (t : Task) (q : named name d ≡ Ok t) (v : Incoming) → Has v t.taking →
      let ws = with_id in_id (in_id v) (receiver.cancelled v) t.taking in
      Kept (g t.handle) t.handle (with_taking t.handle (λ old. ws) (with_released t.handle (receiver.let_go v) d)) ws
  gave_up name t q (incoming.Fetching x) has = go x.raw
    where
      after_ : Bool → Incoming
      after_ b = if b then incoming.Failed x.id x.anchor x.count else incoming.Draining x

      goes : Bool → Option Taking
      goes b = if b then Some x else None

      go : (b : Bool) → Kept (g t.handle) t.handle
          (with_taking t.handle (λ old. with_id in_id x.id (after_ b) t.taking) (with_released t.handle (goes b) d)) (with_id in_id x.id (after_ b) t.taking)
      go true = record {
        slot = without_buffer x.buffer t.slot;
        stands = stands-takes (λ old. with_id in_id x.id (after_ true) t.taking)
            (stands-own (λ (y : Task). record y { slot = without_buffer x.buffer y.slot }) (λ y. refl)
            (without_buffer x.buffer t.slot) t.taking (λ y e. ap (without_buffer x.buffer) e) (λ y e. e) (stand w name t q));
        all = same-filled (ended-filled (counted w name t q) x (incoming.Failed x.id x.anchor x.count)
            (λ k there_ same. apart w t (there w name t q) k x there_ (inl has) same) (λ k e. absurd (cc))) (rid_of x.buffer t.slot).buffers;
      }
      go false = record {
        slot = t.slot;
        stands = stands-takes (λ old. with_id in_id x.id (after_ false) t.taking) (stand w name t q);
        all = renewed-filled (counted w name t q) x.id (incoming.Draining x) (λ k e. absurd (cc));
      }
  gave_up name t q (incoming.Draining x) has = record {
    slot = t.slot;
    stands = stands-takes (λ old. with_id in_id x.id (incoming.Draining x) t.taking) (stand w name t q);
    all = renewed-filled (counted w name t q) x.id (incoming.Draining x) (λ k e. absurd (cc));
  }
  gave_up name t q (incoming.Asking a) has = record {
    slot = t.slot;
    stands = stands-takes (λ old. with_id in_id a.id (incoming.Failed a.id a.anchor 0) t.taking) (stand w name t q);
    all = renewed-filled (counted w name t q) a.id (incoming.Failed a.id a.anchor 0) (λ k e. absurd (cc));
  }
  gave_up name t q (incoming.Done i a n) has = record {
    slot = t.slot;
    stands = stands-takes (λ old. with_id in_id i (incoming.Done i a n) t.taking) (stand w name t q);
    all = renewed-filled (counted w name t q) i (incoming.Done i a n) (λ k e. absurd (cc));
  }
  gave_up name t q (incoming.Failed i a n) has = record {
    slot = t.slot;
    stands = stands-takes (λ old. with_id in_id i (incoming.Failed i a n) t.taking) (stand w name t q);
    all = renewed-filled (counted w name t q) i (incoming.Failed i a n) (λ k e. absurd (cc));
  }

  cancel_in-own : (name : List ℕ) (id : Option ℕ) → OnGrant (Still name) (cancel_in d name id)
  unfolding cancel_in receiver.cancel_taking
  cancel_in-own name id =
      granted-then _ _ λ t q.
      granted-with {Q = λ ws. Kept (g t.handle) t.handle
      (with_taking t.handle (λ old. ws) (with_released t.handle (receiver.released_by id t.taking) d)) ws} _
      (granted-then _ _ λ v i.
      let found_v : find (receiver.is_wanted id) t.taking ≡ Some v = is_found _ NotOpen v i in
      let ws : List Incoming = with_id in_id (in_id v) (receiver.cancelled v) t.taking in
      granted (subst (λ o. Kept (g t.handle) t.handle
      (with_taking t.handle (λ old. ws) (with_released t.handle (option_and_then receiver.let_go o) d)) ws) (sym found_v)
      (gave_up name t q v (first_is (receiver.is_wanted id) t.taking v found_v).0))) λ records all.
      granted (kept-own w name t q g (_, reply.Done) records all)

  cancel_out-own : (name : List ℕ) (id : Option ℕ) → OnGrant (Still name) (cancel_out d name id)
  unfolding cancel_out
  cancel_out-own name id =
      granted-then _ _ λ t q. granted-then _ _ λ records i.
      granted (left-own w name t q (_, reply.Done) (stands-sends (λ vs. records) (stand w name t q)))

  -- ---- tasks with code of their own

  send-own : (name : List ℕ) (kept : Bool) (h ref a : ℕ) (bytes : List ℕ) → OnGrant (Still name) (send d name kept h ref a bytes)
  unfolding send
  send-own name kept h ref a bytes =
      granted-then _ _ λ t q. granted-with _ (stands-letter _ (stand w name t q)) λ sent st. granted-past _ _ _ λ its. granted-past _ _ _ λ was.
      granted (left-own w name t q (after_answer sent, reply.Sent (next_ref d)) (stands-delivered sent.post st))

  ack-own : (name : List ℕ) → OnGrant (Still name) (ack d name)
  unfolding ack
  ack-own name =
      granted-then _ _ λ t q. granted-past _ _ _ λ its.
      granted (left-own w name t q (_, reply.Answering (ref_of_held (held_by t.handle d.post.seats)))
      (stands-delivered (put_down t.handle d.post) (stand w name t q)))

  write-own : (name : List ℕ) (x : ℕ) (bytes : List ℕ) → OnGrant (Still name) (write d name x bytes)
  unfolding write
  write-own name x bytes =
      granted-then _ _ λ t q. granted-past _ _ _ λ fits_. granted-past _ _ _ λ its.
      slot-own w name t q (written_held x bytes t.slot) _
      (none-of w t (there w name t q) (raw-is (is_raw t.manner) its) (g t.handle) (buffers_of (written_held x bytes t.slot)))
    where
      raw-is : (b : Bool) → not b ≡ false → b ≡ true
      raw-is true e = refl
      raw-is false e = absurd (let z : Bool.true ≡ false = e in (cc))

  spool-own : (name : List ℕ) (k h ref : ℕ) → OnGrant (Still name) (spool d name k h ref)
  unfolding spool
  spool-own name k h ref =
      granted-then _ _ λ t q. granted-then _ _ λ b i. granted-past _ _ _ λ none. granted-both _ (any-grant _) λ x u. granted-past _ _ _ λ fits_.
      let st = stand w name t q in
      let wide : Desk = wider (scrap_shortage (length b.here.bytes) d) d in
      let here : Stands t.handle wide t.slot t.taking = record { task = st.task; there = st.there; slot = st.slot; taking = st.taking } in
      granted-with _ (stands-letter _ here) λ sent later. granted-past _ _ _ λ its. granted-past _ _ _ λ was.
      granted (left-own w name t q (_, reply.Sent (next_ref d))
      (record { task = later.task; there = later.there; slot = later.slot; taking = later.taking }))

  scrap-own : (name : List ℕ) (k : ℕ) → OnGrant (Still name) (scrap d name k)
  unfolding scrap
  scrap-own name k =
      granted-then _ _ λ t q. granted-then _ _ λ file i. granted-then _ _ λ p j. granted-then _ _ λ s l. granted-past _ _ _ λ its.
      same-own w name t q s _ (λ a. changed_still (put_is k 0 file.bytes p.0 s l) a
      ∙ added_still k (zeros (length file.bytes)) t.slot p.0 (alloc_is _ k (length file.bytes) t.slot p j) a)

  -- ---- tasks

  kill-own : (name : List ℕ) → OnGrant (Still name) (kill d name)
  unfolding kill with_delivered
  kill-own name =
      granted-then _ _ λ t q. granted (record {
        own = λ h u named_h at_.
            let one : Some t.handle ≡ Some h = sym (ap (option_map (λ (y : Task). y.handle)) (found w name t q)) ∙ named_h in
            let same : h ≡ t.handle = cc in
            absurd (less-own t.handle u d.tasks (ap (λ j. task_of j (filter (λ (y : Task). not (y.handle == t.handle)) d.tasks)) (sym same) ∙ at_));
      })

  start-own : (name : List ℕ) (buffer : ℕ) (manner : Manner) → OnGrant (Own g (Some d.next_handle)) (start_task d name buffer manner)
  unfolding start_task
  start-own name buffer manner =
      granted-past _ _ _ λ x. granted-past _ _ _ λ y. granted-past _ _ _ λ z. granted-then _ _ λ s fresh.
      granted (record {
        own = λ h u next_h at_. elim (more-at h _ d.tasks u at_) [
          | inl old ↦ w.each h u old
          | inr new ↦ none-filled (ap (λ (y : Task). y.taking) new)
        ];
      })

  -- ---- all commands but polls and transfers

  own-else : {k : Option ℕ} {r : Granted Answer} → OnGrant (Own g k) r → Own g k (or_else r (λ refusal. (d, reply.Refused refusal)))
  own-else {k} all = or_else-keeps (Own g k) _ all (λ refusal. record { own = λ h t named_h at_. w.each h t at_ })

  by-own : (b : Command) → poller b d ≡ None → moves_to b ≡ None → Own g (actor b d) (step d b) → Each g (step d b)
  by-own b p still all h t at_ = elim (whose (actor b d) h) [
    | inl same ↦ all.own h t same at_
    | inr ne ↦ w.each h t (sym (leaves-others d b h p ne (λ q. none_some (moves_to b) still q)) ∙ at_)
  ]

  none-own : {a : Answer} → Own g None a
  none-own = record { own = λ h t q at_. absurd (none_some None refl q) }

  raw-each : (b : RawCommand) → moves_to (command.Raw b) ≡ None → Each g (step d (command.Raw b))
  raw-each (raw.Send name recorded h ref a bytes) still =
      by-own (command.Raw (raw.Send name recorded h ref a bytes)) refl refl (own-else (send-own name recorded h ref a (unwrap_or bytes [])))
  raw-each (raw.Write name x bytes) still = by-own (command.Raw (raw.Write name x bytes)) refl refl (own-else (write-own name x bytes))
  raw-each (raw.Transfer name x h y n) still = absurd (none_some None refl (sym still))
  raw-each (raw.Ack name) still = by-own (command.Raw (raw.Ack name)) refl refl (own-else (ack-own name))
  raw-each (raw.Spool name k h ref) still = by-own (command.Raw (raw.Spool name k h ref)) refl refl (own-else (spool-own name k h ref))
  raw-each (raw.Scrap name k) still = by-own (command.Raw (raw.Scrap name k)) refl refl (own-else (scrap-own name k))

  -- each command by which no task polls, and none is moved bytes to
  pub step-each : (c : Command) → poller c d ≡ None → moves_to c ≡ None → Each g (step d c)
  step-each (command.Task name buffer manner) polls still = by-own (command.Task name buffer manner) refl refl (own-else (start-own name buffer manner))
  step-each (command.Kill name) polls still = by-own (command.Kill name) refl refl (own-else (kill-own name))
  step-each (command.Alloc name k n) polls still = by-own (command.Alloc name k n) refl refl (own-else (alloc-own name k n))
  step-each (command.Load name k file) polls still = by-own (command.Load name k file) refl refl (own-else (load-own name k file))
  step-each (command.Put name k offset bytes) polls still = by-own (command.Put name k offset bytes) refl refl (own-else (put-own name k offset bytes))
  step-each (command.Free name k) polls still = by-own (command.Free name k) refl refl (own-else (free-own name k))
  step-each (command.Extend name k n) polls still = by-own (command.Extend name k n) refl refl (own-else (extend-own name k n))
  step-each (command.Mid name k offset by) polls still = by-own (command.Mid name k offset by) refl refl (own-else (mid-own name k offset by))
  step-each (command.Claim name n) polls still = by-own (command.Claim name n) refl refl (own-else (claim-own name n))
  step-each (command.Release name a) polls still = by-own (command.Release name a) refl refl (own-else (release-own name a))
  step-each (command.Resize name a by) polls still = by-own (command.Resize name a by) refl refl (own-else (resize-own name a by))
  step-each (command.Budge name on) polls still = by-own (command.Budge name on) refl refl (own-else (budge-own name on))
  step-each (command.Save name k to leaf) polls still = by-own (command.Save name k to leaf) refl refl (own-else (save-own name k to leaf))
  step-each (command.Poll name) polls still = λ h t at_. elim (whose (handle_of name d) h) [
    | inl same ↦ absurd (none_some (handle_of name d) (ap (option_map (λ (y : Task). y.handle)) polls) same)
    | inr ne ↦ w.each h t (sym (leaves-others d (command.Poll name) h polls ne (λ z. none_some None refl z)) ∙ at_)
  ]
  step-each (command.CancelIn name id) polls still = by-own (command.CancelIn name id) refl refl (own-else (cancel_in-own name id))
  step-each (command.CancelOut name id) polls still = by-own (command.CancelOut name id) refl refl (own-else (cancel_out-own name id))
  step-each (command.Repeat name) polls still = by-own (command.Repeat name) refl refl (own-else (repeat-own name))
  step-each (command.Raw b) polls still = raw-each b still
  step-each b polls still = by-own b refl refl none-own
