-- Each command leaves the blocks of every task accounted for, and so they are after every list of commands.
use Rattle.rh_laws.proofs.Common.{◌≡◌, ◌≢◌, ℕ, ◌+◌, ◌<◌, ◌≤◌, Bool, true, false, not, List, [], ◌∷◌, ◌++◌, length, Option, Some, None, ◌-◌, refl, sym, ap}
use Rattle.rh_laws.proofs.Common.{◌∙◌, subst, ◌⊎◌, inl, inr, arith, take, drop, length-take, ◌==◌, find, filter, ℤ, Ok, option_map, eqb_tells}
use Rattle.rh_laws.proofs.Common.{length-replicate, Command, Manner, Reply, Incoming, Refusal, NotOpen, Granted, or_else, with_heap_bytes, IsDesk, Rise}
use Rattle.rh_laws.proofs.Common.{bytes_of, Split, zeros, all_in_range, in_range, Segment, Used, Hole, block_room, first_place, Parcel, post_poll, in_id}
use Rattle.rh_laws.proofs.Common.{Slot}
use Rattle.rh_laws.proofs.Common.{heap_start, slot_begin, Desk, Task, has_name, named, next_ref, task_at, with_delivered, with_slot, Answer, start_task, kill}
use Rattle.rh_laws.proofs.Common.{alloc, load, put, free, extend, mid, claim, release, resize, budge, after, start_with, save, repeat, poll, poll_taken}
use Rattle.rh_laws.proofs.Common.{cancel_in, cancel_out, event, step, handled, OnGrant, granted, granted-past, granted-then, granted-unless, granted-with}
use Rattle.rh_laws.proofs.Common.{or_else-keeps, after-is, start-is, step-keeps, at_place, Edits, Has, Offers, and_left, and_right, first_is, is_equal}
use Rattle.rh_laws.proofs.Common.{none_some, put_other, put_same, found_name, fits, Fits, is_found, the_task, keeps, Same, buffers_of, task_of, view}
use Rattle.rh_defs.specs.declared.command.Command.TheVariants as command
use Rattle.rh_defs.specs.declared.reply.Reply.TheVariants as reply
use Rattle.rh_defs.specs.declared.transfer.Incoming.TheVariants as incoming
use Rattle.rh_defs.specs.Blocks.{bytes_at}
use Rattle.rh_defs.specs.Laws.{Ascend}
use Rattle.rh_defs.specs.Heap.{IsTidy}
use Rattle.rh_defs.specs.Receiver as receiver
use Rattle.rh_defs.specs.Slot.{IsSlot, new_slot}
use Rattle.rh_defs.proofs.Lists.{rise-below}
use Rattle.rh_safety.proofs.Numbers.{numbers-go-up}
use Rattle.rh_safety.proofs.RecordLaws.{are_recorded}
use Rattle.rh_safety.proofs.SeenBlocks.{added_still, alloc_is, changed_still, extend_is, free_is, mid_is, put_is}
use Rattle.rh_safety.proofs.SeenHeaps.{claim_is, claimed_free, claimed_map, gone_map, idle_is, release_is}
use Rattle.rh_laws.specs.Claimed.{AlwaysLeaksNone, Claims, HoldsNone, LeaksNone, claimed, claimed_at, claims_from, claims_next, IsAccounted, holders, noted}
use Rattle.rh_laws.specs.Claimed.{claims_released_at, resized_at, size_after, size_at}
use Rattle.rh_laws.specs.Frame.{FillsBuffer, FillsRange, MovesInto, actor, handle_of, moves_to, poller}
use Rattle.rh_laws.proofs.Frames.{leaves-others, moves-fit}
use Rattle.rh_laws.proofs.Common.{any-grant, buffer_at, chosen, if◌then◌else◌, edit_task, either, granted-both, held_by, unwrap_or, with_id, with_task}
use Rattle.rh_laws.proofs.Common.{with_taking, without_buffer}
use Rattle.rh_laws.proofs.Common.{written_in, Taking}
use Rattle.std.specs.Option.{option_and_then}
use Rattle.rh_defs.specs.declared.raw_command.RawCommand.{RawCommand}
use Rattle.rh_defs.specs.declared.raw_command.RawCommand.TheVariants as raw
use Rattle.rh_defs.specs.declared.reply.Outcome.TheVariants as outcome
use Rattle.rh_defs.specs.AnyMessage.{as_read}
use Rattle.rh_defs.specs.Commands.{after_letter, with_released}
use Rattle.rh_defs.specs.OutgoingEvents.{scrap_shortage, wider}
use Rattle.rh_defs.specs.Places.{bytes_held as read_at, written_held}
use Rattle.rh_defs.specs.Post.{put_down}
use Rattle.rh_defs.specs.RawCommands.{ack, after_answer, ref_of_held, scrap, send, spool, transfer, write}
use Rattle.rh_defs.specs.RawTasks.{is_raw}
use Rattle.rh_defs.specs.Transfer.{received}
use Rattle.rh_safety.specs.RawIds.{Gave}
use Rattle.rh_safety.proofs.Keeps.{Stands as Known}
use Rattle.rh_safety.proofs.SeenDocuments.{rid_of}
use Rattle.rh_safety.proofs.SeenFrames.{bind, done, instead_of, test}
use Rattle.rh_safety.proofs.SeenLaws.{start_stands}
use Rattle.rh_safety.proofs.SeenTasks.{change_other}
use Rattle.rh_safety.proofs.View.{of}
use Rattle.rh_laws.proofs.FramePolls.{polls-fill}
use Rattle.rh_laws.proofs.Accounts.{Accounts, claimed-accounts, ended-accounts, is-vacant, none-hold, released-accounts, renewed-accounts, resized-accounts}
use Rattle.rh_laws.proofs.Accounts.{same-accounts}
use Rattle.rh_laws.proofs.Accounts.{size-is, size_in, sized-accounts}
use Rattle.rh_laws.proofs.AccountSlots.{at-address, at-sizes, written-sizes}
use Rattle.rh_safety.proofs.SeenDocuments.{buffer_is}
use Rattle.rh_safety.proofs.SeenHeaps.{resize_is}
use Rattle.rh_laws.proofs.AccountPolls.{Keeps, Kept, Stands, handled-keeps, stands-delivered, stands-letter, stands-own, stands-sends, stands-slot}
use Rattle.rh_laws.proofs.AccountPolls.{stands-takes}
use Rattle.rh_laws.proofs.AccountPolls.{written-kept}

-- ---- lists of tasks

-- a member's number is below the next one
member-below : {A : Type 0} (number : A → ℕ) (least next : ℕ) (xs : List A) (x : A) → Rise number least next xs → Has x xs → number x < next
member-below number least next [] x up has = absurd has
member-below number least next (y ∷ ys) x up (inl same) =
    let low = rise-below number (number y + 1) next ys up.1 in let e = ap number same in omega (arith, low, e)
member-below number least next (y ∷ ys) x up (inr has) = member-below number (number y + 1) next ys x up.1 has

-- no task has a handle that wasn't given
none-later : (h next : ℕ) (ts : List Task) → Ascend 0 next ts → next ≤ h → (t : Task) → task_of h ts ≡ Some t → ⊥
none-later h next ts up low t q =
    let w = first_is (λ (y : Task). y.handle == h) ts t q in
    let e : t.handle ≡ h = is_equal _ _ w.1 in
    let b = member-below (λ (y : Task). y.handle) 0 next ts t up w.0 in
    omega (arith, e, b, low)

-- a new task is the one of its handle, where there was none
more-own : (new u : Task) (ts : List Task) → ((t : Task) → task_of new.handle ts ≡ Some t → ⊥) →
    task_of new.handle (ts ++ new ∷ []) ≡ Some u → new ≡ u
more-own new u [] none q = elim (eqb_tells new.handle new.handle) [
  | inl w ↦ let z = rw w.0 at q in cc
  | inr w ↦ absurd (w.1 refl)
]
more-own new u (t ∷ ts) none q = elim (eqb_tells t.handle new.handle) [
  | inl w ↦ absurd (none t (rw w.0 refl))
  | inr w ↦ more-own new u ts (λ y z. none y (rw w.0 z)) (rw w.0 at q)
]

-- the tasks of a handle are gone
less-own : (h : ℕ) (u : Task) (ts : List Task) → task_of h (filter (λ (t : Task). not (t.handle == h)) ts) ≡ Some u → ⊥
less-own h u [] q = none_some None refl q
less-own h u (t ∷ ts) q = elim (eqb_tells t.handle h) [
  | inl w ↦ less-own h u ts (rw w.0 at q)
  | inr w ↦ less-own h u ts (let z = rw (w.0, w.0) at q in z)
]

-- ---- what holds of a desk

-- no task that isn't there yet has claimed, and the blocks of each live task are accounted for
record Holds (c : Claims) (d : Desk) : Type 0 where
  born : (h p : ℕ) → d.next_handle ≤ h → c h p ≡ None
  each : (h : ℕ) (t : Task) → task_at h d ≡ Some t → Accounts (c h) (buffers_of t.slot) t.taking

-- the blocks of a handle's task are accounted for after an answer
record Own (claims : Reply → Claims) (k : Option ℕ) (a : Answer) : Type 0 where
  own : (h : ℕ) (t : Task) → k ≡ Some h → task_at h a.0 ≡ Some t → Accounts (claims a.1 h) (buffers_of t.slot) t.taking

-- claims of other handles are as they were
noted-other : (c : Claims) (k a : ℕ) (v : Option ℕ) (h : ℕ) → h ≢ k → noted c k a v h ≡ c h
noted-other c k a v h ne = put_other c k (at_place (c k) a v) h ne

noted-own : (c : Claims) (k a : ℕ) (v : Option ℕ) → noted c k a v k ≡ at_place (c k) a v
noted-own c k a v = put_same c k (at_place (c k) a v)

module _ (c : Claims) (d : Desk) (h : ℕ) where
  -- a handle that isn't the task's
  abbrev IsOther : Option Task → Type 0
  IsOther o = (t : Task) → o ≡ Some t → h ≢ t.handle

  claimed-other : (o : Option Task) (n a : ℕ) → IsOther o → claimed_at c o n a h ≡ c h
  claimed-other None n a ne = refl
  claimed-other (Some t) n a ne = noted-other c t.handle a _ h (ne t refl)

  released-other : (o : Option Task) (a : ℕ) → IsOther o → claims_released_at c o a h ≡ c h
  released-other None a ne = refl
  released-other (Some t) a ne = noted-other c t.handle a None h (ne t refl)

  resized-other : (o : Option Task) (a : ℕ) (by : ℤ) (b : ℕ) → IsOther o → resized_at c o a by b h ≡ c h
  resized-other None a by b ne = refl
  resized-other (Some t) a by b ne =
      noted-other (noted c t.handle a None) t.handle b _ h (ne t refl) ∙ noted-other c t.handle a None h (ne t refl)

  -- a handle that isn't the named task's
  abbrev IsNotNamed : List ℕ → Type 0
  IsNotNamed name = IsOther (find (has_name name) d.tasks)

  after-claim : (name : List ℕ) (n : ℕ) → IsNotNamed name → (r : Reply) → claims_next c d (command.Claim name n) r h ≡ c h
  after-claim name n ne (reply.Block a) = claimed-other (find (has_name name) d.tasks) n a ne
  after-claim name n ne _ = refl

  after-release : (name : List ℕ) (a : ℕ) → IsNotNamed name → (r : Reply) → claims_next c d (command.Release name a) r h ≡ c h
  after-release name a ne reply.Done = released-other (find (has_name name) d.tasks) a ne
  after-release name a ne _ = refl

  after-resize : (name : List ℕ) (a : ℕ) (by : ℤ) → IsNotNamed name → (r : Reply) → claims_next c d (command.Resize name a by) r h ≡ c h
  after-resize name a by ne (reply.Block b) = resized-other (find (has_name name) d.tasks) a by b ne
  after-resize name a by ne _ = refl

  -- the named task isn't that of the handle, where no command of it is
  not-named : (name : List ℕ) → handle_of name d ≢ Some h → IsNotNamed name
  not-named name ne t q same = ne (ap (option_map (λ (y : Task). y.handle)) q ∙ ap Some (sym same))

  claims-other : (b : Command) → actor b d ≢ Some h → (r : Reply) → claims_next c d b r h ≡ c h
  claims-other (command.Claim name n) ne r = after-claim name n (not-named name ne) r
  claims-other (command.Release name a) ne r = after-release name a (not-named name ne) r
  claims-other (command.Resize name a by) ne r = after-resize name a by (not-named name ne) r
  claims-other _ ne r = refl

  -- nor is it one that wasn't given
  too-late : Ascend 0 d.next_handle d.tasks → d.next_handle ≤ h → (name : List ℕ) → IsNotNamed name
  too-late up low name t q same =
      let b = member-below (λ (y : Task). y.handle) 0 d.next_handle d.tasks t up (first_is (has_name name) d.tasks t q).0 in
      omega (arith, b, low, same)

  claims-late : (b : Command) → Ascend 0 d.next_handle d.tasks → d.next_handle ≤ h → (r : Reply) → claims_next c d b r h ≡ c h
  claims-late (command.Claim name n) up low r = after-claim name n (too-late up low name) r
  claims-late (command.Release name a) up low r = after-release name a (too-late up low name) r
  claims-late (command.Resize name a by) up low r = after-resize name a by (too-late up low name) r
  claims-late _ up low r = refl

-- a transfer brings no task
gone : (d : Desk) (name : List ℕ) (x k y n h : ℕ) (t : Task) → task_at h d ≡ None →
    task_at h (step d (command.Raw (raw.Transfer name x k y n))).0 ≡ Some t → ⊥
unfolding transfer with_task
gone d name x k y n h t none =
    bind P _ _ (instead_of d) same (λ t q. test P _ _ (instead_of d) same (λ u v. bind P _ _ (instead_of d) same (λ r e.
    test P _ _ (instead_of d) same (λ m i. done P _ (instead_of d) (λ there.
    not_live r.handle (λ (r : Task). record r { slot = written_held y (read_at x n t.slot) r.slot }) (λ r. refl) there)))))
  where
    -- an edit brings none
    not_live : (j : ℕ) (f : Task → Task) → ((y : Task) → (f y).handle ≡ y.handle) → task_of h (edit_task j f d.tasks) ≡ Some t → ⊥
    not_live j f kh there =
        let z : true ≡ false = ap (of (λ (y : Task). true) false) (sym there) ∙ change_other (λ (y : Task). true) false j f kh (λ y. refl) d.tasks h
        ∙ ap (of (λ (y : Task). true) false) none in
        cc

    P : Answer → Type 0
    P a = task_at h a.0 ≡ Some t → ⊥

    same : (refusal : Refusal) → P (instead_of d refusal)
    same refusal there = none_some (task_of h d.tasks) none there

-- ---- commands of one task

module _ (c : Claims) (d : Desk) {o : Offers} {e : Edits} {R : Gave} (g : Known o e R (view d)) (is : IsDesk d) (w : Holds c d) where
  abbrev f : Fits d
  f = fits d is

  -- the task that was named
  module _ (name : List ℕ) (t : Task) (q : named name d ≡ Ok t) where
    there : task_at t.handle d ≡ Some t
    there = the_task d name t f q

    found : find (has_name name) d.tasks ≡ Some t
    found = found_name d name t q

    stand : Stands t.handle d t.slot t.taking
    stand = record { task = t; there = there; slot = refl; taking = refl }

    counted : Accounts (c t.handle) (buffers_of t.slot) t.taking
    counted = w.each t.handle t there

    ids : Rise in_id 0 (next_ref d) t.taking
    ids = (are_recorded R d g.good t.handle t there).ids_in

    kept-own : (claims : Reply → Claims) (a : Answer) (ws : List Incoming) → Kept (claims a.1 t.handle) t.handle a.0 ws →
        Own claims (handle_of name d) a
    kept-own claims a ws k = record {
      own = λ h u named_h at.
          let one : Some t.handle ≡ Some h = sym (ap (option_map (λ (y : Task). y.handle)) found) ∙ named_h in
          let same : t.handle ≡ h = cc in
          let other : Some k.stands.task ≡ Some u = sym k.stands.there ∙ ap (λ j. task_at j a.0) same ∙ at in
          let that : k.stands.task ≡ u = cc in
          let slot : k.slot ≡ u.slot = sym k.stands.slot ∙ ap (λ (y : Task). y.slot) that in
          let taking : ws ≡ u.taking = sym k.stands.taking ∙ ap (λ (y : Task). y.taking) that in
          subst (λ j. Accounts (claims a.1 j) (buffers_of u.slot) u.taking) same
          (subst (λ (s : Slot). Accounts (claims a.1 t.handle) (buffers_of s) u.taking) slot
          (subst (λ vs. Accounts (claims a.1 t.handle) (buffers_of k.slot) vs) taking k.all));
    }

    -- another slot with the same blocks
    slot-own : (s : Slot) → Same (buffers_of s) (buffers_of t.slot) → (r : Reply) →
        OnGrant (Own (λ r. c) (handle_of name d)) (Ok (with_slot t.handle s d, r))
    slot-own s same r =
        granted (kept-own (λ r. c) (with_slot t.handle s d, r) t.taking (record {
          slot = s;
          stands = stands-slot s stand;
          all = same-accounts same counted;
        }))

  abbrev Still : List ℕ → Answer → Type 0
  Still name = Own (λ r. c) (handle_of name d)

  alloc-own : (name : List ℕ) (k n : ℕ) → OnGrant (Still name) (alloc d name k n)
  unfolding alloc
  alloc-own name k n =
      granted-then _ _ λ t q. granted-then _ _ λ p i.
      slot-own name t q p.0 (added_still k (zeros n) t.slot p.0 (alloc_is _ k n t.slot p i)) _

  load-own : (name : List ℕ) (k : ℕ) (file : List ℕ) → OnGrant (Still name) (load d name k file)
  unfolding load
  load-own name k file =
      granted-then _ _ λ t q. granted-then _ _ λ entry i. granted-then _ _ λ p j. granted-then _ _ λ s l.
      slot-own name t q s (λ a. changed_still (put_is k 0 entry.1 p.0 s l) a
      ∙ added_still k (zeros (length entry.1)) t.slot p.0 (alloc_is _ k (length entry.1) t.slot p j) a) _

  put-own : (name : List ℕ) (k offset : ℕ) (bytes : List ℕ) → OnGrant (Still name) (put d name k offset bytes)
  unfolding put
  put-own name k offset bytes =
      granted-then _ _ λ t q. granted-then _ _ λ b i. granted-then _ _ λ s j.
      slot-own name t q s (changed_still (put_is k offset bytes t.slot s j)) _

  free-own : (name : List ℕ) (k : ℕ) → OnGrant (Still name) (free d name k)
  unfolding free
  free-own name k =
      granted-then _ _ λ t q. granted-then _ _ λ b i. granted-then _ _ λ s j.
      slot-own name t q s (λ a. ap (λ (y : Slot). buffers_of y a) (sym (free_is k t.slot s j).same)) _

  extend-own : (name : List ℕ) (k n : ℕ) → OnGrant (Still name) (extend d name k n)
  unfolding extend
  extend-own name k n =
      granted-then _ _ λ t q. granted-then _ _ λ b i. granted-then _ _ λ s j.
      slot-own name t q s (changed_still (extend_is _ k n t.slot s j)) _

  mid-own : (name : List ℕ) (k offset : ℕ) (by : ℤ) → OnGrant (Still name) (mid d name k offset by)
  unfolding mid
  mid-own name k offset by =
      granted-then _ _ λ t q. granted-then _ _ λ b i. granted-then _ _ λ s j.
      slot-own name t q s (changed_still (mid_is _ k offset by t.slot s j)) _

  budge-own : (name : List ℕ) (on : Bool) → OnGrant (Still name) (budge d name on)
  unfolding budge
  budge-own name on = granted-then _ _ λ t q. slot-own name t q _ (λ a. refl) _

  -- ---- the C heap

  claim-own : (name : List ℕ) (n : ℕ) → OnGrant (Own (claims_next c d (command.Claim name n)) (handle_of name d)) (claim d name n)
  unfolding claim
  claim-own name n =
      granted-then _ _ λ t q. granted-then _ _ λ p i.
      let k = claim_is _ n t.slot p i in
      let now : claims_next c d (command.Claim name n) (reply.Block p.1) t.handle ≡ at_place (c t.handle) p.1 (Some (block_room n)) =
      ap (λ v. claimed_at c v n p.1 t.handle) (found name t q) ∙ noted-own c t.handle p.1 (Some (block_room n)) in
      granted (kept-own name t q (claims_next c d (command.Claim name n)) (with_slot t.handle p.0 d, reply.Block p.1) t.taking (record {
        slot = p.0;
        stands = stands-slot p.0 (stand name t q);
        all = subst (λ m. Accounts m (buffers_of p.0) t.taking) (sym now) (same-accounts (claimed_map k)
            (claimed-accounts p.1 (zeros (block_room n)) (block_room n) (length-replicate (block_room n) 0) (claimed_free k)
            (counted name t q)));
      }))

  release-own : (name : List ℕ) (a : ℕ) → OnGrant (Own (claims_next c d (command.Release name a)) (handle_of name d)) (release d name a)
  unfolding release
  release-own name a =
      granted-then _ _ λ t q. granted-then _ _ λ b i. granted-then _ _ λ s j.
      let now : claims_next c d (command.Release name a) reply.Done t.handle ≡ at_place (c t.handle) a None =
      ap (λ v. claims_released_at c v a t.handle) (found name t q) ∙ noted-own c t.handle a None in
      granted (kept-own name t q (claims_next c d (command.Release name a)) (with_slot t.handle s d, reply.Done) t.taking (record {
        slot = s;
        stands = stands-slot s (stand name t q);
        all = subst (λ m. Accounts m (buffers_of s) t.taking) (sym now) (same-accounts (gone_map (release_is a t.slot s j))
            (released-accounts a (idle_is a t b i) (counted name t q)));
      }))

  resize-own : (name : List ℕ) (a : ℕ) (by : ℤ) → OnGrant (Own (claims_next c d (command.Resize name a by)) (handle_of name d)) (resize d name a by)
  unfolding resize
  resize-own name a by =
      granted-then _ _ λ t q. granted-then _ _ λ b i. granted-then _ _ λ p j.
      let r = resize_is _ a by t.slot p j in
      let was = ap size_in (sym (buffer_is a t.slot) ∙ ap (option_map (λ (x : Split Segment). bytes_of x.here)) r.1) in
      let size : Option ℕ = size_after by (c t.handle a) in
      let now : claims_next c d (command.Resize name a by) (reply.Block p.1) t.handle ≡ at_place (at_place (c t.handle) a None) p.1 size =
      ap (λ v. resized_at c v a by p.1 t.handle) (found name t q) ∙ noted-own (noted c t.handle a None) t.handle p.1 size
      ∙ ap (λ m. at_place m p.1 size) (noted-own c t.handle a None) in
      granted (kept-own name t q (claims_next c d (command.Resize name a by)) (with_slot t.handle p.0 d, reply.Block p.1) t.taking (record {
        slot = p.0;
        stands = stands-slot p.0 (stand name t q);
        all = subst (λ m. Accounts m (buffers_of p.0) t.taking) (sym now) (same-accounts r.2.moved
            (resized-accounts a p.1 (length (bytes_of r.0.here)) r.2.bytes by (idle_is a t b i) was r.2.size r.2.free (counted name t q)));
      }))

  -- ---- messages and records

  save-own : (name : List ℕ) (k : ℕ) (to leaf : List ℕ) → OnGrant (Still name) (save d name k to leaf)
  unfolding save
  save-own name k to leaf =
      granted-then _ _ λ t q. granted-then _ _ λ b i. granted-past _ _ _ λ full. granted-then _ _ λ r j.
      granted-with _ (stands-letter _ (stand name t q)) λ sent st. granted-past _ _ _ λ plays.
      granted (kept-own name t q (λ r. c) (_, reply.Sent (next_ref d)) t.taking (record {
        slot = t.slot;
        stands = stands-sends _ st;
        all = counted name t q;
      }))

  repeat-own : (name : List ℕ) → OnGrant (Still name) (repeat d name)
  unfolding repeat
  repeat-own name =
      granted-then _ _ λ t q. granted-then _ _ λ last i. granted-with _ (stands-letter _ (stand name t q)) λ sent st.
      granted (kept-own name t q (λ r. c) (after_letter t.manner sent, reply.Sent (next_ref d)) t.taking (record {
        slot = t.slot;
        stands = chosen (λ (y : Desk). Stands t.handle y t.slot t.taking) (is_raw t.manner) (after_answer sent) sent
            (stands-delivered sent.post st) st;
        all = counted name t q;
      }))

  -- the record v given up, and its buffer released where that goes with it
  gave_up : (name : List ℕ) (t : Task) (q : named name d ≡ Ok t) (v : Incoming) → Has v t.taking →
      let ws = with_id in_id (in_id v) (receiver.cancelled v) t.taking in
      Kept (c t.handle) t.handle (with_taking t.handle (λ old. ws) (with_released t.handle (receiver.let_go v) d)) ws
  gave_up name t q (incoming.Fetching x) has = go x.raw
    where
      after : Bool → Incoming
      after b = if b then incoming.Failed x.id x.anchor x.count else incoming.Draining x

      goes : Bool → Option Taking
      goes b = if b then Some x else None

      go : (b : Bool) → Kept (c t.handle) t.handle
          (with_taking t.handle (λ old. with_id in_id x.id (after b) t.taking) (with_released t.handle (goes b) d)) (with_id in_id x.id (after b) t.taking)
      go true = record {
        slot = without_buffer x.buffer t.slot;
        stands = stands-takes (λ old. with_id in_id x.id (after true) t.taking)
            (stands-own (λ (y : Task). record y { slot = without_buffer x.buffer y.slot }) (λ y. refl)
            (without_buffer x.buffer t.slot) t.taking (λ y e. ap (without_buffer x.buffer) e) (λ y e. e) (stand name t q));
        all = same-accounts (rid_of x.buffer t.slot).buffers
            (ended-accounts (next_ref d) (ids name t q) (incoming.Fetching x) (incoming.Failed x.id x.anchor x.count) x.buffer has
            (λ p. refl) (λ p. refl) (counted name t q));
      }
      go false = record {
        slot = t.slot;
        stands = stands-takes (λ old. with_id in_id x.id (after false) t.taking) (stand name t q);
        all = renewed-accounts (next_ref d) (ids name t q) (incoming.Fetching x) (incoming.Draining x) has (λ p. refl) (counted name t q);
      }
  gave_up name t q v has = record {
    slot = t.slot;
    stands = stands-takes (λ old. with_id in_id (in_id v) (receiver.cancelled v) t.taking) (stand name t q);
    all = renewed-accounts (next_ref d) (ids name t q) v (receiver.cancelled v) has (λ p. refl) (counted name t q);
  }

  cancel_in-own : (name : List ℕ) (id : Option ℕ) → OnGrant (Still name) (cancel_in d name id)
  unfolding cancel_in receiver.cancel_taking
  cancel_in-own name id =
      granted-then _ _ λ t q.
      granted-with {Q = λ ws. Kept (c t.handle) t.handle
      (with_taking t.handle (λ old. ws) (with_released t.handle (receiver.released_by id t.taking) d)) ws} _
      (granted-then _ _ λ v i.
      let found_v : find (receiver.is_wanted id) t.taking ≡ Some v = is_found _ NotOpen v i in
      let ws : List Incoming = with_id in_id (in_id v) (receiver.cancelled v) t.taking in
      granted (subst (λ o. Kept (c t.handle) t.handle
      (with_taking t.handle (λ old. ws) (with_released t.handle (option_and_then receiver.let_go o) d)) ws) (sym found_v)
      (gave_up name t q v (first_is (receiver.is_wanted id) t.taking v found_v).0))) λ records all.
      granted (kept-own name t q (λ r. c) (_, reply.Done) records all)

  cancel_out-own : (name : List ℕ) (id : Option ℕ) → OnGrant (Still name) (cancel_out d name id)
  unfolding cancel_out
  cancel_out-own name id =
      granted-then _ _ λ t q. granted-then _ _ λ records i.
      granted (kept-own name t q (λ r. c) (_, reply.Done) t.taking (record {
        slot = t.slot;
        stands = stands-sends (λ vs. records) (stand name t q);
        all = counted name t q;
      }))

  -- the message that was taken, where there is one
  taken-own : (name : List ℕ) (t : Task) → named name d ≡ Ok t → (v : Option Parcel) →
      Still name (poll_taken (with_delivered (post_poll t.handle d.post).0 d) t v)
  unfolding poll_taken
  taken-own name t q None = kept-own name t q (λ r. c) (_, reply.NoEvent) t.taking (record {
    slot = t.slot;
    stands = stands-delivered _ (stand name t q);
    all = counted name t q;
  })
  taken-own name t q (Some m) =
      let left : Desk = with_delivered (post_poll t.handle d.post).0 d in
      let read = as_read m in
      let here : Kept (c t.handle) t.handle left t.taking = record {
        slot = t.slot;
        stands = stands-delivered _ (stand name t q);
        all = counted name t q;
      } in
      let k = either (Keeps (c t.handle) t.handle) (is_raw t.manner) (left, outcome.Taken) (handled left t read m.code)
      (λ its. record { records = t.taking; desk = here })
      (λ plays. handled-keeps (c t.handle) t (next_ref d) (ids name t q) (counted name t q) left here read m.code) in
      kept-own name t q (λ r. c) (event read (received left t read)) k.records k.desk

  poll-own : (name : List ℕ) → OnGrant (Still name) (poll d name)
  unfolding poll
  poll-own name = granted-then _ _ λ t q. granted (taken-own name t q (post_poll t.handle d.post).1)

  -- ---- tasks with code of their own

  send-own : (name : List ℕ) (recorded : Bool) (h ref a : ℕ) (bytes : List ℕ) → OnGrant (Still name) (send d name recorded h ref a bytes)
  unfolding send
  send-own name recorded h ref a bytes =
      granted-then _ _ λ t q. granted-with _ (stands-letter _ (stand name t q)) λ sent st. granted-past _ _ _ λ its. granted-past _ _ _ λ was.
      granted (kept-own name t q (λ r. c) (after_answer sent, reply.Sent (next_ref d)) t.taking (record {
        slot = t.slot;
        stands = stands-delivered sent.post st;
        all = counted name t q;
      }))

  ack-own : (name : List ℕ) → OnGrant (Still name) (ack d name)
  unfolding ack
  ack-own name =
      granted-then _ _ λ t q. granted-past _ _ _ λ its.
      granted (kept-own name t q (λ r. c) (_, reply.Answering (ref_of_held (held_by t.handle d.post.seats))) t.taking (record {
        slot = t.slot;
        stands = stands-delivered (put_down t.handle d.post) (stand name t q);
        all = counted name t q;
      }))

  write-own : (name : List ℕ) (x : ℕ) (bytes : List ℕ) → OnGrant (Still name) (write d name x bytes)
  unfolding write
  write-own name x bytes =
      granted-then _ _ λ t q. granted-past _ _ _ λ fits. granted-past _ _ _ λ its.
      granted (kept-own name t q (λ r. c) (with_slot t.handle (written_held x bytes t.slot) d, reply.Done) t.taking (record {
        slot = written_held x bytes t.slot;
        stands = stands-slot (written_held x bytes t.slot) (stand name t q);
        all = sized-accounts (λ p. at-sizes x t.slot bytes p) (counted name t q);
      }))

  transfer-own : (name : List ℕ) (x h y n : ℕ) → OnGrant (Still name) (transfer d name x h y n)
  unfolding transfer
  transfer-own name x h y n =
      granted-then _ _ λ t q. granted-past _ _ _ λ open_. granted-then _ _ λ r i. granted-past _ _ _ λ its.
      let new : List ℕ = read_at x n t.slot in
      let here : Kept (c t.handle) t.handle d t.taking = record { slot = t.slot; stands = stand name t q; all = counted name t q } in
      granted (kept-own name t q (λ r. c) (with_task r.handle (λ (r : Task). record r { slot = written_held y new r.slot }) d, reply.Done) t.taking
      (written-kept r.handle (λ s. written_held y new s) (λ s p. at-sizes y s new p) here))

  spool-own : (name : List ℕ) (k h ref : ℕ) → OnGrant (Still name) (spool d name k h ref)
  unfolding spool
  spool-own name k h ref =
      granted-then _ _ λ t q. granted-then _ _ λ b i. granted-past _ _ _ λ none. granted-both _ (any-grant _) λ x u. granted-past _ _ _ λ fits.
      let st = stand name t q in
      let wide : Desk = wider (scrap_shortage (length b.here.bytes) d) d in
      let there : Stands t.handle wide t.slot t.taking = record { task = st.task; there = st.there; slot = st.slot; taking = st.taking } in
      granted-with _ (stands-letter _ there) λ sent later. granted-past _ _ _ λ its. granted-past _ _ _ λ was.
      granted (kept-own name t q (λ r. c) (_, reply.Sent (next_ref d)) t.taking (record {
        slot = t.slot;
        stands = record { task = later.task; there = later.there; slot = later.slot; taking = later.taking };
        all = counted name t q;
      }))

  scrap-own : (name : List ℕ) (k : ℕ) → OnGrant (Still name) (scrap d name k)
  unfolding scrap
  scrap-own name k =
      granted-then _ _ λ t q. granted-then _ _ λ file i. granted-then _ _ λ p j. granted-then _ _ λ s l. granted-past _ _ _ λ its.
      slot-own name t q s (λ a. changed_still (put_is k 0 file.bytes p.0 s l) a
      ∙ added_still k (zeros (length file.bytes)) t.slot p.0 (alloc_is _ k (length file.bytes) t.slot p j) a) _

  -- ---- tasks

  kill-own : (name : List ℕ) → OnGrant (Still name) (kill d name)
  unfolding kill with_delivered
  kill-own name =
      granted-then _ _ λ t q. granted (record {
        own = λ h u named_h at.
            let one : Some t.handle ≡ Some h = sym (ap (option_map (λ (y : Task). y.handle)) (found name t q)) ∙ named_h in
            let same : h ≡ t.handle = cc in
            absurd (less-own t.handle u d.tasks (ap (λ j. task_of j (filter (λ (y : Task). not (y.handle == t.handle)) d.tasks)) (sym same) ∙ at));
      })

  start-own : (name : List ℕ) (buffer : ℕ) (manner : Manner) → OnGrant (Own (λ r. c) (Some d.next_handle)) (start_task d name buffer manner)
  unfolding start_task slot_begin
  start-own name buffer manner =
      granted-past _ _ _ λ x. granted-past _ _ _ λ y. granted-past _ _ _ λ z.
      granted-with {Q = λ s. s ≡ new_slot} _ (granted-unless _ _ _ λ room. granted refl) λ s fresh.
      let new : Task = record {
        handle = d.next_handle;
        name = name;
        buffer = buffer;
        manner = manner;
        slot = s;
        sending = [];
        taking = [];
        last_sent = None;
      } in
      granted (record {
        own = λ h u next_h at.
            let same : h ≡ d.next_handle = cc in
            let that : new ≡ u = more-own new u d.tasks (none-later d.next_handle d.next_handle d.tasks is.handles (omega arith))
            (ap (λ j. task_of j (d.tasks ++ new ∷ [])) (sym same) ∙ at) in
            subst (λ (v : Task). Accounts (c h) (buffers_of v.slot) v.taking) that
            (subst (λ (v : Slot). Accounts (c h) (buffers_of v) []) (sym fresh)
            (record { each = λ p. is-vacant (c h p) 0 (w.born h p (omega (arith, same))) refl }));
      })

  -- ---- all commands

  -- a command that is refused, or granted
  own-else : {claims : Reply → Claims} {k : Option ℕ} {r : Granted Answer} → ((refusal : Refusal) → claims (reply.Refused refusal) ≡ c) →
      OnGrant (Own claims k) r → Own claims k (or_else r (λ refusal. (d, reply.Refused refusal)))
  own-else {claims} {k} same all =
      or_else-keeps (Own claims k) _ all (λ refusal. record {
        own = λ h t named_h at. subst (λ (x : Claims). Accounts (x h) (buffers_of t.slot) t.taking) (sym (same refusal)) (w.each h t at);
      })

  abbrev Each : Command → Type 0
  Each b = (h : ℕ) (t : Task) → task_at h (step d b).0 ≡ Some t →
      Accounts (claims_next c d b (step d b).1 h) (buffers_of t.slot) t.taking

  -- other tasks are as they were, and so are their claims
  other-each : (b : Command) (h : ℕ) → poller b d ≡ None → actor b d ≢ Some h → moves_to b ≢ Some h → (t : Task) → task_at h (step d b).0 ≡ Some t →
      Accounts (claims_next c d b (step d b).1 h) (buffers_of t.slot) t.taking
  other-each b h p ne away t at =
      subst (λ m. Accounts m (buffers_of t.slot) t.taking) (sym (claims-other c d h b ne (step d b).1))
      (w.each h t (sym (leaves-others d b h p ne away) ∙ at))

  -- whose a handle is
  whose : (k : Option ℕ) (h : ℕ) → (k ≡ Some h) ⊎ (k ≢ Some h)
  whose None h = inr (λ q. none_some None refl q)
  whose (Some k) h = elim (eqb_tells k h) [ inl a ↦ inl (ap Some a.1) | inr a ↦ inr (λ q. a.1 (let z : k ≡ h = cc in z)) ]

  by-own : (b : Command) → poller b d ≡ None → moves_to b ≡ None → Own (claims_next c d b) (actor b d) (step d b) → Each b
  by-own b p still all h t at = elim (whose (actor b d) h) [
    | inl same ↦ all.own h t same at
    | inr ne ↦ other-each b h p ne (λ q. none_some (moves_to b) still q) t at
  ]

  none-own : {claims : Reply → Claims} {a : Answer} → Own claims None a
  none-own = record { own = λ h t q at. absurd (none_some None refl q) }

  -- a poll fills a buffer of another task at most
  filled : (s : Task) (h : ℕ) (before now : Option Task) (said : Reply) → FillsBuffer s h before now said → task_at h d ≡ before →
      (t : Task) → now ≡ Some t → Accounts (c h) (buffers_of t.slot) t.taking
  filled s h before now said fills was t at =
      let new : List ℕ = take fills.n (drop fills.out.count fills.source) in
      let few : length new ≤ fills.n = simp length-take (omega arith) in
      let room = fills.room in
      let old = w.each h fills.receiver (was ∙ fills.was) in
      let that : Some (record fills.receiver { slot = with_heap_bytes fills.buffer 0 new fills.receiver.slot }) ≡ Some t = sym fills.filled ∙ at in
      let same : (record fills.receiver { slot = with_heap_bytes fills.buffer 0 new fills.receiver.slot }) ≡ t = cc in
      subst (λ (u : Task). Accounts (c h) (buffers_of u.slot) u.taking) same
      (sized-accounts (λ p. at-address fills.into.buffer fills.receiver.slot fills.buffer new fills.buffer_is (omega (arith, few, room)) p) old)

  -- or a range that it named
  ranged : (s : Task) (h : ℕ) (before now : Option Task) (said : Reply) → FillsRange s h before now said → task_at h d ≡ before →
      (t : Task) → now ≡ Some t → Accounts (c h) (buffers_of t.slot) t.taking
  ranged s h before now said fills was t at =
      let new : List ℕ = take fills.n (drop fills.out.count fills.source) in
      let slot : Slot = written_in fills.address new (buffer_at fills.address fills.room fills.receiver.slot) fills.receiver.slot in
      let portion = fills.portion in
      let few : length new ≤ fills.room = simp length-take (omega arith) in
      let old = w.each h fills.receiver (was ∙ fills.was) in
      let that : Some (record fills.receiver { slot = slot }) ≡ Some t = sym fills.filled ∙ at in
      let same : (record fills.receiver { slot = slot }) ≡ t = cc in
      subst (λ (u : Task). Accounts (c h) (buffers_of u.slot) u.taking) same
      (sized-accounts (λ p. written-sizes fills.address fills.room fills.receiver.slot new few p) old)

  poll-each : (name : List ℕ) → Each (command.Poll name)
  poll-each name = go (find (has_name name) d.tasks) refl
    where
      go : (v : Option Task) → find (has_name name) d.tasks ≡ v → Each (command.Poll name)
      go None q = by-own (command.Poll name) q refl (own-else (λ r. refl) (poll-own name))
      go (Some s) q = λ h t at. elim (eqb_tells s.handle h) [
        | inl a ↦ (own-else {claims = λ r. c} (λ r. refl) (poll-own name)).own h t (ap (option_map (λ (y : Task). y.handle)) q ∙ ap Some a.1) at
        | inr a ↦ elim (polls-fill d f g name s h q a.1) [
          | inl same ↦ w.each h t (sym same ∙ at)
          | inr fills ↦ elim fills [
            | inl buffer ↦ filled s h _ _ _ buffer refl t at
            | inr range ↦ ranged s h _ _ _ range refl t at
          ]
        ]
      ]

  -- bytes that are moved to another task leave the sizes of its blocks
  transfer-each : (name : List ℕ) (x k y n : ℕ) → Each (command.Raw (raw.Transfer name x k y n))
  transfer-each name x k y n h t at =
      let b : Command = command.Raw (raw.Transfer name x k y n) in
      elim (whose (actor b d) h) [
        | inl same ↦ (own-else {claims = λ r. c} (λ r. refl) (transfer-own name x k y n)).own h t same at
        | inr ne ↦ elim (eqb_tells k h) [
          | inr away ↦ other-each b h refl ne (λ q. away.1 (let z : k ≡ h = cc in z)) t at
          | inl here ↦ moved (task_at h d) refl here.1
        ]
      ]
    where
      b : Command
      b = command.Raw (raw.Transfer name x k y n)

      moved : (o : Option Task) → task_at h d ≡ o → k ≡ h → Accounts (c h) (buffers_of t.slot) t.taking
      moved None e same = absurd (no_task e at)
        where
          no_task : task_at h d ≡ None → task_at h (step d b).0 ≡ Some t → ⊥
          no_task none there = gone d name x k y n h t none there
      moved (Some r) e same =
          elim (subst (λ j. let now : Option Task = task_at j (step d (command.Raw (raw.Transfer name x k y n))).0 in
          (now ≡ Some r) ⊎ MovesInto d name x y n r now) same (moves-fit d name x k y n r (ap (λ j. task_at j d) same ∙ e))) [
            | inl still ↦ let one : r ≡ t = let z = sym still ∙ at in cc in
                subst (λ (u : Task). Accounts (c h) (buffers_of u.slot) u.taking) one (w.each h r e)
            | inr m ↦
                let new : List ℕ = read_at x n m.sender.slot in
                let one : (record r { slot = written_held y new r.slot }) ≡ t = let z = sym m.moved ∙ at in cc in
                subst (λ (u : Task). Accounts (c h) (buffers_of u.slot) u.taking) one
                (sized-accounts (λ p. at-sizes y r.slot new p) (w.each h r e))
          ]

  raw-each : (b : RawCommand) → Each (command.Raw b)
  raw-each (raw.Send name recorded h ref a bytes) =
      by-own (command.Raw (raw.Send name recorded h ref a bytes)) refl refl
      (own-else (λ r. refl) (send-own name recorded h ref a (unwrap_or bytes [])))
  raw-each (raw.Write name x bytes) = by-own (command.Raw (raw.Write name x bytes)) refl refl (own-else (λ r. refl) (write-own name x bytes))
  raw-each (raw.Transfer name x h y n) = transfer-each name x h y n
  raw-each (raw.Ack name) = by-own (command.Raw (raw.Ack name)) refl refl (own-else (λ r. refl) (ack-own name))
  raw-each (raw.Spool name k h ref) = by-own (command.Raw (raw.Spool name k h ref)) refl refl (own-else (λ r. refl) (spool-own name k h ref))
  raw-each (raw.Scrap name k) = by-own (command.Raw (raw.Scrap name k)) refl refl (own-else (λ r. refl) (scrap-own name k))

  step-each : (b : Command) → Each b
  step-each (command.Task name buffer manner) =
      by-own (command.Task name buffer manner) refl refl (own-else (λ r. refl) (start-own name buffer manner))
  step-each (command.Kill name) = by-own (command.Kill name) refl refl (own-else (λ r. refl) (kill-own name))
  step-each (command.Alloc name k n) = by-own (command.Alloc name k n) refl refl (own-else (λ r. refl) (alloc-own name k n))
  step-each (command.Load name k file) = by-own (command.Load name k file) refl refl (own-else (λ r. refl) (load-own name k file))
  step-each (command.Put name k offset bytes) =
      by-own (command.Put name k offset bytes) refl refl (own-else (λ r. refl) (put-own name k offset bytes))
  step-each (command.Free name k) = by-own (command.Free name k) refl refl (own-else (λ r. refl) (free-own name k))
  step-each (command.Extend name k n) = by-own (command.Extend name k n) refl refl (own-else (λ r. refl) (extend-own name k n))
  step-each (command.Mid name k offset by) = by-own (command.Mid name k offset by) refl refl (own-else (λ r. refl) (mid-own name k offset by))
  step-each (command.Claim name n) = by-own (command.Claim name n) refl refl (own-else (λ r. refl) (claim-own name n))
  step-each (command.Release name a) = by-own (command.Release name a) refl refl (own-else (λ r. refl) (release-own name a))
  step-each (command.Resize name a by) = by-own (command.Resize name a by) refl refl (own-else (λ r. refl) (resize-own name a by))
  step-each (command.Budge name on) = by-own (command.Budge name on) refl refl (own-else (λ r. refl) (budge-own name on))
  step-each (command.Save name k to leaf) = by-own (command.Save name k to leaf) refl refl (own-else (λ r. refl) (save-own name k to leaf))
  step-each (command.Poll name) = poll-each name
  step-each (command.CancelIn name id) = by-own (command.CancelIn name id) refl refl (own-else (λ r. refl) (cancel_in-own name id))
  step-each (command.CancelOut name id) = by-own (command.CancelOut name id) refl refl (own-else (λ r. refl) (cancel_out-own name id))
  step-each (command.Repeat name) = by-own (command.Repeat name) refl refl (own-else (λ r. refl) (repeat-own name))
  step-each (command.Raw b) = raw-each b
  step-each b = by-own b refl refl none-own

  -- handles go up
  next-up : (b : Command) → d.next_handle ≤ (step d b).0.next_handle
  next-up b = rise-below (λ (n : ℕ). n) d.next_handle (step d b).0.next_handle _ (numbers-go-up d (b ∷ [])).handles

  step-holds : (b : Command) → Holds (claims_next c d b (step d b).1) (step d b).0
  step-holds b = record {
    born = λ h p low.
        let late : d.next_handle ≤ h = let up = next-up b in omega (arith, up, low) in
        ap (λ m. m p) (claims-late c d h b is.handles late (step d b).1) ∙ w.born h p late;
    each = step-each b;
  }

-- ---- lists of commands

run-holds : (cs : List Command) → all_in_range cs ≡ true → (c : Claims) (d : Desk) {o : Offers} {e : Edits} {R : Gave} → Known o e R (view d) → IsDesk d →
    Holds c d → Holds (claims_from c d cs) (after d cs)
run-holds [] ranged c d g is w = w
run-holds (b ∷ cs) ranged c d g is w =
    let one : in_range b ≡ true = and_left (in_range b) _ ranged in
    run-holds cs (and_right (in_range b) _ ranged) (claims_next c d b (step d b).1) (step d b).0 (keeps b one d g (fits d is))
    (step-keeps d b one is) (step-holds c d g is w b)

-- ---- heaps without blocks

-- tidy segments among which no block is are none
no-segments : (place : ℕ) (hole : Bool) (ss : List Segment) → IsTidy hole ss → ((a : ℕ) → bytes_at a place ss ≡ None) → ss ≡ []
no-segments place false [] tidy none = refl
no-segments place true [] tidy none = refl
no-segments place hole (Used bytes ∷ ss) tidy none = absurd (elim (eqb_tells (place + 4) (place + 4)) [
  | inl w ↦ let z = rw w.0 at (none (place + 4)) in cc
  | inr w ↦ w.1 refl
])
no-segments place true (Hole n ∷ ss) tidy none = absurd tidy
no-segments place false (Hole n ∷ ss) tidy none = ends ss tidy.2 (no-segments (place + n) true ss tidy.2 none)
  where
    ends : (ss : List Segment) → IsTidy true ss → ss ≡ [] → Hole n ∷ ss ≡ []
    ends [] tidy q = absurd tidy
    ends (g ∷ ss) tidy q = absurd cc

-- ---- the law

size-none : (o : Option (List ℕ)) → size_in o ≡ None → o ≡ None
size-none None q = refl
size-none (Some b) q = absurd cc

module _ (claims : ℕ → Option ℕ) (t : Task) (all : Accounts claims (buffers_of t.slot) t.taking) (slot : IsSlot t.slot) where
  sizes : (p : ℕ) → IsAccounted (size_at t.slot p) (claims p) (holders p t.taking)
  sizes p = subst (λ o. IsAccounted o (claims p) (holders p t.taking)) (sym (size-is t.slot p)) (all.each p)

  settled : HoldsNone t → (p : ℕ) → size_at t.slot p ≡ claims p
  settled idle p = alike (size_at t.slot p) (claims p) (subst (IsAccounted (size_at t.slot p) (claims p)) (none-hold p t.taking (idle p)) (sizes p))
    where
      alike : (block claim : Option ℕ) → IsAccounted block claim 0 → block ≡ claim
      alike None None w = refl
      alike None (Some n) w = absurd (let z = w.count in omega (arith, z))
      alike (Some k) None w = absurd (let z = w.count in omega (arith, z))
      alike (Some k) (Some n) w = w.size n refl

  no-bytes : HoldsNone t → ((p : ℕ) → claims p ≡ None) → (a : ℕ) → bytes_at a first_place t.slot.heap.segments ≡ None
  no-bytes idle none a =
      let p : ℕ = heap_start + a in
      let gone : buffers_of t.slot p ≡ None = size-none _ (sym (size-is t.slot p) ∙ settled idle p ∙ none p) in
      let back : p - heap_start ≡ a = omega arith in
      ap (λ j. bytes_at j first_place t.slot.heap.segments) (sym back) ∙ gone

  leaks-none : LeaksNone claims t
  leaks-none = record {
    accounted = sizes;
    settled = settled;
    emptied = λ idle none. no-segments first_place false t.slot.heap.segments slot.heap.tidy (no-bytes idle none);
  }

pub always-leaks-none : AlwaysLeaksNone
always-leaks-none pool handle ref files cs from ranged h t at =
    let d : Desk = start_with pool files handle ref in
    let is : IsDesk d = start-is pool handle ref files from in
    let first = start_stands handle ref (omega (arith, from.first_ref)) in
    let w = run-holds cs ranged (λ k p. None) d first is (record { born = λ k p low. refl; each = λ k u q. absurd (none_some None refl q) }) in
    leaks-none (claimed d cs h) t (w.each h t at) ((fits (after d cs) (after-is d cs ranged is)).slots h t at)
