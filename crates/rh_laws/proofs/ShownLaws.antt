-- Each command leaves tasks with no bytes but those that they may show, and so does every list of commands.
use Rattle.rh_laws.proofs.Common.{[], Acknowledge, after, all-mono, all_in_range, AllByRecursion, alloc, and_left, and_right, Answer, ap, append-all, arith}
use Rattle.rh_laws.proofs.Common.{at_place, Body, budge, Bytes, bytes_of, cancel_in, cancel_out, change, Changed, claim, Command, Desk, eqb_tells, extend}
use Rattle.rh_laws.proofs.Common.{false, field_is, find, first_is, fits, Fits, Flex, Follows, found_name, free, free_pages, Granted, granted, granted-on}
use Rattle.rh_laws.proofs.Common.{granted-past, granted-then, granted-with, Has, has_name, has_of, IfSome, in_areas, in_made, in_module, in_nothing, in_range}
use Rattle.rh_laws.proofs.Common.{in_slot, inl, inr, is_equal, is_found, IsDesk, IsOnMemory, keeps, kill, Letter, List, live_of, load, make, map, mid, named}
use Rattle.rh_laws.proofs.Common.{None, not, Offers, Ok, OnGrant, Option, option_map, or_else, or_else-keeps, Outgoing, Parcel, poll, poll_taken, Post}
use Rattle.rh_laws.proofs.Common.{post_join, post_poll, put, Recorded, refl, release, repeat, Reply, resize, save, Segment, Sending, Slot, slot_begin}
use Rattle.rh_laws.proofs.Common.{slot_block, Some, Split, start-is, start_task, start_with, step, step-keeps, subst, sym, Task, task_at, task_of, the_task}
use Rattle.rh_laws.proofs.Common.{Told, true, view, with_delivered, with_slot, ℕ, ◌++◌, ◌<◌, ◌==◌, ◌∙◌, ◌∷◌, ◌≡◌, ◌≢◌, ◌≤◌}
use Rattle.rh_defs.specs.declared.command.Command.TheVariants as command
use Rattle.rh_defs.specs.declared.message.Body.TheVariants as body
use Rattle.rh_defs.specs.declared.refusal.Refusal.TheVariants.{NoFile}
use Rattle.rh_defs.specs.declared.reply.Reply.TheVariants as reply
use Rattle.rh_defs.specs.declared.transfer.Outgoing.TheVariants as outgoing
use Rattle.rh_defs.specs.Files.{file_bytes}
use Rattle.rh_defs.specs.Questions.{Listed, show}
use Rattle.rh_defs.proofs.Chains.{grant-holds}
use Rattle.rh_defs.proofs.Changes.{slot_name}
use Rattle.rh_defs.proofs.PostKeeps.{post_poll-kept}
use Rattle.rh_defs.proofs.Lists.{filter-all, find-all, rise-below}
use Rattle.std.specs.List.{flat_map}
use Rattle.rh_laws.proofs.Common.{any-grant, Bool, chosen, either, granted-both, Handled, handled, held_by, if◌then◌else◌, length, next_ref, none_some}
use Rattle.rh_laws.proofs.Common.{NoTask, Scrap, Seat, Taking, unwrap_or, with_task, without_buffer}
use Rattle.rh_defs.specs.declared.raw_command.RawCommand.TheVariants as raw
use Rattle.rh_defs.specs.declared.reply.Outcome.TheVariants as outcome
use Rattle.rh_defs.specs.AnyMessage.{as_read, body_of, read_body}
use Rattle.rh_defs.specs.Commands.{with_released}
use Rattle.rh_defs.specs.Laws.{IsHeld, IsPost}
use Rattle.rh_defs.specs.OutgoingEvents.{scrap_shortage, wider}
use Rattle.rh_defs.specs.Places.{bytes_held, written_held}
use Rattle.rh_defs.specs.Post.{answers_held}
use Rattle.rh_defs.specs.RawCommands.{ack, after_answer, file_held, scrap, send, spool, spool_letter, transfer, write}
use Rattle.rh_defs.specs.RawTasks.{is_raw}
use Rattle.rh_defs.specs.Receiver as receiver
use Rattle.rh_safety.specs.Numbers.{GoUp, refs_in}
use Rattle.rh_safety.specs.RawIds.{Gave, gave_next}
use Rattle.rh_safety.proofs.Keeps.{Stands}
use Rattle.rh_safety.proofs.KeptPolls.{goes_to}
use Rattle.rh_safety.specs.Held.{Edits, edits_next}
use Rattle.rh_safety.specs.Offered.{last_of, offered_again, offered_last, offers_next, source_of}
use Rattle.rh_safety.proofs.Numbers.{numbers-go-up}
use Rattle.rh_safety.proofs.SeenBlocks.{the_block}
use Rattle.rh_safety.proofs.SeenLaws.{block_is, start_stands}
use Rattle.rh_safety.proofs.SeenTasks.{found_task}
use Rattle.rh_safety.proofs.View.{blocks_of, field, of}
use Rattle.rh_laws.specs.Addressed.{addressed_again, addressed_as, addressed_last, Addresses, addresses_next, From, Parties, parties_of, parties_to}
use Rattle.rh_laws.specs.Renaming.{has_byte, renamed, renamed_block, renamed_segment, renamed_slot, renamed_task}
use Rattle.rh_laws.specs.MayShow.{AlwaysShowsOwn, AlwaysShowsOwnMarks, AreAmong, AreOfMarks, may_show, may_show_from, may_show_next, MayShow, range_of}
use Rattle.rh_laws.specs.MayShow.{shows_too}
use Rattle.rh_laws.specs.MayShow.{ShowsOwn, ShowsOwnMarks}
use Rattle.rh_laws.proofs.Addresses.{Agrees, all-has, OutAgrees, TaskAgrees}
use Rattle.rh_laws.proofs.AddressLaws.{step-agrees}
use Rattle.rh_laws.proofs.RenamedHeaps.{bytes-renamed}
use Rattle.rh_laws.proofs.RenamedDesks.{task_at-renamed}
use Rattle.rh_laws.proofs.RenamedLaws.{always-renamed, pass, stay}
use Rattle.rh_laws.proofs.RenamedParts.{follows-test}
use Rattle.rh_laws.proofs.ShownSlots.{alloc-only, AreOnly, before-within, behind-within, block-only, bytes-wider, claim-only, extend-only, fixed-by, free-only}
use Rattle.rh_laws.proofs.ShownSlots.{HasOnly, keeping, mid-only, put-only, release-only, resize-only, slot-wider, Within, without-only, write-only}
use Rattle.rh_laws.proofs.ShownPolls.{death-own, handled-own, HasOwn, HasRefs, HaveOwn, ins-own, IsFor, letter-own, outs-own, polled-own, same-own, slot-own}
use Rattle.rh_laws.proofs.ShownPolls.{answered-own, filed-own, held-for, HoldsFor, letter-sent, put_down-own, Sent, task-own}
use Rattle.rh_laws.proofs.ShownPolls.{taken-for}

-- ---- what a task may show grows

abbrev Grows : MayShow → MayShow → Type 0
Grows may more = (h : ℕ) → Within (may h) (more h)

-- the bytes of the handle itself, and those of another
too-here : (may : MayShow) (t : Task) (bytes : List ℕ) → shows_too may (Some t) (Some bytes) t.handle ≡ may t.handle ++ bytes
too-here may t bytes = elim (eqb_tells t.handle t.handle) [ inl w ↦ rw w.0 refl | inr w ↦ absurd (w.1 refl) ]

too-grows : (may : MayShow) (o : Option Task) (b : Option (List ℕ)) → Grows may (shows_too may o b)
too-grows may None b h x e = e
too-grows may (Some t) None h x e = e
too-grows may (Some t) (Some bytes) h x e = elim (eqb_tells h t.handle) [
  | inl w ↦ rw w.0 (before-within (may t.handle) bytes x (subst (λ j. has_byte x (may j) ≡ true) w.1 e))
  | inr w ↦ rw w.0 e
]

too-stays : (may : MayShow) (t : Task) (bytes : List ℕ) → AreOnly (shows_too may (Some t) (Some bytes) t.handle) bytes
too-stays may t bytes =
    subst (λ l. AreOnly l bytes) (sym (too-here may t bytes))
    (stay (λ b. has_byte b (may t.handle ++ bytes)) bytes (behind-within (may t.handle) bytes))

-- a task that isn't found may show what it could
too-other : (may : MayShow) (o : Option Task) (b : Option (List ℕ)) (h : ℕ) → ((t : Task) → o ≡ Some t → t.handle ≢ h) →
    shows_too may o b h ≡ may h
too-other may None b h ne = refl
too-other may (Some t) None h ne = refl
too-other may (Some t) (Some bytes) h ne = elim (eqb_tells h t.handle) [ inl w ↦ absurd (ne t refl (sym w.1)) | inr w ↦ rw w.0 refl ]

own-wider : (may more : MayShow) → Grows may more → (d : Desk) → HaveOwn may d → HaveOwn more d
own-wider may more grows d g = record {
  all = all-mono {Q = HasOwn more} (λ (t : Task) is. slot-wider (may t.handle) (more t.handle) (grows t.handle) t.slot is) d.tasks g.all;
  file = λ file q. all-mono {Q = IsFor more file} (λ (p : Parcel) is code same.
      bytes-wider (may p.to) (more p.to) (grows p.to) file.bytes (is code same)) d.post.queued (g.file file q);
  hand = λ file q. all-mono {Q = HoldsFor more file} (λ (s : Seat) is p held same.
      bytes-wider (may s.handle) (more s.handle) (grows s.handle) file.bytes (is p held same)) d.post.seats (g.hand file q);
  given = g.given;
}

-- what a command makes of it: nothing, or some task may show some bytes too
data Next (may : MayShow) (d : Desk) : MayShow → Type 0 where
  alike : Next may d may
  given_more : (test : Task → Bool) (b : Option (List ℕ)) → Next may d (shows_too may (find test d.tasks) b)

next-is : (may : MayShow) (d : Desk) (c : Command) (r : Reply) → Next may d (may_show_next may d c r)
next-is may d (command.Put name k offset bytes) reply.Done = given_more (has_name name) (Some bytes)
next-is may d (command.Load name k file) (reply.Block address) = given_more (has_name name) (file_bytes file d.files)
next-is may d (command.Save name k to leaf) (reply.Sent ref) = given_more (has_name to) (source_of (find (has_name name) d.tasks) k)
next-is may d (command.Raw (raw.Write name x bytes)) reply.Done = given_more (has_name name) (Some bytes)
next-is may d (command.Raw (raw.Transfer name x h y n)) reply.Done =
    given_more (λ (t : Task). t.handle == h) (range_of (find (has_name name) d.tasks) x n)
next-is may d (command.Raw (raw.Spool name k h ref)) (reply.Sent given) =
    given_more (λ (t : Task). t.handle == h) (source_of (find (has_name name) d.tasks) k)
next-is may d c r = alike

next-grows : (may : MayShow) (d : Desk) (c : Command) (r : Reply) → Grows may (may_show_next may d c r)
next-grows may d c r = go (next-is may d c r)
  where
    go : {new : MayShow} → Next may d new → Grows may new
    go alike = λ h b e. e
    go (given_more test b) = too-grows may (find test d.tasks) b

-- ---- what was offered to a task it may show

abbrev Covers : Offers → Addresses → MayShow → Type 0
Covers o a may = (id s r : ℕ) (file : List ℕ) → From (a id) s r → o id ≡ Some file → AreOnly (may r) file

covers-wider : {o : Offers} {a : Addresses} (may more : MayShow) → Grows may more → Covers o a may → Covers o a more
covers-wider may more grows covers id s r file from is = bytes-wider (may r) (more r) (grows r) file (covers id s r file from is)

-- one more id that offers something
covers-at : (o : Offers) (a : Addresses) (may : MayShow) (ref : ℕ) (p : Option Parties) (v : Option (List ℕ)) → Covers o a may →
    ((s r : ℕ) (file : List ℕ) → From p s r → v ≡ Some file → AreOnly (may r) file) →
    Covers (at_place o ref v) (at_place a ref p) may
covers-at o a may ref p v covers new id s r file = elim (eqb_tells id ref) [
  | inl w ↦ rw w.0 (new s r file)
  | inr w ↦ rw w.0 (covers id s r file)
]

-- a save
saved-stays : (may : MayShow) (o p : Option Task) (b : Option (List ℕ)) (s r : ℕ) (file : List ℕ) → From (parties_of o p) s r → b ≡ Some file →
    AreOnly (shows_too may p b r) file
saved-stays may (Some x) (Some y) (Some bytes) s r file from is =
    let same : y.handle ≡ r = ap receiver_in from in
    let one : bytes ≡ file = cc in
    subst (λ j. AreOnly (shows_too may (Some y) (Some bytes) j) file) same
    (subst (λ l. AreOnly (shows_too may (Some y) (Some bytes) y.handle) l) one (too-stays may y bytes))
  where
    receiver_in : Option Parties → ℕ
    receiver_in None = 0
    receiver_in (Some p) = p.receiver
saved-stays may None p b s r file from is = absurd cc
saved-stays may (Some x) None b s r file from is = absurd cc
saved-stays may (Some x) (Some y) None s r file from is = absurd cc

-- one more id that offers nothing
covers-named : (o : Offers) (a : Addresses) (may : MayShow) (ref : ℕ) (p : Option Parties) → o ref ≡ None → Covers o a may →
    Covers o (at_place a ref p) may
covers-named o a may ref p none covers id s r file = elim (eqb_tells id ref) [
  | inl w ↦ λ from there. absurd (none_some (o ref) none (subst (λ i. o i ≡ Some file) w.1 there))
  | inr w ↦ rw w.0 (covers id s r file)
]

as-covers : (o : Offers) (a : Addresses) (may : MayShow) (ref : ℕ) (p : Option Parties) (b : Body) → o ref ≡ None → Covers o a may →
    Covers o (addressed_as a ref p b) may
as-covers o a may ref p (body.DataSave file) none covers = covers-named o a may ref p none covers
as-covers o a may ref p b none covers = covers

again-covers : (o : Offers) (a : Addresses) (may : MayShow) (ref : ℕ) (last : Option (Letter × ℕ)) → o ref ≡ None → Covers o a may →
    Covers (offered_last o ref last) (addressed_last a ref last) may
again-covers o a may ref None none covers = covers
again-covers o a may ref (Some last) none covers = go last.0.body
  where
    go : (b : Body) → Covers (offered_again o ref last.1 b) (addressed_again a ref last.1 b) may
    go (body.DataSave file) = covers-at o a may ref (a last.1) (o last.1) covers (λ s r bytes from is. covers last.1 s r bytes from is)
    go (body.Other other) = as-covers o a may ref (a last.1) (read_body (body.Other other)) none covers
    go b = covers

next-covers : (o : Offers) (a : Addresses) (may : MayShow) (d : Desk) (c : Command) (r : Reply) →
    ((ref : ℕ) → r ≡ reply.Sent ref → o ref ≡ None) → Covers o a may →
    Covers (offers_next o d c r) (addresses_next a d c r) (may_show_next may d c r)
next-covers o a may d (command.Save name k to leaf) (reply.Sent ref) fresh covers =
    let more : MayShow = shows_too may (find (has_name to) d.tasks) (source_of (find (has_name name) d.tasks) k) in
    covers-at o a more ref _ _ (covers-wider may more (too-grows may (find (has_name to) d.tasks) _) covers)
    (saved-stays may (find (has_name name) d.tasks) (find (has_name to) d.tasks) (source_of (find (has_name name) d.tasks) k))
next-covers o a may d (command.Repeat name) (reply.Sent ref) fresh covers =
    again-covers o a may ref (last_of (find (has_name name) d.tasks)) (fresh ref refl) covers
next-covers o a may d (command.Raw (raw.Send name recorded h answers act bytes)) (reply.Sent ref) fresh covers =
    as-covers o a may ref (parties_to (find (has_name name) d.tasks) h) (read_body (body_of act (unwrap_or bytes []))) (fresh ref refl) covers
next-covers o a may d c r fresh covers = covers-wider may _ (next-grows may d c r) covers

-- ---- commands

-- those that put and load nothing, and aren't polls
abbrev IsPlain : Command → Type 0
IsPlain (command.Put name k offset bytes) = ⊥
IsPlain (command.Load name k file) = ⊥
IsPlain (command.Poll name) = ⊥
IsPlain (command.Raw (raw.Write name x bytes)) = ⊥
IsPlain (command.Raw (raw.Transfer name x h y n)) = ⊥
IsPlain (command.Raw (raw.Spool name k h ref)) = ⊥
IsPlain c = Unit {0}

-- the scrap file that a task loads is there, and it holds the DataLoad
file-held-is : (held : Option Parcel) (o : Option Scrap) (file : Scrap) → file_held held o ≡ Some file →
    (o ≡ Some file) × ((p : Parcel) × ((held ≡ Some p) × (p.message.my_ref ≡ file.load)))
file-held-is held None file q = absurd (none_some None refl q)
file-held-is held (Some f) file q = go (answers_held f.load held) refl q
  where
    of_held : (ref : ℕ) (held : Option Parcel) → answers_held ref held ≡ true → (p : Parcel) × ((held ≡ Some p) × (p.message.my_ref ≡ ref))
    of_held ref None e = absurd (let z : Bool.false ≡ true = e in (cc))
    of_held ref (Some p) e = (p, (refl, is_equal _ _ e))

    go : (b : Bool) → answers_held f.load held ≡ b → (if b then Some f else None) ≡ Some file →
        (Some f ≡ Some file) × ((p : Parcel) × ((held ≡ Some p) × (p.message.my_ref ≡ file.load)))
    go false e z = absurd (none_some None refl z)
    go true e z =
        let same : f ≡ file = cc in
        (z, of_held file.load held (subst (λ (y : Scrap). answers_held y.load held ≡ true) same e))

module _ (may : MayShow) (d : Desk) (g : HaveOwn may d) where
  -- a buffer that goes with a record
  released-own : (h : ℕ) (o : Option Taking) → HaveOwn may (with_released h o d)
  released-own h None = g
  released-own h (Some f) = task-own h (λ (t : Task). record t { slot = without_buffer f.buffer t.slot }) (λ t same is. without-only is f.buffer) d g

  named-own : (name : List ℕ) (t : Task) → named name d ≡ Ok t → HasOwn may t
  named-own name t q =
      subst (λ (o : Option Task). IfSome o (HasOwn may)) (found_name d name t q) (find-all (HasOwn may) (has_name name) d.tasks g.all)

  -- after an answer
  record Leaves (x : Answer) : Type 0 where
    desk : HaveOwn may x.0

  leaves : {x : Answer} → HaveOwn may x.0 → OnGrant Leaves (Ok x)
  leaves is = granted (record { desk = is })

  -- another slot for the task that was found
  slot-leaves : (t : Task) (s : Slot) → HasOnly (may t.handle) s → {said : Reply} → OnGrant Leaves (Ok (with_slot t.handle s d, said))
  slot-leaves t s stays = leaves (slot-own t.handle s stays d g)

  -- a command on memory that is no task's
  changed-leaves : {c : Command} → slot_name c ≡ None → (x : Answer) → Changed c d x → Leaves x
  changed-leaves none _ (in_slot name t s own e is) = absurd (let z : None ≡ Some name = sym none ∙ own in cc)
  changed-leaves none _ (in_module h is) = record { desk = same-own _ refl refl refl refl refl g }
  changed-leaves none _ (in_areas areas is) = record { desk = same-own _ refl refl refl refl refl g }
  changed-leaves none _ (in_made areas is) = record { desk = same-own _ refl refl refl refl refl g }
  changed-leaves none _ (in_nothing is) = record { desk = g }

  memory-leaves : (c : Command) → IsOnMemory c → slot_name c ≡ None → OnGrant Leaves (change d c)
  memory-leaves c is none = granted-on d c is (changed-leaves none)

  change-leaves : (c : Command) → IsPlain c → OnGrant Leaves (change d c)
  unfolding start_task slot_begin post_join kill alloc free extend mid claim release resize budge save repeat cancel_in cancel_out make send ack scrap
  change-leaves (command.Put name k offset bytes) plain = absurd plain
  change-leaves (command.Load name k file) plain = absurd plain
  change-leaves (command.Poll name) plain = absurd plain
  change-leaves (command.Task name buffer manner) plain =
      granted-past _ _ _ λ x. granted-past _ _ _ λ y. granted-past _ _ _ λ z.
      granted-with _ (fixed-by {g = renamed_slot (keeping (may d.next_handle))} (follows-test _ _ _ _ _ refl (Follows.both refl)) refl) λ s stays.
      leaves (record {
        all = append-all (HasOwn may) d.tasks _ g.all (record { same = stays });
        file = g.file;
        hand = λ file q. append-all (HoldsFor may file) d.post.seats _ (g.hand file q) (λ p held same. absurd cc);
        given = g.given;
      })
  change-leaves (command.Kill name) plain =
      granted-then _ _ λ t e. let dead = death-own t.handle d g in
      leaves (record {
        all = filter-all (HasOwn may) (λ (other : Task). not (other.handle == t.handle)) d.tasks g.all;
        file = dead.file;
        hand = dead.hand;
        given = dead.given;
      })
  change-leaves (command.Alloc name k n) plain =
      granted-then _ _ λ t e. granted-with _ (alloc-only (named-own name t e) (free_pages d) k n) λ p only. slot-leaves t p.0 only
  change-leaves (command.Free name k) plain =
      granted-then _ _ λ t e. granted-then _ _ λ b idle. granted-with _ (free-only (named-own name t e) k) λ s only. slot-leaves t s only
  change-leaves (command.Extend name k n) plain =
      granted-then _ _ λ t e. granted-then _ _ λ b idle.
      granted-with _ (extend-only (named-own name t e) (free_pages d) k n) λ s only. slot-leaves t s only
  change-leaves (command.Mid name k offset by) plain =
      granted-then _ _ λ t e. granted-then _ _ λ b idle.
      granted-with _ (mid-only (named-own name t e) (free_pages d) k offset by) λ s only. slot-leaves t s only
  change-leaves (command.Claim name n) plain =
      granted-then _ _ λ t e. granted-with _ (claim-only (named-own name t e) (free_pages d) n) λ p only. slot-leaves t p.0 only
  change-leaves (command.Release name address) plain =
      granted-then _ _ λ t e. granted-then _ _ λ b idle.
      granted-with _ (release-only (named-own name t e) address) λ s only. slot-leaves t s only
  change-leaves (command.Resize name address delta) plain =
      granted-then _ _ λ t e. granted-then _ _ λ b idle.
      granted-with _ (resize-only (named-own name t e) (free_pages d) address delta) λ p only. slot-leaves t p.0 only
  change-leaves (command.Budge name on) plain =
      granted-then _ _ λ t e. slot-leaves t _ (record { same = ap (λ (s : Slot). record s { budging = on }) (named-own name t e).same })
  change-leaves (command.Save name k to leaf) plain =
      granted-then _ _ λ t e. granted-then _ _ λ b idle. granted-past _ _ _ λ full. granted-then _ _ λ r i.
      granted-with _ (letter-own _ d g) λ sent all. granted-past _ _ _ λ plays. leaves (outs-own t.handle _ sent all)
  change-leaves (command.Repeat name) plain =
      granted-then _ _ λ t e. granted-then _ _ λ last f. granted-with _ (letter-own _ d g) λ sent all.
      leaves (chosen (HaveOwn may) (is_raw t.manner) (after_answer sent) sent (answered-own sent all) all)
  change-leaves (command.CancelIn name id) plain =
      granted-then _ _ λ t e. granted-then _ _ λ records f.
      leaves (ins-own t.handle _ _ (released-own t.handle (receiver.released_by id t.taking)))
  change-leaves (command.CancelOut name id) plain = granted-then _ _ λ t e. granted-then _ _ λ records f. leaves (outs-own t.handle _ d g)
  change-leaves (command.Make most) plain = granted-past _ _ _ λ x. granted-past _ _ _ λ y. leaves (same-own _ refl refl refl refl refl g)
  change-leaves (command.Raw (raw.Write name x bytes)) plain = absurd plain
  change-leaves (command.Raw (raw.Transfer name x h y n)) plain = absurd plain
  change-leaves (command.Raw (raw.Spool name k h ref)) plain = absurd plain
  change-leaves (command.Raw (raw.Send name recorded h ref a bytes)) plain =
      granted-then _ _ λ t e. granted-with _ (letter-own _ d g) λ sent all. granted-past _ _ _ λ its. granted-past _ _ _ λ was.
      leaves (answered-own sent all)
  change-leaves (command.Raw (raw.Ack name)) plain =
      granted-then _ _ λ t e. granted-past _ _ _ λ its. leaves (put_down-own t.handle d g)
  change-leaves (command.Raw (raw.Scrap name k)) plain =
      granted-then _ _ λ t e. granted-then _ _ λ file f.
      let there = file-held-is (held_by t.handle d.post.seats) d.scrap file (is_found _ NoFile file f) in
      granted-with _ (alloc-only (named-own name t e) (free_pages d) k (length file.bytes)) λ p room.
      granted-with _ (put-only room k 0 file.bytes (held-for t.handle d g file there.0 there.1.0 there.1.1.0 there.1.1.1)) λ s stays.
      granted-past _ _ _ λ its. slot-leaves t s stays
  change-leaves c plain = memory-leaves c tt refl

-- ---- commands that give a task bytes of its own

module _ (may : MayShow) (d : Desk) (g : HaveOwn may d) where
  -- after an answer, by what tasks may show then
  record Gives (c : Command) (x : Answer) : Type 0 where
    desk : HaveOwn (may_show_next may d c x.1) x.0

  -- the task may show the bytes too
  module _ (t : Task) (bytes : List ℕ) where
    all-wider : HaveOwn (shows_too may (Some t) (Some bytes)) d
    all-wider = own-wider may _ (too-grows may (Some t) (Some bytes)) d g

    task-wider : HasOwn may t → HasOnly (shows_too may (Some t) (Some bytes) t.handle) t.slot
    task-wider own = slot-wider (may t.handle) _ (too-grows may (Some t) (Some bytes) t.handle) t.slot own

  put-gives : (name : List ℕ) (k offset : ℕ) (bytes : List ℕ) → OnGrant (Gives (command.Put name k offset bytes)) (put d name k offset bytes)
  unfolding put
  put-gives name k offset bytes =
      granted-then _ _ λ t e. granted-then _ _ λ b idle.
      granted-with _ (put-only (task-wider t bytes (named-own may d g name t e)) k offset bytes (too-stays may t bytes)) λ s stays.
      granted (record {
        desk = subst (λ o. HaveOwn (shows_too may o (Some bytes)) (with_slot t.handle s d)) (sym (found_name d name t e))
            (slot-own t.handle s stays d (all-wider t bytes));
      })

  load-gives : (name : List ℕ) (k : ℕ) (file : List ℕ) → OnGrant (Gives (command.Load name k file)) (load d name k file)
  unfolding load
  load-gives name k file =
      granted-then _ _ λ t e. granted-then _ _ λ entry i.
      let bytes : List ℕ = entry.1 in
      granted-with _ (alloc-only (task-wider t bytes (named-own may d g name t e)) (free_pages d) k _) λ p there.
      granted-with _ (put-only there k 0 bytes (too-stays may t bytes)) λ s stays.
      granted (record {
        desk = subst (λ o. HaveOwn (shows_too may o (file_bytes file d.files)) (with_slot t.handle s d)) (sym (found_name d name t e))
            (subst (λ v. HaveOwn (shows_too may (Some t) v) (with_slot t.handle s d))
            (sym (ap (option_map (λ (z : List ℕ × List ℕ). z.1)) (is_found _ NoFile entry i)))
            (slot-own t.handle s stays d (all-wider t bytes)));
      })

  write-gives : (name : List ℕ) (x : ℕ) (bytes : List ℕ) → OnGrant (Gives (command.Raw (raw.Write name x bytes))) (write d name x bytes)
  unfolding write
  write-gives name x bytes =
      granted-then _ _ λ t e. granted-past _ _ _ λ fits. granted-past _ _ _ λ its.
      granted (record {
        desk = subst (λ o. HaveOwn (shows_too may o (Some bytes)) (with_slot t.handle (written_held x bytes t.slot) d)) (sym (found_name d name t e))
            (slot-own t.handle _ (write-only (task-wider t bytes (named-own may d g name t e)) x bytes (too-stays may t bytes)) d
            (all-wider t bytes));
      })

  -- bytes that are moved to another task
  transfer-gives : (name : List ℕ) (x h y n : ℕ) → OnGrant (Gives (command.Raw (raw.Transfer name x h y n))) (transfer d name x h y n)
  unfolding transfer
  transfer-gives name x h y n =
      granted-then _ _ λ t e. granted-past _ _ _ λ open_. granted-then _ _ λ r i. granted-past _ _ _ λ its.
      let bytes : List ℕ = bytes_held x n t.slot in
      let more : MayShow = shows_too may (Some r) (Some bytes) in
      let new : Desk = with_task r.handle (λ (u : Task). record u { slot = written_held y bytes u.slot }) d in
      let own : HaveOwn more new = task-own r.handle (λ (u : Task). record u { slot = written_held y bytes u.slot })
      (λ u same is. write-only is y bytes (subst (λ j. AreOnly (more j) bytes) (sym same) (too-stays may r bytes))) d (all-wider r bytes) in
      granted (record {
        desk = subst (λ o. HaveOwn (shows_too may o (range_of (find (has_name name) d.tasks) x n)) new) (sym (is_found (task_at h d) NoTask r i))
            (subst (λ o. HaveOwn (shows_too may (Some r) (range_of o x n)) new) (sym (found_name d name t e)) own);
      })

  -- a block that becomes the scrap file
  spool-gives : Fits d → HasRefs d → (name : List ℕ) (k h ref : ℕ) → OnGrant (Gives (command.Raw (raw.Spool name k h ref))) (spool d name k h ref)
  unfolding spool
  spool-gives fit refs name k h ref =
      granted-then _ _ λ t e. granted-then _ _ λ b i. granted-past _ _ _ λ none. granted-both _ (any-grant _) λ x u. granted-past _ _ _ λ fits.
      let bytes : List ℕ = b.here.bytes in
      let wide : Desk = wider (scrap_shortage (length bytes) d) d in
      let l : Letter = spool_letter t.handle h ref (length bytes) in
      let from : source_of (Some t) k ≡ Some bytes = ap (option_map (λ (b : Split Flex). b.here.bytes)) (the_block k t.slot b i) in
      granted-then _ _ λ sent s. granted-past _ _ _ λ its. granted-past _ _ _ λ was.
      let r = there h (task_at h d) refl (sym (fit.seats h) ∙ goes_to d wide sent l h refl refl s) in
      let more : MayShow = shows_too may (Some r.0) (Some bytes) in
      let same : r.0.handle ≡ h = is_equal _ _ (first_is (λ (y : Task). y.handle == h) d.tasks r.0 r.1).1 in
      let w : Sent more l wide sent = grant-holds (letter-sent l wide (same-own wide refl refl refl refl refl (all-wider r.0 bytes))) s in
      let own = filed-own more l d sent bytes refs (record { own = w.own; block = w.block; queued = w.queued; next = w.next; seats = w.seats })
      (subst (λ j. AreOnly (more j) bytes) same (too-stays may r.0 bytes)) in
      granted (record {
        desk = subst (λ o. HaveOwn (shows_too may o (source_of (find (has_name name) d.tasks) k)) (filed bytes sent)) (sym r.1)
            (subst (λ o. HaveOwn (shows_too may (Some r.0) (source_of o k)) (filed bytes sent)) (sym (found_name d name t e))
            (subst (λ v. HaveOwn (shows_too may (Some r.0) v) (filed bytes sent)) (sym from) own));
      })
    where
      filed : List ℕ → Desk → Desk
      filed bytes sent = record sent { scrap = Some (record { load = next_ref d; bytes = bytes }) }

      there : (h : ℕ) (o : Option Task) → task_at h d ≡ o → field (λ t. true) false d.tasks h ≡ true → (r : Task) × (task_at h d ≡ Some r)
      there h None e is =
          let z : of (λ (t : Task). true) false (task_at h d) ≡ true = is in
          let y : Bool.false ≡ true = ap (of (λ (t : Task). true) false) (sym e) ∙ z in
          absurd (cc)
      there h (Some r) e is = (r, e)

-- ---- a poll

-- the refs of messages that the desk has were given
held-given : (next h : ℕ) (o : Option Parcel) → IfSome o (IsHeld next h) → (p : Parcel) → o ≡ Some p → p.message.my_ref < next
held-given next h None is p q = absurd (none_some None refl q)
held-given next h (Some m) is p q = subst (λ (y : Parcel). y.message.my_ref < next) (let same : m ≡ p = cc in same) is.given

post-refs : (p : Post) → IsPost p → AllByRecursion (λ (m : Parcel). m.message.my_ref < p.next_ref) p.queued
    × AllByRecursion (λ (s : Seat). (m : Parcel) → s.holds ≡ Some m → m.message.my_ref < p.next_ref) p.seats
post-refs p is = (
  all-mono (λ (m : Parcel) it. it.given) p.queued is.queued,
  all-mono (λ (s : Seat) it. held-given p.next_ref s.handle s.holds it) p.seats is.held,
)

module _ {o : Offers} {e : Edits} {R : Gave} {a : Addresses} {may : MayShow} (d : Desk) (kept : IsDesk d) (f : Fits d) (stands : Stands o e R (view d))
    (agrees : Agrees a d)
    (covers : Covers o a may) (g : HaveOwn may d) where
  module _ (name : List ℕ) (t : Task) (q : named name d ≡ Ok t) where
    abbrev h : ℕ
    h = t.handle

    abbrev polled : Post × Option Parcel
    polled = post_poll h d.post

    abbrev now : Desk
    now = with_delivered polled.0 d

    is : task_of h d.tasks ≡ Some t
    is = the_task d name t f q

    has-agreed : TaskAgrees a t
    has-agreed =
        subst (λ (v : Option Task). IfSome v (TaskAgrees a)) (found_name d name t q) (find-all (TaskAgrees a) (has_name name) d.tasks agrees.of_tasks)

    source-shown : (x : Sending) → Has (outgoing.Open x) t.sending → (source : Split Flex) → slot_block x.anchor t.slot ≡ Ok source →
        AreOnly (may x.recipient) source.here.bytes
    source-shown x has source found =
        let seen = subst (λ (vs : List Outgoing). Has (outgoing.Open x) vs) (sym (field_is (λ y. y.sending) [] h d.tasks t is)) has in
        let w = stands.good.inv.outs.source h x seen in
        let mine = stands.same x.id (stands.raws.outs h (outgoing.Open x) seen) in
        let here : (view d).block h x.anchor ≡ Some source.here.bytes =
        ap (λ (m : ℕ → Option (List ℕ)). m x.anchor) (field_is (λ y. blocks_of y.slot) (λ k. None) h d.tasks t is)
        ∙ block_is t.slot x.anchor ∙ ap (option_map (λ (b : Split Flex). b.here.bytes)) (the_block x.anchor t.slot source found) in
        covers x.id h x.recipient source.here.bytes (all-has (OutAgrees a h) t.sending (outgoing.Open x) has-agreed.outs has)
        (sym mine ∙ w.offered ∙ sym w.there ∙ here)

    -- refs of the messages that are left
    refs-left : HasRefs now
    unfolding with_delivered
    refs-left = post-refs polled.0 (post_poll-kept h d.post kept.post).post.is

    taken-own : (v : Option Parcel) → polled.1 ≡ v → HaveOwn may (poll_taken now t v).0
    unfolding poll_taken
    taken-own None taken = polled-own h d g
    taken-own (Some m) taken =
        either (λ (x : Handled). HaveOwn may x.0) (is_raw t.manner) (now, outcome.Taken) (handled now t (as_read m) m.code)
        (λ its. polled-own h d g)
        (λ plays. handled-own may t (named-own may d g name t q) now (polled-own h d g) (as_read m) source-shown refs-left m.code
        (λ ne file there load. taken-for h d g m taken ne file there load))

  poll-leaves : (name : List ℕ) → OnGrant (Leaves may d g) (poll d name)
  unfolding poll
  poll-leaves name = granted-then _ _ λ t q. granted (record { desk = taken-own name t q (post_poll t.handle d.post).1 refl })

-- ---- all commands

-- what holds of a desk that is reached, and of what tasks may show there
record Reached (may : MayShow) (d : Desk) : Type 0 where
  offers : Offers
  edits : Edits
  gave : Gave
  addresses : Addresses
  stands : Stands offers edits gave (view d)
  kept : IsDesk d
  agrees : Agrees addresses d
  covers : Covers offers addresses may
  own : HaveOwn may d
  zero : (h : ℕ) → has_byte 0 (may h) ≡ true
  new : (h : ℕ) → d.next_handle ≤ h → may h ≡ 0 ∷ []

module _ (may : MayShow) (d : Desk) (w : Reached may d) where
  -- what tasks may show after a command
  abbrev may_then : Command → MayShow
  may_then c = may_show_next may d c (step d c).1

  own-then : (c : Command) → HaveOwn (may_then c) d
  own-then c = own-wider may (may_then c) (next-grows may d c (step d c).1) d w.own

  -- a command that gives no task a byte, or is refused
  kept-own : {r : Granted Answer} → OnGrant (Leaves may d w.own) r → HaveOwn may (or_else r (λ refusal. (d, reply.Refused refusal))).0
  kept-own all = (or_else-keeps (Leaves may d w.own) _ all (λ refusal. record { desk = w.own })).desk

  step-own : (c : Command) → HaveOwn (may_then c) (step d c).0
  step-own (command.Load name k file) =
      (or_else-keeps (Gives may d w.own (command.Load name k file)) _ (load-gives may d w.own name k file) (λ refusal. record { desk = w.own })).desk
  step-own (command.Put name k offset bytes) =
      (or_else-keeps (Gives may d w.own (command.Put name k offset bytes)) _ (put-gives may d w.own name k offset bytes)
      (λ refusal. record { desk = w.own })).desk
  step-own (command.Save name k to leaf) =
      let own = own-then (command.Save name k to leaf) in
      (or_else-keeps (Leaves (may_then (command.Save name k to leaf)) d own) _ (change-leaves _ d own (command.Save name k to leaf) tt)
      (λ refusal. record { desk = own })).desk
  step-own (command.Poll name) = kept-own (poll-leaves d w.kept (fits d w.kept) w.stands w.agrees w.covers w.own name)
  step-own (command.Raw (raw.Write name x bytes)) =
      (or_else-keeps (Gives may d w.own (command.Raw (raw.Write name x bytes))) _ (write-gives may d w.own name x bytes)
      (λ refusal. record { desk = w.own })).desk
  step-own (command.Raw (raw.Transfer name x h y n)) =
      (or_else-keeps (Gives may d w.own (command.Raw (raw.Transfer name x h y n))) _ (transfer-gives may d w.own name x h y n)
      (λ refusal. record { desk = w.own })).desk
  step-own (command.Raw (raw.Spool name k h ref)) =
      (or_else-keeps (Gives may d w.own (command.Raw (raw.Spool name k h ref))) _
      (spool-gives may d w.own (fits d w.kept) (post-refs d.post w.kept.post) name k h ref) (λ refusal. record { desk = w.own })).desk
  step-own (command.Raw (raw.Send name recorded h ref a bytes)) = kept-own (change-leaves may d w.own (command.Raw (raw.Send name recorded h ref a bytes)) tt)
  step-own (command.Raw (raw.Ack name)) = kept-own (change-leaves may d w.own (command.Raw (raw.Ack name)) tt)
  step-own (command.Raw (raw.Scrap name k)) = kept-own (change-leaves may d w.own (command.Raw (raw.Scrap name k)) tt)
  step-own c = kept-own (change-leaves may d w.own c tt)

  -- a ref that a reply tells is new, and offers nothing yet
  fresh : (c : Command) (ref : ℕ) → (step d c).1 ≡ reply.Sent ref → w.offers ref ≡ None
  fresh c ref told =
      let up = (numbers-go-up d (c ∷ [])).refs in
      let new : next_ref d ≤ ref = (subst (λ r. GoUp (next_ref d) (next_ref (step d c).0) (flat_map refs_in (r ∷ []))) told up).0 in
      sym (w.stands.same ref (w.stands.raws.refs ref new)) ∙ w.stands.good.born ref new

  -- a live task's handle was given
  below : (test : Task → Bool) (t : Task) → find test d.tasks ≡ Some t → t.handle < d.next_handle
  below test t q = w.stands.good.inv.alive t.handle (live_of d t.handle t (found_task test d.tasks t (fits d w.kept).handles q))

  new-then : (c : Command) (h : ℕ) → d.next_handle ≤ h → may_then c h ≡ 0 ∷ []
  new-then c h low = go (next-is may d c (step d c).1) ∙ w.new h low
    where
      go : {more : MayShow} → Next may d more → more h ≡ may h
      go alike = refl
      go (given_more test b) = too-other may (find test d.tasks) b h (λ t q same. let x = below test t q in omega (arith, x, low, same))

  step-reached : (c : Command) → in_range c ≡ true → Reached (may_then c) (step d c).0
  step-reached c ranged =
      let grows = next-grows may d c (step d c).1 in
      record {
        offers = offers_next w.offers d c (step d c).1;
        edits = edits_next w.edits d c (step d c).1;
        addresses = addresses_next w.addresses d c (step d c).1;
        gave = gave_next w.gave d c (step d c).1;
        stands = keeps c ranged d w.stands (fits d w.kept);
        kept = step-keeps d c ranged w.kept;
        agrees = step-agrees w.addresses d w.agrees c;
        covers = next-covers w.offers w.addresses may d c (step d c).1 (fresh c) w.covers;
        own = step-own c;
        zero = λ h. grows h 0 (w.zero h);
        new = λ h low. new-then c h (let up = rise-below (λ n. n) d.next_handle (step d c).0.next_handle _ (numbers-go-up d (c ∷ [])).handles in
            omega (arith, up, low));
      }

after-reached : (cs : List Command) → all_in_range cs ≡ true → (may : MayShow) (d : Desk) → Reached may d →
    Reached (may_show_from may d cs) (after d cs)
after-reached [] ranged may d w = w
after-reached (c ∷ cs) ranged may d w =
    after-reached cs (and_right (in_range c) _ ranged) _ _ (step-reached may d w c (and_left (in_range c) _ ranged))

-- ---- the law

-- a list that a function leaves, each of whose members it leaves
each-stays : {A : Type 0} (g : A → A) (P : A → Type 0) → ((x : A) → g x ≡ x → P x) → (xs : List A) → map g xs ≡ xs → AllByRecursion P xs
each-stays g P one [] e = tt
each-stays {A} g P one (x ∷ xs) e = (one x (heads e), each-stays g P one xs (tails e))
  where
    heads : {y z : A} {ys zs : List A} → ◌≡◌ {A = List A} (y ∷ ys) (z ∷ zs) → y ≡ z
    heads e = cc

    tails : {y z : A} {ys zs : List A} → ◌≡◌ {A = List A} (y ∷ ys) (z ∷ zs) → ys ≡ zs
    tails e = cc

abbrev listed_bytes : Listed → List ℕ
listed_bytes (Bytes bytes) = bytes
listed_bytes _ = []

module _ (may : MayShow) (d : Desk) (w : Reached may d) where
  among : (h : ℕ) (bytes : List ℕ) → AreOnly (may h) bytes → AreAmong (may h) bytes
  among h bytes e = pass (λ b. has_byte b (may h)) (w.zero h) bytes e

  at-own : (h : ℕ) (t : Task) → task_at h d ≡ Some t → HasOnly (may h) t.slot
  at-own h t at =
      let own : HasOwn may t = subst (λ (v : Option Task). IfSome v (HasOwn may)) at (find-all (HasOwn may) (λ (y : Task). y.handle == h) d.tasks w.own.all) in
      subst (λ j. HasOnly (may j) t.slot) (is_equal _ _ (first_is (λ (y : Task). y.handle == h) d.tasks t at).1) own

  show-own : (name : List ℕ) (k : ℕ) → OnGrant (λ (told : Told). (t : Task) → find (has_name name) d.tasks ≡ Some t →
      AreAmong (may t.handle) (listed_bytes told.1)) (show d name k)
  unfolding show
  show-own name k =
      granted-then _ _ λ u e. granted-with _ (block-only (named-own may d w.own name u e) k) λ b stays.
      granted (λ t q. let one : Some u ≡ Some t = sym (found_name d name u e) ∙ q in let same : u ≡ t = cc in
      subst (λ (y : Task). AreAmong (may y.handle) b.here.bytes) same (among u.handle b.here.bytes stays))

  shows-own : ShowsOwn d may
  shows-own = record {
    blocks = λ h t at. each-stays (renamed_block (keeping (may h))) _ (λ (b : Flex) e. among h b.bytes (ap (λ (c : Flex). c.bytes) e)) t.slot.blocks
        (ap (λ (s : Slot). s.blocks) (at-own h t at).same);
    heap = λ h t at. each-stays (renamed_segment (keeping (may h))) _ (λ (s : Segment) e.
        among h (bytes_of s) (sym (bytes-renamed (keeping (may h)) s) ∙ ap bytes_of e)) t.slot.heap.segments
        (ap (λ (s : Slot). s.heap.segments) (at-own h t at).same);
    shown = λ name k t size bytes q is. grant-holds (show-own name k) is t q;
    file = λ file p q has code same.
        let waits : p.code ≡ Acknowledge → ⊥ = λ z. let y : Recorded ≡ Acknowledge = sym code ∙ z in cc in
        among p.to file.bytes (all-has _ d.post.queued p (w.own.file file q) (has_of d.post.queued p has) waits same);
    new = w.new;
  }

pub always-shows-own : AlwaysShowsOwn
always-shows-own pool handle ref files cs from ranged =
    let positive : 0 < ref = omega (arith, from.first_ref) in
    shows-own _ _ (after-reached cs ranged (λ h. 0 ∷ []) (start_with pool files handle ref) (record {
      offers = λ i. None;
      edits = λ h i. false;
      gave = λ i. false;
      addresses = λ i. None;
      stands = start_stands handle ref positive;
      kept = start-is pool handle ref files from;
      agrees = record { born = λ i low. refl; of_tasks = tt; mail = tt };
      covers = λ id s r file from is. absurd cc;
      own = record { all = tt; file = λ file q. absurd cc; hand = λ file q. absurd cc; given = λ file q. absurd cc };
      zero = λ h. refl;
      new = λ h low. refl;
    }))

-- ---- marks

all-mapped : {A : Type 0} (P Q : A → Type 0) (g : A → A) → ((x : A) → P x → Q (g x)) → (xs : List A) → AllByRecursion P xs → AllByRecursion Q (map g xs)
all-mapped P Q g each [] all = tt
all-mapped P Q g each (x ∷ xs) all = (each x all.0, all-mapped P Q g each xs all.1)

module _ (f : ℕ → ℕ) (may : MayShow) (d : Desk) (w : ShowsOwn d may) where
  -- a task of the renamed desk is a renamed task
  of-marked : (h : ℕ) (t : Task) → task_at h (renamed f d) ≡ Some t → (u : Task) × (task_at h d ≡ Some u) × (renamed_task f u ≡ t)
  of-marked h t at = go (task_at h d) refl (sym (task_at-renamed f h d) ∙ at)
    where
      go : (v : Option Task) → task_at h d ≡ v → option_map (renamed_task f) v ≡ Some t → (u : Task) × (task_at h d ≡ Some u) × (renamed_task f u ≡ t)
      go None e q = absurd cc
      go (Some u) e q = (u, e, cc)

  -- bytes of marks of the handle
  abbrev Marked : ℕ → List ℕ → Type 0
  Marked h bytes = AreOfMarks f (may h) bytes

  shows-own-marks : ShowsOwnMarks f (renamed f d) may
  shows-own-marks = record {
    blocks = λ h t at. let m = of-marked h t at in
        subst (λ (u : Task). AllByRecursion (λ (b : Flex). Marked h b.bytes) u.slot.blocks) m.2
        (all-mapped (λ (b : Flex). AreAmong (may h) b.bytes) (λ (b : Flex). Marked h b.bytes) (renamed_block f)
        (λ b all. record { own = b.bytes; bytes_are = refl; among = all }) m.0.slot.blocks (w.blocks h m.0 m.1));
    heap = λ h t at. let m = of-marked h t at in
        subst (λ (u : Task). AllByRecursion (λ (g : Segment). Marked h (bytes_of g)) u.slot.heap.segments) m.2
        (all-mapped (λ (g : Segment). AreAmong (may h) (bytes_of g)) (λ (g : Segment). Marked h (bytes_of g)) (renamed_segment f)
        (λ g all. record { own = bytes_of g; bytes_are = bytes-renamed f g; among = all }) m.0.slot.heap.segments (w.heap h m.0 m.1));
  }

pub always-shows-own-marks : AlwaysShowsOwnMarks
always-shows-own-marks f zero-is pool handle ref files cs from ranged =
    let d : Desk = start_with pool files handle ref in
    let may : MayShow = may_show d cs in
    subst (λ (e : Desk). ShowsOwnMarks f e may) (sym (always-renamed f zero-is pool handle ref files cs).desk)
    (shows-own-marks f may (after d cs) (always-shows-own pool handle ref files cs from ranged))
