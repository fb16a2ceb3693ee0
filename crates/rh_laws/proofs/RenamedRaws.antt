-- The commands of tasks with code of their own do to a desk with its bytes renamed the same.
use Rattle.rh_laws.proofs.Common.{◌≡◌, ℕ, Bool, true, false, cond, not, ◌&&◌, ◌||◌, ◌==◌, nat_le, nat_lt, List, [], length, map, refl, sym, ap, subst, ◌∙◌}
use Rattle.rh_laws.proofs.Common.{length-map}
use Rattle.rh_laws.proofs.Common.{Option, Some, None, Ok, is_some, list_any, option_map, unwrap_or, NoTask, NoRoom, BadRange, Busy, Granted, ◌>>=◌, ◌>>◌}
use Rattle.rh_laws.proofs.Common.{refuse_if, Slot, slot_alloc, Parcel, held_by, Desk, Task, Scrap, next_ref, free_pages, task_at}
use Rattle.rh_laws.proofs.Common.{with_slot, send_letter, change, Answer, Manner, Taking, Follows, follows-then, follows-as}
use Rattle.rh_defs.specs.declared.refusal.Refusal.TheVariants.{NoFile, WrongManner, BadRef}
use Rattle.rh_defs.specs.declared.raw_command.RawCommand.{RawCommand}
use Rattle.rh_defs.specs.declared.raw_command.RawCommand.TheVariants as raw
use Rattle.rh_defs.specs.declared.command.Command.TheVariants as command
use Rattle.rh_defs.specs.declared.reply.Reply.TheVariants as reply
use Rattle.rh_defs.specs.Commands.{after_letter, with_released}
use Rattle.rh_defs.specs.OutgoingEvents.{scrap_shortage, wider}
use Rattle.rh_defs.specs.Places.{bytes_held, overlap, written_held}
use Rattle.rh_defs.specs.Post.{answers_held, put_down, sendable}
use Rattle.rh_defs.specs.RawCommands.{send, write, transfer, ack, spool, scrap, raw_letter, spool_letter, after_answer, ref_of_held, is_bad_move, is_shut}
use Rattle.rh_defs.specs.RawCommands.{file_held}
use Rattle.rh_defs.specs.RawTasks.{is_open_to, is_raw, opens_buffer, opens_range}
use Rattle.rh_defs.specs.Slot.{holds}
use Rattle.rh_laws.specs.Renaming.{renamed_slot, renamed_task, renamed_scrap, renamed, renamed_command}
use Rattle.rh_laws.proofs.RenamedParts.{By, follows-by, found-by}
use Rattle.rh_laws.proofs.RenamedSlots.{renamed_given, some-map, holds-renamed, bytes_held-renamed, written_held-renamed, slot_block-renamed}
use Rattle.rh_laws.proofs.RenamedSlots.{slot_put-renamed, slot_alloc-renamed}
use Rattle.rh_laws.proofs.RenamedDesks.{renamed_with, free-renamed, where-free, named-renamed, task_at-renamed, with_task-renamed}
use Rattle.rh_laws.proofs.RenamedDesks.{with_delivered-renamed, send_letter-renamed}
use Rattle.rh_laws.proofs.RenamedPolls.{without-renamed}
use Rattle.rh_laws.proofs.RenamedSteps.{slot-back}

-- a spool of a block with n of these bytes
abbrev spool_of : Desk → Task → ℕ → ℕ → ℕ → List ℕ → Granted Answer
spool_of d t h ref n bytes = do
  refuse_if (is_some d.scrap) Busy
  sendable (spool_letter t.handle h ref n) d.post
  refuse_if (nat_lt (free_pages d) (scrap_shortage n d)) NoRoom
  sent ← send_letter (spool_letter t.handle h ref n) (wider (scrap_shortage n d) d)
  refuse_if (not (is_raw t.manner)) WrongManner
  refuse_if (nat_le (next_ref d) ref) BadRef
  Ok (record sent { scrap = Some (record { load = next_ref d; bytes = bytes }) }, reply.Sent (next_ref d))

module _ (f : ℕ → ℕ) where
  -- ---- what other commands share

  -- the scrap file kept or given up after a letter
  pub letter-renamed : (manner : Manner) (d : Desk) → after_letter manner (renamed f d) ≡ renamed f (after_letter manner d)
  letter-renamed manner d = go (is_raw manner)
    where
      go : (b : Bool) → cond b (after_answer (renamed f d)) (renamed f d) ≡ renamed f (cond b (after_answer d) d)
      go true = with_delivered-renamed f d.post d
      go false = refl

  -- a buffer released, where there is one
  pub released-renamed : f 0 ≡ 0 → (h : ℕ) (o : Option Taking) (d : Desk) → with_released h o (renamed f d) ≡ renamed f (with_released h o d)
  released-renamed zero-is h None d = refl
  released-renamed zero-is h (Some x) d = with_task-renamed f h _ _ d (λ t. ap (with_it t) (without-renamed f zero-is x.buffer t.slot))
    where
      with_it : Task → Slot → Task
      with_it t s = record t { slot = s }

  -- ---- whether a place is open

  open-renamed : (from : ℕ) (held : Option Parcel) (y n : ℕ) (r : Task) → is_open_to from held (renamed_task f r) y n ≡ is_open_to from held r y n
  open-renamed from held y n r =
      ap (λ b. cond (is_raw r.manner) (opens_range r.handle y n held && b) (list_any (opens_buffer from r.buffer y n) r.taking)) (holds-renamed f y n r.slot)

  shut-renamed : (from : ℕ) (held : Option Parcel) (y n : ℕ) (o : Option Task)
      → is_shut from held y n (option_map (renamed_task f) o) ≡ is_shut from held y n o
  shut-renamed from held y n None = refl
  shut-renamed from held y n (Some r) = ap not (open-renamed from held y n r)

  bad-renamed : (d : Desk) (t : Task) (x h y n : ℕ) → is_bad_move (renamed f d) (renamed_task f t) x h y n ≡ is_bad_move d t x h y n
  bad-renamed d t x h y n =
      ap (λ b. not b || (t.handle == h && overlap x n y n)
      || is_shut t.handle (held_by t.handle d.post.seats) y n (task_at h (renamed f d))) (holds-renamed f x n t.slot)
      ∙ ap (λ o. not (holds x n t.slot) || (t.handle == h && overlap x n y n)
      || is_shut t.handle (held_by t.handle d.post.seats) y n o) (task_at-renamed f h d)
      ∙ ap (λ b. not (holds x n t.slot) || (t.handle == h && overlap x n y n) || b)
      (shut-renamed t.handle (held_by t.handle d.post.seats) y n (task_at h d))

  -- ---- commands

  abbrev After : Granted Answer → Granted Answer → Type 0
  After x y = Follows (By (renamed_with f)) x y

  send-renamed : (d : Desk) (name : List ℕ) (recorded : Bool) (h ref a : ℕ) (bytes : List ℕ)
      → After (send d name recorded h ref a bytes) (send (renamed f d) name recorded h ref a bytes)
  unfolding send
  send-renamed d name recorded h ref a bytes =
      follows-by _ _ (named-renamed f name d) λ t.
      follows-by _ _ (send_letter-renamed f (raw_letter t.handle recorded h ref a bytes) d) λ sent.
      follows-then _ _ _ (follows-then _ _ _
      (Follows.both (ap (λ (e : Desk). (e, reply.Sent (next_ref d))) (with_delivered-renamed f sent.post sent))))

  write-renamed : (d : Desk) (name : List ℕ) (x : ℕ) (bytes : List ℕ) → After (write d name x bytes) (write (renamed f d) name x (map f bytes))
  unfolding write
  write-renamed d name x bytes =
      follows-by _ _ (named-renamed f name d) λ t.
      follows-as _ _ _ _ (ap (λ k. refuse_if (not (holds x k (renamed_slot f t.slot))) BadRange) (length-map bytes f)
      ∙ ap (λ b. refuse_if (not b) BadRange) (holds-renamed f x (length bytes) t.slot))
      (follows-then _ _ _ (Follows.both (
      ap (λ s. (with_slot t.handle s (renamed f d), reply.Done)) (written_held-renamed f x bytes t.slot)
      ∙ slot-back f t.handle (written_held x bytes t.slot) d reply.Done
      )))

  transfer-renamed : (d : Desk) (name : List ℕ) (x h y n : ℕ) → After (transfer d name x h y n) (transfer (renamed f d) name x h y n)
  unfolding transfer
  transfer-renamed d name x h y n =
      follows-by _ _ (named-renamed f name d) λ t.
      follows-as _ _ _ _ (ap (λ b. refuse_if b BadRange) (bad-renamed d t x h y n))
      (follows-by _ _ (found-by (renamed_task f) (task_at h d) _ NoTask (task_at-renamed f h d)) λ r.
      follows-then _ _ _ (Follows.both (ap (λ (e : Desk). (e, reply.Done)) (with_task-renamed f r.handle _ _ d (λ u. ap (with_it u) (
      ap (λ l. written_held y l (renamed_slot f u.slot)) (bytes_held-renamed f x n t.slot)
      ∙ written_held-renamed f y (bytes_held x n t.slot) u.slot
      ))))))
    where
      with_it : Task → Slot → Task
      with_it u s = record u { slot = s }

  ack-renamed : (d : Desk) (name : List ℕ) → After (ack d name) (ack (renamed f d) name)
  unfolding ack
  ack-renamed d name =
      follows-by _ _ (named-renamed f name d) λ t.
      follows-then _ _ _ (Follows.both (ap (λ (e : Desk). (e, reply.Answering (ref_of_held (held_by t.handle d.post.seats))))
      (with_delivered-renamed f (put_down t.handle d.post) d)))

  spool_of-renamed : (d : Desk) (t : Task) (h ref n : ℕ) (bytes : List ℕ)
      → After (spool_of d t h ref n bytes) (spool_of (renamed f d) (renamed_task f t) h ref n (map f bytes))
  spool_of-renamed d t h ref n bytes =
      follows-as _ _ _ _ (ap (λ b. refuse_if b Busy) (some-map (renamed_scrap f) d.scrap))
      (follows-then _ _ _ (follows-as _ _ _ _ (ap (λ k. refuse_if (nat_lt k (scrap_shortage n d)) NoRoom) (free-renamed f d))
      (follows-by _ _ (send_letter-renamed f (spool_letter t.handle h ref n) (wider (scrap_shortage n d) d)) λ sent.
      follows-then _ _ _ (follows-then _ _ _ (Follows.both refl)))))

  spool-renamed : (d : Desk) (name : List ℕ) (k h ref : ℕ) → After (spool d name k h ref) (spool (renamed f d) name k h ref)
  unfolding spool
  spool-renamed d name k h ref =
      follows-by _ _ (named-renamed f name d) λ t.
      follows-by _ _ (slot_block-renamed f k t.slot) λ b.
      subst (λ n. After (spool_of d t h ref (length b.here.bytes) b.here.bytes)
      (spool_of (renamed f d) (renamed_task f t) h ref n (map f b.here.bytes))) (sym (length-map b.here.bytes f))
      (spool_of-renamed d t h ref (length b.here.bytes) b.here.bytes)

  -- the file whose DataLoad the task holds
  file-renamed : (held : Option Parcel) (o : Option Scrap) → file_held held (option_map (renamed_scrap f) o) ≡ option_map (renamed_scrap f) (file_held held o)
  file-renamed held None = refl
  file-renamed held (Some file) = go (answers_held file.load held)
    where
      go : (b : Bool) → cond b (Some (renamed_scrap f file)) None ≡ option_map (renamed_scrap f) (cond b (Some file) None)
      go true = refl
      go false = refl

  scrap-renamed : f 0 ≡ 0 → (d : Desk) (name : List ℕ) (k : ℕ) → After (scrap d name k) (scrap (renamed f d) name k)
  unfolding scrap
  scrap-renamed zero-is d name k =
      follows-by _ _ (named-renamed f name d) λ t.
      follows-by _ _ (found-by (renamed_scrap f) (file_held (held_by t.handle d.post.seats) d.scrap) _ NoFile
      (file-renamed (held_by t.handle d.post.seats) d.scrap)) λ file.
      follows-by _ _ (subst (λ n. Follows (By (renamed_given f)) (slot_alloc (free_pages d) k (length file.bytes) t.slot) (slot_alloc (free_pages
      (renamed f d)) k n (renamed_slot f t.slot))) (sym (length-map file.bytes f))
      (where-free f d (λ m. slot_alloc m k (length file.bytes) (renamed_slot f t.slot)) (slot_alloc-renamed f zero-is (free_pages d) k
      (length file.bytes) t.slot))) λ p.
      follows-by _ _ (slot_put-renamed f k 0 file.bytes p.0) λ s.
      follows-then _ _ _ (Follows.both (slot-back f t.handle s d (reply.Block p.1)))

  pub raw-renamed : f 0 ≡ 0 → (d : Desk) (c : RawCommand) → After (change d (command.Raw c)) (change (renamed f d) (renamed_command f (command.Raw c)))
  raw-renamed zero-is d (raw.Send name recorded h ref a bytes) = send-renamed d name recorded h ref a (unwrap_or bytes [])
  raw-renamed zero-is d (raw.Write name x bytes) = write-renamed d name x bytes
  raw-renamed zero-is d (raw.Transfer name x h y n) = transfer-renamed d name x h y n
  raw-renamed zero-is d (raw.Ack name) = ack-renamed d name
  raw-renamed zero-is d (raw.Spool name k h ref) = spool-renamed d name k h ref
  raw-renamed zero-is d (raw.Scrap name k) = scrap-renamed zero-is d name k
