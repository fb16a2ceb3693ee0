-- Each command of a task with code of its own, against its rows of the table.
use Rattle.rh_laws.proofs.Common.{◌≡◌, ℕ, ◌^◌, Bool, true, false, not, ◌&&◌, ◌||◌, ◌==◌, nat_le, nat_lt, List, [], ◌∷◌, ◌++◌, length, unwrap_or, Option, Some}
use Rattle.rh_laws.proofs.Common.{None}
use Rattle.rh_laws.proofs.Common.{refl, ap, ◌∙◌, arith, is_none, Ok, NoTask, NoRoom, BadRange, BadSize, Busy, NoBlock, Refusal, Desk, Task, named, task_at}
use Rattle.rh_laws.proofs.Common.{next_ref}
use Rattle.rh_laws.proofs.Common.{IsDesk, ◌>>=◌, ◌>>◌, refuse_if, Granted, Answer, Letter, has_seat, module_claim, post_send, send_letter, slot_block}
use Rattle.rh_laws.proofs.Common.{eqb_apart}
use Rattle.rh_defs.specs.declared.refusal.Refusal.TheVariants.{NoFile, NoRefs, QueueFull, WrongManner, BadRef}
use Rattle.rh_defs.specs.declared.raw_command.RawCommand.{RawCommand}
use Rattle.rh_defs.specs.declared.raw_command.RawCommand.TheVariants as raw
use Rattle.rh_defs.specs.OutgoingEvents.{scrap_shortage, wider}
use Rattle.rh_defs.specs.Messages.{Parcel, parcel_size}
use Rattle.rh_defs.specs.Places.{overlap}
use Rattle.rh_defs.specs.Post.{held_by, live_count, message_of, most_messages, sendable}
use Rattle.rh_defs.specs.Slot.{holds}
use Rattle.rh_defs.specs.RawCommands.{send, write, transfer, ack, spool, scrap, raw_change, raw_letter, spool_letter, is_shut}
use Rattle.rh_defs.specs.RawTasks.{is_open_to}
use Rattle.rh_laws.specs.RefusalOrder.{RefusalRow}
use Rattle.rh_laws.specs.RefusalRooms.{lacks, message_size}
use Rattle.rh_laws.specs.Conditions.{raw_rows, there_is, send_rows, lacks_module_room}
use Rattle.rh_laws.proofs.RefusalSteps.{GoesBy, done, found_then, granted_then, in_steps, in_steps_both, passes, refused_if, refused_then, same_rows}
use Rattle.rh_laws.proofs.RefusalSends.{send-then, seat-of}
use Rattle.rh_laws.proofs.RefusalCalls.{alloc-then, loaded}
use Rattle.rh_laws.proofs.RefusalRoomLaws.{le_same, need-short, size-same}

-- a live task that didn't open the place
shut-same : (from : ℕ) (held : Option Parcel) (y n : ℕ) (o : Option Task)
    → is_shut from held y n o ≡ there_is (λ (r : Task). not (is_open_to from held r y n)) o
shut-same from held y n None = refl
shut-same from held y n (Some r) = refl

-- three tests before the rest
three : (a b c : Bool) (next : Granted Answer) (rows : List RefusalRow)
    → ((refuse_if a NoTask >> refuse_if b NoRefs >> refuse_if c QueueFull) ≡ Ok tt → GoesBy next rows)
    → GoesBy ((refuse_if a NoTask >> refuse_if b NoRefs >> refuse_if c QueueFull) >> next) ((NoTask, a) ∷ (NoRefs, b) ∷ (QueueFull, c) ∷ rows)
unfolding refuse_if ◌>>=◌ ◌>>◌
three true b c next rows f = record { is = refl }
three false true c next rows f = record { is = refl }
three false false true next rows f = record { is = refl }
three false false false next rows f = record { is = (f refl).is }

-- two conditions of one refusal
two_rows : {g : Granted Answer} (rows : List RefusalRow) (r : Refusal) (a b : Bool)
    → GoesBy g ((r, a) ∷ (r, b) ∷ rows) → GoesBy g ((r, a || b) ∷ rows)
two_rows rows r true b q = record { is = q.is }
two_rows rows r false b q = record { is = q.is }

-- a letter that can be sent but for its room
sent-then : (l : Letter) (e : Desk) (next : Desk → Granted Answer) (rows : List RefusalRow) → sendable l e.post ≡ Ok tt
    → ((u : Desk) → GoesBy (next u) rows)
    → GoesBy (send_letter l e >>= next) ((NoRoom, lacks_module_room (message_size l.body) e) ∷ rows)
unfolding send_letter post_send module_claim
sent-then l e next rows ok f =
    let big : (parcel_size (message_of l 0) == 0) ≡ false = eqb_apart (parcel_size (message_of l 0)) 0 (omega arith) in
    let size : parcel_size (message_of l 0) ≡ message_size l.body = size-same l in
    in_steps _ _ _ _ (in_steps_both _ _ _ _ (granted_then _ tt _ _ ok
    (in_steps _ _ _ _ (in_steps _ _ _ _ (granted_then _ tt _ _ (passes _ BadSize big)
    (in_steps _ _ _ _ (refused_if _ _ NoRoom _ _
    (ap (λ (x : ℕ). lacks x e) (need-short (parcel_size (message_of l 0)) e.post.heap)
    ∙ ap (λ (n : ℕ). lacks_module_room n e) size) λ fits.
    granted_then _ _ _ _ refl (granted_then _ _ _ _ refl (granted_then _ _ _ _ refl (f _))))))))))

module _ (d : Desk) (is : IsDesk d) where
  send-goes : (name : List ℕ) (recorded : Bool) (h ref a : ℕ) (bytes : Option (List ℕ))
      → GoesBy (send d name recorded h ref a (unwrap_or bytes [])) (raw_rows d (raw.Send name recorded h ref a bytes))
  unfolding send named
  send-goes name recorded h ref a bytes =
      found_then _ _ _ _ λ t e. rw e (send-then d is (raw_letter t.handle recorded h ref a (unwrap_or bytes [])) _ _ λ u.
      refused_then _ _ WrongManner _ _ refl λ its. refused_then _ _ BadRef _ _ refl λ was. done _ refl)

  write-goes : (name : List ℕ) (x : ℕ) (bytes : List ℕ) → GoesBy (write d name x bytes) (raw_rows d (raw.Write name x bytes))
  unfolding write named
  write-goes name x bytes =
      found_then _ _ _ _ λ t e. rw e (refused_then _ _ BadRange _ _ refl λ fits.
      refused_then _ _ WrongManner _ _ refl λ its. done _ refl)

  transfer-goes : (name : List ℕ) (x h y n : ℕ) → GoesBy (transfer d name x h y n) (raw_rows d (raw.Transfer name x h y n))
  unfolding transfer named
  transfer-goes name x h y n =
      found_then _ _ _ _ λ t e. rw e (refused_then _ _ BadRange _ _
      (ap (λ b. not (holds x n t.slot) || (t.handle == h && overlap x n y n) || b)
      (shut-same t.handle (held_by t.handle d.post.seats) y n (task_at h d))) λ fits.
      found_then _ NoTask _ _ λ r f. refused_then _ _ WrongManner _ _ refl λ its. done _ refl)

  ack-goes : (name : List ℕ) → GoesBy (ack d name) (raw_rows d (raw.Ack name))
  unfolding ack named
  ack-goes name = found_then _ _ _ _ λ t e. rw e (refused_then _ _ WrongManner _ _ refl λ its. done _ refl)

  scrap-goes : (name : List ℕ) (k : ℕ) → GoesBy (scrap d name k) (raw_rows d (raw.Scrap name k))
  unfolding scrap named
  scrap-goes name k =
      found_then _ _ _ _ λ t e. rw e (found_then _ NoFile _ _ λ file f. rw f
      (alloc-then d t k (length file.bytes) _ _ λ unused.
      granted_then _ _ _ _ (loaded k file.bytes t.slot unused).granted
      (refused_then _ _ WrongManner _ _ refl λ its. done _ refl)))

  -- a message that can be sent but for its room
  sendable-then : (l : Letter) (next : Granted Answer) (room : Bool) (rows : List RefusalRow)
      → (sendable l d.post ≡ Ok tt → GoesBy next ((NoRoom, room) ∷ rows))
      → GoesBy (sendable l d.post >> next) (send_rows (is_none (task_at l.to d)) room d ++ rows)
  unfolding sendable
  sendable-then l next room rows f =
      let live : not (has_seat l.to d.post.seats) ≡ is_none (task_at l.to d) = ap not (seat-of l.to d.post.seats d.tasks is.seats) in
      let more : nat_le (2 ^ 32) (next_ref d) ≡ nat_lt 4294967295 (next_ref d) =
      le_same (2 ^ 32) (next_ref d) 4294967296 (next_ref d) (λ h. h) (λ h. h) in
      same_rows (λ i. (NoTask, live i) ∷ (NoRefs, more i) ∷ (QueueFull, nat_le most_messages (live_count d.post)) ∷ (NoRoom, room) ∷ rows)
      (three _ _ _ next _ f)

  pub spool-goes : (name : List ℕ) (k h ref : ℕ) → GoesBy (spool d name k h ref) (raw_rows d (raw.Spool name k h ref))
  unfolding spool named slot_block
  spool-goes name k h ref =
      found_then _ _ _ _ λ t e. rw e (found_then _ NoBlock _ _ λ b f. rw f (refused_then _ _ Busy _ _ refl λ none.
      let n : ℕ = length b.here.bytes in
      let more : ℕ = scrap_shortage n d in
      let l : Letter = spool_letter t.handle h ref n in
      sendable-then l _ _ _ λ ok.
      two_rows _ _ _ _ (refused_then _ _ NoRoom _ _ refl λ fits.
      sent-then l (wider more d) _ _ ok λ u.
      refused_then _ _ WrongManner _ _ refl λ its. refused_then _ _ BadRef _ _ refl λ was. done _ refl)))

  pub raw-goes : (c : RawCommand) → GoesBy (raw_change d c) (raw_rows d c)
  raw-goes (raw.Send name recorded h ref a bytes) = send-goes name recorded h ref a bytes
  raw-goes (raw.Write name x bytes) = write-goes name x bytes
  raw-goes (raw.Transfer name x h y n) = transfer-goes name x h y n
  raw-goes (raw.Ack name) = ack-goes name
  raw-goes (raw.Spool name k h ref) = spool-goes name k h ref
  raw-goes (raw.Scrap name k) = scrap-goes name k
