-- Each command of a task with code of its own, step by step.
use Rattle.rh_defs.proofs.Common.{◌≡◌, ℕ, ◌*◌, ◌≤◌, ◌<◌, Bool, true, false, refl, ap, arith, List, [], length, Option, Some, None, ltb-false, unwrap_or}
use Rattle.rh_defs.proofs.Common.{slice_index}
use Rattle.rh_defs.proofs.Common.{nat_tests, Parcel, Desk, Task, free_pages, named, with_delivered, scrap_area, page_size, anchor_count, IsDesk, put_down}
use Rattle.rh_defs.proofs.Common.{held_by}
use Rattle.rh_defs.specs.declared.command.Command.TheVariants as command
use Rattle.rh_defs.specs.declared.raw_command.RawCommand.{RawCommand}
use Rattle.rh_defs.specs.declared.raw_command.RawCommand.TheVariants as raw
use Rattle.rh_defs.specs.Desk.{with_task}
use Rattle.rh_defs.specs.Range.{in_range}
use Rattle.rh_defs.specs.Order.{SameForEach, with_queue}
use Rattle.rh_defs.specs.OutgoingEvents.{scrap_shortage, wider}
use Rattle.rh_defs.specs.Places.{written_held, bytes_held}
use Rattle.rh_defs.specs.RawCommands.{raw_change, send, ack, write, transfer, spool, scrap}
use Rattle.rh_defs.proofs.Chains.{OnGrant, granted, granted-with, granted-both, granted-past}
use Rattle.rh_defs.proofs.PostKeeps.{sendable-grants, put_down-sent, same-sent}
use Rattle.rh_defs.proofs.SlotKeeps.{slot_alloc-grants, slot_put-grants, written_held-kept, kept-roomed}
use Rattle.rh_defs.proofs.Desks.{named-task, with_slot-keeps, with_task-keeps, roomed-after, send_letter-keeps, answered-keeps, after_answer-keeps}
use Rattle.rh_defs.proofs.Transfers.{wider-keeps, wider-room, scrap-keeps}
use Rattle.rh_defs.proofs.Follows.{Follows, follows-then, follows-as}
use Rattle.rh_defs.proofs.Orders.{PostAlike, sendable-same}
use Rattle.rh_defs.proofs.OrderSteps.{SaidAlike, said-alike, follows-desk, send_letter-alike, with_delivered-alike, after_answer-alike}
use Rattle.rh_defs.proofs.Changes.{Does, answer-is, known-step, step-then, past, otherwise, in-slot}

-- the anchor of a command in range is one
scrap-below : (name : List ℕ) (k : ℕ) → in_range (command.Raw (raw.Scrap name k)) ≡ true → k < anchor_count
unfolding in_range
scrap-below name k h = grind (arith, nat_tests)

module _ (d : Desk) (queue : List Parcel) (same : SameForEach d.post.queued queue) where
  -- what is shown of each of them
  pub raw-does : (c : RawCommand) → Does (command.Raw c) d (raw_change d c) (raw_change (with_queue queue d) c)
  unfolding send ack write transfer spool scrap named with_task
  raw-does (raw.Send name recorded h ref a bytes) =
      known-step _ _ _ (λ run. named-task name d run.desk) λ t e task.
      record {
        alike =
            follows-desk _ _ (send_letter-alike _ d queue same) λ sent q s.
            follows-then _ _ _ (follows-then _ _ _ (Follows.both (said-alike _ refl (after_answer-alike sent q s))));
        keeps = λ run.
            granted-with _ (send_letter-keeps _ d run.desk) λ sent ok.
            granted-past _ _ _ λ kind. granted-past _ _ _ λ given. granted (answer-is (after_answer-keeps sent ok.desk));
        changes = λ on. absurd cc;
      }
  raw-does (raw.Write name x bytes) =
      known-step _ _ _ (λ run. named-task name d run.desk) λ t e task. past _ _ _ _ λ there. past _ _ _ _ λ kind.
      in-slot d queue same t (written_held x bytes t.slot) refl e refl
      (λ run. with_slot-keeps d t _ (task run)
      (kept-roomed (free_pages d) t.slot (written_held x bytes t.slot) (written_held-kept x bytes t.slot (task run).slot)) run.desk)
  raw-does (raw.Transfer name x h y n) =
      known-step _ _ _ (λ run. named-task name d run.desk) λ t e task. past _ _ _ _ λ open_. step-then _ _ _ λ r live. past _ _ _ _ λ kind.
      otherwise _ queue same refl
      (λ run. with_task-keeps r.handle (λ r. record r { slot = written_held y (bytes_held x n t.slot) r.slot }) d (λ r. refl)
      (λ r slot. written_held-kept y (bytes_held x n t.slot) r.slot slot) run.desk)
      (λ on. cc)
  raw-does (raw.Ack name) =
      known-step _ _ _ (λ run. named-task name d run.desk) λ t e task. past _ _ _ _ λ kind.
      record {
        alike = Follows.both (said-alike _ refl (with_delivered-alike d queue (PostAlike.alike (put_down t.handle d.post) queue same)));
        keeps = λ run.
            granted (answer-is (answered-keeps (put_down t.handle d.post) d
            (put_down-sent 0 t.handle d.post d.post (same-sent 0 d.post run.desk.post)) run.desk));
        changes = λ on. absurd cc;
      }
  raw-does (raw.Spool name k h ref) =
      known-step _ _ _ (λ run. named-task name d run.desk) λ t e task. step-then _ _ _ λ b found. past _ _ _ _ λ free.
      record {
        alike =
            follows-as _ _ _ _ (sendable-same _ d.post queue same) (follows-then _ _ _
            (follows-desk _ _ (send_letter-alike _ _ queue same) λ sent q s.
            follows-then _ _ _ (follows-then _ _ _ (Follows.both (SaidAlike.said _ q _ s refl)))));
        keeps = λ run.
            granted-both _ (sendable-grants _ d.post) λ _ can. granted-past _ _ _ λ room.
            granted-with _ (send_letter-keeps _ (wider (scrap_shortage (length b.here.bytes) d) d)
            (wider-keeps (scrap_shortage (length b.here.bytes) d) d (ltb-false _ _ room) run.desk)) λ sent ok.
            granted-past _ _ _ λ kind. granted-past _ _ _ λ given.
            granted (answer-is (scrap-keeps (Some (record { load = d.post.next_ref; bytes = b.here.bytes })) sent
            (omega (arith, wider-room (length b.here.bytes) d run.desk, ap (λ areas. slice_index areas scrap_area) ok.areas)) ok.desk));
        changes = λ on. absurd cc;
      }
  raw-does (raw.Scrap name k) =
      known-step _ _ _ (λ run. named-task name d run.desk) λ t e task. step-then _ _ _ λ file held.
      known-step _ _ _ (λ run. slot_alloc-grants (free_pages d) k (length file.bytes) t.slot (scrap-below name k run.ranged) (task run).slot) λ p f first.
      known-step _ _ _ (λ run. slot_put-grants 0 k 0 file.bytes p.0 (first run).slot) λ s g second.
      past _ _ _ _ λ kind.
      in-slot d queue same t s refl e refl (λ run. with_slot-keeps d t s (task run) (roomed-after (first run) (second run)) run.desk)
