-- Actions that are due stay so while slots, letters and the post change.
use Rattle.rh_tasks.proofs.Common.{◌≡◌, ℕ, true, refl, ap, sym, subst, List, map, Ok, Letter, Outgoing, Incoming, Desk, Task, with_task, send_letter}
use Rattle.rh_tasks.proofs.Common.{IsReordered}
use Rattle.rh_defs.specs.declared.transfer_action.SendAction.{SendAction}
use Rattle.rh_defs.specs.declared.transfer_action.TakeAction.{TakeAction}
use Rattle.rh_ram.specs.Due.{is_send_due, is_take_due}
use Rattle.rh_tasks.specs.Inner.PollSteps.{CanSend, CanTake}
use Rattle.rh_tasks.proofs.Writes.{KeyAlike, alike-edited, alike-reordered, alike-both, alike-sent, seen}

-- what is looked at of a task when an outcome is told
abbrev pub records_of : Task → ℕ × List Outgoing × List Incoming
records_of t = (t.handle, t.sending, t.taking)

pub sent-records : (l : Letter) (d e : Desk) {new : Desk} → send_letter l d ≡ Ok e → IsReordered e new → KeyAlike records_of d new
sent-records l d e q r = alike-both records_of (alike-sent records_of l d e (λ t x. refl) q) (alike-reordered records_of r)

pub edited-records : {d e : Desk} (h : ℕ) (edit : Task → Task) → ((t : Task) → records_of (edit t) ≡ records_of t) → e ≡ with_task h edit d
    → KeyAlike records_of d e
edited-records {d} h edit keeps is = subst (KeyAlike records_of d) (sym is) (alike-edited records_of h edit d keeps)

pub same-records : (d e : Desk) → e.tasks ≡ d.tasks → KeyAlike records_of d e
same-records d e same = record { keys = ap (λ (tasks : List Task). map records_of tasks) same }

module _ {d e : Desk} (k : KeyAlike records_of d e) where
  back : KeyAlike records_of e d
  back = record { keys = sym k.keys }

  pub still-sends : (i : ℕ) (a : SendAction) → CanSend i a d → CanSend i a e
  still-sends i a can u there =
      let s = seen records_of back i u there in
      subst (λ records. is_send_due a records ≡ true) (ap (λ (r : ℕ × List Outgoing × List Incoming). r.1) s.alike) (can s.task s.at)

  pub still-takes : (i : ℕ) (a : TakeAction) → CanTake i a d → CanTake i a e
  still-takes i a can u there =
      let s = seen records_of back i u there in
      subst (λ records. is_take_due a records ≡ true) (ap (λ (r : ℕ × List Outgoing × List Incoming). r.2) s.alike) (can s.task s.at)
