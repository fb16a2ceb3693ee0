-- What holds of the action of each message, if it holds for each record that the message may be for.
use Rattle.rh_safety.proofs.Common.{◌≡◌, ℕ, Bool, true, false, not, ◌&&◌, List, Option, Some, None, refl, inl, inr, option_map, IfSome, Sending, Taking, Asked}
use Rattle.std.specs.Option.{option_and_then}
use Rattle.rh_safety.proofs.Common.{Outgoing, Incoming, SendAction, TakeAction, open_of, chosen, Active, Has, FoundActive, active_is, asking_is, drains}
use Rattle.rh_safety.proofs.Common.{fetches, is_full, open_is}
use Rattle.rh_defs.specs.declared.transfer.Incoming.TheVariants as incoming
use Rattle.rh_defs.specs.declared.transfer.Outgoing.TheVariants as outgoing
use Rattle.rh_defs.specs.declared.transfer_action.Ending.{Ending}
use Rattle.rh_defs.specs.declared.transfer_action.Ending.TheVariants as ending
use Rattle.rh_defs.specs.declared.transfer_action.TakeAction.TheVariants as take_action
use Rattle.rh_defs.specs.Records.{active_of, asking_of, is_going}
use Rattle.rh_defs.specs.Receiver as receiver

-- the action for a record, where one was found
pub if-mapped : {A B : Type 0} (P : B → Type 0) (f : A → B) (v : Option A) → ((x : A) → v ≡ Some x → P (f x)) → IfSome (option_map f v) P
if-mapped P f None each = tt
if-mapped P f (Some x) each = each x refl

-- ---- a task that sends

-- the action for an open record that passes the test
pub open-does : (P : SendAction → Type 0) (vs : List Outgoing) (act : Sending → SendAction) (test : Sending → Bool) →
    ((x : Sending) → Has (outgoing.Open x) vs → test x ≡ true → P (act x)) → IfSome (option_map act (open_of test vs)) P
open-does P vs act test each =
    if-mapped P act (open_of test vs) (λ x q. let w = open_is test vs x q in each x w.0 w.1)

-- ---- a task that receives

module _ (P : TakeAction → Type 0) (ws : List Incoming) where
  -- what there is to do for a record that has a buffer and passes the test
  active-does : (do_for : Incoming → Option TakeAction) (test : Taking → Bool) →
      ((f : Taking) → Has (incoming.Fetching f) ws → IfSome (do_for (incoming.Fetching f)) P) →
      ((f : Taking) → Has (incoming.Draining f) ws → IfSome (do_for (incoming.Draining f)) P) →
      IfSome (option_and_then do_for (active_of test ws)) P
  active-does do_for test fetching draining = go (active_of test ws) refl
    where
      found : (w : Incoming) → FoundActive test ws w → IfSome (do_for w) P
      found w (fetches f has p) = fetching f has
      found w (drains f has p) = draining f has

      go : (v : Option Incoming) → active_of test ws ≡ v → IfSome (option_and_then do_for v) P
      go None q = tt
      go (Some w) q = found w (active_is test ws w q)

  -- a DataSave
  pub save-does : (raw is_deaf : Bool) (from my_ref : ℕ) → P (take_action.Claim (record { id = my_ref; sender = from; raw = raw })) →
      IfSome (receiver.flagged raw (receiver.on_save is_deaf from my_ref ws)) P
  save-does raw is_deaf from my_ref claim =
      chosen (λ (v : Option TakeAction). IfSome (receiver.flagged raw v) P) (not is_deaf && not (is_full is_going ws))
      (Some (take_action.Claim (record { id = my_ref; sender = from; raw = false }))) None claim tt

  -- a transmit of n bytes
  pub transmit-does : (room from my_ref your_ref buffer n : ℕ) →
      ((f : Taking) → Has (incoming.Fetching f) ws →
      P (take_action.Append (record { transfer = f; n = n; next = receiver.next_of room my_ref n f }))) →
      ((f : Taking) (e : Ending) → Active ws f → P (take_action.Release (record { transfer = f; ending = e }))) →
      IfSome (receiver.on_transmit room from my_ref your_ref buffer n ws) P
  transmit-does room from my_ref your_ref buffer n append release =
      active-does (receiver.take_for room my_ref n) (receiver.is_answer room from your_ref buffer n)
      (λ f has. chosen P _ _ _ (release f ending.Uncountable (inl has)) (append f has))
      (λ f has. release f ending.Drained (inr has))

  -- a fetch that came back
  pub bounce-does : (ref : ℕ) → ((f : Taking) → Has (incoming.Fetching f) ws → P (take_action.AskForFile f)) →
      ((f : Taking) (e : Ending) → Active ws f → P (take_action.Release (record { transfer = f; ending = e }))) →
      IfSome (receiver.on_taking_bounce ref ws) P
  bounce-does ref ask release =
      active-does receiver.back_for _
      (λ f has. chosen P _ _ _ (ask f has) (release f ending.Unanswered (inl has)))
      (λ f has. release f ending.Drained (inr has))

  -- a DataLoad
  pub load-does : (from my_ref your_ref : ℕ) →
      ((q : Asked) → Has (incoming.Asking q) ws → receiver.is_load from your_ref q ≡ true → P (receiver.load_for from my_ref q)) →
      IfSome (receiver.on_load from my_ref your_ref ws) P
  load-does from my_ref your_ref each =
      let test : Asked → Bool = receiver.is_load from your_ref in
      if-mapped P (receiver.load_for from my_ref) (asking_of test ws) (λ x q. let w = asking_is test ws x q in each x w.0 w.1)
