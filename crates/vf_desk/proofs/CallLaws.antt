-- A call with a command, from what the step under it says.
use Rattle.vf_desk.proofs.Common.{◌≡◌, ℕ, Bool, true, false, sym, ap, subst, ◌∙◌, ◌≢◌, if◌then◌else◌, Option, Some, None, Command, Question, Desk, in_range}
use Rattle.vf_desk.proofs.Common.{CallOutcome, IsAsked, called, desk_by, in_form, status_of, KeepsRest, SeenBy, console_in}
use Rattle.rh_defs.specs.declared.command.Command.TheVariants as command
use Rattle.vf_desk.specs.declared.desk.VfDesk.{VfDesk}
use Rattle.vf_desk.specs.CallOutcome.{Asks, DoesCalled}
use Rattle.vf_desk.specs.SeenDesk.{IsSeenDesk}

module _ {command form : Option Command} (old : VfDesk) {said : CallOutcome} (same : form ≡ command)
    (says : (s : Option Desk) → IsSeenDesk old s → said ≡ called s form) where
  -- what is told of what was said
  pub told_by : {A : Type 0} (tell : CallOutcome → A) {now : A} → now ≡ tell said
      → (s : Option Desk) → IsSeenDesk old s → now ≡ tell (called s command)
  told_by tell told s seen = told ∙ ap tell (says s seen ∙ ap (called s) same)

  pub does : {new : VfDesk} → ((s : Option Desk) → IsSeenDesk old s → IsSeenDesk new (desk_by s form))
      → KeepsRest old.handle.open_desk new.handle.open_desk → (status_of said ≢ 0 → new.handle.open_desk ≡ old.handle.open_desk)
      → {status : ℕ} → status ≡ status_of said → DoesCalled command old new status
  does {new} desk rest refused {status} told = record {
    status_is = told_by status_of told;
    desk = λ s seen. subst (λ f. IsSeenDesk new (desk_by s f)) same (desk s seen);
    rest = rest;
    refused = λ bad. refused (λ zero. bad (told ∙ zero));
  }

-- a question that has its form is one, and else there is no command
pub question-asked : (q : Question) → IsAsked (in_form (command.Ask q))
question-asked q = go (in_range (command.Ask q))
  where
    go : (b : Bool) → IsAsked (if b then Some (command.Ask q) else None)
    go true = tt
    go false = tt

pub asks : {q : Question} {form : Option Command} {old new : VfDesk} {said : CallOutcome} {status : ℕ}
    → form ≡ in_form (command.Ask q) → ((s : Option Desk) → IsSeenDesk old s → said ≡ called s form)
    → (IsAsked form → new.handle.open_desk ≡ old.handle.open_desk) → status ≡ status_of said → Asks q old new status
asks {q} {old = old} same says stays told = record {
  status_is = told_by old same says status_of told;
  same = stays (subst IsAsked (sym same) (question-asked q));
}

-- a call that does a command on a desk that was looked at before
pub behind_look : {command : Option Command} {old seen new : VfDesk} {status : ℕ} → seen.handle.open_desk ≡ old.handle.open_desk
    → DoesCalled command seen new status → DoesCalled command old new status
behind_look {command} {old} {seen} {new} {status} same d = record {
  status_is = λ s looks. d.status_is s (subst (λ h. SeenBy (console_in h) s) (sym same) looks);
  desk = λ s looks. d.desk s (subst (λ h. SeenBy (console_in h) s) (sym same) looks);
  rest = subst (λ h. KeepsRest h new.handle.open_desk) same d.rest;
  refused = λ bad. d.refused bad ∙ same;
}
