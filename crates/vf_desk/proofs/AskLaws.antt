-- A call that asks a question, from what its step says and what is listed of the open desk.
use Rattle.vf_desk.proofs.Common.{◌≡◌, ℕ, refl, sym, ap, subst, ◌∙◌, Option, Some}
use Rattle.vf_desk.proofs.Common.{None, Command, Question, Desk, CallOutcome, OpenDesk, IsAsked, called, in_form}
use Rattle.vf_desk.proofs.Common.{status_of, list_asked, SeenBy}
use Rattle.rh_defs.specs.declared.command.Command.TheVariants as command
use Rattle.rh_defs.specs.Questions.{Nothing}
use Rattle.vf_desk.specs.declared.call_outcome.CallOutcome.TheVariants.{Closed}
use Rattle.vf_desk.specs.declared.desk.VfDesk.{VfDesk}
use Rattle.vf_desk.specs.CallOutcome.{Asks, done_or}
use Rattle.vf_desk.specs.SeenDesk.{IsSeenDesk}
use Rattle.vf_desk.proofs.CallLaws.{asks, question-asked, told_by}
use Rattle.vf_desk.proofs.ListLaws.{listed-closed}
use Rattle.vf_desk.proofs.SeenLaws.{closed-said, empty-seen, in-handle}

module _ (q : Question) (old after : VfDesk) {form : Option Command} {said : CallOutcome} (same : form ≡ in_form (command.Ask q))
    (says : (s : Option Desk) → IsSeenDesk old s → said ≡ called s form) (stays : IsAsked form → after.handle.open_desk ≡ old.handle.open_desk) where
  -- the step has changed nothing
  kept : after.handle.open_desk ≡ old.handle.open_desk
  kept = stays (subst IsAsked (sym same) (question-asked q))

  -- what is told of the reply
  pub ask-told : {A : Type 0} (tell : CallOutcome → A) {now : A} → now ≡ tell said → (s : Option Desk) → IsSeenDesk old s
      → now ≡ tell (called s (in_form (command.Ask q)))
  ask-told tell told s seen = told_by old same says tell told s seen

  -- how many there are is told
  pub ask-counted : (was : ℕ) {n now : ℕ} (count : Option Desk → ℕ) → now ≡ done_or said n was → ((s : Option Desk) → IsSeenDesk old s → n ≡ count s)
      → (s : Option Desk) → IsSeenDesk old s → now ≡ done_or (called s (in_form (command.Ask q))) (count s) was
  ask-counted was {n} count told counted s seen =
      told_by old same says (λ c. done_or c n was) told s seen ∙ ap (λ k. done_or (called s (in_form (command.Ask q))) k was) (counted s seen)

  -- where the handle had nothing
  module _ (taken : None ≡ after.handle.open_desk) where
    pub shut-asks : {new : VfDesk} → new.handle.open_desk ≡ None → {status : ℕ} → status ≡ status_of said → Asks q old new status
    shut-asks left told = asks same says (λ _. left ∙ taken ∙ kept) told

    shut-seen : (s : Option Desk) → IsSeenDesk old s → SeenBy None s
    shut-seen s seen = empty-seen (sym kept ∙ sym taken) s seen

    pub shut-list : (s : Option Desk) → IsSeenDesk old s → list_asked s q ≡ Nothing
    shut-list s seen = listed-closed refl s q (shut-seen s seen)

    -- what was told before stays
    pub shut-told : {A : Type 0} (tell : CallOutcome → A) (s : Option Desk) → IsSeenDesk old s → tell Closed ≡ tell (called s (in_form (command.Ask q)))
    shut-told tell s seen = ap tell (closed-said s (in_form (command.Ask q)) (shut-seen s seen))

    pub shut-counted : (was n : ℕ) (s : Option Desk) → IsSeenDesk old s → was ≡ done_or (called s (in_form (command.Ask q))) n was
    shut-counted was n s seen = shut-told (λ c. done_or c n was) s seen

  -- where it had a open desk
  pub open-asks : {open_desk : OpenDesk} → Some open_desk ≡ after.handle.open_desk → {new : VfDesk} → new.handle.open_desk ≡ Some open_desk
      → {status : ℕ} → status ≡ status_of said → Asks q old new status
  open-asks taken put told = asks same says (λ _. put ∙ taken ∙ kept) told

  -- what is listed of a open desk is listed of the handle
  pub open-list : {open_desk : OpenDesk} → Some open_desk ≡ after.handle.open_desk → {P : Option Desk → Type 0}
      → ((s : Option Desk) → SeenBy open_desk.console s → P s)
      → (s : Option Desk) → IsSeenDesk old s → P s
  open-list taken holds s seen = in-handle (taken ∙ kept) holds s seen
