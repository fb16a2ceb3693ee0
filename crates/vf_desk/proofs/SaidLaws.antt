-- Texts of what lines are answered, over desks that a world may be seen as.
use Rattle.std.proofs.Common.{◌≡◌, ℕ, List, ◌++◌, append-nil, refl, sym, ap, subst, ◌∙◌}
use Rattle.std.specs.Option.{option_map}
use Rattle.std.specs.Prelude.{true, false, if◌then◌else◌, Option, Some, None, Ok, Err}
use Rattle.rh_defs.specs.declared.command.Command.{Command}
use Rattle.rh_defs.specs.declared.command.Command.TheVariants as command
use Rattle.rh_defs.specs.declared.fault.LineFault.{LineFault}
use Rattle.rh_defs.specs.declared.question.Question.{Question}
use Rattle.rh_defs.specs.declared.reply.Reply.{Reply}
use Rattle.rh_defs.specs.Desk.{Desk, Task}
use Rattle.rh_defs.specs.Post.{post_poll}
use Rattle.rh_defs.specs.Line.{Meaning, line_means}
use Rattle.rh_defs.specs.Order.{IsReordered}
use Rattle.rh_defs.specs.Range.{can_be_asked}
use Rattle.rh_defs.specs.Script.{line_desk, line_text, meaning_desk, meaning_text}
use Rattle.rh_defs.specs.Commands.{step}
use Rattle.rh_defs.specs.Messages.{Parcel}
use Rattle.rh_defs.specs.Questions.{Nothing}
use Rattle.rh_defs.specs.RawTasks.{handed_parts, is_raw_task, next_taken}
use Rattle.rh_defs.specs.Text.{first_line, handed_text, taken_of, with_taken}
use Rattle.rh_defs.proofs.HandedLaws.{taken-alike}
use Rattle.rh_defs.proofs.QuestionLaws.{asked-stays, one-line, question-text}
use Rattle.rh_tasks.specs.Answer.{StepsTo}
use Rattle.vf_desk.specs.Said.{said_text}
use Rattle.vf_desk.specs.declared.said.Said.{Said}
use Rattle.vf_desk.specs.declared.said.Said.TheVariants as said

-- what a line of this meaning leaves of a desk and of what is kept: another desk that it may be seen as, and the text
pub record Answers (meaning : Meaning (Option Command)) (old new : Desk) (kept : Said) : Type 0 where
  pub desk : (d : Desk) → IsReordered d old → IsReordered (meaning_desk d meaning) new
  pub text : (d : Desk) → IsReordered d old → said_text (meaning_desk d meaning) kept ≡ meaning_text d meaning

pub answers-nothing : (old : Desk) → Answers (Ok None) old old said.Nothing
answers-nothing old = record { desk = λ d seen. seen; text = λ d seen. refl }

pub answers-fault : (old : Desk) (fault : LineFault) → Answers (Err fault) old old (said.Fault fault)
answers-fault old fault = record { desk = λ d seen. seen; text = λ d seen. refl }

-- a question leaves the desk, and its text is that of its answer
pub answers-question : (old : Desk) (q : Question) → can_be_asked q ≡ true
    → Answers (Ok (Some (command.Ask q))) old old (said.Told q)
answers-question old q ranged = record {
  desk = λ d seen. subst (λ (e : Desk). IsReordered e old) (sym (asked-stays d q)) seen;
  text = λ d seen. ap (λ (e : Desk). said_text e (said.Told q)) (asked-stays d q) ∙ sym (question-text d q ranged);
}

with-handed : (text : List ℕ) (o : Option Parcel) → text ++ handed_text (option_map handed_parts o) ≡ with_taken text o
with-handed text None = append-nil text
with-handed text (Some p) = refl

-- any other command is answered in one line, and one more for a message that it hands out
pub answers-command : (old new : Desk) (c : Command) (r : Reply) (handed : Option (ℕ × List ℕ)) (kept : Said) → ((q : Question) → c ≡ command.Ask q → ⊥)
    → StepsTo c old new r → handed ≡ option_map handed_parts (taken_of old c)
    → ((d : Desk) → said_text d kept ≡ first_line r Nothing ++ handed_text handed) → Answers (Ok (Some c)) old new kept
answers-command old new c r handed kept other steps taken said_is = record {
  desk = λ d seen. (steps d seen).1;
  text = λ d seen.
      said_is (step d c).0 ∙ ap (λ (s : Reply). first_line s Nothing ++ handed_text handed) (sym (steps d seen).0)
      ∙ ap (λ h. first_line (step d c).1 Nothing ++ handed_text h) (taken ∙ ap (option_map handed_parts) (taken-alike seen c))
      ∙ with-handed (first_line (step d c).1 Nothing) (taken_of d c)
      ∙ ap (λ t. with_taken t (taken_of d c)) (sym (one-line (step d c).0 c (step d c).1 other));
}

-- one that hands out nothing, in one line
pub answers-quiet : (old new : Desk) (c : Command) (r : Reply) → ((q : Question) → c ≡ command.Ask q → ⊥)
    → StepsTo c old new r → taken_of old c ≡ None → Answers (Ok (Some c)) old new (said.Reply r)
answers-quiet old new c r other steps quiet =
    answers-command old new c r None (said.Reply r) other steps (sym (ap (option_map handed_parts) quiet)) (λ d. sym (append-nil (first_line r Nothing)))

-- a poll is no question
pub poll-asks : {c : Command} {name : List ℕ} → c ≡ command.Poll name → (q : Question) → c ≡ command.Ask q → ⊥
poll-asks is q e = let bad : command.Poll _ ≡ command.Ask q = sym is ∙ e in cc

-- a poll of a task that the desk plays hands out nothing
pub quiet-poll : (d : Desk) (o : Option Task) → false ≡ is_raw_task o → next_taken d o ≡ None
quiet-poll d None e = refl
quiet-poll d (Some t) e = ap (λ b. if b then (post_poll t.handle d.post).1 else None) (sym e)

-- nor does any other command
pub no-poll : (d : Desk) (c : Command) → ((name : List ℕ) → c ≡ command.Poll name → ⊥) → taken_of d c ≡ None
no-poll d (command.Poll name) other = absurd (other name refl)
no-poll d c other = refl

-- the same of what is equal
pub answers-is : {r m : Meaning (Option Command)} {old new new2 : Desk} {kept kept2 : Said} → r ≡ m → new ≡ new2 → kept ≡ kept2
    → Answers m old new2 kept2 → Answers r old new kept
answers-is {r} {m} {old} {new} {new2} {kept} {kept2} means desks said answers =
    subst (λ x. Answers x old new kept) (sym means)
    (subst (λ x. Answers m old x kept) (sym desks) (subst (λ x. Answers m old new2 x) (sym said) answers))

-- of a line that means this
pub line-desk : (line : List ℕ) (meaning : Meaning (Option Command)) (old new : Desk) (kept : Said) → meaning ≡ line_means line
    → Answers meaning old new kept → (d : Desk) → IsReordered d old → IsReordered (line_desk d line) new
line-desk line meaning old new kept means answers d seen = subst (λ m. IsReordered (meaning_desk d m) new) means (answers.desk d seen)

pub line-said : (line : List ℕ) (meaning : Meaning (Option Command)) (old new : Desk) (kept : Said) → meaning ≡ line_means line
    → Answers meaning old new kept → (d : Desk) → IsReordered d old → said_text (line_desk d line) kept ≡ line_text d line
line-said line meaning old new kept means answers d seen =
    subst (λ m. said_text (meaning_desk d m) kept ≡ meaning_text d m) means (answers.text d seen)
