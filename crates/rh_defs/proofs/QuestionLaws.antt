-- What holds of all questions: they leave the desk, don't see the order of messages, and alone list more than a line.
use Rattle.rh_defs.proofs.Common.{◌≡◌, Bool, true, false, List, refl, ap, ◌∙◌, rules, Ok, Err, if◌then◌else◌, Command, Granted, ◌>>=◌, or_else, Parcel}
use Rattle.rh_defs.proofs.Common.{Desk, named, Answer, asked, step}
use borrow.Author.Tests.{tests}
use Rattle.rh_defs.specs.declared.command.Command.TheVariants as command
use Rattle.rh_defs.specs.declared.question.Question.{Question}
use Rattle.rh_defs.specs.declared.question.Question.TheVariants as question
use Rattle.rh_defs.specs.declared.question.Numbers.{Numbers}
use Rattle.rh_defs.specs.declared.reply.Reply.{Reply}
use Rattle.rh_defs.specs.declared.reply.Reply.TheVariants as reply
use Rattle.rh_defs.specs.Range.{can_be_asked}
use Rattle.rh_defs.specs.Questions.{Nothing, Told, begins, is_same, show, read, blocks, heap, status}
use Rattle.rh_defs.specs.Commands.{is_refused}
use Rattle.rh_defs.specs.Order.{with_queue, IsReordered}
use Rattle.rh_defs.specs.Text.{answer_text, first_line, reply_text}

-- no answer has the queue in it
pub asked-requeued : (queue : List Parcel) (d : Desk) (q : Question) → asked (with_queue queue d) q ≡ asked d q
unfolding show read blocks heap status named
asked-requeued queue d (question.Show name k) = refl
asked-requeued queue d q = refl

-- desks that differ in the order of messages to different tasks alone are answered alike
pub asked-alike : {a b : Desk} → IsReordered a b → (q : Question) → asked b q ≡ asked a q
asked-alike {a} {b} same q = ap (λ d. asked d q) same.rest ∙ asked-requeued b.post.queued a q

-- the desk after a question is the one before it
pub asked-stays : (d : Desk) (q : Question) → (step d (command.Ask q)).0 ≡ d
unfolding ◌>>=◌ or_else
asked-stays d q = go (asked d q)
  where
    passed : Granted Told → Answer
    passed g = or_else (g >>= λ told. Ok (d, reply.Answered told.0)) (λ refusal. (d, reply.Refused refusal))

    go : (g : Granted Told) → (passed g).0 ≡ d
    go (Ok told) = refl
    go (Err refusal) = refl

-- the reply to any other command has one line
pub one-line : (d : Desk) (c : Command) (r : Reply) → ((q : Question) → c ≡ command.Ask q → ⊥) → reply_text d c r ≡ first_line r Nothing
unfolding reply_text
one-line d (command.Ask q) r other = absurd (other q refl)
one-line d c r other = refl

-- ---- the first line

-- whether a reply is no refusal, and tells of no new task, message or area
abbrev pub is_quiet : Reply → Bool
is_quiet (reply.Refused refusal) = false
is_quiet (reply.Started handle) = false
is_quiet (reply.Sent ref) = false
is_quiet (reply.Event code action my_ref your_ref done) = false
is_quiet (reply.Made number) = false
is_quiet said = true

pub quiet-granted : (said : Reply) → is_quiet said ≡ true → is_refused said ≡ false
quiet-granted (reply.Refused refusal) quiet = absurd cc
quiet-granted said quiet = refl

-- numbers are the same as themselves
pub same-self : (n : Numbers) → is_same n n ≡ true
same-self n = search (rules, tests)

-- the reply to a question is printed as its answer is
pub question-text : (d : Desk) (q : Question) → can_be_asked q ≡ true →
    reply_text (step d (command.Ask q)).0 (command.Ask q) (step d (command.Ask q)).1 ≡ answer_text (asked d q)
unfolding ◌>>=◌ or_else reply_text answer_text
question-text d q ranged = rw (asked-stays d q, ranged) (go (asked d q))
  where
    passed : Granted Told → Answer
    passed g = or_else (g >>= λ told. Ok (d, reply.Answered told.0)) (λ refusal. (d, reply.Refused refusal))

    said : Granted Told → Reply
    said g = (passed g).1

    go : (g : Granted Told) → (if begins g (said g) then answer_text g else first_line (said g) Nothing) ≡ answer_text g
    go (Ok told) = rw (same-self told.0) refl
    go (Err refusal) = refl
