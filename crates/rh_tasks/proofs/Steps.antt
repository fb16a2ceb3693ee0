-- A command's call as a step.
use Rattle.rh_tasks.proofs.Common.{◌≡◌, Bool, true, false, refl, ap, sym, ◌∙◌, subst, List, [], ◌∷◌, ◌++◌, Result, Ok, Err, Command, Refusal, Reply, Granted}
use Rattle.rh_tasks.proofs.Common.{or_else, Answer, Desk, IsReordered, change, grant-holds, Shown, reordered-refl}
use Rattle.rh_defs.specs.declared.command.Command.TheVariants as command
use Rattle.rh_defs.specs.declared.question.Question.{Question}
use Rattle.rh_defs.specs.declared.reply.Reply.TheVariants as reply
use Rattle.rh_defs.specs.Runs.{after}
use Rattle.rh_defs.specs.Commands.{is_refused, step}
use Rattle.rh_defs.proofs.Steps.{order-ignored, never-refused}
use Rattle.rh_tasks.specs.Answer.{Gives, RunsOn, StaysIfRefused, StaysIfAsked, StepsTo}
use Rattle.rh_tasks.specs.Inner.CommandAnswers.{Does, GivesAlike, reply_of}
use Rattle.rh_tasks.proofs.Reorders.{reordered-trans}

-- where the old desk itself goes, each like it goes
pub steps-from : (c : Command) (old new : Desk) (said : Reply) → (step old c).1 ≡ said → IsReordered (step old c).0 new → StepsTo c old new said
steps-from c old new said e r d alike =
    let both = order-ignored d old c alike in
    (sym both.reply ∙ e, reordered-trans both.desks r)

equal-steps : (granted : Granted Answer) (old new : Shown) (result : Result Reply Refusal) (said : Reply) → Gives granted old new result
    → said ≡ reply_of result → or_else granted (λ refusal. (old.desk, reply.Refused refusal)) ≡ (new.desk, said)
unfolding or_else
equal-steps granted old new (Ok answer) said h s = rw (h, s) refl
equal-steps granted old new (Err refusal) said h s = rw (h.0, h.1, s) refl

steps-so : (c : Command) (granted : Granted Answer) (old new : Shown) (result : Result Reply Refusal) (said : Reply) → change old.desk c ≡ granted
    → Gives granted old new result → said ≡ reply_of result → StepsTo c old.desk new.desk said
steps-so c granted old new result said same h s =
    let e = ap (λ (g : Granted Answer). or_else g (λ refusal. (old.desk, reply.Refused refusal))) same ∙ equal-steps granted old new result said h s in
    steps-from c old.desk new.desk said (ap (λ (p : Answer). p.1) e) (subst (IsReordered (step old.desk c).0) (ap (λ (p : Answer). p.0) e)
    (reordered-refl (step old.desk c).0))

steps-alike : (c : Command) (granted : Granted Answer) (old new : Shown) (result : Result Reply Refusal) (said : Reply) → change old.desk c ≡ granted
    → GivesAlike granted old new result → said ≡ reply_of result → StepsTo c old.desk new.desk said
unfolding or_else
steps-alike c granted old new (Ok answer) said given h s =
    let e = ap (λ (g : Granted Answer). or_else g (λ refusal. (old.desk, reply.Refused refusal))) (given ∙ h.1.0) in
    steps-from c old.desk new.desk said (ap (λ (p : Answer). p.1) e ∙ sym s) (subst (λ d. IsReordered d new.desk) (sym (ap (λ (p : Answer). p.0) e)) h.1.1)
steps-alike c granted old new (Err refusal) said given h s =
    let e = ap (λ (g : Granted Answer). or_else g (λ r. (old.desk, reply.Refused r))) (given ∙ h.0) in
    let same : new.desk ≡ old.desk = ap (λ (x : Shown). x.desk) h.1 in
    steps-from c old.desk new.desk said (ap (λ (p : Answer). p.1) e ∙ sym s)
    (subst (IsReordered (step old.desk c).0) (ap (λ (p : Answer). p.0) e ∙ sym same) (reordered-refl (step old.desk c).0))

-- ---- what a refused command leaves

-- what is granted is no refusal
granted-stays : (c : Command) (d e : Desk) (old new : Shown) (said answer : Reply) → change d c ≡ Ok (e, answer) → said ≡ answer → StaysIfRefused old new said
granted-stays c d e old new said answer given same refusal is =
    absurd (differ answer refusal (grant-holds (never-refused d c) given) (sym same ∙ is))
  where
    differ : (answer : Reply) (refusal : Refusal) → is_refused answer ≡ false → answer ≡ reply.Refused refusal → ⊥
    differ answer refusal other e = let both : ◌≡◌ {A = Bool} true false = sym (ap is_refused e) ∙ other in (cc)

refused-stays : (c : Command) (granted : Granted Answer) (old new : Shown) (result : Result Reply Refusal) (said : Reply) → change old.desk c ≡ granted
    → Gives granted old new result → said ≡ reply_of result → StaysIfRefused old new said
refused-stays c granted old new (Ok answer) said given h s = granted-stays c old.desk new.desk old new said answer (given ∙ h) s
refused-stays c granted old new (Err refusal) said given h s = λ other is. h.1

refused-alike : (c : Command) (granted : Granted Answer) (old new : Shown) (result : Result Reply Refusal) (said : Reply) → change old.desk c ≡ granted
    → GivesAlike granted old new result → said ≡ reply_of result → StaysIfRefused old new said
refused-alike c granted old new (Ok answer) said given h s = granted-stays c old.desk h.0 old new said answer (given ∙ h.1.0) s
refused-alike c granted old new (Err refusal) said given h s = λ other is. h.1

-- ---- a command's call

-- whether a command is a question
abbrev asks : Command → Bool
asks (command.Ask q) = true
asks c = false

pub no-question : (c : Command) → ((q : Question) → c ≡ command.Ask q → ⊥) → asks c ≡ false
no-question (command.Ask q) other = absurd (other q refl)
no-question c other = refl

unasked : (c : Command) (old new : Shown) → asks c ≡ false → StaysIfAsked c old new
unasked c old new changes q is = absurd (let both : ◌≡◌ {A = Bool} true false = sym (ap asks is) ∙ changes in (cc))

-- a change
pub stepped : (c : Command) (granted : Granted Answer) (old new : Shown) (result : Result Reply Refusal) (said : Reply) → change old.desk c ≡ granted
    → asks c ≡ false → Gives granted old new result → said ≡ reply_of result → Does c old new said
stepped c granted old new result said given changes h s = record {
  steps = steps-so c granted old new result said given h s;
  refused = refused-stays c granted old new result said given h s;
  asked = unasked c old new changes;
}

-- the same, but for the order of messages to different tasks
pub stepped-alike : (c : Command) (granted : Granted Answer) (old new : Shown) (result : Result Reply Refusal) (said : Reply) → change old.desk c ≡ granted
    → asks c ≡ false → GivesAlike granted old new result → said ≡ reply_of result → Does c old new said
stepped-alike c granted old new result said given changes h s = record {
  steps = steps-alike c granted old new result said given h s;
  refused = refused-alike c granted old new result said given h s;
  asked = unasked c old new changes;
}

-- a question
pub asked : (q : Question) (granted : Granted Answer) (world : Shown) (result : Result Reply Refusal) (said : Reply)
    → change world.desk (command.Ask q) ≡ granted → Gives granted world world result → said ≡ reply_of result → Does (command.Ask q) world world said
asked q granted world result said given h s = record {
  steps = steps-so (command.Ask q) granted world world result said given h s;
  refused = λ refusal is. refl;
  asked = λ other is. refl;
}

-- a run of one command more ends with that command's step
after-more : (d : Desk) (commands : List Command) (c : Command) → after d (commands ++ c ∷ []) ≡ (step (after d commands) c).0
after-more d [] c = refl
after-more d (first ∷ commands) c = after-more (step d first).0 commands c

pub runs_on : (c : Command) (old new : Desk) (said : Reply) → StepsTo c old new said → RunsOn c old new
runs_on c old new said steps d commands alike = subst (λ e. IsReordered e new) (sym (after-more d commands c)) (steps (after d commands) alike).1
