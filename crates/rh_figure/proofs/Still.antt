-- A question or a refusal leaves the desk as it was.
use Rattle.std.proofs.Common.{◌≡◌, refl, sym, ◌∙◌, true≢false, Bool, true, false}
use Rattle.std.specs.Prelude.{◌||◌}
use Rattle.rh_defs.specs.declared.command.Command.{Command}
use Rattle.rh_defs.specs.declared.command.Command.TheVariants as command
use Rattle.rh_defs.specs.declared.reply.Reply.TheVariants as reply
use Rattle.rh_defs.specs.Chain.{Granted, or_else}
use Rattle.rh_defs.specs.Desk.{Desk}
use Rattle.rh_defs.specs.Commands.{Answer, change, is_refused, step}
use Rattle.rh_defs.proofs.Chains.{OnGrant, granted, refused}
use Rattle.rh_defs.proofs.Steps.{never-refused}
use Rattle.rh_defs.proofs.QuestionLaws.{asked-stays}
use Rattle.rh_figure.specs.Scene.{is_question}
use Rattle.rh_figure.specs.FigureLaws.{KeepsStill}

refused-stays : (d : Desk) (g : Granted Answer) → OnGrant (λ (a : Answer). is_refused a.1 ≡ false) g
    → is_refused (or_else g (λ refusal. (d, reply.Refused refusal))).1 ≡ true
    → (or_else g (λ refusal. (d, reply.Refused refusal))).0 ≡ d
unfolding or_else
refused-stays d _ refused is = refl
refused-stays d _ (granted other) is = absurd (true≢false (sym is ∙ other))

question-stays : (d : Desk) (c : Command) → is_question c ≡ true → (step d c).0 ≡ d
question-stays d (command.Ask q) is = asked-stays d q
question-stays d c is = absurd (true≢false (sym is))

stays : (d : Desk) (c : Command) (t : Bool) → is_question c ≡ t → (t || is_refused (step d c).1) ≡ true
    → (step d c).0 ≡ d
stays d c true is e = question-stays d c is
stays d c false is e = refused-stays d (change d c) (never-refused d c) e

pub keeps-still : KeepsStill
keeps-still d c e = stays d c (is_question c) refl e
