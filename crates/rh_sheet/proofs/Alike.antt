-- Desks that differ in the order of messages to different tasks alone have the same sheets.
use Rattle.std.proofs.Common.{◌≡◌, ℕ, refl, ap, ap₂, ◌∙◌, true, List, [], ◌∷◌, ◌++◌}
use Rattle.std.specs.Prelude.{Some, None, Ok, Err}
use Rattle.rh_defs.specs.declared.command.Command.{Command}
use Rattle.rh_defs.specs.declared.reply.Reply.{Reply}
use Rattle.rh_defs.specs.declared.fault.LineFault.{LineFault}
use Rattle.rh_defs.specs.Desk.{Desk}
use Rattle.rh_defs.specs.Order.{IsReordered}
use Rattle.rh_defs.specs.Commands.{step}
use Rattle.rh_defs.specs.Text.{fault_text}
use Rattle.rh_defs.specs.Script.{meaning_text}
use Rattle.rh_defs.proofs.Steps.{order-ignored}
use Rattle.rh_figure.specs.Share.{Share}
use Rattle.rh_figure.specs.Scene.{Before, no_marks, is_still, before_of, marks_of, scene_of}
use Rattle.rh_figure.proofs.Alike.{scene-alike, before-alike, marks-alike, said-alike}
use Rattle.rh_sheet.specs.Sheet.{command_happened, command_on, fault_happened, happened_text, behind_happened, skipped_text, behind_skipped, sheet_lines}
use Rattle.rh_sheet.specs.SheetLaws.{at_desk, DrawsNoOrder}

-- one reply on the desk after it
after-alike : {x y : Desk} → IsReordered x y → (s : Share) (c : Command) (said : List ℕ) (f : Before) (r : Reply)
    → command_happened s c said f (y, r) ≡ command_happened s c said f (x, r)
after-alike {x} {y} is s c said f r =
    ap (λ scene. record { scene = scene; reply = said; still = is_still (Some c) r })
    (ap (scene_of y s f) (marks-alike is f (Some c) r) ∙ scene-alike is s f (marks_of x f (Some c) r))

-- what a command does
pub command-alike : {a b : Desk} → IsReordered a b → (s : Share) (c : Command) → command_on s c b ≡ command_on s c a
command-alike {a} {b} is s c =
    let steps = order-ignored a b c is in
    let said = meaning_text a (Ok (Some c)) in
    ap₂ (λ t f. command_happened s c t f (step b c)) (said-alike is c) (before-alike is (Some c))
    ∙ (
    ap (λ r. command_happened s c said (before_of a (Some c)) ((step b c).0, r)) steps.reply
    ∙ after-alike steps.desks s c said (before_of a (Some c)) (step a c).1
    )

-- what a bad line does
pub fault-alike : {a b : Desk} → IsReordered a b → (s : Share) (fault : LineFault)
    → fault_happened s fault b ≡ fault_happened s fault a
fault-alike {a} {b} is s fault =
    ap (λ f. record { scene = scene_of b s f no_marks; reply = fault_text fault; still = true }) (before-alike is None)
    ∙ ap (λ scene. record { scene = scene; reply = fault_text fault; still = true })
    (scene-alike is s (before_of a None) no_marks)

pub no-order : DrawsNoOrder
no-order marked a b x [] is = refl
no-order marked a b x (((line, Ok None), s) ∷ rest) is =
    ap (λ t. skipped_text marked (at_desk a x) line ++ t)
    (no-order marked a b (behind_skipped marked (at_desk a x) (line, Ok None)) rest is)
no-order marked a b x (((line, Ok (Some c)), s) ∷ rest) is =
    ap (λ h. happened_text marked (at_desk a x) line h
    ++ sheet_lines marked (behind_happened marked (at_desk b x) (line, Ok (Some c)) h) rest) (command-alike is s c)
    ∙ ap (λ t. happened_text marked (at_desk a x) line (command_on s c a) ++ t)
    (no-order marked (step a c).0 (step b c).0
    (behind_happened marked (at_desk a x) (line, Ok (Some c)) (command_on s c a))
    rest (order-ignored a b c is).desks)
no-order marked a b x (((line, Err fault), s) ∷ rest) is =
    ap (λ h. happened_text marked (at_desk a x) line h
    ++ sheet_lines marked (behind_happened marked (at_desk b x) (line, Err fault) h) rest) (fault-alike is s fault)
    ∙ ap (λ t. happened_text marked (at_desk a x) line (fault_happened s fault a) ++ t)
    (no-order marked a b (behind_happened marked (at_desk a x) (line, Err fault) (fault_happened s fault a)) rest is)
