-- Each command goes by its table, whose rows stand in the one order.
use Rattle.rh_laws.proofs.Common.{◌≡◌, true, false, refl, ◌∙◌, Question, Desk, Some, None, OnGrant, granted, none_some, or_else-keeps}
use Rattle.rh_laws.proofs.Common.{change, IsDesk, Answer, Granted, Refusal, Reply}
use Rattle.rh_defs.specs.declared.reply.Reply.TheVariants as reply
use Rattle.rh_defs.specs.Commands.{is_refused}
use Rattle.rh_defs.proofs.Chains as chains
use Rattle.rh_defs.proofs.Steps.{never-refused}
use Rattle.rh_defs.specs.declared.command.Command.TheVariants as command
use Rattle.rh_defs.specs.declared.question.Question.TheVariants as question
use Rattle.rh_defs.specs.declared.raw_command.RawCommand.{RawCommand}
use Rattle.rh_defs.specs.declared.raw_command.RawCommand.TheVariants as raw
use Rattle.rh_defs.specs.Laws.{Always}
use Rattle.rh_defs.proofs.Spaced.{always-is}
use Rattle.rh_laws.specs.RefusalOrder.{are_in_order, refusal_in}
use Rattle.rh_laws.specs.Conditions.{AnswersByTable, ChangesNothing, StandInOrder, asked_rows, raw_rows}
use Rattle.rh_laws.proofs.RefusalSteps.{replied}
use Rattle.rh_laws.proofs.EachCommand.{change-goes}

-- ---- the order

asked-ordered : (d : Desk) (q : Question) → are_in_order 0 (asked_rows d q) ≡ true
asked-ordered d question.Areas = refl
asked-ordered d q = refl

raw-ordered : (d : Desk) (c : RawCommand) → are_in_order 0 (raw_rows d c) ≡ true
raw-ordered d (raw.Ack name) = refl
raw-ordered d c = refl

pub ordered : StandInOrder
ordered d (command.Ask q) = asked-ordered d q
ordered d (command.Raw c) = raw-ordered d c
ordered d c = refl

-- ---- the answers

answered : (d : Desk) → IsDesk d → AnswersByTable d
answered d is c = replied d (change d c) ∙ (change-goes d is c).is

pub always-answered : Always AnswersByTable
always-answered pool handle ref files commands from ranged = answered _ (always-is pool handle ref files commands from ranged)

-- ---- refusals

-- a reply that is no refusal tells none
tells-none : (said : Reply) (r : Refusal) → is_refused said ≡ false → refusal_in said ≡ Some r → ⊥
tells-none (reply.Refused x) r e q = let z : true ≡ false = e in cc
tells-none said r e q = none_some None refl q

module _ (d : Desk) where
  -- a refusal leaves the desk
  record Unchanged (a : Answer) : Type 0 where
    desk : (r : Refusal) → refusal_in a.1 ≡ Some r → a.0 ≡ d

  unrefused : {g : Granted Answer} → OnGrant (λ (a : Answer). is_refused a.1 ≡ false) g → OnGrant Unchanged g
  unrefused (granted {x = a} e) = granted (record { desk = λ r q. absurd (tells-none a.1 r e q) })
  unrefused chains.refused = chains.refused

pub changes-nothing : ChangesNothing
changes-nothing d c r q =
    (or_else-keeps (Unchanged d) _ (unrefused d (never-refused d c)) (λ refusal. record { desk = λ r q. refl })).desk r q
