use Rattle.rh_defs.specs.Range.{in_range}
use Rattle.std.proofs.Common.{refl, sym, ◌∙◌}
use Rattle.std.specs.Prelude.{find}
use Rattle.rh_defs.specs.Desk.{has_name}
use Rattle.vf_desk.proofs.SaidLaws.{answers-question, no-poll, poll-asks, quiet-poll}
use Rattle.vf_desk.proofs.console.Console.carry_out.Goals as goal

pub returns-in-Ask-clause-desk : goal.returns-in-Ask-clause-desk
unfolding in_range
returns-in-Ask-clause-desk c = λ d seen.
    rw c.in-Ask.is ((answers-question c.args.self.now.world.desk c.in-Ask.question (rw c.in-Ask.is at c.requires)).desk d seen)

pub returns-in-Ask-clause-text : goal.returns-in-Ask-clause-text
unfolding in_range
returns-in-Ask-clause-text c = λ d seen.
    rw (c.in-Ask.is, c.replace.ensures.value)
    ((answers-question c.args.self.now.world.desk c.in-Ask.question (rw c.in-Ask.is at c.requires)).text d seen)

pub hand_out-requires-clause-command : goal.hand_out-requires-clause-command
hand_out-requires-clause-command c = poll-asks refl

pub reply-requires-clause-command : goal.reply-requires-clause-command
reply-requires-clause-command c = poll-asks refl

pub reply-requires-clause-quiet : goal.reply-requires-clause-quiet
reply-requires-clause-quiet c =
    quiet-poll c.args.self.now.world.desk (find (has_name c.in-Poll.name) c.args.self.now.world.desk.tasks)
    (sym c.if-is_raw.false ∙ c.is_raw.ensures)

pub reply-requires-in_default-clause-command : goal.reply-requires-in_default-clause-command
reply-requires-in_default-clause-command c = c.in_default.not-Ask

pub reply-requires-in_default-clause-quiet : goal.reply-requires-in_default-clause-quiet
reply-requires-in_default-clause-quiet c = no-poll c.args.self.now.world.desk c.args.self.now.command c.in_default.not-Poll
