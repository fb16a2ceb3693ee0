use Rattle.std.proofs.Common.{subst, sym, ◌∙◌}
use Rattle.vf_desk.proofs.SeenLaws.{steps-bad, steps-ranged}
use Rattle.vf_desk.proofs.open_desk.step_world.Goals as goal

pub returns-then-in_range : goal.returns-then-in_range
returns-then-in_range c = steps-ranged c.args.command.now (sym c.in_range.ensures ∙ c.if-in_range.true)
    c.apply.ensures.steps c.apply.ensures.refused c.apply.ensures.asked

pub returns-else-in_range : goal.returns-else-in_range
returns-else-in_range c = steps-bad c.args.command.now c.args.world.now (sym c.in_range.ensures ∙ c.if-in_range.false)
