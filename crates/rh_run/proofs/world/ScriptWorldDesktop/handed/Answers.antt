use Rattle.std.proofs.Common.{ap, ◌∙◌}
use Rattle.std.specs.Option.{option_map}
use Rattle.rh_defs.specs.RawTasks.{handed_parts}
use Rattle.rh_defs.proofs.HandedLaws.{taken-alike}
use Rattle.rh_run.proofs.world.ScriptWorldDesktop.handed.Goals as goal

pub returns : goal.returns
returns g c = λ d same. c.handed.ensures ∙ ap (option_map handed_parts) (taken-alike same c.args.command.now)
