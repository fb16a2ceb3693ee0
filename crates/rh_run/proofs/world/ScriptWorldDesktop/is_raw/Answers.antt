use Rattle.std.proofs.Common.{ap, ◌∙◌}
use Rattle.std.specs.Prelude.{find}
use Rattle.rh_defs.specs.Desk.{Desk, has_name}
use Rattle.rh_defs.specs.RawTasks.{is_raw_task}
use Rattle.rh_run.proofs.world.ScriptWorldDesktop.is_raw.Goals as goal

pub returns : goal.returns
returns g c = λ d same. c.is_raw.ensures ∙ ap (λ (x : Desk). is_raw_task (find (has_name c.args.name.now) x.tasks)) same.rest
