use Rattle.std.proofs.Common.{refl}
use Rattle.rh_defs.specs.Range.{in_range}
use Rattle.caller_rows.proofs.worlds.areas_of.Goals as goal

pub run_commands-world-requires-clause-ranged : goal.run_commands-world-requires-clause-ranged
unfolding in_range
run_commands-world-requires-clause-ranged g c = refl
