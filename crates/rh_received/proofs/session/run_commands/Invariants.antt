use Rattle.std.specs.Prelude.{take}
use Rattle.rh_defs.specs.Runs.{start}
use Rattle.rh_received.specs.Received.{HasRun}
use Rattle.rh_received.proofs.session.run_commands.Given as goal

-- the world is that after the commands so far
abbrev pub invariant-loop-command : goal.invariant-loop-command
invariant-loop-command g l = HasRun (start (g.S.Words.memory l.fn.store).pages (g.F.NamedFiles.contents l.fn.files)) (take l.command-index l.commands) l.world
