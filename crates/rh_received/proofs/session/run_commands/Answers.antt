use Rattle.std.proofs.Common.{subst}
use Rattle.std.proofs.lemmas.List.{take_all}
use Rattle.rh_defs.specs.Desk.{Desk}
use Rattle.rh_defs.specs.Runs.{start}
use Rattle.rh_received.specs.Received.{HasRun}
use Rattle.rh_received.proofs.Sessions.{run-begins, run-goes-on}
use Rattle.rh_received.proofs.session.run_commands.Goals as goal

pub loop-command-init : goal.loop-command-init
loop-command-init g c =
    run-begins c.run_law.ensures.begins (g.S.Words.memory c.args.store).pages (g.F.NamedFiles.contents c.args.files) c.new-world.result
    c.requires.least c.requires.most c.new-world.ensures

pub loop-command-preserved : goal.loop-command-preserved
loop-command-preserved g c =
    let d : Desk = start (g.S.Words.memory c.args.store).pages (g.F.NamedFiles.contents c.args.files) in
    run-goes-on c.run_law.ensures.goes_on d c.args.commands.now c.loop-command.command-index c.command-item.result
    c.loop-command.world c.apply.new.self c.requires.ranged c.loop-command-test.true c.command-item.is
    c.apply.ensures.runs c.loop-command.invariant

pub returns-clause-run : goal.returns-clause-run
returns-clause-run g c =
    let d : Desk = start (g.S.Words.memory c.args.store).pages (g.F.NamedFiles.contents c.args.files) in
    subst (λ xs. HasRun d xs c.loop-command.world)
    (take_all c.loop-command.command-index c.args.commands.now c.loop-command-test.false) c.loop-command.invariant
