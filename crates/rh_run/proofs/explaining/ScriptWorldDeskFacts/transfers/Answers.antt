use Rattle.rh_run.proofs.FactLaws.{transfers-none, transfers-told}
use Rattle.rh_run.proofs.explaining.ScriptWorldDeskFacts.transfers.Goals as goal

pub returns-in-Ok : goal.returns-in-Ok
returns-in-Ok g c = λ d same. transfers-told c.args.name.now _ same c.in-Ok.ensures.ok

pub returns-in-Err : goal.returns-in-Err
returns-in-Err g c = λ d same. transfers-none c.args.name.now _ same c.in-Err.ensures.err
