use Rattle.std.proofs.lemmas.Result.{IfOk-weaker}
use Rattle.rh_defs.specs.Desk.{Desk}
use Rattle.rh_defs.specs.Runs.{start}
use Rattle.rh_run.proofs.ReplyLaws.{same-desk}
use Rattle.rh_run.proofs.SafeLaws.{finished_safely, answered_safely}
use Rattle.rh_run.proofs.running.run_over.Goals as goal

pub returns-clause-safe : goal.returns-clause-safe
returns-clause-safe g c =
    let pages = (g.S.Words.memory c.args.store).pages in
    let files = g.F.NamedFiles.contents c.args.files in
    let d : Desk = start pages files in
    IfOk-weaker c.run_script.result _ _ (λ status finished. finished_safely pages files c.requires.least c.requires.most
    {after = g.R.Source.input c.run_script.new.reader} {new = g.W.Sink.output c.run_script.new.writer} status
    (finished d (same-desk c.new-world.ensures))) c.run_script.ensures.ok

pub returns-clause-read_safe : goal.returns-clause-read_safe
returns-clause-read_safe g c = λ e.
    let pages = (g.S.Words.memory c.args.store).pages in
    let files = g.F.NamedFiles.contents c.args.files in
    let d : Desk = start pages files in
    answered_safely pages files c.requires.least c.requires.most {after = g.R.Source.input c.run_script.new.reader}
    {new = g.W.Sink.output c.run_script.new.writer} (c.run_script.ensures.read_answered e d (same-desk c.new-world.ensures))

pub returns-clause-long_safe : goal.returns-clause-long_safe
returns-clause-long_safe g c = λ e.
    let pages = (g.S.Words.memory c.args.store).pages in
    let files = g.F.NamedFiles.contents c.args.files in
    let d : Desk = start pages files in
    answered_safely pages files c.requires.least c.requires.most {after = g.R.Source.input c.run_script.new.reader}
    {new = g.W.Sink.output c.run_script.new.writer} (c.run_script.ensures.long_answered e d (same-desk c.new-world.ensures))

pub returns-clause-write_failed : goal.returns-clause-write_failed
returns-clause-write_failed g c = λ e.
    let d : Desk = start (g.S.Words.memory c.args.store).pages (g.F.NamedFiles.contents c.args.files) in
    c.run_script.ensures.write_failed e d (same-desk c.new-world.ensures)
