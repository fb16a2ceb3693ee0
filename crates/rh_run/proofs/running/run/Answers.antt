use Rattle.std.proofs.lemmas.Result.{IfOk-weaker}
use Rattle.rh_defs.specs.Desk.{Desk}
use Rattle.rh_defs.specs.Runs.{start}
use Rattle.rh_run.proofs.ReplyLaws.{same-desk}
use Rattle.rh_run.proofs.SafeLaws.{finished_safely, answered_safely}
use Rattle.rh_run.proofs.running.run.Goals as goal

pub returns-in-Ok-clause-ok : goal.returns-in-Ok-clause-ok
returns-in-Ok-clause-ok g c = IfOk-weaker c.run_script-ended.result _ _
    (λ status finished. finished (start c.args.pages c.args.files) (same-desk (rw c.deref_mut.ensures.value c.in-Ok.ensures))) c.run_script-ended.ensures.ok

pub returns-in-Ok-clause-safe : goal.returns-in-Ok-clause-safe
returns-in-Ok-clause-safe g c =
    let d : Desk = start c.args.pages c.args.files in
    IfOk-weaker c.run_script-ended.result _ _ (λ status finished. finished_safely c.args.pages c.args.files c.requires.least
    c.requires.most {after = g.R.Source.input c.run_script-ended.new.reader} {new = g.W.Sink.output c.run_script-ended.new.writer} status
    (finished d (same-desk (rw c.deref_mut.ensures.value c.in-Ok.ensures)))) c.run_script-ended.ensures.ok

pub returns-in-Ok-clause-read_answered : goal.returns-in-Ok-clause-read_answered
returns-in-Ok-clause-read_answered g c = λ e.
    c.run_script-ended.ensures.read_answered e (start c.args.pages c.args.files) (same-desk (rw c.deref_mut.ensures.value c.in-Ok.ensures))

pub returns-in-Ok-clause-long_answered : goal.returns-in-Ok-clause-long_answered
returns-in-Ok-clause-long_answered g c = λ e.
    c.run_script-ended.ensures.long_answered e (start c.args.pages c.args.files) (same-desk (rw c.deref_mut.ensures.value c.in-Ok.ensures))

pub returns-in-Ok-clause-write_failed : goal.returns-in-Ok-clause-write_failed
returns-in-Ok-clause-write_failed g c = λ e.
    c.run_script-ended.ensures.write_failed e (start c.args.pages c.args.files) (same-desk (rw c.deref_mut.ensures.value c.in-Ok.ensures))

pub returns-in-Ok-clause-read_safe : goal.returns-in-Ok-clause-read_safe
returns-in-Ok-clause-read_safe g c = λ e.
    let d : Desk = start c.args.pages c.args.files in
    answered_safely c.args.pages c.args.files c.requires.least c.requires.most
    {after = g.R.Source.input c.run_script-ended.new.reader} {new = g.W.Sink.output c.run_script-ended.new.writer}
    (c.run_script-ended.ensures.read_answered e d (same-desk (rw c.deref_mut.ensures.value c.in-Ok.ensures)))

pub returns-in-Ok-clause-long_safe : goal.returns-in-Ok-clause-long_safe
returns-in-Ok-clause-long_safe g c = λ e.
    let d : Desk = start c.args.pages c.args.files in
    answered_safely c.args.pages c.args.files c.requires.least c.requires.most
    {after = g.R.Source.input c.run_script-ended.new.reader} {new = g.W.Sink.output c.run_script-ended.new.writer}
    (c.run_script-ended.ensures.long_answered e d (same-desk (rw c.deref_mut.ensures.value c.in-Ok.ensures)))
