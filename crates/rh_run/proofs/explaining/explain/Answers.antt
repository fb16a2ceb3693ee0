use Rattle.std.proofs.lemmas.Result.{IfOk-weaker}
use Rattle.rh_defs.specs.Runs.{start}
use Rattle.rh_run.proofs.ReplyLaws.{same-desk}
use Rattle.rh_run.proofs.explaining.explain.Goals as goal

pub returns-in-Ok-clause-ok : goal.returns-in-Ok-clause-ok
returns-in-Ok-clause-ok g c = IfOk-weaker c.explain_script-ended.result _ _
    (λ status said. said (start c.args.pages c.args.files) (same-desk (rw c.deref_mut.ensures.value c.in-Ok.ensures))) c.explain_script-ended.ensures.ok

pub returns-in-Ok-clause-read_explained : goal.returns-in-Ok-clause-read_explained
returns-in-Ok-clause-read_explained g c = λ e.
    c.explain_script-ended.ensures.read_explained e (start c.args.pages c.args.files) (same-desk (rw c.deref_mut.ensures.value c.in-Ok.ensures))

pub returns-in-Ok-clause-long_explained : goal.returns-in-Ok-clause-long_explained
returns-in-Ok-clause-long_explained g c = λ e.
    c.explain_script-ended.ensures.long_explained e (start c.args.pages c.args.files) (same-desk (rw c.deref_mut.ensures.value c.in-Ok.ensures))

pub returns-in-Ok-clause-write_failed : goal.returns-in-Ok-clause-write_failed
returns-in-Ok-clause-write_failed g c = λ e.
    c.explain_script-ended.ensures.write_failed e (start c.args.pages c.args.files) (same-desk (rw c.deref_mut.ensures.value c.in-Ok.ensures))
