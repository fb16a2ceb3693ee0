use Rattle.std.proofs.lemmas.Result.{IfOk-weaker}
use Rattle.rh_defs.specs.Runs.{start}
use Rattle.rh_run.proofs.ReplyLaws.{same-desk}
use Rattle.rh_run.proofs.sheets.draw_sheet.Goals as goal

pub returns-in-Ok-clause-ok : goal.returns-in-Ok-clause-ok
returns-in-Ok-clause-ok g c = IfOk-weaker c.paint_script-ended.result _ _
    (λ status shown. shown (start c.args.pages c.args.files) (same-desk (rw c.deref_mut.ensures.value c.in-Ok.ensures))) c.paint_script-ended.ensures.ok

pub returns-in-Ok-clause-read_painted : goal.returns-in-Ok-clause-read_painted
returns-in-Ok-clause-read_painted g c = λ e.
    c.paint_script-ended.ensures.read_painted e (start c.args.pages c.args.files) (same-desk (rw c.deref_mut.ensures.value c.in-Ok.ensures))

pub returns-in-Ok-clause-long_painted : goal.returns-in-Ok-clause-long_painted
returns-in-Ok-clause-long_painted g c = λ e.
    c.paint_script-ended.ensures.long_painted e (start c.args.pages c.args.files) (same-desk (rw c.deref_mut.ensures.value c.in-Ok.ensures))

pub returns-in-Ok-clause-write_failed : goal.returns-in-Ok-clause-write_failed
returns-in-Ok-clause-write_failed g c = λ e.
    c.paint_script-ended.ensures.write_failed e (start c.args.pages c.args.files) (same-desk (rw c.deref_mut.ensures.value c.in-Ok.ensures))
