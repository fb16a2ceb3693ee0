use Rattle.std.proofs.lemmas.Result.{IfOk-weaker}
use Rattle.rh_defs.specs.Runs.{start}
use Rattle.rh_run.proofs.ReplyLaws.{same-desk}
use Rattle.rh_run.proofs.mapping.draw_map.Goals as goal

pub returns-in-Ok-clause-ok : goal.returns-in-Ok-clause-ok
returns-in-Ok-clause-ok g c = IfOk-weaker c.map_script-ended.result _ _
    (λ status shown. shown (start c.args.pages c.args.files) (same-desk (rw c.deref_mut.ensures.value c.in-Ok.ensures))) c.map_script-ended.ensures.ok

pub returns-in-Ok-clause-read_mapped : goal.returns-in-Ok-clause-read_mapped
returns-in-Ok-clause-read_mapped g c = λ e.
    c.map_script-ended.ensures.read_mapped e (start c.args.pages c.args.files) (same-desk (rw c.deref_mut.ensures.value c.in-Ok.ensures))

pub returns-in-Ok-clause-long_mapped : goal.returns-in-Ok-clause-long_mapped
returns-in-Ok-clause-long_mapped g c = λ e.
    c.map_script-ended.ensures.long_mapped e (start c.args.pages c.args.files) (same-desk (rw c.deref_mut.ensures.value c.in-Ok.ensures))

pub returns-in-Ok-clause-write_failed : goal.returns-in-Ok-clause-write_failed
returns-in-Ok-clause-write_failed g c = λ e.
    c.map_script-ended.ensures.write_failed e (start c.args.pages c.args.files) (same-desk (rw c.deref_mut.ensures.value c.in-Ok.ensures))
