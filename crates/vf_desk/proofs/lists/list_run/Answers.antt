use Rattle.std.proofs.Common.{sym}
use Rattle.rh_script.proofs.ReadLemmas.{segments_read, no_segments}
use Rattle.vf_desk.proofs.FillLaws.{from-none}
use Rattle.vf_desk.proofs.lists.list_run.Goals as goal

pub returns-in-Ok-clause-list : goal.returns-in-Ok-clause-list
returns-in-Ok-clause-list c =
    rw (← segments_read c.args.world.now.desk c.args.name.now c.args.place _ c.in-Ok.ensures.ok, ← c.deref.ensures.0)
    c.put_run.ensures.list

pub returns-in-Ok-clause-run : goal.returns-in-Ok-clause-run
returns-in-Ok-clause-run c =
    rw (← segments_read c.args.world.now.desk c.args.name.now c.args.place _ c.in-Ok.ensures.ok, ← c.deref.ensures.0)
    c.put_run.ensures.run

pub returns-in-Err-clause-list : goal.returns-in-Err-clause-list
returns-in-Err-clause-list c =
    rw (← no_segments c.args.world.now.desk c.args.name.now c.args.place _ c.in-Err.ensures.err.0)
    (sym (from-none c.args.at c.args.to.now))

pub returns-in-Err-clause-run : goal.returns-in-Err-clause-run
returns-in-Err-clause-run c = no_segments c.args.world.now.desk c.args.name.now c.args.place _ c.in-Err.ensures.err.0
