use Rattle.std.proofs.Common.{refl, sym}
use Rattle.rh_defs.specs.Questions.{in_item, out_item}
use Rattle.vf_desk.specs.DeskItems.{record_of}
use Rattle.vf_desk.proofs.FillLaws.{filled-none}
use Rattle.vf_desk.proofs.ListLaws.{map-length, map-map, no-records-listed, records-listed}
use Rattle.vf_desk.proofs.lists.list_records.Goals as goal

pub returns-in-Ok-clause-out : goal.returns-in-Ok-clause-out
returns-in-Ok-clause-out c = rw ((records-listed c.args.world.now.desk c.args.name.now _ _ _ c.in-Ok.ensures.ok).out, map-map record_of out_item) c.fill.ensures

pub returns-in-Ok-clause-taken : goal.returns-in-Ok-clause-taken
returns-in-Ok-clause-taken c =
    rw ((records-listed c.args.world.now.desk c.args.name.now _ _ _ c.in-Ok.ensures.ok).taken, map-map record_of in_item) c.fill-in-Ok.ensures

pub returns-in-Ok-clause-outs : goal.returns-in-Ok-clause-outs
returns-in-Ok-clause-outs c = rw ((records-listed c.args.world.now.desk c.args.name.now _ _ _ c.in-Ok.ensures.ok).out, map-length out_item) refl

pub returns-in-Ok-clause-ins : goal.returns-in-Ok-clause-ins
returns-in-Ok-clause-ins c = rw ((records-listed c.args.world.now.desk c.args.name.now _ _ _ c.in-Ok.ensures.ok).taken, map-length in_item) refl

pub returns-in-Err-clause-out : goal.returns-in-Err-clause-out
returns-in-Err-clause-out c = rw (no-records-listed c.args.world.now.desk c.args.name.now _ c.in-Err.ensures.err).out (sym (filled-none c.args.outgoing.now))

pub returns-in-Err-clause-taken : goal.returns-in-Err-clause-taken
returns-in-Err-clause-taken c =
    rw (no-records-listed c.args.world.now.desk c.args.name.now _ c.in-Err.ensures.err).taken (sym (filled-none c.args.incoming.now))

pub returns-in-Err-clause-outs : goal.returns-in-Err-clause-outs
returns-in-Err-clause-outs c = rw (no-records-listed c.args.world.now.desk c.args.name.now _ c.in-Err.ensures.err).out refl

pub returns-in-Err-clause-ins : goal.returns-in-Err-clause-ins
returns-in-Err-clause-ins c = rw (no-records-listed c.args.world.now.desk c.args.name.now _ c.in-Err.ensures.err).taken refl
