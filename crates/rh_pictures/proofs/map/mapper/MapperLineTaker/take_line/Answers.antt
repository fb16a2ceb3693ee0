use Rattle.std.proofs.Common.{Err, None, Ok, Some}
use Rattle.rh_pictures.proofs.MapStepLemmas.{took-line}
use Rattle.rh_pictures.proofs.map.mapper.MapperLineTaker.take_line.Goals as goal

pub returns-in-Ok-true-clause-took : goal.returns-in-Ok-true-clause-took
returns-in-Ok-true-clause-took g c =
    took-line c.args.line.now (Ok (Some c.read_line.new.command)) (rw c.in-Ok-true.field-0-test at c.in-Ok-true.ensures.means) c.carry_out.ensures.drew

pub returns-in-Ok-false-clause-took : goal.returns-in-Ok-false-clause-took
returns-in-Ok-false-clause-took g c =
    took-line c.args.line.now (Ok None) (rw c.in-Ok-false.field-0-test at c.in-Ok-false.ensures.means) c.skip.ensures.drew

pub returns-in-Err-clause-took : goal.returns-in-Err-clause-took
returns-in-Err-clause-took g c = took-line c.args.line.now (Err c.in-Err.fault) c.in-Err.ensures.means c.refuse.ensures.drew
