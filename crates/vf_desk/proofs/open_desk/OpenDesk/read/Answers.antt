use Rattle.vf_desk.proofs.Common.{Some, ap, length, ◌∙◌}
use Rattle.vf_desk.proofs.BlockReadLaws.{read-closed, read-open, tells-bad, tells-read, tells-refused, tells-status}
use Rattle.vf_desk.specs.Inner.BlockSteps.{reading_of}
use Rattle.vf_desk.proofs.open_desk.OpenDesk.read.Goals as goal

pub returns-in_default : goal.returns-in_default
returns-in_default c =
    λ s seen. tells-status _ _ _ (read-closed c.in_default.is (reading_of c.args.place c.args.offset (length c.args.to.now)) s seen)

pub returns-in-Some-Ok : goal.returns-in-Some-Ok
returns-in-Some-Ok c = λ s seen.
    let is = c.in-Some-Ok.is ∙ ap Some c.in-Some-Ok.field-0-is in
    rw (read-open c.in-Some.is c.args.place c.args.offset (length c.args.to.now) s seen)
    (tells-read (reading_of c.args.place c.args.offset (length c.args.to.now)) c.in-Some.console.world.desk _ _ _ _ (rw is at c.read_world.ensures))

pub returns-in-Some-Err : goal.returns-in-Some-Err
returns-in-Some-Err c = λ s seen.
    let is = c.in-Some-Err.is ∙ ap Some c.in-Some-Err.field-0-is in
    rw (read-open c.in-Some.is c.args.place c.args.offset (length c.args.to.now) s seen, c.refusal_number.ensures)
    (tells-refused (reading_of c.args.place c.args.offset (length c.args.to.now)) c.in-Some.console.world.desk _ _ _ _ (rw is at c.read_world.ensures))

pub returns-in-None : goal.returns-in-None
returns-in-None c = λ s seen.
    rw (read-open c.in-Some.is c.args.place c.args.offset (length c.args.to.now) s seen)
    (tells-bad (reading_of c.args.place c.args.offset (length c.args.to.now)) c.in-Some.console.world.desk _ _ _ (rw c.in-None.is at c.read_world.ensures))
