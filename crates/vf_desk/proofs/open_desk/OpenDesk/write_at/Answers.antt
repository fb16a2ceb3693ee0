use Rattle.vf_desk.proofs.Common.{Some, in_form, refl}
use Rattle.rh_defs.specs.declared.command.Command.TheVariants as command
use Rattle.rh_defs.specs.declared.raw_command.RawCommand.TheVariants as raw
use Rattle.vf_desk.proofs.SeenLaws.{done-desk, done-refused, done-rest, done-said, shut-desk, shut-said, stays-rest}
use Rattle.vf_desk.proofs.open_desk.OpenDesk.write_at.Goals as goal

pub returns-in-None-clause-said : goal.returns-in-None-clause-said
returns-in-None-clause-said c = shut-said c.in-None.is (in_form (command.Raw (raw.Write c.args.name.now c.args.address c.args.from.now)))

pub returns-in-None-clause-desk : goal.returns-in-None-clause-desk
returns-in-None-clause-desk c = shut-desk c.in-None.is (in_form (command.Raw (raw.Write c.args.name.now c.args.address c.args.from.now)))

pub returns-in-None-clause-rest : goal.returns-in-None-clause-rest
returns-in-None-clause-rest c = stays-rest (Some c.args.self.now)

pub returns-in-None-clause-refused : goal.returns-in-None-clause-refused
returns-in-None-clause-refused c = λ _. refl

pub returns-in-Some-clause-said : goal.returns-in-Some-clause-said
returns-in-Some-clause-said c = done-said c.args.self.now c.in-Some.is c.write_own_bytes.ensures

pub returns-in-Some-clause-desk : goal.returns-in-Some-clause-desk
returns-in-Some-clause-desk c = done-desk c.args.self.now c.in-Some.is c.write_own_bytes.ensures

pub returns-in-Some-clause-rest : goal.returns-in-Some-clause-rest
returns-in-Some-clause-rest c = done-rest c.args.self.now c.in-Some.is c.write_own_bytes.ensures

pub returns-in-Some-clause-refused : goal.returns-in-Some-clause-refused
returns-in-Some-clause-refused c = done-refused c.args.self.now c.in-Some.is c.write_own_bytes.ensures
