use Rattle.vf_desk.proofs.Common.{Some, in_form, refl}
use Rattle.vf_desk.proofs.SeenLaws.{done-asked, done-desk, done-refused, done-rest, done-said, shut-desk, shut-said, stays-rest}
use Rattle.vf_desk.proofs.open_desk.OpenDesk.step.Goals as goal

pub returns-in-None-clause-said : goal.returns-in-None-clause-said
returns-in-None-clause-said c = shut-said c.in-None.is (in_form c.args.command.now)

pub returns-in-None-clause-desk : goal.returns-in-None-clause-desk
returns-in-None-clause-desk c = shut-desk c.in-None.is (in_form c.args.command.now)

pub returns-in-None-clause-rest : goal.returns-in-None-clause-rest
returns-in-None-clause-rest c = stays-rest (Some c.args.self.now)

pub returns-in-None-clause-refused : goal.returns-in-None-clause-refused
returns-in-None-clause-refused c = λ _. refl

pub returns-in-None-clause-asked : goal.returns-in-None-clause-asked
returns-in-None-clause-asked c = λ _. refl

pub returns-in-Some-clause-said : goal.returns-in-Some-clause-said
returns-in-Some-clause-said c = done-said c.args.self.now c.in-Some.is c.step_world.ensures

pub returns-in-Some-clause-desk : goal.returns-in-Some-clause-desk
returns-in-Some-clause-desk c = done-desk c.args.self.now c.in-Some.is c.step_world.ensures

pub returns-in-Some-clause-rest : goal.returns-in-Some-clause-rest
returns-in-Some-clause-rest c = done-rest c.args.self.now c.in-Some.is c.step_world.ensures

pub returns-in-Some-clause-refused : goal.returns-in-Some-clause-refused
returns-in-Some-clause-refused c = done-refused c.args.self.now c.in-Some.is c.step_world.ensures

pub returns-in-Some-clause-asked : goal.returns-in-Some-clause-asked
returns-in-Some-clause-asked c = done-asked c.args.self.now c.in-Some.is c.step_world.ensures
