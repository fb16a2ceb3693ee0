use Rattle.vf_desk.proofs.Common.{Some, refl}
use Rattle.vf_desk.proofs.BlockEditLaws.{edited-desk, edited-refused, edited-rest, edited-said, unopened-desk, unopened-said}
use Rattle.vf_desk.proofs.SeenLaws.{stays-rest}
use Rattle.vf_desk.specs.Inner.BlockSteps.{edit_of}
use Rattle.vf_desk.proofs.open_desk.OpenDesk.edit.Goals as goal

pub returns-in-None-clause-said : goal.returns-in-None-clause-said
returns-in-None-clause-said c = unopened-said c.in-None.is (edit_of c.args.edit)

pub returns-in-None-clause-desk : goal.returns-in-None-clause-desk
returns-in-None-clause-desk c = unopened-desk c.in-None.is (edit_of c.args.edit)

pub returns-in-None-clause-rest : goal.returns-in-None-clause-rest
returns-in-None-clause-rest c = stays-rest (Some c.args.self.now)

pub returns-in-None-clause-refused : goal.returns-in-None-clause-refused
returns-in-None-clause-refused c = λ _. refl

pub returns-in-Some-clause-said : goal.returns-in-Some-clause-said
returns-in-Some-clause-said c = edited-said c.args.self.now c.in-Some.is c.edit_world.ensures

pub returns-in-Some-clause-desk : goal.returns-in-Some-clause-desk
returns-in-Some-clause-desk c = edited-desk c.args.self.now c.in-Some.is c.edit_world.ensures

pub returns-in-Some-clause-rest : goal.returns-in-Some-clause-rest
returns-in-Some-clause-rest c = edited-rest c.args.self.now c.in-Some.is c.edit_world.ensures

pub returns-in-Some-clause-refused : goal.returns-in-Some-clause-refused
returns-in-Some-clause-refused c = edited-refused c.args.self.now c.in-Some.is c.edit_world.ensures
