use Rattle.std.proofs.Common.{Bool, refl, ◌∙◌, ap, Ok}
use Rattle.rh_defs.specs.Line.{Meaning}
use Rattle.rh_lines.specs.Placed.{if_placed}
use Rattle.vf_desk.proofs.SaidLaws.{answers-nothing, answers-fault, answers-is, line-desk, line-said}
use Rattle.vf_desk.proofs.console.Console.take_line.Goals as goal

pub returns-in-Ok-false-clause-desk : goal.returns-in-Ok-false-clause-desk
returns-in-Ok-false-clause-desk c = line-desk c.args.line.now _ _ _ _ c.read_command.ensures.means
    (answers-is (ap (λ (found : Meaning Bool). if_placed found c.read_command.new.command) (c.in-Ok-false.is ∙ ap Ok c.in-Ok-false.field-0-test)) refl refl
    (answers-nothing c.args.self.now.world.desk))

pub returns-in-Ok-false-clause-said : goal.returns-in-Ok-false-clause-said
returns-in-Ok-false-clause-said c = line-said c.args.line.now _ _ _ _ c.read_command.ensures.means
    (answers-is (ap (λ (found : Meaning Bool). if_placed found c.read_command.new.command) (c.in-Ok-false.is ∙ ap Ok c.in-Ok-false.field-0-test)) refl refl
    (answers-nothing c.args.self.now.world.desk))

pub returns-in-Ok-true-clause-desk : goal.returns-in-Ok-true-clause-desk
returns-in-Ok-true-clause-desk c = line-desk c.args.line.now _ _ _ _ c.read_command.ensures.means
    (answers-is (ap (λ (found : Meaning Bool). if_placed found c.read_command.new.command) (c.in-Ok-true.is ∙ ap Ok c.in-Ok-true.field-0-test)) refl refl
    (record { desk = c.carry_out.ensures.desk; text = c.carry_out.ensures.text }))

pub returns-in-Ok-true-clause-said : goal.returns-in-Ok-true-clause-said
returns-in-Ok-true-clause-said c = line-said c.args.line.now _ _ _ _ c.read_command.ensures.means
    (answers-is (ap (λ (found : Meaning Bool). if_placed found c.read_command.new.command) (c.in-Ok-true.is ∙ ap Ok c.in-Ok-true.field-0-test)) refl refl
    (record { desk = c.carry_out.ensures.desk; text = c.carry_out.ensures.text }))

pub returns-in-Err-clause-desk : goal.returns-in-Err-clause-desk
returns-in-Err-clause-desk c = line-desk c.args.line.now _ _ _ _ c.read_command.ensures.means
    (answers-is (ap (λ (found : Meaning Bool). if_placed found c.read_command.new.command) c.in-Err.is) refl refl
    (answers-fault c.args.self.now.world.desk c.in-Err.fault))

pub returns-in-Err-clause-said : goal.returns-in-Err-clause-said
returns-in-Err-clause-said c = line-said c.args.line.now _ _ _ _ c.read_command.ensures.means
    (answers-is (ap (λ (found : Meaning Bool). if_placed found c.read_command.new.command) c.in-Err.is) refl refl
    (answers-fault c.args.self.now.world.desk c.in-Err.fault))
