use Rattle.rh_tasks.proofs.Common.{refl}
use Rattle.rh_defs.specs.declared.command.Command.TheVariants as command
use Rattle.rh_tasks.proofs.Ranges.{ask-ranged}
use Rattle.rh_tasks.proofs.Told.{told-gives}
use Rattle.rh_tasks.proofs.Steps.{asked, no-question, stepped, stepped-alike}
use Rattle.rh_tasks.proofs.world.World.change.Goals as goal

pub returns-in-Task : goal.returns-in-Task
returns-in-Task g c =
    rw (c.in-Task.is) (stepped (command.Task c.in-Task.name c.in-Task.buffer c.in-Task.manner) _ _ _ _ _ refl refl c.start_task.ensures
    c.answer-in-Task.ensures)

pub returns-in-Kill : goal.returns-in-Kill
returns-in-Kill g c = rw (c.in-Kill.is) (stepped-alike (command.Kill c.in-Kill.name) _ _ _ _ _ refl refl c.kill.ensures c.answer-in-Kill.ensures)

pub answer_question-requires : goal.answer_question-requires
answer_question-requires g c = ask-ranged _ (rw c.in-Ask.is at c.requires.ranged)

pub returns-in-Ask : goal.returns-in-Ask
returns-in-Ask g c = rw (c.in-Ask.is) (asked c.in-Ask.question _ _ _ _ refl (told-gives _ c.args.self.now _ _ c.answer_question.ensures c.answered.ensures)
    c.answer.ensures)

pub returns-in-CancelIn : goal.returns-in-CancelIn
returns-in-CancelIn g c = rw (c.in-CancelIn.is) (stepped (command.CancelIn c.in-CancelIn.name c.in-CancelIn.id) _ _ _ _ _ refl refl c.cancel_in.ensures
    c.answer-in-CancelIn.ensures)

pub returns-in-CancelOut : goal.returns-in-CancelOut
returns-in-CancelOut g c = rw (c.in-CancelOut.is) (stepped (command.CancelOut c.in-CancelOut.name c.in-CancelOut.id) _ _ _ _ _ refl refl c.cancel_out.ensures
    c.answer-in-CancelOut.ensures)

pub returns-in-Repeat : goal.returns-in-Repeat
returns-in-Repeat g c = rw (c.in-Repeat.is) (stepped-alike (command.Repeat c.in-Repeat.name) _ _ _ _ _ refl refl c.repeat.ensures c.answer-in-Repeat.ensures)

pub returns-in-Save : goal.returns-in-Save
returns-in-Save g c = rw (c.in-Save.is) (stepped-alike (command.Save c.in-Save.name c.in-Save.anchor c.in-Save.to c.in-Save.leaf) _ _ _ _ _ refl refl
    c.save.ensures c.answer-in-Save.ensures)

pub returns-in-Poll : goal.returns-in-Poll
returns-in-Poll g c = rw (c.in-Poll.is) (stepped-alike (command.Poll c.in-Poll.name) _ _ _ _ _ refl refl c.poll.ensures c.answer-in-Poll.ensures)

pub raw_command-requires : goal.raw_command-requires
raw_command-requires g c = rw c.in-Raw.is at c.requires.ranged

pub returns-in-Raw : goal.returns-in-Raw
returns-in-Raw g c = rw (c.in-Raw.is) (stepped-alike (command.Raw c.in-Raw.command) _ _ _ _ _ refl refl c.raw_command.ensures c.answer-in-Raw.ensures)

pub returns-in_default : goal.returns-in_default
returns-in_default g c = stepped c.args.command.now _ _ _ _ _ refl (no-question _ c.in_default.not-Ask) c.memory_command.ensures c.answer-in_default.ensures
