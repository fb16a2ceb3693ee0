use Rattle.std.proofs.Common.{ap}
use Rattle.rh_defs.specs.Questions.{asked}
use Rattle.rh_defs.specs.Text.{answer_text}
use Rattle.rh_defs.proofs.QuestionLaws.{asked-alike}
use Rattle.rh_run.proofs.world.ScriptWorldDesktop.put_answer.Goals as goal

pub returns : goal.returns
returns g c = record {
  text = answer_text (asked c.args.self.now.world.now.desk c.args.question.now);
  meets = λ d same. ap answer_text (asked-alike same c.args.question.now);
  offered = c.put_answer.ensures;
}
