use Rattle.std.proofs.Common.{[], append-nil, refl, sym}
use Rattle.rh_session.proofs.RunLemmas.{or_false}
use Rattle.rh_explained.proofs.SaidLemmas.{said_other}
use Rattle.rh_explained.proofs.explainer.Explainer.carry_out.Goals as goal

pub returns-in_default : goal.returns-in_default
returns-in_default g c = record {
  text = [];
  meets = record {
    desk = c.apply.ensures.desk;
    said = λ d h. said_other d _ c.args.line.now c.args.command.now c.apply.result (c.apply.ensures.reply d h) c.in_default.not-Refused;
    lines = refl;
    flag = sym (or_false c.args.self.now.has_said);
  };
  offered = sym (append-nil _);
}
