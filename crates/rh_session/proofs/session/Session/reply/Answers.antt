use Rattle.std.proofs.Common.{sym}
use Rattle.rh_defs.specs.Questions.{Nothing}
use Rattle.rh_defs.specs.Text.{first_line}
use Rattle.rh_session.proofs.RunLemmas.{quiet_text, or_false}
use Rattle.rh_session.proofs.session.Session.reply.Goals as goal

pub returns : goal.returns
returns g c = record {
  text = first_line c.apply-reply.result Nothing;
  meets = record {
    desk = c.apply-reply.ensures.desk;
    answer = λ d h. quiet_text d c.args.self.now.command c.apply-reply.result c.requires.command (c.apply-reply.ensures.reply d h) (c.requires.quiet d h);
    bad = sym (or_false c.args.self.now.has_bad_line);
  };
  offered = c.put_first_line.ensures;
}
