use Rattle.std.proofs.Common.{ap, sym, ◌∙◌}
use Rattle.std.specs.Prelude.{find}
use Rattle.rh_defs.specs.Desk.{has_name}
use Rattle.rh_defs.specs.Range.{in_range}
use Rattle.rh_defs.specs.Text.{taken_of}
use Rattle.rh_defs.proofs.QuestionLaws.{asked-stays, question-text}
use Rattle.rh_session.proofs.RunLemmas.{no_poll, or_false, poll_asks, quiet_poll}
use Rattle.rh_session.proofs.session.Session.carry_out.Goals as goal

pub returns-in-Ask : goal.returns-in-Ask
unfolding in_range
returns-in-Ask g c = record {
  text = c.put_answer.ensures.text;
  meets = record {
    desk = λ d h. rw (c.in-Ask.is, asked-stays d c.in-Ask.question) h;
    answer = λ d h. rw (c.in-Ask.is, question-text d c.in-Ask.question (rw c.in-Ask.is at c.requires)) (c.put_answer.ensures.meets d h);
    bad = sym (or_false c.args.self.now.has_bad_line);
  };
  offered = c.put_answer.ensures.offered;
}

pub hand_out-requires-clause-command : goal.hand_out-requires-clause-command
hand_out-requires-clause-command g c = poll_asks c.in-Poll.is

pub reply-requires-clause-command : goal.reply-requires-clause-command
reply-requires-clause-command g c = poll_asks c.in-Poll.is

pub reply-requires-clause-quiet : goal.reply-requires-clause-quiet
reply-requires-clause-quiet g c = λ d h.
    ap (taken_of d) c.in-Poll.is
    ∙ quiet_poll d (find (has_name c.in-Poll.name) d.tasks) (sym c.if-is_raw.false ∙ c.is_raw.ensures d h)

pub reply-requires-in_default-clause-command : goal.reply-requires-in_default-clause-command
reply-requires-in_default-clause-command g c = c.in_default.not-Ask

pub reply-requires-in_default-clause-quiet : goal.reply-requires-in_default-clause-quiet
reply-requires-in_default-clause-quiet g c = λ d h. no_poll d c.args.self.now.command c.in_default.not-Poll
