use Rattle.std.proofs.Common.{ap, append_assoc, sym, ◌∙◌, ◌++◌}
use Rattle.rh_defs.specs.Questions.{Nothing}
use Rattle.rh_defs.specs.Text.{first_line, handed_text}
use Rattle.rh_session.proofs.RunLemmas.{command_text, or_false}
use Rattle.rh_session.proofs.session.Session.hand_out.Goals as goal

pub returns : goal.returns
returns g c =
    let first = first_line c.apply-reply.result Nothing in
    let behind = handed_text c.handed-handed.result in
    record {
      text = first ++ behind;
      meets = record {
        desk = c.apply-reply.ensures.desk;
        answer = λ d h. command_text d c.args.self.now.command c.apply-reply.result c.handed-handed.result c.requires.command
            (c.apply-reply.ensures.reply d h) (c.handed-handed.ensures d h);
        bad = sym (or_false c.args.self.now.has_bad_line);
      };
      offered = c.put_handed.ensures ∙ ap (λ z. z ++ behind) c.put_first_line.ensures ∙ append_assoc (g.P.Pen.offered c.args.pen.now) first behind;
    }
