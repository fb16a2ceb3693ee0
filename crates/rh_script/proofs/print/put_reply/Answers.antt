use Rattle.std.proofs.Common.{sym, ◌∙◌}
use Rattle.rh_defs.proofs.QuestionLaws.{one-line}
use Rattle.rh_script.proofs.PrintLemmas.{asked_ranged, question_text, unspelled_text}
use Rattle.rh_script.proofs.print.put_reply.Goals as goal

pub returns-then-not-in_range : goal.returns-then-not-in_range
returns-then-not-in_range g c =
    rw (unspelled_text c.args.world.now.desk c.args.command.now c.args.reply.now (sym c.in_range.ensures ∙ c.if-not-in_range.true)) c.put_first_line.ensures

pub print_asked-requires : goal.print_asked-requires
print_asked-requires g c = asked_ranged c.in-Ask.question (rw c.in-Ask.is at (sym c.in_range.ensures ∙ c.if-not-in_range.false))

pub returns-in-Ask : goal.returns-in-Ask
returns-in-Ask g c =
    let ranged = asked_ranged c.in-Ask.question (rw c.in-Ask.is at (sym c.in_range.ensures ∙ c.if-not-in_range.false)) in
    rw (c.in-Ask.is, question_text c.args.world.now.desk c.in-Ask.question c.args.reply.now ranged) c.print_asked.ensures

pub returns-in_default : goal.returns-in_default
returns-in_default g c =
    rw (one-line c.args.world.now.desk c.args.command.now c.args.reply.now c.in_default.not-Ask) c.put_first_line-in_default.ensures
