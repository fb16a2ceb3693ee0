use Rattle.std.proofs.Common.{arith, ap, ◌∙◌, ◌++◌, sym, length, take_all, refl}
use Rattle.std.proofs.lemmas.Grind.{common_steps}
use borrow.Author.Tests.{tests}
use Rattle.rh_lines.specs.WholeText.{output_of, text_offered}
use Rattle.rh_lines.proofs.whole_text.WholeTextSink.write.Goals as goal

pub returns-clause-taken : goal.returns-clause-taken
unfolding output_of
returns-clause-taken c =
    c.add.ensures ∙ ap (λ l. text_offered c.args.self.now ++ l) (sym (take_all (length c.args.bytes.now) c.args.bytes.now (omega arith)))

pub returns-clause-counted : goal.returns-clause-counted
unfolding output_of
returns-clause-counted c = refl

pub returns-clause-failed : goal.returns-clause-failed
unfolding output_of
returns-clause-failed c = grind (arith, common_steps, tests)
