use Rattle.std.proofs.Common.{[], append-nil, refl, sym}
use Rattle.rh_session.proofs.FeedLemmas.{gives_so}
use Rattle.rh_explained.specs.Explanations.{bad_line}
use Rattle.rh_explained.proofs.SaidLemmas.{bad_said, line_said, skipped_said}
use Rattle.rh_explained.proofs.explainer.ExplainerLineTaker.take_line.Goals as goal

pub returns-in-Ok-false-clause-took : goal.returns-in-Ok-false-clause-took
returns-in-Ok-false-clause-took g c = record {
  text = [];
  meets = line_said c.kept-line.result.now _ _ (rw c.in-Ok-false.field-0-test at c.in-Ok-false.ensures.means) c.kept-line.ensures
      (skipped_said c.args.self.now _ c.kept-line.result.now refl);
  offered = sym (append-nil _);
}

pub returns-in-Ok-true-clause-took : goal.returns-in-Ok-true-clause-took
returns-in-Ok-true-clause-took g c =
    gives_so refl (λ text said. line_said c.kept-line.result.now _ _
    (rw c.in-Ok-true.field-0-test at c.in-Ok-true.ensures.means) c.kept-line.ensures said) c.carry_out.ensures

pub returns-in-Err-clause-took : goal.returns-in-Err-clause-took
returns-in-Err-clause-took g c = record {
  text = bad_line _ c.kept-line.result.now c.in-Err.fault;
  meets = line_said c.kept-line.result.now _ _ c.in-Err.ensures.means c.kept-line.ensures
      (bad_said c.args.self.now _ c.kept-line.result.now c.in-Err.fault c.refuse.ensures.same);
  offered = c.refuse.ensures.said;
}
