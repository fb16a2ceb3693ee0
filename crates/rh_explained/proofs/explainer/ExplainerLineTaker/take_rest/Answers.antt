use Rattle.std.proofs.Common.{[], append-nil, sym, ◌∙◌}
use Rattle.rh_explained.specs.Explanations.{bad_line}
use Rattle.rh_explained.proofs.SaidLemmas.{cut_said, nothing_said}
use Rattle.rh_explained.proofs.explainer.ExplainerLineTaker.take_rest.Goals as goal

pub returns-then-is_empty : goal.returns-then-is_empty
returns-then-is_empty g c = record {
  text = [];
  meets = nothing_said c.args.self.now c.kept-rest.result.now _ c.kept-rest.ensures (sym c.is_empty.ensures ∙ c.if-is_empty.true);
  offered = sym (append-nil _);
}

pub returns : goal.returns
returns g c = record {
  text = bad_line _ c.kept-rest.result.now c.cut_fault-fault.result;
  meets = cut_said c.args.self.now _ c.kept-rest.result.now _ c.cut_fault-fault.result c.kept-rest.ensures
      (sym c.is_empty.ensures ∙ c.if-is_empty.false) c.cut_fault-fault.ensures c.refuse.ensures.same;
  offered = c.refuse.ensures.said;
}
