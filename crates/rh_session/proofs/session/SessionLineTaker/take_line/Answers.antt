use Rattle.std.proofs.Common.{[], append-nil, refl, sym}
use Rattle.rh_defs.specs.Text.{fault_text}
use Rattle.rh_session.proofs.FeedLemmas.{gives_so}
use Rattle.rh_session.proofs.RunLemmas.{answered_by, line_answered, or_false, or_true}
use Rattle.rh_session.proofs.session.SessionLineTaker.take_line.Goals as goal

pub returns-in-Ok-false-clause-took : goal.returns-in-Ok-false-clause-took
returns-in-Ok-false-clause-took g c = record {
  text = [];
  meets = line_answered c.args.line.now _ (rw c.in-Ok-false.field-0-test at c.in-Ok-false.ensures.means)
      (record { desk = λ d h. h; answer = λ d h. refl; bad = sym (or_false c.args.self.now.has_bad_line) });
  offered = sym (append-nil _);
}

pub returns-in-Ok-true-clause-took : goal.returns-in-Ok-true-clause-took
returns-in-Ok-true-clause-took g c =
    gives_so refl
    (λ text answered. line_answered c.args.line.now _ (rw c.in-Ok-true.field-0-test at c.in-Ok-true.ensures.means) (answered_by refl refl answered))
    c.carry_out.ensures

pub returns-in-Err-clause-took : goal.returns-in-Err-clause-took
returns-in-Err-clause-took g c = record {
  text = fault_text c.in-Err.fault;
  meets = line_answered c.args.line.now _ c.in-Err.ensures.means
      (record { desk = λ d h. h; answer = λ d h. refl; bad = sym (or_true c.args.self.now.has_bad_line) });
  offered = c.put_fault.ensures;
}
