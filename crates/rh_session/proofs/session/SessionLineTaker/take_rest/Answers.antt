use Rattle.std.proofs.Common.{[], ◌∙◌, ◌||◌, ap, append-nil, not, sym}
use Rattle.rh_defs.specs.Text.{fault_text}
use Rattle.rh_session.proofs.RunLemmas.{nothing_kept, or_false, or_true, rest_kept, rest_none}
use Rattle.rh_session.proofs.session.SessionLineTaker.take_rest.Goals as goal

pub returns-then-is_empty : goal.returns-then-is_empty
returns-then-is_empty g c =
    let rest = c.args.rest.now in
    let bad = c.args.self.now.has_bad_line in
    record {
      text = [];
      meets = record {
        answer = sym (rest_kept rest ∙ rest_none rest (sym c.if-is_empty.true ∙ c.is_empty.ensures));
        bad = sym (ap (λ z. bad || not z) (nothing_kept rest ∙ (sym c.is_empty.ensures ∙ c.if-is_empty.true)) ∙ or_false bad);
      };
      offered = sym (append-nil _);
    }

pub returns : goal.returns
returns g c =
    let rest = c.args.rest.now in
    let bad = c.args.self.now.has_bad_line in
    record {
      text = fault_text c.cut_fault.result;
      meets = record {
        answer = c.cut_fault.ensures ∙ sym (rest_kept rest);
        bad = sym (ap (λ z. bad || not z) (nothing_kept rest ∙ (sym c.is_empty.ensures ∙ c.if-is_empty.false)) ∙ or_true bad);
      };
      offered = c.put_fault.ensures;
    }
