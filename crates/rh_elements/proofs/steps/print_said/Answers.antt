use Rattle.rh_elements.proofs.Common.{List, ℕ, ap, codes, join_by, escape}
use Rattle.rh_elements.proofs.RowLemmas.{added}
use Rattle.rh_elements.proofs.WriteLemmas.{offered_as}
use Rattle.rh_elements.proofs.steps.print_said.Goals as goal

-- the lines of a reply as they are shown
abbrev shown : List (List ℕ) → List ℕ
shown lines = escape (join_by (λ (t : List ℕ). t) (codes "\n") lines)

pub returns : goal.returns
returns g c = λ reply e.
    let offered = g.P.Pen.offered in
    added (offered c.args.pen.now) _ _ c.print_command.ensures
    (added (offered c.print_command.new.pen) _ _ (offered_as _ (ap shown e) c.put_reply.ensures) c.put.ensures)
