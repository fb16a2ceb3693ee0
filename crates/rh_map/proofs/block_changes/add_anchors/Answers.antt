use Rattle.rh_map.proofs.Common.{◌≡◌, Bool, [], ◌∷◌, ◌++◌, ap, sym, ◌∙◌, append_assoc, append-nil, codes, eqb_apart}
use Rattle.std.specs.Prelude.{if◌then◌else◌}
use Rattle.std.specs.List.{concat}
use Rattle.rh_defs.specs.Text.{address}
use Rattle.rh_figure.specs.Changes.{anchors_told}
use Rattle.rh_figure.specs.Phrases.{Text}
use Rattle.rh_map.proofs.block_changes.add_anchors.Goals as goal

abbrev its : Text → Text
its at = concat (codes ": its anchor holds " ∷ at ∷ codes " now" ∷ [])

pub returns-then-count-eq1-clause-value : goal.returns-then-count-eq1-clause-value
returns-then-count-eq1-clause-value c =
    let old = c.args.row.now in
    let at = address c.args.to in
    let whole : ((old ++ codes ": its anchor holds ") ++ at) ++ codes " now" ≡ old ++ its at = simp (append_assoc, append-nil) in
    c.text-then-count-eq1.ensures
    ∙ (ap (λ z. z ++ codes " now") (c.address.ensures.value ∙ ap (λ z. z ++ at) c.text.ensures)
    ∙ (whole ∙ ap (λ n. old ++ anchors_told n c.args.to) (sym c.if-count-eq1.true)))

pub returns-else-count-eq1-clause-value : goal.returns-else-count-eq1-clause-value
returns-else-count-eq1-clause-value c =
    c.text-else-count-eq1.ensures
    ∙ ap (λ (b : Bool). c.args.row.now ++ (if b then its (address c.args.to) else codes ": their anchors hold the new addresses"))
    (sym (eqb_apart c.args.count 1 c.if-count-eq1.false))
