use Rattle.std.proofs.Common.{ap₂}
use Rattle.rh_map.proofs.Common.{◌≡◌, ◌++◌, ap, ◌∙◌, append_assoc, append-nil, codes, decimal}
use Rattle.rh_map.proofs.block_changes.block_gone.Goals as goal

pub returns-clause-value : goal.returns-clause-value
returns-clause-value c =
    let anchor : c.anchor.inside.0 ≡ c.args.anchor = c.anchor.view_is in
    let k = decimal c.args.anchor in
    let name = codes "Flex block " in
    let gone = codes " is gone, and anchor " in
    let e1 : c.text.new.self ≡ name = c.text.ensures ∙ ap (λ z. z ++ name) c.new-row.ensures in
    let e2 : c.decimal.new.self ≡ name ++ k = c.decimal.ensures.value ∙ ap₂ (λ z n. z ++ decimal n) e1 (c.from.ensures ∙ anchor) in
    let e3 : c.text-2.new.self ≡ (name ++ k) ++ gone = c.text-2.ensures ∙ ap (λ z. z ++ gone) e2 in
    let e4 : c.decimal-2.new.self ≡ ((name ++ k) ++ gone) ++ k = c.decimal-2.ensures.value ∙ ap₂ (λ z n. z ++ decimal n) e3 (c.from-2.ensures ∙ anchor) in
    c.text-3.ensures ∙ (ap (λ z. z ++ codes " is 0") e4 ∙ simp (append_assoc, append-nil))
