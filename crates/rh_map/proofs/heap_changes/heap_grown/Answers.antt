use Rattle.std.proofs.Common.{ap₂}
use Rattle.rh_map.proofs.Common.{◌≡◌, ◌++◌, ap, ◌∙◌, append_assoc, append-nil, codes, decimal, size_text}
use Rattle.rh_map.proofs.heap_changes.heap_grown.Goals as goal

pub returns-clause-value : goal.returns-clause-value
returns-clause-value c =
    let heap = codes "The C heap of " in
    let name = c.args.name.now in
    let grows = codes " grows from " in
    let had = decimal c.args.had in
    let to = codes " to " in
    let e1 : c.text.new.self ≡ heap = c.text.ensures ∙ ap (λ z. z ++ heap) c.new-row.ensures in
    let e2 : c.text-2.new.self ≡ heap ++ name = c.text-2.ensures ∙ ap₂ (λ z n. z ++ n) e1 c.as_bytes.ensures.value in
    let e3 : c.text-3.new.self ≡ (heap ++ name) ++ grows = c.text-3.ensures ∙ ap (λ z. z ++ grows) e2 in
    let e4 : c.decimal.new.self ≡ ((heap ++ name) ++ grows) ++ had = c.decimal.ensures.value ∙ ap (λ z. z ++ had) e3 in
    let e5 : c.text-4.new.self ≡ (((heap ++ name) ++ grows) ++ had) ++ to = c.text-4.ensures ∙ ap (λ z. z ++ to) e4 in
    c.add_size.ensures.value ∙ (ap (λ z. z ++ size_text c.args.has) e5 ∙ simp (append_assoc, append-nil))
