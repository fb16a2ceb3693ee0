use Rattle.std.proofs.Common.{ap₂}
use Rattle.rh_map.proofs.Common.{◌≡◌, ℕ, List, ◌++◌, ap, ◌∙◌, append_assoc, append-nil, codes, decimal, length, size_text}
use Rattle.rh_figure.specs.Changes.{quoted_text}
use Rattle.rh_map.proofs.effects.bytes_written.Goals as goal

pub returns-clause-value : goal.returns-clause-value
returns-clause-value c =
    let size = size_text (length c.args.bytes.now) in
    let into = codes " into flex block " in
    let anchor : c.anchor.inside.0 ≡ c.args.anchor = c.anchor.view_is in
    let k = decimal c.args.anchor in
    let from = codes " from offset " in
    let at = decimal c.args.offset in
    let e1 : c.add_size.new.row ≡ size = c.add_size.ensures.value ∙ ap₂ (λ z (bytes : List ℕ). z ++ size_text (length bytes)) c.new-row.ensures
    c.as_slice.ensures.value in
    let e2 : c.text.new.self ≡ size ++ into = c.text.ensures ∙ ap (λ z. z ++ into) e1 in
    let e3 : c.decimal.new.self ≡ (size ++ into) ++ k = c.decimal.ensures.value ∙ ap₂ (λ z n. z ++ decimal n) e2 (c.from.ensures ∙ anchor) in
    let e4 : c.text-2.new.self ≡ ((size ++ into) ++ k) ++ from = c.text-2.ensures ∙ ap (λ z. z ++ from) e3 in
    let e5 : c.decimal-2.new.self ≡ (((size ++ into) ++ k) ++ from) ++ at = c.decimal-2.ensures.value ∙ ap (λ z. z ++ at) e4 in
    c.add_quoted.ensures.value
    ∙ (ap₂ (λ z bytes. z ++ quoted_text bytes) e5 c.as_slice-2.ensures.value ∙ simp (append_assoc, append-nil))
