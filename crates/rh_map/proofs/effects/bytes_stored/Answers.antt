use Rattle.std.proofs.Common.{ap₂}
use Rattle.rh_map.proofs.Common.{◌≡◌, ℕ, List, ◌++◌, ap, ◌∙◌, append_assoc, append-nil, codes, length, size_text}
use Rattle.rh_defs.specs.Text.{address}
use Rattle.rh_figure.specs.Changes.{quoted_text}
use Rattle.rh_map.proofs.effects.bytes_stored.Goals as goal

pub returns-clause-value : goal.returns-clause-value
returns-clause-value c =
    let size = size_text (length c.args.bytes.now) in
    let to = codes " to " in
    let at = address c.args.address in
    let of = codes " of " in
    let name = c.args.name.now in
    let e1 : c.add_size.new.row ≡ size = c.add_size.ensures.value ∙ ap₂ (λ z (bytes : List ℕ). z ++ size_text (length bytes)) c.new-row.ensures
    c.as_slice.ensures.value in
    let e2 : c.text.new.self ≡ size ++ to = c.text.ensures ∙ ap (λ z. z ++ to) e1 in
    let e3 : c.address.new.self ≡ (size ++ to) ++ at = c.address.ensures.value ∙ ap (λ z. z ++ at) e2 in
    let e4 : c.text-2.new.self ≡ ((size ++ to) ++ at) ++ of = c.text-2.ensures ∙ ap (λ z. z ++ of) e3 in
    let e5 : c.text-3.new.self ≡ (((size ++ to) ++ at) ++ of) ++ name = c.text-3.ensures ∙ ap₂ (λ z n. z ++ n) e4 c.as_bytes.ensures.value in
    c.add_quoted.ensures.value
    ∙ (ap₂ (λ z bytes. z ++ quoted_text bytes) e5 c.as_slice-2.ensures.value ∙ simp (append_assoc, append-nil))
