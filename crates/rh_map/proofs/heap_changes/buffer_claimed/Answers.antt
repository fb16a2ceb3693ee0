use Rattle.std.proofs.Common.{ap₂}
use Rattle.rh_map.proofs.Common.{◌≡◌, ◌++◌, ap, ◌∙◌, append_assoc, append-nil, codes, decimal, size_text}
use Rattle.rh_defs.specs.Text.{address}
use Rattle.rh_figure.specs.HeapChanges.{room_text}
use Rattle.rh_map.proofs.heap_changes.buffer_claimed.Goals as goal

pub returns-clause-value : goal.returns-clause-value
returns-clause-value c =
    let buffer = codes "Buffer " in
    let at = address c.args.address in
    let of = codes " of transfer " in
    let id = decimal c.args.id in
    let new = codes " is new: " in
    let size = size_text c.args.size in
    let e1 : c.text.new.self ≡ buffer = c.text.ensures ∙ ap (λ z. z ++ buffer) c.new-row.ensures in
    let e2 : c.address.new.self ≡ buffer ++ at = c.address.ensures.value ∙ ap (λ z. z ++ at) e1 in
    let e3 : c.text-2.new.self ≡ (buffer ++ at) ++ of = c.text-2.ensures ∙ ap (λ z. z ++ of) e2 in
    let e4 : c.decimal.new.self ≡ ((buffer ++ at) ++ of) ++ id = c.decimal.ensures.value ∙ ap₂ (λ z n. z ++ decimal n) e3 c.id.view_is in
    let e5 : c.text-3.new.self ≡ (((buffer ++ at) ++ of) ++ id) ++ new = c.text-3.ensures ∙ ap (λ z. z ++ new) e4 in
    let e6 : c.add_size.new.row ≡ ((((buffer ++ at) ++ of) ++ id) ++ new) ++ size = c.add_size.ensures.value ∙ ap (λ z. z ++ size) e5 in
    c.add_room.ensures.value ∙ (ap (λ z. z ++ room_text c.args.size c.args.behind) e6 ∙ simp (append_assoc, append-nil))
