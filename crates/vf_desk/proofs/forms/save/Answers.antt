use Rattle.std.proofs.Common.{refl, ◌≡◌, ◌++◌, sym, ap, ◌∙◌}
use Rattle.vf_desk.proofs.FormLaws.{a-name, an-anchor, was-ok}
use Rattle.vf_desk.proofs.forms.save.Goals as goal

pub returns : goal.returns
returns c =
    let name_is = a-name c.args.name.now c.in-Some.name c.in-Some.ensures in
    let anchor_is = an-anchor c.args.anchor c.in-Some-anchor_of.anchor c.in-Some-anchor_of.ensures in
    let to_is = a-name c.args.to.now c.in-Some-name_of.to c.in-Some-name_of.ensures in
    let done = was-ok c.try_extend_from_slice.result (sym c.is_err.ensures.value ∙ c.if-is_err.false) c.try_extend_from_slice.ensures.ok in
    let leaf : c.new.result ≡ c.args.leaf.now = c.new.ensures ∙ done ∙ ap (λ l. l ++ c.args.leaf.now) c.new-letters.ensures in
    rw (name_is.0, anchor_is.0, to_is.0, leaf) refl
