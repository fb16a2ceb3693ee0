use Rattle.std.proofs.Common.{refl, ◌≡◌, ◌++◌, sym, ap, ◌∙◌}
use Rattle.vf_desk.specs.DeskForms.{data_in}
use Rattle.vf_desk.proofs.FormLaws.{a-name, was-ok}
use Rattle.vf_desk.proofs.forms.send.Goals as goal

pub returns : goal.returns
returns c =
    let name_is = a-name c.args.name.now c.in-Some-name_of.name c.in-Some-name_of.ensures in
    let done = was-ok c.try_extend_from_slice.result (sym c.is_err.ensures.value ∙ c.if-is_err.false) c.try_extend_from_slice.ensures.ok in
    let copied : c.new.result ≡ c.args.bytes.now = c.new.ensures ∙ done ∙ ap (λ l. l ++ c.args.bytes.now) c.new-copy.ensures in
    let given : c.data_of.result ≡ data_in c.args.bytes.now = c.data_of.ensures ∙ ap data_in copied in
    rw (← c.in-Some.ensures) (rw (name_is.0, given) refl)
