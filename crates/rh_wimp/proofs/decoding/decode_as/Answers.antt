use Rattle.rh_wimp.proofs.Common.{◌-◌, refl, sym, ap, ◌∙◌, Result, Ok, Body, Message, MessageFault, part, word}
use Rattle.rh_defs.specs.AnyMessage.{body_of}
use Rattle.rh_wimp.specs.Chains.{body_as}
use Rattle.rh_wimp.specs.Inner.ReadAs.{decoded_as}
use Rattle.rh_wimp.proofs.AnyLaws.{any-read, any-short}
use Rattle.rh_wimp.proofs.decoding.decode_as.Goals as goal

pub returns-then-not-has_length : goal.returns-then-not-has_length
returns-then-not-has_length c =
    sym (ap (decoded_as c.args.played) (any-short c.args.bytes.now (sym c.has_length.ensures ∙ c.if-not-has_length.true)))

pub returns : goal.returns
returns c =
    let b = c.args.bytes.now in
    let said = body_of (word b 16) (part b 20 (word b 0 - 20)) in
    let made : Body → Result Message MessageFault = λ x. Ok (record { from = word b 4; my_ref = word b 8; your_ref = word b 12; body = x }) in
    ap (λ m. Ok m) c.message_with.ensures
    ∙ ap made (c.any_body-body.ensures ∙ ap (λ n. body_as c.args.played (body_of (word b 16) (part b 20 (n - 20)))) c.get_word.ensures)
    ∙ ap (decoded_as c.args.played) (any-read b said (sym c.has_length.ensures ∙ c.if-not-has_length.false) refl)
