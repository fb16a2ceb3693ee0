use Rattle.rh_wimp.proofs.Common.{◌≡◌, refl, sym, ap, ◌∙◌, Some, None, Result, Ok, Err, err_from_is_err_and, action_at, decoded, Message, MessageFault}
use Rattle.rh_defs.specs.MessageImage.{body_for}
use Rattle.rh_defs.specs.declared.message.MessageFault.TheVariants.{BadAction}
use Rattle.rh_defs.proofs.MessageImageLaws.{decoded-spells, spelled-decodes}
use Rattle.rh_wimp.proofs.DecodeLaws.{decoded-body, decoded-short}
use Rattle.rh_wimp.proofs.decoding.decode.Goals as goal
use Rattle.rh_wimp.proofs.decoding.decode.Goals.{After-from_residual, After-message_with}

pub returns-then-not-has_length-clause-answer : goal.returns-then-not-has_length-clause-answer
returns-then-not-has_length-clause-answer c = sym (decoded-short c.args.bytes.now (sym c.has_length.ensures ∙ c.if-not-has_length.true))

pub returns-in_default-clause-answer : goal.returns-in_default-clause-answer
returns-in_default-clause-answer c =
    let b = c.args.bytes.now in
    sym (decoded-body b None (Err BadAction) (sym c.has_length.ensures ∙ c.if-not-has_length.false)
    (ap action_at (sym c.get_word.ensures) ∙ sym c.from_number.ensures ∙ c.in_default.is) refl)

failed : (c : After-from_residual) → c.from_residual.result ≡ decoded c.args.bytes.now
failed c =
    let b = c.args.bytes.now in
    let e = err_from_is_err_and c.from_residual.result c.from_residual.ensures.1 in
    rw (e.1, e.2) (sym (decoded-body b (Some c.in-Some.action) (Err c.in_err-body.field-0.0) (sym c.has_length.ensures ∙ c.if-not-has_length.false)
    (ap action_at (sym c.get_word.ensures) ∙ sym c.from_number.ensures ∙ c.in-Some.is)
    (ap (λ end. body_for b end (Some c.in-Some.action)) (sym c.get_word-end.ensures) ∙ sym c.decode_body.ensures ∙ c.in_err-body.was)))

pub returns-in_err-body-clause-answer : goal.returns-in_err-body-clause-answer
returns-in_err-body-clause-answer c = failed c

pub returns-in_err-body-clause-read : goal.returns-in_err-body-clause-read
returns-in_err-body-clause-read c = λ m s. failed c ∙ spelled-decodes c.args.bytes.now m s

read : (c : After-message_with) → ◌≡◌ {A = Result Message MessageFault} (Ok c.message_with.result) (decoded c.args.bytes.now)
read c =
    let b = c.args.bytes.now in
    ap (λ m. Ok m) c.message_with.ensures
    ∙ sym (decoded-body b (Some c.in-Some.action) (Ok c.in_ok-body.body) (sym c.has_length.ensures ∙ c.if-not-has_length.false)
    (ap action_at (sym c.get_word.ensures) ∙ sym c.from_number.ensures ∙ c.in-Some.is)
    (ap (λ end. body_for b end (Some c.in-Some.action)) (sym c.get_word-end.ensures) ∙ sym c.decode_body.ensures ∙ c.in_ok-body.was))

pub returns-clause-answer : goal.returns-clause-answer
returns-clause-answer c = read c

pub returns-clause-spelled : goal.returns-clause-spelled
returns-clause-spelled c = decoded-spells c.args.bytes.now _ (sym (read c))

pub returns-clause-read : goal.returns-clause-read
returns-clause-read c = λ m s. read c ∙ spelled-decodes c.args.bytes.now m s
