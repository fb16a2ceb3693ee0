use Rattle.rh_wimp.proofs.Common.{◌-◌, sym, ap, ◌∙◌, Ok, part, word}
use Rattle.rh_defs.specs.AnyMessage.{body_of}
use Rattle.rh_wimp.proofs.AnyLaws.{any-read, any-short}
use Rattle.rh_wimp.proofs.decoding.decode_any.Goals as goal

pub returns-then-not-has_length : goal.returns-then-not-has_length
returns-then-not-has_length c = sym (any-short c.args.bytes.now (sym c.has_length.ensures ∙ c.if-not-has_length.true))

pub returns : goal.returns
returns c =
    let b = c.args.bytes.now in
    ap (λ m. Ok m) c.message_with.ensures
    ∙ any-read b c.any_body-body.result (sym c.has_length.ensures ∙ c.if-not-has_length.false)
    (c.any_body-body.ensures ∙ ap (λ n. body_of (word b 16) (part b 20 (n - 20))) c.get_word.ensures)
