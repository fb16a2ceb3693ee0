use Rattle.std.proofs.Common.{◌≡◌, ap, sym, ◌∙◌}
use Rattle.rh_figure.specs.Phrases.{Text}
use Rattle.rh_lens.specs.Items.{Lines}
use Rattle.rh_lens.specs.LensWords.{fitting_words}
use Rattle.rh_lens.specs.PartWords.{flex_choices}
use Rattle.rh_lens.proofs.words.flex_words.Goals as goal

abbrev lines_with : Text → Text → Text → Lines
lines_with a b c = record { first = a; second = b; third = c }

lines-same : {a b c p q r : Text} → a ≡ p → b ≡ q → c ≡ r → lines_with a b c ≡ lines_with p q r
lines-same {a} {b} {c} {p} {q} {r} i j k = ap (λ z. lines_with z b c) i ∙ (ap (λ z. lines_with p z c) j ∙ ap (lines_with p q) k)

pub returns : goal.returns
returns c i p told = lines-same
    (c.flex_name.ensures ∙ ap (λ t. fitting_words c.args.room (flex_choices t c.args.anchor c.args.size c.args.at)) (sym told.used_by))
    (c.block_size.ensures i p told) (c.block_bytes.ensures i p told)
