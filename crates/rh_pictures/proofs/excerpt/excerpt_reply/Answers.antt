use Rattle.rh_pictures.proofs.Common.{◌∙◌, ◌++◌, List, ℕ, ap, length, subst, sym, ended, Excerpts, Nothing, first_line}
use Rattle.std.specs.Prelude.{◌-◌, ◌^◌, min}
use Rattle.rh_defs.specs.Text.{handed_text}
use Rattle.rh_map.specs.Replies.{front_of}
use Rattle.rh_pictures.proofs.ExcerptLemmas.{written}
use Rattle.rh_pictures.proofs.HandedLemmas.{both-kept}
use Rattle.rh_pictures.proofs.excerpt.excerpt_reply.Goals as goal

pub returns : goal.returns
returns c =
    let behind = handed_text c.args.handed.now in
    let text = first_line c.args.reply.now Nothing ++ behind in
    let whole = c.put_handed.ensures.text ∙ ap (λ z. z ++ behind) (written c.clear.ensures c.put_first_line.ensures) in
    let count = c.lines.ensures ∙ ap (λ t. min (length (ended t)) (2 ^ 32 - 1)) whole in
    let Q : List ℕ → Type 0 = λ t. Excerpts (front_of t) c.lines.result text in
    subst Q (sym whole) (both-kept c.args.reply.now c.args.handed.now c.put_handed.ensures.short c.lines.result count)
