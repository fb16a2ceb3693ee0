use Rattle.rh_pictures.proofs.Common.{◌∙◌, ℕ, List, ap, arith, length, subst, sym, asked, ended, answer_text, Excerpts}
use Rattle.rh_map.specs.Replies.{front_of}
use Rattle.rh_pictures.proofs.AnswerLemmas.{answer-few, counted-is, counted-kept}
use Rattle.rh_pictures.proofs.ExcerptLemmas.{written}
use Rattle.rh_pictures.proofs.excerpt.excerpt_answer.Goals as goal

pub returns : goal.returns
returns g c =
    let d = g.D.Sight.desk c.args.drawn.now in
    let text = answer_text (asked d c.args.question.now) in
    let told = answer-few d c.recall_desk.ensures c.look_over.ensures c.args.question.now in
    let whole = written c.clear.ensures c.put_answer.ensures.offered ∙ c.put_answer.ensures.meets d (g.met.D.Drawn.seen c.args.drawn.now) in
    let count = counted-is told.count text told.counted in
    let P : ℕ → Type 0 = λ n. Excerpts (front_of text) n text in
    let Q : List ℕ → Type 0 = λ t. Excerpts (front_of t) c.lines.result text in
    subst Q (sym whole)
    (subst P (omega (arith, told.few, count, c.lines.ensures, ap (λ t. length (ended t)) whole)) (counted-kept told.count text told.counted))
