use Rattle.rh_pictures.proofs.Common.{◌∙◌, ℕ, List, ap, length, subst, sym, ended, Excerpts, fault_text}
use Rattle.std.specs.Prelude.{◌-◌, ◌^◌, min}
use Rattle.rh_map.specs.Replies.{front_of}
use Rattle.rh_pictures.proofs.ExcerptLemmas.{fault-one, one-counted, one-kept, written}
use Rattle.rh_pictures.proofs.excerpt.excerpt_fault.Goals as goal

pub returns : goal.returns
returns c =
    let text = fault_text c.args.fault.now in
    let one = fault-one c.args.fault.now in
    let whole = written c.clear.ensures c.put_fault.ensures in
    let count = one-counted text one (c.lines.ensures ∙ ap (λ t. min (length (ended t)) (2 ^ 32 - 1)) whole) in
    let P : ℕ → Type 0 = λ n. Excerpts (front_of text) n text in
    let Q : List ℕ → Type 0 = λ t. Excerpts (front_of t) c.lines.result text in
    subst Q (sym whole) (subst P (sym count) (one-kept text one))
