use Rattle.std.proofs.Common.{ap, ◌∙◌}
use Rattle.rh_defs.specs.Line.{nth_word}
use Rattle.rh_map.proofs.WordLemmas.{first-whole, first-cut}
use Rattle.rh_map.proofs.script_lines.first_word.Goals as goal

pub returns-in-Some-clause-value : goal.returns-in-Some-clause-value
returns-in-Some-clause-value c =
    let at = c.in-Some.ensures in
    (first-cut c.unspaced-rest.result.now c.in-Some.end c.unspaced-rest.ensures.begins at.0.high
    (λ k low lt. at.0.before k low lt) at.1).is
    ∙ ap (λ words. nth_word words 1) c.unspaced-rest.ensures.words

pub returns-in-None-clause-value : goal.returns-in-None-clause-value
returns-in-None-clause-value c =
    (first-whole c.unspaced-rest.result.now c.unspaced-rest.ensures.begins
    (λ k low lt. c.in-None.ensures k low lt)).is
    ∙ ap (λ words. nth_word words 1) c.unspaced-rest.ensures.words
