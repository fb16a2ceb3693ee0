use Rattle.std.proofs.Common.{◌≤◌, ◌∙◌, [], ap, arith, sym, unwrap_or}
use Rattle.std.specs.Prelude.{slice_get}
use Rattle.rh_defs.specs.Line.{nth_word, words_of}
use Rattle.rh_explained.proofs.WordLemmas.{tail_less, word_here, word_last, word_later, word_past}
use Rattle.rh_explained.proofs.words.word_of.Goals as goal

pub pieces-init : goal.pieces-init
pieces-init c = record {
  some = c.at_least_one-left.ensures.some;
  so_far = ap (λ k. unwrap_or (slice_get (words_of c.args.line.now) k) []) (sym c.at_least_one-left.ensures.same);
}

pub returns-then-left-eq1 : goal.returns-then-left-eq1
returns-then-left-eq1 c =
    sym (c.pieces.invariant.so_far ∙ (ap (nth_word (words_of c.pieces.rest.now)) c.if-left-eq1.true
    ∙ word_last c.pieces.rest.now (λ k lt. c.in_default.ensures k (omega arith) lt)))

pub returns-else-left-eq1 : goal.returns-else-left-eq1
returns-else-left-eq1 c =
    let many : 2 ≤ c.pieces.left = omega (arith, c.pieces.invariant.some, c.if-left-eq1.false) in
    sym (c.pieces.invariant.so_far ∙ word_past c.pieces.rest.now (λ k lt. c.in_default.ensures k (omega arith) lt) c.pieces.left many)

pub returns-then-left-eq1-2 : goal.returns-then-left-eq1-2
returns-then-left-eq1-2 c =
    let at = c.in-Some.ensures in
    sym (c.pieces.invariant.so_far ∙ (ap (nth_word (words_of c.pieces.rest.now)) c.if-left-eq1-2.true
    ∙ word_here c.pieces.rest.now c.in-Some.end at.0.high (λ k lt. at.0.before k (omega arith) lt) at.1
    (sym c.is_empty.ensures ∙ c.if-is_empty.false)))

pub pieces-preserved : goal.pieces-preserved
pieces-preserved c =
    let at = c.in-Some.ensures in
    let many : 2 ≤ c.pieces.left = omega (arith, c.pieces.invariant.some, c.if-left-eq1-2.false) in
    record {
      some = omega arith;
      so_far = c.pieces.invariant.so_far ∙ word_later c.pieces.rest.now c.in-Some.end at.0.high (λ k lt. at.0.before k (omega arith) lt) at.1
          (sym c.is_empty.ensures ∙ c.if-is_empty.false) c.pieces.left many;
    }

pub pieces-smaller : goal.pieces-smaller
pieces-smaller c = tail_less c.pieces.rest.now c.in-Some.end c.in-Some.ensures.0.high
