use Rattle.std.proofs.Common.{ap, ◌∙◌, inl, inr, refl, map}
use Rattle.rh_session.specs.declared.status.RunFault.TheVariants.{NoMemory}
use Rattle.rh_desk.proofs.FileWordLemmas.{all-good, at-ok, bad-given, bad-lost, good-new, good-none, names-more}
use Rattle.rh_desk.proofs.files.check_words.Goals as goal

pub loop-word-init : goal.loop-word-init
loop-word-init g c = record { good = good-none; named = ap (map (λ file. file.0)) c.new-seen.ensures; quiet = refl }

pub returns-in_default-clause-errors : goal.returns-in_default-clause-errors
returns-in_default-clause-errors g c =
    rw (← c.loop-word.invariant.quiet)
    (inr (
      _,
      c.tell_bad_word.ensures.ending,
      bad-lost _ _ _ c.loop-word-test.true c.in_default.ensures c.loop-word.invariant.good,
      c.tell_bad_word.ensures.errors,
    ))

pub returns-then-contains-clause-errors : goal.returns-then-contains-clause-errors
returns-then-contains-clause-errors g c =
    rw (← c.loop-word.invariant.quiet)
    (inr (
      _,
      c.tell_bad_word-then-contains.ensures.ending,
      bad-given _ _ _ _ _ _ c.loop-word-test.true c.in-Some.ensures c.if-contains.ensures c.loop-word.invariant.named c.loop-word.invariant.good,
      c.tell_bad_word-then-contains.ensures.errors,
    ))

pub returns-then-is_err-clause-errors : goal.returns-then-is_err-clause-errors
returns-then-is_err-clause-errors g c = rw (← c.loop-word.invariant.quiet) (inl (c.ended.ensures.ending, c.ended.ensures.errors NoMemory refl))

pub loop-word-preserved : goal.loop-word-preserved
loop-word-preserved g c = record {
  good = good-new _ _ _ _ _ _ c.loop-word-test.true c.in-Some.ensures c.if-contains.ensures c.loop-word.invariant.named c.loop-word.invariant.good;
  named = ap (λ files. map (λ file. file.0) files) (at-ok c.insert.result c.if-is_err.ensures.value c.insert.ensures.ok)
      ∙ names-more _ _ _ _ _ _ c.new.result.items c.loop-word-test.true c.in-Some.ensures c.loop-word.invariant.named;
  quiet = c.loop-word.invariant.quiet;
}

pub returns-clause-good : goal.returns-clause-good
returns-clause-good g c = all-good _ _ c.loop-word-test.false c.loop-word.invariant.good
