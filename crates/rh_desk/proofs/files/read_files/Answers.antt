use Rattle.std.proofs.Common.{ap, ◌∙◌, inl, inr, refl, map}
use Rattle.std.proofs.lemmas.List.Elements.{All-nil, All-push}
use Rattle.rh_desk.specs.Done.{IsWhole}
use Rattle.rh_session.specs.declared.status.RunFault.TheVariants.{NoMemory}
use Rattle.rh_desk.proofs.FileWordLemmas.{all-named, at-err, at-ok, bad-given, bad-lost, good-new, good-none, lost-file, names-more}
use Rattle.rh_desk.proofs.files.read_files.Goals as goal

pub loop-word-init : goal.loop-word-init
loop-word-init g c =
    record { good = good-none; named = ap (map (λ file. file.0)) c.new-files.ensures; whole = rw c.new-files.ensures (All-nil _); quiet = refl }

pub returns-in_default-clause-wrong : goal.returns-in_default-clause-wrong
returns-in_default-clause-wrong g c = λ ending. (_, bad-lost _ _ _ c.loop-word-test.true c.in_default.ensures c.loop-word.invariant.good)

pub returns-in_default-clause-errors : goal.returns-in_default-clause-errors
returns-in_default-clause-errors g c =
    rw (← c.loop-word.invariant.quiet)
    (inl (inr (
      _,
      c.tell_bad_word.ensures.ending,
      bad-lost _ _ _ c.loop-word-test.true c.in_default.ensures c.loop-word.invariant.good,
      c.tell_bad_word.ensures.errors,
    )))

pub returns-in_err-bytes-clause-errors : goal.returns-in_err-bytes-clause-errors
returns-in_err-bytes-clause-errors g c =
    rw (← c.loop-word.invariant.quiet)
    (at-err _ _ _ c.from_residual.ensures.1 (lost-file g.R.File.Read.remaining _ _ _ _ _ _ _ _ c.loop-word-test.true c.in-Some.ensures
    c.in_err-bytes.ensures.err c.in_err-bytes.ensures.errors))

pub returns-then-contains-clause-wrong : goal.returns-then-contains-clause-wrong
returns-then-contains-clause-wrong g c = λ ending.
    (_, bad-given _ _ _ _ _ _ c.loop-word-test.true c.in-Some.ensures c.if-contains.ensures c.loop-word.invariant.named c.loop-word.invariant.good)

pub returns-then-contains-clause-errors : goal.returns-then-contains-clause-errors
returns-then-contains-clause-errors g c =
    rw (← (c.in_ok-bytes.ensures.quiet ∙ c.loop-word.invariant.quiet))
    (inl (inr (
      _,
      c.tell_bad_word-then-contains.ensures.ending,
      bad-given _ _ _ _ _ _ c.loop-word-test.true c.in-Some.ensures c.if-contains.ensures c.loop-word.invariant.named c.loop-word.invariant.good,
      c.tell_bad_word-then-contains.ensures.errors,
    )))

pub returns-then-is_err-clause-errors : goal.returns-then-is_err-clause-errors
returns-then-is_err-clause-errors g c =
    rw (← (c.in_ok-bytes.ensures.quiet ∙ c.loop-word.invariant.quiet))
    (inl (inl (c.ended.ensures.ending, c.ended.ensures.errors NoMemory refl)))

pub loop-word-preserved : goal.loop-word-preserved
loop-word-preserved g c = record {
  good = good-new _ _ _ _ _ _ c.loop-word-test.true c.in-Some.ensures c.if-contains.ensures c.loop-word.invariant.named c.loop-word.invariant.good;
  named = ap (λ files. map (λ file. file.0) files) (at-ok c.insert.result c.if-is_err.ensures.value c.insert.ensures.ok)
      ∙ names-more _ _ _ _ _ _ c.in_ok-bytes.bytes.items c.loop-word-test.true c.in-Some.ensures c.loop-word.invariant.named;
  whole = rw (at-ok c.insert.result c.if-is_err.ensures.value c.insert.ensures.ok)
      (All-push (λ file. IsWhole g.R.File.Read.remaining file.1) _ _ c.loop-word.invariant.whole c.in_ok-bytes.ensures.whole);
  quiet = c.in_ok-bytes.ensures.quiet ∙ c.loop-word.invariant.quiet;
}

pub returns-clause-named : goal.returns-clause-named
returns-clause-named g c = all-named _ _ _ c.loop-word-test.false c.loop-word.invariant.named

pub returns-clause-whole : goal.returns-clause-whole
returns-clause-whole g c = c.loop-word.invariant.whole
