use Rattle.std.proofs.Common.{arith, refl}
use Rattle.rh_lines.specs.Pens.{offered_of}
use Rattle.rh_session.proofs.FeedLemmas.{behind_less, gives_none, gives_so, on_err, on_ok, rest_through, went_nowhere, went_on, went_so_far}
use Rattle.rh_session.proofs.FeedLemmas.{went_through}
use Rattle.rh_session.proofs.feeding.feed.Goals as goal

pub loop-end-init : goal.loop-end-init
loop-end-init g c = record {
  room = c.requires;
  used = omega arith;
  went = λ front begun_open is. gives_none (offered_of c.args.pen.now) (went_nowhere front c.args.bytes.now begun_open is);
}

pub returns-in_err-check-clause-stopped : goal.returns-in_err-check-clause-stopped
returns-in_err-check-clause-stopped g c = λ front begun_open is.
    on_err c.from_residual.result (gives_so refl (λ text w. went_so_far w) (c.loop-end.invariant.went front begun_open is))

pub loop-end-preserved : goal.loop-end-preserved
loop-end-preserved g c =
    let at = c.in-Some.ensures in
    let less = behind_less c.loop-end.rest.now c.in-Some.end at.0.high in
    record {
      room = omega (arith, less, c.take_line.ensures.room, c.loop-end.invariant.room);
      used = omega (arith, less, c.take_line.ensures.room, c.loop-end.invariant.used);
      went = λ front begun_open is. went_on c.take_line.new.self c.clear.new.self c.whole.result.now c.in-Some.end
          (c.loop-end.invariant.went front begun_open is) at.0.high (λ k lt. at.0.before k (omega arith) lt) at.1 c.whole.ensures c.take_line.ensures.took
          c.clear.ensures;
    }

pub returns-clause-taken : goal.returns-clause-taken
returns-clause-taken g c = λ front begun_open is.
    on_ok c.finish.result (gives_so c.finish.ensures.same (λ text w. went_through w (λ k lt. c.in_default.ensures k (omega arith) lt))
    (c.loop-end.invariant.went front begun_open is))

pub returns-clause-rest : goal.returns-clause-rest
returns-clause-rest g c = λ front begun_open is.
    on_ok c.finish.result (rest_through c.add.new.self (c.loop-end.invariant.went front begun_open is).meets
    (λ k lt. c.in_default.ensures k (omega arith) lt) c.add.ensures.value)

pub returns-clause-stopped : goal.returns-clause-stopped
returns-clause-stopped g c = λ front begun_open is.
    on_err c.finish.result (gives_so c.finish.ensures.same (λ text w. went_so_far w) (c.loop-end.invariant.went front begun_open is))
