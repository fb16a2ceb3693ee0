use Rattle.std.proofs.Common.{arith, refl, rules, sym, ◌∙◌}
use Rattle.rh_lines.specs.Flow.{Breaks, Takes}
use Rattle.rh_lines.specs.Pens.{offered_of}
use Rattle.rh_lines.proofs.PenLemmas.{wrote}
use Rattle.rh_session.proofs.FeedLemmas.{counted, fed, fed_all, fed_until, fed_until_rest, gives_none, going_on, going_starts, keeps_same, none_given}
use Rattle.rh_session.proofs.FeedLemmas.{offers_more, offers_same, or_false, room_left, takes_nothing, told_by}
use Rattle.rh_session.proofs.LineLemmas.{ended-unended}
use Rattle.rh_defs.specs.Script.{unended}
use Rattle.rh_session.proofs.feeding.feed_all.Goals as goal

pub loop-turn-init : goal.loop-turn-init
loop-turn-init g c = record {
  piece = refl;
  reads = c.requires.fresh;
  well = refl;
  room = c.requires.room;
  going = gives_none (offered_of c.new-pen.result) (going_starts (g.R.Source.input c.args.reader.now) c.new-line.ensures);
  written = takes_nothing (c.new-pen.ensures.same ∙ sym c.new-pen.ensures.begun) c.new-pen.ensures.text;
}

pub returns-in-Err-clause-read_taken : goal.returns-in-Err-clause-read_taken
returns-in-Err-clause-read_taken g c = λ e.
    let made = c.new-pen.ensures in
    let going = c.loop-turn.invariant.going in
    let same = sym ((wrote c.new-pen.result c.loop-turn.pen going.text going.offered).same_reference ∙ made.same_reference) in
    let p = fed (g.R.Source.input c.read.new.self) going c.in-Err.ensures.left
    (told_by Takes c.new-pen.result c.loop-turn.pen _ _ made.begun made.text c.loop-turn.invariant.written) in
    search rules

pub returns-in-Ok-finish-clause-ok : goal.returns-in-Ok-finish-clause-ok
returns-in-Ok-finish-clause-ok g c =
    let made = c.new-pen.ensures in
    let going = c.loop-turn.invariant.going in
    let last = offers_same c.finish.ensures.same c.take_rest.ensures in
    let same = sym ((wrote c.new-pen.result c.finish.new.self _ (offers_more going last)).same_reference ∙ made.same_reference) in
    let p = fed_all {last = g.T.LineTaker.took_rest} (g.R.Source.input c.read.new.self) c.take_rest.new.self c.as_slice.result.now going
    (none_given _ _ _ _ c.if-count-eq0.true c.in-Ok.ensures.left.0) (c.in-Ok.ensures.left.1 c.if-count-eq0.true (omega arith))
    (c.in-Ok.ensures.failed ∙ (or_false _ ∙ c.loop-turn.invariant.well)) c.as_slice.ensures.value last
    (told_by Takes c.new-pen.result c.finish.new.self _ _ made.begun made.text c.in-Ok-finish.ensures.written.ok) in
    search rules

pub returns-in-Err-finish-clause-write_failed : goal.returns-in-Err-finish-clause-write_failed
returns-in-Err-finish-clause-write_failed g c = λ e.
    let made = c.new-pen.ensures in
    let going = c.loop-turn.invariant.going in
    let last = offers_same c.finish.ensures.same c.take_rest.ensures in
    let same = sym ((wrote c.new-pen.result c.finish.new.self _ (offers_more going last)).same_reference ∙ made.same_reference) in
    let p = fed_until_rest {last = g.T.LineTaker.took_rest} (g.R.Source.input c.read.new.self) c.take_rest.new.self c.as_slice.result.now going
    (none_given _ _ _ _ c.if-count-eq0.true c.in-Ok.ensures.left.0) (c.in-Ok.ensures.left.1 c.if-count-eq0.true (omega arith)) c.as_slice.ensures.value
    last (told_by Breaks c.new-pen.result c.finish.new.self _ _ made.begun made.text c.in-Err-finish.ensures.written.err) in
    search rules

pub returns-in-Err-feed-clause-write_failed : goal.returns-in-Err-feed-clause-write_failed
returns-in-Err-feed-clause-write_failed g c = λ e.
    let made = c.new-pen.ensures in
    let going = c.loop-turn.invariant.going in
    let stopped = c.in-Err-feed.ensures.stopped in
    let some = stopped (unended going.meets.bytes) (ended-unended going.meets.bytes) going.meets.line_is in
    let same = sym ((wrote c.new-pen.result c.feed.new.pen _ (offers_more going some)).same_reference ∙ made.same_reference) in
    let p = fed_until {last = g.T.LineTaker.took_rest} (g.R.Source.input c.read.new.self) _ going c.in-Ok.ensures.left.0 stopped
    (told_by Breaks c.new-pen.result c.feed.new.pen _ _ made.begun made.text c.in-Err-feed.ensures.written.err) in
    search rules

pub loop-turn-preserved : goal.loop-turn-preserved
loop-turn-preserved g c = record {
  piece = c.read.auto.buffer ∙ c.loop-turn.invariant.piece;
  reads = counted _ _ _ _ c.if-count-eq0.false c.loop-turn.invariant.reads (omega arith) c.in-Ok.ensures.given;
  well = c.in-Ok.ensures.failed ∙ (or_false _ ∙ c.loop-turn.invariant.well);
  room = room_left 1000000 c.loop-turn._turn _ _ _ _ (omega arith) c.loop-turn.invariant.room c.in-Ok-feed.ensures.room
      (omega (arith, c.in-Ok.ensures.bound, c.read.auto.buffer, c.loop-turn.invariant.piece));
  going = going_on (g.R.Source.input c.read.new.self) c.feed.new.taker c.feed.new.line _ c.loop-turn.invariant.going c.in-Ok.ensures.left.0
      c.in-Ok-feed.ensures.taken c.in-Ok-feed.ensures.rest;
  written = c.in-Ok-feed.ensures.written.ok;
}

pub returns-clause-long_taken : goal.returns-clause-long_taken
returns-clause-long_taken g c = λ e.
    let made = c.new-pen.ensures in
    let going = c.loop-turn.invariant.going in
    let same = sym ((wrote c.new-pen.result c.loop-turn.pen going.text going.offered).same_reference ∙ made.same_reference) in
    let p = fed (g.R.Source.input c.loop-turn.reader) going (keeps_same _)
    (told_by Takes c.new-pen.result c.loop-turn.pen _ _ made.begun made.text c.loop-turn.invariant.written) in
    search rules
