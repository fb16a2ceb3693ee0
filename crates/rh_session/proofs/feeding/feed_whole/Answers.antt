use Rattle.std.proofs.Common.{[], append-nil, refl, rules, sym, ◌∙◌}
use Rattle.rh_lines.specs.Flow.{Breaks, Takes, unread}
use Rattle.rh_lines.specs.Pens.{offered_of}
use Rattle.rh_lines.proofs.PenLemmas.{wrote}
use Rattle.rh_session.proofs.FeedLemmas.{err_so, fed_all, fed_until, fed_until_rest, gives_none, going_on, going_starts, ok_so, on_err}
use Rattle.rh_session.proofs.FeedLemmas.{offers_more, offers_same, told_by}
use Rattle.rh_session.proofs.LineLemmas.{kept_nil}
use Rattle.rh_session.proofs.feeding.feed_whole.Goals as goal

pub returns-in_err-feed-clause-write_failed : goal.returns-in_err-feed-clause-write_failed
returns-in_err-feed-clause-write_failed g c =
    let script = c.args.script.now in
    let made = c.new-pen.ensures in
    let fed = c.in_err-feed.ensures in
    let start = gives_none (offered_of c.new-pen.result) (going_starts (unread script) c.new-line.ensures) in
    let some = fed.stopped [] refl (c.new-line.ensures ∙ sym kept_nil) in
    let same = sym ((wrote c.new-pen.result c.feed.new.pen some.text some.offered).same_reference ∙ made.same_reference) in
    let p = on_err c.from_residual.result (fed_until {last = g.T.LineTaker.took_rest} (unread []) script start (sym (append-nil script)) fed.stopped
    (told_by Breaks c.new-pen.result c.feed.new.pen _ _ made.begun made.text fed.written.err)) in
    search rules

pub returns-clause-ok : goal.returns-clause-ok
returns-clause-ok g c =
    let script = c.args.script.now in
    let made = c.new-pen.ensures in
    let start = gives_none (offered_of c.new-pen.result) (going_starts (unread script) c.new-line.ensures) in
    let going = going_on (unread []) c.feed.new.taker c.feed.new.line script start (sym (append-nil script)) c.in_ok-feed.ensures.taken
    c.in_ok-feed.ensures.rest in
    let last = offers_same c.finish.ensures.same c.take_rest.ensures in
    let all = offers_more going last in
    let same = sym ((wrote c.new-pen.result c.finish.new.self _ all).same_reference ∙ made.same_reference) in
    let p = ok_so c.finish.result (λ takes. fed_all {last = g.T.LineTaker.took_rest} (unread []) c.take_rest.new.self c.as_slice.result.now going refl refl refl
    c.as_slice.ensures.value last (told_by Takes c.new-pen.result c.finish.new.self _ _ made.begun made.text takes)) c.finish.ensures.written.ok in
    search rules

pub returns-clause-write_failed : goal.returns-clause-write_failed
returns-clause-write_failed g c =
    let script = c.args.script.now in
    let made = c.new-pen.ensures in
    let start = gives_none (offered_of c.new-pen.result) (going_starts (unread script) c.new-line.ensures) in
    let going = going_on (unread []) c.feed.new.taker c.feed.new.line script start (sym (append-nil script)) c.in_ok-feed.ensures.taken
    c.in_ok-feed.ensures.rest in
    let last = offers_same c.finish.ensures.same c.take_rest.ensures in
    let all = offers_more going last in
    let same = sym ((wrote c.new-pen.result c.finish.new.self _ all).same_reference ∙ made.same_reference) in
    let p = err_so c.finish.result (λ breaks. fed_until_rest {last = g.T.LineTaker.took_rest} (unread []) c.take_rest.new.self c.as_slice.result.now going
    refl refl c.as_slice.ensures.value last (told_by Breaks c.new-pen.result c.finish.new.self _ _ made.begun made.text breaks)) c.finish.ensures.written.err in
    search rules
