use Rattle.std.proofs.Common.{◌≡◌, ◌<◌, ◌-◌, ◌*◌, length}
use Rattle.rh_lines.specs.Flow.{Takes}
use Rattle.rh_lines.specs.Pens.{begun_of, offered_of, text_of, writer_of}
use Rattle.rh_session.specs.Taken.{Gives}
use Rattle.rh_session.proofs.FeedLemmas.{Going}
use Rattle.rh_session.proofs.feeding.feed_all.Given as goal
use Rattle.rh_defs.specs.declared.sizes.TheConstants.{MOST_READS}

-- what was read so far has been handed on and written, and there is room for all that may still come
abbrev pub invariant-loop-turn : goal.invariant-loop-turn
invariant-loop-turn g l = record {
  piece : length l.piece ≡ length l.fn.piece;
  reads : (g.R.Source.input l.reader).reads ≡ l._turn;
  well : (g.R.Source.input l.reader).failed ≡ (g.R.Source.input l.fn.reader).failed;
  room : (MOST_READS - l._turn) * length l.fn.piece < g.T.LineTaker.room l.taker;
  going : Gives (Going g.T.LineTaker.took (g.R.Source.input l.fn.reader) (g.R.Source.input l.reader) l.fn.taker l.taker l.line) (offered_of l.initial.pen)
      (offered_of l.pen);
  written : Takes (begun_of l.pen) (g.W.Sink.output (writer_of l.pen).now) (text_of l.pen);
}
