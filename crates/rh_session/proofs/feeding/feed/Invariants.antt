use Rattle.std.proofs.Common.{◌≡◌, ◌≤◌, ◌+◌, ℕ, List, [], length}
use Rattle.rh_defs.specs.Script.{ended}
use Rattle.rh_lines.specs.Pens.{offered_of}
use Rattle.rh_session.specs.Lines.{kept}
use Rattle.rh_session.specs.Taken.{Gives}
use Rattle.rh_session.proofs.FeedLemmas.{Went}
use Rattle.rh_session.proofs.feeding.feed.Given as goal

-- the lines so far were taken, and there is room for as many as there are bytes left
abbrev pub invariant-loop-end : goal.invariant-loop-end
invariant-loop-end g l = record {
  room : length l.rest ≤ g.T.LineTaker.room l.taker;
  used : g.T.LineTaker.room l.initial.taker + length l.rest ≤ g.T.LineTaker.room l.taker + length l.bytes;
  went : (front : List ℕ) → ended front ≡ [] → l.initial.line ≡ kept front →
      Gives (Went g.T.LineTaker.took l.initial.taker l.taker l.line front l.bytes l.rest) (offered_of l.initial.pen) (offered_of l.pen);
}

abbrev pub decreases-loop-end : goal.decreases-loop-end
decreases-loop-end g l = length l.rest
