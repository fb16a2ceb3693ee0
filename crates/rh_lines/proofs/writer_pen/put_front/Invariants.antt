use Rattle.std.proofs.Common.{length, ◌-◌, ◌≡◌, take, ◌≤◌}
use Rattle.std.specs.Io.KnownBytes.{Appends}
use Rattle.rh_lines.specs.Flow.{count_after}
use Rattle.rh_lines.proofs.writer_pen.put_front.Given as goal

-- so many were taken, and no call failed
abbrev pub invariant-loop-count : goal.invariant-loop-count
invariant-loop-count g l = record {
  few : l.count ≤ length l.bytes;
  taken : Appends (g.W.Sink.output l.initial.writer).taken (g.W.Sink.output l.writer).taken (take l.count l.bytes);
  counted : (g.W.Sink.output l.writer).count ≡ count_after (g.W.Sink.output l.initial.writer).count (length (take l.count l.bytes));
  failed : (g.W.Sink.output l.writer).failed ≡ (g.W.Sink.output l.initial.writer).failed;
}

abbrev pub decreases-loop-count : goal.decreases-loop-count
decreases-loop-count g l = length l.bytes - l.count
