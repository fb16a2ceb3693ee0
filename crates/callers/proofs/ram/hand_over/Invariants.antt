use Rattle.std.proofs.Common.{length}
use Rattle.callers.specs.Inner.HandOver.{IsOnItsWay}
use Rattle.callers.proofs.ram.hand_over.Given as goal

-- the file is on its way, as far as the messages before this one brought it
abbrev pub invariant-loop-turn : goal.invariant-loop-turn
invariant-loop-turn l = IsOnItsWay l.source (length l.buffer) l.turn l.mail.items l.sender l.receiver l.document l.buffer
