-- What a task's seat keeps of its letters.
use Rattle.std.specs.Prelude.{ℕ, Option, Some, None, Ok, Err}
use Rattle.rh_defs.specs.Chain.{Granted}
use Rattle.rh_defs.specs.declared.message.Letter.{Letter}
use Rattle.rh_defs.specs.declared.refusal.Refusal.TheVariants.{NothingSent}
use Rattle.rh_tasks.specs.declared.seat.Seat.{Seat}
use Rattle.rh_tasks.specs.declared.seat.SentLetter.{SentLetter}

-- the letter is the last that the task sent
abbrev pub with_last : Letter → ℕ → Seat → Seat
with_last letter my_ref s = record s { last_sent = Some (record { letter = letter; my_ref = my_ref }) }

abbrev pub from_last : ℕ → Option SentLetter → Granted Letter
from_last from None = Err NothingSent
from_last from (Some sent) = Ok (record sent.letter { from = from })

-- the last letter that the task sent, from it
abbrev pub again : Seat → Granted Letter
again s = from_last s.handle s.last_sent
