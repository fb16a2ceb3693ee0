-- What a write of all bytes tells.
use Rattle.std.proofs.Common.{ℕ, List, Result, Ok, Err}
use Rattle.rh_lines.specs.Flow.{Output, Puts}
use Rattle.rh_desk.specs.Telling.{Tells}

-- all was told, unless a write failed
pub puts_tells : {E : Type 0} {s t : Output} {x : List ℕ} (r : Result Unit E) → Puts s t r x → Tells s t x
puts_tells (Ok v) p h = p.ok
puts_tells (Err e) p h = absurd (let f = p.err.failed in cc)
