-- The manner of a new task, read before its command is made.
use Rattle.std.proofs.Common.{◌≡◌, ℕ, List, refl}
use Rattle.std.specs.Prelude.{Option, Ok, Err}
use Rattle.rh_defs.specs.Chain.{◌>>=◌}
use Rattle.rh_defs.specs.Grammar.{Third, manner_of}
use Rattle.rh_defs.specs.Line.{Meaning}
use Rattle.rh_defs.specs.declared.command.Command.TheVariants.{Task}
use Rattle.rh_lines.specs.Inner.MannerWords.{manner_meant}

pub by_manner : (word : Meaning (Option Third)) (name : List ℕ) (buffer : ℕ)
    → (word >>= λ which. Ok (Task name buffer (manner_of which))) ≡ (manner_meant word >>= λ manner. Ok (Task name buffer manner))
unfolding ◌>>=◌
by_manner (Ok which) name buffer = refl
by_manner (Err fault) name buffer = refl
