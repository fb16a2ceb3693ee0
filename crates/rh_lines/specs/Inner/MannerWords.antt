-- The manner that a word of a line names.
use Rattle.std.specs.Prelude.{Option, Ok}
use Rattle.rh_defs.specs.declared.command.Manner.{Manner}
use Rattle.rh_defs.specs.Chain.{◌>>=◌}
use Rattle.rh_defs.specs.Grammar.{Third, manner_of}
use Rattle.rh_defs.specs.Line.{Meaning}

-- the manner that a word means, or its fault
abbrev pub manner_meant : Meaning (Option Third) → Meaning Manner
manner_meant word = word >>= λ which. Ok (manner_of which)
