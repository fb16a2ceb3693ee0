-- Commands for a first desk.
use Rattle.std.specs.Prelude.{ℕ, List, [], ◌∷◌}
use Rattle.rh_defs.specs.declared.command.Command.{Command}
use Rattle.rh_defs.specs.declared.command.Command.TheVariants.{Task, Alloc, Claim}
use Rattle.rh_defs.specs.declared.command.Manner.TheVariants.{Plain}

-- the name a
abbrev pub the_name : List ℕ
the_name = 97 ∷ []

-- a task with a buffer of 100 bytes, a flex block of 5 bytes at its anchor 0, and 4,000 bytes of its C heap
abbrev pub the_commands : List Command
the_commands = Task the_name 100 Plain ∷ Alloc the_name 0 5 ∷ Claim the_name 4000 ∷ []
