-- What a pen knows of its writer.
use Rattle.std.specs.Prelude.{◌≡◌, ℕ, List, length, Option}
use Rattle.rh_lines.specs.Flow.{count_after}

-- so many bytes more were counted, where they are
abbrev pub Counts : Option ℕ → Option ℕ → List ℕ → Type 0
Counts old new bytes = new ≡ count_after old (length bytes)
