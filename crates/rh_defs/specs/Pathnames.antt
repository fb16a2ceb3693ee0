-- The names that messages carry. Nothing is to be read before; b is a byte.
use Rattle.std.specs.Prelude.{ℕ, Bool, ◌&&◌, nat_lt, nat_le, List, length}
use Rattle.std.specs.List.{list_all}
use Rattle.rh_defs.specs.declared.sizes.TheConstants.{LONGEST_PATHNAME}

-- the most bytes of a name in a message
abbrev pub most_pathname : ℕ
most_pathname = LONGEST_PATHNAME

-- no byte is 0
abbrev pub is_plain : List ℕ → Bool
is_plain name = list_all (λ b. nat_lt 0 b) name

-- whether bytes are a name that a message can carry
abbrev pub is_pathname : List ℕ → Bool
is_pathname name = nat_le (length name) most_pathname && is_plain name
