-- Which bytes a message of one of the six kinds has, and which only another one has. Read Pieces first.
-- a is the number of an action, bytes the ones behind it in a message block.
use Rattle.std.specs.Prelude.{ℕ, ◌+◌, ◌%◌, Bool, false, not, ◌&&◌, ◌||◌, nat_le, nat_lt, ◌==◌, if◌then◌else◌, List, length, drop, Option, Some, None}
use Rattle.std.specs.List.{list_all, position}
use Rattle.rh_defs.specs.declared.sizes.TheConstants.{LONGEST_DATA}
use Rattle.rh_defs.specs.Pieces.{round_up}

-- whole words, as many as a message block has room for
abbrev pub is_whole : List ℕ → Bool
is_whole bytes = length bytes % 4 == 0 && nat_le (length bytes) LONGEST_DATA

-- whether a name of so many bytes ends these: its zero byte, and zeros up to whole words
abbrev pub ends_at : List ℕ → Option ℕ → Bool
ends_at bytes None = false
ends_at bytes (Some n) = length bytes == round_up 4 (n + 1) && list_all (λ b. b == 0) (drop n bytes)

-- whether a name ends these bytes
abbrev pub is_name_data : List ℕ → Bool
is_name_data bytes = ends_at bytes (position (λ b. b == 0) bytes)

-- whether they are six words and a name
abbrev pub is_file_data : List ℕ → Bool
is_file_data bytes = nat_lt 24 (length bytes) && is_name_data (drop 24 bytes)

-- whether a message of one of the six kinds has just this action and data
abbrev pub is_exact : ℕ → List ℕ → Bool
is_exact a bytes =
    if a == 6 || a == 7 then length bytes == 8
    else nat_le 1 a && nat_le a 4 && is_file_data bytes

-- what only another message has
abbrev pub is_other : ℕ → List ℕ → Bool
is_other a bytes = is_whole bytes && not (is_exact a bytes)
