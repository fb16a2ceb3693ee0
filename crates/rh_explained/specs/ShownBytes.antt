-- Bytes of a script as they are shown: no control byte reaches a terminal.
use Rattle.std.specs.Prelude.{ℕ, nat_lt, if◌then◌else◌, List, [], ◌∷◌, ◌++◌, flat_map, length, take, codes}
use Rattle.std.specs.Char.{is_ascii_control}
use Rattle.hex.specs.Hex.{encode_lower}

-- a control byte as `\x` and its two digits, any other as it is
abbrev pub shown_byte : ℕ → List ℕ
shown_byte b = if is_ascii_control b then codes "\\x" ++ encode_lower (b ∷ []) else b ∷ []

-- bytes as they are shown
abbrev pub shown : List ℕ → List ℕ
shown bytes = flat_map shown_byte bytes

-- at most so many first bytes as they are shown, and two points where there are more
abbrev pub shown_front : ℕ → List ℕ → List ℕ
shown_front most bytes =
    shown (take most bytes) ++ (if nat_lt most (length bytes) then codes ".." else [])
