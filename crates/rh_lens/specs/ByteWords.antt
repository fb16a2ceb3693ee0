-- Bytes as words in one line. Read Phrases of rh_figure first. bs are bytes, w is a width in units, n a number.
-- `-` of naturals stops at 0: a part that is too narrow has no words.
use Rattle.std.specs.Prelude.{ℕ, ◌-◌, ◌/◌, ◌==◌, nat_le, nat_lt, ◌&&◌, Bool, if◌then◌else◌, List, [], ◌∷◌, ◌++◌, length, take, drop, codes}
use Rattle.std.specs.List.{list_all, flat_map, concat}
use Rattle.hex.specs.Hex.{encode_lower}
use Rattle.rh_defs.specs.Bytes.{space}
use Rattle.rh_figure.specs.Phrases.{Text, cut}
use Rattle.rh_lens.specs.declared.sizes.TheConstants.{LETTER, EDGE}

-- a byte that stands for a letter, a sign or a space
abbrev pub is_printable : ℕ → Bool
is_printable b = nat_le space b && nat_lt b 127

-- the bytes before the first zero
abbrev pub before_zero : List ℕ → List ℕ
before_zero [] = []
before_zero (b ∷ bs) = if b == 0 then [] else b ∷ before_zero bs

abbrev pub is_zero : ℕ → Bool
is_zero b = b == 0

abbrev pub are_zeros : List ℕ → Bool
are_zeros bs = list_all is_zero bs

-- letters, with nothing behind them but zeros
abbrev pub is_text : List ℕ → Bool
is_text bs =
    nat_lt 0 (length (before_zero bs))
    && (list_all is_printable (before_zero bs)
    && are_zeros (drop (length (before_zero bs)) bs))

-- how many letters have room
abbrev pub letters_in : ℕ → ℕ
letters_in w = (w - EDGE) / LETTER

abbrev pub quoted : Text → Text
quoted t = concat (codes "\"" ∷ t ∷ codes "\"" ∷ [])

-- a byte as two digits behind a space
abbrev pub pair_behind : ℕ → Text
pair_behind b = codes " " ++ encode_lower (b ∷ [])

-- each byte as two digits
abbrev pub pairs : List ℕ → Text
pairs [] = []
pairs (b ∷ bs) = encode_lower (b ∷ []) ++ flat_map pair_behind bs

-- as many bytes as have room, and that there are more
abbrev pub first_pairs : ℕ → List ℕ → Text
first_pairs n bs = pairs (take ((n - 2) / 3) bs) ++ codes " .."

-- The first bytes of a block of n, as they stand where so many units have room for them: that all are zeros, a text, or
-- digits. Of a block with more bytes than are read these are never all of it.
abbrev pub byte_choices : ℕ → ℕ → List ℕ → List Text
byte_choices w n bs =
    if length bs == 0 then []
    else if are_zeros bs && length bs == n then codes "all bytes 0" ∷ codes "all 0" ∷ codes "0" ∷ []
    else if is_text bs then quoted (cut (letters_in w - 2) (before_zero bs)) ∷ []
    else pairs bs ∷ first_pairs (letters_in w) bs ∷ []
