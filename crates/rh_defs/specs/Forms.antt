-- The forms of names and numbers. Each is a test of a word w of a line, or of a number n of a command.
-- k is an anchor, c a byte. A byte of a word without bytes is 0, which is neither a letter nor a digit.
-- In *number_of* c is a digit, at least 48, for which `-` doesn't have to stop.
use Rattle.std.specs.Prelude.{ℕ, ◌+◌, ◌*◌, ◌-◌, ℤ, pos, negsuc, Bool, ◌&&◌, nat_le, nat_lt, slice_index, List, length, fold}
use Rattle.std.specs.List.{list_all}
use Rattle.std.specs.Char.{is_ascii_alphabetic, is_ascii_alphanumeric, is_ascii_digit}
use Rattle.rh_defs.specs.declared.sizes.TheConstants.{ANCHORS, FIRST_MADE, GREATEST_NUMBER, LAST_AREA, LONGEST_LEAF, LONGEST_NAME, MAX_PAGES}

-- an ASCII letter, and then up to 11 ASCII letters or digits
abbrev pub is_name : List ℕ → Bool
is_name w =
    nat_le 1 (length w) && nat_le (length w) LONGEST_NAME && is_ascii_alphabetic (slice_index w 0)
    && list_all is_ascii_alphanumeric w

-- one of a slot's anchors
abbrev pub is_anchor : ℕ → Bool
is_anchor k = nat_lt k ANCHORS

-- a size or an offset of a line
abbrev pub is_number : ℕ → Bool
is_number n = nat_le n GREATEST_NUMBER

-- a signed amount of a line
abbrev pub is_delta : ℤ → Bool
is_delta (pos n) = nat_le n GREATEST_NUMBER
is_delta (negsuc n) = nat_lt n GREATEST_NUMBER

-- a byte of a leafname
abbrev pub is_graphic : ℕ → Bool
is_graphic b = nat_le 0x21 b && nat_le b 0x7e

-- 1 to 10 bytes from &21 to &7E
abbrev pub is_leaf : List ℕ → Bool
is_leaf leaf = nat_le 1 (length leaf) && nat_le (length leaf) LONGEST_LEAF && list_all is_graphic leaf

-- the last ref that a message can have
abbrev pub last_ref : ℕ
last_ref = 4294967295

-- the number of the first made area, and that of the last one
abbrev pub first_made : ℕ
first_made = FIRST_MADE

abbrev pub last_made : ℕ
last_made = LAST_AREA

-- the most pages of a pool, and of a made area
abbrev pub most_pages : ℕ
most_pages = MAX_PAGES

-- 1 to 10 decimal digits
unfoldable pub is_decimal : List ℕ → Bool
is_decimal w = list_all is_ascii_digit w && nat_le 1 (length w) && nat_le (length w) 10

-- the number that decimal digits spell
abbrev pub number_of : List ℕ → ℕ
number_of w = fold (λ n c. 10 * n + (c - 48)) 0 w
