-- What a line of a script means: a command, nothing, or its first fault. Read Chain, Forms and Grammar first.
-- words are the words of a line, w is one of them, n its number, counted from 1, or how many words are read; c a byte.
-- A word past the end has no bytes, and no form takes it; its first byte is 0. `-` of naturals doesn't have to stop.
use Rattle.std.specs.Prelude.{ℕ, zero, suc, ◌+◌, ◌*◌, ◌-◌, ℤ, pos, negsuc, Bool, true, false, ◌&&◌, ◌||◌, not, nat_le, nat_lt, ◌==◌, List, [], ◌∷◌, length, filter, fold, drop, slice_index, slice_get, unwrap_or, Option, Some, None, Result, Ok, Err, if◌then◌else◌}
use Rattle.std.specs.List.{slice_split, list_all}
use Rattle.std.specs.Str.{bytes_eq}
use Rattle.std.specs.Result.{result_ok}
use Rattle.hex.specs.Hex.{decode_of, hex_digit_value, is_hex_digit}
use Rattle.rh_defs.specs.Bytes.{space}
use Rattle.rh_defs.specs.Chain.{◌>>=◌}
use Rattle.rh_defs.specs.declared.command.Command.{Command}
use Rattle.rh_defs.specs.declared.fault.LineFault.{LineFault}
use Rattle.rh_defs.specs.declared.fault.LineFault.TheVariants.{TooLong, Unknown, Count, Word}
use Rattle.rh_defs.specs.declared.sizes.TheConstants.{GREATEST_NUMBER, LONGEST_LINE}
use Rattle.rh_defs.specs.OtherBodies.{is_whole}
use Rattle.rh_defs.specs.Forms.{is_name, is_decimal, is_leaf, number_of, last_ref}
use Rattle.rh_defs.specs.Grammar.{Form, Name, Leaf, Number, Ref, Delta, Address, Bytes, Data, Choice, Choices, Maybe, Third, First, Middle, Last, Value, Maker, GrammarRow, rows}

-- what a part of a line means, or its fault
abbrev pub Meaning : Type 0 → Type 0
Meaning A = Result A LineFault

-- a line has at most so many bytes before its line feed
abbrev pub longest_line : ℕ
longest_line = LONGEST_LINE

-- the words of a line, which spaces part
abbrev pub words_of : List ℕ → List (List ℕ)
words_of line = filter (λ w. not (length w == 0)) (slice_split (λ b. b == space) line)

-- word n, counted from 1, or no bytes
abbrev pub nth_word : List (List ℕ) → ℕ → List ℕ
nth_word words n = unwrap_or (slice_get words (n - 1)) []

-- word n as a name
unfoldable pub name_at : List (List ℕ) → ℕ → Meaning (List ℕ)
name_at words n = let w = nth_word words n in if is_name w then Ok w else Err (Word n)

-- word n as a decimal number from low to high
unfoldable pub number_at : List (List ℕ) → ℕ → ℕ → ℕ → Meaning ℕ
number_at words n low high =
    let w = nth_word words n in
    if is_decimal w && nat_le low (number_of w) && nat_le (number_of w) high then Ok (number_of w) else Err (Word n)

-- a magnitude with its sign; 0 has none
abbrev pub signed : Bool → ℕ → ℤ
signed false n = pos n
signed true zero = pos zero
signed true (suc n) = negsuc n

-- whether a word begins with `-`, and what stands behind it
abbrev pub is_negative : List ℕ → Bool
is_negative w = slice_index w 0 == 45

abbrev pub unsigned : List ℕ → List ℕ
unsigned w = if is_negative w then drop 1 w else w

-- word n as a decimal number, with `-` before it or not
unfoldable pub delta_at : List (List ℕ) → ℕ → Meaning ℤ
delta_at words n =
    let w = nth_word words n in
    if is_decimal (unsigned w) && nat_le (number_of (unsigned w)) GREATEST_NUMBER
    then Ok (signed (is_negative w) (number_of (unsigned w)))
    else Err (Word n)

-- `&`, and 1 to 8 hexadecimal digits of either case
unfoldable pub is_address : List ℕ → Bool
is_address w =
    slice_index w 0 == 38 && nat_le 2 (length w) && nat_le (length w) 9 && list_all is_hex_digit (drop 1 w)

-- the number that hexadecimal digits spell
abbrev pub hex_number : List ℕ → ℕ
hex_number digits = fold (λ n c. 16 * n + unwrap_or (hex_digit_value c) 0) 0 digits

-- word n as an address
unfoldable pub address_at : List (List ℕ) → ℕ → Meaning ℕ
address_at words n = let w = nth_word words n in if is_address w then Ok (hex_number (drop 1 w)) else Err (Word n)

-- word n as a leafname
unfoldable pub leaf_at : List (List ℕ) → ℕ → Meaning (List ℕ)
leaf_at words n = let w = nth_word words n in if is_leaf w then Ok w else Err (Word n)

-- word n as one of two words: whether it is the first
unfoldable pub choice_at : List (List ℕ) → ℕ → List ℕ → List ℕ → Meaning Bool
choice_at words n first second =
    if bytes_eq (nth_word words n) first then Ok true
    else if bytes_eq (nth_word words n) second then Ok false
    else Err (Word n)

-- word n as hexadecimal digits of either case, two for each byte, at least one byte
unfoldable pub bytes_read_at : List (List ℕ) → ℕ → Meaning (List ℕ)
bytes_read_at words n = let w = nth_word words n in bytes_if n (nat_le 1 (length w)) (result_ok (decode_of w))
  where
    bytes_if : ℕ → Bool → Option (List ℕ) → Meaning (List ℕ)
    bytes_if n true (Some bytes) = Ok bytes
    bytes_if n _ _ = Err (Word n)

-- word n as the data of a message: hexadecimal digits of whole words, at least one
unfoldable pub data_read_at : List (List ℕ) → ℕ → Meaning (List ℕ)
data_read_at words n = bytes_read_at words n >>= λ bytes. (if is_whole bytes then Ok bytes else Err (Word n))

-- word n as one of three words
unfoldable pub choices_at : List (List ℕ) → ℕ → List ℕ → List ℕ → List ℕ → Meaning Third
choices_at words n first second third =
    if bytes_eq (nth_word words n) first then Ok First
    else if bytes_eq (nth_word words n) second then Ok Middle
    else if bytes_eq (nth_word words n) third then Ok Last
    else Err (Word n)

-- ---- the commands, by the rows of the table

-- word n as a form says; one that may be left out is the last, and is left out where the line ends before it
abbrev pub value_at : (form : Form) → List (List ℕ) → ℕ → Meaning (Value form)
value_at Name words n = name_at words n
value_at Leaf words n = leaf_at words n
value_at (Number low high) words n = number_at words n low high
value_at Ref words n = number_at words n 1 last_ref
value_at Delta words n = delta_at words n
value_at Address words n = address_at words n
value_at Bytes words n = bytes_read_at words n
value_at Data words n = data_read_at words n
value_at (Choice first second) words n = choice_at words n first second
value_at (Choices first second third) words n = choices_at words n first second third
value_at (Maybe form) words n =
    if length words == n - 1 then Ok None else (value_at form words n >>= λ value. Ok (Some value))

-- the command made of the words behind the first n
abbrev pub command_from : (forms : List Form) → Maker forms → List (List ℕ) → ℕ → Meaning Command
command_from [] command words n = Ok command
command_from (form ∷ forms) make words n =
    value_at form words (n + 1) >>= λ value. command_from forms (make value) words (n + 1)

-- whether a line with so many words has just one for each form behind the first n
abbrev pub is_count : List Form → ℕ → ℕ → Bool
is_count [] n count = count == n
is_count (Maybe form ∷ forms) n count = count == n || is_count forms (n + 1) count
is_count (form ∷ forms) n count = is_count forms (n + 1) count

-- whether these words stand behind the first n
abbrev pub follow : List (List ℕ) → List (List ℕ) → ℕ → Bool
follow [] words n = true
follow (text ∷ texts) words n = bytes_eq (nth_word words (n + 1)) text && follow texts words (n + 1)

-- the fault where a first word of several commands has none of their second words behind it
abbrev pub second_fault : List (List ℕ) → LineFault
second_fault words = if length words == 1 then Count else Word 2

-- the row of a line that begins with this word, or its fault, which is the given one where no row begins with it
abbrev pub grammar_row : List GrammarRow → List ℕ → List (List ℕ) → LineFault → Meaning GrammarRow
grammar_row [] first words fault = Err fault
grammar_row (row ∷ rows) first words fault =
    if bytes_eq first row.first && follow row.further words 1 then Ok row
    else grammar_row rows first words (if bytes_eq first row.first then second_fault words else fault)

-- the command of a row, where the line has as many words as the row
abbrev pub row_means : GrammarRow → List (List ℕ) → Meaning Command
row_means row words =
    let named = 1 + length row.further in
    if is_count row.forms named (length words) then command_from row.forms row.make words named else Err Count

-- the command of a line that begins with this word
unfoldable pub command_by : List ℕ → List (List ℕ) → Meaning Command
command_by first words = grammar_row rows first words Unknown >>= λ row. row_means row words

-- the command that a line's words spell
abbrev pub command_of : List (List ℕ) → Meaning Command
command_of words = command_by (nth_word words 1) words

-- a line without words, or whose first word begins with `#`
abbrev pub is_skipped : List (List ℕ) → Bool
is_skipped words = slice_index (nth_word words 1) 0 == 35 || length words == 0

-- a complete line without its line feed; a line that is cut is not seen here
unfoldable pub line_means : List ℕ → Meaning (Option Command)
line_means line =
    if nat_lt longest_line (length line) then Err TooLong
    else if is_skipped (words_of line) then Ok None
    else (command_of (words_of line) >>= λ c. Ok (Some c))
