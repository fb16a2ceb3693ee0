-- What a script writes. Read Runs, Line and Text first.
-- d is a desk, l a line without its line feed, b a byte, c a command; bs are the bytes behind b, ls the lines behind l.
use Rattle.std.specs.Prelude.{ℕ, Bool, ◌||◌, not, List, [], ◌∷◌, ◌++◌, length, nat_lt, ◌==◌, if◌then◌else◌, Option, Some, None, Ok, Err, is_err}
use Rattle.std.specs.List.{list_any, filter_map}
use Rattle.rh_defs.specs.declared.command.Command.{Command}
use Rattle.rh_defs.specs.declared.fault.LineFault.TheVariants.{TooLong, Unended}
use Rattle.rh_defs.specs.Line.{Meaning, line_means, longest_line}
use Rattle.rh_defs.specs.Desk.{Desk}
use Rattle.rh_defs.specs.Commands.{step}
use Rattle.rh_defs.specs.Text.{reply_text, with_taken, taken_of, fault_text}

-- a byte at the head of the first of these lines
abbrev pub onto_line : ℕ → List (List ℕ) → List (List ℕ)
onto_line b [] = []
onto_line b (l ∷ ls) = (b ∷ l) ∷ ls

-- the lines that end with a line feed, without it
abbrev pub ended : List ℕ → List (List ℕ)
ended [] = []
ended (b ∷ bs) = if b == 10 then [] ∷ ended bs else onto_line b (ended bs)

-- the bytes after the last line feed
abbrev pub unended_after : ℕ → List ℕ → List (List ℕ) → List ℕ → List ℕ
unended_after b bs [] rest = b ∷ bs
unended_after b bs (l ∷ ls) rest = rest

abbrev pub unended : List ℕ → List ℕ
unended [] = []
unended (b ∷ bs) = unended_after b bs (ended (b ∷ bs)) (unended bs)

-- the reply to what a line means
abbrev pub meaning_text : Desk → Meaning (Option Command) → List ℕ
meaning_text d (Ok None) = []
meaning_text d (Ok (Some c)) = with_taken (reply_text (step d c).0 c (step d c).1) (taken_of d c)
meaning_text d (Err fault) = fault_text fault

-- the desk after it
abbrev pub meaning_desk : Desk → Meaning (Option Command) → Desk
meaning_desk d (Ok None) = d
meaning_desk d (Ok (Some c)) = (step d c).0
meaning_desk d (Err fault) = d

abbrev pub line_text : Desk → List ℕ → List ℕ
line_text d line = meaning_text d (line_means line)

abbrev pub line_desk : Desk → List ℕ → Desk
line_desk d line = meaning_desk d (line_means line)

-- the replies of lines, in order
abbrev pub lines_text : Desk → List (List ℕ) → List ℕ
lines_text d [] = []
lines_text d (l ∷ ls) = line_text d l ++ lines_text (line_desk d l) ls

-- the desk after them
abbrev pub lines_desk : Desk → List (List ℕ) → Desk
lines_desk d [] = d
lines_desk d (l ∷ ls) = lines_desk (line_desk d l) ls

-- the reply to a line that was cut
abbrev pub rest_text : List ℕ → List ℕ
rest_text [] = []
rest_text (b ∷ bs) = if nat_lt longest_line (length (b ∷ bs)) then fault_text TooLong else fault_text Unended

-- the replies of the complete lines of a script, from a desk on
abbrev pub ended_text : Desk → List ℕ → List ℕ
ended_text d script = lines_text d (ended script)

-- all that a script writes, from a desk on
abbrev pub script_text : Desk → List ℕ → List ℕ
script_text d script = ended_text d script ++ rest_text (unended script)

-- whether a complete line is bad
abbrev pub is_bad : List ℕ → Bool
is_bad line = is_err (line_means line)

-- whether a line of a script is bad; one that was cut always is
abbrev pub has_bad_line : List ℕ → Bool
has_bad_line script = list_any is_bad (ended script) || not (length (unended script) == 0)

-- the commands that lines spell, in order
abbrev pub commands_in : List (List ℕ) → List Command
commands_in lines = filter_map (λ line. spelled (line_means line)) lines
  where
    spelled : Meaning (Option Command) → Option Command
    spelled (Ok c) = c
    spelled (Err fault) = None
