-- What helps where words are wrong, and what is told of them. Word 1 is the program's own name, word 2 its command.
use Rattle.std.specs.Prelude.{ℕ, Bool, false, ◌==◌, ◌&&◌, ◌||◌, not, nat_lt, if◌then◌else◌, List, [], ◌∷◌, ◌++◌, codes, drop, length, slice_index, slice_index_or, Option, None, Some}
use Rattle.std.specs.List.{list_any, starts_with}
use Rattle.std.specs.Option.{option_or}
use Rattle.std.specs.Str.{bytes_eq}
use Rattle.clap.specs.declared.error.kind.ErrorKind.{ErrorKind}
use Rattle.clap.specs.declared.error.kind.ErrorKind.TheVariants as kind
use Rattle.rh_defs.specs.Line.{nth_word}
use Rattle.rh_explained.specs.ShownBytes.{shown}
use Rattle.rh_desk.specs.declared.hint.Hint.{Hint}
use Rattle.rh_desk.specs.declared.hint.Hint.TheVariants.{RunScript, CommandsOfHelp, OneOfHelp, OptionBehind, Marked, Slot, Pages, Output, OneFile}

-- whether a word begins as options do
abbrev pub is_option : List ℕ → Bool
is_option w = nat_lt 1 (length w) && slice_index w 0 == 45

-- whether a word has what paths have and commands don't
abbrev pub is_path : List ℕ → Bool
is_path w = list_any (λ b. b == 46) w || list_any (λ b. b == 47) w

-- what helps with a word that is an option of other commands
abbrev pub of_option : List ℕ → List ℕ → Option Hint
of_option verb w =
    if bytes_eq w (codes "--marked") && not (bytes_eq verb (codes "map") || bytes_eq verb (codes "draw")) then Some Marked
    else if bytes_eq w (codes "--slot") && not (bytes_eq verb (codes "check")) then Some Slot
    else if bytes_eq w (codes "--pages") && bytes_eq verb (codes "check") then Some Pages
    else if bytes_eq w (codes "-o") || bytes_eq w (codes "--output") then Some Output
    else None

-- what helps at the first option that belongs elsewhere; `check` takes no second file
abbrev pub of_options : List ℕ → List (List ℕ) → Option Hint
of_options verb [] = if bytes_eq verb (codes "check") then Some OneFile else None
of_options verb (w ∷ ws) = option_or (of_option verb w) (of_options verb ws)

-- what helps, by the kind of the mistake
abbrev pub hint_of : ErrorKind → List (List ℕ) → Option Hint
hint_of kind.InvalidSubcommand words =
    Some (if not (bytes_eq (nth_word words 2) (codes "help")) then RunScript
    else if nat_lt 3 (length words) then OneOfHelp else CommandsOfHelp)
hint_of kind.UnknownArgument words =
    if is_option (nth_word words 2) then Some OptionBehind else of_options (nth_word words 2) words
hint_of k words = None

-- the line that says so, where word 2 may be a script
abbrev pub hint_text : Hint → List ℕ → List ℕ
hint_text RunScript verb = codes "  to run a script: vervainfile run " ++ (shown verb ++ codes "\n")
hint_text CommandsOfHelp verb = codes "  help has run, explain, map, draw, check and commands of scripts, as alloc\n"
hint_text OneOfHelp verb = codes "  help has one command behind it, as alloc or rma claim\n"
hint_text OptionBehind verb = codes "  options stand behind the command, as in run --pages 8 hello.desk\n"
hint_text Marked verb = codes "  --marked belongs to map and draw\n"
hint_text Slot verb = codes "  --slot belongs to check\n"
hint_text Pages verb = codes "  --pages belongs to run, explain, map and draw\n"
hint_text Output verb = codes "  what is written goes to standard output: add >FILE\n"
hint_text OneFile verb = codes "  one file is checked\n"

abbrev pub hint_line : Option Hint → List ℕ → List ℕ
hint_line None verb = []
hint_line (Some hint) verb = hint_text hint verb

-- whether a hint is about a script that stands in a command's place, by its path
abbrev pub is_for_script : Option Hint → List ℕ → Bool
is_for_script (Some RunScript) verb = is_path verb
is_for_script hint verb = false

-- whether a line begins so
abbrev pub begins_with : List ℕ → List ℕ → Bool
begins_with front line = starts_with (λ a b. a == b) line front

-- whether a line is a tip that leads away from what was perhaps meant: to a script of an option's name, or from a script
-- to a command
abbrev pub misleads : Bool → List ℕ → Bool
misleads for_script line =
    begins_with (codes "  tip: to pass ") line
    || (for_script && (begins_with (codes "  tip: a similar subcommand ") line || begins_with (codes "  tip: some similar subcommands ") line))

-- a byte at the head of the first of these lines, or alone on a line
abbrev pub onto_text : ℕ → List (List ℕ) → List (List ℕ)
onto_text b [] = (b ∷ []) ∷ []
onto_text b (l ∷ ls) = (b ∷ l) ∷ ls

-- the lines of a text, of which the last may have no line feed
abbrev pub text_lines : List ℕ → List (List ℕ)
text_lines [] = []
text_lines (b ∷ bs) = if b == 10 then [] ∷ text_lines bs else onto_text b (text_lines bs)

-- a line as it is told
abbrev pub line_told : List ℕ → List ℕ
line_told line = shown line ++ codes "\n"

-- whether a line isn't told: a tip that leads away, or an empty line behind an empty one
abbrev pub is_left_out : Bool → Bool → List ℕ → Bool
is_left_out for_script was_empty line = misleads for_script line || (was_empty && length line == 0)

-- lines as they are told
abbrev pub told_lines : Bool → Bool → List (List ℕ) → List ℕ
told_lines for_script was_empty [] = []
told_lines for_script was_empty (l ∷ ls) =
    if is_left_out for_script was_empty l then told_lines for_script was_empty ls
    else line_told l ++ told_lines for_script (length l == 0) ls

-- what is told of a mistake: the first line of what `clap` says of it, below that what helps, and then the other lines
abbrev pub mistake_text : Option Hint → List ℕ → List ℕ → List ℕ
mistake_text hint verb text =
    line_told (slice_index_or (text_lines text) 0 [])
    ++ (hint_line hint verb ++ told_lines (is_for_script hint verb) false (drop 1 (text_lines text)))
