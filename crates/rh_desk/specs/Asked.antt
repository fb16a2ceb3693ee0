-- What words stand for before `clap` looks at them. Word 1 is the program's own name, word 2 its command.
use Rattle.std.specs.Prelude.{ℕ, Bool, ◌==◌, ◌&&◌, ◌||◌, not, if◌then◌else◌, List, [], codes, drop, length, Option, None}
use Rattle.std.specs.Str.{bytes_eq}
use Rattle.rh_defs.specs.Line.{nth_word}
use Rattle.rh_explained.specs.CommandKinds.{kind_named}
use Rattle.rh_explained.specs.declared.command_kind.CommandKind.{CommandKind}

-- the command of a script whose help is asked for: its word behind `help`, or `rma` and another
abbrev pub kind_asked : List (List ℕ) → Option CommandKind
kind_asked words =
    if not (bytes_eq (nth_word words 2) (codes "help")) then None
    else if length words == 3 then kind_named (nth_word words 3) []
    else if length words == 4 && bytes_eq (nth_word words 3) (codes "rma") then kind_named (nth_word words 3) (nth_word words 4)
    else None

-- whether a word is one of the program's commands
abbrev pub is_verb : List ℕ → Bool
is_verb w =
    bytes_eq w (codes "run") || bytes_eq w (codes "explain") || bytes_eq w (codes "map") || bytes_eq w (codes "draw")
    || bytes_eq w (codes "check") || bytes_eq w (codes "help")

-- whether a word behind a command is about the program: its version, and behind `help` its help
abbrev pub is_of_program : List ℕ → List ℕ → Bool
is_of_program verb w =
    (is_verb verb && (bytes_eq w (codes "--version") || bytes_eq w (codes "-V")))
    || (bytes_eq verb (codes "help") && (bytes_eq w (codes "--help") || bytes_eq w (codes "-h")))

-- the words as they are meant: the program takes what is about itself right behind its name
abbrev pub meant_words : List (List ℕ) → List (List ℕ)
meant_words words =
    if length words == 3 && is_of_program (nth_word words 2) (nth_word words 3) then drop 1 words else words
