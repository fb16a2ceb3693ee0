-- The help of a command of a script: its forms, what it does, what its words are, and why it may be refused.
use Rattle.std.specs.Prelude.{ℕ, List, ◌++◌, codes, flat_map}
use Rattle.rh_defs.specs.Text.{refusal_name}
use Rattle.rh_defs.specs.declared.refusal.Refusal.{Refusal}
use Rattle.rh_explained.specs.CommandKinds.{forms, word_kinds}
use Rattle.rh_explained.specs.Sentences.{deed, refusals, why_for}
use Rattle.rh_explained.specs.WordKinds.{expected}
use Rattle.rh_explained.specs.declared.command_kind.CommandKind.{CommandKind}
use Rattle.rh_explained.specs.declared.word_kind.WordKind.{WordKind}

-- what a word is, behind two spaces
abbrev pub word_line : WordKind → List ℕ
word_line kind = codes "  " ++ (expected kind ++ codes "\n")

-- a refusal, and when it comes
abbrev pub refusal_line : CommandKind → Refusal → List ℕ
refusal_line kind refusal = codes "  refused " ++ (refusal_name refusal ++ (codes ": " ++ (why_for kind refusal ++ codes "\n")))

-- the help of a kind of command
abbrev pub command_help : CommandKind → List ℕ
command_help kind =
    forms kind ++ (codes "\n" ++ (deed kind ++ (codes "\n"
    ++ (flat_map word_line (word_kinds kind) ++ flat_map (refusal_line kind) (refusals kind)))))
