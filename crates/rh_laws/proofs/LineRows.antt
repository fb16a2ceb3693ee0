-- The printed line of each command means the command.
use Rattle.rh_laws.proofs.Common.{◌≡◌, ℕ, Bool, true, false, ◌&&◌, List, [], ◌∷◌, ◌++◌, length, refl, ap, ◌∙◌, nat_le, ◌==◌, arith, nat_tests}
use Rattle.rh_laws.proofs.Common.{slice_index, Some, Ok, join_with_byte, Command, Unknown}
use Rattle.rh_laws.proofs.Common.{space, GrammarRow, rows, grammar_row, is_skipped, longest_line, line_means, in_range, and_left, and_right}
use Rattle.rh_defs.specs.declared.command.Command.TheVariants as command
use Rattle.rh_defs.specs.declared.raw_command.RawCommand.{RawCommand}
use Rattle.rh_defs.specs.declared.raw_command.RawCommand.TheVariants as raw
use Rattle.rh_defs.specs.declared.question.Question.{Question}
use Rattle.rh_defs.specs.declared.question.Question.TheVariants as question
use Rattle.rh_defs.specs.Grammar.{Form, Values, Spelling, spelled_by, spelling, question_spelling, raw_spelling}
use Rattle.rh_defs.specs.Range.{is_of, all_of, can_be_read}
use Rattle.rh_defs.proofs.GrammarLaws.{made, made_of, spelling-made}
use Rattle.rh_laws.specs.Printer.{texts, words_spelled, command_words, is_sized, are_sized, is_typed, has_sizes, line_of, fits_a_line, AreRead}
use Rattle.rh_laws.proofs.Texts.{are_readable, is_clear_row, row_spells}
use Rattle.rh_laws.proofs.Words.{line_joined}

-- what is found of a row and its values by computing: the words are told apart, no comment, and those of this row alone
record HasRow (row : GrammarRow) (values : Values row.forms) : Type 0 where
  clear : is_clear_row row ≡ true
  said : (slice_index row.first 0 == 35) ≡ false
  found : grammar_row rows row.first (words_spelled (spelled_by row values)) Unknown ≡ Ok row

not-skipped : (w : List ℕ) (ws : List (List ℕ)) → (slice_index w 0 == 35) ≡ false → is_skipped (w ∷ ws) ≡ false
not-skipped w ws h =
    let some : (length (w ∷ ws) == 0) ≡ false = grind (arith, nat_tests) in rw (h, some) refl

abbrev Stands : Spelling → Type 0
Stands (spelled_by row values) = HasRow row values

asked-stands : (q : Question) → Stands (question_spelling q)
unfolding rows
asked-stands (question.Show name k) = record { clear = refl; said = refl; found = refl }
asked-stands q = record { clear = refl; said = refl; found = refl }

raw-stands : (c : RawCommand) → Stands (raw_spelling c)
unfolding rows
raw-stands (raw.Ack name) = record { clear = refl; said = refl; found = refl }
raw-stands c = record { clear = refl; said = refl; found = refl }

command-stands : (c : Command) → Stands (spelling c)
unfolding rows
command-stands (command.Ask q) = asked-stands q
command-stands (command.Raw c) = raw-stands c
command-stands c = record { clear = refl; said = refl; found = refl }

-- ---- values that are read again

-- what was tested before is true
tested-first : (forms : List Form) (values : Values forms) (tested : Bool) → all_of tested forms values ≡ true → tested ≡ true
tested-first [] values tested h = h
tested-first (form ∷ forms) values tested h =
    and_left tested (is_of form values.0) (tested-first forms values.1 (tested && is_of form values.0) h)

both : {a b : Bool} → a ≡ true → b ≡ true → (a && b) ≡ true
both p q = rw (p, q) refl

all-readable : (forms : List Form) (values : Values forms) (tested : Bool) → all_of tested forms values ≡ true → are_sized forms values ≡ true
    → are_readable forms values ≡ true
all-readable [] values tested range sizes = refl
all-readable (form ∷ forms) values tested range sizes =
    let here = and_right tested (is_of form values.0) (tested-first forms values.1 (tested && is_of form values.0) range) in
    both (both here (and_left (is_sized form values.0) (are_sized forms values.1) sizes))
    (all-readable forms values.1 (tested && is_of form values.0) range (and_right (is_sized form values.0) (are_sized forms values.1) sizes))

-- ---- the printed line

spelling-read : (s : Spelling) → Stands s → can_be_read s ≡ true → is_typed s ≡ true
    → nat_le (length (join_with_byte space (words_spelled s))) longest_line ≡ true
    → line_means (join_with_byte space (words_spelled s)) ≡ Ok (Some (made_of s))
spelling-read (spelled_by row values) seen range sizes fits =
    let spells = row_spells row values seen.clear seen.found (all-readable row.forms values true range sizes) in
    let skipped = not-skipped row.first (row.further ++ texts row.forms values) seen.said in
    line_joined row.first (row.further ++ texts row.forms values) (made row.forms row.make values) spells.whole fits skipped spells.means

read : (c : Command) → in_range c ≡ true → has_sizes c ≡ true → fits_a_line c ≡ true → line_means (line_of c) ≡ Ok (Some c)
unfolding in_range has_sizes command_words
read c range sizes fits = spelling-read (spelling c) (command-stands c) range sizes fits ∙ ap (λ c. Ok (Some c)) (spelling-made c)

pub are-read : AreRead
are-read c h =
    let front = and_left (in_range c && has_sizes c) (fits_a_line c) h in
    read c (and_left (in_range c) (has_sizes c) front) (and_right (in_range c) (has_sizes c) front)
    (and_right (in_range c && has_sizes c) (fits_a_line c) h)
