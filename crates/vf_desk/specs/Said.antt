-- The text of what a line was answered.
use Rattle.std.specs.Prelude.{ℕ, List, [], ◌++◌, Some}
use Rattle.rh_defs.specs.Desk.{Desk}
use Rattle.rh_defs.specs.Questions as listing
use Rattle.rh_defs.specs.Questions.{asked}
use Rattle.rh_defs.specs.Text.{answer_text, fault_text, first_line, handed_text}
use Rattle.vf_desk.specs.declared.said.Said.{Said}
use Rattle.vf_desk.specs.declared.said.Said.TheVariants as said

-- its text, over the desk after the line
abbrev pub said_text : Desk → Said → List ℕ
said_text d said.Nothing = []
said_text d (said.Fault fault) = fault_text fault
said_text d (said.Reply reply) = first_line reply listing.Nothing
said_text d (said.Handed reply from bytes) = first_line reply listing.Nothing ++ handed_text (Some (from, bytes))
said_text d (said.Told question) = answer_text (asked d question)
