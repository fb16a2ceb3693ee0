-- Lines, and the texts of their replies in lent bytes.
use Rattle.std.specs.Prelude.{◌≡◌, ◌≢◌, ℕ, nat_le, if◌then◌else◌, List, [], length, Option, Some, None}
use Rattle.vf_desk.specs.Console.{with_text}
use Rattle.vf_desk.specs.Said.{said_text}
use Rattle.vf_desk.specs.declared.console.Console.{Console}
use Rattle.rh_defs.specs.Desk.{Desk}
use Rattle.rh_defs.specs.Script.{line_desk, line_text}
use Rattle.vf_desk.specs.declared.open_desk.OpenDesk.{OpenDesk}
use Rattle.vf_desk.specs.SeenDesk.{SeenBy, console_in, files_in}
use Rattle.vf_desk.specs.DeskStatus.{closed_status, short}

-- the desk after a line, where it is open and seen as this one, or closed
abbrev pub desk_after : Option Desk → List ℕ → Option Desk
desk_after None line = None
desk_after (Some d) line = Some (line_desk d line)

-- whether a line is taken
abbrev pub line_status : Option Desk → ℕ
line_status None = closed_status
line_status (Some d) = 0

-- the text of the reply that is kept, over a desk
abbrev pub kept_text : Option Console → Desk → List ℕ
kept_text None d = []
kept_text (Some console) d = said_text d console.said

-- A line is taken: the desk is the one after it, and its reply is kept. Where the desk isn't open all stays.
pub record TakesLine (line : List ℕ) (old new : Option OpenDesk) (status : ℕ) : Type 0 where
  pub status_is : (s : Option Desk) → SeenBy (console_in old) s → status ≡ line_status s
  pub desk : (s : Option Desk) → SeenBy (console_in old) s → SeenBy (console_in new) (desk_after s line)
  pub kept : (d : Desk) → SeenBy (console_in old) (Some d) →
      kept_text (console_in new) (line_desk d line) ≡ line_text d line
  pub files : files_in new ≡ files_in old
  pub refused : status ≢ 0 → new ≡ old

-- Lent bytes have a text in place of their first ones, and its length is told. Where they have no room for it the status
-- says so, and they and the number that was told before stay.
pub record Fills (text before after : List ℕ) (was now status : ℕ) : Type 0 where
  pub bytes_are : after ≡ with_text text before
  pub length_is : now ≡ (if nat_le (length text) (length before) then length text else was)
  pub status_is : status ≡ (if nat_le (length text) (length before) then 0 else short)

-- nothing is told of a desk that isn't open
pub record Stays (before after : List ℕ) (was now status : ℕ) : Type 0 where
  pub status_is : status ≡ closed_status
  pub bytes : after ≡ before
  pub length_is : now ≡ was

-- Lent bytes have the text of the reply that is kept, over the desk as it is.
pub record Replies (held : Option OpenDesk) (before after : List ℕ) (was now status : ℕ) : Type 0 where
  pub fills : (d : Desk) → SeenBy (console_in held) (Some d) →
      Fills (kept_text (console_in held) d) before after was now status
  pub stays : SeenBy (console_in held) None → Stays before after was now status
