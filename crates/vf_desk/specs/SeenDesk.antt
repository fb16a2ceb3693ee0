-- The desk that a handle has, as callers see it.
use Rattle.std.specs.Prelude.{◌≡◌, [], Option, Some, None}
use Rattle.rh_defs.specs.Files.{FileList}
use Rattle.rh_defs.specs.Desk.{Desk}
use Rattle.rh_defs.specs.Order.{IsReordered}
use Rattle.vf_desk.specs.declared.console.Console.{Console}
use Rattle.vf_desk.specs.declared.said.Said.{Said}
use Rattle.vf_desk.specs.declared.desk.VfDesk.{VfDesk}
use Rattle.vf_desk.specs.declared.open_desk.OpenDesk.{OpenDesk}

-- the desk of a handle that is open, with the reply of its last line
abbrev pub console_in : Option OpenDesk → Option Console
console_in None = None
console_in (Some open_desk) = open_desk.console

-- the files that wait for it to be opened
abbrev pub files_in : Option OpenDesk → FileList
files_in None = []
files_in (Some open_desk) = open_desk.files

-- the reply that is kept
abbrev pub said_in : Option Console → Option Said
said_in None = None
said_in (Some console) = Some console.said

-- the files that wait and the reply of the last line stay
pub record KeepsRest (old new : Option OpenDesk) : Type 0 where
  pub files : files_in new ≡ files_in old
  pub said : said_in (console_in new) ≡ said_in (console_in old)

-- An open desk may be seen as each one that differs from it in the order of messages to different tasks alone; a closed
-- one is seen as None.
abbrev pub SeenBy : Option Console → Option Desk → Type 0
SeenBy None None = Unit {0}
SeenBy (Some console) (Some d) = IsReordered d console.world.desk
SeenBy _ _ = ⊥

abbrev pub IsSeenDesk : VfDesk → Option Desk → Type 0
IsSeenDesk v s = SeenBy (console_in v.handle.open_desk) s
