-- Statuses: how a call ended, as a number.
use Rattle.std.specs.Prelude.{ℕ, nat_lt, Bool, if◌then◌else◌, List, length, Option, Some, None}
use Rattle.rh_defs.specs.Files.{FileList}
use Rattle.rh_session.specs.declared.feeding.TheConstants.{LONGEST_SCRIPT}
use Rattle.rh_session.specs.declared.status.Status.{Status}
use Rattle.rh_session.specs.declared.status.Status.TheVariants.{Clean, BadLines}
use Rattle.vf_web.specs.Packed.{files_in}
use Rattle.vf_web.specs.Room.{has_room_for}

-- 0 where a script has no more bytes than are read, and else 5
abbrev pub script_status : ℕ → ℕ
script_status n = if nat_lt LONGEST_SCRIPT n then 5 else 0

-- 0 where bytes are files and the script isn't too long, and else 3 or 5
abbrev pub files_status : Option FileList → ℕ → ℕ
files_status None n = 3
files_status (Some files) n = script_status n

-- 0 where a call can run what it is lent: pages, so many bytes and page numbers, a script of so many bytes, and files;
-- else 2, where there are too few or too many of the first three, 3 or 5
unfoldable pub lent_status : ℕ → ℕ → ℕ → ℕ → List ℕ → ℕ
lent_status pages pool numbers script files =
    if has_room_for pages pool numbers then files_status (files_in files) script else 2

-- 0 where nothing was bad, and 1 where something was
abbrev pub bad_status : Bool → ℕ
bad_status bad = if bad then 1 else 0

-- the number of a run's status: 0 where no line was bad, and 1 where one was
abbrev pub status_number : Status → ℕ
status_number Clean = 0
status_number BadLines = 1

-- the status of a text that is to be written to n bytes: 4 where it is longer, and else whether something was bad
abbrev pub text_status : ℕ → List ℕ → Bool → ℕ
text_status n text bad = if nat_lt n (length text) then 4 else bad_status bad
