-- Whole runs: the desk after a list of commands, and their replies. Read Commands first. d is a desk, c a command.
use Rattle.std.specs.Prelude.{ℕ, List, [], ◌∷◌, None}
use Rattle.rh_defs.specs.declared.command.Command.{Command}
use Rattle.rh_defs.specs.declared.reply.Reply.{Reply}
use Rattle.rh_defs.specs.Forms.{first_made}
use Rattle.rh_defs.specs.Pieces.{page_size}
use Rattle.rh_defs.specs.Heap.{empty_heap}
use Rattle.rh_defs.specs.Files.{FileList}
use Rattle.rh_defs.specs.Desk.{Desk}
use Rattle.rh_defs.specs.Commands.{step}

-- the first desk: no task, one page in the module area, and the next handle and ref
abbrev pub start_with : ℕ → FileList → ℕ → ℕ → Desk
start_with pool files handle ref = record {
  tasks = [];
  post = record { seats = []; queued = []; heap = empty_heap page_size; next_ref = ref };
  areas = 0 ∷ 0 ∷ 0 ∷ 0 ∷ 0 ∷ 0 ∷ [];
  made = [];
  scrap = None;
  pool = pool;
  files = files;
  next_handle = handle;
  next_area = first_made;
}

-- handles and refs count up from 1
abbrev pub start : ℕ → FileList → Desk
start pool files = start_with pool files 1 1

-- the desk after the commands
abbrev pub after : Desk → List Command → Desk
after d [] = d
after d (c ∷ commands) = after (step d c).0 commands

-- their replies
abbrev pub replies : Desk → List Command → List Reply
replies d [] = []
replies d (c ∷ commands) = (step d c).1 ∷ replies (step d c).0 commands
