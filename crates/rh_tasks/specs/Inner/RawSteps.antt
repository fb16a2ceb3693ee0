-- What the steps give that are there for tasks with code of their own.
use Rattle.std.specs.Prelude.{◌≡◌, ℕ, not, nat_le, nat_lt, if◌then◌else◌, List, length, Option, Some, None, Result, Ok, Err}
use Rattle.std.specs.Result.{MatchResult}
use Rattle.rh_defs.specs.declared.message.Letter.{Letter}
use Rattle.rh_defs.specs.declared.refusal.Refusal.{Refusal}
use Rattle.rh_defs.specs.declared.refusal.Refusal.TheVariants.{NoFile, NoRoom, WrongManner, BadRef}
use Rattle.rh_defs.specs.declared.transfer.Incoming.{Incoming}
use Rattle.rh_defs.specs.Chain.{Granted, ◌>>=◌, ◌>>◌, refuse_if, found_or}
use Rattle.rh_defs.specs.Post.{held_by, sendable}
use Rattle.rh_defs.specs.Desk.{Desk, Task, free_pages, send_letter, with_taking}
use Rattle.rh_defs.specs.OutgoingEvents.{scrap_shortage, wider}
use Rattle.rh_defs.specs.RawCommands.{file_held}
use Rattle.rh_defs.specs.RawTasks.{is_raw}
use Rattle.rh_defs.specs.Receiver.{cancel_taking}
use Rattle.rh_tasks.specs.declared.seat.Seat.{Seat}
use Rattle.rh_tasks.specs.Shown.{Shown}

-- what refuses where a step is refused or not, and is then refused in any case
abbrev pub refusal_after : {A : Type 0} → Granted A → Refusal → Refusal
refusal_after (Ok x) refusal = refusal
refusal_after (Err first) refusal = first

-- why a task's letter is refused that could be sent: it has no code of its own, or the ref that it answers wasn't given yet
abbrev pub letter_refusal : Seat → ℕ → ℕ → Option Refusal
letter_refusal s ref next = if not (is_raw s.manner) then Some WrongManner else if nat_le next ref then Some BadRef else None

-- the pages that area 5 lacks for a file of so many bytes, where these and the file's letter have room
abbrev pub file_room : Desk → Letter → ℕ → Granted ℕ
file_room d letter n =
    sendable letter d.post
    >> refuse_if (nat_lt (free_pages d) (scrap_shortage n d)) NoRoom
    >> (send_letter letter (wider (scrap_shortage n d) d) >>= λ sent. Ok (scrap_shortage n d))

-- the size of the scrap file, where the task holds its DataLoad
abbrev pub held_size : Desk → Task → Granted ℕ
held_size d t = found_or (file_held (held_by t.handle d.post.seats) d.scrap) NoFile >>= λ file. Ok (length file.bytes)

-- a transfer was given up in its records alone, or that was refused
abbrev pub GivesUp : Option ℕ → Task → Shown → Shown → Result (Unit {0}) Refusal → Type 0
GivesUp id t old new result =
    MatchResult result
    (λ _. (records : List Incoming) × ((cancel_taking id t.taking ≡ Ok records) × (new.desk ≡ with_taking t.handle (λ _. records) old.desk)))
    (λ refusal. (cancel_taking id t.taking ≡ Err refusal) × (new ≡ old))
