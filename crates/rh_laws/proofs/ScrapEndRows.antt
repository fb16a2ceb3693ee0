-- Worked runs in which a task with code of its own holds a scrap file's DataLoad: what this says, and by what the file goes.
use Rattle.rh_laws.proofs.Common.{◌≡◌, refl, List, [], ◌∷◌, ◌++◌, Option, Some, None, String, option_map, hex_on_literals, Parcel, Scrap}
use Rattle.rh_laws.proofs.Common.{Desk, held_by, after, fresh, script}
use Rattle.rh_defs.specs.declared.message.Body.TheVariants as body
use Rattle.rh_defs.specs.Inner.Computing.{computing_script}
use Rattle.rh_defs.specs.Letters.{file_of, scrap_name}
use Rattle.rh_laws.specs.Progress.{work}

-- r asks a for a file, and takes its DataLoad
abbrev asked : List String
asked =
    "task a 4" ∷ "task r 1 raw" ∷ "alloc a 0 3" ∷ "put a 0 0 010203" ∷ "save a 0 r doc" ∷ "poll r"
    ∷ "send r 18 1 1 2 00000000000000000000000000000000fffffffffd0f0000646f6300" ∷ "poll a" ∷ "poll r" ∷ []

abbrev desk_after : List String → Desk
desk_after lines = after fresh (script (asked ++ lines))

abbrev file_after : List String → Option Scrap
file_after lines = (desk_after lines).scrap

abbrev file : Scrap
file = record { load = 3; bytes = 1 ∷ 2 ∷ 3 ∷ [] }

-- there is a file, and r holds its DataLoad, which says how long it is
file_there : file_after [] ≡ Some file
unfolding computing_script hex_on_literals
file_there = refl

load_held : option_map (λ (p : Parcel). p.message.body) (held_by 2 (desk_after []).post.seats) ≡ Some (body.DataLoad (file_of 3 scrap_name))
unfolding computing_script hex_on_literals
load_held = refl

-- two for the DataLoad, and eight for the transfer of three bytes
work_there : work (desk_after []) ≡ 10
unfolding computing_script hex_on_literals
work_there = refl

-- one poll brings the DataLoad back on its way; with its sender's the file is gone, long before as many rounds
poll_returns : file_after ("poll r" ∷ []) ≡ Some file
unfolding computing_script hex_on_literals
poll_returns = refl

round_ends : file_after ("poll r" ∷ "poll a" ∷ []) ≡ None
unfolding computing_script hex_on_literals
round_ends = refl

-- any answer to the DataLoad ends the file at once, as does an acknowledgement; an answer to something else leaves it
answer_ends : file_after ("send r 17 1 3 9" ∷ []) ≡ None
unfolding computing_script hex_on_literals
answer_ends = refl

ack_ends : file_after ("ack r" ∷ []) ≡ None
unfolding computing_script hex_on_literals
ack_ends = refl

other_answer_leaves : file_after ("send r 17 1 1 9" ∷ []) ≡ Some file
unfolding computing_script hex_on_literals
other_answer_leaves = refl

-- so does a letter of a third task, which holds nothing
third_leaves : file_after ("task c 1 raw" ∷ "send c 17 1 3 9" ∷ []) ≡ Some file
unfolding computing_script hex_on_literals
third_leaves = refl

-- the recipient's death brings the DataLoad back; with the sender's no task is live, and no file there
death_returns : file_after ("kill r" ∷ []) ≡ Some file
unfolding computing_script hex_on_literals
death_returns = refl

deaths_end : file_after ("kill r" ∷ "kill a" ∷ []) ≡ None
unfolding computing_script hex_on_literals
deaths_end = refl
