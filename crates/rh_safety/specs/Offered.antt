-- What the DataSaves of a run offered. Read Commands of rh_defs first.
-- d is a desk, k an anchor, ref the ref of a DataSave, which is the id of its transfer, r a reply, s a slot, t a task.
-- *offers_next* follows one command by its reply, *offers_from* all commands.
use Rattle.std.specs.Prelude.{ℕ, ◌==◌, if◌then◌else◌, List, [], ◌∷◌, find, Option, Some, None}
use Rattle.std.specs.Option.{option_and_then, option_map}
use Rattle.rh_defs.specs.Pieces.{Split}
use Rattle.rh_defs.specs.Slot.{Slot, Flex, block_of}
use Rattle.rh_defs.specs.declared.message.Body.{Body}
use Rattle.rh_defs.specs.declared.message.Body.TheVariants as body
use Rattle.rh_defs.specs.declared.message.Letter.{Letter}
use Rattle.rh_defs.specs.declared.command.Command.{Command}
use Rattle.rh_defs.specs.declared.command.Command.TheVariants as command
use Rattle.rh_defs.specs.declared.reply.Reply.{Reply}
use Rattle.rh_defs.specs.declared.reply.Reply.TheVariants as reply
use Rattle.rh_defs.specs.Desk.{Desk, Task, has_name}
use Rattle.rh_defs.specs.Commands.{step}

-- the bytes that each id offers
abbrev pub Offers : Type 0
Offers = ℕ → Option (List ℕ)

-- a map with one place written anew
abbrev pub at_place : {A : Type 0} → (ℕ → A) → ℕ → A → ℕ → A
at_place f k x j = if j == k then x else f j

-- the bytes of the slot's block with the anchor
abbrev pub bytes_of_block : Slot → ℕ → Option (List ℕ)
bytes_of_block s k = option_map (λ (b : Split Flex). b.here.bytes) (block_of k s)

-- the bytes of the task's block with the anchor
abbrev pub source_of : Option Task → ℕ → Option (List ℕ)
source_of task k = option_and_then (λ (t : Task). bytes_of_block t.slot k) task

-- a save that was accepted offers its block's bytes
abbrev pub saved_next : Offers → Desk → List ℕ → ℕ → Reply → Offers
saved_next offers d name k (reply.Sent ref) = at_place offers ref (source_of (find (has_name name) d.tasks) k)
saved_next offers d name k _ = offers

-- a DataSave that is sent again offers, under its own ref, what the old one offers
abbrev pub offered_again : Offers → ℕ → ℕ → Body → Offers
offered_again offers ref old (body.DataSave f) = at_place offers ref (offers old)
offered_again offers ref old _ = offers

abbrev pub offered_last : Offers → ℕ → Option (Letter × ℕ) → Offers
offered_last offers ref None = offers
offered_last offers ref (Some last) = offered_again offers ref last.1 last.0.body

-- the letter that a task sent last, with its ref
abbrev pub last_of : Option Task → Option (Letter × ℕ)
last_of task = option_and_then (λ (t : Task). t.last_sent) task

abbrev pub repeated_next : Offers → Desk → List ℕ → Reply → Offers
repeated_next offers d name (reply.Sent ref) = offered_last offers ref (last_of (find (has_name name) d.tasks))
repeated_next offers d name _ = offers

-- what each id offers after one more command, by the command's reply
abbrev pub offers_next : Offers → Desk → Command → Reply → Offers
offers_next offers d (command.Save name k to leaf) r = saved_next offers d name k r
offers_next offers d (command.Repeat name) r = repeated_next offers d name r
offers_next offers d _ r = offers

-- what each id offers after commands
abbrev pub offers_from : Offers → Desk → List Command → Offers
offers_from offers d [] = offers
offers_from offers d (c ∷ commands) = offers_from (offers_next offers d c (step d c).1) (step d c).0 commands

-- what the DataSave with the ref offered, in a run of the commands from the desk
abbrev pub offered : Desk → List Command → ℕ → Option (List ℕ)
offered d commands id = offers_from (λ i. None) d commands id
