-- The one order of refusals, and the first condition of a list that holds. Nothing is to be read before but Refusal.
-- row.0 is a refusal, row.1 says whether its condition holds; r is a refusal.
use Rattle.std.specs.Prelude.{ℕ, Bool, true, ◌&&◌, nat_lt, if◌then◌else◌, List, [], ◌∷◌, Option, Some, None}
use Rattle.rh_defs.specs.declared.refusal.Refusal.{Refusal}
use Rattle.rh_defs.specs.declared.refusal.Refusal.TheVariants as refusal
use Rattle.rh_defs.specs.declared.reply.Reply.{Reply}
use Rattle.rh_defs.specs.declared.reply.Reply.TheVariants as reply

-- a refusal's number in the one order: where several conditions hold, the least number is answered
abbrev pub refusal_number : Refusal → ℕ
refusal_number refusal.NameInUse = 1
refusal_number refusal.NoName = 2
refusal_number refusal.TooManyTasks = 3
refusal_number refusal.NoHandles = 4
refusal_number refusal.NoFile = 5
refusal_number refusal.NoBlock = 6
refusal_number refusal.AnchorInUse = 7
refusal_number refusal.NotABlock = 8
refusal_number refusal.NotYours = 9
refusal_number refusal.Busy = 10
refusal_number refusal.NotOpen = 11
refusal_number refusal.NothingSent = 12
refusal_number refusal.BadRange = 13
refusal_number refusal.BadSize = 14
refusal_number refusal.ExcessiveShrink = 15
refusal_number refusal.NoTask = 16
refusal_number refusal.NoRefs = 17
refusal_number refusal.QueueFull = 18
refusal_number refusal.NoBudge = 19
refusal_number refusal.NoRoom = 20
refusal_number refusal.NoArea = 21
refusal_number refusal.TooManyAreas = 22
refusal_number refusal.NoNumbers = 23
refusal_number refusal.TooBig = 24
refusal_number refusal.WrongManner = 25
refusal_number refusal.BadRef = 26

-- a row of the table: a refusal, and whether its condition holds
abbrev pub RefusalRow : Type 0
RefusalRow = Refusal × Bool

-- the numbers of the rows' refusals go up, from above the last one
abbrev pub are_in_order : ℕ → List RefusalRow → Bool
are_in_order last [] = true
are_in_order last (row ∷ rows) = nat_lt last (refusal_number row.0) && are_in_order (refusal_number row.0) rows

-- the refusal of the first row whose condition holds
abbrev pub first_refusal : List RefusalRow → Option Refusal
first_refusal [] = None
first_refusal (row ∷ rows) = if row.1 then Some row.0 else first_refusal rows

-- the refusal that a reply says; none where the command was granted
abbrev pub refusal_in : Reply → Option Refusal
refusal_in (reply.Refused r) = Some r
refusal_in _ = None
