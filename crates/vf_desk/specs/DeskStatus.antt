-- Statuses: how a call ended, as a number.
use Rattle.std.specs.Prelude.{ℕ}
use Rattle.rh_defs.specs.declared.refusal.Refusal.{Refusal}
use Rattle.rh_defs.specs.declared.refusal.Refusal.TheVariants as refusal

-- a refusal's number in the one order of all refusals
abbrev pub refusal_number : Refusal → ℕ
refusal_number refusal.NameInUse = 1
refusal_number refusal.NoName = 2
refusal_number refusal.TooManyTasks = 3
refusal_number refusal.NoHandles = 4
refusal_number refusal.NoFile = 5
refusal_number refusal.NoBlock = 6
refusal_number refusal.AnchorInUse = 7
refusal_number refusal.NotABlock = 8
refusal_number refusal.NotYours = 9
refusal_number refusal.Busy = 10
refusal_number refusal.NotOpen = 11
refusal_number refusal.NothingSent = 12
refusal_number refusal.BadRange = 13
refusal_number refusal.BadSize = 14
refusal_number refusal.ExcessiveShrink = 15
refusal_number refusal.NoTask = 16
refusal_number refusal.NoRefs = 17
refusal_number refusal.QueueFull = 18
refusal_number refusal.NoBudge = 19
refusal_number refusal.NoRoom = 20
refusal_number refusal.NoArea = 21
refusal_number refusal.TooManyAreas = 22
refusal_number refusal.NoNumbers = 23
refusal_number refusal.TooBig = 24
refusal_number refusal.WrongManner = 25
refusal_number refusal.BadRef = 26

-- a file has more than 1 MiB
abbrev pub bad_length : ℕ
bad_length = 33

-- a text is longer than the bytes that were lent for it
abbrev pub short : ℕ
short = 34

-- the desk isn't open
abbrev pub closed_status : ℕ
closed_status = 43

-- the desk is open already
abbrev pub already_open : ℕ
already_open = 44

-- an argument isn't of its form
abbrev pub bad_argument : ℕ
bad_argument = 45

-- memory was refused
abbrev pub no_memory : ℕ
no_memory = 46

-- a file with the name was added before
abbrev pub file_exists : ℕ
file_exists = 47
