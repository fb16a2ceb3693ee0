-- What becomes of each of the last messages. Read Scene of rh_figure and Post of rh_defs first.
-- x is the scene behind a step, n a note of a message, step the number of a step's line, w where a message is behind a step,
-- sent the letter of the step with its ref. `-` of naturals stops at 0: of a short list all notes are the last ones
-- (*last_of*).
use Rattle.std.specs.Prelude.{ℕ, ◌-◌, ◌==◌, ◌&&◌, not, Bool, true, false, if◌then◌else◌, List, [], ◌∷◌, ◌++◌, length, drop, map, find, Option, Some, None}
use Rattle.std.specs.Prelude.{is_some}
use Rattle.rh_defs.specs.declared.message.Letter.{Letter}
use Rattle.rh_defs.specs.Messages.{Parcel, action_of, code_number, is_recorded}
use Rattle.rh_defs.specs.Desk.{task_at}
use Rattle.rh_figure.specs.Scene.{Scene, sent_by, waiting}
use Rattle.rh_figure.specs.Changes.{is_held}
pub use Rattle.rh_sheet.specs.declared.note.Note.{Note}
pub use Rattle.rh_sheet.specs.declared.note.Fate.{Fate}
pub use Rattle.rh_sheet.specs.declared.note.Fate.TheVariants.{Queued, Taken, Held, Answered, Back, Returned, Vanished}
pub use Rattle.rh_sheet.specs.declared.note.Whereabouts.{Whereabouts}
use Rattle.rh_sheet.specs.declared.sizes.TheConstants.{MOST_NOTES}

-- ---- fates

-- whether nothing more becomes of a message
abbrev pub is_over : Fate → Bool
is_over Queued = false
is_over Held = false
is_over Back = false
is_over _ = true

abbrev pub is_queued : Fate → Bool
is_queued Queued = true
is_queued _ = false

-- ---- where a message is

abbrev pub code_or_none : Option Parcel → ℕ
code_or_none None = 0
code_or_none (Some p) = code_number p.code

-- the event code of the message with the ref that waits, 0 where none does
abbrev pub waiting_code : Scene → ℕ → ℕ
waiting_code x ref = code_or_none (find (λ (p : Parcel). p.message.my_ref == ref) (waiting x))

-- the ref that the letter answers, or without one that the command acknowledges: 0 for none
abbrev pub answered_by : ℕ → Option (Letter × ℕ) → ℕ
answered_by acknowledged None = acknowledged
answered_by acknowledged (Some sent) = sent.0.your_ref

-- the task that takes a message next, where nobody answers it: its recipient, or who sent it
abbrev pub next_taker : Note → ℕ
next_taker n = if is_queued n.fate then n.to else n.from

abbrev pub whereabouts : Scene → Option (Letter × ℕ) → Note → Whereabouts
whereabouts x sent n = record {
  code = waiting_code x n.my_ref;
  held = is_held x n.my_ref;
  answered = n.my_ref == answered_by x.before.acknowledged sent;
  live = is_some (task_at (next_taker n) x.desk);
}

-- ---- what becomes of a message

-- a message that came back waits with this code
abbrev pub back_code : ℕ
back_code = 19

-- whether a message is gone: it doesn't wait, and no task holds it
abbrev pub is_gone : Whereabouts → Bool
is_gone w = w.code == 0 && not w.held

-- the fate of a message that waits or is held, by its fate before
abbrev pub fate_there : Whereabouts → Fate → Fate
fate_there w Queued = if w.code == back_code then Back else if w.code == 0 then Held else Queued
fate_there w Held = if w.code == back_code then Back else Held
fate_there w fate = fate

-- The fate of a message that is gone, by its fate before: it was answered, or taken, or taken back, or nobody was there
-- to take it. A task that holds a message of its own takes it back at the poll at which it goes back.
abbrev pub fate_gone : Whereabouts → Fate → Fate
fate_gone w Queued = if w.answered then Answered else if w.live then Taken else Vanished
fate_gone w Held = if w.answered then Answered else if w.live then Returned else Vanished
fate_gone w Back = if w.live then Returned else Vanished
fate_gone w fate = fate

-- the fate behind a step, by the fate before
abbrev pub fate_behind : Whereabouts → Fate → Fate
fate_behind w fate = if is_gone w then fate_gone w fate else fate_there w fate

-- whether a message goes back at a step, by its fate before and behind
abbrev pub goes_back : Fate → Fate → Bool
goes_back Queued Back = true
goes_back Held Back = true
goes_back Held Returned = true
goes_back Held Vanished = true
goes_back _ _ = false

-- ---- notes

-- a step where something happened at it that had not happened yet
abbrev pub since : Bool → ℕ → ℕ → ℕ
since happened step known = if happened && known == 0 then step else known

-- the note with the fate of its message behind a step
abbrev pub with_fate : ℕ → Fate → Note → Note
with_fate step fate n = record n {
  fate = fate;
  reached = since (not (is_queued fate)) step n.reached;
  back = since (goes_back n.fate fate) step n.back;
  ended = since (is_over fate) step n.ended;
}

abbrev pub followed : ℕ → Whereabouts → Note → Note
followed step w n = with_fate step (fate_behind w n.fate) n

-- the note of a letter that was sent at a step
abbrev pub note_of : ℕ → Letter × ℕ → Note
note_of step sent = record {
  my_ref = sent.1;
  from = sent.0.from;
  to = sent.0.to;
  action = action_of sent.0.body;
  wants_answer = is_recorded sent.0.code;
  fate = Queued;
  sent = step;
  reached = 0;
  back = 0;
  ended = 0;
}

abbrev pub new_notes : ℕ → Option (Letter × ℕ) → List Note
new_notes step None = []
new_notes step (Some sent) = note_of step sent ∷ []

-- the last n of a list
abbrev pub last_of : ℕ → List Note → List Note
last_of n notes = drop (length notes - n) notes

-- the notes after a step at which a letter was sent, or none
abbrev pub noted_with : ℕ → Scene → Option (Letter × ℕ) → List Note → List Note
noted_with step x sent notes =
    last_of MOST_NOTES (map (λ (n : Note). followed step (whereabouts x sent n) n) notes ++ new_notes step sent)

-- the notes after a step
abbrev pub noted : ℕ → Scene → List Note → List Note
noted step x notes = noted_with step x (sent_by x.before (task_at x.before.handle x.desk)) notes
