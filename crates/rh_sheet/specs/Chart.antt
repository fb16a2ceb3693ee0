-- The chart of the last messages: a line down for each task, an arrow from the step at which a message was sent to the
-- one at which it was taken, went back or vanished. Read Fates and Markup first.
-- d is the desk, n a note of a message, a an arrow, step the number of a step's line. `-` of naturals stops at 0: an arrow's
-- end and its words lie in the figure (*tip_x*, *words_x*).
use Rattle.std.specs.Prelude.{ℕ, ◌+◌, ◌-◌, ◌*◌, ◌/◌, ◌==◌, nat_lt, max, ◌&&◌, ◌||◌, not, Bool, if◌then◌else◌, List, [], ◌∷◌, ◌++◌, length, take, filter, codes, true, false, is_some}
use Rattle.std.specs.List.{concat, flat_map}
use Rattle.std.specs.Fmt.{decimal}
use Rattle.rh_defs.specs.Desk.{Desk, task_at}
use Rattle.rh_defs.specs.Text.{action_name}
use Rattle.rh_figure.specs.Phrases.{Text, where_so, task_name}
use Rattle.rh_sheet.specs.Fates.{Note, Fate, Queued, Taken, Held, Answered, Back, Vanished, is_queued}
use Rattle.rh_sheet.specs.Markup.{words_text, path_text, point_text, stretch_text, svg_text}
use Rattle.rh_sheet.specs.declared.sizes.TheConstants.{CHART_WIDTH, CHART_LEFT, CHART_TOP, CHART_SPREAD, BEAT, NAME_Y, LIFE_TOP, LETTER_UNITS, ARROW_RISE, ARROW_STUB, LOOP_BOW, TIP_GAP, WORDS_ASIDE, WORDS_DOWN, STUB_ASIDE, STUB_DOWN, CHART_EDGE, VANISHES}

-- ---- arrows

-- An arrow from one task to another between two steps, the second 0 where the message waits, with its words, the fate
-- of the message on that way, and whether it wants an answer.
pub record Arrow : Type 0 where
  pub start : ℕ
  pub stop : ℕ
  pub from : ℕ
  pub to : ℕ
  pub words : Text
  pub fate : Fate
  pub wants_answer : Bool

abbrev pub note_words : Note → Text
note_words n = concat (decimal n.my_ref ∷ codes " " ∷ action_name n.action ∷ [])

-- The fate of a message on its way out. One that went back was taken before, or wasn't: then it went back where it came
-- to.
abbrev pub fate_out : Note → Fate
fate_out n = if n.back == 0 then n.fate else if n.reached == n.back then Back else Taken

-- the fate of a message on its way back
abbrev pub fate_back : Fate → Fate
fate_back Back = Queued
fate_back fate = fate

abbrev pub way_out : Note → Arrow
way_out n = record {
  start = n.sent;
  stop = n.reached;
  from = n.from;
  to = n.to;
  words = note_words n;
  fate = fate_out n;
  wants_answer = n.wants_answer;
}

abbrev pub way_back : Note → Arrow
way_back n = record {
  start = n.back;
  stop = n.ended;
  from = n.to;
  to = n.from;
  words = note_words n ++ codes " back";
  fate = fate_back n.fate;
  wants_answer = n.wants_answer;
}

-- the arrow of a message, and that of its way back
abbrev pub arrows_of : Note → List Arrow
arrows_of n = way_out n ∷ (if n.back == 0 then [] else way_back n ∷ [])

abbrev pub arrows : List Note → List Arrow
arrows notes = flat_map arrows_of notes

-- ---- places

-- a number into an ordered list, once
abbrev pub inserted : ℕ → List ℕ → List ℕ
inserted n [] = n ∷ []
inserted n (m ∷ ms) = if n == m then m ∷ ms else if nat_lt n m then n ∷ m ∷ ms else m ∷ inserted n ms

-- numbers in order, each once
abbrev pub ordered : List ℕ → List ℕ
ordered [] = []
ordered (n ∷ ns) = inserted n (ordered ns)

-- the steps at which arrows begin or end
abbrev pub steps_in : List Arrow → List ℕ
steps_in drawn =
    ordered (filter (λ s. not (s == 0)) (flat_map (λ (a : Arrow). a.start ∷ a.stop ∷ []) drawn))

-- the tasks between which arrows go
abbrev pub tasks_in : List Arrow → List ℕ
tasks_in drawn = ordered (flat_map (λ (a : Arrow). a.from ∷ a.to ∷ []) drawn)

-- how many numbers of a list are smaller
abbrev pub place_among : ℕ → List ℕ → ℕ
place_among n ns = length (filter (λ m. nat_lt m n) ns)

-- from one task's line to the next, of so many
abbrev pub task_gap : ℕ → ℕ
task_gap count = CHART_SPREAD / max 1 (count - 1)

-- where the line of a task stands, from the left
abbrev pub task_x : List ℕ → ℕ → ℕ
task_x tasks h = CHART_LEFT + task_gap (length tasks) * place_among h tasks

-- the height at which arrows of a step end
abbrev pub step_y : List ℕ → ℕ → ℕ
step_y steps s = CHART_TOP + BEAT * place_among s steps

-- where the lines of the tasks end
abbrev pub chart_foot : List ℕ → ℕ
chart_foot steps = CHART_TOP + BEAT * length steps

-- ---- elements

-- a task's name above its line, as far as the gap has room, and the line
abbrev pub life_class : Bool → Text
life_class alive = codes "who" ++ where_so (not alive) (codes " dead")

abbrev pub life_text : Bool → Text → ℕ → ℕ → ℕ → Text
life_text alive name gap x foot =
    words_text (life_class alive) x NAME_Y (take (max 1 (gap / LETTER_UNITS)) name)
    ++ path_text (codes "life") (point_text (codes "M") x LIFE_TOP ++ stretch_text (codes "V") foot)

-- a step's number at the left
abbrev pub beat_text : ℕ → ℕ → Text
beat_text y s = words_text (codes "beat") 0 (y + ARROW_RISE) (decimal s)

-- to the left or to the right
abbrev pub side_letters : Bool → Text
side_letters west = if west then codes "h-" else codes "h"

-- a short arrow, of a message that waits
abbrev pub stub_way : ℕ → ℕ → Bool → Text
stub_way x y west = point_text (codes "M") x (y + ARROW_RISE) ++ stretch_text (side_letters west) ARROW_STUB

-- a bow of a message from a task to itself
abbrev pub loop_way : ℕ → ℕ → ℕ → Text
loop_way x y0 y1 = concat (
    point_text (codes "M") x (y0 + ARROW_RISE) ∷ point_text (codes "C") (x + LOOP_BOW) (y0 + ARROW_RISE)
    ∷ point_text (codes " ") (x + LOOP_BOW) y1 ∷ point_text (codes " ") (x + TIP_GAP) y1 ∷ []
    )

-- where a straight arrow ends, from the left
abbrev pub tip_x : ℕ → ℕ → ℕ
tip_x x0 x1 = if nat_lt x1 x0 then x1 + TIP_GAP else x1 - TIP_GAP

-- a straight arrow
abbrev pub line_way : ℕ → ℕ → ℕ → ℕ → Text
line_way x0 y0 x1 y1 = point_text (codes "M") x0 (y0 + ARROW_RISE) ++ point_text (codes "L") (tip_x x0 x1) y1

-- a place on the way from one to another, before its end
abbrev pub part_way : ℕ → ℕ → ℕ
part_way from to = ((100 - VANISHES) * from + VANISHES * to) / 100

-- a straight arrow that doesn't come to the other line
abbrev pub lost_way : ℕ → ℕ → ℕ → ℕ → Text
lost_way x0 y0 x1 y1 =
    point_text (codes "M") x0 (y0 + ARROW_RISE)
    ++ point_text (codes "L") (part_way x0 x1) (part_way (y0 + ARROW_RISE) y1)

-- the way of an arrow between two lines: a short one has no end
abbrev pub message_way : Bool → Bool → ℕ → ℕ → ℕ → ℕ → Text
message_way short lost x0 y0 x1 y1 =
    if short then stub_way x0 y0 (nat_lt x1 x0)
    else if x0 == x1 then loop_way x0 y0 y1
    else if lost then lost_way x0 y0 x1 y1
    else line_way x0 y0 x1 y1

-- an arrow's class by the fate of its message
abbrev pub fate_class : Fate → Text
fate_class Queued = codes " waits"
fate_class Held = codes " held"
fate_class Back = codes " untaken"
fate_class Vanished = codes " vanished"
fate_class _ = []

abbrev pub message_class : Fate → Bool → Text
message_class fate now = concat (codes "msg" ∷ fate_class fate ∷ where_so now (codes " now") ∷ [])

abbrev pub words_class : Bool → Bool → Text
words_class west now = concat (codes "mname" ∷ where_so west (codes " west") ∷ where_so now (codes " now") ∷ [])

-- how far from an arrow's beginning its words stand: to the side, and down
abbrev pub words_aside : Bool → ℕ
words_aside short = if short then STUB_ASIDE else WORDS_ASIDE

abbrev pub words_down : Bool → ℕ
words_down short = if short then STUB_DOWN else WORDS_DOWN

-- where they stand, from the left
abbrev pub words_x : Bool → ℕ → ℕ → ℕ
words_x short x0 x1 = if nat_lt x1 x0 then x0 - words_aside short else x0 + words_aside short

-- the words of an arrow
abbrev pub message_words : Bool → Bool → ℕ → ℕ → ℕ → Text → Text
message_words short now x0 y0 x1 t =
    words_text (words_class (nat_lt x1 x0) now) (words_x short x0 x1) (y0 + words_down short) t

-- ---- the chart

abbrev pub is_lost : Fate → Bool
is_lost Vanished = true
is_lost _ = false

abbrev pub is_answered : Fate → Bool
is_answered Answered = true
is_answered _ = false

-- whether an arrow is a short one: the message waits, or vanished where it began
abbrev pub is_short : Arrow → Bool
is_short a = is_queued a.fate || is_lost a.fate && (a.from == a.to || a.start == a.stop)

-- whether an arrow begins or ends at a step
abbrev pub is_now : ℕ → Arrow → Bool
is_now step a = a.start == step || a.stop == step

abbrev pub life_of : Desk → List ℕ → List ℕ → ℕ → Text
life_of d tasks steps h = life_text
    (is_some (task_at h d)) (task_name d h) (task_gap (length tasks)) (task_x tasks h) (chart_foot steps)

abbrev pub arrow_path : List ℕ → List ℕ → ℕ → Arrow → Text
arrow_path tasks steps step a = path_text
    (message_class a.fate (is_now step a))
    (message_way (is_short a) (is_lost a.fate) (task_x tasks a.from) (step_y steps a.start) (task_x tasks a.to)
    (step_y steps a.stop))

-- what stands behind an arrow's words
abbrev pub fate_words : Fate → Text
fate_words Held = codes " held"
fate_words Back = codes " not taken"
fate_words Vanished = codes " vanished"
fate_words _ = []

abbrev pub arrow_words : List ℕ → List ℕ → ℕ → Arrow → Text
arrow_words tasks steps step a = message_words
    (is_short a) (is_now step a) (task_x tasks a.from) (step_y steps a.start) (task_x tasks a.to)
    (a.words ++ fate_words a.fate)

-- ---- what is read out

-- what has become of a message, before the line at which it has
abbrev pub fate_verb : Fate → Text
fate_verb Queued = codes "waits"
fate_verb Held = codes "held since line "
fate_verb Back = codes "not taken, back at line "
fate_verb Vanished = codes "vanished at line "
fate_verb _ = codes "taken at line "

-- and behind the line
abbrev pub vanished_note : Text → Bool → Text
vanished_note who wants_answer = concat (
    codes ": " ∷ who ∷ codes " has died, and "
    ∷ (if wants_answer then codes "nobody is left to take it" else codes "it wants no answer") ∷ []
    )

abbrev pub fate_note : Desk → Arrow → Text
fate_note d a =
    if is_lost a.fate then vanished_note (task_name d a.to) a.wants_answer
    else where_so (is_answered a.fate) (codes ", and answered")

-- the line at which it has, where a message doesn't wait
abbrev pub stop_text : Arrow → Text
stop_text a = where_so (not (is_queued a.fate)) (decimal a.stop)

abbrev pub fate_sentence : Desk → Arrow → Text
fate_sentence d a = concat (fate_verb a.fate ∷ stop_text a ∷ fate_note d a ∷ codes ". " ∷ [])

-- an arrow as it is read out
abbrev pub arrow_sentence : Desk → Arrow → Text
arrow_sentence d a = concat (
    a.words ∷ codes " from " ∷ task_name d a.from ∷ codes " to " ∷ task_name d a.to ∷ codes ", sent at line " ∷ decimal a.start
    ∷ codes ", " ∷ fate_sentence d a ∷ []
    )

-- lines, steps, arrows, and their words upon all of it
abbrev pub chart_body : Desk → List Arrow → List ℕ → List ℕ → ℕ → Text
chart_body d drawn tasks steps step = concat (
    flat_map (life_of d tasks steps) tasks ∷ flat_map (λ s. beat_text (step_y steps s) s) steps
    ∷ flat_map (arrow_path tasks steps step) drawn ∷ flat_map (arrow_words tasks steps step) drawn ∷ []
    )

-- the chart of some arrows, as it stands at a step
abbrev pub chart_of : Desk → List Arrow → ℕ → Text
chart_of d [] step = []
chart_of d (a ∷ drawn) step = svg_text
    CHART_WIDTH (chart_foot (steps_in (a ∷ drawn)) + CHART_EDGE) (codes "Messages between the tasks")
    (flat_map (arrow_sentence d) (a ∷ drawn))
    (chart_body d (a ∷ drawn) (tasks_in (a ∷ drawn)) (steps_in (a ∷ drawn)) step)

abbrev pub chart_figure : Desk → List Note → ℕ → Text
chart_figure d notes step = chart_of d (arrows notes) step
