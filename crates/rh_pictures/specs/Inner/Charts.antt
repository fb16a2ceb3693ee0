-- Charts by what is kept of them.
use Rattle.std.specs.Prelude.{◌≡◌, ◌≤◌, ◌<◌, ℕ, length}
use Rattle.rh_defs.specs.Desk.{Desk}
use Rattle.rh_elements.specs.declared.chart.Ends.{Ends}
use Rattle.rh_elements.specs.declared.chart.Stroke.{Stroke}
use Rattle.rh_figure.specs.Phrases.{Text}
use Rattle.rh_pictures.specs.declared.sheet.chart.Chart.{Chart}
use Rattle.rh_pictures.specs.declared.sheet.numbers.TheConstants.{MOST_IN_SET}
use Rattle.rh_pictures.specs.declared.sheet.ways.MessageArrow.{MessageArrow}
use Rattle.rh_pictures.specs.Ways.{arrow_of, arrows_seen}
use Rattle.rh_sheet.specs.Chart.{Arrow, arrow_path, arrow_words, beat_text, chart_body, is_now, is_short, life_of, step_y, steps_in, task_x, tasks_in}

-- a chart has as few tasks and steps as that of the last messages
pub record IsSmallChart (c : Chart) : Type 0 where
  pub tasks : length c.tasks.now ≤ MOST_IN_SET
  pub steps : length c.steps.now ≤ MOST_IN_SET

-- a chart has arrows, and their tasks and steps
pub record IsWholeChart (c : Chart) : Type 0 where
  pub some : 0 < length c.ways.now
  pub tasks : c.tasks.now ≡ tasks_in (arrows_seen c.ways.now)
  pub steps : c.steps.now ≡ steps_in (arrows_seen c.ways.now)

-- where an arrow begins and ends
abbrev pub ends_of : Chart → MessageArrow → Ends
ends_of c w = record {
  x0 = task_x c.tasks.now w.from;
  y0 = step_y c.steps.now w.start;
  x1 = task_x c.tasks.now w.to;
  y1 = step_y c.steps.now w.stop;
}

-- how an arrow is drawn
abbrev pub stroke_of : Chart → MessageArrow → Stroke
stroke_of c w = record { fate = w.fate; short = is_short (arrow_of w); now = is_now c.step (arrow_of w) }

-- an arrow lies within the room that a chart has
pub record AreNear (e : Ends) : Type 0 where
  pub x0 : e.x0 ≤ 10000
  pub y0 : e.y0 ≤ 10000
  pub x1 : e.x1 ≤ 10000
  pub y1 : e.y1 ≤ 10000

-- ---- its parts

-- a task, a step, an arrow, and an arrow's words
abbrev pub life_in : Desk → Chart → ℕ → Text
life_in d c h = life_of d c.tasks.now c.steps.now h

abbrev pub beat_in : Chart → ℕ → Text
beat_in c s = beat_text (step_y c.steps.now s) s

abbrev pub path_in : Chart → Arrow → Text
path_in c a = arrow_path c.tasks.now c.steps.now c.step a

abbrev pub words_in : Chart → Arrow → Text
words_in c a = arrow_words c.tasks.now c.steps.now c.step a

-- all of them
abbrev pub body_of_chart : Desk → Chart → Text
body_of_chart d c = chart_body d (arrows_seen c.ways.now) c.tasks.now c.steps.now c.step
