-- The arrows of a chart by what is kept of them.
use Rattle.std.specs.Prelude.{List, [], ◌∷◌, codes, map}
use Rattle.std.specs.List.{concat}
use Rattle.std.specs.Fmt.{decimal}
use Rattle.rh_defs.specs.Text.{action_name}
use Rattle.rh_figure.specs.Phrases.{Text, where_so}
use Rattle.rh_sheet.specs.Chart.{Arrow}
use Rattle.rh_pictures.specs.declared.sheet.ways.MessageArrow.{MessageArrow}

-- the words of a message, on its way out or back
abbrev pub way_words : MessageArrow → Text
way_words w = concat (
    decimal w.my_ref ∷ codes " " ∷ action_name w.action ∷ where_so w.is_back (codes " back") ∷ []
    )

abbrev pub arrow_of : MessageArrow → Arrow
arrow_of w = record {
  start = w.start;
  stop = w.stop;
  from = w.from;
  to = w.to;
  words = way_words w;
  fate = w.fate;
  wants_answer = w.wants_answer;
}

abbrev pub arrows_seen : List MessageArrow → List Arrow
arrows_seen ways = map arrow_of ways
