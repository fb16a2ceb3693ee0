-- The text of a chart, part by part.
use Rattle.rh_pictures.proofs.Common.{◌≡◌, ℕ, ◌+◌, ◌<◌, true, false, refl, ap₂, ◌∙◌, arith, append_assoc, append-nil, List, [], ◌∷◌, ◌++◌, length, ◌==◌, codes}
use Rattle.rh_pictures.proofs.Common.{concat, flat_map, Desk, with_queue, Text, Note, arrow_sentence, arrows, steps_in, tasks_in, escape, figure_open}
use Rattle.rh_pictures.proofs.Common.{MessageArrow, arrow_of, arrows_seen, flat_map-append, get_or, take}
use Rattle.std.proofs.lemmas.List.{map-append, take_more}
use Rattle.rh_sheet.specs.declared.sizes.TheConstants.{CHART_EDGE, CHART_WIDTH}
use Rattle.rh_sheet.specs.Chart.{Arrow, chart_body, chart_foot, chart_of}
use Rattle.rh_pictures.proofs.UnderLemmas.{is_some, some-more}

-- nine parts, one behind the other
pub nine-parts : (a b c d e f g h i : Text)
    → (((((((a ++ b) ++ c) ++ d) ++ e) ++ f) ++ g) ++ h) ++ i ≡ concat (a ∷ b ∷ c ∷ d ∷ e ∷ f ∷ g ∷ h ∷ i ∷ [])
nine-parts a b c d e f g h i = simp (append_assoc, append-nil)

abbrev pub title : Text
title = codes "Messages between the tasks"

-- the chart of some arrows, in the parts in which it is written
parts-are : (d : Desk) (drawn : List Arrow) (step : ℕ) → is_some drawn ≡ true
    → figure_open CHART_WIDTH (chart_foot (steps_in drawn) + CHART_EDGE) title
    ++ (escape (flat_map (arrow_sentence d) drawn)
    ++ (codes "</desc>\n" ++ (chart_body d drawn (tasks_in drawn) (steps_in drawn) step ++ codes "</svg>\n")))
    ≡ chart_of d drawn step
parts-are d [] step e = absurd (cc)
parts-are d (a ∷ drawn) step e = refl

pub chart-parts : (d : Desk) (drawn : List Arrow) (tasks steps : List ℕ) (step : ℕ) → tasks ≡ tasks_in drawn → steps ≡ steps_in drawn → is_some drawn ≡ true
    → figure_open CHART_WIDTH (chart_foot steps + CHART_EDGE) title
    ++ (escape (flat_map (arrow_sentence d) drawn) ++ (codes "</desc>\n" ++ (chart_body d drawn tasks steps step ++ codes "</svg>\n")))
    ≡ chart_of d drawn step
chart-parts d drawn tasks steps step p q some =
    ap₂ (λ ts ss. figure_open CHART_WIDTH (chart_foot ss + CHART_EDGE) title
    ++ (escape (flat_map (arrow_sentence d) drawn) ++ (codes "</desc>\n" ++ (chart_body d drawn ts ss step ++ codes "</svg>\n")))) p q
    ∙ parts-are d drawn step some

-- arrows that are seen are some
pub ways-some : (ws : List MessageArrow) → 0 < length ws → is_some (arrows_seen ws) ≡ true
ways-some [] few = absurd (omega (arith, few))
ways-some (w ∷ ws) few = some-more (arrow_of w) (arrows_seen ws)

-- some messages have arrows
pub drawn-some : (ws : List MessageArrow) (notes : List Note) → arrows_seen ws ≡ arrows notes → (length notes == 0) ≡ false → 0 < length ws
drawn-some [] [] e some = absurd (cc)
drawn-some [] (n ∷ notes) e some = absurd (cc)
drawn-some (w ∷ ws) notes e some = omega arith

-- the queue isn't seen
pub chart-seen : (d : Desk) (drawn : List Arrow) (step : ℕ) → chart_of d drawn step ≡ chart_of (with_queue [] d) drawn step
chart-seen d [] step = refl
chart-seen d (a ∷ drawn) step = refl

-- one arrow more was written
pub one-more : (f : Arrow → Text) (ws : List MessageArrow) (i : ℕ) (none : MessageArrow) (o m n : Text) → i < length ws
    → m ≡ o ++ flat_map f (arrows_seen (take i ws)) → n ≡ m ++ f (arrow_of (get_or ws i none))
    → n ≡ o ++ flat_map f (arrows_seen (take (i + 1) ws))
one-more f ws i none o m n inside before next =
    simp (next, before, take_more ws i none inside, map-append arrow_of, flat_map-append f, append_assoc, append-nil)
