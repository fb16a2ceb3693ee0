-- How far a map has come, and the lines of its step.
use Rattle.std.specs.Prelude.{◌≡◌, ◌++◌, ◌&&◌, not, Bool, List, ℕ, Option}
use Rattle.rh_defs.specs.declared.command.Command.{Command}
use Rattle.rh_defs.specs.declared.reply.Reply.{Reply}
use Rattle.rh_defs.specs.Desk.{Desk}
use Rattle.rh_defs.specs.Line.{Meaning}
use Rattle.rh_figure.specs.Share.{Share, IsShared}
use Rattle.rh_figure.specs.Phrases.{Text}
use Rattle.rh_figure.specs.Scene.{Before, is_still, marks_of, scene_of}
use Rattle.rh_figure.specs.Map.{after_read, lines_of_read, step_lines, written_lines}
use Rattle.rh_pictures.specs.DrawnPlaces.{Follows, place_in}
use Rattle.rh_pictures.specs.declared.map.mapper.Mapper.{Mapper}

-- two maps stand at one place, whatever they drew a step with
pub record IsSamePlace {D : Type 0} (m n : Mapper D) : Type 0 where
  pub drawn_is : n.drawn ≡ m.drawn
  pub marked_is : n.marked ≡ m.marked
  pub lines : n.lines ≡ m.lines
  pub wanted : n.wanted ≡ m.wanted
  pub bad : n.has_bad_line ≡ m.has_bad_line

-- the lines of a step, on the desk behind it
abbrev pub lines_of_step : Bool → ℕ → Text → Text → Desk → Share → Before → Option Command → Reply → List Text
lines_of_step wanted number line reply d s b c r =
    step_lines (is_still c r && not wanted) number line reply (scene_of d s b (marks_of d b c r))

-- a pen was offered the lines of one line of a script, with some share of the pool behind it
pub record Offers {D : Type 0} (desk : D → Desk) (m : Mapper D) (line : Text) (meaning : Meaning (Option Command)) (n : Mapper D)
    (old new : List ℕ) : Type 0 where
  pub share : Share
  pub shared : IsShared share (after_read (place_in desk m) (line, meaning)).desk
  pub offered : new ≡ old ++ written_lines (lines_of_read m.marked share (place_in desk m) (line, meaning))
  pub follows : Follows desk m (line, meaning) n
