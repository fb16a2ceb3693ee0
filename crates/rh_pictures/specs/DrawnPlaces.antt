-- What a map has done with a line of its script.
use Rattle.std.specs.Prelude.{◌≡◌, ◌||◌, Bool, false, List, [], ◌∷◌, ℕ, Option, is_err}
use Rattle.rh_defs.specs.declared.command.Command.{Command}
use Rattle.rh_defs.specs.Line.{Meaning, line_means}
use Rattle.rh_defs.specs.Desk.{Desk}
use Rattle.rh_defs.specs.Order.{IsReordered}
use Rattle.rh_figure.specs.Share.{Share, IsShared}
use Rattle.rh_figure.specs.Phrases.{Text}
use Rattle.rh_figure.specs.Map.{Place, Read, after_read, lines_of_read, place, written_lines}
use Rattle.rh_pictures.specs.Deeds.{rest_means}
use Rattle.rh_pictures.specs.declared.map.mapper.Mapper.{Mapper}

-- where a map stands, by the desk that it looks at
abbrev pub place_in : {D : Type 0} → (D → Desk) → Mapper D → Place
place_in desk m = place (desk m.drawn) m.lines m.wanted

-- a map that has taken no line
pub record IsFirst {D : Type 0} (m : Mapper D) (drawn : D) (marked : Bool) : Type 0 where
  pub drawn_is : m.drawn ≡ drawn
  pub marked_is : m.marked ≡ marked
  pub lines : m.lines ≡ 0
  pub wanted : m.wanted ≡ false
  pub well : m.has_bad_line ≡ false

-- the second stands where the first does once a line was read, but for the order of messages to different tasks
pub record Follows {D : Type 0} (desk : D → Desk) (m : Mapper D) (r : Read) (n : Mapper D) : Type 0 where
  pub desk_is : IsReordered (after_read (place_in desk m) r).desk (desk n.drawn)
  pub marked_is : n.marked ≡ m.marked
  pub lines : n.lines ≡ (after_read (place_in desk m) r).lines
  pub wanted : n.wanted ≡ (after_read (place_in desk m) r).wanted
  pub bad : n.has_bad_line ≡ (m.has_bad_line || is_err r.1)

-- this text is what a map has of one line of a script, with some share of the pool behind it
pub record Drew {D : Type 0} (desk : D → Desk) (m : Mapper D) (line : Text) (meaning : Meaning (Option Command)) (n : Mapper D) (text : List ℕ) : Type 0 where
  pub share : Share
  pub shared : IsShared share (after_read (place_in desk m) (line, meaning)).desk
  pub text_is : text ≡ written_lines (lines_of_read m.marked share (place_in desk m) (line, meaning))
  pub follows : Follows desk m (line, meaning) n

-- the mapper drew a complete line
abbrev pub TookLine : {D : Type 0} → (D → Desk) → Mapper D → List ℕ → Mapper D → List ℕ → Type 0
TookLine desk m line n text = Drew desk m line (line_means line) n text

-- the mapper drew what stands behind the last line feed, or wrote nothing and stayed where that is nothing
abbrev pub TookRest : {D : Type 0} → (D → Desk) → Mapper D → List ℕ → Mapper D → List ℕ → Type 0
TookRest desk m [] n text = (n ≡ m) × (text ≡ [])
TookRest desk m (b ∷ bs) n text = Drew desk m (b ∷ bs) (rest_means (b ∷ bs)) n text
