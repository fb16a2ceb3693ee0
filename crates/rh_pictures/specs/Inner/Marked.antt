-- Characters of pages, owner by owner.
use Rattle.std.specs.Prelude.{ℕ, suc, ◌==◌, ◌&&◌, if◌then◌else◌, List, [], ◌∷◌, Some, map}
use Rattle.std.specs.List.{list_any, enumerate_from}
use Rattle.rh_defs.specs.Desk.{Made, Task}
use Rattle.rh_figure.specs.Share.{Share, AreaOf, SlotOf}
use Rattle.rh_figure.specs.Rows.{owner_mark, letter_at}

-- a row of characters, where those of these pages that were free have the mark now
abbrev pub marked : List ℕ → ℕ → List ℕ → List ℕ
marked pages mark marks =
    map (λ (at : ℕ × ℕ). if at.1 == 46 && list_any (λ n. n == at.0) pages then mark else at.1) (enumerate_from 0 marks)

-- a row of characters, where the free pages of each of these owners have the owner's mark now
abbrev pub marked_all : List (List ℕ × ℕ) → List ℕ → List ℕ
marked_all [] marks = marks
marked_all ((pages, mark) ∷ owners) marks = marked_all owners (marked pages mark marks)

-- the pages and the mark of a made area
abbrev pub made_pages : Share → Made → List ℕ × ℕ
made_pages s m = (s.pages_of (AreaOf m.number), owner_mark [] (AreaOf m.number))

-- those of slots, of which the first stands at a place
abbrev pub slot_pages_from : Share → ℕ → List Task → List (List ℕ × ℕ)
slot_pages_from s i [] = []
slot_pages_from s i (t ∷ tasks) = (s.pages_of (SlotOf t.handle), letter_at (Some i)) ∷ slot_pages_from s (suc i) tasks
