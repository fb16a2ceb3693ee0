-- How the owners of pages are told apart: by a tag of three letters, and by a tint. Read Share of rh_figure first.
-- k is the number of an area, h a handle, d a desk. `-` of naturals stops at 0: of a short text all bytes are the last
-- ones.
use Rattle.std.specs.Prelude.{ℕ, ◌-◌, ◌%◌, ◌==◌, if◌then◌else◌, ◌++◌, length, take, drop, codes}
use Rattle.std.specs.Fmt.{decimal}
use Rattle.rh_defs.specs.Desk.{Desk, module_area}
use Rattle.rh_figure.specs.Share.{Owner, AreaOf, SlotOf}
use Rattle.rh_figure.specs.Phrases.{Text, task_name}
use Rattle.rh_sheet.specs.declared.sizes.TheConstants.{TAG_LETTERS, TINTS}

-- the last bytes of a text that may be longer
abbrev pub last_bytes : ℕ → Text → Text
last_bytes n t = drop (length t - n) t

-- the tag of an area; a made one has the last digits of its number
abbrev pub area_tag : ℕ → Text
area_tag k =
    if k == 0 then codes "sys"
    else if k == 1 then codes "mod"
    else if k == 2 then codes "scr"
    else if k == 3 then codes "spr"
    else if k == 4 then codes "fnt"
    else if k == 5 then codes "ram"
    else last_bytes TAG_LETTERS (decimal k)

-- the tag of a slot, from its task's name
abbrev pub slot_tag : Text → Text
slot_tag name = take TAG_LETTERS name

-- the tag of an owner on its pages of the pool
abbrev pub owner_tag : Desk → Owner → Text
owner_tag d (AreaOf k) = area_tag k
owner_tag d (SlotOf h) = slot_tag (task_name d h)

-- the class of a task's tint; six take turns
abbrev pub task_class : ℕ → Text
task_class h = codes "t" ++ decimal ((h - 1) % TINTS)

-- the class of an area's tint
abbrev pub area_class : ℕ → Text
area_class k = if k == module_area then codes "m" else codes "o"

-- the class of an owner's tint
abbrev pub owner_class : Owner → Text
owner_class (AreaOf k) = area_class k
owner_class (SlotOf h) = task_class h
