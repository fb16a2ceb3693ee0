-- The words of a picture. Read Text of rh_defs first. t is a text, n a number, h a handle, k the number of an area, d a
-- desk. `-` of naturals doesn't have to stop: a text is cut only to at least 2 bytes, and a list has more than
-- *MOST_LISTED*.
use Rattle.std.specs.Prelude.{ℕ, ◌-◌, ◌==◌, nat_le, nat_lt, Bool, true, false, if◌then◌else◌, List, [], ◌∷◌, ◌++◌, length, take, filter, not, codes, Option, Some, None}
use Rattle.std.specs.List.{concat, join_by}
use Rattle.std.specs.Fmt.{decimal}
use Rattle.hex.specs.Hex.{encode_lower}
use Rattle.rh_defs.specs.declared.message.Action.{Action}
use Rattle.rh_defs.specs.declared.message.EventCode.{EventCode}
use Rattle.rh_defs.specs.declared.message.EventCode.TheVariants.{Acknowledge}
use Rattle.rh_defs.specs.Messages.{Parcel, action_of}
use Rattle.rh_defs.specs.Desk.{Desk, Task, task_at}
use Rattle.rh_defs.specs.Text.{action_name}
use Rattle.rh_figure.specs.Share.{Owner, AreaOf, SlotOf}
use Rattle.rh_figure.specs.declared.limits.TheConstants.{MOST_LISTED, CARD_BYTES}

-- a text as a list of bytes
abbrev pub Text : Type 0
Text = List ℕ

-- a text, cut with two dots behind it where it is longer than n
abbrev pub cut : ℕ → Text → Text
cut n t = if nat_le (length t) n then t else take (n - 2) t ++ codes ".."

-- the text where the condition holds, else no text
abbrev pub where_so : Bool → Text → Text
where_so b t = if b then t else []

-- texts that are not empty, with a comma between them
abbrev pub commas : List Text → Text
commas ts = join_by (λ t. t) (codes ", ") (filter (λ (t : Text). not (length t == 0)) ts)

abbrev pub size_text : ℕ → Text
size_text n = if n == 1 then codes "1 byte" else decimal n ++ codes " bytes"

abbrev pub pages_text : ℕ → Text
pages_text n = if n == 1 then codes "1 page" else decimal n ++ codes " pages"

-- the first bytes of a block
abbrev pub bytes_text : List ℕ → Text
bytes_text bs = encode_lower (take CARD_BYTES bs) ++ where_so (nat_lt CARD_BYTES (length bs)) (codes "..")

-- how many of a list of n aren't named
abbrev pub and_more : ℕ → Text
and_more n = where_so (nat_lt MOST_LISTED n) (concat (codes " and " ∷ decimal (n - MOST_LISTED) ∷ codes " more" ∷ []))

-- the first of some numbers, and how many more there are
abbrev pub listed_numbers : List ℕ → Text
listed_numbers ns = join_by decimal (codes " ") (take MOST_LISTED ns) ++ and_more (length ns)

-- ---- names

abbrev pub name_or : ℕ → Option Task → Text
name_or h None = codes "task " ++ decimal h
name_or h (Some t) = t.name

-- the name of the live task with the handle, else its handle
abbrev pub task_name : Desk → ℕ → Text
task_name d h = name_or h (task_at h d)

-- the name of an area
abbrev pub area_name : ℕ → Text
area_name k =
    if k == 0 then codes "System heap"
    else if k == 1 then codes "Module area"
    else if k == 2 then codes "Screen"
    else if k == 3 then codes "Sprites"
    else if k == 4 then codes "Fonts"
    else if k == 5 then codes "RAM disc"
    else codes "Area " ++ decimal k

abbrev pub owner_name : Desk → Owner → Text
owner_name d (AreaOf k) = area_name k
owner_name d (SlotOf h) = codes "Slot " ++ task_name d h

-- whether a message comes back to its sender
abbrev pub is_returned : EventCode → Bool
is_returned Acknowledge = true
is_returned _ = false

-- a message by its ref, action and event code: whether it comes back is told
abbrev pub entry_text : ℕ → Action → EventCode → Text
entry_text ref action code =
    concat (decimal ref ∷ codes " " ∷ action_name action ∷ where_so (is_returned code) (codes " back") ∷ [])

abbrev pub message_text : Parcel → Text
message_text p = entry_text p.message.my_ref (action_of p.message.body) p.code
