-- Items that are put into a list from an index on.
use Rattle.std.specs.Prelude.{◌≡◌, ℕ, ◌-◌, List, [], ◌++◌, length, slice_get, take, drop, Option, Some, None}
use Rattle.rh_defs.specs.declared.question.SegmentItem.{SegmentItem}
use Rattle.vf_desk.specs.declared.lists.SegmentRun.{SegmentRun}
use Rattle.vf_desk.specs.Console.{filled_front}

-- the old list with the items in place of those from an index on, as many as it has room for
abbrev pub filled_from : {A : Type 0} → ℕ → List A → List A → List A
filled_from at items old = take at old ++ filled_front items (drop at old)

-- how many segments there are, and the last one; nothing where there are none
abbrev pub IsRun : List SegmentItem → Option SegmentRun → Type 0
IsRun items None = [] ≡ items
IsRun items (Some run) = (run.count ≡ length items) × (Some run.last ≡ slice_get items (length items - 1))
