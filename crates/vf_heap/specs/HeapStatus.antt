-- Statuses: how a call ended, as a number.
use Rattle.std.specs.Prelude.{ℕ, ◌==◌, ◌+◌, ◌-◌, ◌*◌, ◌/◌, nat_le, nat_lt, ◌&&◌, ◌||◌, if◌then◌else◌, ℤ, List, length, take, Option, Some, None, Result, Ok, Err}
use Rattle.rh_defs.specs.Bytes.{word}
use Rattle.rh_defs.specs.Chain.{answer_of}
use Rattle.rh_defs.specs.Heap.{Heap, first_place, extend_by}
use Rattle.rh_defs.specs.HeapImage.{is_multiple, special_word, fault_of}
use Rattle.rh_defs.specs.Pieces.{moved}
use Rattle.rh_defs.specs.declared.heap.HeapFault.{HeapFault}
use Rattle.rh_defs.specs.declared.heap.HeapFault.TheVariants as fault
use Rattle.rh_defs.specs.declared.heap.HeapRefusal.{HeapRefusal}
use Rattle.rh_defs.specs.declared.heap.HeapRefusal.TheVariants.{NotABlock, BadSize, NoRoom, ExcessiveShrink}
use Rattle.rh_store.specs.declared.starts.TheConstants.{LINE_BYTES}
use Rattle.rh_store.specs.Limits.{area_limit}

-- the status of a refusal: its number in the one order of all refusals
abbrev pub refusal_status : HeapRefusal → ℕ
refusal_status NotABlock = 8
refusal_status BadSize = 14
refusal_status ExcessiveShrink = 15
refusal_status NoRoom = 20

-- no heap has so many bytes
abbrev pub bad_length : ℕ
bad_length = 33

-- the bytes are fewer than the heap's
abbrev pub short : ℕ
short = 34

-- the status of a fault
abbrev pub fault_status : HeapFault → ℕ
fault_status fault.BadDescriptor = 35
fault_status fault.BadLink = 36
fault_status fault.BadSize = 37

-- the status of the first fault, 0 where there is none
abbrev pub found_status : Option HeapFault → ℕ
found_status None = 0
found_status (Some f) = fault_status f

-- the status of an answer
abbrev pub answer_status : {A : Type 0} → Result A HeapRefusal → ℕ
answer_status (Ok x) = 0
answer_status (Err refusal) = refusal_status refusal

-- the number that is answered, or the old one
abbrev pub answer_or : Result ℕ HeapRefusal → ℕ → ℕ
answer_or (Ok n) old = n
answer_or (Err refusal) old = old

-- the status of a call that is granted this
abbrev pub status_of : {A : Type 0} → Result (Heap × A) HeapRefusal → ℕ
status_of granted = answer_status (answer_of granted)

-- the number that such a call answers, or the old one
abbrev pub number_or : Result (Heap × ℕ) HeapRefusal → ℕ → ℕ
number_or granted old = answer_or (answer_of granted) old

-- 0 where so many bytes can be made a heap: a multiple of 8 from 16 up to 1 GiB
unfoldable pub length_status : ℕ → ℕ
length_status n = if nat_le first_place n && nat_le n area_limit && is_multiple n then 0 else bad_length

-- 0 where the first bytes are those of a heap, as many as its own word at 12 says; else what is wrong first: how many
-- bytes there are, the word `Heap`, that they are fewer than the heap's, and then the heap's first fault
unfoldable pub image_status : List ℕ → ℕ
image_status b =
    if nat_lt (length b) first_place || nat_lt area_limit (length b) then bad_length
    else if word b 0 == special_word then
    (if nat_lt (length b) (word b 12) then short else found_status (fault_of (take (word b 12) b)))
    else fault_status fault.BadDescriptor

-- the status of moving a heap's end by delta bytes: it becomes a multiple of 8 that lies in n bytes, which are at most
-- 1 GiB, or it stays
unfoldable pub extend_status : ℕ → ℤ → Heap → ℕ
extend_status n delta h =
    if nat_lt area_limit n then bad_length
    else if nat_lt n (moved h.end delta) then short
    else if is_multiple (moved h.end delta) then answer_status (extend_by delta h)
    else bad_length

-- the words of a map for a heap of n bytes: two for each line of it, and for the bytes that are left
abbrev pub map_words : ℕ → ℕ
map_words n = 2 * ((n + (LINE_BYTES - 1)) / LINE_BYTES)

-- 0 where a map of so many words has enough of them for the heap
abbrev pub map_status : ℕ → Heap → ℕ
map_status words h = if nat_lt words (map_words h.end) then short else 0
