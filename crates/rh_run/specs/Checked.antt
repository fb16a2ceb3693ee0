-- What is printed of bytes that may be a heap.
use Rattle.std.specs.Prelude.{ℕ, List, [], ◌∷◌, codes, Option, Some, None, is_some}
use Rattle.std.specs.Fmt.{decimal}
use Rattle.rh_defs.specs.declared.heap.HeapFault.{HeapFault}
use Rattle.rh_defs.specs.declared.heap.HeapFault.TheVariants.{BadDescriptor, BadLink, BadSize}
use Rattle.rh_defs.specs.HeapImage.{heap_of, fault_of}
use Rattle.rh_defs.specs.Text.{line, ok}
use Rattle.rh_heap.specs.declared.image.Summary.{Summary}
use Rattle.rh_heap.specs.HeapChecks.{summary_of}
use Rattle.rh_session.specs.declared.status.Status.{Status}
use Rattle.rh_session.specs.Outcome.{status_of}

-- a fault's name as it is printed
abbrev pub fault_name : HeapFault → List ℕ
fault_name BadDescriptor = codes "BadDescriptor"
fault_name BadLink = codes "BadLink"
fault_name BadSize = codes "BadSize"

-- the line of a fault
abbrev pub fault_line : HeapFault → List ℕ
fault_line fault = line (codes "bad") (fault_name fault ∷ [])

-- the line of a heap's sums: USED, USEDBYTES, HOLES, HOLEBYTES, TOP
abbrev pub sums_line : Summary → List ℕ
sums_line s = ok (decimal s.used ∷ decimal s.used_bytes ∷ decimal s.holes ∷ decimal s.hole_bytes ∷ decimal s.top ∷ [])

-- the first fault, or else what a heap consists of
abbrev pub checked_line : Option HeapFault → Summary → List ℕ
checked_line None sums = sums_line sums
checked_line (Some fault) sums = fault_line fault

-- the line of some bytes
abbrev pub image_line : List ℕ → List ℕ
image_line image = checked_line (fault_of image) (summary_of (heap_of image 0))

-- clean exactly where the bytes are a heap
abbrev pub image_status : List ℕ → Status
image_status image = status_of (is_some (fault_of image))
