-- Worked runs of what blocks of a C heap are, and a run with one definition changed, on which claimed_law fails.
use Rattle.rh_laws.proofs.Common.{◌≡◌, ℕ, List, [], ◌∷◌, ◌++◌, Option, Some, None, map, refl, arith, codes, find, Ok, hex_on_literals, String, NotOpen, script}
use Rattle.rh_laws.proofs.Common.{Incoming, Granted, ◌>>=◌, found_or, or_else, in_id, with_id, Desk, Task, named, task_at, with_taking, Answer, after, fresh}
use Rattle.rh_defs.specs.declared.reply.Reply.TheVariants as reply
use Rattle.rh_defs.specs.declared.transfer.Incoming.TheVariants as incoming
use Rattle.rh_defs.specs.Receiver as receiver
use Rattle.rh_defs.specs.Inner.Computing.{computing_script}
use Rattle.rh_laws.specs.Claimed.{IsAccounted, claimed, holders, size_at}

-- ---- a block that is claimed beside a buffer

-- a block of 20 bytes is claimed, and a transfer fetches by a buffer of 5
abbrev fetching : List String
fetching = "task a 4" ∷ "task b 5" ∷ "claim b 20" ∷ "alloc a 0 6" ∷ "save a 0 b doc" ∷ "poll b" ∷ []

-- of each address: the block's size, what is claimed, and how many records have it as their buffer
pub record Row : Type 0 where
  pub size : Option ℕ
  pub claim : Option ℕ
  pub holding : ℕ

abbrev row_of : Option Task → Option ℕ → ℕ → Row
row_of None claim address = record { size = None; claim = claim; holding = 0 }
row_of (Some t) claim address = record { size = size_at t.slot address; claim = claim; holding = holders address t.taking }

-- the rows of the second task after the lines
abbrev rows : List String → List ℕ → List Row
rows lines addresses =
    map (λ address. row_of (task_at 2 (after fresh (script lines))) (claimed fresh (script lines) 2 address) address) addresses

block_and_buffer : rows fetching (0x8114 ∷ 0x812c ∷ 0x813c ∷ []) ≡
    (record { size = Some 20; claim = Some 20; holding = 0 })
    ∷ (record { size = Some 12; claim = None; holding = 1 })
    ∷ (record { size = None; claim = None; holding = 0 })
    ∷ []
unfolding computing_script hex_on_literals
block_and_buffer = refl

-- the claimed block, made one of 30 bytes, moves above the buffer, and the transfer's end releases the buffer
moved_block : rows (fetching ++ "resize b &8114 10" ∷ "poll a" ∷ "poll b" ∷ "poll a" ∷ "poll b" ∷ []) (0x8114 ∷ 0x812c ∷ 0x813c ∷ []) ≡
    (record { size = None; claim = None; holding = 0 })
    ∷ (record { size = None; claim = None; holding = 0 })
    ∷ (record { size = Some 36; claim = Some 36; holding = 0 })
    ∷ []
unfolding computing_script hex_on_literals
moved_block = refl

-- ---- a cancel that ends the transfer and leaves its buffer

abbrev forgotten : Incoming → Incoming
forgotten (incoming.Fetching f) = incoming.Failed f.id f.anchor f.count
forgotten w = receiver.cancelled w

abbrev cancels_record : Desk → List ℕ → Option ℕ → Granted Answer
cancels_record d name id = do
  t ← named name d
  w ← found_or (find (receiver.is_wanted id) t.taking) NotOpen
  Ok (with_taking t.handle (with_id in_id (in_id w) (forgotten w)) d, reply.Done)

abbrev at_cancel : Desk
at_cancel = after fresh (script fetching)

abbrev cancelled_so : Answer
cancelled_so = or_else (cancels_record at_cancel (codes "b") None) (λ refusal. (at_cancel, reply.Refused refusal))

-- the buffer's block is still there, which nobody claimed and no record holds
leaked_buffer : row_of (task_at 2 cancelled_so.0) (claimed fresh (script fetching) 2 0x812c) 0x812c ≡
    record { size = Some 12; claim = None; holding = 0 }
unfolding computing_script hex_on_literals
leaked_buffer = refl

-- such a block is not accounted for
wrong_law : IsAccounted (Some 12) None 0 → ⊥
wrong_law w = absurd (let z = w.count in omega (arith, z))

-- as the definitions have it, the record keeps the buffer until its fetch comes back
right_buffer : rows (fetching ++ "cancel b in" ∷ []) (0x812c ∷ []) ≡ (record { size = Some 12; claim = None; holding = 1 }) ∷ []
unfolding computing_script hex_on_literals
right_buffer = refl
