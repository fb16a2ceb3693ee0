-- What the description of a heap promises: which claims are granted without growth, and how the heap's bytes add up.
-- Read Heap and Questions of rh_defs first. h is a heap, d a desk, n a size, t a task.
use Rattle.std.specs.Prelude.{◌≡◌, ℕ, ◌+◌, ◌≤◌, Bool, false, ◌&&◌, nat_le, ◌==◌, List, length, is_none, is_ok}
use Rattle.std.specs.List.{AllByRecursion}
use Rattle.rh_defs.specs.declared.command.Command.TheVariants as command
use Rattle.rh_defs.specs.declared.question.Question.TheVariants as question
use Rattle.rh_defs.specs.declared.reply.Reply.{Reply}
use Rattle.rh_defs.specs.declared.question.Numbers.TheVariants as numbers
use Rattle.rh_defs.specs.declared.reply.Reply.TheVariants as reply
use Rattle.rh_defs.specs.Pieces.{round_up, total}
use Rattle.rh_defs.specs.Heap.{Heap, IsHeap, Segment, Used, Hole, claim_block, first_place, free_bytes, largest}
use Rattle.rh_defs.specs.Desk.{Desk, Task}
use Rattle.rh_defs.specs.Commands.{Answer, step}
use Rattle.rh_laws.specs.RefusalOrder.{refusal_in}

-- ---- a heap

-- the bytes of a block and its size word; none of a hole
abbrev pub used_size : Segment → ℕ
used_size (Used bytes) = 4 + length bytes
used_size (Hole size) = 0

-- the bytes that blocks take
abbrev pub used_bytes : Heap → ℕ
used_bytes h = total used_size h.segments

-- Without growth just the claims of 1 byte to the largest are granted. The descriptor, the used bytes and the free ones
-- are all that the heap has.
pub record IsHonest (h : Heap) : Type 0 where
  pub claims : (n : ℕ) → is_ok (claim_block n h) ≡ (nat_le 1 n && nat_le n (largest h))
  pub sums : first_place + used_bytes h + free_bytes h ≡ h.end

-- every heap's description is honest
abbrev pub AreHonest : Type 0
AreHonest = (h : Heap) → IsHeap h → IsHonest h

-- ---- a desk

-- the C heaps of the live tasks, and the heap of the module area
pub record HasHonestHeaps (d : Desk) : Type 0 where
  pub slots : AllByRecursion (λ (t : Task). IsHonest t.slot.heap) d.tasks
  pub module_area : IsHonest d.post.heap

-- what the task's heap is described as
abbrev pub described : Desk → List ℕ → Reply
described d name = (step d (command.Ask (question.Heap name))).1

-- the desk and the reply after the task has claimed n bytes
abbrev pub claim_answer : Desk → List ℕ → ℕ → Answer
claim_answer d name n = step d (command.Claim name n)

-- whether a reply describes a heap of so many bytes
abbrev pub has_size : ℕ → Reply → Bool
has_size size (reply.Answered (numbers.HeapSums other largest free)) = other == size
has_size size _ = false

-- the free bytes of the heap that a reply describes
abbrev pub free_in : Reply → ℕ
free_in (reply.Answered (numbers.HeapSums size largest free)) = free
free_in _ = 0

-- whether the task's claim of n bytes is granted, and its heap is then of so many bytes
abbrev pub is_granted_within : ℕ → Desk → List ℕ → ℕ → Bool
is_granted_within size d name n =
    is_none (refusal_in (claim_answer d name n).1) && has_size size (described (claim_answer d name n).0 name)

-- Where a task's heap is described by its size, its largest block and its free bytes, a claim of n bytes is granted
-- without growth just for 1 to the largest; it takes n bytes and a size word, in whole units of 8, from the free ones.
pub record ClaimsAsDescribed (d : Desk) : Type 0 where
  pub granted : (name : List ℕ) (size largest free n : ℕ) → described d name ≡ reply.Answered (numbers.HeapSums size largest free)
      → is_granted_within size d name n ≡ (nat_le 1 n && nat_le n largest)
  pub costs : (name : List ℕ) (size largest free n : ℕ) → described d name ≡ reply.Answered (numbers.HeapSums size largest free) → 1 ≤ n
      → n ≤ largest
      → free_in (described (claim_answer d name n).0 name) + round_up 8 (n + 4) ≡ free
