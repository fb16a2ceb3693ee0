-- The one area of lent bytes: what its bytes are, and what an edit of them makes of the memory.
use Rattle.rh_lent_heap.proofs.Common.{◌≡◌, ℕ, ◌==◌, cond, Bool, true, false, List, refl, sym, ap, ◌∙◌, arith, Option, Some, None, IsSome, area_set, bytes}
use Rattle.rh_lent_heap.proofs.Common.{lent_memory, memory_over, memory_shown}
use Rattle.std.proofs.lemmas.Bool.Decides.{nat_tests}
use Rattle.rh_defs.specs.Memory.{Memory, IsOpen, with_bytes}
use Rattle.rh_defs.proofs.MemoryLaws.{area_set-area_set}
use Rattle.rh_lent_heap.specs.declared.lent.Lent.{Lent}
use Rattle.rh_lent_heap.specs.declared.lent_mut.LentMut.{LentMut}

only_true : (b : Bool) (bs : List ℕ) → IsSome (cond b (Some bs) None) → b ≡ true
only_true true bs h = refl
only_true false bs h = absurd cc

is_zero : (id : ℕ) → (id == 0) ≡ true → id ≡ 0
is_zero id h = grind (arith, nat_tests)

-- the area of the bytes is open
pub over-open : (bs : List ℕ) (loan : ℕ) → IsOpen (memory_over bs loan) 0
unfolding memory_over area_set
over-open bs loan = refl

bytes_over : (bs : List ℕ) (loan id : ℕ) → IsOpen (memory_over bs loan) id → bytes (memory_over bs loan) id ≡ bs
unfolding memory_over area_set bytes
bytes_over bs loan id o = rw (only_true (id == 0) bs o) refl

open_zero : (bs : List ℕ) (loan id : ℕ) → IsOpen (memory_over bs loan) id → id ≡ 0
unfolding memory_over area_set
open_zero bs loan id o = is_zero id (only_true (id == 0) bs o)

over_of : List ℕ → ℕ → (ℕ → Option (List ℕ)) → Memory
over_of bs loan area = record { area = area; free = 0; pages = 0; loan = loan }

set_at_zero : (bs xs : List ℕ) (loan : ℕ) → memory_over xs loan ≡ with_bytes (memory_over bs loan) 0 xs
unfolding memory_over with_bytes over_of
set_at_zero bs xs loan = ap (over_of bs loan) (sym (area_set-area_set (λ k. None) 0 (Some bs) (Some xs)))

set_over : (bs xs : List ℕ) (loan id : ℕ) → IsOpen (memory_over bs loan) id
    → memory_over xs loan ≡ with_bytes (memory_over bs loan) id xs
set_over bs xs loan id o =
    set_at_zero bs xs loan ∙ ap (λ k. with_bytes (memory_over bs loan) k xs) (sym (open_zero bs loan id o))

-- an open area's bytes are the lent ones
pub lent_bytes : (s : LentMut) (id : ℕ) → IsOpen (lent_memory s) id → bytes (lent_memory s) id ≡ s.bytes.now
unfolding lent_memory
lent_bytes s id o = bytes_over s.bytes.now s.bytes.ghost_name id o

pub shown_bytes : (s : Lent) (id : ℕ) → IsOpen (memory_shown s) id → bytes (memory_shown s) id ≡ s.bytes.now
unfolding memory_shown
shown_bytes s id o = bytes_over s.bytes.now 0 id o

-- an edit of the lent bytes is that edit of the area's
pub edited : (s : LentMut) (id : ℕ) (edit : List ℕ → List ℕ) (new : List ℕ) → IsOpen (lent_memory s) id
    → new ≡ edit s.bytes.now
    → memory_over new s.bytes.ghost_name ≡ with_bytes (lent_memory s) id (edit (bytes (lent_memory s) id))
unfolding lent_memory
edited s id edit new o e =
    set_over s.bytes.now new s.bytes.ghost_name id o
    ∙ ap (with_bytes (lent_memory s) id) (e ∙ ap edit (sym (lent_bytes s id o)))
