-- Looks at the named task for a block that isn't busy.
use Rattle.rh_tasks.proofs.Common.{◌≡◌, ℕ, ◌-◌, Bool, true, false, refl, sym, ◌∙◌, List, Option, Some, None, Ok, Err, IsOk, ok_or, ◌||◌, list_any, option_map}
use Rattle.rh_tasks.proofs.Common.{position, Memory, Refusal, NoName, NotABlock, Busy, Granted, ◌>>=◌, ◌>>◌, refuse_if, found_or, Split, Segment, block_at}
use Rattle.rh_tasks.proofs.Common.{block_size, Task, idle_block, idle_buffer, slot_in, Seat, is_named, task_of, FoundSeat, looked, begins, ends}
use Rattle.rh_defs.specs.Slot as plain
use Rattle.rh_defs.specs.Records.{is_source, is_document, is_buffer_of}
use Rattle.rh_tasks.proofs.Finding.{nobody-named, somebody-named}

-- no task has the name
pub looked-none : {B : Type 0} (look : Task → Granted B) (m : Memory) (name : List ℕ) (seats : List Seat) → position (is_named name) seats ≡ None
    → looked look m name seats ≡ Err NoName
looked-none look m name seats h = ends _ (nobody-named m name seats h)

-- what the look at the task gives
pub looked-at : {B : Type 0} {name : List ℕ} {seats : List Seat} {i : ℕ} {s : Seat} (look : Task → Granted B) (m : Memory) {g : Granted B}
    → FoundSeat name seats i s → look (task_of m s) ≡ g → looked look m name seats ≡ g
looked-at look m f e = begins _ (somebody-named m f) e

-- ---- a step that finds a block, and one that asks whether it is busy

missed : {A B : Type 0} (g : Granted A) (size : A → ℕ) (next : A → Granted B) (r : Refusal) → Err r ≡ (g >>= λ a. Ok (size a)) → (g >>= next) ≡ Err r
unfolding ◌>>=◌
missed (Ok a) size next r e = absurd cc
missed (Err q) size next r e = let same : q ≡ r = cc in rw same refl

busy-if : {A : Type 0} (g : Granted A) (size : A → ℕ) (b : Bool) (n : ℕ) → Ok n ≡ (g >>= λ a. Ok (size a)) → b ≡ true
    → (g >>= λ a. refuse_if b Busy >> (let r : Granted A = Ok a in r)) ≡ Err Busy
unfolding ◌>>=◌ ◌>>◌ refuse_if
busy-if (Ok a) size b n e is = rw is refl
busy-if (Err r) size b n e is = absurd cc

idle-if : {A : Type 0} (g : Granted A) (size : A → ℕ) (b : Bool) (n : ℕ) → Ok n ≡ (g >>= λ a. Ok (size a)) → b ≡ false
    → IsOk (g >>= λ a. refuse_if b Busy >> Ok a)
unfolding ◌>>=◌ ◌>>◌ refuse_if
idle-if (Ok a) size b n e is = rw is refl
idle-if (Err r) size b n e is = absurd cc

-- a block's size is asked for
asked : (o : Option (Split Segment)) (size : Split Segment → ℕ) → ok_or (option_map size o) NotABlock ≡ (found_or o NotABlock >>= λ a. Ok (size a))
unfolding ◌>>=◌ found_or
asked None size = refl
asked (Some s) size = refl

module _ (m : Memory) (s : Seat) (k : ℕ) where
  pub block-missing : {r : Refusal} → Err r ≡ plain.slot_size k (slot_in m s.slot) → idle_block k (task_of m s) ≡ Err r
  unfolding plain.slot_size idle_block task_of
  block-missing {r} e = missed (plain.slot_block k (slot_in m s.slot)) _ _ r e

  module _ {n : ℕ} (is : Ok n ≡ plain.slot_size k (slot_in m s.slot)) where
    pub block-busy : (list_any (is_source k) s.sending || list_any (is_document k) s.taking) ≡ true → idle_block k (task_of m s) ≡ Err Busy
    unfolding plain.slot_size idle_block task_of
    block-busy e = busy-if (plain.slot_block k (slot_in m s.slot)) _ _ n is e

    pub block-idle : (list_any (is_source k) s.sending || list_any (is_document k) s.taking) ≡ false → IsOk (idle_block k (task_of m s))
    unfolding plain.slot_size idle_block task_of
    block-idle e = idle-if (plain.slot_block k (slot_in m s.slot)) _ _ n is e

not-busy : {A : Type 0} (g : Granted A) (b : Bool) → b ≡ false → (g >>= λ a. refuse_if b Busy >> Ok a) ≡ g
unfolding ◌>>=◌ ◌>>◌ refuse_if
not-busy (Ok a) b e = rw e refl
not-busy (Err r) b e = refl

none-found : {A : Type 0} (o : Option A) (r : Refusal) → found_or o NotABlock ≡ Err r → (o ≡ None) × (r ≡ NotABlock)
unfolding found_or
none-found None r e = (refl, let q : NotABlock ≡ r = cc in sym q)
none-found (Some x) r e = absurd cc

module _ (m : Memory) (s : Seat) (address : ℕ) where
  pub buffer-missing : {r : Refusal} → Err r ≡ ok_or (block_size (address - plain.heap_start) (slot_in m s.slot).heap) NotABlock
      → idle_buffer address (task_of m s) ≡ Err r
  unfolding idle_buffer task_of
  buffer-missing {r} e =
      let o = block_at (address - plain.heap_start) (slot_in m s.slot).heap in
      missed (found_or o NotABlock) _ _ r (rw (asked o _) at e)

  module _ {n : ℕ} (is : Ok n ≡ ok_or (block_size (address - plain.heap_start) (slot_in m s.slot).heap) NotABlock) where
    pub buffer-busy : list_any (is_buffer_of address) s.taking ≡ true → idle_buffer address (task_of m s) ≡ Err Busy
    unfolding idle_buffer task_of
    buffer-busy e =
        let o = block_at (address - plain.heap_start) (slot_in m s.slot).heap in
        busy-if (found_or o NotABlock) _ _ n (rw (asked o _) at is) e

  -- where no transfer has its buffer at the address, the look is refused only where no block is there
  pub buffer-none : list_any (is_buffer_of address) s.taking ≡ false → (r : Refusal) → idle_buffer address (task_of m s) ≡ Err r
      → (plain.heap_block_at address (slot_in m s.slot) ≡ None) × (r ≡ NotABlock)
  unfolding idle_buffer task_of
  buffer-none e r q =
      let o = plain.heap_block_at address (slot_in m s.slot) in
      none-found o r (sym (not-busy (found_or o NotABlock) _ e) ∙ q)
