-- Calls on a slot and on the module area, against their rows of the table.
use Rattle.rh_laws.proofs.Common.{◌≡◌, ℕ, ◌+◌, Bool, true, false, List, [], ◌∷◌, length, Option, Some, None, inl, inr, refl, ap, arith, find, is_none}
use Rattle.rh_laws.proofs.Common.{is_some, ◌||◌, ◌==◌, nat_lt, if◌then◌else◌, Ok, list_any, option_map, bytes_eq, length-replicate, NoBlock, AnchorInUse}
use Rattle.rh_laws.proofs.Common.{NotABlock, Busy, BadSize, NoBudge, NoRoom, Granted, ◌>>=◌, found_or, refuse_if, FileList, Split, written, zeros, Heap}
use Rattle.rh_laws.proofs.Common.{Segment, module_claim, Flex, Slot, block_of, flex_address, flex_weight, heap_block_at, slot_alloc, slot_block, slot_claim}
use Rattle.rh_laws.proofs.Common.{slot_put, Desk, Task, free_pages, idle_block, Answer, free, leb_no}
use Rattle.rh_defs.specs.declared.refusal.Refusal.TheVariants.{NotYours}
use Rattle.rh_defs.specs.Files.{file_bytes}
use Rattle.rh_defs.specs.Slot.{IsFree, is_used, slot_length, with_block, with_block_bytes}
use Rattle.rh_defs.specs.Desk.{idle_buffer, is_busy_block, is_busy_buffer}
use Rattle.rh_defs.specs.Commands.{own_block}
use Rattle.rh_defs.proofs.SlotLaws.{block_of-at, find as at_anchor}
use Rattle.rh_laws.specs.RefusalOrder.{RefusalRow}
use Rattle.rh_laws.specs.RefusalRooms.{lacks, short_of}
use Rattle.rh_laws.specs.Conditions.{lacks_module_room, lacks_room_with, module_block, must_not_grow, not_a_module_block, not_yours}
use Rattle.rh_laws.proofs.RefusalSteps.{GoesBy, found_then, granted_then, in_steps, in_steps_both, refused_if}
use Rattle.rh_laws.proofs.RefusalRoomLaws.{need-short, room-same}

-- ---- blocks that no transfer uses

pub idle-then : (k : ℕ) (t : Task) (next : Split Flex → Granted Answer) (rows : List RefusalRow)
    → ((b : Split Flex) → block_of k t.slot ≡ Some b → GoesBy (next b) rows)
    → GoesBy (idle_block k t >>= next) ((NoBlock, is_none (block_of k t.slot)) ∷ (Busy, is_busy_block k t) ∷ rows)
unfolding idle_block slot_block
idle-then k t next rows f =
    in_steps _ _ _ _ (found_then (block_of k t.slot) NoBlock _ _ λ b e.
    in_steps_both _ _ _ _ (refused_if (is_busy_block k t) (is_busy_block k t) Busy _ _ refl λ no.
    granted_then _ _ _ _ refl (f b e)))

pub idle_buffer-then : (address : ℕ) (t : Task) (next : Split Segment → Granted Answer) (rows : List RefusalRow)
    → ((b : Split Segment) → heap_block_at address t.slot ≡ Some b → GoesBy (next b) rows)
    → GoesBy (idle_buffer address t >>= next)
    ((NotABlock, is_none (heap_block_at address t.slot)) ∷ (Busy, is_busy_buffer address t) ∷ rows)
unfolding idle_buffer
idle_buffer-then address t next rows f =
    in_steps _ _ _ _ (found_then (heap_block_at address t.slot) NotABlock _ _ λ b e.
    in_steps_both _ _ _ _ (refused_if (is_busy_buffer address t) (is_busy_buffer address t) Busy _ _ refl λ no.
    granted_then _ _ _ _ refl (f b e)))

-- ---- what is found

-- whether a member passes a test
pub any-found : {A : Type 0} (test : A → Bool) (xs : List A) → list_any test xs ≡ is_some (find test xs)
any-found test [] = refl
any-found {A} test (x ∷ xs) = go (test x) (any-found test xs)
  where
    go : (b : Bool) → list_any test xs ≡ is_some (find test xs)
        → (b || list_any test xs) ≡ is_some {T = A} (if b then Some x else find test xs)
    go true rest = refl
    go false rest = rest

-- an anchor that isn't used is no block's
free_of : (k : ℕ) (s : Slot) → is_used k s ≡ false → IsFree k s.blocks
free_of k s unused = elim (at_anchor k s.blocks) [
  | inl free ↦ free
  | inr at ↦ absurd (let found = block_of-at k s
      (record { before = at.before; here = at.here; after = at.after }) at.is at.free at.anchor in
      let used : is_used k s ≡ true = ap (λ (o : Option (Split Flex)). is_some o) found in cc)
]

-- ---- calls on a slot

-- a file is found where there is one of the name
pub file_named : (file : List ℕ) (files : FileList)
    → is_none (find (λ entry. bytes_eq entry.0 file) files) ≡ is_none (file_bytes file files)
file_named file files = go (find (λ entry. bytes_eq entry.0 file) files)
  where
    go : (o : Option (List ℕ × List ℕ)) → is_none o ≡ is_none (option_map (λ entry. entry.1) o)
    go None = refl
    go (Some entry) = refl

-- bytes can be put into a new block of their length
pub record IsLoaded (k : ℕ) (bytes : List ℕ) (s : Slot) : Type 0 where
  pub into : Slot
  pub granted : slot_put k 0 bytes (with_block k (zeros (length bytes)) s) ≡ Ok into

pub loaded : (k : ℕ) (bytes : List ℕ) (s : Slot) → is_used k s ≡ false → IsLoaded k bytes s
unfolding slot_put slot_block ◌>>=◌ found_or refuse_if
loaded k bytes s unused =
    let b : Split Flex = record { before = s.blocks; here = record { anchor = k; bytes = zeros (length bytes) }; after = [] } in
    let found : block_of k (with_block k (zeros (length bytes)) s) ≡ Some b =
    block_of-at k (with_block k (zeros (length bytes)) s) b refl (free_of k s unused) refl in
    let fits : nat_lt (length b.here.bytes) (0 + length bytes) ≡ false =
    leb_no _ _ (omega (arith, length-replicate {A = ℕ} (length bytes) 0)) in
    record {
      into = with_block_bytes b (written b.here.bytes 0 bytes) (with_block k (zeros (length bytes)) s);
      granted = rw found (rw fits refl);
    }

module _ (d : Desk) (t : Task) where
  -- a new block: where it is granted, its anchor was free
  pub alloc-then : (k n : ℕ) (next : Slot × ℕ → Granted Answer) (rows : List RefusalRow)
      → (is_used k t.slot ≡ false → GoesBy (next (with_block k (zeros n) t.slot, flex_address t.slot t.slot.blocks)) rows)
      → GoesBy (slot_alloc (free_pages d) k n t.slot >>= next) ((AnchorInUse, is_used k t.slot) ∷ (NoRoom, lacks_room_with n t d) ∷ rows)
  unfolding slot_alloc
  alloc-then k n next rows f =
      in_steps _ _ _ _ (refused_if _ _ AnchorInUse _ _ refl λ unused.
      in_steps _ _ _ _ (refused_if _ _ NoRoom _ _ (room-same (free_pages d) (slot_length t.slot + flex_weight n) t.slot) λ fits.
      granted_then _ _ _ _ refl (f unused)))

  pub claim-then : (n : ℕ) (next : Slot × ℕ → Granted Answer) → ((p : Slot × ℕ) → GoesBy (next p) [])
      → GoesBy (slot_claim (free_pages d) n t.slot >>= next)
      ((BadSize, n == 0) ∷ (NoBudge, must_not_grow (short_of n t.slot.heap) t) ∷ (NoRoom, lacks (short_of n t.slot.heap) d) ∷ [])
  unfolding slot_claim
  claim-then n next f =
      let short = need-short n t.slot.heap in
      in_steps _ _ _ _ (refused_if _ _ BadSize _ _ refl λ some.
      in_steps _ _ _ _ (refused_if _ _ NoBudge _ _ (ap (λ (x : ℕ). must_not_grow x t) short) λ may.
      in_steps _ _ _ _ (refused_if _ _ NoRoom _ _ (ap (λ (x : ℕ). lacks x d) short) λ fits.
      granted_then _ _ _ _ refl (f _))))

-- ---- calls on the module area

module _ (d : Desk) where
  pub module_claim-then : (n : ℕ) (next : Heap × ℕ → Granted Answer) → ((c : Heap × ℕ) → GoesBy (next c) [])
      → GoesBy (module_claim (free_pages d) n d.post.heap >>= next) ((BadSize, n == 0) ∷ (NoRoom, lacks_module_room n d) ∷ [])
  unfolding module_claim
  module_claim-then n next f =
      in_steps _ _ _ _ (refused_if _ _ BadSize _ _ refl λ some.
      in_steps _ _ _ _ (refused_if _ _ NoRoom _ _ (ap (λ (x : ℕ). lacks x d) (need-short n d.post.heap)) λ fits.
      granted_then _ _ _ _ refl (f _)))

  pub own_block-then : (address : ℕ) (next : Split Segment → Granted Answer) (rows : List RefusalRow)
      → ((b : Split Segment) → module_block address d ≡ Some b → GoesBy (next b) rows)
      → GoesBy (own_block address d >>= next) (not_a_module_block address d ∷ not_yours address d ∷ rows)
  unfolding own_block
  own_block-then address next rows f =
      in_steps _ _ _ _ (found_then (module_block address d) NotABlock _ _ λ b e.
      in_steps_both _ _ _ _ (refused_if _ _ NotYours _ _ refl λ no. granted_then _ _ _ _ refl (f b e)))
