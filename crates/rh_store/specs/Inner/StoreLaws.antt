-- Why the laws of `Store` hold of any memory that is made of pages.
use Rattle.std.specs.Prelude.{◌≡◌, ℕ, ◌+◌, ◌*◌, ◌%◌, ◌≤◌, Bool, true, false, List, [], length, Some, None, cond, unwrap_or, refl}
use Rattle.std.proofs.Common.{inl, inr, arith}
use Rattle.std.proofs.lemmas.Bool.{cases_lt}
use Rattle.rh_defs.specs.declared.sizes.TheConstants.{MAX_PAGES, PAGE}
use Rattle.rh_defs.specs.Memory.{Memory, Ledger, bytes}
use Rattle.rh_defs.proofs.MemoryLaws.{pages_below-one}
use Rattle.rh_store.specs.Limits.{area_limit, pool_limit}

-- bytes that are shown or not are whole pages, where the bytes are
pub whole_shown : (b : Bool) (bs : List ℕ) → length bs % PAGE ≡ 0 → length (unwrap_or (cond b (Some bs) None) []) % PAGE ≡ 0
whole_shown true bs h = h
whole_shown false bs h = refl

-- bytes that are shown or not are no longer than the bytes are
pub short_shown : (b : Bool) (bs : List ℕ) (n : ℕ) → length bs ≤ n → length (unwrap_or (cond b (Some bs) None) []) ≤ n
short_shown true bs n h = h
short_shown false bs n h = omega arith

-- free pages and one area are no more than the pool, by the ledger of all areas below a limit
pub within_ledger : (m : Memory) (limit id : ℕ) → Ledger m limit → length (bytes m id) % PAGE ≡ 0 → (limit ≤ id → length (bytes m id) ≡ 0)
    → PAGE * m.free + length (bytes m id) ≤ PAGE * m.pages
unfolding bytes
within_ledger m limit id sum whole past = elim (cases_lt id limit) [
  | inl h ↦ let one = pages_below-one m.area id limit h in omega arith
  | inr h ↦ let none = past h in omega arith
]

pub few_pages : (pages : ℕ) → pages ≤ MAX_PAGES → pages ≤ pool_limit
few_pages pages few = omega arith

-- an area within a pool of so few pages has no more bytes than an area may have
pub small_within : (m : Memory) (id : ℕ) → m.pages ≤ MAX_PAGES → PAGE * m.free + length (bytes m id) ≤ PAGE * m.pages → length (bytes m id) ≤ area_limit
small_within m id few within = omega arith
