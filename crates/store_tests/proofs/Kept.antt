-- Open areas stay open, whatever a call does to one of them.
use Rattle.std.proofs.Common.{◌≡◌, ◌≢◌, ℕ, List, subst, sym, inl, inr}
use Rattle.std.specs.Prelude.{IsSome}
use Rattle.std.proofs.lemmas.Bool.{cases_eq}
use Rattle.rh_defs.specs.Memory.{Memory, IsOpen, with_bytes, opened, grown, shrunk}
use Rattle.rh_defs.proofs.MemoryLaws.{IsOpen-with_bytes, IsOpen-opened, IsOpen-grown, IsOpen-shrunk, area-with_bytes, area-opened, area-grown, area-shrunk}

-- one area is open now, and the others are as they were
kept : (m l : Memory) (id n : ℕ) → IsOpen l id → ((j : ℕ) → j ≢ id → l.area j ≡ m.area j) → IsOpen m n → IsOpen l n
kept m l id n here others h = elim (cases_eq n id) [
  | inl same ↦ subst (IsOpen l) (sym same) here
  | inr apart ↦ subst IsSome (sym (others n apart)) h
]

pub kept-with_bytes : (m : Memory) (id : ℕ) (bs : List ℕ) (n : ℕ) → IsOpen m n → IsOpen (with_bytes m id bs) n
kept-with_bytes m id bs n = kept m (with_bytes m id bs) id n (IsOpen-with_bytes m id bs) (area-with_bytes m id bs)

pub kept-opened : (m : Memory) (id n : ℕ) → IsOpen m n → IsOpen (opened m id) n
kept-opened m id n = kept m (opened m id) id n (IsOpen-opened m id) (area-opened m id)

pub kept-grown : (m : Memory) (id pages n : ℕ) → IsOpen m n → IsOpen (grown m id pages) n
kept-grown m id pages n = kept m (grown m id pages) id n (IsOpen-grown m id pages) (area-grown m id pages)

pub kept-shrunk : (m : Memory) (id pages n : ℕ) → IsOpen m n → IsOpen (shrunk m id pages) n
kept-shrunk m id pages n = kept m (shrunk m id pages) id n (IsOpen-shrunk m id pages) (area-shrunk m id pages)

pub ruleset kept_laws = (kept-with_bytes, kept-opened, kept-grown, kept-shrunk, IsOpen-opened)
