-- Areas that are opened, and closed again.
use Rattle.std.proofs.Common.{inl, inr, ◌≡◌, ℕ, ◌+◌, ◌/◌, ◌≤◌, List, length, sym, ap, subst, ◌∙◌, arith}
use Rattle.std.proofs.Math.Path.{fun_ext}
use Rattle.std.proofs.lemmas.Bool.{cases_eq}
use Rattle.std.specs.Prelude.{Option, None, IsNone}
use Rattle.rh_defs.specs.Memory.{Memory, Edited, OnlyArea, area_set, bytes, closed, grown, opened}
use Rattle.rh_defs.proofs.MemoryLaws.{area_set-same, area_set-other, area-opened, bytes-none, bytes-opened, free-opened, loan-opened, pages-opened}
use Rattle.rh_defs.proofs.MemoryLaws.{IsOpen-opened, OnlyArea-both, OnlyArea-from_Edited, OnlyArea-grown}
use Rattle.rh_store.proofs.AreasLaws.{none_is}

-- ---- opened
only_opened : (m : Memory) (id : ℕ) → IsNone (m.area id) → OnlyArea m (opened m id) id
only_opened m id none = record {
  opened = IsOpen-opened m id;
  others = λ j ne. area-opened m id j ne;
  ledger = let was =
      ap length (bytes-none m id (none_is (m.area id) none)) in let is = ap length (bytes-opened m id) in let free = free-opened m id in omega arith;
  pages = pages-opened m id;
  loan = loan-opened m id;
}

-- an area that was opened, was given a page and then had bytes changed is all that is new
pub only_page : (m n k l : Memory) (id lo hi : ℕ) → IsNone (m.area id) → n ≡ opened m id → k ≡ grown n id 1 → 1 ≤ n.free → Edited k l id lo hi → OnlyArea m l id
only_page m n k l id lo hi none opens grows room edits =
    let first : OnlyArea m n id = subst (λ (x : Memory). OnlyArea m x id) (sym opens) (only_opened m id none) in
    let second : OnlyArea n k id = subst (λ (x : Memory). OnlyArea n x id) (sym grows) (OnlyArea-grown n id 1 room) in
    OnlyArea-both m k l id (OnlyArea-both m n k id first second) (OnlyArea-from_Edited k l id lo hi edits)

-- ---- closed again
abbrev made : (ℕ → Option (List ℕ)) → ℕ → ℕ → ℕ → Memory
made area free pages loan = record { area = area; free = free; pages = pages; loan = loan }

areas : (m n : Memory) (id k : ℕ) → m.area id ≡ None → OnlyArea m n id → area_set n.area id None k ≡ m.area k
areas m n id k none only = elim (cases_eq k id) [
  | inl e ↦ ap (area_set n.area id None) e ∙ area_set-same n.area id None ∙ sym none ∙ sym (ap m.area e)
  | inr ne ↦ area_set-other n.area id None k ne ∙ only.others k ne
]

free : (m n : Memory) (id : ℕ) → m.area id ≡ None → OnlyArea m n id → n.free + length (bytes n id) / 4096 ≡ m.free
free m n id none only =
    let was : length (bytes m id) ≡ 0 = ap length (bytes-none m id none) in
    let sum = only.ledger in
    omega arith

-- an area that was closed before, and changed alone, is closed: all is as before
pub closed_again : (m n : Memory) (id : ℕ) → IsNone (m.area id) → OnlyArea m n id → closed n id ≡ m
unfolding closed
closed_again m n id none only =
    let gone = none_is (m.area id) none in
    ap (λ (f : ℕ → Option (List ℕ)). made f (n.free + length (bytes n id) / 4096) n.pages n.loan) (fun_ext (λ k. areas m n id k gone only))
    ∙ ap (λ (i : ℕ). made m.area i n.pages n.loan) (free m n id gone only)
    ∙ ap (λ (i : ℕ). made m.area m.free i n.loan) only.pages
    ∙ ap (λ (i : ℕ). made m.area m.free m.pages i) only.loan
