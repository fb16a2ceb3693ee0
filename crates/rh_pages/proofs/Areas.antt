-- What the areas contain after one of them changed.
use Rattle.rh_pages.proofs.Common.{◌≡◌, ◌≢◌, ℕ, ◌+◌, ◌/◌, ◌<◌, cond, Bool, true, false, inl, inr, List, [], length, get_or, set, sym, ap, ◌∙◌, arith, Option}
use Rattle.rh_pages.proofs.Common.{Some, None, IsSome, unwrap_or, cases_eq, get_or-set_same, get_or-set_other, PAGE, Memory, area_set, paged_bytes, list_at}
use Rattle.rh_pages.proofs.Common.{paged_contents}
use Rattle.std.proofs.Math.Path.{fun_ext}
use Rattle.rh_defs.specs.Memory.{Ledger}
use Rattle.rh_defs.proofs.MemoryLaws.{area_set-same, area_set-other, pages_below-set}
use Rattle.rh_pages.specs.Inner.PagedKept.{open_flag}

-- an area by its mark
pub contents_marked : (r : List ℕ) (lists : List (List ℕ)) (flags : List Bool) (id : ℕ) (b : Bool) → get_or flags id false ≡ b
    → paged_contents r lists flags id ≡ cond b (Some (paged_bytes r (list_at lists id))) None
unfolding paged_contents
contents_marked r lists flags id b e = ap (λ (x : Bool). cond x (Some (paged_bytes r (list_at lists id))) None) e

-- an open area's bytes
pub bytes_open : (r : List ℕ) (lists : List (List ℕ)) (flags : List Bool) (id : ℕ) → IsSome (paged_contents r lists flags id)
    → unwrap_or (paged_contents r lists flags id) [] ≡ paged_bytes r (list_at lists id)
bytes_open r lists flags id o = ap (λ (x : Option (List ℕ)). unwrap_or x []) (contents_marked r lists flags id true (open_flag r lists flags id o))

-- areas of which all but one stay
pub set_at : (area area' : ℕ → Option (List ℕ)) (id : ℕ) (o : Option (List ℕ)) → area' id ≡ o → ((j : ℕ) → j ≢ id → area' j ≡ area j)
    → area' ≡ area_set area id o
set_at area area' id o here others = fun_ext (λ j. elim (cases_eq j id) [
  | inl e ↦ ap area' e ∙ here ∙ sym (area_set-same area id o) ∙ ap (area_set area id o) (sym e)
  | inr ne ↦ others j ne ∙ sym (area_set-other area id o j ne)
])

same_bytes : (r r' : List ℕ) (lists lists' : List (List ℕ)) (flags : List Bool) (j : ℕ) → paged_bytes r' (list_at lists' j) ≡ paged_bytes r (list_at lists j)
    → paged_contents r' lists' flags j ≡ paged_contents r lists flags j
unfolding paged_contents
same_bytes r r' lists lists' flags j e = ap (λ (l : List ℕ). cond (get_or flags j false) (Some l) None) e

-- an open area got other bytes
pub rewritten : (r r' : List ℕ) (lists lists' : List (List ℕ)) (flags : List Bool) (id : ℕ) (bs : List ℕ) → IsSome (paged_contents r lists flags id)
    → paged_bytes r' (list_at lists' id) ≡ bs
    → ((j : ℕ) → j ≢ id → paged_bytes r' (list_at lists' j) ≡ paged_bytes r (list_at lists j))
    → paged_contents r' lists' flags ≡ area_set (paged_contents r lists flags) id (Some bs)
rewritten r r' lists lists' flags id bs o here others =
    set_at (paged_contents r lists flags) (paged_contents r' lists' flags) id (Some bs)
    (contents_marked r' lists' flags id true (open_flag r lists flags id o) ∙ ap (λ (l : List ℕ). Some l) here)
    (λ j ne. same_bytes r r' lists lists' flags j (others j ne))

same_flag : (r : List ℕ) (lists : List (List ℕ)) (flags flags' : List Bool) (j : ℕ) → get_or flags' j false ≡ get_or flags j false
    → paged_contents r lists flags' j ≡ paged_contents r lists flags j
unfolding paged_contents
same_flag r lists flags flags' j e = ap (λ (x : Bool). cond x (Some (paged_bytes r (list_at lists j))) None) e

-- an area was opened or closed
pub flagged : (r : List ℕ) (lists : List (List ℕ)) (flags : List Bool) (id : ℕ) (b : Bool) → id < length flags
    → paged_contents r lists (set flags id b) ≡ area_set (paged_contents r lists flags) id (cond b (Some (paged_bytes r (list_at lists id))) None)
flagged r lists flags id b lt =
    set_at (paged_contents r lists flags) (paged_contents r lists (set flags id b)) id (cond b (Some (paged_bytes r (list_at lists id))) None)
    (contents_marked r lists (set flags id b) id b (get_or-set_same flags id b false lt))
    (λ j ne. same_flag r lists flags (set flags id b) j (get_or-set_other flags id j b false ne))

-- the ledger after an area was set
pub ledger_set : (area area' : ℕ → Option (List ℕ)) (id : ℕ) (o : Option (List ℕ)) (free free' pages limit : ℕ) → area' ≡ area_set area id o → id < limit
    → free' + length (unwrap_or o []) / PAGE ≡ free + length (unwrap_or (area id) []) / PAGE
    → Ledger (record { area = area; free = free; pages = pages; loan = 0 }) limit
    → Ledger (record { area = area'; free = free'; pages = pages; loan = 0 }) limit
ledger_set area area' id o free free' pages limit e lt sum was = let set = pages_below-set area id o limit lt in rw e (omega arith)

-- the memory after an area was set
pub memory_set : (area area' : ℕ → Option (List ℕ)) (id : ℕ) (o : Option (List ℕ)) (free pages : ℕ) → area' ≡ area_set area id o
    → ◌≡◌ {A = Memory} (record { area = area'; free = free; pages = pages; loan = 0 })
    (record { area = area_set area id o; free = free; pages = pages; loan = 0 })
memory_set area area' id o free pages e = ap (λ (f : ℕ → Option (List ℕ)). let m : Memory = record { area = f; free = free; pages = pages; loan = 0 } in m) e
