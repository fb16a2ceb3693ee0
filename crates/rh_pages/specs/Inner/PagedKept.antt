-- Why the laws of `Store` hold of areas that are made of pages.
use Rattle.std.specs.Prelude.{◌≡◌, ℕ, ◌+◌, ◌*◌, ◌%◌, ◌<◌, ◌≤◌, Bool, true, false, List, [], ◌∷◌, length, get_or, Some, None, IsSome, cond, unwrap_or, refl}
use Rattle.std.proofs.Common.{inl, inr, sym, ◌∙◌, arith, length-append}
use Rattle.std.proofs.lemmas.Bool.{cases_lt}
use Rattle.std.proofs.lemmas.List.{get_or_past}
use Rattle.rh_defs.specs.declared.sizes.TheConstants.{MAX_PAGES, PAGE}
use Rattle.rh_defs.specs.Memory.{IsOpen, bytes}
use Rattle.rh_defs.proofs.BytesLaws.{length-part}
use Rattle.rh_pages.specs.Pages.{page, paged_bytes, list_at, paged_contents, paged_memory_in, IsPagedStore}
use Rattle.rh_store.specs.Limits.{area_limit}
use Rattle.rh_store.specs.Inner.StoreLaws.{whole_shown, within_ledger, small_within}

pub length-bytes : (region ks : List ℕ) → length (paged_bytes region ks) ≡ PAGE * length ks
length-bytes region [] = refl
length-bytes region (k ∷ ks) =
    let here = length-part region (PAGE * k) PAGE in let rest = length-bytes region ks in
    omega (arith, length-append (page region k) (paged_bytes region ks))

some_of : (b : Bool) (y : List ℕ) → IsSome (cond b (Some y) None) → b ≡ true
some_of true y h = refl
some_of false y h = absurd cc

-- an open area is marked so
pub open_flag : (region : List ℕ) (lists : List (List ℕ)) (opened : List Bool) (id : ℕ) → IsSome (paged_contents region lists opened id) → get_or opened id false ≡ true
unfolding paged_contents
open_flag region lists opened id o = some_of (get_or opened id false) (paged_bytes region (list_at lists id)) o

-- an open area's number is inside the table
pub open_paged_index : (region : List ℕ) (lists : List (List ℕ)) (opened : List Bool) (id : ℕ) → IsSome (paged_contents region lists opened id) → id < length opened
open_paged_index region lists opened id o = elim (cases_lt id (length opened)) [
  | inl h ↦ h
  | inr h ↦ absurd (let past : false ≡ true = sym (get_or_past opened id false h) ∙ open_flag region lists opened id o in cc)
]

pub whole_paged_contents : (region : List ℕ) (lists : List (List ℕ)) (opened : List Bool) (id : ℕ) → length (unwrap_or (paged_contents region lists opened id) []) % PAGE ≡ 0
unfolding paged_contents
whole_paged_contents region lists opened id =
    let long = length-bytes region (list_at lists id) in
    whole_shown (get_or opened id false) (paged_bytes region (list_at lists id)) (omega arith)

pub whole_paged_areas : (region : List ℕ) (lists : List (List ℕ)) (opened : List Bool) (free : List ℕ) (pages id : ℕ) → length (bytes (paged_memory_in region lists opened free pages) id) % PAGE ≡ 0
unfolding bytes
whole_paged_areas region lists opened free pages id = whole_paged_contents region lists opened id

pub numbered_paged_areas : (region : List ℕ) (lists : List (List ℕ)) (opened : List Bool) (free : List ℕ) (pages limit id : ℕ) → IsPagedStore region lists opened free pages limit → IsOpen (paged_memory_in region lists opened free pages) id → id < limit
numbered_paged_areas region lists opened free pages limit id k o = let h = open_paged_index region lists opened id o in let t = k.flags in omega arith

past_shown : (b : Bool) (y : List ℕ) → b ≡ false → length (unwrap_or (cond b (Some y) None) []) ≡ 0
past_shown true y e = absurd cc
past_shown false y e = refl

past : (region : List ℕ) (lists : List (List ℕ)) (opened : List Bool) (id : ℕ) → length opened ≤ id → length (unwrap_or (paged_contents region lists opened id) []) ≡ 0
unfolding paged_contents
past region lists opened id h = past_shown (get_or opened id false) (paged_bytes region (list_at lists id)) (get_or_past opened id false h)

pub within_paged_pool : (region : List ℕ) (lists : List (List ℕ)) (opened : List Bool) (free : List ℕ) (pages limit id : ℕ) → IsPagedStore region lists opened free pages limit
    → PAGE * length free + length (bytes (paged_memory_in region lists opened free pages) id) ≤ PAGE * pages
unfolding bytes
within_paged_pool region lists opened free pages limit id k =
    within_ledger (paged_memory_in region lists opened free pages) limit id k.ledger (whole_paged_contents region lists opened id)
    (λ h. past region lists opened id (let t = k.flags in omega arith))

pub small_paged_areas : (region : List ℕ) (lists : List (List ℕ)) (opened : List Bool) (free : List ℕ) (pages limit id : ℕ) → pages ≤ MAX_PAGES → IsPagedStore region lists opened free pages limit
    → length (bytes (paged_memory_in region lists opened free pages) id) ≤ area_limit
small_paged_areas region lists opened free pages limit id few k =
    small_within (paged_memory_in region lists opened free pages) id few (within_paged_pool region lists opened free pages limit id k)
