-- Why the laws of `Store` hold of areas that are kept so.
use Rattle.std.specs.Prelude.{◌≡◌, ℕ, zero, suc, ◌+◌, ◌*◌, ◌%◌, ◌<◌, ◌≤◌, List, [], ◌∷◌, length, Option, None, IsSome, All, unwrap_or, refl}
use Rattle.std.proofs.Common.{ap, arith}
use Rattle.rh_store.specs.declared.area.Area.{Area}
use Rattle.rh_defs.specs.declared.sizes.TheConstants.{MAX_PAGES, PAGE}
use Rattle.rh_store.specs.Areas.{contents, memory_in, IsTidyArea, IsStore}
use Rattle.rh_defs.specs.Memory.{IsOpen, bytes}
use Rattle.rh_store.specs.Limits.{area_limit}
use Rattle.rh_store.specs.Inner.StoreLaws.{whole_shown, within_ledger, small_within}

-- past the list no area is open
pub contents-past : (list : List Area) (i : ℕ) → length list ≤ i → contents list i ≡ None
unfolding contents
contents-past [] i h = refl
contents-past (x ∷ list) zero h = absurd (omega arith)
contents-past (x ∷ list) (suc i) h = contents-past list i (omega arith)

-- an open area's number is inside the list
pub open_index : (list : List Area) (i : ℕ) → IsSome (contents list i) → i < length list
unfolding contents
open_index [] i o = absurd cc
open_index (x ∷ list) zero o = omega arith
open_index (x ∷ list) (suc i) o = let r = open_index list i o in omega arith

pub whole_contents : (list : List Area) (i : ℕ) → All IsTidyArea list → length (unwrap_or (contents list i) []) % PAGE ≡ 0
unfolding contents
whole_contents [] i all = refl
whole_contents (x ∷ list) zero all = whole_shown x.opened x.bytes.items (all 0 x (omega arith)).whole
whole_contents (x ∷ list) (suc i) all = whole_contents list i (λ k d h. all (suc k) d (omega arith))

pub whole_areas : (list : List Area) (free pages limit id : ℕ) → IsStore list free pages limit → length (bytes (memory_in list free pages) id) % PAGE ≡ 0
unfolding bytes
whole_areas list free pages limit id k = whole_contents list id k.tidy

pub numbered_areas : (list : List Area) (free pages limit id : ℕ) → IsStore list free pages limit → IsOpen (memory_in list free pages) id → id < limit
numbered_areas list free pages limit id k o = let h = open_index list id o in let t = k.table in omega arith

pub within_pool : (list : List Area) (free pages limit id : ℕ) → IsStore list free pages limit → PAGE * free + length (bytes (memory_in list free pages) id) ≤ PAGE * pages
unfolding bytes
within_pool list free pages limit id k =
    within_ledger (memory_in list free pages) limit id k.ledger (whole_contents list id k.tidy)
    (λ h. ap (λ (o : Option (List ℕ)). length (unwrap_or o [])) (contents-past list id (let t = k.table in omega arith)))

pub small_areas : (list : List Area) (free pages limit id : ℕ) → pages ≤ MAX_PAGES → IsStore list free pages limit → length (bytes (memory_in list free pages) id) ≤ area_limit
small_areas list free pages limit id few k = small_within (memory_in list free pages) id few (within_pool list free pages limit id k)
