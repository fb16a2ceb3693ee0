-- A store after a page went from its free list to an area, or back.
use Rattle.rh_pages.proofs.Common.{◌≡◌, ℕ, ◌+◌, ◌*◌, ◌<◌, ◌≤◌, Bool, List, [], ◌∷◌, ◌++◌, length, set, replicate, refl, sym, ap, ap₂, subst, ◌∙◌, MAX_AREAS}
use Rattle.rh_pages.proofs.Common.{PAGE, with_part, IsOpen, grown, shrunk, PagedStore, areas_in, free_in, list_at, paged_memory_in, IsPagedStore, paged_memory}
use Rattle.rh_pages.proofs.Common.{region_of}
use Rattle.rh_pages.proofs.Common.{pages_of, free_of, paged_numbered_law}
use Rattle.rh_pages.proofs.Passing.{given_areas, given_free, taken_areas, taken_free}
use Rattle.rh_pages.proofs.Seats.{table_of}
use Rattle.rh_pages.proofs.Turns.{page_within, grown_kept, grown_memory, shrunk_kept, shrunk_memory}

-- the same store, its free list and its number of pages by other names
module _ (r : List ℕ) (areas : List (List ℕ)) (flags : List Bool) (free free' : List ℕ) (pages pages' : ℕ) (f : free' ≡ free) (p : pages' ≡ pages) where
  renamed : IsPagedStore r areas flags free pages MAX_AREAS → IsPagedStore r areas flags free' pages' MAX_AREAS
  renamed ok = subst (λ (n : ℕ). IsPagedStore r areas flags free' n MAX_AREAS) (sym p)
      (subst (λ (l : List ℕ). IsPagedStore r areas flags l pages MAX_AREAS) (sym f) ok)

  renamed_memory : paged_memory_in r areas flags free' pages' ≡ paged_memory_in r areas flags free pages
  renamed_memory = ap₂ (λ l n. paged_memory_in r areas flags l n) f p

-- where the last free page stands
pub free_within : {G : _} {d : _} (s : PagedStore G d) (id k : ℕ) (free : List ℕ) → IsOpen (paged_memory s) id → free_of s ≡ free ++ k ∷ []
    → PAGE * k + PAGE ≤ length (region_of s)
unfolding paged_memory
free_within s id k free o last = page_within (region_of s) (pages_of s) s.opened (free_of s) s.table.room MAX_AREAS s.kept id o free k last

module _ {G : _} {d : _} (s : PagedStore G d) (id k room : ℕ) (mid new : List (List ℕ)) (o : IsOpen (paged_memory s) id) (same : room ≡ s.table.room) where
  -- the last free page, of which the bytes were written, was appended to an area
  module _ (last : free_of s ≡ free_in mid ++ k ∷ []) (off : mid ≡ set (table_of s) MAX_AREAS (free_in mid)) (on : new ≡ set mid id (list_at mid id ++ k ∷ []))
      (r ws : List ℕ) (written : r ≡ with_part (region_of s) (PAGE * k) ws) (whole : length ws ≡ PAGE) where
    areas_given : areas_in new ≡ set (pages_of s) id (list_at (pages_of s) id ++ k ∷ [])
    areas_given = given_areas (table_of s) mid new MAX_AREAS id k (paged_numbered_law s id o) off on

    free_given : free_in new ≡ free_in mid
    free_given = given_free (table_of s) mid new MAX_AREAS id k (paged_numbered_law s id o) off on

    pub grown_is_kept : IsPagedStore r (areas_in new) s.opened (free_in new) room MAX_AREAS
    unfolding paged_memory
    grown_is_kept =
        renamed r (areas_in new) s.opened (free_in mid) (free_in new) s.table.room room free_given same
        (grown_kept (region_of s) (pages_of s) s.opened (free_of s) s.table.room MAX_AREAS s.kept id o (free_in mid) k last r ws written whole (areas_in new)
        areas_given)

    pub grown_is_memory : ws ≡ replicate PAGE 0 → paged_memory_in r (areas_in new) s.opened (free_in new) room ≡ grown (paged_memory s) id 1
    unfolding paged_memory
    grown_is_memory zeros =
        renamed_memory r (areas_in new) s.opened (free_in mid) (free_in new) s.table.room room free_given same
        ∙ grown_memory (region_of s) (pages_of s) s.opened (free_of s) s.table.room MAX_AREAS s.kept id o (free_in mid) k last r ws written whole
        (areas_in new) areas_given 1 refl zeros

  -- the last page of an area was appended to the free ones
  module _ (last : list_at (pages_of s) id ≡ list_at mid id ++ k ∷ []) (off : mid ≡ set (table_of s) id (list_at mid id))
      (on : new ≡ set mid MAX_AREAS (free_in mid ++ k ∷ []))
      (long : MAX_AREAS < length mid) (r : List ℕ) (still : r ≡ region_of s) where
    areas_taken : areas_in new ≡ set (pages_of s) id (list_at mid id)
    areas_taken = taken_areas (table_of s) mid new MAX_AREAS id k (paged_numbered_law s id o) off on

    free_taken : free_in new ≡ free_of s ++ k ∷ []
    free_taken = taken_free (table_of s) mid new MAX_AREAS id k (paged_numbered_law s id o) off on long

    pub shrunk_is_kept : IsPagedStore r (areas_in new) s.opened (free_in new) room MAX_AREAS
    unfolding paged_memory
    shrunk_is_kept =
        subst (λ (l : List ℕ). IsPagedStore l (areas_in new) s.opened (free_in new) room MAX_AREAS) (sym still) (
        renamed (region_of s) (areas_in new) s.opened (free_in new) (free_in new) s.table.room room refl same
        (shrunk_kept (region_of s) (pages_of s) s.opened (free_of s) s.table.room MAX_AREAS s.kept id o (list_at mid id) k last (areas_in new) areas_taken
        (free_in new) free_taken)
        )

    pub shrunk_is_memory : paged_memory_in r (areas_in new) s.opened (free_in new) room ≡ shrunk (paged_memory s) id 1
    unfolding paged_memory
    shrunk_is_memory =
        ap (λ l. paged_memory_in l (areas_in new) s.opened (free_in new) room) still
        ∙ renamed_memory (region_of s) (areas_in new) s.opened (free_in new) (free_in new) s.table.room room refl same
        ∙ shrunk_memory (region_of s) (pages_of s) s.opened (free_of s) s.table.room MAX_AREAS s.kept id o (list_at mid id) k last (areas_in new) areas_taken
        (free_in new) free_taken 1 refl
