-- Where the bytes of an area stand.
use Rattle.std.specs.Prelude.{◌≡◌, ℕ, ◌+◌, ◌*◌, ◌/◌, ◌%◌, ◌<◌, ◌≤◌, List, get_or}
use Rattle.rh_defs.specs.declared.sizes.TheConstants.{PAGE}
use Rattle.rh_pages.specs.Pages.{list_at}

-- where the byte at an offset of an area stands in the region
abbrev pub spot_in : List (List ℕ) → ℕ → ℕ → ℕ
spot_in lists id at = PAGE * get_or (list_at lists id) (at / PAGE) 0 + at % PAGE

-- n bytes of an area from an offset on lie side by side: behind each page that they go past stands the next
abbrev pub IsTogether : List (List ℕ) → ℕ → ℕ → ℕ → Type 0
IsTogether lists id at n =
    (i : ℕ) → at / PAGE ≤ i → PAGE * (i + 1) < at + n → get_or (list_at lists id) (i + 1) 0 ≡ get_or (list_at lists id) i 0 + 1
