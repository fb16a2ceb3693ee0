-- The memory that a desk needs.
use Rattle.std.specs.Prelude.{ℕ, ◌*◌, nat_le, Bool, ◌&&◌}
use Rattle.rh_defs.specs.declared.sizes.TheConstants.{MAX_PAGES, MIN_PAGES, PAGE}
use Rattle.rh_pages.specs.declared.table.TheConstants.{LISTS}

-- whether there may be so many pages, and so many bytes and page numbers are enough for them
abbrev pub has_room_for : ℕ → ℕ → ℕ → Bool
has_room_for pages bytes numbers =
    nat_le MIN_PAGES pages && nat_le pages MAX_PAGES && nat_le (PAGE * pages) bytes && nat_le (LISTS * pages) numbers
