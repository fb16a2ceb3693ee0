-- How much memory a store may have.
use Rattle.std.specs.Prelude.{ℕ, ◌^◌}

-- the most bytes of an area: 1 GiB
abbrev pub area_limit : ℕ
area_limit = 2 ^ 30

-- the most pages of a store: those of 1 GiB
abbrev pub pool_limit : ℕ
pool_limit = 2 ^ 18
