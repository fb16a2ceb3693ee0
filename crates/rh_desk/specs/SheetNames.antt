-- The last part of a path.
use Rattle.std.specs.Prelude.{ℕ, ◌==◌, if◌then◌else◌, List, [], ◌∷◌}
use Rattle.std.specs.List.{list_any}

-- what stands behind the last `/` of a path, or all of it
abbrev pub last_part : List ℕ → List ℕ
last_part [] = []
last_part (b ∷ bs) =
    if list_any (λ c. c == 47) bs then last_part bs else if b == 47 then bs else b ∷ bs
