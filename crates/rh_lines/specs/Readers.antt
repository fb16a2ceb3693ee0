-- Words that a line may begin with.
use Rattle.std.specs.Prelude.{◌≡◌, ℕ, false, List}
use Rattle.std.specs.List.{AllByRecursion}
use Rattle.std.specs.Str.{bytes_eq}

-- the word is none of these
pub record IsNoneOf (w : List ℕ) (texts : List (List ℕ)) : Type 0 where
  pub differs : AllByRecursion (λ text. bytes_eq w text ≡ false) texts
