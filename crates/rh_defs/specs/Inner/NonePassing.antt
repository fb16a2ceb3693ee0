-- Lists of which no member passes a test. Read Pieces first.
use Rattle.std.specs.Prelude.{◌≡◌, ℕ, ◌+◌, Bool, false, List, [], ◌∷◌}

-- no member passes a test of its place and itself
abbrev pub NonePass : {A : Type 0} → (A → ℕ) → (ℕ → A → Bool) → ℕ → List A → Type 0
NonePass size test place [] = Unit {0}
NonePass size test place (x ∷ xs) = (test place x ≡ false) × NonePass size test (place + size x) xs
