-- The words of a line, piece by piece.
use Rattle.std.specs.Prelude.{ℕ, List, [], ◌∷◌, length, filter, not, ◌==◌}

-- the word between two spaces, if there is one
abbrev pub piece_words : List ℕ → List (List ℕ)
piece_words piece = filter (λ w. not (length w == 0)) (piece ∷ [])
