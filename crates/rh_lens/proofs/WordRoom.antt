-- Words and cells lie within their parts.
use Rattle.std.proofs.Common.{ℕ, ◌+◌, ◌*◌, ◌≤◌, ◌≡◌, Bool, true, false, refl, arith, List, [], ◌∷◌, length, inl, inr}
use Rattle.std.specs.Prelude.{nat_le, ◌&&◌, if◌then◌else◌}
use Rattle.std.proofs.lemmas.Bool.Decides.{nat_tests}
use Rattle.rh_figure.specs.Phrases.{Text}
use Rattle.rh_lens.specs.LensWords.{has_space, fitting_words}
use Rattle.rh_lens.specs.Widths.{cells_width, wants_cells}
use Rattle.rh_lens.specs.PartWords.{Choices, fitted_words, choices_of, room_of}
use Rattle.rh_lens.specs.LensLaws.{FitsIn, AllFitIn, WordsHaveRoom, CellsHaveRoom}
use Rattle.rh_lens.specs.declared.sizes.TheConstants.{LETTER, EDGE}

chosen-within : (t : Bool) (w : ℕ) (a b : Text) → (t ≡ true → LETTER * length a + EDGE ≤ w) → FitsIn w b
    → FitsIn w (if t then a else b)
chosen-within true w a b fits rest = inr (fits refl)
chosen-within false w a b fits rest = rest

room-tested : (n w : ℕ) → nat_le n w ≡ true → n ≤ w
room-tested n w e = grind (arith, nat_tests)

fitting-within : (w : ℕ) (ts : List Text) → FitsIn w (fitting_words w ts)
fitting-within w [] = inl refl
fitting-within w (t ∷ ts) = chosen-within
    (has_space w t) w t (fitting_words w ts) (room-tested (LETTER * length t + EDGE) w) (fitting-within w ts)

fitted-within : (w : ℕ) (c : Choices) → AllFitIn w (fitted_words w c)
fitted-within w c = record {
  first = fitting-within w c.first;
  second = fitting-within w c.second;
  third = fitting-within w c.third;
}

pub has-room : WordsHaveRoom
has-room start w broken i = fitted-within (room_of broken w i) (
    choices_of i i.piece.kind (start + i.piece.at) w (room_of broken w i)
    )

-- of two tests that hold the second does
second-holds : (a b : Bool) → (a && b) ≡ true → b ≡ true
second-holds true b e = e
second-holds false b e = cc

pub have-room : CellsHaveRoom
have-room w i kind e =
    room-tested (cells_width kind) w (second-holds (wants_cells i kind) (nat_le (cells_width kind) w) e)
