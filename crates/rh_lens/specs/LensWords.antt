-- Which words have room in a part. Read Phrases of rh_figure first. w is a width in units, t a text, n a number of bytes.
use Rattle.std.specs.Prelude.{ℕ, ◌+◌, ◌*◌, nat_le, Bool, if◌then◌else◌, List, [], ◌∷◌, ◌++◌, length, codes}
use Rattle.std.specs.Fmt.{decimal}
use Rattle.rh_figure.specs.Phrases.{Text, size_text}
use Rattle.rh_lens.specs.declared.sizes.TheConstants.{LETTER, EDGE}

-- whether a text has room in so many units
abbrev pub has_space : ℕ → Text → Bool
has_space w t = nat_le (LETTER * length t + EDGE) w

-- of some texts the first that has room, or none
abbrev pub fitting_words : ℕ → List Text → Text
fitting_words w [] = []
fitting_words w (t ∷ ts) = if has_space w t then t else fitting_words w ts

-- a size, the longest form first
abbrev pub size_choices : ℕ → List Text
size_choices n = size_text n ∷ (decimal n ++ codes " B") ∷ decimal n ∷ []
