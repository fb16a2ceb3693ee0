-- The texts of a card on its line.
use Rattle.std.specs.Prelude.{◌==◌, Bool, if◌then◌else◌, [], ◌++◌, length, codes}
use Rattle.rh_figure.specs.Phrases.{Text}

-- a text behind a comma, if it isn't empty
abbrev pub behind_comma : Text → Text
behind_comma t = if length t == 0 then [] else codes ", " ++ t

-- a card's three texts, with a star where it has changed
abbrev pub texts_line : Text → Text → Text → Bool → Text
texts_line first second third fresh =
    (if fresh then codes "  * " else codes "    ") ++ first ++ behind_comma second ++ behind_comma third
