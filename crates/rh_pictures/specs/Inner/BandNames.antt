-- Texts with a comma between them.
use Rattle.std.specs.Prelude.{◌==◌, ◌++◌, if◌then◌else◌, length, codes}
use Rattle.rh_figure.specs.Phrases.{Text}

-- a text behind a comma where something stands before it
abbrev pub with_comma : Text → Text → Text
with_comma before t =
    if length t == 0 then before else if length before == 0 then t else before ++ (codes ", " ++ t)
