-- The beginning of a sheet, shut: proofs that don't read it carry none of its text.
use Rattle.std.specs.Prelude.{ℕ}
use Rattle.rh_figure.specs.Phrases.{Text}
use Rattle.rh_sheet.specs.Sheet.{sheet_head}

-- the beginning of the sheet of a script with this name, over so many pages
unfoldable pub head_of : Text → ℕ → Text
head_of name pages = sheet_head name pages
