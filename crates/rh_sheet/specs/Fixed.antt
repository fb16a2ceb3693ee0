-- The texts that are the same on every sheet. Nothing is to be read before.
use Rattle.rh_figure.specs.Phrases.{Text}
use Rattle.rh_sheet.specs.declared.style.TheConstants.{STYLE}
use Rattle.rh_sheet.specs.declared.signs.TheConstants.{SIGNS}
use Rattle.rh_sheet.specs.declared.key.TheConstants.{KEY}

-- how a sheet looks on a screen and on paper
unfoldable pub style_text : Text
style_text = STYLE.now

-- patterns and arrowheads of figures
unfoldable pub signs_text : Text
signs_text = SIGNS.now

-- how figures are read
unfoldable pub key_text : Text
key_text = KEY.now
