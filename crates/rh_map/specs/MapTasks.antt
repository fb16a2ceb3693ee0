-- Tasks by name.
use Rattle.std.specs.Prelude.{◌++◌, codes}
use Rattle.std.specs.Fmt.{decimal}
use Rattle.rh_figure.specs.Phrases.{Text}
use Rattle.rh_map.specs.declared.who.Who.{Who}
use Rattle.rh_map.specs.declared.who.Who.TheVariants.{Live, Gone}

-- the name of a live task, else its handle
abbrev pub who_text : Who → Text
who_text (Live name) = name.now
who_text (Gone handle) = codes "task " ++ decimal handle
