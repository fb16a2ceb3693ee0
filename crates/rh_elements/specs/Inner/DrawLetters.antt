-- Messages by what is written of them.
use Rattle.std.specs.Prelude.{List, ◌++◌, codes}
use Rattle.std.specs.List.{flat_map}
use Rattle.rh_figure.specs.Phrases.{Text}
use Rattle.rh_map.specs.declared.letterboxes.MessageEntry.{MessageEntry}
use Rattle.rh_map.specs.MapMessages.{message_entry_text}

-- messages, each behind a comma
abbrev pub behind_commas : List MessageEntry → Text
behind_commas entries = flat_map (λ entry. codes ", " ++ message_entry_text entry) entries
