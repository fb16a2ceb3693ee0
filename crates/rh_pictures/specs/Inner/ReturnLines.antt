-- The lines of a message that goes back, and of one that vanished.
use Rattle.std.specs.Prelude.{if◌then◌else◌, List, [], ◌∷◌}
use Rattle.rh_defs.specs.Desk.{Desk}
use Rattle.rh_figure.specs.Phrases.{Text, task_name}
use Rattle.rh_figure.specs.Scene.{Scene}
use Rattle.rh_figure.specs.Changes.{returns_line, has_vanished, vanishes_text}
use Rattle.rh_defs.specs.declared.message.MessageItem.{MessageItem}
use Rattle.rh_pictures.specs.Returns.{returns}

-- that it goes back, if it does
abbrev pub return_lines : Desk → List MessageItem → MessageItem → List Text
return_lines d before m = if returns before m then returns_line m.action m.my_ref (task_name d m.to) ∷ [] else []

-- that it vanished, if it did
abbrev pub vanish_lines : Scene → MessageItem → List Text
vanish_lines x m = if has_vanished x m then vanishes_text x m ∷ [] else []
