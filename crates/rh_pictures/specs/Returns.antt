-- Messages that go back.
use Rattle.std.specs.Prelude.{◌&&◌, not, Bool, List}
use Rattle.rh_figure.specs.Changes.{was_out}
use Rattle.rh_figure.specs.Phrases.{is_returned}
use Rattle.rh_defs.specs.declared.message.MessageItem.{MessageItem}

-- whether a message that waits is on its way back, by all messages before the command
abbrev pub returns : List MessageItem → MessageItem → Bool
returns before m = not m.held && (is_returned m.code && was_out m.my_ref before)
