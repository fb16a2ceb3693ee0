-- What is shown of a reply.
use Rattle.std.specs.Prelude.{◌≡◌, ℕ, List}
use Rattle.rh_defs.specs.Script.{ended}
use Rattle.rh_figure.specs.Map.{reply_lines}
use Rattle.rh_map.specs.Replies.{excerpt_lines}

-- a front of a reply and the number of its lines show what the reply shows
abbrev pub Excerpts : List ℕ → ℕ → List ℕ → Type 0
Excerpts front count reply = excerpt_lines front count ≡ reply_lines (ended reply)
