-- A transfer by its two sides, and the sides of a task.
use Rattle.std.specs.Prelude.{List, find, filter, map, not, Some, None}
use Rattle.std.specs.List.{list_any}
use Rattle.rh_defs.specs.declared.transfer.Incoming.{Incoming}
use Rattle.rh_defs.specs.declared.transfer.Outgoing.{Outgoing}
use Rattle.rh_defs.specs.Questions.{in_item, out_item}
use Rattle.rh_figure.specs.Figure.{Side, Transfer, has_id}
use Rattle.rh_figure.specs.Phrases.{Text}

-- a transfer that goes out, with the first side that comes in
abbrev pub goes_out : List Side → Side → Transfer
goes_out ins s = record { id = s.1.id; goes_out = Some s; comes_in = find (has_id s.1.id) ins }

-- a transfer that only comes in
abbrev pub comes_alone : Side → Transfer
comes_alone s = record { id = s.1.id; goes_out = None; comes_in = Some s }

-- the sides of those that come in whose transfer goes out of no task
abbrev pub alone_among : List Side → List Side → List Side
alone_among outs ins = filter (λ s. not (list_any (has_id s.1.id) outs)) ins

-- the sides of a task with a name
abbrev pub outs_named : Text → List Outgoing → List Side
outs_named name sending = map (λ r. (name, out_item r)) sending

abbrev pub ins_named : Text → List Incoming → List Side
ins_named name taking = map (λ r. (name, in_item r)) taking
