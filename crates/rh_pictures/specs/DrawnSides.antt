-- The sides of all transfers.
use Rattle.std.specs.Prelude.{List, map}
use Rattle.std.specs.List.{flat_map}
use Rattle.rh_defs.specs.Desk.{Desk, Task}
use Rattle.rh_defs.specs.Questions.{out_item, in_item}
use Rattle.rh_figure.specs.Figure.{Side}

-- the sides that go out, and those that come in, task by task
abbrev pub outs_of : Desk → List Side
outs_of d = flat_map (λ (t : Task). map (λ r. (t.name, out_item r)) t.sending) d.tasks

abbrev pub ins_of : Desk → List Side
ins_of d = flat_map (λ (t : Task). map (λ r. (t.name, in_item r)) t.taking) d.tasks
