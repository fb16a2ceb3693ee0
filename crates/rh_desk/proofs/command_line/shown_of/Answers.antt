use Rattle.std.proofs.Common.{rules, ◌≡◌, codes}
use Rattle.rh_desk.proofs.command_line.shown_of.Goals as goal

pub returns-then-eq-clause-shown : goal.returns-then-eq-clause-shown
returns-then-eq-clause-shown c =
    let is : c.args.name.now ≡ codes "map" = search rules in
    (is, c.is_marked.ensures)

pub returns-then-eq-2-clause-shown : goal.returns-then-eq-2-clause-shown
returns-then-eq-2-clause-shown c =
    let is : c.args.name.now ≡ codes "draw" = search rules in
    (is, c.is_marked-then-eq-2.ensures, c.lens_asked.ensures.asked)
