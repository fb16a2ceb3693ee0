use Rattle.std.proofs.Common.{◌<◌, ◌≤◌, arith, length}
use Rattle.std.specs.Prelude.{nat_lt}
use Rattle.rh_lens.proofs.LoopLemmas.{no-more, nothing-where, some-more, written-where}
use Rattle.rh_lens.proofs.lens.print_module_strip.Goals as goal

pub returns-then-view-le1 : goal.returns-then-view-le1
returns-then-view-le1 g c item =
    let few : length c.args.view.now.pages.now ≤ 1 = omega arith in
    nothing-where (nat_lt 1 (length c.args.view.now.pages.now)) _ _ (no-more 1 (length c.args.view.now.pages.now) few)

pub returns : goal.returns
returns g c item =
    let more : 1 < length c.args.view.now.pages.now = omega arith in
    written-where (nat_lt 1 (length c.args.view.now.pages.now)) (g.P.Pen.offered c.args.pen.now) _
    (some-more 1 (length c.args.view.now.pages.now) more) c.print_strip.ensures
