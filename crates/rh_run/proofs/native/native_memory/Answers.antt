use Rattle.std.proofs.Common.{ap, arith, ◌∙◌}
use Rattle.rh_defs.specs.Runs.{start}
use Rattle.rh_run.proofs.FreshLaws.{pages_are, fresh_by_pages}
use Rattle.rh_run.proofs.native.native_memory.Goals as goal

pub new-requires-3-clause-fresh : goal.new-requires-3-clause-fresh
new-requires-3-clause-fresh c = fresh_by_pages _ c.args.pages c.in_ok-store.ensures

pub new-requires-3-clause-least : goal.new-requires-3-clause-least
new-requires-3-clause-least c =
    let same = pages_are _ c.args.pages c.in_ok-store.ensures in
    let least = c.requires.least in omega arith

pub new-requires-3-clause-most : goal.new-requires-3-clause-most
new-requires-3-clause-most c =
    let same = pages_are _ c.args.pages c.in_ok-store.ensures in
    let most = c.requires.most in omega arith

pub returns-in-Ok : goal.returns-in-Ok
returns-in-Ok c =
    ap (λ w. w.desk) c.in-Ok.ensures.ok ∙ c.new-3.ensures
    ∙ ap (λ n. start n c.args.files) (pages_are _ c.args.pages c.in_ok-store.ensures)
