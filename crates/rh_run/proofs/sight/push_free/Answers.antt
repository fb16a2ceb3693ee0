use Rattle.std.proofs.Common.{◌<◌, length, ◌∙◌, arith}
use Rattle.rh_run.proofs.PageLaws.{all-there, free-small, one-more}
use Rattle.rh_run.proofs.sight.push_free.Goals as goal

pub overflow_cast-free_page : goal.overflow_cast-free_page
overflow_cast-free_page g c =
    let store = c.args.store.now in
    let shares = g.met.S.Sited.shared store in
    let at : c.loop-i.i < length (g.S.Sited.free_of store) = omega (arith, c.loop-i-test.true, shares.frees, c.free_pages-i-end.ensures) in
    omega (arith, free-small _ _ _ shares c.requires.few c.loop-i.i 0 at, c.free_page.ensures)

pub loop-i-preserved : goal.loop-i-preserved
loop-i-preserved g c =
    let store = c.args.store.now in
    let shares = g.met.S.Sited.shared store in
    c.push.ensures.items
    ∙ one-more c.args.list.now.items _ (g.S.Sited.free_of store) c.loop-i.i c.loop-i.invariant _
    (omega (arith, c.loop-i-test.true, shares.frees, c.free_pages-i-end.ensures)) c.free_page.ensures

pub returns : goal.returns
returns g c =
    let store = c.args.store.now in
    let shares = g.met.S.Sited.shared store in
    all-there c.args.list.now.items _ (g.S.Sited.free_of store) c.loop-i.i c.loop-i.invariant
    (omega (arith, c.loop-i-test.false, shares.frees, c.free_pages-i-end.ensures))
