use Rattle.std.proofs.Common.{◌<◌, ℕ, List, [], get_or, length, ◌∙◌, arith}
use Rattle.rh_run.proofs.PageLaws.{all-there, area-small, one-more}
use Rattle.rh_run.proofs.sight.push_area.Goals as goal

pub overflow_cast-page : goal.overflow_cast-page
overflow_cast-page g c =
    let store = c.args.store.now in
    let shares = g.met.S.Sited.shared store in
    let at : c.loop-i.i < length (get_or (g.S.Sited.pages_of store) c.args.area.0 []) =
    omega (arith, c.loop-i-test.true, shares.areas c.args.area.0, c.len-i-end.ensures) in
    omega (arith, area-small _ _ _ shares c.requires.few c.args.area.0 c.loop-i.i 0 at, c.page.ensures)

pub loop-i-preserved : goal.loop-i-preserved
loop-i-preserved g c =
    let store = c.args.store.now in
    let shares = g.met.S.Sited.shared store in
    let pages : List ℕ = get_or (g.S.Sited.pages_of store) c.args.area.0 [] in
    c.push.ensures.items
    ∙ one-more c.args.list.now.items _ pages c.loop-i.i c.loop-i.invariant _
    (omega (arith, c.loop-i-test.true, shares.areas c.args.area.0, c.len-i-end.ensures)) c.page.ensures

pub returns : goal.returns
returns g c =
    let store = c.args.store.now in
    let shares = g.met.S.Sited.shared store in
    let pages : List ℕ = get_or (g.S.Sited.pages_of store) c.args.area.0 [] in
    all-there c.args.list.now.items _ pages c.loop-i.i c.loop-i.invariant
    (omega (arith, c.loop-i-test.false, shares.areas c.args.area.0, c.len-i-end.ensures))
