use Rattle.std.proofs.Common.{ap, arith, length, sym, ◌++◌, ◌∙◌}
use Rattle.std.proofs.lemmas.List.{append-nil}
use Rattle.rh_run.proofs.StandLaws.{area-fits, area-more, area-opened, few-pages, free-fits, list-long, list-shared, same-areas}
use Rattle.rh_run.proofs.sight.ScriptWorldSight.page_list.Goals as goal

pub push_free-requires : goal.push_free-requires
push_free-requires g c =
    let store = c.store-store.result.now in
    let world = c.args.self.now.world.now in
    let is = c.recall_spelling.ensures in
    let shares = g.met.S.Sited.shared store in
    let fits = free-fits _ _ _ shares _ world c.store-store.ensures is.spelled is.desk in
    record {
      few = few-pages _ _ _ shares _ world c.store-store.ensures is.spelled is.desk;
      room = omega (arith, fits, ap length c.clear.ensures);
    }

pub loop-area-init : goal.loop-area-init
loop-area-init g c =
    let free = g.S.Sited.free_of c.store-store.result.now in
    c.push_free.ensures ∙ ap (λ l. l ++ free) c.clear.ensures ∙ sym (append-nil free)

pub push_area-requires : goal.push_area-requires
push_area-requires g c =
    let store = c.store-store.result.now in
    let world = c.args.self.now.world.now in
    let is = c.recall_spelling.ensures in
    let shares = g.met.S.Sited.shared store in
    let stands = same-areas (g.S.Words.memory store) world _ _ c.as_slice-area-items.ensures.value c.store-store.ensures in
    let at = c.loop-area in
    record {
      few = few-pages _ _ _ shares _ world stands is.spelled is.desk;
      opened = area-opened _ _ _ shares _ world stands is.spelled is.desk _ at.area-index at.invariant c.loop-area-test.true;
      room = area-fits _ _ _ shares _ world stands is.spelled is.desk _ at.area-index at.invariant c.loop-area-test.true;
    }

pub loop-area-preserved : goal.loop-area-preserved
loop-area-preserved g c =
    let store = c.store-store.result.now in
    let world = c.args.self.now.world.now in
    let is = c.recall_spelling.ensures in
    let shares = g.met.S.Sited.shared store in
    let stands = same-areas (g.S.Words.memory store) world _ _ c.as_slice-area-items.ensures.value c.store-store.ensures in
    let at = c.loop-area in
    c.push_area.ensures ∙ area-more _ _ _ shares _ world stands is.spelled is.desk _ at.area-index at.invariant c.loop-area-test.true

pub returns : goal.returns
returns g c =
    let store = c.store-store.result.now in
    let world = c.args.self.now.world.now in
    let is = c.recall_spelling.ensures in
    let shares = g.met.S.Sited.shared store in
    let stands = same-areas (g.S.Words.memory store) world _ _ c.as_slice-area-items.ensures.value c.store-store.ensures in
    let at = c.loop-area in
    record {
      all = list-long _ _ _ shares _ world stands is.spelled is.desk _ at.area-index at.invariant c.loop-area-test.false;
      shared = list-shared _ _ _ shares _ world stands is.spelled is.desk _ at.area-index at.invariant c.loop-area-test.false
          (c.share_law.ensures _ world stands);
    }
