use Rattle.rh_tasks.proofs.ShareLaws.{page-once}
use Rattle.rh_tasks.proofs.standing.share_law.Goals as goal

pub returns : goal.returns
returns g c = λ ids s w.
    let store = c.args.store.now in
    page-once w (g.met.S.Store.numbered store) (g.S.Sited.pages_of store) (g.S.Sited.free_of store) (g.met.S.Sited.shared store)
