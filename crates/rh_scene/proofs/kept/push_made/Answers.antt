use Rattle.rh_scene.proofs.Common.{◌∙◌, ap, map-append, holdings_of, made_holding}
use Rattle.rh_scene.specs.SightOwners.{holding_of}
use Rattle.rh_scene.proofs.Places.{filled-all, filled-more}
use Rattle.rh_scene.proofs.kept.push_made.Goals as goal

pub areas-preserved : goal.areas-preserved
areas-preserved g c =
    ap holdings_of c.push.ensures.items
    ∙ (map-append holding_of c.areas.list.items _
    ∙ filled-more made_holding (g.S.Sight.desk c.args.sight.now).made c.areas.i (holdings_of c.args.list.now.items) (holdings_of c.areas.list.items)
    c.areas.invariant _ c.in-Some.ensures.some)

pub returns : goal.returns
returns g c =
    filled-all made_holding (g.S.Sight.desk c.args.sight.now).made c.areas.i (holdings_of c.args.list.now.items) (holdings_of c.areas.list.items)
    c.areas.invariant c.in_default.ensures.none
