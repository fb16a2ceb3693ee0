use Rattle.rh_script.proofs.GatherLemmas.{gathered_each}
use Rattle.rh_script.proofs.gathered.print_items.Goals as goal

pub loop-item-preserved : goal.loop-item-preserved
loop-item-preserved g c =
    let at = g.P.Pen.offered in
    gathered_each (λ item. g.T.Item.line item) c.args.first c.args.items.now c.loop-item.item-index c.item-item.result _ (at c.args.pen.now)
    (at c.loop-item.pen) (at c.make_room.new.pen) c.loop-item.row c.make_room.new.row c.add.new.row c.item-item.is c.loop-item-test.true
    c.loop-item.invariant c.make_room.ensures.text c.add.ensures
