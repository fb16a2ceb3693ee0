use Rattle.rh_script.proofs.Common.{◌∷◌, [], sym, arith, area_items, decimal, area_line, ok}
use Rattle.std.proofs.lemmas.Option.{slice_get_within}
use Rattle.rh_tasks.specs.WorldItems.{area_item_of}
use Rattle.rh_script.proofs.GatherLemmas.{gathered_next, gathered_past}
use Rattle.rh_script.proofs.listed.print_entries.Goals as goal

pub overflow_add-i : goal.overflow_add-i
overflow_add-i g c =
    omega (
      arith,
      slice_get_within (area_items c.args.world.now.desk) c.items.i (area_item_of c.in-Some.item)
          (sym c.in-Some.ensures.item),
      c.in-Some.ensures.few,
    )

pub items-smaller : goal.items-smaller
items-smaller g c = omega (arith, slice_get_within (area_items c.args.world.now.desk) c.items.i (area_item_of c.in-Some.item) (sym c.in-Some.ensures.item))

pub items-preserved : goal.items-preserved
items-preserved g c =
    let at = g.P.Pen.offered in
    gathered_next area_line (ok (decimal c.args.free ∷ [])) (area_items c.args.world.now.desk) c.items.i (area_item_of c.in-Some.item) (at c.args.pen.now)
    (at c.items.pen) (at c.make_room.new.pen) c.items.row c.make_room.new.row c.add_area.new.row c.in-Some.ensures.item c.items.invariant
    c.make_room.ensures.text c.add_area.ensures

pub returns : goal.returns
returns g c =
    let at = g.P.Pen.offered in
    gathered_past area_line (ok (decimal c.args.free ∷ [])) (area_items c.args.world.now.desk) c.items.i (at c.args.pen.now) (at c.items.pen) c.items.row
    (at c.put.new.self) c.in_default.ensures.item c.items.invariant (rw (← c.as_slice.ensures) c.put.ensures)
