use Rattle.vf_desk.proofs.Common.{sym, arith, as_area}
use Rattle.std.proofs.lemmas.Option.{slice_get_within}
use Rattle.rh_defs.specs.Questions.{area_items}
use Rattle.rh_tasks.specs.WorldItems.{area_item_of}
use Rattle.vf_desk.proofs.FillLaws.{filled-none, items-all, items-more}
use Rattle.vf_desk.proofs.lists.list_areas.Goals as goal

pub items-init : goal.items-init
items-init c = record { few = omega arith; filled_is = sym (filled-none c.args.to.now) }

pub overflow_add-i : goal.overflow_add-i
overflow_add-i c =
    omega (
      arith,
      slice_get_within (area_items c.args.world.now.desk) c.items.i (area_item_of c.in-Some.entry)
          (sym c.in-Some.ensures.item),
      c.in-Some.ensures.few,
    )

pub items-smaller : goal.items-smaller
items-smaller c =
    omega (arith, slice_get_within (area_items c.args.world.now.desk) c.items.i (area_item_of c.in-Some.entry) (sym c.in-Some.ensures.item))

pub items-preserved : goal.items-preserved
items-preserved c = record {
  few = omega (arith, slice_get_within (area_items c.args.world.now.desk) c.items.i (area_item_of c.in-Some.entry) (sym c.in-Some.ensures.item));
  filled_is = items-more as_area (area_items c.args.world.now.desk) c.items.i (area_item_of c.in-Some.entry) c.listed_area.result c.args.to.now c.items.to _
      c.listed_area.ensures c.in-Some.ensures.item c.items.invariant.filled_is c.put_at.ensures;
}

pub returns-clause-list : goal.returns-clause-list
returns-clause-list c =
    (items-all as_area (area_items c.args.world.now.desk) c.items.i c.args.to.now c.items.to c.items.invariant.few c.in_default.ensures.item
    c.items.invariant.filled_is).0

pub returns-clause-count : goal.returns-clause-count
returns-clause-count c =
    (items-all as_area (area_items c.args.world.now.desk) c.items.i c.args.to.now c.items.to c.items.invariant.few c.in_default.ensures.item
    c.items.invariant.filled_is).1
