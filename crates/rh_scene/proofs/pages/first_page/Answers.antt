use Rattle.rh_scene.proofs.Common.{ap, arith}
use Rattle.rh_defs.specs.declared.sizes.TheConstants.{FIXED_AREAS}
use Rattle.rh_defs.specs.Desk.{most_made}
use Rattle.rh_scene.specs.declared.sight.PagesOf.{PagesOf}
use Rattle.rh_scene.specs.Inner.OwnerPlaces.{pages_before}
use Rattle.rh_scene.proofs.Holders.{all-made, before-fixed, before-made, before-slot, fixed-room, free-few, made-few, slots-few, within-fixed, within-made}
use Rattle.rh_scene.proofs.pages.first_page.Goals as goal

pub overflow_add-result-in-Made-2 : goal.overflow_add-result-in-Made-2
overflow_add-result-in-Made-2 g c =
    omega (
      arith,
      c.free_pages-free.ensures,
      c.fixed_before-in-Made.ensures,
      c.made_before.ensures,
      free-few c.recall_desk.ensures,
      fixed-room c.recall_desk.ensures FIXED_AREAS (omega arith),
      made-few c.recall_desk.ensures c.in-Made.i,
    )

pub overflow_add-result-in-Slot-2 : goal.overflow_add-result-in-Slot-2
overflow_add-result-in-Slot-2 g c =
    omega (
      arith,
      c.free_pages-free.ensures,
      c.fixed_before-in-Slot.ensures,
      c.made_before-in-Slot.ensures,
      free-few c.recall_desk.ensures,
      fixed-room c.recall_desk.ensures FIXED_AREAS (omega arith),
      made-few c.recall_desk.ensures most_made,
    )

pub overflow_add-result-in-Slot-3 : goal.overflow_add-result-in-Slot-3
overflow_add-result-in-Slot-3 g c =
    omega (
      arith,
      c.free_pages-free.ensures,
      c.fixed_before-in-Slot.ensures,
      c.made_before-in-Slot.ensures,
      c.slots_before.ensures,
      free-few c.recall_desk.ensures,
      fixed-room c.recall_desk.ensures FIXED_AREAS (omega arith),
      made-few c.recall_desk.ensures most_made,
      slots-few c.recall_desk.ensures c.in-Slot.i,
    )

pub returns-in-Fixed : goal.returns-in-Fixed
returns-in-Fixed g c =
    let before = before-fixed c.recall_desk.ensures c.in-Fixed.number
    (within-fixed c.recall_desk.ensures c.args.owner c.in-Fixed.number c.in-Fixed.is c.requires) in
    let same = ap (λ (o : PagesOf). pages_before o (g.S.Sight.desk c.args.sight.now)) c.in-Fixed.is in
    omega (arith, before, same, c.free_pages-free.ensures, c.fixed_before.ensures)

pub returns-in-Made : goal.returns-in-Made
returns-in-Made g c =
    let before = before-made c.recall_desk.ensures c.in-Made.i (within-made c.recall_desk.ensures c.args.owner c.in-Made.i c.in-Made.is c.requires) in
    let same = ap (λ (o : PagesOf). pages_before o (g.S.Sight.desk c.args.sight.now)) c.in-Made.is in
    omega (arith, before, same, c.free_pages-free.ensures, c.fixed_before-in-Made.ensures, c.made_before.ensures)

pub returns-in-Slot : goal.returns-in-Slot
returns-in-Slot g c =
    let before = before-slot c.recall_desk.ensures c.in-Slot.i in
    let same = ap (λ (o : PagesOf). pages_before o (g.S.Sight.desk c.args.sight.now)) c.in-Slot.is in
    omega (
      arith,
      before,
      same,
      all-made c.recall_desk.ensures,
      c.free_pages-free.ensures,
      c.fixed_before-in-Slot.ensures,
      c.made_before-in-Slot.ensures,
      c.slots_before.ensures,
    )
