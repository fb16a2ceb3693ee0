-- The heap is short of what its need says, and has room once the area has grown by that.
use Rattle.rh_module.proofs.Common.{refl, err_from_is_err_and, module_heap_in}
use Rattle.rh_defs.specs.Heap.{resize_block}
use Rattle.rh_defs.specs.Module.{module_resize}
use Rattle.rh_module.proofs.SpanLaws.{is_span}
use Rattle.rh_module.proofs.CallLaws.{refuses}
use Rattle.rh_module.proofs.GrowthLaws.{Grown, is_done, done}
use Rattle.rh_module.proofs.NeedLaws.{passed, resize_refused, resize_no_room, resize_grown}
use Rattle.rh_module.proofs.module.Module.resize_growing.Goals as goal
use Rattle.rh_module.proofs.module.Module.resize_growing.Goals.{In_ok-lengthen}
use Rattle.rh_module.proofs.module.Module.resize_growing.Given as given

pub returns-in_err-shortage : goal.returns-in_err-shortage
returns-in_err-shortage g c =
    let p = err_from_is_err_and c.from_residual.result c.from_residual.ensures.1 in
    rw (p.1, p.2) (refuses _ _ _ _ _ (resize_refused c.span-span.ensures c.requires c.args.address c.args.delta c.ranges.delta c.in_err-shortage.ensures)
    refl c.requires)

pub returns-in_err-lengthen : goal.returns-in_err-lengthen
returns-in_err-lengthen g c =
    let p = err_from_is_err_and c.from_residual-in_err-lengthen.result c.from_residual-in_err-lengthen.ensures.1 in
    let refused = resize_no_room c.span-span.ensures c.requires c.args.address c.args.delta c.ranges.delta c.in_ok-shortage.ensures c.pages_for.ensures
    c.in_err-lengthen.ensures.refused in
    rw (p.1, p.2, c.in_err-lengthen.ensures.reason) (refuses _ _ _ _ _ refused c.in_err-lengthen.ensures.err c.requires)

pub resize-requires : goal.resize-requires
resize-requires g c = is_span (g.S.Words.memory c.lengthen.new.store) c.args.self c.span-span.result _ c.span-span.ensures
    c.in_ok-lengthen.ensures.only.opened c.in_ok-lengthen.ensures.spells.spells

grown : (g : given.Over) (c : In_ok-lengthen g)
    → let m = g.S.Words.memory c.args.store.now in let h = module_heap_in m c.args.self in
    Grown (g.S.Words.memory c.lengthen.new.store) c.args.self c.span-span.result h c.in_ok-shortage.shortage (resize_block c.args.address (passed c.args.delta))
    (module_resize m.free c.args.address c.args.delta h)
grown g c =
    resize_grown c.span-span.ensures c.requires c.args.address c.args.delta c.ranges.delta (g.S.Words.memory c.lengthen.new.store) c.in_ok-shortage.ensures
    c.pages_for.ensures c.in_ok-lengthen.ensures.room c.in_ok-lengthen.ensures.spells

pub unwrap-requires : goal.unwrap-requires
unwrap-requires g c = is_done (grown g (goal.at.unwrap-requires g c).In_ok-lengthen) (g.S.Words.memory c.args.store.now) _ _ c.resize.ensures

pub returns : goal.returns
returns g c = done (grown g (goal.at.returns g c).In_ok-lengthen) _ _ _ c.resize.ensures _ c.unwrap.ensures c.in_ok-lengthen.ensures.only
