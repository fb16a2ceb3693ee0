-- The amount is negative or not, and its whole pages go or come.
use Rattle.rh_module.proofs.Common.{◌≡◌, Bool, pos, err_from_is_err_and, module_heap_in}
use Rattle.std.specs.Int.Signed.{lt_z}
use Rattle.rh_module.proofs.CallLaws.{leaves, refuses}
use Rattle.rh_module.proofs.NeedLaws.{passed}
use Rattle.rh_module.proofs.ChangeLaws.{Amount, change_too_low, change_shortened, change_no_room, change_lengthened}
use Rattle.rh_module.proofs.module.Module.change.Goals as goal
use Rattle.rh_module.proofs.module.Module.change.Goals.{After-pages_for-pages, then-delta-lt0+in_ok-shorten, else-delta-lt0+in_ok-lengthen}
use Rattle.rh_module.proofs.module.Module.change.Given as given

amount : (g : given.Over) (c : After-pages_for-pages g) {negative : Bool} → lt_z (passed c.args.delta) (pos 0) ≡ negative
    → Amount c.args.delta c.unsigned_abs.result c.pages_for-pages.result negative
amount g c sign = record { fits = c.ranges.delta; size_is = c.unsigned_abs.ensures.value; pages_are = c.pages_for-pages.ensures; sign = sign }

pub returns-in_err-shorten : goal.returns-in_err-shorten
returns-in_err-shorten g c =
    let m = g.S.Words.memory c.args.store.now in
    let a = amount g (goal.at.returns-in_err-shorten g c).After-pages_for-pages c.if-delta-lt0.true in
    let p = err_from_is_err_and c.from_residual.result c.from_residual.ensures.1 in
    rw (p.1, p.2, c.in_err-shorten.ensures.reason) (refuses _ _ _ _ _ (change_too_low m.free (module_heap_in m c.args.self) a c.in_err-shorten.ensures.refused)
    c.in_err-shorten.ensures.err c.requires)

pub returns-in_err-lengthen : goal.returns-in_err-lengthen
returns-in_err-lengthen g c =
    let m = g.S.Words.memory c.args.store.now in
    let a = amount g (goal.at.returns-in_err-lengthen g c).After-pages_for-pages c.if-delta-lt0.false in
    let p = err_from_is_err_and c.from_residual-in_err-lengthen.result c.from_residual-in_err-lengthen.ensures.1 in
    rw (p.1, p.2, c.in_err-lengthen.ensures.reason)
    (refuses _ _ _ _ _ (change_no_room m.free (module_heap_in m c.args.self) a c.requires.spells.spells.heap.fits c.in_err-lengthen.ensures.refused)
    c.in_err-lengthen.ensures.err c.requires)

pub returns : goal.returns
returns g c =
    let m = g.S.Words.memory c.args.store.now in
    let h = module_heap_in m c.args.self in
    let k = (goal.at.returns g c).After-pages_for-pages in
    elim c.if-delta-lt0.branch [
      | then-delta-lt0+in_ok-shorten w ↦
          leaves _ _ _ _ _ _ (change_shortened m.free h (amount g k w.if-delta-lt0.true) w.in_ok-shorten.ensures.room)
          (rw w.store-is w.in_ok-shorten.ensures.spells) (rw w.store-is w.in_ok-shorten.ensures.only)
      | else-delta-lt0+in_ok-lengthen w ↦
          leaves _ _ _ _ _ _ (change_lengthened m.free h (amount g k w.if-delta-lt0.false) c.requires.spells.spells.heap.fits w.in_ok-lengthen.ensures.room)
          (rw w.store-is w.in_ok-lengthen.ensures.spells) (rw w.store-is w.in_ok-lengthen.ensures.only)
    ]
