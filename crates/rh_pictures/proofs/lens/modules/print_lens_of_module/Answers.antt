use Rattle.rh_pictures.proofs.Common.{List, AllByRecursion, AreaOf, Piece, ap, arith, length, min, offered_as, refl, scene_at, subst, sym, ◌∙◌}
use Rattle.rh_lens.specs.Lens.{area_lens_text}
use Rattle.rh_lens.specs.PlacedSpots.{IsTellable}
use Rattle.rh_lens.specs.Views.{CanBeStripped, ModuleCanBeDrawn}
use Rattle.rh_scene.specs.Steps.{IsStepOf}
use Rattle.rh_scene.specs.declared.sight.PagesOf.TheVariants as pages
use Rattle.rh_pictures.specs.LensContents.{IsModulePiece}
use Rattle.rh_pictures.proofs.LensLooks.{module-few, module-look-same, module-stripped, module-tellable}
use Rattle.rh_pictures.proofs.PageLemmas.{owned, seen-fixed}
use Rattle.rh_pictures.proofs.lens.modules.print_lens_of_module.Goals as goal

pub print_module_lens-requires-clause-view : goal.print_module_lens-requires-clause-view
print_module_lens-requires-clause-view g c =
    let d = g.S.Sight.desk c.args.sight.now in
    let x = scene_at d c.args.step.now in
    let is = c.recall_desk.ensures in
    let numbers = c.args.step.now.pages.now in
    let found = c.pages_of.result.now in
    let so = c.requires.step in
    let pages_are = owned is numbers so.shared (pages.Fixed 1) (AreaOf 1) found (seen-fixed is 1 (omega arith)) c.pages_of.ensures in
    let pieces = sym (c.deref.ensures.0 ∙ c.module_pieces.ensures) in
    record {
      strip = subst (CanBeStripped found) pieces (module-stripped is x refl numbers found so.shared so.all pages_are);
      parts = subst (AllByRecursion (IsTellable (λ p. IsStepOf d c.args.step.now × IsModulePiece x p))) pieces (module-tellable is x refl so);
      few = omega (arith, module-few is x refl, ap length pieces);
    }

pub returns : goal.returns
returns g c =
    let d = g.S.Sight.desk c.args.sight.now in
    let x = scene_at d c.args.step.now in
    let is = c.recall_desk.ensures in
    let pages_are = owned is c.args.step.now.pages.now c.requires.step.shared (pages.Fixed 1) (AreaOf 1) c.pages_of.result.now
    (seen-fixed is 1 (omega arith)) c.pages_of.ensures in
    let same = module-look-same x pages_are (c.deref.ensures.0 ∙ c.module_pieces.ensures) in
    offered_as _ (ap (λ l. area_lens_text l c.args.size.width (min c.args.size.scale 8)) same) c.print_module_lens.ensures
