use Rattle.rh_pictures.proofs.Common.{scene_at}
use Rattle.rh_pictures.proofs.LensTells.{module-item-of}
use Rattle.rh_pictures.proofs.lens.modules.ModuleContentsContents.recall_items.Goals as goal

pub returns : goal.returns
returns g c = λ p. module-item-of (scene_at (g.S.Sight.desk c.args.self.now.sight.now) c.args.self.now.step.now) p
