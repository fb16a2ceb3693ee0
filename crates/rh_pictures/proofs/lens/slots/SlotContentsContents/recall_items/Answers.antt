use Rattle.rh_pictures.proofs.Common.{slice_get}
use Rattle.rh_pictures.proofs.LensTells.{slot-item-of}
use Rattle.rh_pictures.proofs.lens.slots.SlotContentsContents.recall_items.Goals as goal

pub returns : goal.returns
returns g c = λ p. slot-item-of (slice_get (g.S.Sight.desk c.args.self.now.sight.now).tasks c.args.self.now.i) p
