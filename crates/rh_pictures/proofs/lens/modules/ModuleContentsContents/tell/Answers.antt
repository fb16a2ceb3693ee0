use Rattle.rh_pictures.proofs.Common.{scene_at}
use Rattle.rh_pictures.proofs.LensTells.{told-bare-module}
use Rattle.rh_pictures.proofs.lens.modules.ModuleContentsContents.tell.Goals as goal

pub tell_message-requires-clause-nothing : goal.tell_message-requires-clause-nothing
tell_message-requires-clause-nothing g c = c.tell_nothing.ensures c.args.piece.now

pub tell_block-requires-clause-nothing : goal.tell_block-requires-clause-nothing
tell_block-requires-clause-nothing g c = c.tell_nothing.ensures c.args.piece.now

pub returns-in_default : goal.returns-in_default
returns-in_default g c =
    told-bare-module (scene_at (g.S.Sight.desk c.args.self.now.sight.now) c.args.self.now.step.now) c.args.piece.now _
    c.in_default.not-Posted c.in_default.not-Claimed (c.tell_nothing.ensures c.args.piece.now)
