use Rattle.rh_pictures.proofs.Common.{◌+◌, arith, refl, scene_at}
use Rattle.rh_pictures.proofs.HeapLemmas.{block-free}
use Rattle.rh_pictures.proofs.LensTells.{claimed-module, module-low, told-module-block}
use Rattle.rh_pictures.proofs.lens.modules.ModuleContents.tell_block.Goals as goal

pub overflow_cast-place : goal.overflow_cast-place
overflow_cast-place g c =
    let x = scene_at (g.S.Sight.desk c.args.self.now.sight.now) c.args.self.now.step.now in
    let low = module-low x c.args.piece.now c.recall_desk.ensures refl c.requires.piece in
    omega (arith, low)

pub read_claimed-requires-clause-block : goal.read_claimed-requires-clause-block
read_claimed-requires-clause-block g c =
    let x = scene_at (g.S.Sight.desk c.args.self.now.sight.now) c.args.self.now.step.now in
    let f = claimed-module x c.args.piece.now c.args.size c.requires.piece c.requires.kind in
    (f.bytes, f.block, f.size)

pub read_claimed-requires-clause-free : goal.read_claimed-requires-clause-free
read_claimed-requires-clause-free g c =
    let x = scene_at (g.S.Sight.desk c.args.self.now.sight.now) c.args.self.now.step.now in
    let f = claimed-module x c.args.piece.now c.args.size c.requires.piece c.requires.kind in
    block-free c.recall_desk.ensures (c.args.piece.now.at + 4) f.free

pub returns : goal.returns
returns g c =
    let x = scene_at (g.S.Sight.desk c.args.self.now.sight.now) c.args.self.now.step.now in
    let p = c.args.piece.now in
    let f = claimed-module x p c.args.size c.requires.piece c.requires.kind in
    told-module-block x p c.args.size f c.requires.kind _ (c.read_claimed.ensures f.bytes f.block f.size)
    c.requires.nothing.used_by c.requires.nothing.message
