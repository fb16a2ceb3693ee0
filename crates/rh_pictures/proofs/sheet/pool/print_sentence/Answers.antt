use Rattle.std.proofs.Common.{ap, length, arith}
use Rattle.rh_pictures.proofs.OwnerLemmas.{owner-few, owner-pages}
use Rattle.rh_pictures.proofs.sheet.pool.print_sentence.Goals as goal

pub pages_row-row-requires : goal.pages_row-row-requires
pages_row-row-requires g c =
    let ps = c.args.step.now.pages.now in
    let is = owner-pages ps c.requires.step.shared c.requires.owner c.pages_of-pages.result.now c.pages_of-pages.ensures in
    omega (arith, ap length is, owner-few ps c.requires.step.shared c.requires.owner c.recall_desk.ensures c.requires.step.all)
