use Rattle.rh_pictures.proofs.Common.{◌-◌, ap, drop, length, arith, length-take}
use Rattle.std.proofs.lemmas.List.{length-drop}
use Rattle.rh_pictures.proofs.walks.page_changes.freed_of.Goals as goal

pub returns-clause-few : goal.returns-clause-few
returns-clause-few g c =
    let free = c.free_of-free.result.now in
    omega (
      arith,
      ap length c.free_of-free.ensures,
      c.requires.shared.free,
      c.recall_desk.ensures.pool,
      length-take (length free - c.min-had.result)
          (drop c.min-had.result free),
      length-drop c.min-had.result free,
    )
