use Rattle.std.proofs.Common.{◌+◌, ◌-◌, ◌≤◌, length, arith}
use Rattle.rh_pictures.proofs.OwnerLemmas.{holdings-few, if-none, none-behind}
use Rattle.rh_pictures.proofs.owners.owner_at.Goals as goal

pub returns-else-k-made-clause-none : goal.returns-else-k-made-clause-none
returns-else-k-made-clause-none g c =
    let past : 6 + length (g.S.Sight.desk c.args.sight.now).made ≤ c.args.k = omega (arith, c.if-k-made.false, c.requires.made) in
    if-none c.slot_owner.result c.slot_owner.ensures.none
    (none-behind c.recall_desk.ensures c.args.k past (c.args.k - 6 - c.args.made) (omega (arith, past, c.requires.made)))

pub returns-else-k-made-clause-few : goal.returns-else-k-made-clause-few
returns-else-k-made-clause-few g c = holdings-few c.recall_desk.ensures
