use Rattle.rh_pictures.proofs.Common.{◌-◌, ◌++◌, length, drop, codes, owner_name, Holding, holdings, Left, escape, escaped_byte, scene_at}
use Rattle.rh_defs.specs.Desk.{free_pages}
use Rattle.rh_sheet.specs.Pool.{free_text, owner_sentence, pool_description}
use Rattle.rh_pictures.proofs.ElementLemmas.{elements}
use Rattle.rh_pictures.proofs.sheet.pool.print_description.Given as goal

-- the owners from the place on are left, and how many pages are free
abbrev pub invariant-owners : goal.invariant-owners
invariant-owners g l =
    let d = g.S.Sight.desk l.sight in
    let x = scene_at d l.step in
    Left (g.P.Pen.offered l.initial.pen) (g.P.Pen.offered l.pen) (escape (pool_description x))
    (elements escaped_byte (λ (o : Holding). owner_sentence (owner_name x.desk o.0) (x.share.pages_of o.0))
    (free_text (free_pages d) d.pool ++ codes ".") (drop l.k (holdings d)))

abbrev pub decreases-owners : goal.decreases-owners
decreases-owners g l = length (holdings (g.S.Sight.desk l.sight)) - l.k
