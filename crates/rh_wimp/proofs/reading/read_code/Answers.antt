use Rattle.std.proofs.Common.{arith}
use Rattle.rh_wimp.proofs.reading.read_code.Goals as goal

pub code_in-requires-clause-lies : goal.code_in-requires-clause-lies
code_in-requires-clause-lies g c = let l = c.requires.lies in (0, (l.0, record { lies = l.1.lies; block_is = l.1.block_is; small = omega arith }))

pub returns : goal.returns
returns g c = λ p w. c.code_in.ensures 0 p (record { lies = w.lies; block_is = w.block_is; small = omega arith })
