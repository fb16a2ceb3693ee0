use Rattle.rh_wimp.proofs.EndLaws.{Ends}
use Rattle.rh_wimp.proofs.queue.Queue.end_chain.Given as goal

-- each turn takes one message off the chain
abbrev pub invariant-loop-turn : goal.invariant-loop-turn
invariant-loop-turn g l = Ends (g.S.Words.memory l.initial.store) (g.S.Words.memory l.store) l.module_area l.initial.self l.self l.dying l.at l._turn
