use Rattle.rh_safety.proofs.SeenDesks.{fits}
use Rattle.rh_safety.proofs.SeenLaws.{always}
use Rattle.rh_laws.specs.Frame.{KeepsBlocks, PollsFill}
use Rattle.rh_laws.proofs.Frames.{leaves-others, moves-fit}
use Rattle.rh_laws.proofs.FrameReaches.{reaches-opened}
use Rattle.rh_laws.proofs.FrameSends.{sends-alone}
use Rattle.rh_laws.proofs.FramePolls.{keeps-blocks, polls-fill}
use Rattle.rh_laws.proofs.frame.frame_law.Goals as goal

pub returns-clause-others : goal.returns-clause-others
returns-clause-others c = leaves-others

pub returns-clause-moves : goal.returns-clause-moves
returns-clause-moves c = moves-fit

pub returns-clause-polls : goal.returns-clause-polls
returns-clause-polls c = always PollsFill (λ d w. polls-fill d (fits d w.kept) w.stands)

pub returns-clause-blocks : goal.returns-clause-blocks
returns-clause-blocks c = always KeepsBlocks (λ d w. keeps-blocks d (fits d w.kept) w.stands)

pub returns-clause-sends : goal.returns-clause-sends
returns-clause-sends c = sends-alone

pub returns-clause-opened : goal.returns-clause-opened
returns-clause-opened c = reaches-opened
