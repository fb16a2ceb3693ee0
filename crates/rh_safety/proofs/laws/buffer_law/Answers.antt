use Rattle.rh_safety.proofs.Played.{all_buffers, all_ranges}
use Rattle.rh_safety.proofs.SeenDesks.{fits}
use Rattle.rh_safety.proofs.SeenLaws.{always}
use Rattle.rh_safety.proofs.SeenRanges.{good_ranges}
use Rattle.rh_safety.proofs.SeenBuffers.{has_buffers}
use Rattle.rh_safety.specs.Buffers.{HasBuffers, HasGoodRanges}
use Rattle.rh_safety.proofs.laws.buffer_law.Goals as goal

pub returns-clause-buffers : goal.returns-clause-buffers
returns-clause-buffers c = always HasBuffers (λ d w. has_buffers d w.stands)

pub returns-clause-ranges : goal.returns-clause-ranges
returns-clause-ranges c = always HasGoodRanges (λ d w. good_ranges d (fits d w.kept) w.stands)

pub returns-clause-all_buffers : goal.returns-clause-all_buffers
returns-clause-all_buffers c = all_buffers

pub returns-clause-all_ranges : goal.returns-clause-all_ranges
returns-clause-all_ranges c = all_ranges
