use Rattle.rh_safety.specs.Polls.{CountsFit, LosesNoBlock}
use Rattle.rh_safety.specs.TaskRecords.{AreRecorded, HasNoRecords}
use Rattle.rh_safety.proofs.RecordLaws.{are_recorded, has_no_records}
use Rattle.rh_safety.proofs.CountLaws.{counts_fit}
use Rattle.rh_safety.proofs.HeldCounts.{always_counts_held, always_counts_offered}
use Rattle.rh_safety.proofs.NameLaws.{always_own_names}
use Rattle.rh_safety.proofs.Played.{all_counts}
use Rattle.rh_safety.proofs.SeenDesks.{fits}
use Rattle.rh_safety.proofs.SeenLaws.{always}
use Rattle.rh_safety.proofs.SeenRanges.{no_lost_blocks}
use Rattle.rh_safety.proofs.laws.record_law.Goals as goal

pub returns-clause-records : goal.returns-clause-records
returns-clause-records c = always AreRecorded (λ d w. are_recorded w.gave d w.stands.good)

pub returns-clause-none : goal.returns-clause-none
returns-clause-none c = always HasNoRecords (λ d w. has_no_records d w.stands)

pub returns-clause-blocks : goal.returns-clause-blocks
returns-clause-blocks c = always LosesNoBlock (λ d w. no_lost_blocks d (fits d w.kept) w.stands)

pub returns-clause-counts : goal.returns-clause-counts
returns-clause-counts c = always CountsFit (λ d w. counts_fit w.gave d w.kept w.stands.good)

pub returns-clause-names : goal.returns-clause-names
returns-clause-names c = always_own_names

pub returns-clause-held : goal.returns-clause-held
returns-clause-held c = always_counts_held

pub returns-clause-offered : goal.returns-clause-offered
returns-clause-offered c = always_counts_offered

pub returns-clause-all : goal.returns-clause-all
returns-clause-all c = all_counts
