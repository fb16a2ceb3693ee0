use Rattle.rh_tasks.proofs.Common.{refl, sym, reordered-refl, same-alike}
use Rattle.rh_defs.specs.IncomingEvents.{perform_take, take_with}
use Rattle.rh_tasks.proofs.world.World.perform_take.Goals as goal

pub returns-in_default : goal.returns-in_default
unfolding perform_take
returns-in_default g c = rw c.in_default.is (λ t at. (refl, reordered-refl c.args.self.now.desk))

pub take_offer-requires-clause-due : goal.take_offer-requires-clause-due
take_offer-requires-clause-due g c = rw (c.in-Some.is, c.in-Claim.is) at c.requires.due

pub returns-in-Claim : goal.returns-in-Claim
unfolding perform_take
returns-in-Claim g c = rw (c.in-Some.is, c.in-Claim.is) c.take_offer.ensures

pub take_more-requires-clause-due : goal.take_more-requires-clause-due
take_more-requires-clause-due g c = rw (c.in-Some.is, c.in-Append.is) at c.requires.due

pub returns-in-Append : goal.returns-in-Append
unfolding perform_take take_with
returns-in-Append g c = rw (c.in-Some.is, c.in-Append.is) c.take_more.ensures

pub ask_for_file-requires-clause-due : goal.ask_for_file-requires-clause-due
ask_for_file-requires-clause-due g c = rw (c.in-Some.is, c.in-AskForFile.is) at c.requires.due

pub returns-in-AskForFile : goal.returns-in-AskForFile
unfolding perform_take
returns-in-AskForFile g c = rw (c.in-Some.is, c.in-AskForFile.is) c.ask_for_file.ensures

pub load_file-requires-clause-due : goal.load_file-requires-clause-due
load_file-requires-clause-due g c = rw (c.in-Some.is, c.in-LoadFile.is) at c.requires.due

pub returns-in-LoadFile : goal.returns-in-LoadFile
unfolding perform_take take_with
returns-in-LoadFile g c = rw (c.in-Some.is, c.in-LoadFile.is) c.load_file.ensures

pub end_failed-requires-clause-due : goal.end_failed-requires-clause-due
end_failed-requires-clause-due g c = rw c.in-Some.is at c.requires.due

pub end_failed-requires-clause-kept : goal.end_failed-requires-clause-kept
end_failed-requires-clause-kept g c = rw c.in-Release.is refl

pub returns-in-Release : goal.returns-in-Release
unfolding perform_take take_with
returns-in-Release g c =
    let ended = rw c.in-Release.is at c.end_failed.ensures in
    rw (c.in-Some.is, c.in-Release.is) (λ t at. (c.outcome_of.ensures, same-alike (sym (ended t at))))
