use Rattle.rh_script.proofs.Common.{◌≡◌, ℕ, List, Err, arith, tests}
use Rattle.rh_defs.specs.declared.refusal.Refusal.{Refusal}
use Rattle.rh_defs.specs.Desk.{Desk, named}
use Rattle.rh_defs.specs.Questions.{show, status_at}
use Rattle.rh_script.proofs.PrintLemmas.{refused_alike}
use Rattle.rh_script.proofs.ReadLemmas.{named_is_slot, shows_none, size_read}
use Rattle.rh_script.proofs.read.size_of_block.Goals as goal

unnamed_shows : (d : Desk) (name : List ℕ) (k : ℕ) (refusal : Refusal) → status_at d name ≡ Err refusal → show d name k ≡ Err refusal
unfolding status_at show
unnamed_shows d name k refusal e = refused_alike (named name d) _ _ refusal e

pub returns-in-Err-clause-refused : goal.returns-in-Err-clause-refused
returns-in-Err-clause-refused g c =
    unnamed_shows c.args.world.now.desk c.args.name.now c.args.anchor _ c.in-Err.ensures.err

pub returns-in-Ok-clause-refused : goal.returns-in-Ok-clause-refused
returns-in-Ok-clause-refused g c =
    shows_none c.args.world.now.desk c.args.name.now c.args.anchor _ _ _
    (named_is_slot c.args.name.now c.args.world.now.desk c.recall_spelling.ensures.desk.slots)
    (grind (arith, tests)) c.in-Ok.ensures.ok

pub returns-clause-shown : goal.returns-clause-shown
returns-clause-shown g c = (size_read c.args.world.now.desk c.args.name.now c.args.anchor _ _ _ c.show.ensures).shown

pub returns-clause-size : goal.returns-clause-size
returns-clause-size g c = (size_read c.args.world.now.desk c.args.name.now c.args.anchor _ _ _ c.show.ensures).size

pub returns-clause-refused : goal.returns-clause-refused
returns-clause-refused g c = (size_read c.args.world.now.desk c.args.name.now c.args.anchor _ _ _ c.show.ensures).refused
