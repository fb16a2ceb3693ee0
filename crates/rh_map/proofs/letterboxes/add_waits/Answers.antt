use Rattle.rh_map.proofs.Common.{subst, ap, ◌∙◌, ◌++◌, message_entry_text, Fills}
use Rattle.rh_map.proofs.FillLemmas.{fills-all}
use Rattle.rh_map.proofs.LetterLemmas.{waits-are}
use Rattle.rh_map.proofs.letterboxes.add_waits.Goals as goal

pub returns-in-Some : goal.returns-in-Some
returns-in-Some c =
    subst (Fills c.add_more_behind.new.row)
    (waits-are c.args.row.now c.add_entry.new.row c.in-Some.first.now c.in-Some.others.now c.args.waits.now c.args.count
    c.in-Some.ensures.cases.0
    (c.add_entry.ensures.value ∙ ap (λ r. r ++ message_entry_text c.in-Some.first.now) c.text.ensures))
    (c.add_more_behind.ensures _ (c.add_others.ensures.value _ (fills-all c.add_entry.new.row)))
