use Rattle.rh_script.proofs.PrintLemmas.{refused_text, show_text}
use Rattle.rh_script.proofs.shown.print_shown.Goals as goal

pub returns-in-Ok : goal.returns-in-Ok
returns-in-Ok g c = rw (← show_text _ _ _ c.in-Ok.ensures.shown) c.print_block.ensures

pub returns-in-Err : goal.returns-in-Err
returns-in-Err g c = rw (← refused_text _ _ c.in-Err.ensures.refused) c.put_first_line.ensures
