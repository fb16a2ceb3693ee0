use Rattle.rh_script.proofs.PrintLemmas.{refused_text, show_text}
use Rattle.rh_script.proofs.ReadLemmas.{held_read, unheld_read}
use Rattle.rh_script.proofs.held.print_read.Goals as goal

pub print_held-requires : goal.print_held-requires
print_held-requires g c =
    let r = held_read c.args.world.now.desk c.args.name.now c.args.address c.args.size _ c.in-Ok.ensures.size in
    record { read = r.bytes_are; long = c.in-Ok.ensures.whole _ r.bytes_are }

pub returns-in-Ok : goal.returns-in-Ok
returns-in-Ok g c =
    let r = held_read c.args.world.now.desk c.args.name.now c.args.address c.args.size _ c.in-Ok.ensures.size in
    rw (← show_text _ _ _ r.told) c.print_held.ensures

pub returns-in-Err : goal.returns-in-Err
returns-in-Err g c =
    rw (← refused_text _ _ (unheld_read c.args.world.now.desk c.args.name.now c.args.address c.args.size _ c.in-Err.ensures.size)) c.put_first_line.ensures
