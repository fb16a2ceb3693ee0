use Rattle.rh_tasks.proofs.Common.{sym, ap, arith}
use Rattle.rh_tasks.specs.Inner.RawSteps.{refusal_after}
use Rattle.rh_tasks.proofs.SendRooms.{send-refused, send-fits, send-lacks}
use Rattle.rh_tasks.proofs.letters.refused_after.Goals as goal

pub returns-then-free_pages-pages : goal.returns-then-free_pages-pages
returns-then-free_pages-pages g c = λ post spelled.
    let needs = sym (c.in-Ok.ensures post spelled) in
    sym (ap (λ x. refusal_after x c.args.refusal) (send-lacks _ c.args.letter.now post needs (omega (arith, c.if-free_pages-pages.true, c.free_pages.ensures))))

pub returns-else-free_pages-pages : goal.returns-else-free_pages-pages
returns-else-free_pages-pages g c = λ post spelled.
    let needs = sym (c.in-Ok.ensures post spelled) in
    sym (ap (λ x. refusal_after x c.args.refusal) (send-fits _ c.args.letter.now post needs (omega (arith, c.if-free_pages-pages.false, c.free_pages.ensures))))

pub returns-in-Err : goal.returns-in-Err
returns-in-Err g c = λ post spelled.
    sym (ap (λ x. refusal_after x c.args.refusal) (send-refused _ c.args.letter.now post (sym (c.in-Err.ensures post spelled))))
