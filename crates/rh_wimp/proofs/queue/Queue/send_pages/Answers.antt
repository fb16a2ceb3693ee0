use Rattle.rh_wimp.proofs.Common.{sym, ◌∙◌, arith, err_from_is_err_and, module_heap_in}
use Rattle.rh_wimp.proofs.SendLaws.{pages-refused, pages-granted}
use Rattle.rh_wimp.proofs.queue.Queue.send_pages.Goals as goal

pub returns-in_err-_to : goal.returns-in_err-_to
returns-in_err-_to g c = λ post p.
    let e = err_from_is_err_and c.from_residual.result c.from_residual.ensures.1 in
    rw (e.1, e.2) (sym (pages-refused (module_heap_in
    (g.S.Words.memory c.args.store.now) c.args.module_area) c.args.self.now post c.args.letter.now c.in_err-_to.field-0.0
    p c.in_err-_to.ensures.refused))

pub returns : goal.returns
returns g c = λ post p.
    c.need_pages.ensures ∙ pages-granted (module_heap_in (g.S.Words.memory c.args.store.now) c.args.module_area) c.args.self.now post c.args.letter.now _ p
    c.in_ok-_to.ensures.ok (let l = c.body_length.ensures.length in omega arith)
