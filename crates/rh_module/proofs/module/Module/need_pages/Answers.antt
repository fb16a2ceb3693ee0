-- The pages that hold what the heap is short of.
use Rattle.rh_module.proofs.Common.{sym, ap, ◌∙◌, err_from_is_err_and, Ok}
use Rattle.rh_module.proofs.NeedLaws.{need_pages_refused, need_pages_is}
use Rattle.rh_module.proofs.module.Module.need_pages.Goals as goal

pub returns-in_err-shortage : goal.returns-in_err-shortage
returns-in_err-shortage g c =
    let p = err_from_is_err_and c.from_residual.result c.from_residual.ensures.1 in
    rw (p.1, p.2) (sym (need_pages_refused c.span.ensures c.requires c.args.n c.in_err-shortage.ensures))

pub returns : goal.returns
returns g c = ap Ok c.pages_for.ensures ∙ sym (need_pages_is c.span.ensures c.requires c.args.n c.in_ok-shortage.ensures)
