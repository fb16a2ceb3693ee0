-- A block begins at the address or none does.
use Rattle.std.proofs.lemmas.Result.{err_from_is_err_and}
use Rattle.rh_module.proofs.FreeLaws.{freed, free_refused}
use Rattle.rh_module.proofs.module.Module.free.Goals as goal

pub returns-in_err-release : goal.returns-in_err-release
returns-in_err-release g c =
    let p = err_from_is_err_and c.from_residual.result c.from_residual.ensures.1 in
    rw (p.1, p.2) (free_refused _ _ _ _ c.args.address c.requires c.span.ensures c.in_err-release.ensures)

pub returns : goal.returns
returns g c = freed _ _ _ _ c.args.address c.requires c.span.ensures c.in_ok-release.ensures
