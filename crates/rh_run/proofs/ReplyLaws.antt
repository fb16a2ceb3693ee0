-- Desks that a world may be seen as.
use Rattle.std.proofs.Common.{◌≡◌, sym, subst}
use Rattle.rh_defs.specs.Desk.{Desk}
use Rattle.rh_defs.specs.Order.{IsReordered}
use Rattle.rh_tasks.proofs.Reorders.{reordered-refl}

-- equal desks differ in nothing
pub same-desk : {a b : Desk} → b ≡ a → IsReordered a b
same-desk {a} e = subst (IsReordered a) (sym e) (reordered-refl a)
