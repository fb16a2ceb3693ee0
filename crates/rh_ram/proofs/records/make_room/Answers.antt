use Rattle.std.proofs.Common.{◌∙◌, sym, ap}
use Rattle.std.specs.Prelude.{not}
use Rattle.std.specs.List.{position}
use borrow.Author.Tests.{eqb-true}
use Rattle.rh_ram.proofs.RecordLaws.{none_lasts_out}
use Rattle.rh_ram.proofs.records.make_room.Goals as goal

-- none that has ended on a full list
never : (g : _) (c : goal.In_default g) → ⊥
never g c =
    none_lasts_out g.R.Record.lasts_of c.args.records.now.items (eqb-true _ _ (sym c.is_full.ensures.value ∙ c.if-is_full.true)) c.requires
    (ap (λ xs. position (λ r. not (g.R.Record.lasts_of r)) xs) (sym c.deref.ensures.0) ∙ sym c.in_default.ensures)

pub returns-in_default-clause-room : goal.returns-in_default-clause-room
returns-in_default-clause-room g c = absurd (never g c)

pub returns-in_default-clause-rest : goal.returns-in_default-clause-rest
returns-in_default-clause-rest g c = absurd (never g c)
