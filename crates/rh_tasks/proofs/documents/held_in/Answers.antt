use Rattle.rh_tasks.proofs.Common.{bytes, slot_in}
use Rattle.rh_tasks.proofs.Appends.{none-first, none-held, held-first, held-bytes}
use Rattle.rh_tasks.proofs.documents.held_in.Goals as goal

pub returns-in_default-clause-bytes : goal.returns-in_default-clause-bytes
returns-in_default-clause-bytes g c =
    let m = g.S.Words.memory c.args.store.now in
    none-held c.args.buffer (slot_in m c.args.slot) c.in_default.field-0 c.args.n (bytes m c.args.slot.area.0) c.in_default.ensures

pub returns-in_default-clause-first : goal.returns-in_default-clause-first
returns-in_default-clause-first g c = none-first (slot_in (g.S.Words.memory c.args.store.now) c.args.slot)

pub returns-clause-bytes : goal.returns-clause-bytes
returns-clause-bytes g c =
    held-bytes c.requires c.args.buffer c.saturating_sub.result c.min.result c.in-Ok.size c.args.n c.saturating_sub.ensures c.min.ensures c.in-Ok.ensures

pub returns-clause-first : goal.returns-clause-first
returns-clause-first g c =
    held-first c.requires c.args.buffer c.saturating_sub.result c.min.result c.in-Ok.size c.args.n c.saturating_sub.ensures c.min.ensures c.in-Ok.ensures
