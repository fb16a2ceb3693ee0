use Rattle.std.proofs.Common.{List, ℕ, refl, ◌∙◌, ap}
use Rattle.rh_defs.specs.Chain.{Granted, outcome_of, result_or}
use Rattle.rh_defs.specs.Slot.{slot_free}
use Rattle.rh_defs.proofs.MemoryLaws.{OnlyArea-self}
use Rattle.rh_slot.specs.SlotArea.{slot_in}
use Rattle.callers.proofs.SlotFacts.{free_after_read, freed_by, left_by, read_after, free_after}
use Rattle.callers.proofs.slot.take_bytes.Goals as goal

pub returns-in_err-read-clause-back : goal.returns-in_err-read-clause-back
returns-in_err-read-clause-back g c = λ bytes is many.
    let wrong = c.in_err-read.ensures.answer ∙ ap (λ (q : Granted (List ℕ)). outcome_of q) (read_after _ bytes _ is many) in
    absurd cc

pub unwrap-requires : goal.unwrap-requires
unwrap-requires g c = rw c.free.ensures.answer (free_after_read _ _ c.in_ok-read.ensures.answer)

pub returns-clause-back : goal.returns-clause-back
returns-clause-back g c = λ bytes is many. (
  refl,
  c.in_ok-read.ensures.bytes ∙ ap (λ (q : Granted (List ℕ)). result_or c.args.to.now q) (read_after _ bytes _ is many),
  left_by _ _ _ _ c.free.ensures.slot (free_after bytes _ is),
)

pub returns-in_err-read-clause-only : goal.returns-in_err-read-clause-only
returns-in_err-read-clause-only g c = OnlyArea-self _ _ c.requires.opened

pub returns-clause-freed : goal.returns-clause-freed
returns-clause-freed g c =
    let s = slot_in (g.S.Words.memory c.args.store.now) c.args.slot in
    freed_by s _ (slot_free 0 s) c.free.ensures.slot
