use Rattle.std.proofs.Common.{◌≡◌, refl}
use Rattle.rh_defs.specs.declared.refusal.Refusal.{Refusal}
use Rattle.rh_defs.specs.declared.refusal.Refusal.TheVariants.{BadRange, Busy, NoFile}
use Rattle.rh_explained.specs.Sentences.{help_for, program_help}
use Rattle.rh_explained.proofs.sentences.program_help.Goals as goal

-- what helps with a refusal but Busy, NoFile and BadRange
help_other : (refusal : Refusal) → (refusal ≡ Busy → ⊥) → (refusal ≡ NoFile → ⊥) → (refusal ≡ BadRange → ⊥) → program_help refusal ≡ help_for refusal
help_other Busy other named placed = absurd (other refl)
help_other NoFile other named placed = absurd (named refl)
help_other BadRange other named placed = absurd (placed refl)
help_other refusal other named placed = refl

pub returns-in_default : goal.returns-in_default
returns-in_default c = rw (help_other c.args.refusal c.in_default.not-Busy c.in_default.not-NoFile c.in_default.not-BadRange) c.help_for.ensures
