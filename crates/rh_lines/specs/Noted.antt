-- What a Flagged reader or writer holds.
use Rattle.std.specs.Prelude.{ℕ, Bool}
use Rattle.rh_lines.specs.declared.flagged.Flagged.{Flagged}

-- the reader or writer itself
abbrev pub inner_of : {T : Type 0} → Flagged T → T
inner_of f = f.inner

-- whether a call of it failed
abbrev pub has_failed : {T : Type 0} → Flagged T → Bool
has_failed f = f.failed

-- how many reads gave bytes
abbrev pub reads_of : {T : Type 0} → Flagged T → ℕ
reads_of f = f.reads
