-- Room for one more record.
use Rattle.std.specs.Prelude.{Bool, nat_le, if◌then◌else◌, List, length}
use Rattle.rh_defs.specs.Records.{most_records, dropped}

-- without the first record that has ended, where there are as many as a task may have
abbrev pub roomy : {A : Type 0} → (A → Bool) → List A → List A
roomy lasts records = if nat_le most_records (length records) then dropped lasts records else records
