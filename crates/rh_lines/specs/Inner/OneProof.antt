-- What a pen knows of its writer has one proof each.
use Rattle.std.specs.Prelude.{ℕ, List, length, Option, Some, None}
use Rattle.std.specs.Coded.{Unit-prop, Coded-set, coded_option, coded_ℕ, coded_list}
use Rattle.std.specs.Io.KnownBytes.{Appends}
use Rattle.rh_lines.specs.Flow.{count_after}
use Rattle.rh_lines.specs.PenFacts.{Counts}

-- one proof that a writer took some bytes is as good as another
pub one_taking : (a b : Option (List ℕ)) (x : List ℕ) → IsProp (Appends a b x)
one_taking None b x = Unit-prop
one_taking (Some a) None x = λ p. absurd p
one_taking (Some a) (Some b) x = Coded-set (coded_list coded_ℕ) b _

-- one proof that a writer has counted some bytes is as good as another
pub one_count : (old new : Option ℕ) (bytes : List ℕ) → IsProp (Counts old new bytes)
one_count old new bytes = Coded-set (coded_option coded_ℕ) new (count_after old (length bytes))
