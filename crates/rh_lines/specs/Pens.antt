-- What a pen has offered to its writer.
use Rattle.std.specs.Prelude.{ℕ, Bool, true, false, List, [], ◌∷◌, ◌++◌, length, take, Option, Some, None}
use Rattle.std.specs.Borrow.{MutBor}
use Rattle.rh_lines.specs.Flow.{Output}
use Rattle.rh_lines.specs.declared.sink.Sink.{Ghosts}
use Rattle.rh_lines.specs.declared.writer_pen.WriterPen.{WriterPen}

-- the writer
abbrev pub writer_of : {W : Type 0} {S : Ghosts W} → WriterPen W S → MutBor W
writer_of p = p.writer

-- what it had taken when the pen was made
abbrev pub begun_of : {W : Type 0} {S : Ghosts W} → WriterPen W S → Output
begun_of p = p.begun.output

-- all that was written since: what the writer was offered or should have been, and what is held
abbrev pub text_of : {W : Type 0} {S : Ghosts W} → WriterPen W S → List ℕ
text_of p = (p.front.bytes ++ p.back.bytes) ++ take p.held p.room.now

-- whether the writer has failed since
abbrev pub failed_of : {W : Type 0} {S : Ghosts W} → WriterPen W S → Bool
failed_of p = p.failed

-- an output as a list that tells it from others
abbrev pub bool_code : Bool → ℕ
bool_code true = 1
bool_code false = 0

abbrev pub count_code : Option ℕ → List ℕ
count_code None = 0 ∷ 0 ∷ []
count_code (Some n) = 1 ∷ n ∷ []

abbrev pub taken_code : Option (List ℕ) → List ℕ
taken_code None = 0 ∷ []
taken_code (Some bytes) = 1 ∷ bytes

unfoldable pub output_code : Output → List ℕ
output_code o = bool_code o.failed ∷ (count_code o.count ++ taken_code o.taken)

-- The text behind the name of the loan and what the writer had taken before. No write changes these, so that one who
-- lent the writer knows by them that it is still that one.
unfoldable pub offered_of : {W : Type 0} {S : Ghosts W} → WriterPen W S → List ℕ
offered_of p = p.writer.ghost_name ∷ length (output_code p.begun.output) ∷ (output_code p.begun.output ++ text_of p)
