-- The lines of a map are short, and of bytes that a terminal shows.
use Rattle.std.proofs.Common.{ℕ, ◌<◌, ◌≤◌, ◌≡◌, refl, subst, sym, ap, ◌∙◌, append_assoc, length-append, length-take, zero, suc, arith, Bool, true, false}
use Rattle.std.proofs.Common.{List, [], ◌∷◌, ◌++◌, length, take, map}
use Rattle.std.specs.Prelude.{nat_le, nat_lt, ◌==◌, ◌&&◌, if◌then◌else◌, codes}
use Rattle.std.specs.List.{AllByRecursion}
use Rattle.rh_defs.specs.Bytes.{space}
use Rattle.rh_defs.specs.Script.{ended, unended, onto_line, unended_after}
use Rattle.std.proofs.lemmas.Bool.Decides.{nat_tests}
use Rattle.rh_defs.proofs.HeapLists.{cond_false, eqb_apart}
use Rattle.rh_figure.specs.Map.{shown_byte, shown_line, written_lines, map_start, map_lines}
use Rattle.rh_figure.specs.FigureLaws.{IsShownByte, IsMapLine, HasMapLines, AreMaps}
use Rattle.rh_figure.specs.declared.limits.TheConstants.{MAP_COLUMNS}

-- a byte that was shown because two tests hold, or the question mark
pub tested-byte : (t u : Bool) (b : ℕ) → (t ≡ true → space ≤ b) → (u ≡ true → b < 127)
    → IsShownByte (if t && u then b else 63)
tested-byte true true b low high = record { low = low refl; high = high refl }
tested-byte true false b low high = record { low = omega arith; high = omega arith }
tested-byte false u b low high = record { low = omega arith; high = omega arith }

pub shown-byte : (b : ℕ) → IsShownByte (shown_byte b)
shown-byte b =
    tested-byte (nat_le space b) (nat_lt b 127) b (λ e. grind (arith, nat_tests)) (λ e. grind (arith, nat_tests))

pub shown-bytes : (t : List ℕ) → AllByRecursion IsShownByte (map shown_byte t)
shown-bytes [] = tt
shown-bytes (b ∷ t) = (shown-byte b, shown-bytes t)

pub all-taken : (n : ℕ) (t : List ℕ) → AllByRecursion IsShownByte t → AllByRecursion IsShownByte (take n t)
all-taken zero t all = tt
all-taken (suc n) [] all = tt
all-taken (suc n) (b ∷ t) (here, all) = (here, all-taken n t all)

pub dots-shown : (t : List ℕ) → AllByRecursion IsShownByte t → AllByRecursion IsShownByte (t ++ codes "..")
dots-shown [] all =
    (record { low = omega arith; high = omega arith }, (record { low = omega arith; high = omega arith }, tt))
dots-shown (b ∷ t) (here, all) = (here, dots-shown t all)

pub tested-cut : (u : Bool) (t : List ℕ) → (u ≡ true → length t ≤ 79) → AllByRecursion IsShownByte t
    → IsMapLine (if u then t else take 77 t ++ codes "..")
tested-cut true t short all = record { columns = short refl; bytes = all }
tested-cut false t short all = record {
  columns = omega (arith, length-append (take 77 t) (codes ".."), length-take 77 t);
  bytes = dots-shown (take 77 t) (all-taken 77 t all);
}

pub shown-line : (line : List ℕ) → IsMapLine (shown_line line)
shown-line line =
    tested-cut (nat_le (length (map shown_byte line)) MAP_COLUMNS) (map shown_byte line) (λ e. grind
    (arith, nat_tests)) (shown-bytes line)

-- ---- whole lines

pub ended-line : (l rest : List ℕ) → AllByRecursion IsShownByte l → ended (l ++ 10 ∷ rest) ≡ l ∷ ended rest
ended-line [] rest all = refl
ended-line (b ∷ l) rest (here, all) =
    cond_false (b == 10) _ _ (eqb_apart b 10 (λ e. omega (arith, e, here.low)))
    ∙ ap (onto_line b) (ended-line l rest all)

pub unended-line : (l rest : List ℕ) → AllByRecursion IsShownByte l → unended (l ++ 10 ∷ rest) ≡ unended rest
unended-line [] rest all = refl
unended-line (b ∷ l) rest all =
    ap (λ lines. unended_after b (l ++ 10 ∷ rest) lines (unended (l ++ 10 ∷ rest))) (ended-line (b ∷ l) rest all)
    ∙ unended-line l rest all.1

pub lines-are : (ls : List (List ℕ)) → HasMapLines (written_lines ls)
lines-are [] = record { lines = tt; whole = refl }
lines-are (l ∷ ls) =
    let line = shown-line l in
    let rest = written_lines ls in
    let others = lines-are ls in
    let seam : (shown_line l ++ codes "\n") ++ rest ≡ shown_line l ++ 10
    ∷ rest = append_assoc (shown_line l) (codes "\n") rest in
    record {
      lines = subst (AllByRecursion IsMapLine) (sym (ap ended seam
          ∙ ended-line (shown_line l) rest line.bytes)) (line, others.lines);
      whole = ap unended seam ∙ unended-line (shown_line l) rest line.bytes ∙ others.whole;
    }

pub are-maps : AreMaps
are-maps marked stages pages files = lines-are (map_lines marked (map_start pages files) stages)
