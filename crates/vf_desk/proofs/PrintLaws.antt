-- What lent bytes have of a text that was printed into them.
use Rattle.std.proofs.Common.{◌≡◌, ℕ, ◌≤◌, List, [], ◌++◌, length, Some, None, refl, sym, ap, ◌∙◌, arith, take, take_all, ◌∷◌}
use Rattle.std.specs.Prelude.{nat_le, drop, true, if◌then◌else◌}
use borrow.Author.Tests.{tests}
use Rattle.rh_lines.specs.WholeText.{filled}
use Rattle.vf_desk.specs.Console.{Prints}

-- what is the same as these bytes
pub bytes-are : {now bytes all : List ℕ} → bytes ≡ all → now ≡ bytes → now ≡ all
bytes-are are is = is ∙ are

-- a text in bytes that have room for it
pub filled-whole : (text old : List ℕ) → length text ≤ length old → filled text old ≡ text ++ drop (length text) old
filled-whole text old fit = ap (λ l. l ++ drop (length text) old) (take_all (length old) text fit)

take-front : (xs ys : List ℕ) → take (length xs) (xs ++ ys) ≡ xs
take-front [] [] = refl
take-front [] (y ∷ ys) = refl
take-front (x ∷ xs) ys = ap (λ l. x ∷ l) (take-front xs ys)

-- as many of those bytes as the text has
pub held-text : {text now : List ℕ} {n : ℕ} (old : List ℕ) → now ≡ filled text old → n ≡ length text → length text ≤ length old → take n now ≡ text
held-text {text} {now} {n} old is all fit =
    ap (take n) (is ∙ filled-whole text old fit) ∙ ap (λ k. take k (text ++ drop (length text) old)) all ∙ take-front text (drop (length text) old)

-- what is answered of a text that has room
pub prints-some : {text lent now bytes : List ℕ} {n : ℕ} → length text ≤ length lent → bytes ≡ text ++ drop (length text) lent
    → now ≡ bytes → n ≡ length text → Prints text lent now (Some n)
prints-some {text} {lent} {now} {bytes} {n} fit are is told =
    let low : nat_le (length text) (length lent) ≡ true = grind (arith, tests) in
    record {
      bytes = is ∙ are ∙ sym (ap (λ b. if b then text ++ drop (length text) lent else lent) low);
      length_is = ap Some told ∙ sym (ap (λ b. if b then Some (length text) else None) low);
    }
