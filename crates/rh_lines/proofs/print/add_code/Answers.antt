use Rattle.std.proofs.Common.{◌≡◌, ℕ, ◌+◌, ◌<◌, ◌≤◌, ◌/◌, ◌%◌, List, [], ◌∷◌, ◌++◌, sym, ap, ◌∙◌, arith}
use Rattle.std.specs.Fmt.{decimal}
use Rattle.std.proofs.lemmas.Fmt.{decimal_digit, decimal_step}
use Rattle.rh_defs.specs.Messages.{code_number}
use Rattle.rh_lines.proofs.print.add_code.Goals as goal

two_digits : (n : ℕ) → 10 ≤ n → n < 100 → decimal n ≡ (48 + n / 10) ∷ (48 + n % 10) ∷ []
two_digits n big small = decimal_step n big (omega arith) ∙ ap (λ z. z ++ (48 + n % 10) ∷ []) (decimal_digit (n / 10) (omega arith))

-- a code of two digits, behind `ok ` and before a space
with_code : (row new : List ℕ) (n k : ℕ) → n ≡ k → 10 ≤ k → k < 100 → new ≡ row ++ 111 ∷ 107 ∷ 32 ∷ (48 + k / 10) ∷ (48 + k % 10) ∷ 32 ∷ []
    → new ≡ row ++ 111 ∷ 107 ∷ 32 ∷ (decimal n ++ 32 ∷ [])
with_code row new n k is big small e = e ∙ ap (λ z. row ++ 111 ∷ 107 ∷ 32 ∷ (z ++ 32 ∷ [])) (sym (ap decimal is ∙ two_digits k big small))

pub returns-in-User-clause-value : goal.returns-in-User-clause-value
returns-in-User-clause-value c = with_code _ _ _ 17 (ap code_number c.in-User.is) (omega arith) (omega arith) c.text.ensures

pub returns-in-Recorded-clause-value : goal.returns-in-Recorded-clause-value
returns-in-Recorded-clause-value c =
    with_code _ _ _ 18 (ap code_number c.in-Recorded.is) (omega arith) (omega arith) c.text-in-Recorded.ensures

pub returns-in-Acknowledge-clause-value : goal.returns-in-Acknowledge-clause-value
returns-in-Acknowledge-clause-value c =
    with_code _ _ _ 19 (ap code_number c.in-Acknowledge.is) (omega arith) (omega arith) c.text-in-Acknowledge.ensures
