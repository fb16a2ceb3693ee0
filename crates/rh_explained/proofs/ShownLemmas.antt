-- What is shown of few bytes and of many.
use Rattle.std.proofs.Common.{◌≡◌, ℕ, ◌≤◌, false, List, ◌++◌, length, nat_lt, ◌∙◌, ap₂, append-nil, rules}
use Rattle.std.proofs.lemmas.List.{take_all}
use borrow.Author.Tests.{tests}
use Rattle.std.specs.Prelude.{if◌then◌else◌, codes, []}
use Rattle.rh_explained.specs.ShownBytes.{shown, shown_front}

not_above : (k n : ℕ) → n ≤ k → nat_lt k n ≡ false
not_above k n h = search (rules, tests)

-- few bytes are shown whole
pub few_shown : (most : ℕ) (bytes : List ℕ) → length bytes ≤ most → shown_front most bytes ≡ shown bytes
few_shown most bytes h =
    ap₂ (λ xs more. shown xs ++ (if more then codes ".." else [])) (take_all most bytes h) (not_above most (length bytes) h)
    ∙ append-nil (shown bytes)
