-- What a loop writes of numbers, one after the other.
use Rattle.rh_elements.proofs.Common.{◌≡◌, ℕ, suc, ◌+◌, List, ◌++◌, ap, flat_map, range_with_len}

-- the next number, and those behind it
pub numbers-behind : (f : ℕ → List ℕ) (i m n : ℕ) → n ≡ suc m
    → flat_map f (range_with_len i n) ≡ f i ++ flat_map f (range_with_len (i + 1) m)
numbers-behind f i m n e = ap (λ k. flat_map f (range_with_len i k)) e
