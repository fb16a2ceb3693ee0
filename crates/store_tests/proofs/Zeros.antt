-- Eight numbers that are 0, and the larger of each two over them.
use Rattle.std.proofs.Common.{◌≡◌, ℕ, ◌+◌, ◌*◌, zero, suc, inr, replicate, get_or, refl, sym, ◌∙◌}
use Rattle.rh_peaks.proofs.PeakLaws.{max_zero}
use Rattle.rh_peaks.specs.Peaks.{IsTree}

zeros_at : (n j : ℕ) → get_or (replicate {A = ℕ} n 0) j 0 ≡ 0
zeros_at zero j = refl
zeros_at (suc n) zero = refl
zeros_at (suc n) (suc j) = zeros_at n j

pub zeros_tree : IsTree (replicate {A = ℕ} 16 0)
zeros_tree = record {
  width = inr (3, refl);
  larger = λ k some less. zeros_at 16 k ∙ sym (max_zero _ _ (zeros_at 16 (2 * k)) (zeros_at 16 (2 * k + 1)));
}
