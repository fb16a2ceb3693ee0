-- What the mark of a place in a map of beginnings becomes.
use Rattle.std.specs.Prelude.{◌≡◌, ◌≢◌, ℕ, ◌<◌, ◌≤◌}

-- What bytes from low up to upper that stood open make of the mark v at place p: w, which marks a hole at low where there are such bytes and low is not the base.
pub record Noted (p low upper base v w : ℕ) : Type 0 where
  pub begins : p ≡ low → low < upper → low < base → w ≡ 1
  pub closed : p ≡ low → upper ≤ low → w ≡ 0
  pub top : p ≡ low → base ≤ low → w ≡ 0
  pub joins : p ≢ low → p ≡ upper → w ≡ 0
  pub stays : p ≢ low → p ≢ upper → w ≡ v
