-- What holds of the fates of the last messages. Read Fates first.
-- step is the number of the last step, next that of a later one.
use Rattle.std.specs.Prelude.{◌≡◌, ℕ, ◌<◌, ◌≤◌, ◌==◌, ◌||◌, not, Bool, true, false, List, [], ◌∷◌}
use Rattle.rh_figure.specs.Scene.{Scene}
use Rattle.rh_sheet.specs.Fates.{Note, Fate, Back, Returned, Taken, Vanished, Whereabouts, is_over, is_queued, is_gone, fate_behind, followed, noted}

-- whether a message has gone back, and hasn't vanished
abbrev pub has_come_back : Fate → Bool
has_come_back Back = true
has_come_back Returned = true
has_come_back _ = false

-- A note tells when its message came to its fate, by steps in their order: 0 stands for what didn't happen.
pub record IsDated (step : ℕ) (n : Note) : Type 0 where
  pub sent : (0 < n.sent) × (n.sent ≤ step)
  pub reached : (n.reached == 0) ≡ is_queued n.fate
  pub out : (0 < n.reached → n.sent ≤ n.reached) × (n.reached ≤ step)
  pub came_back : has_come_back n.fate ≡ true → 0 < n.back
  pub back : (0 < n.back → (0 < n.reached) × (n.reached ≤ n.back)) × (n.back ≤ step)
  pub over : (n.ended == 0) ≡ not (is_over n.fate)
  pub ended : (0 < n.ended → (n.reached ≤ n.ended) × (n.back ≤ n.ended)) × (n.ended ≤ step)

abbrev pub AreDated : ℕ → List Note → Type 0
AreDated step [] = Unit {0}
AreDated step (n ∷ notes) = IsDated step n × AreDated step notes

-- Each message has one fate, and when it came to it is known. What is over stays as it is, and a message is over just
-- when it is gone. None is taken, or taken back, by a task that isn't live, and none vanishes that a live task takes.
pub record HasOneFate : Type 0 where
  pub dated : (step next : ℕ) (x : Scene) (notes : List Note) → step < next → AreDated step notes → AreDated next (noted next x notes)
  pub stays : (step next : ℕ) (w : Whereabouts) (n : Note) → IsDated step n → is_over n.fate ≡ true → followed next w n ≡ n
  pub over : (w : Whereabouts) (fate : Fate) → is_over (fate_behind w fate) ≡ (is_over fate || is_gone w)
  pub taken : (w : Whereabouts) (fate : Fate) → w.live ≡ false → fate_behind w fate ≡ Taken → fate ≡ Taken
  pub returned : (w : Whereabouts) (fate : Fate) → w.live ≡ false → fate_behind w fate ≡ Returned → fate ≡ Returned
  pub vanished : (w : Whereabouts) (fate : Fate) → w.live ≡ true → fate_behind w fate ≡ Vanished → fate ≡ Vanished
