-- What becomes of a DataSave, by whether a buffer, a document and a fetch are all granted.
use Rattle.rh_tasks.proofs.Common.{◌≡◌, ℕ, refl, Ok, Err, IsErr, Granted, or_else, Desk, Task, Handled, ignored, accept, IsReordered, reordered-refl}
use Rattle.rh_defs.specs.declared.reply.Outcome.TheVariants as outcome
use Rattle.rh_defs.specs.declared.transfer_action.Claim.{Claim}
use Rattle.rh_defs.specs.declared.transfer_action.TakeAction.TheVariants as take
use Rattle.rh_defs.specs.IncomingEvents.{take_with}

-- the desk and the outcome
abbrev pub Ends : Desk → Task → Claim → outcome.the_data → Desk → Type 0
Ends d t claim said new = (said ≡ (take_with d t (take.Claim claim)).1) × IsReordered (take_with d t (take.Claim claim)).0 new

module _ (d : Desk) (t : Task) (claim : Claim) where
  pub ends-some : (new : Desk) (fetch : ℕ) → (x : Desk) × ((accept d t claim ≡ Ok (x, outcome.Fetch fetch)) × IsReordered x new)
      → Ends d t claim (outcome.Fetch fetch) new
  unfolding take_with or_else
  ends-some new fetch a = rw a.1.0 (refl, a.1.1)

  pub ends-none : IsErr (accept d t claim) → Ends d t claim outcome.Ignored d
  unfolding take_with or_else
  ends-none a = go (accept d t claim) a
    where
      go : (g : Granted Handled) → IsErr g → (outcome.Ignored ≡ (or_else g (λ refusal. ignored d)).1) × IsReordered (or_else g (λ refusal. ignored d)).0 d
      go (Ok x) no-error = absurd cc
      go (Err r) error = (refl, reordered-refl d)
