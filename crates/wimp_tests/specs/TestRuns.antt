-- A queue beside plain lists.
use Rattle.std.specs.Prelude.{◌≡◌, ℕ, List}
use Rattle.rh_defs.specs.Memory.{Memory}
use Rattle.rh_module.specs.declared.module.Module.{Module}
use Rattle.rh_wimp.specs.QueueCalls.{IsQueue, handles_of}
use Rattle.rh_wimp.specs.Chains.{Chains}

-- the queue is one, and its handles are those that the lists have
pub record Runs (m : Memory) (module_area : Module) (q : Chains) (live : List ℕ) : Type 0 where
  pub queue : IsQueue m module_area q
  pub handles : handles_of q ≡ live
