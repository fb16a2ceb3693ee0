-- What a call on a slot or on the module area leaves, as the world's proofs want it.
use Rattle.std.proofs.Common.{◌≡◌, ap}
use Rattle.std.specs.Prelude.{Ok, Err}
use Rattle.rh_defs.specs.Memory.{Memory}
use Rattle.rh_defs.specs.Chain.{Granted, no_answer}
use Rattle.rh_defs.specs.declared.refusal.Refusal.{Refusal}
use Rattle.rh_defs.specs.Heap.{Heap}
use Rattle.rh_defs.specs.Slot as plain
use Rattle.rh_slot.specs.declared.slot.Slot.{Slot}
use Rattle.rh_slot.specs.SlotArea.{slot_in}
use Rattle.rh_slot.specs.SlotCalls as slot_calls
use Rattle.rh_module.specs.declared.module.Module.{Module}
use Rattle.rh_module.specs.ModuleArea.{module_heap_in}
use Rattle.rh_module.specs.ModuleCalls as module_calls
use Rattle.rh_tasks.proofs.Chains.{answered, answer-refused}
use Rattle.rh_tasks.proofs.Moves.{Slid}

-- what was granted, where there is no answer
first_or : {A : Type 0} → A → Granted (A × Unit {0}) → A
first_or old (Ok p) = p.0
first_or old (Err r) = old

none-done : {A : Type 0} (a : A) (g : Granted A) → no_answer g ≡ Ok (a, tt) → g ≡ Ok a
unfolding first_or
none-done {A} a (Ok x) e = ap (λ (h : Granted (A × Unit {0})). let r : Granted A = Ok (first_or a h) in r) e
none-done a (Err r) e = absurd (cc)

none-refused : {A : Type 0} {r : Refusal} (g : Granted A) → no_answer g ≡ Err r → g ≡ Err r
none-refused (Ok x) e = absurd (cc)
none-refused (Err r) e = cc

module _ {A : Type 0} {m n : Memory} {slot : Slot} {g : Granted (plain.Slot × A)} where
  pub slid : {r : Granted A} → slot_calls.LeavesSlotIn m n slot g r → Slid m n slot
  slid l = record { still = l.still; only = l.only }

  pub granted : {a : A} → slot_calls.LeavesSlotIn m n slot g (Ok a) → g ≡ Ok (slot_in n slot, a)
  granted {a} l = answered (slot_in n slot) a (slot_in m slot) g l.answer l.slot

  pub refused : {r : Refusal} → slot_calls.LeavesSlotIn m n slot g (Err r) → g ≡ Err r
  refused l = answer-refused g l.answer

module _ {m n : Memory} {slot : Slot} {g : Granted plain.Slot} where
  pub changed : slot_calls.LeavesSlotIn m n slot (no_answer g) (Ok tt) → g ≡ Ok (slot_in n slot)
  changed l = none-done (slot_in n slot) g (granted l)

  pub unchanged : {r : Refusal} → slot_calls.LeavesSlotIn m n slot (no_answer g) (Err r) → g ≡ Err r
  unchanged l = none-refused g (refused l)

module _ {A : Type 0} {m n : Memory} {module_area : Module} {g : Granted (Heap × A)} where
  pub module-granted : {a : A} → module_calls.LeavesModule m n module_area g (Ok a) → g ≡ Ok (module_heap_in n module_area, a)
  module-granted {a} l = answered (module_heap_in n module_area) a (module_heap_in m module_area) g l.answer l.heap

  pub module-refused : {r : Refusal} → module_calls.LeavesModule m n module_area g (Err r) → g ≡ Err r
  module-refused l = answer-refused g l.answer

module _ {m n : Memory} {module_area : Module} {g : Granted Heap} where
  pub module-changed : module_calls.LeavesModule m n module_area (no_answer g) (Ok tt) → g ≡ Ok (module_heap_in n module_area)
  module-changed l = none-done (module_heap_in n module_area) g (module-granted l)

  pub module-unchanged : {r : Refusal} → module_calls.LeavesModule m n module_area (no_answer g) (Err r) → g ≡ Err r
  module-unchanged l = none-refused g (module-refused l)
