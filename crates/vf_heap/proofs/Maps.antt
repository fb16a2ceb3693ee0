-- Maps that stay where a call is refused.
use Rattle.std.proofs.Common.{◌≡◌, ◌≢◌, ℕ, List}
use Rattle.std.specs.Prelude.{Result, Ok, Err, OnErr}
use Rattle.rh_defs.specs.declared.heap.HeapRefusal.{HeapRefusal}
use Rattle.vf_heap.specs.HeapStatus.{answer_status}

-- a map stays where the status is that of a refusal
pub stays : {A : Type 0} (r : Result A HeapRefusal) (status : ℕ) (new old : List ℕ) → OnErr r (new ≡ old)
    → status ≡ answer_status r → status ≢ 0 → new ≡ old
stays (Ok x) status new old e is ne = absurd (ne is)
stays (Err x) status new old e is ne = e
