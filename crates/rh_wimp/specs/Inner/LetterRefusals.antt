-- Why a letter is refused.
use Rattle.std.specs.Prelude.{ℕ, ◌^◌, ◌==◌, nat_le, if◌then◌else◌, Option, Some, None}
use Rattle.std.specs.List.{position}
use Rattle.rh_defs.specs.declared.refusal.Refusal.{Refusal}
use Rattle.rh_defs.specs.declared.refusal.Refusal.TheVariants.{NoTask, NoRefs, QueueFull}
use Rattle.rh_defs.specs.Post.{most_messages}
use Rattle.rh_wimp.specs.declared.chain.Entry.{Entry}
use Rattle.rh_wimp.specs.Chains.{Chains}

-- why a letter is refused before its block is claimed, by the place of its recipient
abbrev pub refusal_at : Option ℕ → Chains → Option Refusal
refusal_at None q = Some NoTask
refusal_at (Some i) q = if nat_le (2 ^ 32) q.next_ref then Some NoRefs else if nat_le most_messages q.live then Some QueueFull else None

abbrev pub refusal_for : ℕ → Chains → Option Refusal
refusal_for h q = refusal_at (position (λ (e : Entry). e.handle == h) q.entries) q
