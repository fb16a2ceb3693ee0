-- Edits of a queue's entries.
use Rattle.std.specs.Prelude.{ℕ, ◌+◌, ◌-◌, set}
use Rattle.rh_wimp.specs.declared.chain.Entry.{Entry}
use Rattle.rh_wimp.specs.Chains.{Chains, emptied, entry_at, lengthened, shortened}

-- a block held
abbrev pub holding : ℕ → Entry → Entry
holding block e = record e { held = block }

-- a new message at the end of a chain
abbrev pub longer_chains : ℕ → ℕ → Chains → Chains
longer_chains i block q = record { entries = set q.entries i (lengthened block (entry_at q.entries i)); live = q.live + 1; next_ref = q.next_ref + 1 }

-- the first message off a chain
abbrev pub shortened_chains : ℕ → ℕ → Chains → Chains
shortened_chains i next q = record { entries = set q.entries i (shortened next (entry_at q.entries i)); live = q.live - 1; next_ref = q.next_ref }

-- a message held
abbrev pub holding_chains : ℕ → ℕ → Chains → Chains
holding_chains i block q = record { entries = set q.entries i (holding block (entry_at q.entries i)); live = q.live + 1; next_ref = q.next_ref }

-- what was held is held no more
abbrev pub emptied_chains : ℕ → Chains → Chains
emptied_chains i q = record { entries = set q.entries i (emptied (entry_at q.entries i)); live = q.live - 1; next_ref = q.next_ref }
