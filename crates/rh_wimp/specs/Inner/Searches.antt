-- What is looked for among the live messages.
use Rattle.std.specs.Prelude.{ℕ, ◌+◌, ◌<◌, ◌≤◌, ◌==◌, ◌&&◌, Bool, nat_le, List, length, is_some}
use Rattle.std.specs.List.{list_any}
use Rattle.rh_defs.specs.declared.sizes.TheConstants.{MOST_MESSAGES}
use Rattle.rh_defs.specs.Bytes.{word}
use Rattle.rh_defs.specs.Messages.{Parcel, code_at}
use Rattle.rh_wimp.specs.Chains.{SeatRow, row_at, row_parcels}
use Rattle.rh_wimp.specs.declared.searching.Wanted.{Wanted}
use Rattle.rh_wimp.specs.declared.searching.Wanted.TheVariants.{At, WithRef}

-- whether a message is the one that is looked for
abbrev pub wants : Wanted → Parcel → Bool
wants (At block) p = p.block == block
wants (WithRef ref) p = p.message.my_ref == ref

-- whether an event code stands in the bytes where a message in the block at an offset has one
abbrev pub has_code : ℕ → List ℕ → Bool
has_code block bs = nat_le (block + 8) (length bs) && is_some (code_at (word bs (block + 4)))

-- whether a message of some rows passes the test
abbrev pub rows_have : (Parcel → Bool) → List SeatRow → Bool
rows_have test rows = list_any (λ (r : SeatRow). list_any test (row_parcels r)) rows

-- no chain is longer than there can be messages
abbrev pub AreShortChains : List SeatRow → Type 0
AreShortChains rows = (i : ℕ) → i < length rows → length (row_at rows i).chain ≤ MOST_MESSAGES
