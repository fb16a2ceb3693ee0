-- Reads and edits on a world, of each desk that it may be seen as.
use Rattle.std.specs.Prelude.{◌≡◌, ◌≢◌, ℕ, List, Option, Some, None, Result, Ok, Err}
use Rattle.std.specs.Result.{MatchResult}
use Rattle.rh_defs.specs.declared.refusal.Refusal.{Refusal}
use Rattle.rh_defs.specs.Desk.{Desk}
use Rattle.rh_defs.specs.Order.{IsReordered}
use Rattle.rh_tasks.specs.Shown.{Shown}
use Rattle.vf_desk.specs.declared.call_outcome.CallOutcome.{CallOutcome}
use Rattle.vf_desk.specs.declared.block_edits.BlockEdit.{BlockEdit}
use Rattle.vf_desk.specs.declared.block_edits.BlockEdit.TheVariants as asked
use Rattle.vf_desk.specs.declared.block_reads.Lookup.{Lookup}
use Rattle.vf_desk.specs.declared.block_reads.Lookup.TheVariants as place
use Rattle.vf_desk.specs.BlockEdits.{Edit, block_edit, called_by, edited_with, module_edit, transfer_edit}
use Rattle.vf_desk.specs.BlockReads.{Reading, anchor_reading, block_reading, module_reading}
use Rattle.vf_desk.specs.CallOutcome.{status_of}

-- n bytes of the block at a place, from an offset on
abbrev pub reading_of : Lookup → ℕ → ℕ → Option Reading
reading_of (place.Anchored name anchor) offset n = anchor_reading name.now anchor offset n
reading_of (place.Addressed name address) offset n = block_reading name.now address offset n
reading_of (place.InModule address) offset n = module_reading address offset n

-- what a world answers to a read, and what it leaves of lent bytes
abbrev pub IsRead : Option Reading → Desk → Option (Result ℕ Refusal) → List ℕ → List ℕ → Type 0
IsRead None d None before after = after ≡ before
IsRead (Some reading) d (Some answer) before after =
    MatchResult (reading d) (λ p. (answer ≡ Ok p.0) × (after ≡ p.1)) (λ e. (answer ≡ Err e) × (after ≡ before))
IsRead _ d _ before after = ⊥

-- an edit that is asked for
abbrev pub edit_of : BlockEdit → Option Edit
edit_of (asked.Write name address offset from) = block_edit name.now address offset from.now
edit_of (asked.WriteModule address offset from) = module_edit address offset from.now
edit_of (asked.Transfer from address to address2 n) = transfer_edit from address to address2 n

-- What an edit, or none, comes to on a world, of each desk that it may be seen as. With any status but 0 all of the world
-- stays.
pub record Edits (edit : Option Edit) (old new : Shown) (said : CallOutcome) : Type 0 where
  pub said_is : (d : Desk) → IsReordered d old.desk → said ≡ called_by (Some d) edit
  pub desk : (d : Desk) → IsReordered d old.desk → IsReordered (edited_with edit d) new.desk
  pub refused : status_of said ≢ 0 → new ≡ old
