use Rattle.std.proofs.Common.{◌≡◌, drop}
use Rattle.arrayvec.specs.ArrayVec.{array_vec_len}
use Rattle.vf_ram.specs.RecordPlaces.{all_or_none}
use Rattle.vf_ram.specs.ReceiverWords.{incoming_of}
use Rattle.vf_ram.proofs.ReadLaws.{behind}
use Rattle.vf_ram.proofs.receiver_words.read_records.Given as goal

-- the words so far were read, and what all of them spell is these and what the rest spells
abbrev pub invariant-loop-entry : goal.invariant-loop-entry
invariant-loop-entry l =
    (array_vec_len l.entries ≡ l.entry-index)
    × (all_or_none incoming_of l.words ≡ behind l.entries.items (all_or_none incoming_of (drop l.entry-index l.words)))
