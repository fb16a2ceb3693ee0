-- What a refusal is about: a name, an anchor, an address or a number of the command, and what the desk has there.
use Rattle.std.specs.Prelude.{ℕ, if◌then◌else◌, List, Option, Some, None, find}
use Rattle.std.specs.Option.{option_map}
use Rattle.std.specs.Result.{result_ok}
use Rattle.rh_defs.specs.declared.command.Command.{Command}
use Rattle.rh_defs.specs.declared.command.Command.TheVariants.{Alloc, Load, Put, Free, Extend, Mid, Release, Resize, Save, Area, Remove, RmaFree, RmaResize, Raw, Ask}
use Rattle.rh_defs.specs.declared.question.Question.TheVariants.{Show}
use Rattle.rh_defs.specs.declared.raw_command.RawCommand.TheVariants.{Spool, Scrap}
use Rattle.rh_defs.specs.declared.transfer.Outgoing.{Outgoing}
use Rattle.rh_defs.specs.declared.transfer.Incoming.{Incoming}
use Rattle.rh_defs.specs.Desk.{Desk, free_pages}
use Rattle.rh_defs.specs.Forms.{is_anchor}
use Rattle.rh_defs.specs.Named.{name_in}
use Rattle.rh_defs.specs.Questions.{shown_at, status_at}
use Rattle.rh_defs.specs.Records.{in_id, is_buffer_of, is_document, is_source, out_id}
use Rattle.rh_explained.specs.declared.block_use.BlockUse.{BlockUse}
use Rattle.rh_explained.specs.declared.facts.Facts.{Facts}
use Rattle.rh_explained.specs.declared.block_use.BlockUse.TheVariants.{Sends, Receives, Buffers}

-- the anchor that a command names
abbrev pub anchor_in : Command → Option ℕ
anchor_in (Alloc name k n) = Some k
anchor_in (Load name k file) = Some k
anchor_in (Put name k offset bytes) = Some k
anchor_in (Free name k) = Some k
anchor_in (Extend name k n) = Some k
anchor_in (Mid name k offset by) = Some k
anchor_in (Save name k to leaf) = Some k
anchor_in (Raw (Spool name k to ref)) = Some k
anchor_in (Raw (Scrap name k)) = Some k
anchor_in (Ask (Show name k)) = Some k
anchor_in c = None

-- the address that it names
abbrev pub address_in : Command → Option ℕ
address_in (Release name place) = Some place
address_in (Resize name place by) = Some place
address_in (RmaFree place) = Some place
address_in (RmaResize place by) = Some place
address_in c = None

-- the number of an area that it names
abbrev pub area_in : Command → Option ℕ
area_in (Area k by) = Some k
area_in (Remove k) = Some k
area_in c = None

-- the file that it loads
abbrev pub loaded_file : Command → Option (List ℕ)
loaded_file (Load name k file) = Some file
loaded_file c = None

-- the task that it saves a block to
abbrev pub recipient_in : Command → Option (List ℕ)
recipient_in (Save name k to leaf) = Some to
recipient_in c = None

-- the records of a live task's transfers, those that go out first
abbrev pub transfers_of : List ℕ → Desk → Option (List Outgoing × List Incoming)
transfers_of name d = option_map (λ (s : ℕ × List Outgoing × List Incoming). (s.1, s.2)) (result_ok (status_at d name))

-- the size of a live task's flex block, where a slot has such an anchor
abbrev pub flex_size : List ℕ → ℕ → Desk → Option ℕ
flex_size name k d =
    if is_anchor k then option_map (λ (s : ℕ × List ℕ). s.0) (result_ok (shown_at d name k 0 0)) else None

-- the transfer that a flex block is the source or the document of
abbrev pub receives : Option Incoming → Option BlockUse
receives None = None
receives (Some r) = Some (Receives (in_id r))

abbrev pub sends_or : Option Outgoing → Option BlockUse → Option BlockUse
sends_or None other = other
sends_or (Some r) other = Some (Sends (out_id r))

abbrev pub use_of_anchor : ℕ → List Outgoing → List Incoming → Option BlockUse
use_of_anchor k sending taking = sends_or (find (is_source k) sending) (receives (find (is_document k) taking))

-- the transfer that a block of the C heap is the buffer of
abbrev pub buffers : Option Incoming → Option BlockUse
buffers None = None
buffers (Some r) = Some (Buffers (in_id r))

abbrev pub use_of_address : ℕ → List Incoming → Option BlockUse
use_of_address place taking = buffers (find (is_buffer_of place) taking)

-- the transfer of these records that uses the block at an anchor, or else at an address
abbrev pub use_among : Option ℕ → Option ℕ → Option (List Outgoing × List Incoming) → Option BlockUse
use_among anchor place None = None
use_among (Some k) place (Some records) = use_of_anchor k records.0 records.1
use_among None (Some place) (Some records) = use_of_address place records.1
use_among None None (Some records) = None

-- the records of the task that a command names
abbrev pub transfers_in : Option (List ℕ) → Desk → Option (List Outgoing × List Incoming)
transfers_in None d = None
transfers_in (Some name) d = transfers_of name d

-- the size of the flex block that a command names
abbrev pub size_at : Option (List ℕ) → Option ℕ → Desk → Option ℕ
size_at (Some name) (Some k) d = flex_size name k d
size_at name anchor d = None

-- what the desk has of a command: the transfer that uses its block, the size of its flex block, and the free pages
abbrev pub facts_on : Desk → Command → Facts
facts_on d c = record {
  used = use_among (anchor_in c) (address_in c) (transfers_in (name_in c) d);
  size = size_at (name_in c) (anchor_in c) d;
  free = free_pages d;
}
