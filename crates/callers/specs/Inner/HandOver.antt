-- A file on its way from task 1 to task 2: what each keeps of it, and the messages between them.
use Rattle.std.specs.Prelude.{◌≡◌, ℕ, ◌+◌, ◌*◌, ◌-◌, ◌<◌, ◌≤◌, false, min, nat_lt, if◌then◌else◌, List, [], ◌∷◌, Option, Some, None, codes, length, take, drop, slice_get}
use Rattle.rh_defs.specs.declared.message.EventCode.TheVariants.{User, Recorded}
use Rattle.rh_defs.specs.declared.message.Body.TheVariants.{RamFetch, RamTransmit}
use Rattle.rh_defs.specs.declared.message.Letter.{Letter}
use Rattle.rh_defs.specs.declared.message.Message.{Message}
use Rattle.rh_defs.specs.declared.transfer.Outgoing.{Outgoing}
use Rattle.rh_defs.specs.declared.transfer.Outgoing.TheVariants as outgoing
use Rattle.rh_defs.specs.declared.transfer.Incoming.{Incoming}
use Rattle.rh_defs.specs.declared.transfer.Incoming.TheVariants as incoming
use Rattle.rh_defs.specs.declared.transfer.Taking.{Taking}
use Rattle.rh_defs.specs.declared.transfer_action.Append.{Append}
use Rattle.rh_defs.specs.Receiver.{next_of}
use Rattle.rh_defs.specs.Letters.{save_letter}

-- the buffer's address
abbrev pub the_buffer : ℕ
the_buffer = 0x8114

-- ---- messages

-- the offer of so many bytes
abbrev pub offer_of : ℕ → Letter
offer_of size = save_letter 1 2 size (codes "file")

-- a fetch of a buffer of so many bytes, in answer to a message
abbrev pub fetch_of : ℕ → ℕ → Letter
fetch_of room answers = record { code = Recorded; from = 2; to = 1; your_ref = answers; body = RamFetch the_buffer room }

-- n bytes that went into it, in answer to a message
abbrev pub transmit_of : ℕ → ℕ → ℕ → Letter
transmit_of room answers n =
    record { code = if nat_lt n room then User else Recorded; from = 1; to = 2; your_ref = answers; body = RamTransmit the_buffer n }

-- a letter as its task hears it
abbrev pub heard : ℕ → Letter → Message
heard my_ref letter = record { from = letter.from; my_ref = my_ref; your_ref = letter.your_ref; body = letter.body }

-- ---- records

-- c bytes went out, the last by the message with this ref
abbrev pub open_at : ℕ → ℕ → List Outgoing
open_at c last = outgoing.Open (record { id = 1; recipient = 2; anchor = 0; count = c; last = last }) ∷ []

-- n bytes more went into a buffer of so many
abbrev pub went_at : ℕ → ℕ → ℕ → ℕ → List Outgoing
went_at room c n last =
    (if nat_lt n room then outgoing.Done 1 (c + n)
    else outgoing.Open (record { id = 1; recipient = 2; anchor = 0; count = c + n; last = last })) ∷ []

-- c bytes came, and more are asked for by the message with this ref
abbrev pub fetching_at : ℕ → ℕ → List Incoming
fetching_at c fetch =
    incoming.Fetching (record { id = 1; sender = 1; anchor = 0; buffer = the_buffer; count = c; fetch = fetch; raw = false }) ∷ []

-- n bytes more came in a buffer of so many
abbrev pub taken_at : ℕ → ℕ → ℕ → ℕ → List Incoming
taken_at room c n fetch =
    (if nat_lt n room then incoming.Done 1 0 (c + n)
    else incoming.Fetching (record { id = 1; sender = 1; anchor = 0; buffer = the_buffer; count = c + n; fetch = fetch; raw = false })) ∷ []

-- what n bytes ask for that a message told of
abbrev pub appended_at : ℕ → ℕ → ℕ → ℕ → ℕ → Append
appended_at room c my fetch n =
    let f : Taking = record { id = 1; sender = 1; anchor = 0; buffer = the_buffer; count = c; fetch = fetch; raw = false } in
    record { transfer = f; n = n; next = next_of room my n f }

-- the answer to that message: none to the last bytes
abbrev pub answer_to : ℕ → ℕ → ℕ → Option Letter
answer_to room my n = if nat_lt n room then None else Some (fetch_of room my)

-- ---- how far it is, before a turn that takes the message at its place in the list

-- the next message is the offer
pub record IsOffered (source : List ℕ) (turn : ℕ) (mail : List Letter) (sender : List Outgoing) (receiver : List Incoming) : Type 0 where
  pub first : turn ≡ 0
  pub next : mail ≡ offer_of (length source) ∷ []
  pub sends : sender ≡ open_at 0 1
  pub takes : receiver ≡ []

-- the next message is a fetch, behind c bytes
pub record IsAsked (source : List ℕ) (room turn : ℕ) (mail : List Letter) (sender : List Outgoing) (receiver : List Incoming)
    (document : List ℕ) (c last : ℕ) : Type 0 where
  pub many : length mail ≡ turn + 1
  pub next : slice_get mail turn ≡ Some (fetch_of room last)
  pub sends : sender ≡ open_at c last
  pub takes : receiver ≡ fetching_at c (turn + 1)
  pub front : take c document ≡ take c source
  pub least : turn ≤ 2 * c + 1
  pub most : c ≤ length source

-- the next message says that n bytes are in the buffer, behind c of them
pub record IsAnswered (source : List ℕ) (room turn : ℕ) (mail : List Letter) (sender : List Outgoing) (receiver : List Incoming)
    (document buffer : List ℕ) (c n fetch : ℕ) : Type 0 where
  pub many : length mail ≡ turn + 1
  pub next : slice_get mail turn ≡ Some (transmit_of room fetch n)
  pub sends : sender ≡ went_at room c n (turn + 1)
  pub takes : receiver ≡ fetching_at c fetch
  pub front : take c document ≡ take c source
  pub bytes : take n buffer ≡ take n (drop c source)
  pub least : turn ≤ 2 * c + 2
  pub most : c ≤ length source
  pub part : n ≡ min room (length source - c)

-- no message is next, and the file is there
pub record IsOver (source : List ℕ) (turn : ℕ) (mail : List Letter) (sender : List Outgoing) (receiver : List Incoming)
    (document : List ℕ) : Type 0 where
  pub many : length mail ≤ turn
  pub sends : sender ≡ outgoing.Done 1 (length source) ∷ []
  pub takes : receiver ≡ incoming.Done 1 0 (length source) ∷ []
  pub whole : document ≡ source

-- one of these four
pub data IsOnItsWay (source : List ℕ) (room turn : ℕ) (mail : List Letter) (sender : List Outgoing) (receiver : List Incoming)
    (document buffer : List ℕ) : Type 0 where
  Offered : IsOffered source turn mail sender receiver → IsOnItsWay source room turn mail sender receiver document buffer
  Asked : (c last : ℕ) → IsAsked source room turn mail sender receiver document c last
      → IsOnItsWay source room turn mail sender receiver document buffer
  Answered : (c n fetch : ℕ) → IsAnswered source room turn mail sender receiver document buffer c n fetch
      → IsOnItsWay source room turn mail sender receiver document buffer
  Over : IsOver source turn mail sender receiver document → IsOnItsWay source room turn mail sender receiver document buffer
