-- Messages of any action: what a message block says, and what a task reads in it. Read MessageImage first.
-- a is the number of an action, bytes the ones behind it, b the bytes of a message block, body what a message says.
-- `-` of naturals doesn't have to stop: a length is 20 at least.
use Rattle.std.specs.Prelude.{ℕ, ◌+◌, ◌-◌, if◌then◌else◌, List, [], ◌∷◌, ◌++◌, length, drop, unwrap_or, Option, Result, Ok, Err}
use Rattle.std.specs.Result.{result_ok}
use Rattle.rh_defs.specs.Bytes.{word, part}
use Rattle.rh_defs.specs.OtherBodies.{is_exact}
use Rattle.rh_defs.specs.Messages.{Parcel, action_at, words, body_bytes}
use Rattle.rh_defs.specs.MessageImage.{body_for, has_length}
use Rattle.rh_defs.specs.declared.message.Body.{Body}
use Rattle.rh_defs.specs.declared.message.Body.TheVariants.{Other}
use Rattle.rh_defs.specs.declared.message.Message.{Message}
use Rattle.rh_defs.specs.declared.message.MessageFault.{MessageFault}
use Rattle.rh_defs.specs.declared.message.MessageFault.TheVariants.{BadLength}

-- a message block with this action and data
abbrev pub block_with : ℕ → List ℕ → List ℕ
block_with a bytes = words ((20 + length bytes) ∷ 0 ∷ 0 ∷ 0 ∷ a ∷ []) ++ bytes

-- the one of the six kinds that is read there, bytes past what it needs aside
abbrev pub kind_read : ℕ → List ℕ → Option Body
kind_read a bytes = result_ok (body_for (block_with a bytes) (20 + length bytes) (action_at a))

-- what a message with this action and data says: it is of a kind where the kind's own message has just these bytes
abbrev pub body_of : ℕ → List ℕ → Body
body_of a bytes = if is_exact a bytes then unwrap_or (kind_read a bytes) (Other (a, bytes)) else Other (a, bytes)

-- the message that a block says, or why it says none
unfoldable pub any_decoded : List ℕ → Result Message MessageFault
any_decoded b =
    if has_length b
    then Ok (record {
      from = word b 4;
      my_ref = word b 8;
      your_ref = word b 12;
      body = body_of (word b 16) (part b 20 (word b 0 - 20));
    })
    else Err BadLength

-- what a task that the desk plays reads in a message
abbrev pub read_body : Body → Body
read_body (Other o) = unwrap_or (kind_read o.0 o.1) (Other o)
read_body body = body

-- the message as such a task reads it
abbrev pub as_read : Parcel → Parcel
as_read p = record p { message = record p.message { body = read_body p.message.body } }

-- the bytes behind the action
abbrev pub data_bytes : Body → List ℕ
data_bytes body = drop 4 (body_bytes body)
