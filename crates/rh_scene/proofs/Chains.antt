-- The message behind another one in the list of all messages.
use Rattle.rh_scene.proofs.Common.{ℕ, Bool, true, false, List, MessageItem}
use Rattle.rh_scene.specs.SightMessages.{items_behind}

-- the messages behind one that was seen, or that is still to be seen
abbrev pub rest_behind : Bool → ℕ → List MessageItem → List MessageItem
rest_behind true ref messages = messages
rest_behind false ref messages = items_behind ref messages
