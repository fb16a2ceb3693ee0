-- Items of lists, by the heap or the post that has them.
use Rattle.std.specs.Prelude.{◌≡◌, ℕ, List, ◌∷◌, ◌++◌, codes, Option, Some}
use Rattle.std.specs.Fmt.{decimal}
use Rattle.rh_defs.specs.Messages.{Parcel, action_of}
use Rattle.rh_defs.specs.Heap.{Segment, Heap, place_after}
use Rattle.rh_defs.specs.declared.message.MessageItem.{MessageItem}
use Rattle.rh_figure.specs.Phrases.{Text}
use Rattle.rh_scene.specs.declared.message_list.MessagePlace.{MessagePlace}
use Rattle.rh_scene.specs.declared.message_list.MessagePlace.TheVariants.{Held, Before, Last}

-- a segment begins at the place of a heap that may be there
pub record HasSegment (h : Option Heap) (place : ℕ) (segment : Segment) : Type 0 where
  pub heap : Heap
  pub is : h ≡ Some heap
  pub below : List Segment
  pub above : List Segment
  pub whole : heap.segments ≡ below ++ segment ∷ above
  pub at : place ≡ place_after below

-- a message as it is listed
pub record IsItemOf (m : MessageItem) (p : Parcel) : Type 0 where
  pub block : m.block ≡ p.block
  pub to : m.to ≡ p.to
  pub from : m.from ≡ p.message.from
  pub my_ref : m.my_ref ≡ p.message.my_ref
  pub action : m.action ≡ action_of p.message.body
  pub code : m.code ≡ p.code

-- where a message stands in its chain
abbrev pub place_seen : MessagePlace → Text
place_seen Held = codes "held"
place_seen (Before next) = codes "then " ++ decimal next
place_seen Last = codes "none behind"
