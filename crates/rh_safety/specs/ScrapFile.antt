-- Whose the scrap file is. Read Desk of rh_defs first.
-- d is a desk, h and k are handles, x and y open transfers that go out, p is a message in its block.
use Rattle.std.specs.Prelude.{◌≡◌, ◌≢◌, ◌⊎◌, ℕ, ◌<◌, true, false, List, Some}
use Rattle.std.specs.List.{Contains}
use Rattle.rh_defs.specs.declared.transfer.Sending.{Sending}
use Rattle.rh_defs.specs.declared.transfer.Outgoing.TheVariants as outgoing
use Rattle.rh_defs.specs.declared.message.Action.TheVariants as action
use Rattle.rh_defs.specs.Messages.{Parcel, action_of}
use Rattle.rh_defs.specs.Post.{Post, held_by, post_is_live}
use Rattle.rh_defs.specs.Desk.{Desk, Task, Scrap, next_ref, task_at}
use Rattle.rh_defs.specs.declared.command.Command.{Command}
use Rattle.rh_defs.specs.Runs.{after}
use Rattle.rh_safety.specs.RawIds.{is_raw_id}

-- the live task's open record, whose last message has the ref
pub record IsLast (d : Desk) (h : ℕ) (x : Sending) (ref : ℕ) : Type 0 where
  pub task : Task
  pub live : task_at h d ≡ Some task
  pub open_ : Contains task.sending (outgoing.Open x)
  pub last : x.last ≡ ref

-- a message that is queued, or held by a task
abbrev pub IsLiveMessage : Post → Parcel → Type 0
IsLiveMessage post p = Contains post.queued p ⊎ ((h : ℕ) × (held_by h post.seats ≡ Some p))

-- The scrap file's ref was given. A message of that ref is queued or held, which is a DataLoad. At most one open record of
-- all live tasks sent it last.
pub record HasOneOwner (d : Desk) (file : Scrap) : Type 0 where
  pub given : file.load < next_ref d
  pub live : post_is_live file.load d.post ≡ true
  pub loads :
      (p : Parcel) → IsLiveMessage d.post p → p.message.my_ref ≡ file.load → action_of p.message.body ≡ action.DataLoad
  pub one : (h k : ℕ) (x y : Sending) → IsLast d h x file.load → IsLast d k y file.load → (h ≡ k) × (x.id ≡ y.id)

-- a message that doesn't answer it
abbrev pub Passes : Scrap → Parcel → Type 0
Passes file p = p.message.your_ref ≢ file.load

-- so it is of the scrap file after the commands, where there is one that a task without code of its own made; no live
-- message of such a task answers its DataLoad
abbrev pub OwnsScrapFile : Desk → List Command → Type 0
OwnsScrapFile d commands =
    (file : Scrap) → (after d commands).scrap ≡ Some file → is_raw_id d commands file.load ≡ false →
    HasOneOwner (after d commands) file ×
    ((p : Parcel) → IsLiveMessage (after d commands).post p → is_raw_id d commands p.message.my_ref ≡ false → Passes file p)

-- of any scrap file, and no live message answers its DataLoad
abbrev pub OwnsAnyScrapFile : Desk → Type 0
OwnsAnyScrapFile d =
    (file : Scrap) → d.scrap ≡ Some file →
    HasOneOwner d file × ((p : Parcel) → IsLiveMessage d.post p → Passes file p)
