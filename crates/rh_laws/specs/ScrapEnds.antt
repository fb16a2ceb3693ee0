-- No scrap file is left behind. Read Progress first, and ScrapFile of rh_safety. d is a desk, p a message in its block.
use Rattle.std.specs.Prelude.{◌≡◌, ℕ, ◌<◌, ◌≤◌, true, List, [], length, Some, None}
use Rattle.std.specs.List.{AllByRecursion}
use Rattle.rh_defs.specs.declared.message.Body.TheVariants.{DataLoad}
use Rattle.rh_defs.specs.Range.{all_in_range}
use Rattle.rh_defs.specs.Laws.{Always}
use Rattle.rh_defs.specs.Letters.{file_of, scrap_name}
use Rattle.rh_defs.specs.Messages.{Parcel}
use Rattle.rh_defs.specs.Post.{post_is_live}
use Rattle.rh_defs.specs.Desk.{Desk, Scrap, next_ref}
use Rattle.rh_defs.specs.Runs.{after}
use Rattle.rh_safety.specs.ScrapFile.{IsLiveMessage}
use Rattle.rh_laws.specs.Progress.{IsAtRest, NamesAll, rounds_of, work}

-- The file's ref was given, and a message of that ref is queued or held. Each such message is a DataLoad of the scrap file's
-- name, which says how many bytes the file has.
pub record HasLoad (d : Desk) (file : Scrap) : Type 0 where
  pub given : file.load < next_ref d
  pub live : post_is_live file.load d.post ≡ true
  pub loads :
      (p : Parcel) → IsLiveMessage d.post p → p.message.my_ref ≡ file.load →
      p.message.body ≡ DataLoad (file_of (length file.bytes) scrap_name)

-- after as many rounds as there is work, each of which polls every live task, there is no scrap file
abbrev pub GoesByPolls : Desk → Type 0
GoesByPolls d =
    (rounds : List (List (List ℕ))) → all_in_range (rounds_of rounds) ≡ true → AllByRecursion (NamesAll d) rounds →
    work d ≤ length rounds → (after d (rounds_of rounds)).scrap ≡ None

-- A scrap file has its DataLoad. There is none at rest, none where no task is live, and none after such rounds.
pub record LeavesNone (d : Desk) : Type 0 where
  pub load : (file : Scrap) → d.scrap ≡ Some file → HasLoad d file
  pub rest : IsAtRest d.post → d.scrap ≡ None
  pub alone : d.tasks ≡ [] → d.scrap ≡ None
  pub goes : GoesByPolls d

-- so it is of each desk that a run reaches
abbrev pub AlwaysLeavesNone : Type 0
AlwaysLeavesNone = Always LeavesNone
