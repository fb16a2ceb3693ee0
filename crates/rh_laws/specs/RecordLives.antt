-- Records of transfers live until they end: what one command makes of each record of a task that is live before and after
-- it. Read Frame first.
-- c is a command, d the desk before it, h the handle of a task, t that task before the command and u after it, v a record of
-- t, w one of u, x and y are open transfers that go out, f and g have a buffer, q waits for a file, n is a count. Of records
-- of either kind, id_of tells the id, and lasts whether one hasn't ended.
use Rattle.std.specs.Prelude.{◌≡◌, ◌≢◌, ◌⊎◌, ℕ, ◌≤◌, Bool, true, false, List, length, Some}
use Rattle.std.specs.List.{AllByRecursion, Contains}
use Rattle.rh_defs.specs.declared.command.Command.{Command}
use Rattle.rh_defs.specs.declared.command.Command.TheVariants as command
use Rattle.rh_defs.specs.declared.transfer.Incoming.{Incoming}
use Rattle.rh_defs.specs.declared.transfer.Incoming.TheVariants as incoming
use Rattle.rh_defs.specs.declared.transfer.Outgoing.{Outgoing}
use Rattle.rh_defs.specs.declared.transfer.Outgoing.TheVariants as outgoing
use Rattle.rh_defs.specs.Receiver.{asked_by}
use Rattle.rh_defs.specs.Records.{in_id, is_going, is_open, most_records, out_id}
use Rattle.rh_defs.specs.Desk.{Desk, Task, task_at}
use Rattle.rh_defs.specs.Commands.{step}
use Rattle.rh_laws.specs.Frame.{actor}

-- ---- how a record turns

-- An open record that goes out keeps its ends and its block, and its count doesn't fall; a failed one has the count of the open one.
abbrev pub TurnsOut : Outgoing → Outgoing → Type 0
TurnsOut (outgoing.Open x) (outgoing.Open y) = (x.count ≤ y.count) × (y ≡ record x { count = y.count; last = y.last })
TurnsOut (outgoing.Open x) (outgoing.Done id n) = x.count ≤ n
TurnsOut (outgoing.Open x) (outgoing.Failed id n) = n ≡ x.count
TurnsOut _ _ = ⊥

-- A record that comes in keeps its document. It asks for a file only while it counts no byte.
abbrev pub TurnsIn : Incoming → Incoming → Type 0
TurnsIn (incoming.Fetching f) (incoming.Fetching g) = (f.count ≤ g.count) × (g ≡ record f { count = g.count; fetch = g.fetch })
TurnsIn (incoming.Fetching f) (incoming.Draining g) = g ≡ f
TurnsIn (incoming.Fetching f) (incoming.Asking q) = (f.count ≡ 0) × (q ≡ asked_by f q.ack)
TurnsIn (incoming.Fetching f) (incoming.Done id k n) = (k ≡ f.anchor) × (f.count ≤ n)
TurnsIn (incoming.Fetching f) (incoming.Failed id k n) = (k ≡ f.anchor) × (f.count ≤ n)
TurnsIn (incoming.Draining f) (incoming.Failed id k n) = (k ≡ f.anchor) × (n ≡ f.count)
TurnsIn (incoming.Asking q) (incoming.Done id k n) = k ≡ q.anchor
TurnsIn (incoming.Asking q) (incoming.Failed id k n) = k ≡ q.anchor
TurnsIn _ _ = ⊥

-- ---- by which commands

abbrev pub turns_outs : Command → Bool
turns_outs (command.Poll name) = true
turns_outs (command.CancelOut name id) = true
turns_outs _ = false

abbrev pub turns_ins : Command → Bool
turns_ins (command.Poll name) = true
turns_ins (command.CancelIn name id) = true
turns_ins _ = false

abbrev pub begins_out : Command → Bool
begins_out (command.Save name k to leaf) = true
begins_out _ = false

abbrev pub begins_in : Command → Bool
begins_in (command.Poll name) = true
begins_in _ = false

-- The command passes the test, and its task is the one with the handle.
abbrev pub ByOwn : (Command → Bool) → Command → Desk → ℕ → Type 0
ByOwn test c d h = (test c ≡ true) × (actor c d ≡ Some h)

-- ---- what becomes of a record

-- No record of the list that has ended has a smaller id.
abbrev pub IsOldest : {A : Type 0} → (A → ℕ) → (A → Bool) → List A → A → Type 0
IsOldest {A} id_of lasts before v = (x : A) → Contains before x → lasts x ≡ false → id_of v ≤ id_of x

-- The record hasn't ended, and no record of the list before had its id.
abbrev pub IsNew : {A : Type 0} → (A → ℕ) → (A → Bool) → List A → A → Type 0
IsNew {A} id_of lasts before w = (lasts w ≡ true) × ((x : A) → Contains before x → id_of x ≢ id_of w)

-- A record v is kept, or it turned, or it was dropped: then it was the oldest ended one of a full list, and a new record stands
-- in the list after. Turn and Begin say when a record may turn, and when one may begin.
pub data Becomes {A : Type 0} (id_of : A → ℕ) (lasts : A → Bool) (Turns : A → A → Type 0) (Turn Begin : Type 0) (before after : List A) (v : A) : Type 0
  where
    kept : Contains after v → Becomes id_of lasts Turns Turn Begin before after v
    turned : (w : A) → Contains after w → id_of w ≡ id_of v → Turns v w → Turn → Becomes id_of lasts Turns Turn Begin before after v
    dropped : (w : A) → lasts v ≡ false → IsOldest id_of lasts before v → length before ≡ most_records → Contains after w →
        IsNew id_of lasts before w → Begin → Becomes id_of lasts Turns Turn Begin before after v

-- A record w of the list after was there before, or is one that turned, or is new.
pub data Comes {A : Type 0} (id_of : A → ℕ) (lasts : A → Bool) (Turns : A → A → Type 0) (Turn Begin : Type 0) (before : List A) (w : A) : Type 0
  where
    old : Contains before w → Comes id_of lasts Turns Turn Begin before w
    anew : (v : A) → Contains before v → id_of w ≡ id_of v → Turns v w → Turn → Comes id_of lasts Turns Turn Begin before w
    new : IsNew id_of lasts before w → Begin → Comes id_of lasts Turns Turn Begin before w

-- Each record before becomes what Becomes says, each record after comes from where Comes says, and all records before but one
-- are kept.
pub record ListLives {A : Type 0} (id_of : A → ℕ) (lasts : A → Bool) (Turns : A → A → Type 0) (Turn Begin : Type 0) (before after : List A) : Type 0
  where
    pub each : AllByRecursion (Becomes id_of lasts Turns Turn Begin before after) before
    pub from : AllByRecursion (Comes id_of lasts Turns Turn Begin before) after
    pub others : (v w : A) → Contains before v → Contains before w → Contains after v ⊎ (Contains after w ⊎ (v ≡ w))

abbrev pub OutsLive : Command → Desk → ℕ → List Outgoing → List Outgoing → Type 0
OutsLive c d h before after = ListLives out_id is_open TurnsOut (ByOwn turns_outs c d h) (ByOwn begins_out c d h) before after

abbrev pub InsLive : Command → Desk → ℕ → List Incoming → List Incoming → Type 0
InsLive c d h before after = ListLives in_id is_going TurnsIn (ByOwn turns_ins c d h) (ByOwn begins_in c d h) before after

-- For each command and each task that is live before and after it, both lists of the task's records live so.
abbrev pub RecordsLive : Desk → Type 0
RecordsLive d =
    (c : Command) (h : ℕ) (t u : Task) → task_at h d ≡ Some t → task_at h (step d c).0 ≡ Some u →
    OutsLive c d h t.sending u.sending × InsLive c d h t.taking u.taking
