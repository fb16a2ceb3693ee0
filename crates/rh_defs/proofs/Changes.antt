-- What a command is shown to do, from one step to the next: what it keeps and changes, and that it doesn't see the order of messages to different tasks.
use Rattle.rh_defs.proofs.Common.{◌≡◌, ℕ, Bool, true, false, refl, sym, subst, List, Option, Some, None, Ok, Err, Refusal, Command, Granted, ◌>>=◌, ◌>>◌}
use Rattle.rh_defs.proofs.Common.{refuse_if, Heap, Parcel, Desk, Task, named, Answer, IsDesk}
use Rattle.rh_defs.specs.declared.command.Command.TheVariants as command
use Rattle.rh_defs.specs.declared.raw_command.RawCommand.{RawCommand}
use Rattle.rh_defs.specs.declared.raw_command.RawCommand.TheVariants as raw
use Rattle.rh_defs.specs.declared.reply.Reply.{Reply}
use Rattle.rh_defs.specs.Slot.{Slot}
use Rattle.rh_defs.specs.Desk.{Made, with_task, with_slot, with_module}
use Rattle.rh_defs.specs.Named.{name_in}
use Rattle.rh_defs.specs.Range.{in_range}
use Rattle.rh_defs.specs.Commands.{is_refused}
use Rattle.rh_defs.specs.Order.{SameForEach, with_queue}
use Rattle.rh_defs.proofs.Chains.{OnGrant, granted, refused, grant-holds}
use Rattle.rh_defs.proofs.Follows.{Follows}
use Rattle.rh_defs.proofs.QuestionLaws.{is_quiet, quiet-granted}
use Rattle.rh_defs.proofs.OrderSteps.{SaidAlike}

-- ---- commands on memory alone

-- of those of a task with code of its own
abbrev pub is_on_memory : RawCommand → Bool
is_on_memory (raw.Write name x bytes) = true
is_on_memory (raw.Scrap name k) = true
is_on_memory c = false

-- those that are something else: they send, take, start or end something, or make an area
abbrev pub IsOnMemory : Command → Type 0
IsOnMemory (command.Task name buffer manner) = ⊥
IsOnMemory (command.Kill name) = ⊥
IsOnMemory (command.Save name k to leaf) = ⊥
IsOnMemory (command.Poll name) = ⊥
IsOnMemory (command.CancelIn name id) = ⊥
IsOnMemory (command.CancelOut name id) = ⊥
IsOnMemory (command.Repeat name) = ⊥
IsOnMemory (command.Make most) = ⊥
IsOnMemory (command.Raw c) = is_on_memory c ≡ true
IsOnMemory c = Unit {0}

-- the task whose slot a command may change
abbrev pub slot_name : Command → Option (List ℕ)
slot_name (command.Ask q) = None
slot_name c = name_in c

-- the desk after such a command, and the reply
pub data Changed (c : Command) (d : Desk) : Answer → Type 0 where
  in_slot : (name : List ℕ) (t : Task) (s : Slot) {said : Reply} → slot_name c ≡ Some name → named name d ≡ Ok t → is_quiet said ≡ true
      → Changed c d (with_slot t.handle s d, said)
  in_module : (h : Heap) {said : Reply} → is_quiet said ≡ true → Changed c d (with_module h d, said)
  in_areas : (areas : List ℕ) {said : Reply} → is_quiet said ≡ true → Changed c d (record d { areas = areas }, said)
  in_made : (areas : List Made) {said : Reply} → is_quiet said ≡ true → Changed c d (record d { made = areas }, said)
  in_nothing : {said : Reply} → is_quiet said ≡ true → Changed c d (d, said)

-- ---- any command

-- the desk of an answer is one of a run
pub record IsAnswer (a : Answer) : Type 0 where
  pub desk : IsDesk a.0

pub answer-is : {a : Answer} → IsDesk a.0 → IsAnswer a
answer-is is = record { desk = is }

-- a command in range, on a desk of a run
pub record IsRun (c : Command) (d : Desk) : Type 0 where
  pub ranged : in_range c ≡ true
  pub desk : IsDesk d

-- what is shown of what a command gives on a desk, beside what it gives where messages to different tasks stand in another order
pub record Does (c : Command) (d : Desk) (given other : Granted Answer) : Type 0 where
  pub alike : Follows SaidAlike given other
  pub keeps : IsRun c d → OnGrant IsAnswer given
  pub changes : IsOnMemory c → OnGrant (Changed c d) given

-- ---- its steps

-- of which nothing has to be known
pub anything : {A : Type 0} (r : Granted A) → OnGrant (λ x. Unit {0}) r
anything (Ok x) = granted tt
anything (Err refusal) = refused

module _ {c : Command} {d : Desk} where
  stopped : {refusal : Refusal} → Does c d (Err refusal) (Err refusal)
  stopped = record { alike = Follows.neither; keeps = λ run. refused; changes = λ on. refused }

  -- a first step that is the same on both desks, of whose grant something is known
  pub known-step : {A : Type 0} {Q : A → Type 0} (first : Granted A) (next other : A → Granted Answer) → (IsRun c d → OnGrant Q first)
      → ((x : A) → first ≡ Ok x → (IsRun c d → Q x) → Does c d (next x) (other x)) → Does c d (first >>= next) (first >>= other)
  unfolding ◌>>=◌
  known-step (Ok x) next other known h = h x refl (λ run. grant-holds (known run) refl)
  known-step (Err refusal) next other known h = stopped

  pub step-then : {A : Type 0} (first : Granted A) (next other : A → Granted Answer) → ((x : A) → first ≡ Ok x → Does c d (next x) (other x))
      → Does c d (first >>= next) (first >>= other)
  step-then first next other h = known-step first next other (λ run. anything first) (λ x e known. h x e)

  -- the same where that of the other desk is equal
  pub equal-step : {A : Type 0} {Q : A → Type 0} (first second : Granted A) (next other : A → Granted Answer) → second ≡ first → (IsRun c d → OnGrant Q first)
      → ((x : A) → first ≡ Ok x → (IsRun c d → Q x) → Does c d (next x) (other x)) → Does c d (first >>= next) (second >>= other)
  equal-step first second next other e known h =
      subst (λ third. Does c d (first >>= next) (third >>= other)) (sym e) (known-step first next other known h)

  -- a refusal by a test
  pub past : (test : Bool) (refusal : Refusal) (next other : Granted Answer) → (test ≡ false → Does c d next other)
      → Does c d (refuse_if test refusal >> next) (refuse_if test refusal >> other)
  unfolding ◌>>=◌ ◌>>◌ refuse_if
  past true refusal next other h = stopped
  past false refusal next other h = h refl

  -- ---- and its end

  -- that of a command which is none on memory alone
  pub otherwise : (e : Desk) (queue : List Parcel) {said : Reply} → SameForEach e.post.queued queue → is_refused said ≡ false → (IsRun c d → IsDesk e)
      → (IsOnMemory c → ⊥) → Does c d (Ok (e, said)) (Ok (with_queue queue e, said))
  otherwise e queue same granted-so keeps other = record {
    alike = Follows.both (SaidAlike.said e queue _ same granted-so);
    keeps = λ run. granted (answer-is (keeps run));
    changes = λ on. absurd (other on);
  }

module _ {c : Command} (d : Desk) (queue : List Parcel) (same : SameForEach d.post.queued queue) where
  -- that of a command which is
  pub done : (e : Desk) {said : Reply} → SameForEach e.post.queued queue → is_quiet said ≡ true → (IsRun c d → IsDesk e) → Changed c d (e, said)
      → Does c d (Ok (e, said)) (Ok (with_queue queue e, said))
  done e {said = said} alike quiet keeps changed = record {
    alike = Follows.both (SaidAlike.said e queue said alike (quiet-granted said quiet));
    keeps = λ run. granted (answer-is (keeps run));
    changes = λ on. granted changed;
  }

  pub in-slot : {name : List ℕ} (t : Task) (s : Slot) {said : Reply} → slot_name c ≡ Some name → named name d ≡ Ok t → is_quiet said ≡ true
      → (IsRun c d → IsDesk (with_slot t.handle s d)) → Does c d (Ok (with_slot t.handle s d, said)) (Ok (with_slot t.handle s (with_queue queue d), said))
  unfolding with_task
  in-slot t s about e quiet keeps = done (with_slot t.handle s d) same quiet keeps (in_slot _ t s about e quiet)

  pub in-module : (h : Heap) {said : Reply} → is_quiet said ≡ true → (IsRun c d → IsDesk (with_module h d))
      → Does c d (Ok (with_module h d, said)) (Ok (with_module h (with_queue queue d), said))
  in-module h quiet keeps = done (with_module h d) same quiet keeps (in_module h quiet)
