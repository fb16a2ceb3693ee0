-- What a task holds of a transfer after a run stands in the store.
use Rattle.std.proofs.Common.{◌≡◌, ℕ, Bool, true, false, List, Option, Some, None, refl, sym, ap, subst, ◌∙◌}
use Rattle.std.specs.Prelude.{◌==◌, find}
use Rattle.std.specs.List.{Contains}
use Rattle.rh_defs.specs.Desk.{Desk, Task, task_at}
use Rattle.rh_defs.specs.Files.{FileList}
use Rattle.rh_defs.specs.Laws.{IsStart}
use Rattle.rh_defs.specs.Order.{IsReordered}
use Rattle.rh_defs.specs.Range.{all_in_range}
use Rattle.rh_defs.specs.Records.{in_id}
use Rattle.rh_defs.specs.Runs.{start_with, after}
use Rattle.rh_defs.specs.declared.command.Command.{Command}
use Rattle.rh_defs.specs.declared.transfer.Incoming.{Incoming}
use Rattle.rh_defs.specs.declared.transfer.Incoming.TheVariants as incoming
use Rattle.rh_safety.specs.Counts.{counted_in, is_done}
use Rattle.rh_safety.specs.Held.{held, held_of, document_of, in_anchor, is_edited}
use Rattle.rh_safety.specs.Offered.{bytes_of_block, offered}
use Rattle.rh_safety.specs.Safe.{IsSafe}
use Rattle.rh_safety.proofs.Basics.{is_equal, same_value, first_is, contains_of}
use Rattle.rh_safety.specs.RawIds.{is_raw_id}
use Rattle.rh_safety.proofs.Blanks.{always_offers_safe}
use Rattle.rh_safety.proofs.Played.{all_safe}
use Rattle.rh_safety.proofs.SeenLaws.{always_safe}
use Rattle.rh_safety.proofs.HeldCounts.{always_counts_held}
use Rattle.rh_tasks.specs.Shown.{Shown, IsSpelled}
use Rattle.rh_received.specs.Received.{HasReceived, HasRun, HoldsAllReceived, HoldsOffered, HoldsReceived}
use Rattle.rh_received.proofs.Places.{anchored, slot-of}

-- the record of a transfer of which something is held, and its document
record Holds (t : Task) (id : ℕ) (got : List ℕ) : Type 0 where
  pub taking : Incoming
  pub recorded : find (λ w. in_id w == id) t.taking ≡ Some taking
  pub bytes : bytes_of_block t.slot (in_anchor taking) ≡ Some got

holds : (t : Task) (id : ℕ) (edited : Bool) (got : List ℕ) → held_of (Some t) id edited ≡ Some got → Holds t id got
holds t id edited got = go (find (λ w. in_id w == id) t.taking) refl edited
  where
    go : (o : Option Incoming) → find (λ w. in_id w == id) t.taking ≡ o → (b : Bool) → document_of t b o ≡ Some got → Holds t id got
    go None e b q = absurd (let z : None ≡ Some got = q in cc)
    go (Some w) e true q = absurd (let z : None ≡ Some got = q in cc)
    go (Some w) e false q = record { taking = w; recorded = e; bytes = q }

-- a record that says Done is found as such
done-is : (t : Task) (id : ℕ) (w : Incoming) → find (λ r. in_id r == id) t.taking ≡ Some w → is_done w ≡ true →
    Contains t.taking (incoming.Done id (in_anchor w) (counted_in w))
done-is t id w e q =
    let which = first_is (λ (r : Incoming). in_id r == id) t.taking w e in
    subst (Contains t.taking) (go w q (is_equal _ _ which.1)) (contains_of t.taking w which.0)
  where
    go : (w : Incoming) → is_done w ≡ true → in_id w ≡ id → w ≡ incoming.Done id (in_anchor w) (counted_in w)
    go (incoming.Fetching f) d i = absurd cc
    go (incoming.Draining f) d i = absurd cc
    go (incoming.Asking a) d i = absurd cc
    go (incoming.Failed i k n) d same = absurd cc
    go (incoming.Done i k n) d same = ap (λ j. incoming.Done j k n) same

module _ (pool handle ref : ℕ) (files : FileList) (cs : List Command) (from : IsStart pool handle ref)
    (ranged : all_in_range cs ≡ true) (s : Shown) (spelled : IsSpelled s)
    (desk : IsReordered (after (start_with pool files handle ref) cs) s.desk) where
  abbrev d : Desk
  d = start_with pool files handle ref

  tasks-same : s.desk.tasks ≡ (after d cs).tasks
  tasks-same = ap (λ (x : Desk). x.tasks) desk.rest

  in-store : (id h : ℕ) (got : List ℕ) (t : Task) → IsSafe d cs id h → task_at h (after d cs) ≡ Some t → held d cs id h ≡ Some got →
      HasReceived d cs s id h got
  in-store id h got t safe at q =
      let w = holds t id (is_edited d cs h id) got (ap (λ (v : Option Task). held_of v id (is_edited d cs h id)) (sym at) ∙ q) in
      let live : task_at h s.desk ≡ Some t = ap (find (λ (x : Task). x.handle == h)) tasks-same ∙ at in
      let place = slot-of h s.desk.tasks s.slots t spelled.slots live in
      let offer = safe.prefix got q in
      record {
        task = t;
        live = live;
        taking = w.taking;
        recorded = w.recorded;
        slot = place.slot;
        in_store = place.is;
        document = anchored place.slot t.slot (in_anchor w.taking) got place.spells.words w.bytes;
        counted = always_counts_held pool handle ref files cs from ranged id h got t w.taking q at w.recorded;
        file = offer.0;
        was_offered = offer.1;
        front = offer.2;
        whole = λ done. same_value (offered d cs id) (safe.whole got _ _ t q at (done-is t id w.taking w.recorded done)) offer.1;
      }

  from-start : (id h : ℕ) (got : List ℕ) → IsSafe d cs id h → held d cs id h ≡ Some got → HasReceived d cs s id h got
  from-start id h got safe q = go (task_at h (after d cs)) refl
    where
      go : (o : Option Task) → task_at h (after d cs) ≡ o → HasReceived d cs s id h got
      go None e = absurd (let z : None ≡ Some got = ap (λ (v : Option Task). held_of v id (is_edited d cs h id)) (sym e) ∙ q in cc)
      go (Some t) e = in-store id h got t safe e q

-- what is held of a transfer that is safe from the first desk on
received-safely : (s : Shown) → IsSpelled s → (d : Desk) (cs : List Command) (id h : ℕ) (got : List ℕ) → (run : HasRun d cs s)
    → IsSafe (start_with run.pool run.files run.handle run.ref) cs id h → held d cs id h ≡ Some got → HasReceived d cs s id h got
received-safely s spelled d cs id h got run safe q =
    subst (λ (x : Desk). HasReceived x cs s id h got) (sym run.first)
    (from-start run.pool run.handle run.ref run.files cs run.begins run.ranged s spelled
    (subst (λ (x : Desk). IsReordered (after x cs) s.desk) run.first run.desk) id h got safe
    (subst (λ (x : Desk). held x cs id h ≡ Some got) run.first q))

pub holds-received : (s : Shown) → IsSpelled s → HoldsReceived s
holds-received s spelled d cs id h got run played q =
    received-safely s spelled d cs id h got run
    (always_safe run.pool run.handle run.ref run.files cs run.begins run.ranged id h
    (subst (λ (x : Desk). is_raw_id x cs id ≡ false) run.first played)) q

pub holds-offered : (s : Shown) → IsSpelled s → HoldsOffered s
holds-offered s spelled d cs id h got file run is q =
    received-safely s spelled d cs id h got run
    (always_offers_safe run.pool run.handle run.ref run.files cs run.begins run.ranged id h file
    (subst (λ (x : Desk). offered x cs id ≡ Some file) run.first is)) q

pub holds-all-received : (s : Shown) → IsSpelled s → HoldsAllReceived s
holds-all-received s spelled d cs id h got run played q =
    received-safely s spelled d cs id h got run
    (all_safe run.pool run.handle run.ref run.files cs run.begins run.ranged played id h) q
