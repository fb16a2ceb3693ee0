-- The action of a record that was found is due.
use Rattle.std.proofs.Common.{◌≡◌, ℕ, ◌+◌, ◌^◌, Bool, true, false, cond, refl, ap, sym, ◌∙◌, List, [], ◌∷◌}
use Rattle.std.specs.Prelude.{Some, ◌||◌, ◌&&◌, ◌==◌, nat_le, nat_lt}
use Rattle.std.specs.List.{list_any}
use Rattle.std.specs.Cmp.Derive.{both_true}
use Rattle.std.proofs.lemmas.Option.{none-some, same_Some}
use Rattle.std.proofs.lemmas.Bool.{or_left, or_right}
use mathlib.Core.Bool.{beq}
use borrow.Author.Tests.{eq-eqb, leb-false, lt-ltb}
use Rattle.rh_defs.specs.declared.transfer.Sending.{Sending}
use Rattle.rh_defs.specs.declared.transfer.Taking.{Taking}
use Rattle.rh_defs.specs.declared.transfer.Asked.{Asked}
use Rattle.rh_defs.specs.declared.transfer.Outgoing.{Outgoing}
use Rattle.rh_defs.specs.declared.transfer.Outgoing.TheVariants as outgoing
use Rattle.rh_defs.specs.declared.transfer.Incoming.{Incoming}
use Rattle.rh_defs.specs.declared.transfer.Incoming.TheVariants as incoming
use Rattle.rh_defs.specs.Records.{open_of, active_of, asking_of}
use Rattle.rh_defs.specs.declared.transfer_action.Ending.TheVariants as ending
use Rattle.rh_defs.specs.declared.transfer_action.TakeAction.TheVariants as take
use Rattle.rh_defs.specs.Receiver.{append_for, next_of}
use Rattle.rh_ram.specs.Due.{is_same_sending, is_same_taking, is_same_asked, is_open_as, is_fetching_as, is_draining_as, is_asking_as, is_take_due}

-- ---- each transfer is the same as itself

pub same_sending : (x : Sending) → is_same_sending x x ≡ true
same_sending x =
    rw (eq-eqb x.id x.id refl) (rw (eq-eqb x.recipient x.recipient refl) (rw (eq-eqb x.anchor x.anchor refl)
    (rw (eq-eqb x.count x.count refl) (rw (eq-eqb x.last x.last refl) refl))))

pub same_taking : (f : Taking) → is_same_taking f f ≡ true
same_taking f =
    rw (eq-eqb f.id f.id refl) (rw (eq-eqb f.sender f.sender refl) (rw (eq-eqb f.anchor f.anchor refl)
    (rw (eq-eqb f.buffer f.buffer refl) (rw (eq-eqb f.count f.count refl) (rw (eq-eqb f.fetch f.fetch refl) (both f.raw))))))
  where
    both : (b : Bool) → beq b b ≡ true
    both true = refl
    both false = refl

pub same_asked : (q : Asked) → is_same_asked q q ≡ true
same_asked q =
    rw (eq-eqb q.id q.id refl) (rw (eq-eqb q.sender q.sender refl) (rw (eq-eqb q.anchor q.anchor refl)
    (rw (eq-eqb q.ack q.ack refl) refl)))

-- ---- what is found is one of the records

pub open-due : (test : Sending → Bool) (records : List Outgoing) (x : Sending) → Some x ≡ open_of test records → list_any (is_open_as x) records ≡ true
open-due test [] x found = absurd (none-some x (sym found))
open-due test (outgoing.Open y ∷ records) x found =
    elim (test y) as (λ b. Some x ≡ cond b (Some y) (open_of test records) → (is_same_sending x y || list_any (is_open_as x) records) ≡ true) [
      | true ↦ λ e. or_left (is_same_sending x y) _ (ap (is_same_sending x) (sym (same_Some x y e)) ∙ same_sending x)
      | false ↦ λ e. or_right (is_same_sending x y) _ (open-due test records x e)
    ] found
open-due test (outgoing.Done id count ∷ records) x found = open-due test records x found
open-due test (outgoing.Failed id count ∷ records) x found = open-due test records x found

module _ (test : Taking → Bool) where
  pub fetching-due : (records : List Incoming) (f : Taking) → Some (incoming.Fetching f) ≡ active_of test records
      → list_any (is_fetching_as f) records ≡ true
  fetching-due [] f found = absurd (none-some _ (sym found))
  fetching-due (incoming.Fetching g ∷ records) f found =
      elim (test g) as (λ b. Some (incoming.Fetching f) ≡ cond b (Some (incoming.Fetching g)) (active_of test records)
      → (is_same_taking f g || list_any (is_fetching_as f) records) ≡ true) [
        | true ↦ λ e. or_left (is_same_taking f g) _ (ap (is_fetching_as f) (sym (same_Some _ _ e)) ∙ same_taking f)
        | false ↦ λ e. or_right (is_same_taking f g) _ (fetching-due records f e)
      ] found
  fetching-due (incoming.Draining g ∷ records) f found =
      elim (test g) as (λ b. Some (incoming.Fetching f) ≡ cond b (Some (incoming.Draining g)) (active_of test records)
      → list_any (is_fetching_as f) records ≡ true)
      [ true ↦ λ e. absurd (cc) | false ↦ λ e. fetching-due records f e ] found
  fetching-due (incoming.Asking q ∷ records) f found = fetching-due records f found
  fetching-due (incoming.Done id anchor count ∷ records) f found = fetching-due records f found
  fetching-due (incoming.Failed id anchor count ∷ records) f found = fetching-due records f found

  pub draining-due : (records : List Incoming) (f : Taking) → Some (incoming.Draining f) ≡ active_of test records
      → list_any (is_draining_as f) records ≡ true
  draining-due [] f found = absurd (none-some _ (sym found))
  draining-due (incoming.Draining g ∷ records) f found =
      elim (test g) as (λ b. Some (incoming.Draining f) ≡ cond b (Some (incoming.Draining g)) (active_of test records)
      → (is_same_taking f g || list_any (is_draining_as f) records) ≡ true) [
        | true ↦ λ e. or_left (is_same_taking f g) _ (ap (is_draining_as f) (sym (same_Some _ _ e)) ∙ same_taking f)
        | false ↦ λ e. or_right (is_same_taking f g) _ (draining-due records f e)
      ] found
  draining-due (incoming.Fetching g ∷ records) f found =
      elim (test g) as (λ b. Some (incoming.Draining f) ≡ cond b (Some (incoming.Fetching g)) (active_of test records)
      → list_any (is_draining_as f) records ≡ true)
      [ true ↦ λ e. absurd (cc) | false ↦ λ e. draining-due records f e ] found
  draining-due (incoming.Asking q ∷ records) f found = draining-due records f found
  draining-due (incoming.Done id anchor count ∷ records) f found = draining-due records f found
  draining-due (incoming.Failed id anchor count ∷ records) f found = draining-due records f found

pub asking-due : (test : Asked → Bool) (records : List Incoming) (p : Asked) → Some p ≡ asking_of test records
    → list_any (is_asking_as p) records ≡ true
asking-due test [] p found = absurd (none-some _ (sym found))
asking-due test (incoming.Asking q ∷ records) p found =
    elim (test q) as (λ b. Some p ≡ cond b (Some q) (asking_of test records) → (is_same_asked p q || list_any (is_asking_as p) records) ≡ true) [
      | true ↦ λ e. or_left (is_same_asked p q) _ (ap (is_same_asked p) (sym (same_Some p q e)) ∙ same_asked p)
      | false ↦ λ e. or_right (is_same_asked p q) _ (asking-due test records p e)
    ] found
asking-due test (incoming.Fetching f ∷ records) p found = asking-due test records p found
asking-due test (incoming.Draining f ∷ records) p found = asking-due test records p found
asking-due test (incoming.Done id anchor count ∷ records) p found = asking-due test records p found
asking-due test (incoming.Failed id anchor count ∷ records) p found = asking-due test records p found

-- ---- what there is to do for a record that fetches

pub append-due : (room my_ref n : ℕ) (f : Taking) (records : List Incoming) → list_any (is_fetching_as f) records ≡ true
    → is_take_due (append_for room my_ref n f) records ≡ true
append-due room my_ref n f records one =
    elim (nat_le (2 ^ 32) (f.count + n)) as (λ b. nat_le (2 ^ 32) (f.count + n) ≡ b
    → is_take_due (cond b (take.Release (record { transfer = f; ending = ending.Uncountable }))
    (take.Append (record { transfer = f; n = n; next = next_of room my_ref n f }))) records ≡ true)
    [ true ↦ λ e. one | false ↦ λ e. both_true one (lt-ltb _ _ (leb-false _ _ e)) ] refl

pub back-due : (f : Taking) (records : List Incoming) → list_any (is_fetching_as f) records ≡ true
    → is_take_due (cond (f.count == 0) (take.AskForFile f) (take.Release (record { transfer = f; ending = ending.Unanswered }))) records ≡ true
back-due f records one =
    elim (f.count == 0) as (λ b. (f.count == 0) ≡ b
    → is_take_due (cond b (take.AskForFile f) (take.Release (record { transfer = f; ending = ending.Unanswered }))) records ≡ true)
    [ true ↦ λ e. both_true one e | false ↦ λ e. one ] refl

pub ruleset due_laws = (open-due, fetching-due, draining-due, asking-due, append-due, back-due)
