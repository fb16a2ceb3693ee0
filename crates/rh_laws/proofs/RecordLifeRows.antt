-- How long records live, worked: a poll that turns one, and a save on a full list. Then three commands that do otherwise, on
-- which records_law fails: a save that drops an open record, a repeat that drops one, and a poll that says Done of a transfer
-- that drains.
use Rattle.rh_laws.proofs.Common.{AllByRecursion, Bool, Command, Desk, Has, Incoming, List, None, Option, Outgoing, Some, String, Task, [], after, arith, codes}
use Rattle.rh_laws.proofs.Common.{contains_of, false, fresh, has_of, hex_on_literals, inl, is_open, map, out_id, in_id, refl, script, step, sym, task_at, true}
use Rattle.rh_laws.proofs.Common.{ap, ◌==◌, ◌∙◌, drop, ℕ, ◌++◌, ◌∷◌, ◌≡◌, eqb_tells, inr, list_any, subst}
use Rattle.rh_defs.specs.declared.command.Command.TheVariants as command
use Rattle.rh_defs.specs.declared.transfer.Incoming.TheVariants as incoming
use Rattle.rh_defs.specs.declared.transfer.Outgoing.TheVariants as outgoing
use Rattle.rh_defs.specs.declared.transfer.Taking.{Taking}
use Rattle.rh_defs.specs.Inner.Computing.{computing_script}
use Rattle.rh_defs.specs.Records.{is_going}
use Rattle.rh_safety.proofs.Basics.{any_none}
use Rattle.rh_laws.specs.RecordLives.{Becomes, ByOwn, Comes, InsLive, OutsLive, TurnsIn, TurnsOut, begins_in, begins_out, turns_ins, turns_outs}

abbrev sending_of : Option Task → List Outgoing
sending_of None = []
sending_of (Some t) = t.sending

abbrev taking_of : Option Task → List Incoming
taking_of None = []
taking_of (Some t) = t.taking

-- the records of the first task that go out, on a desk and after one more command
abbrev before : Desk → List Outgoing
before d = sending_of (task_at 1 d)

abbrev following : Desk → Command → List Outgoing
following d c = before (step d c).0

-- ---- a turn

-- six bytes by a buffer of four: b has fetched
abbrev at_fetch : Desk
at_fetch = after fresh (script ("task a 4" ∷ "task b 4" ∷ "alloc a 0 6" ∷ "save a 0 b doc" ∷ "poll b" ∷ []))

abbrev poll_a : Command
poll_a = command.Poll (codes "a")

-- by the poll that sends four bytes a's record goes on, and counts them
sent_four : OutsLive poll_a at_fetch 1 (before at_fetch) (following at_fetch poll_a)
unfolding computing_script hex_on_literals
sent_four =
    let v : Outgoing = outgoing.Open (record { id = 1; recipient = 2; anchor = 0; count = 0; last = 1 }) in
    let w : Outgoing = outgoing.Open (record { id = 1; recipient = 2; anchor = 0; count = 4; last = 3 }) in
    record {
      each = (Becomes.turned w (contains_of (w ∷ []) w (inl refl)) refl (omega arith, refl) (refl, refl), tt);
      from = (Comes.anew v (contains_of (v ∷ []) v (inl refl)) refl (omega arith, refl) (refl, refl), tt);
      others = λ x y is there. inr (inr (only v x (has_of (v ∷ []) x is) ∙ sym (only v y (has_of (v ∷ []) y there))));
    }
  where
    only : (v x : Outgoing) → Has x (v ∷ []) → x ≡ v
    only v x (inl same) = sym same
    only v x (inr never) = absurd never

-- ---- a save on a full list

-- a's first transfer is open, and seven more were given up
abbrev again : List String
again = "save a 1 b doc" ∷ "cancel a out 2" ∷ "save a 1 b doc" ∷ "cancel a out 3" ∷ "save a 1 b doc" ∷ "cancel a out 4"
    ∷ "save a 1 b doc" ∷ "cancel a out 5" ∷ "save a 1 b doc" ∷ "cancel a out 6" ∷ "save a 1 b doc" ∷ "cancel a out 7"
    ∷ "save a 1 b doc" ∷ "cancel a out 8" ∷ []

abbrev full : Desk
full = after fresh (script ("task a 4" ∷ "task b 4 deaf" ∷ "alloc a 0 6" ∷ "alloc a 1 6" ∷ "save a 0 b doc" ∷ again))

abbrev save_a : Command
save_a = command.Save (codes "a") 1 (codes "b") (codes "doc")

-- whether each record is open, with its id
abbrev shown : List Outgoing → List (Bool × ℕ)
shown records = map (λ v. (is_open v, out_id v)) records

eight_records : shown (before full)
    ≡ (true, 1) ∷ (false, 2) ∷ (false, 3) ∷ (false, 4) ∷ (false, 5) ∷ (false, 6) ∷ (false, 7) ∷ (false, 8) ∷ []
unfolding computing_script hex_on_literals
eight_records = refl

-- the oldest that ended is gone, and the open one stays
second_dropped : shown (following full save_a)
    ≡ (true, 1) ∷ (false, 3) ∷ (false, 4) ∷ (false, 5) ∷ (false, 6) ∷ (false, 7) ∷ (false, 8) ∷ (true, 9) ∷ []
unfolding computing_script hex_on_literals
second_dropped = refl

-- ---- an open record that is gone

same-number : (n : ℕ) → (n == n) ≡ true
same-number n = elim (eqb_tells n n) [ inl w ↦ w.0 | inr w ↦ absurd (w.1 refl) ]

-- no list that lacks the id of a record that hasn't ended follows one that has it
gone : {A : Type 0} {id_of : A → ℕ} {lasts : A → Bool} {Turns : A → A → Type 0} {Turn Begin : Type 0} (xs ys : List A) (v : A) → lasts v ≡ true →
    list_any (λ w. id_of w == id_of v) ys ≡ false → Becomes id_of lasts Turns Turn Begin xs ys v → ⊥
gone {id_of = id_of} xs ys v open_ none (Becomes.kept is) =
    let z : true ≡ false = sym (same-number (id_of v)) ∙ any_none (λ w. id_of w == id_of v) ys v none (has_of ys v is) in cc
gone {id_of = id_of} xs ys v open_ none (Becomes.turned w is same turns may) =
    let z : true ≡ false = sym (ap (λ n. n == id_of v) same ∙ same-number (id_of v)) ∙ any_none (λ w. id_of w == id_of v) ys w none (has_of ys w is) in cc
gone xs ys v open_ none (Becomes.dropped w ended oldest many is new may) = let z : true ≡ false = sym open_ ∙ ended in cc

-- the law fails of any command after which the first record, which is open, is gone
wrong_loss : (c : Command) (d : Desk) (v : Outgoing) (rest ys : List Outgoing) → before d ≡ v ∷ rest → is_open v ≡ true →
    list_any (λ w. out_id w == out_id v) ys ≡ false → OutsLive c d 1 (before d) ys → ⊥
wrong_loss c d v rest ys same open_ none law =
    let P : Outgoing → Type 0 = Becomes out_id is_open TurnsOut (ByOwn turns_outs c d 1) (ByOwn begins_out c d 1) (before d) ys in
    let all : AllByRecursion P (v ∷ rest) = subst (AllByRecursion P) same law.each in
    gone (before d) ys v open_ none all.0

abbrev first_record : Outgoing
first_record = outgoing.Open (record { id = 1; recipient = 2; anchor = 0; count = 0; last = 1 })

-- a save that drops the first record of a full list, open or not
abbrev lossy_save : List Outgoing
lossy_save = drop 1 (before full) ++ outgoing.Open (record { id = 9; recipient = 2; anchor = 1; count = 0; last = 9 }) ∷ []

first_is_open : before full ≡ first_record ∷ drop 1 (before full)
unfolding computing_script hex_on_literals
first_is_open = refl

none_left : list_any (λ w. out_id w == 1) lossy_save ≡ false
unfolding computing_script hex_on_literals
none_left = refl

wrong_save : OutsLive save_a full 1 (before full) lossy_save → ⊥
wrong_save = wrong_loss save_a full first_record (drop 1 (before full)) lossy_save first_is_open refl none_left

-- a repeat that drops the record of the transfer whose message it sends once more
abbrev at_open : Desk
at_open = after fresh (script ("task a 4" ∷ "task b 4 deaf" ∷ "alloc a 0 6" ∷ "save a 0 b doc" ∷ []))

abbrev repeat_a : Command
repeat_a = command.Repeat (codes "a")

open_alone : before at_open ≡ first_record ∷ []
unfolding computing_script hex_on_literals
open_alone = refl

wrong_repeat : OutsLive repeat_a at_open 1 (before at_open) [] → ⊥
wrong_repeat = wrong_loss repeat_a at_open first_record [] [] open_alone refl refl

-- ---- a poll that says Done of a transfer that drains

abbrev at_drain : Desk
at_drain = after fresh (script ("task a 4" ∷ "task b 4" ∷ "alloc a 0 6" ∷ "save a 0 b doc" ∷ "poll b" ∷ "cancel b in 1" ∷ []))

abbrev poll_b : Command
poll_b = command.Poll (codes "b")

abbrev takings : Desk → List Incoming
takings d = taking_of (task_at 2 d)

abbrev draining : Taking
draining = record { id = 1; sender = 1; anchor = 0; buffer = 0x8114; count = 0; fetch = 2; raw = false }

drains : takings at_drain ≡ incoming.Draining draining ∷ []
unfolding computing_script hex_on_literals
drains = refl

-- it neither stays nor turns so, and hasn't ended before
not-done : {Turn Begin : Type 0} (f : Taking) (id k n : ℕ) (xs : List Incoming) →
    Becomes in_id is_going TurnsIn Turn Begin xs (incoming.Done id k n ∷ []) (incoming.Draining f) → ⊥
not-done f id k n xs (Becomes.kept is) =
    elim (has_of (incoming.Done id k n ∷ []) (incoming.Draining f) is) [ inl same ↦ cc | inr never ↦ never ]
not-done f id k n xs (Becomes.turned w is same turns may) =
    elim (has_of (incoming.Done id k n ∷ []) w is) [
      | inl at ↦ subst (TurnsIn (incoming.Draining f)) (sym at) turns
      | inr never ↦ never
    ]
not-done f id k n xs (Becomes.dropped w ended oldest many is new may) = let z : true ≡ false = ended in cc

wrong_poll : (n : ℕ) → InsLive poll_b at_drain 2 (takings at_drain) (incoming.Done 1 0 n ∷ []) → ⊥
wrong_poll n law =
    let ys : List Incoming = incoming.Done 1 0 n ∷ [] in
    let P : Incoming → Type 0 = Becomes in_id is_going TurnsIn (ByOwn turns_ins poll_b at_drain 2) (ByOwn begins_in poll_b at_drain 2) (takings at_drain) ys in
    let all : AllByRecursion P (incoming.Draining draining ∷ []) = subst (AllByRecursion P) drains law.each in
    not-done draining 1 0 n (takings at_drain) all.0
