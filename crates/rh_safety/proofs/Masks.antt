-- What is seen of the desk where each message that a task with code of its own sent is told as a DataSave: a *masked* desk.
-- The scrap file of such a task isn't seen. R says of which refs such tasks are the senders.
use Rattle.rh_safety.proofs.Common.{◌≡◌, ℕ, ◌+◌, Bool, true, false, List, [], ◌∷◌, ◌++◌, Option, Some, None, refl, ap, ◌∙◌, subst, inl, inr, if◌then◌else◌}
use Rattle.rh_safety.proofs.Common.{map, option_map, eqb_tells, Code, Plain, Recorded, Letter, Message, DataSave, Has, put, first_for, without_first, sent}
use Rattle.rh_safety.proofs.Common.{still_held, none_some, queued, kept, latest, Knows, IsLive, waits, rests, LiveFile}
use Rattle.std.proofs.lemmas.List.{map-append}
use Rattle.rh_safety.specs.RawIds.{Gave}
use Rattle.rh_safety.proofs.Ends.{Returned}
use Rattle.rh_safety.proofs.Sight.{Desk, Scrap, back, returned, picked, lost_if, for_others, back_if_recorded, bounced_for, back_held, killed, owned, started}

-- ---- messages

-- a letter as it is, or as a DataSave that answers nothing
abbrev pub masked_letter : Bool → Letter → Letter
masked_letter raw l = record {
  from = l.from;
  me = l.me;
  answers = if raw then 0 else l.answers;
  kind = if raw then DataSave else l.kind;
  address = if raw then 0 else l.address;
  amount = if raw then 0 else l.amount;
}

abbrev pub masked_message : Gave → Message → Message
masked_message R m = record { code = m.code; to = m.to; letter = masked_letter (R m.letter.me) m.letter }

-- the scrap file, where its DataLoad isn't theirs
abbrev pub masked_scrap : Gave → Option Scrap → Option Scrap
masked_scrap R None = None
masked_scrap R (Some f) = if R f.load then None else Some f

abbrev pub masked : Gave → Desk → Desk
masked R d = record d {
  last = λ h. option_map (masked_message R) (d.last h);
  queue = map (masked_message R) d.queue;
  held = λ h. option_map (masked_message R) (d.held h);
  scrap = masked_scrap R d.scrap;
}

-- a message of another task
pub mask_same : (R : Gave) (m : Message) → R m.letter.me ≡ false → masked_message R m ≡ m
mask_same R m e = rw e refl

-- ---- what is known

-- a masked letter that is known is that of one that is known
pub record Unmasked (R : Gave) (d : Desk) (l : Letter) : Type 0 where
  pub letter : Letter
  pub known : Knows d letter
  pub same : masked_letter (R letter.me) letter ≡ l

pub mask_of : (R : Gave) (q : List Message) (y : Message) → Has y (map (masked_message R) q) →
    (m : Message) × (Has m q × (masked_message R m ≡ y))
mask_of R [] y has = absurd has
mask_of R (m ∷ q) y (inl e) = (m, (inl refl, e))
mask_of R (m ∷ q) y (inr has) = let w = mask_of R q y has in (w.0, (inr w.1.0, w.1.1))

pub mask_some : (R : Gave) (o : Option Message) (y : Message) → option_map (masked_message R) o ≡ Some y →
    (m : Message) × ((o ≡ Some m) × (masked_message R m ≡ y))
mask_some R None y e = absurd (none_some None refl e)
mask_some R (Some m) y e = (m, (refl, cc))

pub unmasked : (R : Gave) (d : Desk) (l : Letter) → Knows (masked R d) l → Unmasked R d l
unmasked R d l (queued y has eq) =
    let w = mask_of R d.queue y has in
    record { letter = w.0.letter; known = queued w.0 w.1.0 refl; same = ap (λ (z : Message). z.letter) w.1.1 ∙ eq }
unmasked R d l (kept h y is eq) =
    let w = mask_some R (d.held h) y is in
    record { letter = w.0.letter; known = kept h w.0 w.1.0 refl; same = ap (λ (z : Message). z.letter) w.1.1 ∙ eq }
unmasked R d l (latest h y is eq) =
    let w = mask_some R (d.last h) y is in
    record {
      letter = (owned h w.0).letter;
      known = latest h w.0 w.1.0 refl;
      same = ap (λ (z : Message). (owned h z).letter) w.1.1 ∙ eq;
    }

mask_has : (R : Gave) (m : Message) (q : List Message) → Has m q → Has (masked_message R m) (map (masked_message R) q)
mask_has R m [] has = absurd has
mask_has R m (y ∷ q) (inl e) = inl (ap (masked_message R) e)
mask_has R m (y ∷ q) (inr has) = inr (mask_has R m q has)

-- a message that is queued or held is so where it is masked
pub mask_live : (R : Gave) (d : Desk) (ref : ℕ) → IsLive d.queue d.held ref → IsLive (masked R d).queue (masked R d).held ref
mask_live R d ref (waits m has same) = waits (masked_message R m) (mask_has R m d.queue has) same
mask_live R d ref (rests h m is same) = rests h (masked_message R m) (ap (option_map (masked_message R)) is) same

-- the scrap file that is seen
pub mask_file : (R : Gave) (o : Option Scrap) (f : Scrap) → masked_scrap R o ≡ Some f → (o ≡ Some f) × (R f.load ≡ false)
mask_file R None f e = absurd (none_some None refl e)
mask_file R (Some g) f e = go (R g.load) refl e
  where
    go : (b : Bool) → R g.load ≡ b → (if b then None else Some g) ≡ Some f → (Some g ≡ Some f) × (R f.load ≡ false)
    go true q z = absurd (none_some None refl z)
    go false q z = (z, subst (λ (y : Scrap). R y.load ≡ false) (let same : g ≡ f = cc in same) q)

pub mask_live_file : (R : Gave) (d : Desk) → LiveFile d → LiveFile (masked R d)
mask_live_file R d live f s = mask_live R d f.load (live f (mask_file R d.scrap f s).0)

-- ---- small edits of a masked desk

put_map : {A B : Type 0} (f : A → B) (g : ℕ → Option A) (h : ℕ) (v : Option A) (k : ℕ) →
    option_map f (put g h v k) ≡ put (λ j. option_map f (g j)) h (option_map f v) k
put_map f g h v k = elim (eqb_tells k h) [ inl w ↦ rw w.0 refl | inr w ↦ rw w.0 refl ]

mask_still : (R : Gave) (o : Option Message) (a : ℕ) →
    option_map (masked_message R) (still_held o a) ≡ still_held (option_map (masked_message R) o) a
mask_still R None a = refl
mask_still R (Some m) a = elim (eqb_tells m.letter.me a) [ inl w ↦ rw w.0 refl | inr w ↦ rw w.0 refl ]

-- a message sent by another task
pub mask_sent : (R : Gave) (d : Desk) (h : ℕ) (m : Message) → R m.letter.me ≡ false →
    masked R (sent d h m) ≡ sent (masked R d) h m
mask_sent R d h m e = λ i. record (masked R d) {
  queue = (map-append (masked_message R) d.queue (m ∷ []) ∙
      ap (λ (z : Message). map (masked_message R) d.queue ++ z ∷ []) (mask_same R m e)) i;
  last = λ k. (put_map (masked_message R) d.last h (Some m) k ∙
      ap (λ (z : Message). put (masked R d).last h (Some z) k) (mask_same R m e)) i;
  held = λ k. (put_map (masked_message R) d.held h (still_held (d.held h) m.letter.answers) k ∙
      ap (λ (z : Option Message). put (masked R d).held h z k) (mask_still R (d.held h) m.letter.answers)) i;
  next_ref = d.next_ref + 1;
}

mask_back : (R : Gave) (live : ℕ → Bool) (m : Message) →
    map (masked_message R) (back live m) ≡ back live (masked_message R m)
mask_back R live m = go (live m.letter.from)
  where
    go : (b : Bool) → map (masked_message R) (if b then record { code = Returned; to = m.letter.from; letter = m.letter } ∷ [] else []) ≡
        (if b then record { code = Returned; to = m.letter.from; letter = masked_letter (R m.letter.me) m.letter } ∷ [] else [])
    go true = refl
    go false = refl

pub mask_returned : (R : Gave) (d : Desk) (h : ℕ) (o : Option Message) →
    masked R (returned d h o) ≡ returned (masked R d) h (option_map (masked_message R) o)
mask_returned R d h None = refl
mask_returned R d h (Some m) = λ i. record (masked R d) {
  queue = (map-append (masked_message R) d.queue (back d.live m) ∙
      ap (λ (z : List Message). map (masked_message R) d.queue ++ z) (mask_back R d.live m)) i;
  held = λ k. put_map (masked_message R) d.held h None k i;
}

mask_without : (R : Gave) (h : ℕ) (q : List Message) →
    map (masked_message R) (without_first h q) ≡ without_first h (map (masked_message R) q)
mask_without R h [] = refl
mask_without R h (m ∷ q) = elim (eqb_tells m.to h) [
  | inl w ↦ rw w.0 refl
  | inr w ↦ rw w.0 (ap (λ (z : List Message). masked_message R m ∷ z) (mask_without R h q))
]

pub mask_first : (R : Gave) (h : ℕ) (q : List Message) →
    first_for h (map (masked_message R) q) ≡ option_map (masked_message R) (first_for h q)
mask_first R h [] = refl
mask_first R h (m ∷ q) = elim (eqb_tells m.to h) [ inl w ↦ rw w.0 refl | inr w ↦ rw w.0 (mask_first R h q) ]

pub mask_picked : (R : Gave) (d : Desk) (h : ℕ) (m : Message) (c : Code) →
    masked R (picked d h m c) ≡ picked (masked R d) h (masked_message R m) c
mask_picked R d h m Plain = λ i. record (masked R d) { queue = mask_without R h d.queue i }
mask_picked R d h m Recorded = λ i. record (masked R d) {
  queue = mask_without R h d.queue i;
  held = λ k. put_map (masked_message R) d.held h (Some m) k i;
}
mask_picked R d h m Returned = λ i. record (masked R d) { queue = mask_without R h d.queue i }

pub mask_lost : (R : Gave) (b : Bool) (d : Desk) → masked R (lost_if b d) ≡ lost_if b (masked R d)
mask_lost R true d = refl
mask_lost R false d = refl

-- ---- a death

mask_others : (R : Gave) (h : ℕ) (q : List Message) →
    map (masked_message R) (for_others h q) ≡ for_others h (map (masked_message R) q)
mask_others R h [] = refl
mask_others R h (m ∷ q) = elim (eqb_tells m.to h) [
  | inl w ↦ rw w.0 (mask_others R h q)
  | inr w ↦ rw w.0 (ap (λ (z : List Message). masked_message R m ∷ z) (mask_others R h q))
]

mask_recorded : (R : Gave) (live : ℕ → Bool) (m : Message) (c : Code) →
    map (masked_message R) (back_if_recorded live m c) ≡ back_if_recorded live (masked_message R m) c
mask_recorded R live m Plain = refl
mask_recorded R live m Recorded = mask_back R live m
mask_recorded R live m Returned = refl

mask_bounced : (R : Gave) (live : ℕ → Bool) (h : ℕ) (q : List Message) →
    map (masked_message R) (bounced_for live h q) ≡ bounced_for live h (map (masked_message R) q)
mask_bounced R live h [] = refl
mask_bounced R live h (m ∷ q) = elim (eqb_tells m.to h) [
  | inl w ↦ rw w.0 (map-append (masked_message R) (back_if_recorded live m m.code) (bounced_for live h q) ∙
      ap (λ (z : List Message). z ++ map (masked_message R) (bounced_for live h q)) (mask_recorded R live m m.code) ∙
      ap (λ (z : List Message). back_if_recorded live (masked_message R m) m.code ++ z) (mask_bounced R live h q))
  | inr w ↦ rw w.0 (mask_bounced R live h q)
]

mask_back_held : (R : Gave) (live : ℕ → Bool) (o : Option Message) →
    map (masked_message R) (back_held live o) ≡ back_held live (option_map (masked_message R) o)
mask_back_held R live None = refl
mask_back_held R live (Some m) = mask_back R live m

pub mask_killed : (R : Gave) (d : Desk) (h : ℕ) → masked R (killed d h) ≡ killed (masked R d) h
mask_killed R d h =
    let f = masked_message R in
    let others = put d.live h false in
    let here = killed (masked R d) h in
    λ i. record here {
      last = λ k. put_map f d.last h None k i;
      queue = (map-append f (for_others h d.queue) (back_held others (d.held h) ++ bounced_for others h d.queue) ∙
          ap (λ (z : List Message). z ++ map f (back_held others (d.held h) ++ bounced_for others h d.queue)) (mask_others R h d.queue) ∙
          ap (λ (z : List Message). for_others h (map f d.queue) ++ z)
          (map-append f (back_held others (d.held h)) (bounced_for others h d.queue) ∙
          ap (λ (z : List Message). z ++ map f (bounced_for others h d.queue)) (mask_back_held R others (d.held h)) ∙
          ap (λ (z : List Message). back_held others (option_map f (d.held h)) ++ z) (mask_bounced R others h d.queue))) i;
      held = λ k. put_map f d.held h None k i;
    }

-- a new task
pub mask_started : (R : Gave) (d : Desk) (buf : ℕ) (deaf file raw : Bool) →
    masked R (started d buf deaf file raw) ≡ started (masked R d) buf deaf file raw
mask_started R d buf deaf file raw = λ i. record (started (masked R d) buf deaf file raw) {
  last = λ k. put_map (masked_message R) d.last d.next_handle None k i;
}

-- ---- a message that such a task sends

-- the desk with one more message, and what is held then
abbrev pub foreign : Desk → ℕ → Message → (ℕ → Option Message) → Desk
foreign d h m hd = record d { queue = d.queue ++ m ∷ []; last = put d.last h (Some m); held = hd; next_ref = d.next_ref + 1 }

-- where its ref is one of theirs, all else is as it was
pub mask_if : (R S : Gave) (m : Message) → S m.letter.me ≡ R m.letter.me → masked_message S m ≡ masked_message R m
mask_if R S m e = ap (λ b. record { code = m.code; to = m.to; letter = masked_letter b m.letter }) e

mask_queue : (R S : Gave) (q : List Message) → ((m : Message) → Has m q → S m.letter.me ≡ R m.letter.me) →
    map (masked_message S) q ≡ map (masked_message R) q
mask_queue R S [] same = refl
mask_queue R S (m ∷ q) same =
    ap (λ (z : Message). z ∷ map (masked_message S) q) (mask_if R S m (same m (inl refl))) ∙
    ap (λ (z : List Message). masked_message R m ∷ z) (mask_queue R S q (λ y has. same y (inr has)))

mask_option : (R S : Gave) (o : Option Message) → ((m : Message) → o ≡ Some m → S m.letter.me ≡ R m.letter.me) →
    option_map (masked_message S) o ≡ option_map (masked_message R) o
mask_option R S None same = refl
mask_option R S (Some m) same = ap (λ (z : Message). Option.Some z) (mask_if R S m (same m refl))

mask_scrap : (R S : Gave) (o : Option Scrap) → ((f : Scrap) → o ≡ Some f → S f.load ≡ R f.load) → masked_scrap S o ≡ masked_scrap R o
mask_scrap R S None same = refl
mask_scrap R S (Some f) same = ap (λ b. if b then None else Some f) (same f refl)

-- two words that agree on what is known mask alike
pub mask_again : (R S : Gave) (d : Desk) → ((l : Letter) → Knows d l → S l.me ≡ R l.me) →
    ((f : Scrap) → d.scrap ≡ Some f → S f.load ≡ R f.load) → masked S d ≡ masked R d
mask_again R S d same file = λ i. record d {
  last = λ h. mask_option R S (d.last h) (λ m is. same (owned h m).letter (latest h m is refl)) i;
  queue = mask_queue R S d.queue (λ m has. same m.letter (queued m has refl)) i;
  held = λ h. mask_option R S (d.held h) (λ m is. same m.letter (kept h m is refl)) i;
  scrap = mask_scrap R S d.scrap file i;
}

-- what is known is known where it is masked
pub mask_knows : (R : Gave) (d : Desk) (l : Letter) → Knows d l → Knows (masked R d) (masked_letter (R l.me) l)
mask_knows R d l (queued m has eq) =
    queued (masked_message R m) (mask_has R m d.queue has) (ap (λ (z : Letter). masked_letter (R z.me) z) eq)
mask_knows R d l (kept h m is eq) =
    kept h (masked_message R m) (ap (option_map (masked_message R)) is) (ap (λ (z : Letter). masked_letter (R z.me) z) eq)
mask_knows R d l (latest h m is eq) =
    latest h (masked_message R m) (ap (option_map (masked_message R)) is) (ap (λ (z : Letter). masked_letter (R z.me) z) eq)

-- the desk with the message
pub mask_foreign : (R : Gave) (d : Desk) (h : ℕ) (m : Message) →
    masked R (sent d h m) ≡
    foreign (masked R d) h (masked_message R m) (λ k. option_map (masked_message R) ((sent d h m).held k))
mask_foreign R d h m = λ i. record (masked R (sent d h m)) {
  queue = map-append (masked_message R) d.queue (m ∷ []) i;
  last = λ k. put_map (masked_message R) d.last h (Some m) k i;
}

-- a message put down
pub mask_put_down : (R : Gave) (d : Desk) (h : ℕ) →
    masked R (record d { held = put d.held h None }) ≡ record (masked R d) { held = put (masked R d).held h None }
mask_put_down R d h = λ i. record (masked R d) { held = λ k. put_map (masked_message R) d.held h None k i }
