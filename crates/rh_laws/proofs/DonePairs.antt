-- Both ends of a transfer, of each desk that agrees with what was offered and with what was loaded.
use Rattle.rh_laws.proofs.Common.{Acknowledge, Body, Command, Desk, Edits, EventCode, Fits, Has, Incoming, List, None, Offers, Option, Parcel, Recorded}
use Rattle.rh_laws.proofs.Common.{Sending, Some, Task, User, [], action_of, after, all_in_range, ap, false, first_is, in_id, in_range, inl, inr, is_equal, map}
use Rattle.rh_laws.proofs.Common.{refl, same_value, seen_parcel, step, subst, sym, task_of, true, view, ℕ, ◌==◌, ◌∙◌, ◌∷◌, ◌≡◌}
use Rattle.rh_defs.specs.AnyMessage.{read_body}
use Rattle.rh_defs.specs.Records.{is_going}
use Rattle.rh_defs.specs.declared.message.Action.TheVariants as action
use Rattle.rh_defs.specs.declared.message.Body.TheVariants as body
use Rattle.rh_defs.specs.declared.transfer.Incoming.TheVariants as incoming
use Rattle.rh_safety.specs.Counts.{is_done}
use Rattle.rh_safety.specs.RawIds.{Gave, gave_next}
use Rattle.rh_safety.specs.Refs.{HaveOwnRefs}
use Rattle.rh_safety.proofs.Ends.{Message, Open}
use Rattle.rh_safety.proofs.Invariant.{Unread}
use Rattle.rh_safety.proofs.Keeps.{Stands}
use Rattle.rh_safety.proofs.View.{field, of}
use Rattle.rh_laws.specs.Addressed.{Addresses, From, Parties, addresses_next}
use Rattle.rh_laws.proofs.Addresses as addressing
use Rattle.rh_laws.proofs.Addresses.{CodeAgrees, all-has}
use Rattle.rh_laws.proofs.AddressLaws as address_laws
use Rattle.rh_laws.proofs.Deliveries as deliveries
use Rattle.rh_laws.proofs.Deliveries.{Comes, Loaded, Marks, Says}
use Rattle.rh_laws.proofs.DeliveryLaws as delivery_laws
use Rattle.rh_laws.proofs.DonePolls.{Pairs}

-- the desk agrees with some run, in which R says which refs are theirs, and live refs differ from then on
pub record Agreed (A : Addresses) (R : Gave) (d : Desk) : Type 0 where
  pub addressed : addressing.Agrees A d
  pub marks : Marks
  pub loaded : deliveries.Agrees marks d
  pub raw : marks.raw ≡ R
  pub refs : (commands : List Command) → all_in_range commands ≡ true → HaveOwnRefs (after d commands)

pub step-agreed : {o : Offers} {e : Edits} {A : Addresses} {R : Gave} (d : Desk) → Fits d → Stands o e R (view d) → Agreed A R d →
    (c : Command) → in_range c ≡ true → Agreed (addresses_next A d c (step d c).1) (gave_next R d c (step d c).1) (step d c).0
step-agreed {o} {e} {A} {R} d fit stands a c in_c =
    let here : Stands o e a.marks.raw (view d) = subst (λ (S : Gave). Stands o e S (view d)) (sym a.raw) stands in
    let x = delivery_laws.step-agrees a.marks d fit a.loaded here c in record {
      addressed = address_laws.step-agrees A d a.addressed c;
      marks = x.marks;
      loaded = x.desk;
      raw = x.raw ∙ ap (λ (S : Gave). gave_next S d c (step d c).1) a.raw;
      refs = λ cs in_cs. a.refs (c ∷ cs) (rw (in_c, in_cs) refl);
    }

-- the task that has a record
task-with : {A : Type 0} (f : Task → List A) (h : ℕ) (tasks : List Task) (v : A) → Has v (field f [] tasks h) →
    (t : Task) × ((task_of h tasks ≡ Some t) × Has v (f t))
task-with {A} f h tasks v has = by (task_of h tasks) refl has
  where
    by : (o : Option Task) → task_of h tasks ≡ o → Has v (of f [] o) → (t : Task) × ((task_of h tasks ≡ Some t) × Has v (f t))
    by None e never = absurd never
    by (Some t) e there = (t, (e, there))

pub has-map : {A B : Type 0} (f : A → B) (xs : List A) (y : B) → Has y (map f xs) → (x : A) × (Has x xs × (f x ≡ y))
has-map f [] y has = absurd has
has-map f (x ∷ xs) y (inl e) = (x, (inl refl, e))
has-map f (x ∷ xs) y (inr has) = let z = has-map f xs y has in (z.0, (inr z.1.0, z.1.1))

done-ended : (w : Incoming) → is_done w ≡ true → is_going w ≡ false
done-ended (incoming.Fetching f) e = absurd cc
done-ended (incoming.Draining f) e = absurd cc
done-ended (incoming.Asking q) e = absurd cc
done-ended (incoming.Done i k n) e = refl
done-ended (incoming.Failed i k n) e = absurd cc

module _ {A : Addresses} {R : Gave} (d : Desk) (a : Agreed A R d) (lasts : (s : ℕ) (x : Sending) → Has (Open x) ((view d).sending s) → R x.last ≡ false) where
  handle-is : (h : ℕ) (t : Task) → task_of h d.tasks ≡ Some t → t.handle ≡ h
  handle-is h t at = is_equal _ _ (first_is (λ (y : Task). y.handle == h) d.tasks t at).1

  offered-to : (s : ℕ) (x : Sending) → Has (Open x) ((view d).sending s) → From (A x.id) s x.recipient
  offered-to s x has =
      let z = task-with (λ t. t.sending) s d.tasks (Open x) has in
      subst (λ j. From (A x.id) j x.recipient) (handle-is s z.0 z.1.0)
      (all-has (addressing.OutAgrees A z.0.handle) z.0.sending (Open x)
      (address_laws.found-agrees d a.addressed (λ (y : Task). y.handle == s) z.0 z.1.0).outs z.1.1)

  taken-from : (r : ℕ) (w : Incoming) → Has w ((view d).taking r) → (s : ℕ) × From (A (in_id w)) s r
  taken-from r w has =
      let z = task-with (λ t. t.taking) r d.tasks w has in
      let s = address_laws.some-sender (A (in_id w)) z.0.handle w
      (all-has (addressing.InAgrees A z.0.handle) z.0.taking w
      (address_laws.found-agrees d a.addressed (λ (y : Task). y.handle == r) z.0 z.1.0).ins z.1.1) in
      (s.0, subst (From (A (in_id w)) s.0) (handle-is r z.0 z.1.0) s.1)

  home : (s : ℕ) (x : Sending) (r : ℕ) (w : Incoming) → Has (Open x) ((view d).sending s) → Has w ((view d).taking r) → in_id w ≡ x.id → r ≡ x.recipient
  home s x r w has there same =
      ap (λ (p : Parties). p.receiver) (same_value (A x.id) (ap A (sym same) ∙ (taken-from r w there).1) (offered-to s x has))

  -- a DataLoadAck that answers a record's last message is of its transfer
  says-loaded : (x : Sending) → a.marks.of_ref x.last ≡ Some x.id → (from my your : ℕ) (b : Body) → action_of b ≡ action.DataLoadAck → your ≡ x.last →
      a.marks.raw my ≡ false → a.marks.raw your ≡ false → Says a.marks from my your b → Loaded a.marks from x.id
  says-loaded x is from my your (body.DataLoadAck file) kind same mine its says =
      let l = says mine in
      subst (Loaded a.marks from) (same_value (a.marks.of_ref x.last) (ap a.marks.of_ref (sym same) ∙ l.1 its) is) l.2
  says-loaded x is from my your (body.DataSave file) kind same mine its says = absurd cc
  says-loaded x is from my your (body.DataSaveAck file) kind same mine its says = absurd cc
  says-loaded x is from my your (body.DataLoad file) kind same mine its says = absurd cc
  says-loaded x is from my your (body.RamFetch buffer n) kind same mine its says = absurd cc
  says-loaded x is from my your (body.RamTransmit buffer n) kind same mine its says = absurd cc
  says-loaded x is from my your (body.Other o) kind same mine its says = absurd cc

  -- one of the six kinds is read as it is
  read-kind : (b : Body) → action_of b ≡ action.DataLoadAck → action_of (read_body b) ≡ action.DataLoadAck
  read-kind (body.DataLoadAck file) kind = kind
  read-kind (body.DataSave file) kind = kind
  read-kind (body.DataSaveAck file) kind = kind
  read-kind (body.DataLoad file) kind = kind
  read-kind (body.RamFetch buffer n) kind = kind
  read-kind (body.RamTransmit buffer n) kind = kind
  read-kind (body.Other o) kind = absurd cc

  told : (m : Message) → Has m (view d).queue → Unread m → m.letter.kind ≡ action.DataLoadAck → R m.letter.me ≡ false → (s : ℕ) (x : Sending) → Has (Open x)
      ((view d).sending s) →
      m.letter.answers ≡ x.last → m.letter.from ≡ x.recipient → (r : ℕ) (w : Incoming) → Has w ((view d).taking r) → in_id w ≡ x.id → is_going w ≡ false
  told m has un kind mine s x open_ answers from r w there same = by p.code refl (all-has (deliveries.ParcelAgrees a.marks) d.post.queued p a.loaded.mail z.1.0)
    where
      z : (p : Parcel) × (Has p d.post.queued × (seen_parcel p ≡ m))
      z = has-map seen_parcel d.post.queued m has

      p : Parcel
      p = z.0

      last : a.marks.of_ref x.last ≡ Some x.id
      last = let y = task-with (λ t. t.sending) s d.tasks (Open x) open_ in
          all-has (deliveries.OutAgrees a.marks) y.0.sending (Open x) (delivery_laws.own-of d a.loaded s y.0 y.1.0).outs y.1.1

      own : (ref : ℕ) → R ref ≡ false → a.marks.raw ref ≡ false
      own ref e = ap (λ (S : Gave). S ref) a.raw ∙ e

      Came : Type 0
      Came = Comes a.marks p.to p.message.from p.message.my_ref p.message.your_ref (read_body p.message.body)

      ended : Came → is_going w ≡ false
      ended c =
          let l = says-loaded x last p.message.from p.message.my_ref p.message.your_ref (read_body p.message.body)
          (read-kind p.message.body (ap (λ (q : Message). q.letter.kind) z.1.1 ∙ kind)) (ap (λ (q : Message). q.letter.answers) z.1.1 ∙ answers)
          (own p.message.my_ref (ap R (ap (λ (q : Message). q.letter.me) z.1.1) ∙ mine))
          (own p.message.your_ref (ap R (ap (λ (q : Message). q.letter.answers) z.1.1 ∙ answers) ∙ lasts s x open_)) c.says in
          let to : p.message.from ≡ r = ap (λ (q : Message). q.letter.from) z.1.1 ∙ from ∙ sym (home s x r w open_ there same) in
          let y = task-with (λ t. t.taking) r d.tasks w there in
          done-ended w (delivery_laws.loaded-done a.marks r x.id w
          (all-has (deliveries.InAgrees a.marks r) y.0.taking w (delivery_laws.own-of d a.loaded r y.0 y.1.0).ins y.1.1) same
          (subst (λ j. Loaded a.marks j x.id) to l))

      by : (c : EventCode) → p.code ≡ c → CodeAgrees c Came → is_going w ≡ false
      by User e c = ended c
      by Recorded e c = ended c
      by Acknowledge e c = absurd (un (ap (λ (q : Message). q.code) (sym z.1.1) ∙ e))

  -- a DataSave that is queued was offered to the task that it is for
  save-read : (b : Body) → action_of b ≡ action.DataSave → {s r ref : ℕ} → addressing.BodyAgrees A s r ref (read_body b) → From (A ref) s r
  save-read (body.DataSave file) kind is = is
  save-read (body.DataSaveAck file) kind is = absurd cc
  save-read (body.DataLoad file) kind is = absurd cc
  save-read (body.DataLoadAck file) kind is = absurd cc
  save-read (body.RamFetch buffer n) kind is = absurd cc
  save-read (body.RamTransmit buffer n) kind is = absurd cc
  save-read (body.Other o) kind is = absurd cc

  offers : (m : Message) → Has m (view d).queue → Unread m → m.letter.kind ≡ action.DataSave → From (A m.letter.me) m.letter.from m.to
  offers m has un kind = by p.code refl (all-has (addressing.ParcelAgrees A) d.post.queued p a.addressed.mail z.1.0)
    where
      z : (p : Parcel) × (Has p d.post.queued × (seen_parcel p ≡ m))
      z = has-map seen_parcel d.post.queued m has

      p : Parcel
      p = z.0

      said : addressing.BodyAgrees A p.message.from p.to p.message.my_ref (read_body p.message.body) → From (A m.letter.me) m.letter.from m.to
      said x = subst (λ (q : Message). From (A q.letter.me) q.letter.from q.to) z.1.1
          (save-read p.message.body (ap (λ (q : Message). q.letter.kind) z.1.1 ∙ kind) x)

      by : (c : EventCode) → p.code ≡ c → CodeAgrees c (addressing.BodyAgrees A p.message.from p.to p.message.my_ref (read_body p.message.body)) →
          From (A m.letter.me) m.letter.from m.to
      by User e x = said x
      by Recorded e x = said x
      by Acknowledge e x = absurd (un (ap (λ (q : Message). q.code) (sym z.1.1) ∙ e))

  pub pairs : Pairs A R (view d)
  pairs = record { home = home; told = told; offered = offered-to; offers = offers }
