-- Deeds on one record, which is written anew or comes to its end; and which records a message can be for.
use Rattle.rh_laws.proofs.Common.{Asked, Bool, Has, List, None, Option, Sending, Some, Taking, ap, false}
use Rattle.rh_laws.proofs.Common.{if◌then◌else◌, in_id, inl, inr, none_some, out_id, refl, subst, sym, true, ℕ, ◌<◌, ◌&&◌, ◌==◌, ◌∙◌, ◌≡◌, ◌⊎◌}
use Rattle.rh_defs.specs.declared.message.Action.TheVariants as action
use Rattle.rh_safety.proofs.Ends.{Asking, Draining, Fetching, In, In_done, In_failed, Kind, Letter, Message, Open, Out, Out_done, Out_failed, put, with_id}
use Rattle.rh_safety.proofs.Invariant.{Unread}
use Rattle.rh_safety.proofs.Moves.{Move, move_with}
use Rattle.rh_safety.proofs.Sight as sight
use Rattle.rh_laws.proofs.Wants.{Asks, InWants, OutWants, Tells, Want, file, is_sent, part, ref_of, reply, want_in, want_out}
use Rattle.rh_laws.proofs.WantEdits.{For, OldId, OldIds, after}
use Rattle.rh_laws.proofs.WantDeeds.{Anew, Deed, Goes, Origin, Sends, Turns, new, was}

-- ---- who wants what

pub data InWant (v : In) (w : Want) : Type 0 where
  by_fetch : (f : Taking) → v ≡ Fetching f → w ≡ part f.fetch f.sender f.buffer → InWant v w
  by_drain : (f : Taking) → v ≡ Draining f → w ≡ part f.fetch f.sender f.buffer → InWant v w
  by_ask : (q : Asked) → v ≡ Asking q → w ≡ file q.ack q.sender → InWant v w

pub in-want : (v : In) (w : Want) → want_in v ≡ Some w → InWant v w
in-want (Fetching f) w e = by_fetch f refl (let z : Some (part f.fetch f.sender f.buffer) ≡ Some w = e in cc)
in-want (Draining f) w e = by_drain f refl (let z : Some (part f.fetch f.sender f.buffer) ≡ Some w = e in cc)
in-want (Asking q) w e = by_ask q refl (let z : Some (file q.ack q.sender) ≡ Some w = e in cc)
in-want (In_done i a n) w e = absurd (none_some None refl e)
in-want (In_failed i a n) w e = absurd (none_some None refl e)

pub out-want : (no_fetch : Bool) (v : Out) (w : Want) → want_out no_fetch v ≡ Some w → (x : Sending) × ((v ≡ Open x) × (w ≡ reply x.last x.recipient))
out-want b (Open x) w e = go (b && x.last == x.id) e
  where
    go : (c : Bool) → (if c then None else Some (reply x.last x.recipient)) ≡ Some w → (y : Sending) × ((Open x ≡ Open y) × (w ≡ reply y.last y.recipient))
    go true z = absurd (none_some None refl z)
    go false z = (x, (refl, let y : Some (reply x.last x.recipient) ≡ Some w = z in cc))
out-want b (Out_done i n) w e = absurd (none_some None refl e)
out-want b (Out_failed i n) w e = absurd (none_some None refl e)

-- ---- which kinds of message are for which wants

pub data Sort : Type 0 where
  parts : Sort
  files : Sort
  replies : Sort

abbrev pub sort_of : Want → Sort
sort_of (part ref peer buffer) = parts
sort_of (file ref peer) = files
sort_of (reply ref peer) = replies

-- whether a message of the kind, one that came back or not, can be for a record that wants such
abbrev pub fits : Bool → Kind → Sort → Bool
fits false action.RamTransmit parts = true
fits false action.DataLoad files = true
fits false action.DataLoadAck replies = true
fits false action.RamFetch replies = true
fits true action.RamFetch parts = true
fits true action.DataSaveAck files = true
fits true action.DataSave replies = true
fits true action.DataLoad replies = true
fits true action.RamTransmit replies = true
fits back kind w = false

-- a test that isn't met
pub un : {A : Type 0} → false ≡ true → A
un e = absurd (let z : Bool.false ≡ true = e in (cc))

pub tells-fits : (w : Want) (room : ℕ) (b : Bool) (sc : Option sight.Scrap) (m : Message) → Tells w room b sc m → fits false m.letter.kind (sort_of w) ≡ true
tells-fits (part ref peer buffer) room b sc m t = ap (λ k. fits false k parts) t.0
tells-fits (file ref peer) room b sc m t = ap (λ k. fits false k files) t.0
tells-fits (reply ref peer) room b sc m (inl t) = ap (λ k. fits false k replies) t
tells-fits (reply ref peer) room b sc m (inr t) = ap (λ k. fits false k replies) t.1.0

pub asks-fits : (w : Want) (room : ℕ) (b : Bool) (l : Letter) → Asks w room b l → fits true l.kind (sort_of w) ≡ true
asks-fits (part ref peer buffer) room b l t = ap (λ k. fits true k parts) t.0
asks-fits (file ref peer) room b l t = ap (λ k. fits true k files) t
asks-fits (reply ref peer) room b l t = go l.kind t
  where
    go : (k : Kind) → is_sent b k ≡ true → fits true k replies ≡ true
    go action.DataSave e = refl
    go action.RamTransmit e = refl
    go action.DataLoad e = refl
    go _ e = e

-- ---- deeds

-- the message is for none of a task's records, or for those of one id alone
abbrev pub NoneIn : sight.Desk → ℕ → Message → Type 0
NoneIn D k m = (w : Want) (j : ℕ) → InWants (D.taking k) w j → For D m k w → ⊥

abbrev pub NoneOut : sight.Desk → ℕ → Message → Type 0
NoneOut D k m = (w : Want) → OutWants (D.sending k) (D.file k) w → For D m k w → ⊥

abbrev pub OnlyIn : sight.Desk → ℕ → Message → ℕ → Type 0
OnlyIn D k m i = (w : Want) (j : ℕ) → InWants (D.taking k) w j → For D m k w → j ≡ i

abbrev pub OnlyOut : sight.Desk → ℕ → Message → ℕ → Type 0
OnlyOut D k m i = (w : Want) (u : Out) → Has u (D.sending k) → want_out (D.file k) u ≡ Some w → For D m k w → out_id u ≡ i

module _ (D : sight.Desk) (k : ℕ) (m : Message) where
  -- records that come in: one is written anew, for which alone the message may be
  abbrev pub InsOf : Option Message → (ℕ → List In) → ℕ → Type 0
  InsOf l tk i =
      (h : ℕ) (v : In) (w : Want) → Has v (tk h) → want_in v ≡ Some w → Origin D k m l h w (Has v (D.taking h)) ((in_id v ≡ i) × Goes D k m l v)

  abbrev pub OutsOf : Option Message → (ℕ → List Out) → Type 0
  OutsOf l sd = (h : ℕ) (v : Out) (w : Want) → Has v (sd h) → want_out (D.file h) v ≡ Some w →
      Origin D k m l h w (OutWants (D.sending h) (D.file h) w) (Unit {0})

  pub ins-moved : (l : Option Message) (tk : ℕ → List In) (v : In) → Move in_id D.taking tk k v →
      OnlyIn D k m (in_id v) → ((w : Want) → want_in v ≡ Some w → Anew D k l w × Goes D k m l v) → InsOf l tk (in_id v)
  ins-moved l tk v move own anew h u w has wants = elim (move h u has) [
    | inl z ↦
        let x : InWants (D.taking h) w (in_id u) = record { one = u; has = z.0; wants = wants; id = refl } in
        was z.0 (λ e f. z.1 e (own w (in_id u) (subst (λ j. InWants (D.taking j) w (in_id u)) e x) (subst (λ j. For D m j w) e f)))
    | inr z ↦
        let a = anew w (ap want_in (sym z.1) ∙ wants) in
        new a.0 z.0 (ap in_id z.1, subst (Goes D k m l) (sym z.1) a.1)
  ]

  pub outs-moved : (l : Option Message) (sd : ℕ → List Out) (v : Out) → Move out_id D.sending sd k v → OnlyOut D k m (out_id v) →
      ((w : Want) → want_out (D.file k) v ≡ Some w → Anew D k l w) → OutsOf l sd
  outs-moved l sd v move own anew h u w has wants = elim (move h u has) [
    | inl z ↦ was (record { one = u; has = z.0; wants = wants }) (λ e f. z.1 e (own w u (subst (λ j. Has u (D.sending j)) e z.0)
        (ap (λ j. want_out (D.file j) u) (sym e) ∙ wants) (subst (λ j. For D m j w) e f)))
    | inr z ↦
        let a = anew w (ap (λ y. want_out (D.file k) y) (sym z.1) ∙ ap (λ j. want_out (D.file j) u) (sym z.0) ∙ wants) in
        new a z.0 tt
  ]

  pub ins-stay : (l : Option Message) (i : ℕ) → NoneIn D k m → InsOf l D.taking i
  ins-stay l i none h u w has wants =
      let x : InWants (D.taking h) w (in_id u) = record { one = u; has = has; wants = wants; id = refl } in
      was has (λ e f. none w (in_id u) (subst (λ j. InWants (D.taking j) w (in_id u)) e x) (subst (λ j. For D m j w) e f))

  pub outs-stay : (l : Option Message) → NoneOut D k m → OutsOf l D.sending
  outs-stay l none h u w has wants =
      let x : OutWants (D.sending h) (D.file h) w = record { one = u; has = has; wants = wants } in
      was x (λ e f. none w (subst (λ j. OutWants (D.sending j) (D.file j) w) e x) (subst (λ j. For D m j w) e f))

  -- what became of the records that go out
  abbrev pub TurnsOf : Option Message → (ℕ → List Out) → Type 0
  TurnsOf l sd = (h : ℕ) (v : Out) → Has v (sd h) → Has v (D.sending h) ⊎ ((h ≡ k) × Turns D k m l v)

  pub turns-moved : (l : Option Message) (sd : ℕ → List Out) (v : Out) → Move out_id D.sending sd k v → Turns D k m l v → TurnsOf l sd
  turns-moved l sd v move turn h u has = elim (move h u has) [
    | inl z ↦ inl z.0
    | inr z ↦ inr (z.0, subst (Turns D k m l) (sym z.1) turn)
  ]

  pub ids-stay : (l : Option Message) → OldIds D D.taking l
  ids-stay l r v has = inl (r, (v, (has, refl)))

  pub ids-moved : (l : Option Message) (tk : ℕ → List In) (v : In) → Move in_id D.taking tk k v → OldId D l (in_id v) → OldIds D tk l
  ids-moved l tk v move of_v r u has = elim (move r u has) [
    | inl z ↦ inl (r, (u, (z.0, refl)))
    | inr z ↦ subst (λ y. OldId D l (in_id y)) (sym z.1) of_v
  ]

  -- no letter, and the same scrap file
  pub none-sent : (sc : Option sight.Scrap) (n : Message) → None ≡ Some n → Sends D k m sc n
  none-sent sc n e = absurd (none_some None refl e)

-- no two records of a task that come in wait by one ref; the message's ref and the records' ids were given
pub record Apart (D : sight.Desk) (k : ℕ) (m : Message) : Type 0 where
  pub apart : (h : ℕ) (w x : Want) (i j : ℕ) → InWants (D.taking h) w i → InWants (D.taking h) x j → ref_of w ≡ ref_of x → i ≡ j
  pub mine : m.letter.me < D.next_ref
  pub ids : (h : ℕ) (v : In) → Has v (D.taking h) → in_id v < D.next_ref

-- what is known of the message, and that what such a deed leaves is so
pub record Ready (Q : sight.Desk → Type 0) (D : sight.Desk) (k : ℕ) (m : Message) : Type 0 where
  pub before : Apart D k m
  pub closes : (sd : ℕ → List Out) (tk : ℕ → List In) (bl hp : ℕ → ℕ → Option (List ℕ)) (sc : Option sight.Scrap) (l : Option Message) →
      Deed D k m l sd tk sc → Q (after D k sd tk bl hp sc l)

module _ {Q : sight.Desk → Type 0} (D : sight.Desk) (k : ℕ) (m : Message) (b : Ready Q D k m) where
  pub deed : {e : sight.Desk} (l : Option Message) (sd : ℕ → List Out) (tk : ℕ → List In) (bl hp : ℕ → ℕ → Option (List ℕ)) (sc : Option sight.Scrap) →
      e ≡ after D k sd tk bl hp sc l → Deed D k m l sd tk sc → Q e
  deed l sd tk bl hp sc e x = subst Q (sym e) (b.closes sd tk bl hp sc l x)

  -- nothing was done
  pub idle : {e : sight.Desk} → e ≡ D → NoneIn D k m → NoneOut D k m → Q e
  idle e none_in none_out = deed None D.sending D.taking D.block D.heap D.scrap e (record {
    fresh = 0;
    ins = ins-stay D k m None 0 none_in;
    outs = outs-stay D k m None none_out;
    turns = λ h v has. inl has;
    ids = ids-stay D k m None;
    sends = none-sent D k m D.scrap;
    scrap = λ f s. inl s;
  })

  -- a record that goes out is written anew
  pub out-deed : {e : sight.Desk} (l : Option Message) (i : ℕ) (v : Out) (bl hp : ℕ → ℕ → Option (List ℕ)) (sc : Option sight.Scrap) → out_id v ≡ i →
      e ≡ after D k (put D.sending k (with_id out_id i v (D.sending k))) D.taking bl hp sc l → NoneIn D k m → OnlyOut D k m i →
      ((w : Want) → want_out (D.file k) v ≡ Some w → Anew D k l w) → ((n : Message) → l ≡ Some n → Sends D k m sc n) → Turns D k m l v →
      ((f : sight.Scrap) → D.scrap ≡ Some f → sc ≡ Some f) → Q e
  out-deed l i v bl hp sc id e none own anew sends turn scrap = deed l _ D.taking bl hp sc e (record {
    fresh = 0;
    ins = ins-stay D k m l 0 none;
    outs = outs-moved D k m l _ v (move_with out_id D.sending k i v id) (λ w u has wants f. own w u has wants f ∙ sym id) anew;
    turns = turns-moved D k m l _ v (move_with out_id D.sending k i v id) turn;
    ids = ids-stay D k m l;
    sends = sends;
    scrap = λ f s. inl (scrap f s);
  })

  -- a record that comes in is written anew
  pub in-deed : {e : sight.Desk} (l : Option Message) (v u : In) (bl hp : ℕ → ℕ → Option (List ℕ)) (sc : Option sight.Scrap) →
      e ≡ after D k D.sending (put D.taking k (with_id in_id (in_id v) v (D.taking k))) bl hp sc l → Has u (D.taking k) → in_id u ≡ in_id v →
      OnlyIn D k m (in_id v) → NoneOut D k m → ((w : Want) → want_in v ≡ Some w → Anew D k l w × Goes D k m l v) →
      ((n : Message) → l ≡ Some n → Sends D k m sc n) →
      ((f : sight.Scrap) → D.scrap ≡ Some f → (sc ≡ Some f) ⊎ ((f.load ≡ m.letter.me) × Unread m)) → Q e
  in-deed l v u bl hp sc e has id own none anew sends scrap =
      let move = move_with in_id D.taking k (in_id v) v refl in
      deed l D.sending _ bl hp sc e (record {
        fresh = in_id v;
        ins = ins-moved D k m l _ v move own anew;
        outs = outs-stay D k m l none;
        turns = λ h y there. inl there;
        ids = ids-moved D k m l _ v move (inl (k, (u, (has, id))));
        sends = sends;
        scrap = scrap;
      })
