-- A transfer by way of the scrap file, message by message, as it is seen of the desk.
use Rattle.rh_laws.proofs.Common.{◌≡◌, ◌≢◌, ℕ, ◌<◌, Bool, true, false, List, [], ◌∷◌, ◌++◌, length, ◌&&◌, Option, Some, None, refl, ap, ◌∙◌, inl, inr, arith}
use Rattle.rh_laws.proofs.Common.{if◌then◌else◌, nat_eq, eq-eqb, eqb_tells, Recorded, Message, Sending, Taking, Asked, Active, out_id, in_id, Has, with_id}
use Rattle.rh_laws.proofs.Common.{put_same, put_other}
use Rattle.rh_defs.specs.Sender as sender
use Rattle.rh_defs.specs.Receiver as receiver
use Rattle.rh_safety.proofs.Ends.{Plain, Returned, DataSaveAck, DataLoad, DataLoadAck, Out, Open, Out_done, In, Fetching, Draining, Asking, In_done}
use Rattle.rh_safety.proofs.Ends.{In_failed, Out_failed, put, find_open, find_active, find_asking, without_first}
use Rattle.rh_safety.proofs.Sight.{Desk, picked, returned, still_held, asked, filed, copied, told, with_out, bytes_of, lost}
use Rattle.rh_safety.proofs.Basics.{put_all}
use Rattle.rh_safety.proofs.Turns.{Pair, outgoing_at, incoming_at, fetch_of, let_go, without_one}

-- ---- lists whose last record is the one that is meant

last_open : (test : Sending → Bool) (os : List Out) (x : Sending) →
    ((y : Sending) → Has (Open y) os → test y ≡ false) → test x ≡ true → find_open test (os ++ Open x ∷ []) ≡ Some x
last_open test [] x others q = rw q refl
last_open test (Open y ∷ os) x others q =
    rw (others y (inl refl)) (last_open test os x (λ z h. others z (inr h)) q)
last_open test (Out_done i n ∷ os) x others q = last_open test os x (λ z h. others z (inr h)) q
last_open test (Out_failed i n ∷ os) x others q = last_open test os x (λ z h. others z (inr h)) q

older_active : (test : Taking → Bool) (w : In) (ws : List In) → ((y : Taking) → Active (w ∷ ws) y → test y ≡ false) →
    (y : Taking) → Active ws y → test y ≡ false
older_active test w ws others y (inl h) = others y (inl (inr h))
older_active test w ws others y (inr h) = others y (inr (inr h))

last_active : (test : Taking → Bool) (ws : List In) (t : Taking) → ((y : Taking) → Active ws y → test y ≡ false) →
    test t ≡ true → find_active test (ws ++ Fetching t ∷ []) ≡ Some (Fetching t)
last_active test [] t others q = rw q refl
last_active test (Fetching y ∷ ws) t others q =
    rw (others y (inl (inl refl))) (last_active test ws t (older_active test _ ws others) q)
last_active test (Draining y ∷ ws) t others q =
    rw (others y (inr (inl refl))) (last_active test ws t (older_active test _ ws others) q)
last_active test (Asking y ∷ ws) t others q = last_active test ws t (older_active test _ ws others) q
last_active test (In_done i a n ∷ ws) t others q = last_active test ws t (older_active test _ ws others) q
last_active test (In_failed i a n ∷ ws) t others q = last_active test ws t (older_active test _ ws others) q

last_asking : (test : Asked → Bool) (ws : List In) (x : Asked) →
    ((y : Asked) → Has (Asking y) ws → test y ≡ false) → test x ≡ true → find_asking test (ws ++ Asking x ∷ []) ≡ Some x
last_asking test [] x others q = rw q refl
last_asking test (Asking y ∷ ws) x others q =
    rw (others y (inl refl)) (last_asking test ws x (λ z h. others z (inr h)) q)
last_asking test (Fetching y ∷ ws) x others q = last_asking test ws x (λ z h. others z (inr h)) q
last_asking test (Draining y ∷ ws) x others q = last_asking test ws x (λ z h. others z (inr h)) q
last_asking test (In_done i a n ∷ ws) x others q = last_asking test ws x (λ z h. others z (inr h)) q
last_asking test (In_failed i a n ∷ ws) x others q = last_asking test ws x (λ z h. others z (inr h)) q

last_with : {A : Type 0} (f : A → ℕ) (i : ℕ) (u v : A) (xs : List A) → ((w : A) → Has w xs → f w < i) → f u ≡ i →
    with_id f i v (xs ++ u ∷ []) ≡ xs ++ v ∷ []
last_with f i u v [] less e = let t : nat_eq (f u) i ≡ true = eq-eqb _ _ e in rw t refl
last_with f i u v (x ∷ xs) less e = elim (eqb_tells (f x) i) [
  | inl w ↦ absurd (let z = less x (inl refl) in let y = w.1 in omega arith)
  | inr w ↦ rw w.0 (ap (λ (z : List _). x ∷ z) (last_with f i u v xs (λ w h. less w (inr h)) e))
]

-- ---- tests

same_eq : (a : ℕ) → nat_eq a a ≡ true
same_eq a = eq-eqb a a refl

not_eq : (a b : ℕ) → a ≢ b → nat_eq a b ≡ false
not_eq a b ne = elim (eqb_tells a b) [ inl w ↦ absurd (ne w.1) | inr w ↦ w.0 ]

false_right : (a b : Bool) → b ≡ false → (a && b) ≡ false
false_right true b e = e
false_right false b e = refl

false_left : (a b : Bool) → a ≡ false → (a && b) ≡ false
false_left true b e = absurd (let z : Bool.true ≡ false = e in (cc))
false_left false b e = refl

-- ---- the post

-- a send of a task that holds nothing
still_none : (held : ℕ → Option Message) (h n : ℕ) → ((k : ℕ) → held k ≡ None) → (k : ℕ) →
    put held h (still_held (held h) n) k ≡ None
still_none held h n none k = put_all (λ j (v : Option Message). v ≡ None) held h (still_held (held h) n)
    (ap (λ (v : Option Message). still_held v n) (none h)) (λ j ne. none j) k

-- ---- the stages

-- the two are different tasks, and all that their other records name is older than the transfer
pub record Older (p : Pair) : Type 0 where
  pub apart : p.sender ≢ p.receiver
  pub outs : (v : Out) → Has v p.outs → out_id v < p.id
  pub lasts : (x : Sending) → Has (Open x) p.outs → x.last < p.id
  pub ins : (w : In) → Has w p.ins → in_id w < p.id
  pub fetches : (t : Taking) → Active p.ins t → t.fetch < p.id
  pub acks : (q : Asked) → Has (Asking q) p.ins → q.ack < p.id

-- the messages of the transfer
abbrev pub back_of : Pair → ℕ → Message
back_of p fetch = record { code = Returned; to = p.receiver; letter = (fetch_of p fetch p.id).letter }

abbrev pub ack_of : Pair → ℕ → Message
ack_of p me = record {
  code = Recorded;
  to = p.sender;
  letter = record { from = p.receiver; me = me; answers = p.id; kind = DataSaveAck; address = 0; amount = 0 };
}

abbrev pub load_of : Pair → ℕ → ℕ → Message
load_of p me ack = record {
  code = Recorded;
  to = p.receiver;
  letter = record {
    from = p.sender;
    me = me;
    answers = ack;
    kind = DataLoad;
    address = 0;
    amount = length p.source;
  };
}

abbrev pub told_of : Pair → ℕ → ℕ → Message
told_of p me load = record {
  code = Plain;
  to = p.sender;
  letter = record {
    from = p.receiver;
    me = me;
    answers = load;
    kind = DataLoadAck;
    address = 0;
    amount = length p.source;
  };
}

-- the receiver's record that waits for a file
abbrev pub asked_at : Pair → ℕ → Asked
asked_at p ack = record { id = p.id; sender = p.sender; anchor = p.document; ack = ack }

-- the post has these messages, nobody but the sender holds one, and the transfer's records and document are these
pub record Stage (p : Pair) (d : Desk) (q : List Message) (v : Out) (w : In) (bytes : List ℕ) : Type 0 where
  pub queue : d.queue ≡ q
  pub others : (h : ℕ) → h ≢ p.sender → d.held h ≡ None
  pub sends : d.sending p.sender ≡ p.outs ++ v ∷ []
  pub takes : d.taking p.receiver ≡ p.ins ++ w ∷ []
  pub source : d.block p.sender p.anchor ≡ Some p.source
  pub document : d.block p.receiver p.document ≡ Some bytes
  pub file : d.file p.sender ≡ true
  pub live : d.live p.receiver ≡ true
  pub next : p.id < d.next_ref

-- the sender holds nothing
abbrev pub IsFree : Pair → Desk → Type 0
IsFree p d = d.held p.sender ≡ None

none_of : {p : Pair} {d : Desk} {queue : List Message} {v : Out} {w : In} {document : List ℕ} →
    Stage p d queue v w document → IsFree p d → (h : ℕ) → d.held h ≡ None
none_of {p} {d} s free h = elim (eqb_tells h p.sender) [
  | inl e ↦ ap d.held e.1 ∙ free
  | inr e ↦ s.others h e.1
]

-- a stage says nothing of the scrap file
pub lost_stage : (p : Pair) {d : Desk} {q : List Message} {v : Out} {w : In} {bytes : List ℕ} → Stage p d q v w bytes →
    Stage p (lost d) q v w bytes
lost_stage p s = record {
  queue = s.queue;
  others = s.others;
  sends = s.sends;
  takes = s.takes;
  source = s.source;
  document = s.document;
  file = s.file;
  live = s.live;
  next = s.next;
}

module _ (p : Pair) (old : Older p) (d : Desk) where
  abbrev opened : Out
  opened = Open (outgoing_at p 0 p.id)

  -- ---- the fetch that nobody answers

  module _ (f : ℕ) (s : Stage p d (fetch_of p f p.id ∷ []) opened (Fetching (incoming_at p 0 f)) []) where
    -- the sender takes it, and does nothing
    pub ignored_fetch : Stage p (picked d p.sender (fetch_of p f p.id) Recorded) [] opened
        (Fetching (incoming_at p 0 f)) []
    ignored_fetch = record {
      queue = ap (without_first p.sender) s.queue ∙ without_one p.sender (fetch_of p f p.id) refl;
      others = λ h ne. put_other d.held p.sender (Some (fetch_of p f p.id)) h ne ∙ s.others h ne;
      sends = s.sends;
      takes = s.takes;
      source = s.source;
      document = s.document;
      file = s.file;
      live = s.live;
      next = s.next;
    }

    pub holds_fetch : (picked d p.sender (fetch_of p f p.id) Recorded).held p.sender ≡ Some (fetch_of p f p.id)
    holds_fetch = put_same d.held p.sender (Some (fetch_of p f p.id))

  module _ (f : ℕ) (s : Stage p d [] opened (Fetching (incoming_at p 0 f)) []) where
    -- it goes back
    pub fetch_back : Stage p (returned d p.sender (Some (fetch_of p f p.id))) (back_of p f ∷ []) opened
        (Fetching (incoming_at p 0 f)) []
    fetch_back = record {
      queue = ap (λ (b : Bool). d.queue ++ (if b then back_of p f ∷ [] else [])) s.live ∙
          ap (λ (q : List Message). q ++ back_of p f ∷ []) s.queue;
      others = λ h ne. put_other d.held p.sender None h ne ∙ s.others h ne;
      sends = s.sends;
      takes = s.takes;
      source = s.source;
      document = s.document;
      file = s.file;
      live = s.live;
      next = s.next;
    }

    pub fetch_back_free : IsFree p (returned d p.sender (Some (fetch_of p f p.id)))
    fetch_back_free = put_same d.held p.sender None

  -- ---- the receiver asks for a file

  module _ (f : ℕ) (after : p.id < f) (s : Stage p d (back_of p f ∷ []) opened (Fetching (incoming_at p 0 f)) []) (free : IsFree p d) where
    abbrev at_back : Desk
    at_back = picked d p.receiver (back_of p f) Returned

    pub finds_fetch : find_active (λ t. nat_eq t.fetch f) (at_back.taking p.receiver) ≡
        Some (Fetching (incoming_at p 0 f))
    finds_fetch = ap (find_active (λ t. nat_eq t.fetch f)) s.takes ∙ last_active (λ t. nat_eq t.fetch f) p.ins
        (incoming_at p 0 f) (λ y h. not_eq y.fetch f (λ e. let z = old.fetches y h in omega arith)) (same_eq f)

    pub asked_stage : Stage p (asked at_back p.receiver (incoming_at p 0 f)) (ack_of p d.next_ref ∷ []) opened
        (Asking (asked_at p d.next_ref)) []
    asked_stage =
        let w : In = Asking (asked_at p d.next_ref) in
        record {
          queue = ap (λ (q : List Message). q ++ ack_of p d.next_ref ∷ []) (ap (without_first p.receiver) s.queue ∙
              without_one p.receiver (back_of p f) refl);
          others = λ h ne. still_none d.held p.receiver p.id (none_of s free) h;
          sends = s.sends;
          takes = put_same d.taking p.receiver (with_id in_id p.id w (d.taking p.receiver)) ∙ ap (with_id in_id p.id w)
              s.takes ∙ last_with in_id p.id (Fetching (incoming_at p 0 f)) w p.ins old.ins refl;
          source = s.source;
          document = s.document;
          file = s.file;
          live = s.live;
          next = let z = s.next in omega arith;
        }

    pub asked_free : IsFree p (asked at_back p.receiver (incoming_at p 0 f))
    asked_free = still_none d.held p.receiver p.id (none_of s free) p.sender

  -- ---- the sender makes one

  module _ (a : ℕ) (after : p.id < a) (s : Stage p d (ack_of p a ∷ []) opened (Asking (asked_at p a)) []) (free : IsFree p d) where
    abbrev at_ack : Desk
    at_ack = picked d p.sender (ack_of p a) Recorded

    pub finds_asked : find_open (sender.asks_for p.receiver p.id) (at_ack.sending p.sender) ≡
        Some (outgoing_at p 0 p.id)
    finds_asked =
        let t1 = same_eq p.receiver in
        let t2 = same_eq p.id in
        ap (find_open (sender.asks_for p.receiver p.id)) s.sends ∙ last_open (sender.asks_for p.receiver p.id) p.outs
        (outgoing_at p 0 p.id) (λ y h. false_left _ (nat_eq y.id y.last) (false_right (nat_eq p.receiver y.recipient) _
        (not_eq p.id y.id (λ e. let z = old.outs (Open y) h in omega arith)))) (rw (t1, t2) refl)

    pub filed_stage : Stage p (filed at_ack p.sender (ack_of p a).letter (outgoing_at p 0 p.id) p.source)
        (load_of p d.next_ref a ∷ []) (Open (outgoing_at p 0 d.next_ref)) (Asking (asked_at p a)) []
    filed_stage =
        let v : Out = Open (outgoing_at p 0 d.next_ref) in
        record {
          queue = ap (λ (q : List Message). q ++ load_of p d.next_ref a ∷ []) (ap (without_first p.sender) s.queue ∙
              without_one p.sender (ack_of p a) refl);
          others = λ h ne. let_go d.held p.sender (ack_of p a) (none_of s free) h;
          sends = put_same d.sending p.sender (with_id out_id p.id v (d.sending p.sender)) ∙ ap (with_id out_id p.id v)
              s.sends ∙ last_with out_id p.id opened v p.outs old.outs refl;
          takes = s.takes;
          source = s.source;
          document = s.document;
          file = s.file;
          live = s.live;
          next = let z = s.next in omega arith;
        }

    pub filed_free : IsFree p (filed at_ack p.sender (ack_of p a).letter (outgoing_at p 0 p.id) p.source)
    filed_free = let_go d.held p.sender (ack_of p a) (none_of s free) p.sender

  -- ---- the receiver loads it

  module _ (a n : ℕ) (after : p.id < a) (s : Stage p d (load_of p n a ∷ []) (Open (outgoing_at p 0 n))
      (Asking (asked_at p a)) []) (free : IsFree p d) where
    abbrev at_load : Desk
    at_load = picked d p.receiver (load_of p n a) Recorded

    pub finds_load : find_asking (receiver.is_load p.sender a) (at_load.taking p.receiver) ≡ Some (asked_at p a)
    finds_load =
        let t1 = same_eq p.sender in
        let t2 = same_eq a in
        ap (find_asking (receiver.is_load p.sender a)) s.takes ∙ last_asking (receiver.is_load p.sender a) p.ins
        (asked_at p a) (λ y h. false_right (nat_eq p.sender y.sender) _
        (not_eq a y.ack (λ e. let z = old.acks y h in omega arith))) (rw (t1, t2) refl)

    pub told_stage : Stage p (told (copied at_load p.receiver (asked_at p a) p.source) p.receiver (load_of p n a).letter
        (asked_at p a) (length p.source)) (told_of p d.next_ref n ∷ []) (Open (outgoing_at p 0 n))
        (In_done p.id p.document (length p.source)) p.source
    told_stage =
        let w : In = In_done p.id p.document (length p.source) in
        let new : List ℕ = bytes_of (d.block p.receiver p.document) ++ p.source in
        let bl = put (d.block p.receiver) p.document (Some new) in
        record {
          queue = ap (λ (q : List Message). q ++ told_of p d.next_ref n ∷ []) (ap (without_first p.receiver) s.queue ∙
              without_one p.receiver (load_of p n a) refl);
          others = λ h ne. let_go d.held p.receiver (load_of p n a) (none_of s free) h;
          sends = s.sends;
          takes = put_same d.taking p.receiver (with_id in_id p.id w (d.taking p.receiver)) ∙ ap (with_id in_id p.id w)
              s.takes ∙ last_with in_id p.id (Asking (asked_at p a)) w p.ins old.ins refl;
          source = ap (λ (g : ℕ → Option (List ℕ)). g p.anchor) (put_other d.block p.receiver bl p.sender old.apart) ∙
              s.source;
          document = ap (λ (g : ℕ → Option (List ℕ)). g p.document) (put_same d.block p.receiver bl) ∙
              put_same (d.block p.receiver) p.document (Some new) ∙
              ap (λ (o : Option (List ℕ)). Option.Some (bytes_of o ++ p.source)) s.document;
          file = s.file;
          live = s.live;
          next = let z = s.next in omega arith;
        }

    pub told_free : IsFree p (told (copied at_load p.receiver (asked_at p a) p.source) p.receiver (load_of p n a).letter
        (asked_at p a) (length p.source))
    told_free = let_go d.held p.receiver (load_of p n a) (none_of s free) p.sender

  -- ---- the sender is told

  module _ (n me : ℕ) (after : p.id < n) (s : Stage p d (told_of p me n ∷ []) (Open (outgoing_at p 0 n))
      (In_done p.id p.document (length p.source)) p.source) where
    abbrev at_told : Desk
    at_told = picked d p.sender (told_of p me n) Plain

    pub finds_told : find_open (sender.is_loaded p.receiver n) (at_told.sending p.sender) ≡ Some (outgoing_at p 0 n)
    finds_told =
        let t1 = same_eq p.receiver in
        let t2 = same_eq n in
        ap (find_open (sender.is_loaded p.receiver n)) s.sends ∙ last_open (sender.is_loaded p.receiver n) p.outs
        (outgoing_at p 0 n) (λ y h. false_right (nat_eq p.receiver y.recipient) _
        (not_eq n y.last (λ e. let z = old.lasts y h in omega arith))) (rw (t1, t2) refl)

    pub done_stage : Stage p (with_out at_told p.sender (outgoing_at p 0 n) (Out_done p.id (length p.source))) []
        (Out_done p.id (length p.source)) (In_done p.id p.document (length p.source)) p.source
    done_stage =
        let v : Out = Out_done p.id (length p.source) in
        record {
          queue = ap (without_first p.sender) s.queue ∙ without_one p.sender (told_of p me n) refl;
          others = s.others;
          sends = put_same d.sending p.sender (with_id out_id p.id v (d.sending p.sender)) ∙ ap (with_id out_id p.id v)
              s.sends ∙ last_with out_id p.id (Open (outgoing_at p 0 n)) v p.outs old.outs refl;
          takes = s.takes;
          source = s.source;
          document = s.document;
          file = s.file;
          live = s.live;
          next = s.next;
        }
