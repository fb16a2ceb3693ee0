-- Two tasks polled in turn: what each message makes of what is seen of the desk.
use Rattle.rh_safety.proofs.Common.{◌≡◌, ◌≢◌, ℕ, suc, ◌+◌, ◌-◌, ◌≤◌, ◌<◌, Bool, true, false, List, [], ◌∷◌, ◌++◌, length, take, drop, Option, Some, None}
use Rattle.rh_safety.proofs.Common.{refl, sym, ap, ◌∙◌, subst, inl, inr, arith, length-drop, if◌then◌else◌, nat_eq, nat_lt, nat_le, min, eq-eqb, eqb_tells}
use Rattle.rh_safety.proofs.Common.{leb_tells, Asking, Code, Plain, Recorded, DataSave, RamFetch, RamTransmit, Message, Sending, Taking, Out, Open, Out_done}
use Rattle.rh_safety.proofs.Common.{Out_failed, In, Fetching, Draining, In_done, In_failed, out_id, in_id, is_open, is_going, Has, put, any, with_id}
use Rattle.rh_safety.proofs.Common.{first_for, without_first, still_held, would_answer, put_all, put_same, put_other, length_take, none_some, either, Order}
use Rattle.rh_safety.proofs.Common.{Transmit}
use Rattle.rh_defs.specs.Sender as sender
use Rattle.rh_defs.specs.Receiver as receiver
use Rattle.rh_safety.proofs.Ends.{drop_first, find_open, find_active}
use Rattle.rh_safety.proofs.Sight.{Desk, saved, picked, ended, bytes_of, longer, fetched, answer_of}
use Rattle.rh_safety.proofs.Basics.{take_more, front_written, length_written, or_left, or_right, drop_old, Has-right}
use Rattle.rh_safety.proofs.Arrivals.{Began, take_whole}
use Rattle.rh_safety.proofs.Polls.{would_true}
use Rattle.rh_safety.proofs.SeenActs.{gone, taken_desk}

-- ---- lists whose last record is the only one that goes on

last_open : (p : Sending → Bool) (os : List Out) (x : Sending) → any is_open os ≡ false → p x ≡ true →
    find_open p (os ++ Open x ∷ []) ≡ Some x
last_open p [] x n q = rw q refl
last_open p (Open y ∷ os) x n q = absurd (let z : Bool.true ≡ false = n in (cc))
last_open p (Out_done i k ∷ os) x n q = last_open p os x n q
last_open p (Out_failed i k ∷ os) x n q = last_open p os x n q

last_active : (p : Taking → Bool) (ws : List In) (t : Taking) → any is_going ws ≡ false → p t ≡ true →
    find_active p (ws ++ Fetching t ∷ []) ≡ Some (Fetching t)
last_active p [] t n q = rw q refl
last_active p (Fetching y ∷ ws) t n q = absurd (let z : Bool.true ≡ false = n in (cc))
last_active p (Draining y ∷ ws) t n q = absurd (let z : Bool.true ≡ false = n in (cc))
last_active p (Asking y ∷ ws) t n q = absurd (let z : Bool.true ≡ false = n in (cc))
last_active p (In_done i a k ∷ ws) t n q = last_active p ws t n q
last_active p (In_failed i a k ∷ ws) t n q = last_active p ws t n q

last_with : {A : Type 0} (f : A → ℕ) (i : ℕ) (u v : A) (xs : List A) → ((w : A) → Has w xs → f w ≢ i) → f u ≡ i →
    with_id f i v (xs ++ u ∷ []) ≡ xs ++ v ∷ []
last_with f i u v [] ne e = let t : nat_eq (f u) i ≡ true = eq-eqb _ _ e in rw t refl
last_with f i u v (x ∷ xs) ne e = elim (eqb_tells (f x) i) [
  | inl w ↦ absurd (ne x (inl refl) w.1)
  | inr w ↦ rw w.0 (ap (λ (z : List _). x ∷ z) (last_with f i u v xs (λ w h. ne w (inr h)) e))
]

drop_none : {A : Type 0} (keep p : A → Bool) (xs : List A) → any p xs ≡ false → any p (drop_first keep xs) ≡ false
drop_none keep p [] n = n
drop_none keep p (x ∷ xs) n =
    either (λ z. any p z ≡ false) (keep x) (x ∷ drop_first keep xs) xs (λ b. let z = or_left (p x) _ n in
    rw z (drop_none keep p xs (or_right (p x) _ n))) (λ b. or_right (p x) _ n)

-- what stays of a list with one more record
abbrev pub rest : {A : Type 0} → ℕ → (A → Bool) → List A → List A
rest most keep xs = if nat_le most (length xs) then drop_first keep xs else xs

rest_none : {A : Type 0} (most : ℕ) (p : A → Bool) (xs : List A) → any p xs ≡ false → any p (rest most p xs) ≡ false
rest_none most p xs n = either (λ z. any p z ≡ false) (nat_le most (length xs)) (drop_first p xs) xs (λ b. drop_none p
    p xs n) (λ b. n)

pub rest_old : {A : Type 0} (most : ℕ) (p : A → Bool) (xs : List A) (w : A) → Has w (rest most p xs) → Has w xs
rest_old most p xs w h = either (λ z. Has w z → Has w xs) (nat_le most (length xs)) (drop_first p xs) xs (λ b k.
    drop_old p xs w k) (λ b k. k) h

-- a test that holds
same_eq : (a : ℕ) → nat_eq a a ≡ true
same_eq a = eq-eqb a a refl

is_le : (a b : ℕ) → a ≤ b → nat_le a b ≡ true
is_le a b h = elim (leb_tells a b) [ inl w ↦ w.0 | inr w ↦ absurd (let z = w.1 in omega arith) ]

is_lt : (a b : ℕ) → a < b → nat_lt a b ≡ true
is_lt a b h = is_le (suc a) b (omega arith)

not_lt : (a b : ℕ) → b ≤ a → nat_lt a b ≡ false
not_lt a b h = elim (leb_tells (suc a) b) [ inl w ↦ absurd (let z = w.1 in omega arith) | inr w ↦ w.0 ]

-- ---- a queue of one message

pub first_one : (h : ℕ) (m : Message) → m.to ≡ h → first_for h (m ∷ []) ≡ Some m
first_one h m to = let t : nat_eq m.to h ≡ true = eq-eqb _ _ to in rw t refl

pub without_one : (h : ℕ) (m : Message) → m.to ≡ h → without_first h (m ∷ []) ≡ []
without_one h m to = let t : nat_eq m.to h ≡ true = eq-eqb _ _ to in rw t refl

-- what is held after a send that answers the message just taken
pub let_go : (held : ℕ → Option Message) (h : ℕ) (m : Message) → ((k : ℕ) → held k ≡ None) → (k : ℕ) →
    put (put held h (Some m)) h (still_held (put held h (Some m) h) m.letter.me) k ≡ None
let_go held h m none k =
    put_all (λ j (v : Option Message). v ≡ None) (put held h (Some m)) h (still_held (put held h (Some m) h)
    m.letter.me)
    (ap (λ (v : Option Message). still_held v m.letter.me) (put_same held h (Some m)) ∙
    (let t = same_eq m.letter.me in rw t refl))
    (λ j ne. put_other held h (Some m) j ne ∙ none j) k

-- ---- two tasks and a transfer between them

-- the transfer, its places, and the other records of both tasks
pub record Pair : Type 0 where
  pub sender : ℕ
  pub receiver : ℕ
  pub id : ℕ
  pub anchor : ℕ  -- of the source
  pub source : List ℕ
  pub document : ℕ  -- the document's anchor
  pub address : ℕ  -- of the receiver's buffer
  pub room : ℕ  -- the receiver's buffer size
  pub raw : Bool  -- the flag of the receiver's record
  pub outs : List Out
  pub ins : List In

-- no other record goes on, or has its id
pub record Alone (p : Pair) : Type 0 where
  pub closed : any is_open p.outs ≡ false
  pub idle : any is_going p.ins ≡ false
  pub outs : (v : Out) → Has v p.outs → out_id v ≢ p.id
  pub ins : (w : In) → Has w p.ins → in_id w ≢ p.id
  pub apart : p.sender ≡ p.receiver → p.anchor ≢ p.document
  pub some : 0 < p.room

-- the sender's record at count k
abbrev pub outgoing_at : Pair → ℕ → ℕ → Sending
outgoing_at p k last = record { id = p.id; recipient = p.receiver; anchor = p.anchor; count = k; last = last }

-- the receiver's
abbrev pub incoming_at : Pair → ℕ → ℕ → Taking
incoming_at p k fetch = record {
  id = p.id;
  sender = p.sender;
  anchor = p.document;
  buffer = p.address;
  count = k;
  fetch = fetch;
  raw = p.raw;
}

-- its fetch, in answer to the sender's last message
abbrev pub fetch_of : Pair → ℕ → ℕ → Message
fetch_of p fetch last = record {
  code = Recorded;
  to = p.sender;
  letter = record {
    from = p.receiver;
    me = fetch;
    answers = last;
    kind = RamFetch;
    address = p.address;
    amount = p.room;
  };
}

-- the transmit of n bytes that answers the fetch
abbrev pub transmit_of : Pair → Code → ℕ → ℕ → ℕ → Message
transmit_of p c me fetch n = record {
  code = c;
  to = p.receiver;
  letter = record {
    from = p.sender;
    me = me;
    answers = fetch;
    kind = RamTransmit;
    address = p.address;
    amount = n;
  };
}

-- the fetch at count k waits for the sender
pub record Waiting (p : Pair) (d : Desk) (k : ℕ) : Type 0 where
  pub alone : Alone p
  pub fetch : ℕ
  pub last : ℕ
  pub bytes : List ℕ
  pub queue : d.queue ≡ fetch_of p fetch last ∷ []
  pub held : (h : ℕ) → d.held h ≡ None
  pub sends : d.sending p.sender ≡ p.outs ++ Open (outgoing_at p k last) ∷ []
  pub takes : d.taking p.receiver ≡ p.ins ++ Fetching (incoming_at p k fetch) ∷ []
  pub source : d.block p.sender p.anchor ≡ Some p.source
  pub document : d.block p.receiver p.document ≡ Some (take k p.source)
  pub buffer : d.heap p.receiver p.address ≡ Some bytes
  pub fits : p.room ≤ length bytes
  pub room : d.buf p.receiver ≡ p.room
  pub fetches : d.file p.sender ≡ false

-- the transmit of n bytes, after k, waits for the receiver; the sender's record is v
pub record Answered (p : Pair) (d : Desk) (k n me : ℕ) (v : Out) (c : Code) : Type 0 where
  pub alone : Alone p
  pub fetch : ℕ
  pub bytes : List ℕ
  pub queue : d.queue ≡ transmit_of p c me fetch n ∷ []
  pub held : (h : ℕ) → d.held h ≡ None
  pub sends : d.sending p.sender ≡ p.outs ++ v ∷ []
  pub takes : d.taking p.receiver ≡ p.ins ++ Fetching (incoming_at p k fetch) ∷ []
  pub source : d.block p.sender p.anchor ≡ Some p.source
  pub document : d.block p.receiver p.document ≡ Some (take k p.source)
  pub buffer : d.heap p.receiver p.address ≡ Some bytes
  pub front : take n bytes ≡ take n (drop k p.source)
  pub fits : p.room ≤ length bytes
  pub room : d.buf p.receiver ≡ p.room
  pub fetches : d.file p.sender ≡ false

-- both records are done, and the document is the source
pub record AllCame (p : Pair) (d : Desk) : Type 0 where
  pub sends : Has (Out_done p.id (length p.source)) (d.sending p.sender)
  pub takes : Has (In_done p.id p.document (length p.source)) (d.taking p.receiver)
  pub document : d.block p.receiver p.document ≡ Some p.source

-- ---- the sender's poll

module _ (p : Pair) (d : Desk) (k : ℕ) (w : Waiting p d k) (within : k ≤ length p.source) where
  abbrev pub asked : Message
  asked = fetch_of p w.fetch w.last

  abbrev pub open_record : Sending
  open_record = outgoing_at p k w.last

  abbrev at_sender : Desk
  at_sender = picked d p.sender asked Recorded

  -- how many bytes go out
  abbrev pub now : ℕ
  now = min p.room (length p.source - k)

  -- the record that answers
  pub answers_it : find_open (would_answer asked.letter) (d.sending p.sender) ≡ Some open_record
  answers_it = ap (find_open (would_answer asked.letter)) w.sends ∙ last_open (would_answer asked.letter) p.outs
      open_record w.alone.closed (would_true open_record asked.letter refl refl w.alone.some)

  -- what it answers with
  abbrev answer : Transmit
  answer = answer_of asked.letter open_record

  -- the desk after it
  abbrev pub gone_desk : Desk
  gone_desk = gone at_sender p.sender answer p.source w.bytes

  abbrev next_out : Out
  next_out = sender.after_sent answer (sender.next_part answer (length p.source)) d.next_ref

  abbrev next_code : Code
  next_code = if nat_lt now p.room then Plain else Recorded

  gone_answered : Answered p gone_desk k now d.next_ref next_out next_code
  gone_answered =
      let part : List ℕ = take now (drop k p.source) in
      let size : length part ≡ now = length_take now (drop k p.source) (simp length-drop (omega arith)) in
      let new : List ℕ = part ++ drop now w.bytes in
      let old : now ≤ length w.bytes = let z = w.fits in omega arith in
      record {
        alone = w.alone;
        fetch = w.fetch;
        bytes = new;
        queue = ap (λ (q : List Message). q ++ (transmit_of p next_code d.next_ref w.fetch now ∷ []))
            (ap (without_first p.sender) w.queue ∙ without_one p.sender asked refl);
        held = let_go d.held p.sender asked w.held;
        sends = put_same d.sending p.sender (with_id out_id p.id next_out (d.sending p.sender)) ∙
            ap (with_id out_id p.id next_out) w.sends ∙
            last_with out_id p.id (Open open_record) next_out p.outs w.alone.outs refl;
        takes = w.takes;
        source = w.source;
        document = w.document;
        buffer = ap (λ (f : ℕ → Option (List ℕ)). f p.address) (put_same d.heap p.receiver (put (d.heap p.receiver)
            p.address (Some new))) ∙ put_same (d.heap p.receiver) p.address (Some new);
        front = front_written now part w.bytes size;
        fits = let e = length_written now part w.bytes size old in let z = w.fits in omega arith;
        room = w.room;
        fetches = w.fetches;
      }

  -- the last bytes, fewer than the buffer has
  pub sent_last : length p.source < k + p.room →
      Answered p gone_desk k (length p.source - k) d.next_ref (Out_done p.id (length p.source)) Plain
  sent_last short =
      let less : nat_lt now p.room ≡ true = is_lt now p.room (omega arith) in
      let all : k + now ≡ length p.source = omega arith in
      let rest : now ≡ length p.source - k = omega arith in
      subst (λ z. Answered p gone_desk k z d.next_ref (Out_done p.id (length p.source)) Plain) rest
      (subst (λ z. Answered p gone_desk k now d.next_ref (Out_done p.id z) Plain) all
      (subst (λ (b : Bool). Answered p gone_desk k now d.next_ref (if b then Out_done p.id (k + now) else Open (record
      open_record { count = k + now; last = d.next_ref })) (if b then Plain else Recorded)) less gone_answered))

  -- a full buffer
  pub sent_full : k + p.room ≤ length p.source →
      Answered p gone_desk k p.room d.next_ref (Open (outgoing_at p (k + p.room) d.next_ref)) Recorded
  sent_full fits =
      let full : now ≡ p.room = omega arith in
      let less : nat_lt now p.room ≡ false = not_lt now p.room (omega arith) in
      subst (λ z. Answered p gone_desk k z d.next_ref (Open (outgoing_at p (k + z) d.next_ref)) Recorded) full
      (subst (λ (b : Bool). Answered p gone_desk k now d.next_ref (if b then Out_done p.id (k + now) else Open (record
      open_record { count = k + now; last = d.next_ref })) (if b then Plain else Recorded)) less gone_answered)

-- the sender's record
pub sender_record : {p : Pair} {d : Desk} {k n me : ℕ} {v : Out} {c : Code} → Answered p d k n me v c →
    Has v (d.sending p.sender)
sender_record {p} {v = v} w = subst (λ z. Has v z) (sym w.sends) (Has-right v p.outs (v ∷ []) (inl refl))

-- ---- the receiver's poll

module _ (p : Pair) (d : Desk) (k n me : ℕ) (v : Out) (c : Code) (w : Answered p d k n me v c) where
  abbrev pub sent_back : Message
  sent_back = transmit_of p c me w.fetch n

  abbrev pub taking_record : Taking
  taking_record = incoming_at p k w.fetch

  abbrev at_receiver : Desk
  at_receiver = picked d p.receiver sent_back c

  -- the record that takes it
  pub takes_it : n ≤ p.room →
      find_active (receiver.is_answer (d.buf p.receiver) p.sender w.fetch p.address n) (d.taking p.receiver) ≡
      Some (Fetching taking_record)
  takes_it small =
      let t1 = same_eq p.sender in
      let t2 = same_eq w.fetch in
      let t3 = same_eq p.address in
      let t4 : nat_le n (d.buf p.receiver) ≡ true = ap (nat_le n) w.room ∙ is_le n p.room small in
      ap (find_active (receiver.is_answer (d.buf p.receiver) p.sender w.fetch p.address n)) w.takes ∙
      last_active (receiver.is_answer (d.buf p.receiver) p.sender w.fetch p.address n) p.ins taking_record w.alone.idle
      (rw (t1, t2, t3, t4) refl)

  abbrev new_bytes : List ℕ
  new_bytes = bytes_of (d.block p.receiver p.document) ++ take n (bytes_of (d.heap p.receiver p.address))

  new_is : new_bytes ≡ take (k + n) p.source
  new_is =
      ap (λ (o : Option (List ℕ)). bytes_of o ++ take n (bytes_of (d.heap p.receiver p.address))) w.document ∙
      ap (λ (o : Option (List ℕ)). take k p.source ++ take n (bytes_of o)) w.buffer ∙
      ap (λ (x : List ℕ). take k p.source ++ x) w.front ∙ sym (take_more k n p.source)

  -- its records then
  with_last : (u : In) → put d.taking p.receiver (with_id in_id p.id u (d.taking p.receiver)) p.receiver ≡ p.ins ++ u
      ∷ []
  with_last u = put_same d.taking p.receiver (with_id in_id p.id u (d.taking p.receiver)) ∙ ap (with_id in_id p.id u)
      w.takes ∙ last_with in_id p.id (Fetching taking_record) u p.ins w.alone.ins refl

  -- the source is as it was, beside a document with other bytes
  source_is : (bl : ℕ → Option (List ℕ)) → (p.sender ≡ p.receiver → bl p.anchor ≡ d.block p.receiver p.anchor) →
      put d.block p.receiver bl p.sender p.anchor ≡ Some p.source
  source_is bl same = put_all (λ j (g : ℕ → Option (List ℕ)). j ≡ p.sender → g p.anchor ≡ Some p.source) d.block
      p.receiver bl
      (λ here. same (sym here) ∙ ap (λ j. d.block j p.anchor) here ∙ w.source)
      (λ j ne here. ap (λ i. d.block i p.anchor) here ∙ w.source) p.sender refl

  document_is : put d.block p.receiver (put (d.block p.receiver) p.document (Some new_bytes)) p.receiver p.document ≡
      Some (take (k + n) p.source)
  document_is =
      ap (λ (f : ℕ → Option (List ℕ)). f p.document) (put_same d.block p.receiver (put (d.block p.receiver) p.document
      (Some new_bytes))) ∙ put_same (d.block p.receiver) p.document (Some new_bytes) ∙
      ap (λ (x : List ℕ). Option.Some x) new_is

  -- the bytes are in the document
  abbrev pub taken_it : Desk
  taken_it = taken_desk at_receiver p.receiver taking_record sent_back.letter

  -- a full buffer: the next fetch waits
  pub took_full : c ≡ Recorded → n ≡ p.room → v ≡ Open (outgoing_at p (k + n) me) → Waiting p taken_it (k + n)
  took_full code full is_v =
      let D : Desk = picked d p.receiver (transmit_of p c me w.fetch n) Recorded in
      let t = taking_record in
      let not_less : nat_lt n (d.buf p.receiver) ≡ false = ap (nat_lt n) w.room ∙ not_lt n p.room (omega arith) in
      let F : Desk = fetched (longer D p.receiver t n) p.receiver t n me in
      let eq : taken_it ≡ F = ap (λ (x : Code). taken_desk (picked d p.receiver (transmit_of p c me w.fetch n) x)
      p.receiver t sent_back.letter) code ∙
      ap (λ (b : Bool). if b then ended (longer D p.receiver t n) p.receiver t (In_done p.id p.document (k + n)) else F)
      not_less in
      let next : ℕ → Message = λ size. record {
        code = Recorded;
        to = p.sender;
        letter = record {
          from = p.receiver;
          me = d.next_ref;
          answers = me;
          kind = RamFetch;
          address = p.address;
          amount = size;
        };
      } in
      subst (λ (z : Desk). Waiting p z (k + n)) (sym eq) (record {
        alone = w.alone;
        fetch = d.next_ref;
        last = me;
        bytes = w.bytes;
        queue = ap (λ (q : List Message). q ++ (next (d.buf p.receiver) ∷ [])) (ap (without_first p.receiver) w.queue ∙
            without_one p.receiver sent_back refl) ∙ ap (λ (x : ℕ). next x ∷ []) w.room;
        held = let_go d.held p.receiver sent_back w.held;
        sends = w.sends ∙ ap (λ (x : Out). p.outs ++ x ∷ []) is_v;
        takes = with_last _;
        source = source_is (put (d.block p.receiver) p.document (Some new_bytes)) (λ here. put_other
            (d.block p.receiver) p.document (Some new_bytes) p.anchor (w.alone.apart here));
        document = document_is;
        buffer = w.buffer;
        fits = w.fits;
        room = w.room;
        fetches = w.fetches;
      })

  -- the last bytes: all came
  pub took_rest : c ≡ Plain → n < p.room → k + n ≡ length p.source → v ≡ Out_done p.id (length p.source) →
      AllCame p taken_it
  took_rest code short all is_v =
      let D : Desk = picked d p.receiver (transmit_of p c me w.fetch n) Plain in
      let t = taking_record in
      let less : nat_lt n (d.buf p.receiver) ≡ true = ap (nat_lt n) w.room ∙ is_lt n p.room short in
      let u : In = In_done p.id p.document (k + n) in
      let E : Desk = ended (longer D p.receiver t n) p.receiver t u in
      let eq : taken_it ≡ E = ap (λ (x : Code). taken_desk (picked d p.receiver (transmit_of p c me w.fetch n) x)
      p.receiver t sent_back.letter) code ∙
      ap (λ (b : Bool). if b then E else fetched (longer D p.receiver t n) p.receiver t n me) less in
      subst (λ (z : Desk). AllCame p z) (sym eq) (record {
        sends = subst (λ (x : Out). Has x (d.sending p.sender)) is_v (sender_record w);
        takes = subst (λ z. Has (In_done p.id p.document z) (put d.taking p.receiver (with_id in_id p.id u (d.taking
            p.receiver)) p.receiver)) all
            (subst (λ z. Has u z) (sym (with_last u)) (Has-right u p.ins (u ∷ []) (inl refl)));
        document = document_is ∙ ap (λ (x : List ℕ). Option.Some x) (take_whole (k + n) p.source all);
      })

-- ---- the save and the first poll

-- what a transfer begins with: the post is empty, and no other record goes on
pub record Ready (d : Desk) (s r anchor : ℕ) (source : List ℕ) : Type 0 where
  pub queue : d.queue ≡ []
  pub held : (h : ℕ) → d.held h ≡ None
  pub closed : any is_open (d.sending s) ≡ false
  pub idle : any is_going (d.taking r) ≡ false
  pub block : d.block s anchor ≡ Some source
  pub fetches : d.file s ≡ false
  pub some : 0 < d.buf r
  pub order : Order d.queue d.sending d.taking d.next_ref

-- its message
abbrev pub offer : Desk → ℕ → ℕ → ℕ → Message
offer d s r anchor = record {
  code = Recorded;
  to = r;
  letter = record {
    from = s;
    me = d.next_ref;
    answers = 0;
    kind = DataSave;
    address = 0;
    amount = length (bytes_of (d.block s anchor));
  };
}

-- the transfer that begins, its document and its buffer
abbrev pub pair_of : Desk → ℕ → ℕ → ℕ → List ℕ → ℕ → ℕ → Bool → Pair
pair_of d s r anchor source document address raw = record {
  sender = s;
  receiver = r;
  id = d.next_ref;
  anchor = anchor;
  source = source;
  document = document;
  address = address;
  room = d.buf r;
  raw = raw;
  outs = rest d.most is_open (d.sending s);
  ins = rest d.most is_going (d.taking r);
}

module _ (d : Desk) (s r anchor : ℕ) (source : List ℕ) (w : Ready d s r anchor source) where
  abbrev d0 : Desk
  d0 = saved d s anchor r

  pub offer_queued : d0.queue ≡ offer d s r anchor ∷ []
  offer_queued = ap (λ (q : List Message). q ++ offer d s r anchor ∷ []) w.queue

  pub none_held : (h : ℕ) → d0.held h ≡ None
  none_held h = put_all (λ j (v : Option Message). v ≡ None) d.held s (still_held (d.held s) 0)
      (ap (λ (v : Option Message). still_held v 0) (w.held s)) (λ j ne. w.held j) h

  -- the offer is taken, and the first fetch waits
  pub took_first : (after : Desk) (b : Began (picked d0 r (offer d s r anchor) Recorded) r (offer d s r anchor).letter
      after) → Waiting (pair_of d s r anchor source b.anchor b.address b.raw) after 0
  took_first after b =
      let m = offer d s r anchor in
      let p = pair_of d s r anchor source b.anchor b.address b.raw in
      let bl = put (d.block r) b.anchor (Some []) in
      let hp = put (d.heap r) b.address (Some b.bytes) in
      let apart = λ (e : s ≡ r) (a : anchor ≡ b.anchor). none_some (d.block r b.anchor) b.free_anchor
      (subst (λ j. d.block r j ≡ Some source) a (subst (λ j. d.block j anchor ≡ Some source) e w.block)) in
      subst (λ (z : Desk). Waiting p z 0) (sym b.seen) (record {
        alone = record {
          closed = rest_none d.most is_open (d.sending s) w.closed;
          idle = rest_none d.most is_going (d.taking r) w.idle;
          outs = λ v h eq. let z = w.order.out_below s v (rest_old d.most is_open (d.sending s) v h) in omega arith;
          ins = λ v h eq. let z = w.order.in_below r v (rest_old d.most is_going (d.taking r) v h) in omega arith;
          apart = apart;
          some = w.some;
        };
        fetch = d.next_ref + 1;
        last = d.next_ref;
        bytes = b.bytes;
        queue = ap (λ (q : List Message). q ++ (fetch_of p (d.next_ref + 1) d.next_ref ∷ []))
            (ap (without_first r) offer_queued ∙ without_one r m refl);
        held = let_go d0.held r m none_held;
        sends = put_same d.sending s _;
        takes = put_same d.taking r _;
        source = put_all (λ j (g : ℕ → Option (List ℕ)). j ≡ s → g anchor ≡ Some source) d.block r bl
            (λ here. put_other (d.block r) b.anchor (Some []) anchor (apart (sym here)) ∙
            ap (λ j. d.block j anchor) here ∙ w.block)
            (λ j ne here. ap (λ i. d.block i anchor) here ∙ w.block) s refl;
        document = ap (λ (f : ℕ → Option (List ℕ)). f b.anchor) (put_same d.block r bl) ∙ put_same (d.block r)
            b.anchor (Some []);
        buffer = ap (λ (f : ℕ → Option (List ℕ)). f b.address) (put_same d.heap r hp) ∙ put_same (d.heap r) b.address
            (Some b.bytes);
        fits = b.size;
        room = refl;
        fetches = w.fetches;
      })
