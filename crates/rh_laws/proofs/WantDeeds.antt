-- What a message that a task handles may make of the records, the post and the scrap file.
use Rattle.rh_laws.proofs.Common.{Bool, Has, List, Option, Some, false, true, ℕ, ◌+◌, ◌<◌}
use Rattle.rh_laws.proofs.Common.{◌≡◌, ◌≤◌, ◌⊎◌}
use Rattle.rh_safety.proofs.Ends.{Asked, Asking, DataLoadAck, DataSave, Fetching, In, Letter, Message, Open, Out, Out_done, Out_failed, Plain, RamFetch}
use Rattle.rh_safety.proofs.Ends.{RamTransmit, Recorded, Returned, Sending, Taking, in_id}
use Rattle.rh_safety.proofs.Invariant.{Knows, Unread}
use Rattle.rh_safety.proofs.Sight.{Desk, Scrap, would_answer}
use Rattle.rh_laws.proofs.Wants.{Asks, OutWants, Tells, Want, peer_of, ref_of, want_in}
use Rattle.rh_laws.proofs.Wants.{want_out}
use Rattle.rh_laws.proofs.WantEdits.{For, OldIds}

-- the letter answers the message
abbrev pub Replying : Message → Option Message → Type 0
Replying m l = (n : Message) → l ≡ Some n → n.letter.answers ≡ m.letter.me

-- a new record of task k, which the letter asks for
pub record Anew (d : Desk) (k : ℕ) (l : Option Message) (w : Want) : Type 0 where
  pub n : Message
  pub is : l ≡ Some n
  pub ref : ref_of w ≡ d.next_ref
  pub asks : Asks w (d.buf k) (d.file k) n.letter
  pub to : n.to ≡ peer_of w
  pub code : n.code ≡ Recorded

-- how a record that comes in goes on: it begins, the message filled its buffer, or a file is asked for
pub data Goes (d : Desk) (k : ℕ) (m : Message) (l : Option Message) (v : In) : Type 0 where
  begins : m.letter.kind ≡ DataSave → Replying m l → in_id v ≡ m.letter.me → Unread m → Goes d k m l v
  fills : (f : Taking) → Has (Fetching f) (d.taking k) → in_id v ≡ f.id → m.letter.kind ≡ RamTransmit → Unread m → m.letter.from ≡ f.sender →
      m.letter.answers ≡ f.fetch → d.buf k ≤ m.letter.amount → Replying m l → Goes d k m l v
  asks_file : (f : Taking) (q : Asked) → v ≡ Asking q → Has (Fetching f) (d.taking k) → in_id v ≡ f.id → m.letter.kind ≡ RamFetch →
      m.code ≡ Returned → m.letter.me ≡ f.fetch → Goes d k m l v

-- the message answers the last one of an open record
pub record Meets (d : Desk) (k : ℕ) (m : Message) (i : ℕ) : Type 0 where
  pub one : Sending
  pub has : Has (Open one) (d.sending k)
  pub id : one.id ≡ i
  pub unread : Unread m
  pub answers : m.letter.answers ≡ one.last
  pub from : m.letter.from ≡ one.recipient

-- the letter has the last bytes, of n in all, of the record's source
pub record Last (d : Desk) (k : ℕ) (m : Message) (l : Option Message) (x : Sending) (n : ℕ) : Type 0 where
  pub fetch : m.letter.kind ≡ RamFetch
  pub would : would_answer m.letter x ≡ true
  pub fetches : d.file k ≡ false
  pub lives : d.live x.recipient ≡ true
  pub letter : Message
  pub is : l ≡ Some letter
  pub code : letter.code ≡ Plain
  pub kind : letter.letter.kind ≡ RamTransmit
  pub to : letter.to ≡ m.letter.from
  pub answers : letter.letter.answers ≡ m.letter.me
  pub address : letter.letter.address ≡ m.letter.address
  pub short : letter.letter.amount < m.letter.amount
  pub whole : x.count + letter.letter.amount ≡ n

-- what a record that goes out becomes: where it is open, its offer was just made or the message answers it
abbrev pub Turns : Desk → ℕ → Message → Option Message → Out → Type 0
Turns d k m l (Open x) = (x.last ≡ x.id) ⊎ Meets d k m x.id
Turns d k m l (Out_done i n) = (x : Meets d k m i) × ((m.letter.kind ≡ DataLoadAck) ⊎ Last d k m l x.one n)
Turns d k m l (Out_failed i n) = Unit {0}

-- a record that was there, which the message isn't for, or a new one
pub data Origin (d : Desk) (k : ℕ) (m : Message) (l : Option Message) (h : ℕ) (w : Want) (old now : Type 0) : Type 0 where
  was : old → (h ≡ k → For d m h w → ⊥) → Origin d k m l h w old now
  new : Anew d k l w → h ≡ k → now → Origin d k m l h w old now

-- a letter that answers the message
pub record Replies (d : Desk) (m : Message) (sc : Option Scrap) (l : Message) : Type 0 where
  pub came : Unread m
  pub answers : l.letter.answers ≡ m.letter.me
  pub unread : Unread l
  pub to : l.to ≡ m.letter.from
  pub tells : (w : Want) (room : ℕ) (no_fetch : Bool) → Asks w room no_fetch m.letter → Tells w room no_fetch sc l

-- a ref that no live message has: none, an id of a record, or one that a live task without code of its own has answered already
pub data IsSpent (d : Desk) (ref : ℕ) : Type 0 where
  none : ref ≡ 0 → IsSpent d ref
  named : (r : ℕ) (v : In) → Has v (d.taking r) → in_id v ≡ ref → IsSpent d ref
  answered : (l : Letter) → Knows d l → d.live l.from ≡ true → d.raw l.from ≡ false → l.answers ≡ ref → IsSpent d ref

-- the letter is the task's, and answers the message, or a ref that is spent
pub record Sends (d : Desk) (k : ℕ) (m : Message) (sc : Option Scrap) (l : Message) : Type 0 where
  pub from : l.letter.from ≡ k
  pub me : l.letter.me ≡ d.next_ref
  pub below : l.letter.answers < d.next_ref
  pub answers : IsSpent d l.letter.answers ⊎ Replies d m sc l

pub record Deed (d : Desk) (k : ℕ) (m : Message) (l : Option Message) (sd : ℕ → List Out) (tk : ℕ → List In) (sc : Option Scrap) : Type 0 where
  pub fresh : ℕ
  pub ins : (h : ℕ) (v : In) (w : Want) → Has v (tk h) → want_in v ≡ Some w →
      Origin d k m l h w (Has v (d.taking h)) ((in_id v ≡ fresh) × Goes d k m l v)
  pub outs : (h : ℕ) (v : Out) (w : Want) → Has v (sd h) → want_out (d.file h) v ≡ Some w → Origin d k m l h w (OutWants (d.sending h) (d.file h) w) (Unit {0})
  pub turns : (h : ℕ) (v : Out) → Has v (sd h) → Has v (d.sending h) ⊎ ((h ≡ k) × Turns d k m l v)
  pub ids : OldIds d tk l
  pub sends : (n : Message) → l ≡ Some n → Sends d k m sc n
  pub scrap : (f : Scrap) → d.scrap ≡ Some f → (sc ≡ Some f) ⊎ ((f.load ≡ m.letter.me) × Unread m)
