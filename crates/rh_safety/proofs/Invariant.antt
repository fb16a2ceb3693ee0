-- The invariant of every schedule.
use Rattle.std.proofs.Common.{◌≡◌, ◌≢◌, ℕ, ◌+◌, ◌≤◌, ◌<◌, Bool, true, false, List, length, take, drop, Option, Some, None}
use Rattle.rh_safety.proofs.Ends.{Recorded, Returned, DataSave, RamFetch, RamTransmit, DataSaveAck, DataLoad, Asked}
use Rattle.rh_safety.proofs.Ends.{Letter, Message, Sending, Taking, Out, Open, Out_done, In, Fetching, Draining}
use Rattle.rh_safety.proofs.Ends.{Asking, In_done, In_failed, is_growing, out_id, in_id, in_anchor, Has, Active, Pairwise}
use Rattle.rh_safety.proofs.Sight.{Desk, Scrap, owned}
use Rattle.rh_safety.proofs.Basics.{Ascend}

-- a letter that is queued, held, or the last that a task sent
pub data Known (q : List Message) (held last : ℕ → Option Message) (l : Letter) : Type 0 where
  queued : (m : Message) → Has m q → m.letter ≡ l → Known q held last l
  kept : (h : ℕ) (m : Message) → held h ≡ Some m → m.letter ≡ l → Known q held last l
  latest : (h : ℕ) (m : Message) → last h ≡ Some m → (owned h m).letter ≡ l → Known q held last l

abbrev pub Knows : Desk → Letter → Type 0
Knows d l = Known d.queue d.held d.last l

-- what each id offers
abbrev pub Offered : Type 0
Offered = ℕ → Option (List ℕ)

-- ---- a letter

-- its refs are used up
pub record Below (next handle : ℕ) (l : Letter) : Type 0 where
  pub me : l.me < next
  pub answers : l.answers < next
  pub from : l.from < handle

-- a DataSave offers something
pub record Offers (o : Offered) (l : Letter) : Type 0 where
  pub some : l.kind ≡ DataSave → (all : List ℕ) × (o l.me ≡ Some all)

-- a letter beside an open record of task s
pub record LetterOut (l : Letter) (s : ℕ) (x : Sending) : Type 0 where
  pub owner : l.me ≡ x.last → l.from ≡ s
  pub same_id : l.me ≡ x.last → l.kind ≡ DataSave → x.id ≡ x.last

-- a letter beside a record of task r that holds a buffer
pub record LetterIn (l : Letter) (r : ℕ) (t : Taking) : Type 0 where
  pub owner : l.me ≡ t.fetch → l.from ≡ r
  pub names : l.me ≡ t.fetch → l.kind ≡ RamFetch → l.address ≡ t.buffer

-- the bytes that a transmit promises are in the buffer
pub record Carries (o : Offered) (l : Letter) (t : Taking) (heap : ℕ → Option (List ℕ)) (buf : ℕ) : Type 0 where
  pub all : List ℕ
  pub bytes : List ℕ
  pub offered : o t.id ≡ Some all
  pub there : heap t.buffer ≡ Some bytes
  pub same : take l.amount bytes ≡ take l.amount (drop t.count all)
  pub fits : t.count + l.amount ≤ length all
  pub short : l.amount < buf → t.count + l.amount ≡ length all

pub record LetterCarries (o : Offered) (l : Letter) (t : Taking) (heap : ℕ → Option (List ℕ)) (buf : ℕ) : Type 0 where
  pub carries : l.kind ≡ RamTransmit → l.answers ≡ t.fetch → l.from ≡ t.sender → Carries o l t heap buf

-- a transmit beside both records of one id: the sender has gone on since
pub record LetterOlder (l : Letter) (s : ℕ) (x : Sending) (t : Taking) : Type 0 where
  pub older : l.kind ≡ RamTransmit → l.from ≡ s → l.answers ≡ t.fetch → x.id ≡ t.id → l.answers < x.last

-- the sender's count is the receiver's and what the unread transmit carries
pub record LetterAhead (l : Letter) (s : ℕ) (x : Sending) (t : Taking) : Type 0 where
  pub same_id : l.kind ≡ RamTransmit → l.from ≡ s → l.answers ≡ t.fetch → l.me ≡ x.last → x.id ≡ t.id
  pub ahead : l.kind ≡ RamTransmit → l.from ≡ s → l.answers ≡ t.fetch → l.me ≡ x.last → x.count ≡ t.count + l.amount

-- ---- a record

-- the source of an open record is what was offered
pub record Source (o : Offered) (x : Sending) (block : ℕ → Option (List ℕ)) (next : ℕ) : Type 0 where
  pub all : List ℕ
  pub offered : o x.id ≡ Some all
  pub there : block x.anchor ≡ Some all
  pub fits : x.count ≤ length all
  pub unread : x.last ≡ x.id → x.count ≡ 0
  pub below : x.last < next

pub record Counted (o : Offered) (id n : ℕ) : Type 0 where
  pub all : List ℕ
  pub offered : o id ≡ Some all
  pub whole : n ≡ length all

-- the document is the first n bytes of what was offered
pub record Begins (o : Offered) (id n : ℕ) (bytes : Option (List ℕ)) : Type 0 where
  pub all : List ℕ
  pub offered : o id ≡ Some all
  pub there : bytes ≡ Some (take n all)
  pub fits : n ≤ length all

-- a count of no more than what was offered
pub record AtMost (o : Offered) (id n : ℕ) : Type 0 where
  pub all : List ℕ
  pub offered : o id ≡ Some all
  pub fits : n ≤ length all

-- what a record counts, whatever came to its document since
abbrev pub Counts : Offered → In → Type 0
Counts o (Fetching t) = AtMost o t.id t.count
Counts o (Draining t) = AtMost o t.id t.count
Counts o (Asking q) = AtMost o q.id 0
Counts o (In_done i a n) = Counted o i n
Counts o (In_failed i a n) = AtMost o i n

-- the document is all of it
pub record Whole (o : Offered) (id : ℕ) (bytes : Option (List ℕ)) : Type 0 where
  pub all : List ℕ
  pub offered : o id ≡ Some all
  pub there : bytes ≡ Some all

-- the first n bytes of what was offered are no more than that
pub at_most : {o : Offered} {id n : ℕ} {bytes : Option (List ℕ)} → Begins o id n bytes → AtMost o id n
at_most b = record { all = b.all; offered = b.offered; fits = b.fits }

-- no edit came to the document
abbrev pub Untouched : (ℕ → Bool) → In → Type 0
Untouched e (Fetching t) = Unit {0}
Untouched e (Draining t) = e t.id ≡ false
Untouched e (Asking q) = Unit {0}
Untouched e (In_done i a n) = e i ≡ false
Untouched e (In_failed i a n) = e i ≡ false

-- what an untouched document is
abbrev pub IsGood : Offered → In → Option (List ℕ) → Type 0
IsGood o (Fetching t) bytes = Begins o t.id t.count bytes
IsGood o (Draining t) bytes = Begins o t.id t.count bytes
IsGood o (Asking q) bytes = Begins o q.id 0 bytes
IsGood o (In_done i a n) bytes = Whole o i bytes
IsGood o (In_failed i a n) bytes = Begins o i n bytes

pub record HasBuffer (t : Taking) (heap : ℕ → Option (List ℕ)) (buf next : ℕ) : Type 0 where
  pub bytes : List ℕ
  pub there : heap t.buffer ≡ Some bytes
  pub size : buf ≤ length bytes
  pub below : t.fetch < next

-- ---- the parts of the invariant; K are the letters known

pub record Letters (K : Letter → Type 0) (o : Offered) (next handle : ℕ) : Type 0 where
  pub below : (l : Letter) → K l → Below next handle l
  pub offers : (l : Letter) → K l → Offers o l

pub record Outs (K : Letter → Type 0) (o : Offered) (sending : ℕ → List Out) (block : ℕ → ℕ → Option (List ℕ))
    (next : ℕ) : Type 0 where
  pub letter : (l : Letter) → K l → (s : ℕ) (x : Sending) → Has (Open x) (sending s) → LetterOut l s x
  pub source : (s : ℕ) (x : Sending) → Has (Open x) (sending s) → Source o x (block s) next
  pub counted : (s i n : ℕ) → Has (Out_done i n) (sending s) → Counted o i n
  pub lasts : (s : ℕ) (x y : Sending) → Has (Open x) (sending s) → Has (Open y) (sending s) → x.last ≡ y.last →
      x.id ≡ y.id

pub record Ins (K : Letter → Type 0) (o : Offered) (e : ℕ → ℕ → Bool) (taking : ℕ → List In) (block heap : ℕ → ℕ →
    Option (List ℕ)) (buf : ℕ → ℕ) (next : ℕ) : Type 0 where
  pub letter : (l : Letter) → K l → (r : ℕ) (t : Taking) → Active (taking r) t → LetterIn l r t
  pub carries : (l : Letter) → K l → (r : ℕ) (t : Taking) → Has (Fetching t) (taking r) →
      LetterCarries o l t (heap r) (buf r)
  pub good : (r : ℕ) (w : In) → Has w (taking r) → Untouched (e r) w → IsGood o w (block r (in_anchor w))
  pub counted : (r : ℕ) (w : In) → Has w (taking r) → Counts o w
  pub buffer : (r : ℕ) (t : Taking) → Active (taking r) t → HasBuffer t (heap r) (buf r) next
  pub buffers : (r : ℕ) (t u : Taking) → Active (taking r) t → Active (taking r) u → t.buffer ≡ u.buffer → t.id ≡ u.id
  pub documents : (r : ℕ) (v w : In) → Has v (taking r) → is_growing v ≡ true → Has w (taking r) → Untouched (e r) w →
      in_anchor w ≡ in_anchor v → in_id w ≡ in_id v
  pub room : (r : ℕ) → 0 < buf r

pub record Boths (K : Letter → Type 0) (sending : ℕ → List Out) (taking : ℕ → List In) : Type 0 where
  pub older : (l : Letter) → K l → (s : ℕ) (x : Sending) → Has (Open x) (sending s) → (r : ℕ) (t : Taking) →
      Active (taking r) t → LetterOlder l s x t
  pub ahead : (l : Letter) → K l → (s : ℕ) (x : Sending) → Has (Open x) (sending s) → (r : ℕ) (t : Taking) →
      Has (Fetching t) (taking r) → LetterAhead l s x t
  pub apart : (h : ℕ) (x : Sending) (v : In) → Has (Open x) (sending h) → Has v (taking h) → is_growing v ≡ true →
      x.anchor ≢ in_anchor v

-- a letter beside a record that waits for a file
pub record LetterAck (l : Letter) (q : Asked) : Type 0 where
  pub names : l.kind ≡ DataSaveAck → l.me ≡ q.ack → l.answers ≡ q.id

-- the scrap file of its DataLoad is what was offered
pub record LetterFile (o : Offered) (scrap : Option Scrap) (l : Letter) (q : Asked) : Type 0 where
  pub whole : (f : Scrap) → scrap ≡ Some f → l.kind ≡ DataLoad → l.me ≡ f.load → l.answers ≡ q.ack →
      o q.id ≡ Some f.bytes

pub record Loads (K : Letter → Type 0) (o : Offered) (taking : ℕ → List In) (scrap : Option Scrap) (next : ℕ) : Type 0
  where
    pub ack : (l : Letter) → K l → (r : ℕ) (q : Asked) → Has (Asking q) (taking r) → LetterAck l q
    pub file : (l : Letter) → K l → (r : ℕ) (q : Asked) → Has (Asking q) (taking r) → LetterFile o scrap l q
    pub ack_below : (r : ℕ) (q : Asked) → Has (Asking q) (taking r) → q.ack < next
    pub load_below : (f : Scrap) → scrap ≡ Some f → f.load < next

-- a message that is queued or held has the ref
pub data IsLive (q : List Message) (held : ℕ → Option Message) (ref : ℕ) : Type 0 where
  waits : (m : Message) → Has m q → m.letter.me ≡ ref → IsLive q held ref
  rests : (h : ℕ) (m : Message) → held h ≡ Some m → m.letter.me ≡ ref → IsLive q held ref

-- the scrap file's DataLoad is queued or held, no other kind of letter has its ref, no letter answers it, and no record has
-- its ref for an id
pub record Filed (K : Letter → Type 0) (q : List Message) (held : ℕ → Option Message) (taking : ℕ → List In) (f : Scrap) :
    Type 0 where
  pub live : IsLive q held f.load
  pub some : 0 < f.load
  pub kinds : (l : Letter) → K l → l.me ≡ f.load → l.kind ≡ DataLoad
  pub unanswered : (l : Letter) → K l → l.answers ≢ f.load
  pub ids : (r : ℕ) (w : In) → Has w (taking r) → in_id w ≢ f.load

abbrev pub Files : (Letter → Type 0) → List Message → (ℕ → Option Message) → (ℕ → List In) → Option Scrap → Type 0
Files K q held taking scrap = (f : Scrap) → scrap ≡ Some f → Filed K q held taking f

-- the DataLoad of the scrap file, where there is one, is queued or held
abbrev pub LiveFile : Desk → Type 0
LiveFile d = (f : Scrap) → d.scrap ≡ Some f → IsLive d.queue d.held f.load

-- ---- the order of refs and ids

abbrev pub Unread : Message → Type 0
Unread m = m.code ≡ Returned → ⊥

abbrev pub Rises : List Message → Type 0
Rises q = Pairwise (λ m n. Unread m → Unread n → m.letter.me < n.letter.me) q

pub record Order (q : List Message) (sending : ℕ → List Out) (taking : ℕ → List In) (next : ℕ) : Type 0 where
  pub rises : Rises q
  pub above : (r : ℕ) (w : In) (m : Message) → Has w (taking r) → Has m q → Unread m → m.to ≡ r → in_id w < m.letter.me
  pub outs : (s : ℕ) → Ascend out_id (sending s)
  pub ins : (r : ℕ) → Ascend in_id (taking r)
  pub out_below : (s : ℕ) (v : Out) → Has v (sending s) → out_id v < next
  pub in_below : (r : ℕ) (w : In) → Has w (taking r) → in_id w < next

-- no list is longer than the limit
pub record Few (most : ℕ) (sending : ℕ → List Out) (taking : ℕ → List In) : Type 0 where
  pub outs : (s : ℕ) → length (sending s) ≤ most
  pub ins : (r : ℕ) → length (taking r) ≤ most

pub record Inv (o : Offered) (e : ℕ → ℕ → Bool) (d : Desk) : Type 0 where
  pub letters : Letters (Knows d) o d.next_ref d.next_handle
  pub outs : Outs (Knows d) o d.sending d.block d.next_ref
  pub ins : Ins (Knows d) o e d.taking d.block d.heap d.buf d.next_ref
  pub boths : Boths (Knows d) d.sending d.taking
  pub loads : Loads (Knows d) o d.taking d.scrap d.next_ref
  pub files : Files (Knows d) d.queue d.held d.taking d.scrap
  pub few : Few d.most d.sending d.taking
  pub order : Order d.queue d.sending d.taking d.next_ref
  pub alive : (h : ℕ) → d.live h ≡ true → h < d.next_handle
  pub positive : 0 < d.next_ref

-- ---- fetches that wait

-- a message is the fetch that task s is to answer
pub record IsWaiting (m : Message) (s : ℕ) (l : Letter) : Type 0 where
  pub code : m.code ≡ Recorded
  pub to : m.to ≡ s
  pub from : m.letter.from ≡ l.from
  pub kind : m.letter.kind ≡ RamFetch
  pub answers : m.letter.answers ≡ l.answers

-- the fetch l, which record x of task s would answer, is that of a record that still holds its buffer, and is unread
pub record Waits (q : List Message) (held : ℕ → Option Message) (s : ℕ) (l : Letter) (x : Sending) (ws : List In)
    (buf : ℕ) : Type 0 where
  pub taking : Taking
  pub is_active : Active ws taking
  pub same_id : taking.id ≡ x.id
  pub sender : taking.sender ≡ s
  pub names : taking.buffer ≡ l.address
  pub amount : l.amount ≡ buf
  pub newer : x.last < taking.fetch
  pub level : x.count ≡ taking.count
  pub unread : (m : Message) → Has m q → m.letter.me ≡ taking.fetch → IsWaiting m s l
  pub free : (h : ℕ) (m : Message) → held h ≡ Some m → m.letter.me ≢ taking.fetch

-- the fetch l, which is known, would be answered by record x of task s
pub record Asks (K : Letter → Type 0) (lives files : ℕ → Bool) (s : ℕ) (x : Sending) (l : Letter) : Type 0 where
  pub known : K l
  pub kind : l.kind ≡ RamFetch
  pub answers : l.answers ≡ x.last
  pub from : l.from ≡ x.recipient
  pub live : lives l.from ≡ true
  pub fetches : files s ≡ false

-- the same, known otherwise
pub known_by : {K L : Letter → Type 0} {lives files : ℕ → Bool} {s : ℕ} {x : Sending} {l : Letter} →
    Asks K lives files s x l → L l → Asks L lives files s x l
known_by k known = record {
  known = known;
  kind = k.kind;
  answers = k.answers;
  from = k.from;
  live = k.live;
  fetches = k.fetches;
}

abbrev pub PendingAt : Desk → ℕ → Sending → Type 0
PendingAt d s x = (l : Letter) → Asks (Knows d) d.live d.file s x l → Waits d.queue d.held s l x (d.taking l.from)
    (d.buf l.from)

pub record Good (o : Offered) (e : ℕ → ℕ → Bool) (d : Desk) : Type 0 where
  pub inv : Inv o e d
  pub pending : (s : ℕ) (x : Sending) → Has (Open x) (d.sending s) → PendingAt d s x
  pub born : (i : ℕ) → d.next_ref ≤ i → o i ≡ None
