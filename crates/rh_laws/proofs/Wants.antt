-- What a record waits for: a message of its task that is live and unanswered, or the answer to it, which is queued.
use Rattle.rh_laws.proofs.Common.{Bool, Has, List, None, Option, Some, ap, false, if◌then◌else◌, inr, not, refl, subst, sym, true, ℕ, ◌&&◌, ◌==◌, ◌∙◌, ◌≡◌, ◌≤◌}
use Rattle.rh_laws.proofs.Common.{◌⊎◌}
use Rattle.rh_safety.proofs.Ends.{Asking, DataLoad, DataLoadAck, DataSave, DataSaveAck, Draining, Fetching, In, Kind, Letter, Message, Open, Out, RamFetch}
use Rattle.rh_safety.proofs.Ends.{RamTransmit, Recorded, Returned, in_id}
use Rattle.rh_safety.proofs.Invariant.{IsLive, Unread}
use Rattle.rh_safety.proofs.Sight.{Desk, Scrap}

-- bytes in a buffer, a file, or what follows on an open record's last message: by the ref of the record's own message, and
-- the other end
pub data Want : Type 0 where
  part : (ref peer buffer : ℕ) → Want
  file : (ref peer : ℕ) → Want
  reply : (ref peer : ℕ) → Want

abbrev pub ref_of : Want → ℕ
ref_of (part ref peer buffer) = ref
ref_of (file ref peer) = ref
ref_of (reply ref peer) = ref

abbrev pub peer_of : Want → ℕ
peer_of (part ref peer buffer) = peer
peer_of (file ref peer) = peer
peer_of (reply ref peer) = peer

-- what a record that comes in wants
abbrev pub want_in : In → Option Want
want_in (Fetching f) = Some (part f.fetch f.sender f.buffer)
want_in (Draining f) = Some (part f.fetch f.sender f.buffer)
want_in (Asking q) = Some (file q.ack q.sender)
want_in _ = None

-- what one that goes out wants: nothing where its task answers no fetch and has sent the DataSave alone
abbrev pub want_out : Bool → Out → Option Want
want_out no_fetch (Open x) = if no_fetch && x.last == x.id then None else Some (reply x.last x.recipient)
want_out no_fetch _ = None

-- one of the records, with the id, wants it
pub record InWants (vs : List In) (w : Want) (i : ℕ) : Type 0 where
  pub one : In
  pub has : Has one vs
  pub wants : want_in one ≡ Some w
  pub id : in_id one ≡ i

pub record OutWants (vs : List Out) (no_fetch : Bool) (w : Want) : Type 0 where
  pub one : Out
  pub has : Has one vs
  pub wants : want_out no_fetch one ≡ Some w

pub data HasWant (ins : List In) (outs : List Out) (no_fetch : Bool) (w : Want) : Type 0 where
  comes : {i : ℕ} → InWants ins w i → HasWant ins outs no_fetch w
  goes : OutWants outs no_fetch w → HasWant ins outs no_fetch w

-- a record of task h wants it
abbrev pub Wants : Desk → ℕ → Want → Type 0
Wants d h w = HasWant (d.taking h) (d.sending h) (d.file h) w

-- ---- messages

-- what a sender's last message is; after that of a task that answers no fetch, which waits, a file is there
abbrev pub is_sent : Bool → Kind → Bool
is_sent no_fetch DataSave = not no_fetch
is_sent no_fetch RamTransmit = not no_fetch
is_sent no_fetch DataLoad = true
is_sent no_fetch _ = false

-- the letters that ask for it; room is the size of the task's buffers
abbrev pub Asks : Want → ℕ → Bool → Letter → Type 0
Asks (part ref peer buffer) room no_fetch l = (l.kind ≡ RamFetch) × ((l.address ≡ buffer) × (l.amount ≤ room))
Asks (file ref peer) room no_fetch l = l.kind ≡ DataSaveAck
Asks (reply ref peer) room no_fetch l = is_sent no_fetch l.kind ≡ true

-- the messages that answer
abbrev pub Tells : Want → ℕ → Bool → Option Scrap → Message → Type 0
Tells (part ref peer buffer) room no_fetch scrap m =
    (m.letter.kind ≡ RamTransmit) × ((m.letter.address ≡ buffer) × (m.letter.amount ≤ room))
Tells (file ref peer) room no_fetch scrap m =
    (m.letter.kind ≡ DataLoad) × ((m.code ≡ Recorded) × ((f : Scrap) × ((scrap ≡ Some f) × (f.load ≡ m.letter.me))))
Tells (reply ref peer) room no_fetch scrap m =
    (m.letter.kind ≡ DataLoadAck) ⊎ ((no_fetch ≡ false) × ((m.letter.kind ≡ RamFetch) × (1 ≤ m.letter.amount)))

-- a message that asks for it, on its way to the other end or back
pub record Ours (d : Desk) (h : ℕ) (w : Want) (m : Message) : Type 0 where
  pub from : m.letter.from ≡ h
  pub asks : Asks w (d.buf h) (d.file h) m.letter
  pub way : ((m.code ≡ Recorded) × (m.to ≡ peer_of w)) ⊎ ((m.code ≡ Returned) × (m.to ≡ h))

-- each live message of the ref asks for it, and there is one: so nothing answers
pub record Unanswered (d : Desk) (h : ℕ) (w : Want) : Type 0 where
  pub live : IsLive d.queue d.held (ref_of w)
  pub queue : (m : Message) → Has m d.queue → m.letter.me ≡ ref_of w → Ours d h w m
  pub held : (k : ℕ) (m : Message) → d.held k ≡ Some m → m.letter.me ≡ ref_of w → Ours d h w m

-- an answer is queued
pub record Answered (d : Desk) (h : ℕ) (w : Want) : Type 0 where
  pub answer : Message
  pub queued : Has answer d.queue
  pub to : answer.to ≡ h
  pub from : answer.letter.from ≡ peer_of w
  pub answers : answer.letter.answers ≡ ref_of w
  pub unread : Unread answer
  pub tells : Tells w (d.buf h) (d.file h) d.scrap answer

abbrev pub WaitsFor : Desk → ℕ → Want → Type 0
WaitsFor d h w = Unanswered d h w ⊎ Answered d h w

-- ---- from one desk to the next

-- a message that was live, or is one that came back
pub data Was (d : Desk) (m : Message) : Type 0 where
  in_queue : (y : Message) → Has y d.queue → m ≡ y → Was d m
  in_hand : (k : ℕ) → d.held k ≡ Some m → Was d m
  back_queue : (y : Message) → Has y d.queue → m.letter ≡ y.letter → m.code ≡ Returned → m.to ≡ m.letter.from → Was d m
  back_hand : (k : ℕ) (y : Message) → d.held k ≡ Some y → m.letter ≡ y.letter → m.code ≡ Returned → m.to ≡ m.letter.from → Was d m

-- what task h has as before
pub record Same (d e : Desk) (h : ℕ) : Type 0 where
  pub room : e.buf h ≡ d.buf h
  pub no_fetch : e.file h ≡ d.file h

-- what is kept of a record that nothing answers
pub record Onward (d e : Desk) (w : Want) : Type 0 where
  pub queue : (m : Message) → Has m e.queue → m.letter.me ≡ ref_of w → Was d m
  pub held : (k : ℕ) (m : Message) → e.held k ≡ Some m → m.letter.me ≡ ref_of w → Was d m

module _ {d e : Desk} {h : ℕ} {w : Want} (same : Same d e h) where
  ours : (m : Message) → m.letter.me ≡ ref_of w → Unanswered d h w → Was d m → Ours e h w m
  ours m me u was = by was
    where
      moved : (n : Message) → Ours d h w n → m.letter ≡ n.letter →
          (m.letter.from ≡ h → ((m.code ≡ Recorded) × (m.to ≡ peer_of w)) ⊎ ((m.code ≡ Returned) × (m.to ≡ h))) → Ours e h w m
      moved n o l way = let from : m.letter.from ≡ h = ap (λ (z : Letter). z.from) l ∙ o.from in record {
        from = from;
        asks = subst (λ b. Asks w (e.buf h) b m.letter) (sym same.no_fetch) (subst (λ b. Asks w b (d.file h) m.letter) (sym same.room)
            (subst (Asks w (d.buf h) (d.file h)) (sym l) o.asks));
        way = way from;
      }

      me_of : (y : Message) → m.letter ≡ y.letter → y.letter.me ≡ ref_of w
      me_of y l = ap (λ (z : Letter). z.me) (sym l) ∙ me

      by : Was d m → Ours e h w m
      by (in_queue y has s) =
          let o = u.queue m (subst (λ z. Has z d.queue) (sym s) has) me in moved m o refl (λ f. o.way)
      by (in_hand k is) = let o = u.held k m is me in moved m o refl (λ f. o.way)
      by (back_queue y has l c to) = moved y (u.queue y has (me_of y l)) l (λ f. inr (c, to ∙ f))
      by (back_hand k y is l c to) = moved y (u.held k y is (me_of y l)) l (λ f. inr (c, to ∙ f))

  pub still-asks : Onward d e w → IsLive e.queue e.held (ref_of w) → Unanswered d h w → Unanswered e h w
  still-asks on live u = record {
    live = live;
    queue = λ m has me. ours m me u (on.queue m has me);
    held = λ k m is me. ours m me u (on.held k m is me);
  }

  -- the scrap file stays whose DataLoad is the answer
  pub still-told : (a : Answered d h w) → ((f : Scrap) → d.scrap ≡ Some f → f.load ≡ a.answer.letter.me → e.scrap ≡ Some f) →
      Has a.answer e.queue → Answered e h w
  still-told a scrap has = record {
    answer = a.answer;
    queued = has;
    to = a.to;
    from = a.from;
    answers = a.answers;
    unread = a.unread;
    tells = subst (λ b. Tells w (e.buf h) b e.scrap a.answer) (sym same.no_fetch)
        (subst (λ b. Tells w b (d.file h) e.scrap a.answer) (sym same.room) (by w a.tells));
  }
    where
      by : (x : Want) → Tells x (d.buf h) (d.file h) d.scrap a.answer → Tells x (d.buf h) (d.file h) e.scrap a.answer
      by (part ref peer buffer) t = t
      by (file ref peer) t =
          (t.0, (t.1.0, (t.1.1.0, (scrap t.1.1.0 t.1.1.1.0 t.1.1.1.1, t.1.1.1.1))))
      by (reply ref peer) t = t
