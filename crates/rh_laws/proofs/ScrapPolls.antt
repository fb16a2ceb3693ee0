-- A poll of a task by its name, where the post has one message at most: what is seen of the desk then.
use Rattle.rh_laws.proofs.Common.{◌≡◌, ℕ, true, false, List, Option, Some, None, refl, sym, ap, ◌∙◌, length}
use Rattle.rh_laws.proofs.Common.{option_map, ◌==◌, EventCode, User, Recorded, Acknowledge, Sending, Taking, Asked}
use Rattle.rh_laws.proofs.Common.{active_of, asking_of, open_of, Desk, Scrap}
use Rattle.rh_laws.proofs.Common.{answers_none, Answer}
use Rattle.rh_laws.proofs.Common.{view, seen_parcel, Message, none_some, field_is}
use Rattle.rh_defs.specs.declared.message.Action.TheVariants as action
use Rattle.rh_defs.specs.declared.transfer.Outgoing.TheVariants as outgoing
use Rattle.rh_defs.specs.declared.transfer.Incoming.TheVariants as incoming
use Rattle.rh_defs.specs.Sender as sender
use Rattle.rh_defs.specs.Receiver as receiver
use Rattle.rh_defs.specs.Transfer as transfer
use Rattle.rh_safety.specs.Alternation.{is_refused_poll}
use Rattle.rh_safety.proofs.View.{seen_scrap}
use Rattle.rh_safety.proofs.Ends.{Letter}
use Rattle.rh_safety.proofs.Sight as sight
use Rattle.rh_laws.proofs.ScrapViews.{asked_goes, back_acts, done_goes, filed_goes, ignored_goes, told_goes}
use Rattle.rh_safety.proofs.PollTurns.{Turn, came_acts, takes}

-- ---- what each message leaves to see

-- another code than that of a message that came back
recorded_came : (c : EventCode) → c ≡ Recorded → c ≡ Acknowledge → ⊥
recorded_came c q r = let z : Recorded ≡ Acknowledge = sym q ∙ r in (cc)

user_came : (c : EventCode) → c ≡ User → c ≡ Acknowledge → ⊥
user_came c q r = let z : User ≡ Acknowledge = sym q ∙ r in (cc)

-- a fetch that the task doesn't answer
pub ignored_turn : (d : Desk) (h : ℕ) (m : Message) (a : Answer) → Turn d h m a → m.code ≡ Recorded →
    m.letter.kind ≡ action.RamFetch → (view d).file h ≡ true →
    sight.lost (view a.0) ≡ sight.picked (sight.lost (view d)) h m Recorded
ignored_turn d h m a (takes e t p is taken keeps) code kind file =
    let seen = taken ∙ ap (sight.picked (sight.lost (view d)) t.handle (seen_parcel p)) code in
    let none : answers_none t.manner ≡ true = sym (field_is (λ y. answers_none y.manner) false t.handle e.tasks t is) ∙
    ap (λ (y : sight.Desk). y.file t.handle) seen ∙ file in
    ap sight.lost (ignored_goes e t p is p.message.body (came_acts e t p (recorded_came p.code code)) kind none) ∙ seen

-- a first fetch that came back
pub asked_turn : (d : Desk) (h : ℕ) (m : Message) (a : Answer) → Turn d h m a → is_refused_poll a.1 ≡ false →
    m.code ≡ Acknowledge → m.letter.kind ≡ action.RamFetch → (f : Taking) → f.count ≡ 0 →
    active_of (λ k. k.fetch == m.letter.me) ((view d).taking h) ≡ Some (incoming.Fetching f) →
    sight.lost (view a.0) ≡ sight.asked (sight.picked (sight.lost (view d)) h m Acknowledge) h f
asked_turn d h m a (takes e t p is taken keeps) granted code kind f none found =
    let seen = taken ∙ ap (sight.picked (sight.lost (view d)) t.handle (seen_parcel p)) code in
    ap sight.lost (asked_goes e t p is p.message.body (back_acts e t p code) kind f none
    (ap (λ (y : sight.Desk). active_of (λ k. k.fetch == p.message.my_ref) (y.taking t.handle)) seen ∙ found) granted) ∙
    ap (λ (y : sight.Desk). sight.asked y t.handle f) seen

-- a DataSaveAck
pub record FileMade (d : Desk) (h : ℕ) (m : Message) (x : Sending) (bytes : List ℕ) (after : Desk) : Type 0 where
  pub seen : sight.lost (view after) ≡ sight.lost (sight.filed (sight.picked (sight.lost (view d)) h m Recorded) h
      m.letter x bytes)
  pub file : Scrap
  pub there : after.scrap ≡ Some file
  pub load : file.load ≡ d.post.next_ref
  pub bytes_are : file.bytes ≡ bytes

file_of : (o : Option Scrap) (load : ℕ) (bytes : List ℕ) → option_map seen_scrap o ≡ Some (record {
  load = load;
  bytes = bytes;
}) → (file : Scrap) × (o ≡ Some file) × (file.load ≡ load) × (file.bytes ≡ bytes)
file_of None load bytes q = absurd (none_some None refl q)
file_of (Some file) load bytes q =
    let z : Option.Some (seen_scrap file) ≡ Some (record { load = load; bytes = bytes }) = q in
    let y : seen_scrap file ≡ record { load = load; bytes = bytes } = cc in
    (file, refl, ap (λ (f : sight.Scrap). f.load) y, ap (λ (f : sight.Scrap). f.bytes) y)

pub filed_turn : (d : Desk) (h : ℕ) (m : Message) (a : Answer) → Turn d h m a → is_refused_poll a.1 ≡ false →
    m.code ≡ Recorded → m.letter.kind ≡ action.DataSaveAck → (x : Sending) (bytes : List ℕ) →
    open_of (sender.asks_for m.letter.from m.letter.answers) ((view d).sending h) ≡ Some x → m.letter.from ≡ x.recipient →
    (view d).block h x.anchor ≡ Some bytes → FileMade d h m x bytes a.0
filed_turn d h m a (takes e t p is taken keeps) granted code kind x bytes found from there =
    let l : Letter = (seen_parcel p).letter in
    let seen = taken ∙ ap (sight.picked (sight.lost (view d)) t.handle (seen_parcel p)) code in
    let after = filed_goes e t p is p.message.body (came_acts e t p (recorded_came p.code code)) kind x bytes
    (ap (λ (y : sight.Desk). open_of (sender.asks_for p.message.from p.message.your_ref) (y.sending t.handle)) seen ∙ found) from
    (ap (λ (y : sight.Desk). y.block t.handle x.anchor) seen ∙ there) granted in
    let file = file_of (transfer.handled e t p p.code).0.scrap (view e).next_ref bytes (ap (λ (y : sight.Desk).
    y.scrap) after) in
    record {
      seen = ap sight.lost after ∙ ap (λ (y : sight.Desk). sight.lost (sight.filed y t.handle l x bytes)) seen;
      file = file.0;
      there = file.1;
      load = file.2 ∙ ap (λ (y : sight.Desk). y.next_ref) seen;
      bytes_are = file.3;
    }

-- a DataLoad of the scrap file
pub told_turn : (d : Desk) (h : ℕ) (m : Message) (a : Answer) → Turn d h m a → is_refused_poll a.1 ≡ false →
    m.code ≡ Recorded → m.letter.kind ≡ action.DataLoad → (q : Asked) (file : Scrap) → d.scrap ≡ Some file →
    file.load ≡ m.letter.me → asking_of (receiver.is_load m.letter.from m.letter.answers) ((view d).taking h) ≡ Some q →
    m.letter.from ≡ q.sender → sight.lost (view a.0) ≡ sight.lost (sight.told (sight.copied (sight.picked
    (sight.lost (view d)) h m Recorded) h q file.bytes) h m.letter q (length file.bytes))
told_turn d h m a (takes e t p is taken keeps) granted code kind q file there load found from =
    let l : Letter = (seen_parcel p).letter in
    let n = length file.bytes in
    let seen = taken ∙ ap (sight.picked (sight.lost (view d)) t.handle (seen_parcel p)) code in
    ap sight.lost (told_goes e t p is p.message.body (came_acts e t p (recorded_came p.code code)) kind q file (keeps file there code load) load
    (ap (λ (y : sight.Desk). asking_of (receiver.is_load p.message.from p.message.your_ref) (y.taking t.handle)) seen ∙ found) from granted) ∙
    ap (λ (y : sight.Desk). sight.lost (sight.told (sight.copied y t.handle q file.bytes) t.handle l q n)) seen

-- a DataLoadAck
pub done_turn : (d : Desk) (h : ℕ) (m : Message) (a : Answer) → Turn d h m a → is_refused_poll a.1 ≡ false →
    m.code ≡ User → m.letter.kind ≡ action.DataLoadAck → (x : Sending) (bytes : List ℕ) →
    open_of (sender.is_loaded m.letter.from m.letter.answers) ((view d).sending h) ≡ Some x →
    (view d).block h x.anchor ≡ Some bytes → sight.lost (view a.0) ≡ sight.with_out (sight.picked (sight.lost
    (view d)) h m User) h x (outgoing.Done x.id (length bytes))
done_turn d h m a (takes e t p is taken keeps) granted code kind x bytes found there =
    let seen = taken ∙ ap (sight.picked (sight.lost (view d)) t.handle (seen_parcel p)) code in
    ap sight.lost (done_goes e t p is p.message.body (came_acts e t p (user_came p.code code)) kind x bytes
    (ap (λ (y : sight.Desk). open_of (sender.is_loaded p.message.from p.message.your_ref) (y.sending t.handle)) seen ∙ found)
    (ap (λ (y : sight.Desk). y.block t.handle x.anchor) seen ∙ there) granted) ∙
    ap (λ (y : sight.Desk). sight.with_out y t.handle x (outgoing.Done x.id (length bytes))) seen
