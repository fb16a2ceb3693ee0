-- What records are seen to wait for, said of the desk.
use Rattle.rh_laws.proofs.Common.{Body, Desk, Has, List, Manner, Message, None, Option, Parcel, Some, Task, [], action_of}
use Rattle.rh_laws.proofs.Common.{answers_none, ap, contains_of, false, field_is, held_by, inl, inr, map, none_some, option_map}
use Rattle.rh_laws.proofs.Common.{refl, subst, sym, true, ℕ, ◌∙◌, ◌∷◌, ◌≡◌, ◌≤◌}
use Rattle.rh_defs.specs.declared.message.Action.TheVariants as action
use Rattle.rh_defs.specs.declared.message.Body.TheVariants.{DataLoad, DataLoadAck, DataSave, DataSaveAck, RamFetch, RamTransmit}
use Rattle.rh_safety.proofs.Basics.{not_true}
use Rattle.rh_safety.proofs.Invariant.{IsLive}
use Rattle.rh_safety.proofs.View.{address_in, amount_in, seen_parcel, seen_scrap, task_of, view}
use Rattle.rh_safety.proofs.Sight as sight
use Rattle.rh_laws.specs.LiveEnds.{AsksForFile, IsAlive, IsFetch, IsLoad, IsOwn, IsReply, IsSent}
use Rattle.rh_laws.specs.LiveEnds.{IsTransmit, LoadsScrap}
use Rattle.rh_laws.proofs.Wants.{Asks, Ours, Tells, WaitsFor, Want, file, is_sent, part, peer_of, ref_of, reply}

-- ---- what is seen of a list, or of what there may be

of_map : {A B : Type 0} (f : A → B) (y : B) (xs : List A) → Has y (map f xs) → (x : A) × (Has x xs × (f x ≡ y))
of_map f y [] has = absurd has
of_map f y (x ∷ xs) (inl e) = (x, (inl refl, e))
of_map f y (x ∷ xs) (inr has) = let w = of_map f y xs has in (w.0, (inr w.1.0, w.1.1))

of_option : {A B : Type 0} (f : A → B) (y : B) (v : Option A) → option_map f v ≡ Some y → (x : A) × ((v ≡ Some x) × (f x ≡ y))
of_option f y None q = absurd (none_some None refl q)
of_option f y (Some x) q = (x, (refl, cc))

-- ---- bodies by their kind

fetch : (buffer room : ℕ) (b : Body) → action_of b ≡ action.RamFetch → address_in b ≡ buffer → amount_in b ≤ room → IsFetch buffer room b
fetch buffer room (RamFetch into n) kind address amount = (address, amount)
fetch buffer room _ kind address amount = absurd cc

transmit : (buffer room : ℕ) (b : Body) → action_of b ≡ action.RamTransmit → address_in b ≡ buffer → amount_in b ≤ room → IsTransmit buffer room b
transmit buffer room (RamTransmit into n) kind address amount = (address, amount)
transmit buffer room _ kind address amount = absurd cc

asks_file : (b : Body) → action_of b ≡ action.DataSaveAck → AsksForFile b
asks_file (DataSaveAck y) kind = tt
asks_file _ kind = absurd cc

load : (b : Body) → action_of b ≡ action.DataLoad → IsLoad b
load (DataLoad y) kind = tt
load _ kind = absurd cc

sent : (manner : Manner) (b : Body) → is_sent (answers_none manner) (action_of b) ≡ true → IsSent manner b
sent manner (DataSave y) q = not_true _ q
sent manner (RamTransmit buffer n) q = not_true _ q
sent manner (DataLoad y) q = tt
sent manner _ q = absurd cc

loaded : (manner : Manner) (b : Body) → action_of b ≡ action.DataLoadAck → IsReply manner b
loaded manner (DataLoadAck y) kind = tt
loaded manner _ kind = absurd cc

fetched : (manner : Manner) (b : Body) → action_of b ≡ action.RamFetch → answers_none manner ≡ false → 1 ≤ amount_in b → IsReply manner b
fetched manner (RamFetch buffer n) kind answers some = (answers, some)
fetched manner _ kind answers some = absurd cc

-- ---- the post

-- what is seen to be waited for is there
module _ (d : Desk) (h : ℕ) (w : Want) (A : Body → Type 0) (B : Parcel → Type 0)
    (asks : (p : Parcel) → Asks w ((view d).buf h) ((view d).file h) (seen_parcel p).letter → A p.message.body)
    (tells : (p : Parcel) → Tells w ((view d).buf h) ((view d).file h) (view d).scrap (seen_parcel p) → B p) where
  own : (p : Parcel) → p.message.my_ref ≡ ref_of w → Ours (view d) h w (seen_parcel p) → IsOwn h (peer_of w) (ref_of w) A p
  own p ref o = record { from = o.from; my_ref = ref; asks = asks p o.asks; way = o.way }

  alive : WaitsFor (view d) h w → IsAlive d.post h (peer_of w) (ref_of w) A B
  alive (inl u) = by u.live
    where
      by : IsLive (view d).queue (view d).held (ref_of w) → IsAlive d.post h (peer_of w) (ref_of w) A B
      by (IsLive.waits m has me) =
          let x = of_map seen_parcel m d.post.queued has in
          let ref : x.0.message.my_ref ≡ ref_of w = ap (λ (y : Message). y.letter.me) x.1.1 ∙ me in
          let there = subst (λ y. Has y (view d).queue) (sym x.1.1) has in
          IsAlive.asks (x.0, (contains_of d.post.queued x.0 x.1.0, own x.0 ref (u.queue (seen_parcel x.0) there ref)))
      by (IsLive.rests k m is me) =
          let x = of_option seen_parcel m (held_by k d.post.seats) is in
          let ref : x.0.message.my_ref ≡ ref_of w = ap (λ (y : Message). y.letter.me) x.1.1 ∙ me in
          IsAlive.held (k, (x.0, (x.1.0, own x.0 ref (u.held k (seen_parcel x.0) (is ∙ ap Some (sym x.1.1)) ref))))
  alive (inr a) =
      let x = of_map seen_parcel a.answer d.post.queued a.queued in
      IsAlive.answered (
        x.0,
        (
          contains_of d.post.queued x.0 x.1.0,
          record {
            to = ap (λ (y : Message). y.to) x.1.1 ∙ a.to;
            from = ap (λ (y : Message). y.letter.from) x.1.1 ∙ a.from;
            your_ref = ap (λ (y : Message). y.letter.answers) x.1.1 ∙ a.answers;
            came = λ back. a.unread (ap (λ (y : Message). y.code) (sym x.1.1) ∙ back);
            answers = tells x.0 (subst (Tells w ((view d).buf h) ((view d).file h) (view d).scrap) (sym x.1.1) a.tells);
          },
        ),
      )

-- ---- records

module _ (d : Desk) (h : ℕ) (t : Task) (at : task_of h d.tasks ≡ Some t) where
  room : (view d).buf h ≡ t.buffer
  room = field_is (λ y. y.buffer) 1 h d.tasks t at

  manner : (view d).file h ≡ answers_none t.manner
  manner = field_is (λ y. answers_none y.manner) false h d.tasks t at

  -- bytes for a buffer
  pub part_alive : (ref peer buffer : ℕ) → WaitsFor (view d) h (part ref peer buffer) →
      IsAlive d.post h peer ref (IsFetch buffer t.buffer) (λ p. IsTransmit buffer t.buffer p.message.body)
  part_alive ref peer buffer =
      alive d h (part ref peer buffer) (IsFetch buffer t.buffer) (λ p. IsTransmit buffer t.buffer p.message.body)
      (λ p a. fetch buffer t.buffer p.message.body a.0 a.1.0 (subst (λ n. amount_in p.message.body ≤ n) room a.1.1))
      (λ p a. transmit buffer t.buffer p.message.body a.0 a.1.0 (subst (λ n. amount_in p.message.body ≤ n) room a.1.1))

  -- a file
  loads : (ref peer : ℕ) (p : Parcel) → Tells (file ref peer) ((view d).buf h) ((view d).file h) (view d).scrap (seen_parcel p) → LoadsScrap d p
  loads ref peer p a =
      let x = of_option seen_scrap a.1.1.0 d.scrap a.1.1.1.0 in
      record {
        code = a.1.0;
        load = load p.message.body a.0;
        file = x.0;
        there = x.1.0;
        names = ap (λ (y : sight.Scrap). y.load) x.1.1 ∙ a.1.1.1.1;
      }

  pub file_alive : (ref peer : ℕ) → WaitsFor (view d) h (file ref peer) → IsAlive d.post h peer ref AsksForFile (LoadsScrap d)
  file_alive ref peer = alive d h (file ref peer) AsksForFile (LoadsScrap d) (λ p a. asks_file p.message.body a) (loads ref peer)

  -- what follows on a sender's last message
  replies : (ref peer : ℕ) (p : Parcel) → Tells (reply ref peer) ((view d).buf h) ((view d).file h) (view d).scrap (seen_parcel p) →
      IsReply t.manner p.message.body
  replies ref peer p (inl kind) = loaded t.manner p.message.body kind
  replies ref peer p (inr a) = fetched t.manner p.message.body a.1.0 (sym manner ∙ a.0) a.1.1

  pub reply_alive : (ref peer : ℕ) → WaitsFor (view d) h (reply ref peer) →
      IsAlive d.post h peer ref (IsSent t.manner) (λ p. IsReply t.manner p.message.body)
  reply_alive ref peer =
      alive d h (reply ref peer) (IsSent t.manner) (λ p. IsReply t.manner p.message.body)
      (λ p a. sent t.manner p.message.body (subst (λ c. is_sent c (action_of p.message.body) ≡ true) manner a)) (replies ref peer)
