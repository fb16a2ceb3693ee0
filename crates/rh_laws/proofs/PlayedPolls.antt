-- A poll leaves each record waiting whose other end the desk plays, whoever is polled and whatever message was taken.
use Rattle.rh_laws.proofs.Common.{Acknowledge, Body, Bool, Desk, Edits, EventCode, Fits, Has, None, Offers, Option, Parcel, Post, Recorded, Some, Task, User}
use Rattle.rh_laws.proofs.Common.{action_of, ap, arith, false, handled, if◌then◌else◌, inl, inr, live_of, option_map, poll_taken, put_same}
use Rattle.rh_laws.proofs.Common.{field_is, refl, subst, sym, task_of, true, view, with_delivered, ℕ, ◌<◌, ◌∙◌, ◌≡◌, ◌≢◌}
use Rattle.rh_defs.specs.declared.message.Body.TheVariants as body
use Rattle.rh_defs.specs.declared.reply.Outcome.TheVariants as outcome
use Rattle.rh_defs.specs.AnyMessage.{as_read}
use Rattle.rh_defs.specs.Messages.{is_kind}
use Rattle.rh_defs.specs.RawTasks.{is_raw}
use Rattle.rh_safety.specs.RawIds.{Gave}
use Rattle.rh_safety.proofs.Ends.{Out_done}
use Rattle.rh_safety.proofs.Invariant.{Good, LiveFile}
use Rattle.rh_safety.specs.Refs.{HaveOwnRefs}
use Rattle.rh_safety.proofs.Basics.{first_has, without_has}
use Rattle.rh_safety.proofs.Ends.{Code, In, Letter, Message, Plain, first_for, in_id}
use Rattle.rh_safety.proofs.Invariant.{Inv, Known, Knows, Unread}
use Rattle.rh_safety.proofs.Keeps.{Stands}
use Rattle.rh_safety.proofs.KeptPolls.{Given, given, known_kind, read_same}
use Rattle.rh_safety.proofs.Masks.{mask_first, mask_knows, mask_live_file, mask_lost, mask_picked, mask_returned, masked, masked_letter, masked_message}
use Rattle.rh_safety.proofs.Posts.{returned_known}
use Rattle.rh_safety.proofs.Polls.{left_good, unpicked_live, would_tells}
use Rattle.rh_safety.proofs.Raws.{Raws, is_known, raws_returned}
use Rattle.rh_safety.proofs.SeenFiles.{delivered_live}
use Rattle.rh_safety.proofs.SeenFrames.{HaveOwnSeats}
use Rattle.rh_safety.proofs.SeenPosts.{with_scrap}
use Rattle.rh_safety.proofs.SeenTaking.{IsTaken, lost_queue, picked_by}
use Rattle.rh_safety.proofs.Sight as sight
use Rattle.rh_safety.proofs.View.{seen_parcel}
use Rattle.rh_laws.specs.Addressed.{Addresses}
use Rattle.rh_laws.proofs.DoneDeeds.{Heard, Taken, deed-matched}
use Rattle.rh_laws.proofs.DoneEdits.{framed-matched, returned-matched}
use Rattle.rh_laws.proofs.DonePolls.{IsPlayed, Pairs, passed-matched, returned-pairs, taken-matched}
use Rattle.rh_laws.proofs.Dones.{Matched, ends-map, was-live}
use Rattle.rh_laws.proofs.PlayedDeeds.{PlayedWait, Took, deed-played, mask-has}
use Rattle.rh_laws.proofs.PlayedEdits.{framed-played, returned-played}
use Rattle.rh_laws.proofs.RefsApart.{Alone, alone-of, returned-alone, unread_or_back}
use Rattle.rh_laws.proofs.WantTasks.{file-kept, home, refs-below}
use Rattle.rh_laws.proofs.WantEdits.{For, KeepsFile, Picks, Then, answer, left_by, own_back, picked-letters, picked-on, picked-waits, picks}
use Rattle.rh_laws.proofs.WantRecords.{InWant, Ready, Sort, asks-fits, by_ask, by_drain, by_fetch, fits, in-want, out-want, parts, sort_of, tells-fits, un}
use Rattle.rh_laws.proofs.WantTurns.{handled-waits}
use Rattle.rh_laws.proofs.Wants.{HasWant, InWants, WaitsFor, Want, Wants, part, peer_of, ref_of}

-- ---- refs

-- no record waits by a ref of theirs
pub own_ref : {R : Gave} {H : ℕ → Bool} {o : Offers} (d : sight.Desk) → Raws R H o d → (h : ℕ) (w : Want) → Wants d h w → R (ref_of w) ≡ false
own_ref {R} d raws h w (HasWant.comes x) = by (in-want x.one w x.wants)
  where
    here : {v : In} → x.one ≡ v → Has v (d.taking h)
    here same = subst (λ v. Has v (d.taking h)) same x.has

    by : InWant x.one w → R (ref_of w) ≡ false
    by (by_fetch f same is) = ap (λ z. R (ref_of z)) is ∙ raws.fetches h f (inl (here same))
    by (by_drain f same is) = ap (λ z. R (ref_of z)) is ∙ raws.fetches h f (inr (here same))
    by (by_ask q same is) = ap (λ z. R (ref_of z)) is ∙ raws.acks h q (here same)
own_ref {R} d raws h w (HasWant.goes x) =
    let y = out-want (d.file h) x.one w x.wants in
    ap (λ z. R (ref_of z)) y.1.1 ∙ raws.lasts h y.0 (subst (λ v. Has v (d.sending h)) y.1.0 x.has)

-- a task of theirs waits for nothing
pub none-waits-there : {R : Gave} {H : ℕ → Bool} {o : Offers} (d : sight.Desk) → Raws R H o d → (h : ℕ) (w : Want) → H h ≡ true → Wants d h w → ⊥
none-waits-there d raws h w theirs (HasWant.comes x) = subst (Has x.one) (raws.none_in h theirs) x.has
none-waits-there d raws h w theirs (HasWant.goes x) = subst (Has x.one) (raws.none_out h theirs) x.has

-- nor is a record of it whose transfer isn't theirs
pub apart-from : {R : Gave} {H : ℕ → Bool} {o : Offers} (d : sight.Desk) → Raws R H o d → (h : ℕ) → H h ≡ true → (j : ℕ) (w : Want) (i : ℕ) →
    InWants (d.taking j) w i → R i ≡ false → peer_of w ≡ h → ⊥
apart-from {R} {H} d raws h theirs j w i x mine to = by (in-want x.one w x.wants)
  where
    here : {v : In} → x.one ≡ v → Has v (d.taking j)
    here same = subst (λ v. Has v (d.taking j)) same x.has

    never : (a b : ℕ) → R a ≡ H b → a ≡ i → b ≡ h → ⊥
    never a b same id peer = let z : true ≡ false = sym theirs ∙ ap H (sym peer) ∙ sym same ∙ ap R id ∙ mine in (cc)

    by : InWant x.one w → ⊥
    by (by_fetch f same is) = never f.id f.sender (raws.senders j f (inl (here same))) (ap in_id (sym same) ∙ x.id) (ap peer_of (sym is) ∙ to)
    by (by_drain f same is) = never f.id f.sender (raws.senders j f (inr (here same))) (ap in_id (sym same) ∙ x.id) (ap peer_of (sym is) ∙ to)
    by (by_ask q same is) = never q.id q.sender (raws.askers j q (here same)) (ap in_id (sym same) ∙ x.id) (ap peer_of (sym is) ∙ to)

-- ---- a message of another kind is for no record

no-fit : (b : Body) → is_kind b ≡ false → (back : Bool) (s : Sort) → fits back (action_of b) s ≡ true → ⊥
no-fit (body.Other o) e true s q = un q
no-fit (body.Other o) e false s q = un q
no-fit (body.DataSave f) e back s q = un (sym e)
no-fit (body.DataSaveAck f) e back s q = un (sym e)
no-fit (body.DataLoad f) e back s q = un (sym e)
no-fit (body.DataLoadAck f) e back s q = un (sym e)
no-fit (body.RamFetch buffer n) e back s q = un (sym e)
no-fit (body.RamTransmit buffer n) e back s q = un (sym e)

-- so it may be told as it is read
read-took : {C : ℕ → Bool} {R : Gave} (S : sight.Desk) (k : ℕ) (m : Parcel) → Took C R S k (seen_parcel m) → Took C R S k (seen_parcel (as_read m))
read-took {C} {R} S k m tk = by (is_kind m.message.body) refl
  where
    by : (c : Bool) → is_kind m.message.body ≡ c → Took C R S k (seen_parcel (as_read m))
    by true e = subst (λ (z : Parcel). Took C R S k (seen_parcel z)) (sym (read_same m e)) tk
    by false e = record {
      waits = λ h w x mine. as_it_is h w (tk.waits h w x mine);
      apart = tk.apart;
      to = tk.to;
      below = tk.below;
      mine = tk.mine;
      answers = tk.answers;
      played = tk.played;
      refs = tk.refs;
      own = tk.own;
      ids = tk.ids;
      positive = tk.positive;
      mute = tk.mute;
      queue = tk.queue;
      hand = tk.hand;
      seated = tk.seated;
      codes = tk.codes;
      senders = tk.senders;
      fresh = tk.fresh;
    }
      where
        never : {A : Type 0} (h : ℕ) (w : Want) → For S (seen_parcel m) h w → A
        never h w (answer u from answers tells) =
            absurd (no-fit m.message.body e false (sort_of w) (tells-fits w _ _ S.scrap (seen_parcel m) tells))
        never h w (own_back c r a) = absurd (no-fit m.message.body e true (sort_of w) (asks-fits w _ _ (seen_parcel m).letter a))

        as_it_is : (h : ℕ) (w : Want) → Then S (seen_parcel m) h w → Then S (seen_parcel (as_read m)) h w
        as_it_is h w (Then.asking u own) =
            Then.asking u (λ s. absurd (no-fit m.message.body e true (sort_of w) (asks-fits w _ _ (seen_parcel m).letter (own s).1.1.1)))
        as_it_is h w (Then.told a) = Then.told a
        as_it_is h w (Then.due to f) = never h w f

-- ---- what is left of a message that task k took

-- a task that waits for nothing does nothing
idle-played : {C : ℕ → Bool} {R : Gave} (S : sight.Desk) (k : ℕ) (m : Message) → ((w : Want) → Wants S k w → ⊥) → Took C R S k m → PlayedWait C R S
idle-played S k m none tk = record {
  waits = λ h w x mine. by h w x (tk.waits h w x mine);
  apart = tk.apart;
  mute = tk.mute;
  seated = tk.seated;
  codes = tk.codes;
  senders = tk.senders;
}
  where
    by : (h : ℕ) (w : Want) → Wants S h w → Then S m h w → WaitsFor S h w
    by h w x (Then.asking u own) = inl u
    by h w x (Then.told a) = inr a
    by h w x (Then.due to f) = absurd (none w (subst (λ j. Wants S j w) (sym to ∙ tk.to) x))

-- each record waits, and those of transfers whose sender says Done end
pub record Goes_on (A : Addresses) (C : ℕ → Bool) (R : Gave) (d : sight.Desk) : Type 0 where
  pub played : PlayedWait C R d
  pub matched : Matched (IsPlayed A C) R d

-- where the message is theirs, it may be told as it is read
read-taken : {P : ℕ → Type 0} {C : ℕ → Bool} {R : Gave} (S : sight.Desk) (k : ℕ) (m : Parcel) → (is_kind m.message.body ≡ false → R m.message.my_ref ≡ true) →
    Taken P C R S k (seen_parcel m) → Taken P C R S k (seen_parcel (as_read m))
read-taken {P} {C} {R} S k m theirs tk = by (is_kind m.message.body) refl
  where
    by : (c : Bool) → is_kind m.message.body ≡ c → Taken P C R S k (seen_parcel (as_read m))
    by true e = subst (λ (z : Parcel). Taken P C R S k (seen_parcel z)) (sym (read_same m e)) tk
    by false e = record {
      unbegun = tk.unbegun;
      first = tk.first;
      ends = λ s i n r w done has id. ends-map w refl (λ t is y fin q. elim q [
        | inl a ↦ inl a
        | inr one ↦ absurd (no-fit m.message.body e false parts (ap (λ z. fits false z parts) (ap (λ (z : Message). z.letter.kind) one ∙ fin.kind)))
      ]) (tk.ends s i n r w done has id);
      heard = record {
        lives = h.lives;
        plays = h.plays;
        mute = λ kind mine. absurd (never mine);
        offer = λ un kind mine. absurd (never mine);
        answers = h.answers;
        waiter = λ x has kind would fetches there un r w taken id.
            absurd (h.nobody un x has (would_tells x (seen_parcel (as_read m)).letter would).from its r w taken id);
        told = λ un kind x has answers from r w taken id. absurd (h.nobody un x has from its r w taken id);
        home = h.home;
        carried = λ f has kind un from answers s n done. absurd (never (h.filler un f has from (h.out_ids s (Out_done f.id n) done)));
        nobody = h.nobody;
        filler = h.filler;
        senders = h.senders;
        out_ids = h.out_ids;
      };
      before = read-took S k m tk.before;
      outs = tk.outs;
      ascends = tk.ascends;
    }
      where
        h : Heard P R S k (seen_parcel m)
        h = tk.heard

        its : R m.message.my_ref ≡ true
        its = theirs e

        never : R m.message.my_ref ≡ false → ⊥
        never mine = let z : true ≡ false = sym its ∙ mine in (cc)

-- what such a deed leaves
pub ready-played : {A B : Addresses} {C : ℕ → Bool} {R : Gave} (S : sight.Desk) (k : ℕ) (m : Message) →
    ((ref : ℕ) → ref < S.next_ref → IsPlayed B C ref → IsPlayed A C ref) → Taken (IsPlayed A C) C R S k m → Ready (Goes_on B C R) S k m
ready-played {A} {B} {C} {R} S k m less tk = record {
  before = record { apart = tk.before.apart; mine = tk.before.mine; ids = tk.before.ids };
  closes = λ sd t bl hp sc l x. record {
    played = deed-played C R S k m tk.before sd t bl hp sc (sym (tk.before.codes.manners k tk.heard.lives) ∙ tk.heard.plays) l x;
    matched = deed-matched S k m tk sd t bl hp sc less l x;
  };
}

returned-next : (S : sight.Desk) (k : ℕ) (v : Option Message) → (sight.returned S k v).next_ref ≡ S.next_ref
returned-next S k None = refl
returned-next S k (Some m) = refl

known-before : (S : sight.Desk) (k : ℕ) (v : Option Message) → S.held k ≡ v → (l : Letter) → Knows (sight.returned S k v) l → Knows S l
known-before S k None q l kn = kn
known-before S k (Some m) q l kn = returned_known S k m q l kn

lives-then : (S : sight.Desk) (k : ℕ) (v : Option Message) → (sight.returned S k v).live k ≡ S.live k
lives-then S k None = refl
lives-then S k (Some m) = refl

raws-then : (S : sight.Desk) (k : ℕ) (v : Option Message) → (sight.returned S k v).raw k ≡ S.raw k
raws-then S k None = refl
raws-then S k (Some m) = refl

lost-raws : {R : Gave} {H : ℕ → Bool} {o : Offers} (b : Bool) (S : sight.Desk) → Raws R H o S → Raws R H o (sight.lost_if b S)
lost-raws true S raws = raws
lost-raws false S raws = raws

bare : (S : sight.Desk) (k : ℕ) (v : Option Message) → S.held k ≡ v → (sight.returned S k v).held k ≡ None
bare S k None q = q
bare S k (Some m) q = put_same S.held k None

scrap-same : (S : sight.Desk) (k : ℕ) (v : Option Message) → (sight.returned S k v).scrap ≡ S.scrap
scrap-same S k None = refl
scrap-same S k (Some m) = refl

-- the scrap file goes before the taking or after it
lost-is : (b : Bool) (S : sight.Desk) → (sc : Option sight.Scrap) × (sight.lost_if b S ≡ with_scrap sc S)
lost-is true S = (None, refl)
lost-is false S = (S.scrap, refl)

picked-lost : (k : ℕ) (S : sight.Desk) (m : Message) (sc : Option sight.Scrap) (c : Code) →
    sight.picked (with_scrap sc S) k m c ≡ with_scrap sc (sight.picked S k m c)
picked-lost k S m sc Plain = refl
picked-lost k S m sc _ = refl

module _ {o : Offers} {e : Edits} {A : Addresses} {R : Gave} {C : ℕ → Bool} (d : Desk) (t : Task) (fit : Fits d) (is : task_of t.handle d.tasks ≡ Some t)
    (stands : Stands o e R (view d)) (goes : Goes_on A C R (view d)) (pairs : Pairs A R (view d)) (refs : HaveOwnRefs d) where
  abbrev k : ℕ
  k = t.handle

  abbrev offers : Offers
  offers = stands.offers

  abbrev D : sight.Desk
  D = view d

  abbrev T : sight.Desk
  T = sight.returned D k (D.held k)

  all-returned : PlayedWait C R T
  all-returned = returned-played D k (D.held k) refl (home d) goes.played

  matched : Matched (IsPlayed A C) R T
  matched = returned-matched D k (D.held k) refl goes.matched

  apart : Alone T.queue T.held
  apart = returned-alone D k (D.held k) refl (alone-of d refs)

  module _ (p : Post × Option Parcel) (own : HaveOwnSeats p.0) (w : IsTaken d k p) where
    abbrev d1 : Desk
    d1 = with_delivered p.0 d

    abbrev L : sight.Desk
    L = sight.lost_if w.lost T

    kept-by : (S : sight.Desk) → view d1 ≡ S → KeepsFile T S
    kept-by S seen = subst (KeepsFile T) seen (λ f s live. file-kept d p.0 f (sym (scrap-same D k (D.held k)) ∙ s) live)

    none-taken : p.1 ≡ None → Goes_on A C R (view d1)
    none-taken q =
        let l = lost-is w.lost T in
        let seen : view d1 ≡ with_scrap l.0 T = w.seen ∙ ap (λ (v : Option Parcel). picked_by k (option_map seen_parcel v) L) q ∙ l.1 in
        subst (Goes_on A C R) (sym seen) (record {
          played = framed-played T T.block T.heap l.0 (kept-by _ seen) all-returned;
          matched = framed-matched T T.block T.heap l.0 matched;
        })

    module _ (m : Parcel) (q : p.1 ≡ Some m) where
      abbrev M : Message
      M = seen_parcel m

      g : Given offers e R stands.coded d1 t m
      g = given d t fit is stands p own w m q

      first : first_for k T.queue ≡ Some M
      first = ap (first_for k) (sym (lost_queue w.lost T)) ∙ w.first ∙ ap (option_map seen_parcel) q

      here : Has M T.queue
      here = (first_has k T.queue M first).0

      inv : Inv offers e (masked R (view d1))
      inv = by m.code refl
        where
          by : (c : EventCode) → m.code ≡ c → Inv offers e (masked R (view d1))
          by Acknowledge c = (g.back c).inv
          by Recorded c = (g.came (λ r. let z : Recorded ≡ Acknowledge = sym c ∙ r in (cc))).inv
          by User c = (g.came (λ r. let z : User ≡ Acknowledge = sym c ∙ r in (cc))).inv

      -- the message's ref was given
      given-ref : M.letter.me < T.next_ref
      given-ref =
          let z = (stands.good.inv.letters.below _ (mask_knows R D M.letter (known-before D k (D.held k) refl M.letter (Known.queued M here refl)))).me in
          let n = returned-next D k (D.held k) in
          omega (arith, z, n)

      abbrev Unlike : sight.Desk → Type 0
      Unlike S = Unread M → (y : Message) → Has y (masked R S).queue → Unread y → y.letter.me ≢ M.letter.me

      took-by : (sc : Option sight.Scrap) (hd : ℕ → Option Message) → Picks T k M hd → KeepsFile T (left_by T k hd sc) →
          Inv offers e (masked R (left_by T k hd sc)) → Raws R stands.coded offers (masked R (left_by T k hd sc)) → Unlike (left_by T k hd sc) →
          Took C R (left_by T k hd sc) k M
      took-by sc hd x keeps i raws unlike = record {
        waits = λ h v y mine. picked-waits T k M first hd sc x keeps (all-returned.waits h v y mine);
        apart = all-returned.apart;
        to = (first_has k T.queue M first).1;
        below = λ l kn. (i.letters.below _ (mask_knows R S l kn)).me;
        mine = given-ref;
        answers = λ l kn mine. let z = (i.letters.below _ (mask_knows R S l kn)).answers in subst (λ b. (masked_letter b l).answers < S.next_ref) mine z;
        played = λ l kn lives plays. raws.letters _ (mask_knows R S l kn) ∙ sym (raws.manners l.from lives) ∙ plays;
        refs = refs-below i;
        own = λ h v y. own_ref (masked R S) raws h v y;
        ids = i.order.in_below;
        positive = i.positive;
        mute = λ ref mine live.
            let s = all-returned.mute ref mine (was-live (picked-on T k M first hd sc x (part ref 0 0)) live) in record {
              some = s.some;
              letters = λ l kn. s.letters l (picked-letters T k M first hd sc x l kn);
              ids = s.ids;
            };
        queue = λ un y has. elim (unread_or_back y) [
          | inl u ↦ unlike un (masked_message R y) (mask-has R y S.queue has) u
          | inr c ↦ apart.back M y here (without_has k T.queue y has) un c
        ];
        hand = λ un j y held same. elim (x.mine j y held) [ inl z ↦ absurd (apart.hand j y M z here (sym same)) | inr z ↦ z.0 ];
        seated = λ j y held. elim (x.mine j y held) [
          | inl z ↦ all-returned.seated j y z
          | inr z ↦ ap (λ (n : Message). n.to) (sym z.1.0) ∙ (first_has k T.queue M first).1 ∙ sym z.0
        ];
        codes = record { manners = all-returned.codes.manners; unborn = all-returned.codes.unborn };
        senders = λ l kn. all-returned.senders l (picked-letters T k M first hd sc x l kn);
        fresh = raws.refs _ (omega arith);
      }
        where
          S : sight.Desk
          S = left_by T k hd sc

      abbrev l0 : Option sight.Scrap
      l0 = (lost-is w.lost T).0

      abbrev picked : (hd : ℕ → Option Message) × (Picks T k M hd × ((sc : Option sight.Scrap) → with_scrap sc (sight.picked T k M m.code) ≡ left_by T k hd sc))
      picked = picks T k M m.code refl (bare D k (D.held k) refl)

      seen : view d1 ≡ left_by T k picked.0 l0
      seen =
          w.seen ∙ ap (λ (v : Option Parcel). picked_by k (option_map seen_parcel v) L) q ∙
          ap (λ (S : sight.Desk). sight.picked S k M m.code) (lost-is w.lost T).1 ∙ picked-lost k T M l0 m.code ∙ picked.1.1 l0

      took : Took C R (left_by T k picked.0 l0) k M
      took =
          took-by l0 picked.0 picked.1.0 (kept-by _ seen) (subst (λ (S : sight.Desk). Inv offers e (masked R S)) seen inv)
          (subst (λ (S : sight.Desk). Raws R stands.coded offers (masked R S)) seen g.raws)
          (subst Unlike seen g.unlike)

      -- ---- the desk that the message was taken from, where messages are masked

      abbrev E : sight.Desk
      E = masked R D

      abbrev left : sight.Desk
      left = sight.lost_if w.lost (sight.returned E k (E.held k))

      left-is : masked R L ≡ left
      left-is = mask_lost R w.lost T ∙ ap (sight.lost_if w.lost) (mask_returned R D k (D.held k))

      first-masked : first_for k left.queue ≡ Some (masked_message R M)
      first-masked = ap (λ (y : sight.Desk). first_for k y.queue) (sym left-is) ∙ mask_first R k L.queue ∙
          ap (option_map (masked_message R)) (w.first ∙ ap (option_map seen_parcel) q)

      safe : LiveFile (sight.picked left k (masked_message R M) m.code)
      safe = subst LiveFile (ap (masked R) (w.seen ∙ ap (λ (v : Option Parcel). picked_by k (option_map seen_parcel v) L) q) ∙ mask_picked R L k M m.code ∙
          ap (λ (z : sight.Desk). sight.picked z k (masked_message R M) m.code) left-is) (mask_live_file R (view d1) (delivered_live d p.0 own))

      lost-same : masked R L ≡ masked R (with_scrap l0 T)
      lost-same = ap (masked R) (lost-is w.lost T).1

      good-left : Good offers e (masked R (with_scrap l0 T))
      good-left = subst (Good offers e) (sym left-is ∙ lost-same)
          (left_good w.lost k (E.held k) refl (unpicked_live left k (masked_message R M) m.code first-masked safe) stands.good)

      raws-left : Raws R stands.coded offers (masked R (with_scrap l0 T))
      raws-left = subst (Raws R stands.coded offers) (sym left-is ∙ lost-same) (lost-raws w.lost _ (raws_returned E k (E.held k) refl stands.raws))

      -- ---- by a task that the desk plays

      taken : is_raw t.manner ≡ false → Taken (IsPlayed A C) C R (view d1) k M
      taken plays = subst (λ (S : sight.Desk). Taken (IsPlayed A C) C R S k M) (sym seen)
          (taken-matched T k M first picked.0 l0 picked.1.0 (lives-then D k (D.held k) ∙ live_of d k t is)
          (raws-then D k (D.held k) ∙ field_is (λ y. is_raw y.manner) false k d.tasks t is ∙ plays) matched all-returned good-left raws-left
          (returned-pairs D k (D.held k) pairs) coded took)
        where
          coded : stands.coded m.message.from ≡ true → C m.message.from ≡ true
          coded its =
              let kn : Knows T M.letter = Known.queued M here refl in
              let old : Knows D M.letter = known-before D k (D.held k) refl M.letter kn in
              sym (all-returned.senders M.letter kn) ∙ stands.raws.letters _ (mask_knows R D M.letter old) ∙ its

      -- what is no kind that it knows is theirs
      known-theirs : is_kind m.message.body ≡ false → R m.message.my_ref ≡ true
      known-theirs e = by (R m.message.my_ref) refl
        where
          by : (b : Bool) → R m.message.my_ref ≡ b → b ≡ true
          by true own = refl
          by false own =
              let known : is_known (action_of m.message.body) ≡ true = subst (λ b. is_known (masked_letter b M.letter).kind ≡ true) own g.kind in
              absurd (let z : true ≡ false = sym (known_kind m.message.body known) ∙ e in (cc))

      some-taken : is_raw t.manner ≡ false → Goes_on A C R (view (handled d1 t (as_read m) m.code).0)
      some-taken plays = handled-waits (Goes_on A C R) d1 t (as_read m) g.is (record {
        lasts = λ x y. inv.outs.lasts k x y;
        room = inv.ins.room k;
        unborn = λ u v. g.unborn u k v;
      }) (ready-played (view d1) k (seen_parcel (as_read m)) (λ ref lt x. x) (read-taken (view d1) k m known-theirs (taken plays)))

      -- by one of theirs
      handed : is_raw t.manner ≡ true → Goes_on A C R (view d1)
      handed theirs = subst (Goes_on A C R) (sym seen) (record {
        played = idle-played (left_by T k picked.0 l0) k M (λ v y. none-waits-there (masked R (with_scrap l0 T)) raws-left k v its y) took;
        matched = passed-matched T k M first picked.0 l0 picked.1.0 (λ v has. subst (Has v) (raws-left.none_in k its) has) matched;
      })
        where
          its : stands.coded k ≡ true
          its = sym (stands.raws.manners k (live_of d k t is)) ∙ field_is (λ y. is_raw y.manner) false k d.tasks t is ∙ theirs

      taken-either : (b : Bool) → is_raw t.manner ≡ b → Goes_on A C R (view (if b then (d1, outcome.Taken) else handled d1 t (as_read m) m.code).0)
      taken-either true e = handed e
      taken-either false e = some-taken e

    pub played-taken : (v : Option Parcel) → p.1 ≡ v → Goes_on A C R (view (poll_taken d1 t v).0)
    unfolding poll_taken
    played-taken None q = none-taken q
    played-taken (Some m) q = taken-either m q (is_raw t.manner) refl
