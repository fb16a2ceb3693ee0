-- A save of a task that answers no fetch, and eight polls in turn, on the desk itself.
use Rattle.rh_laws.proofs.Common.{◌≡◌, ◌≢◌, ℕ, ◌+◌, ◌<◌, Bool, true, false, List, [], ◌∷◌, ◌++◌, length, Option, Some, None, refl, sym, ap, ◌∙◌, subst}
use Rattle.rh_laws.proofs.Common.{inl, inr, arith, map, nat_eq, option_map, eqb_tells, Command, User, Recorded, Acknowledge, is_name}
use Rattle.rh_laws.proofs.Common.{IsDesk, in_range, answers_none, Desk, Task, has_name, Answer, step, step-keeps, view, seen_parcel, blocks_of}
use Rattle.rh_laws.proofs.Common.{task_of, Message, Taking, Has, Active, is_open, put_same, put_other, Good, field_is}
use Rattle.rh_laws.proofs.Common.{found_task, live_of, Fits, fits}
use Rattle.rh_defs.specs.declared.command.Command.TheVariants as command
use Rattle.rh_defs.specs.declared.reply.Reply.TheVariants as reply
use Rattle.rh_safety.specs.Alternation.{all_granted, SenderDone, ReceiverDone}
use Rattle.rh_safety.proofs.Ends.{Out, Open, Out_done, In, Fetching, Draining, Asking, In_done, put, first_for, without_first, is_going}
use Rattle.rh_safety.proofs.Sight as sight
use Rattle.rh_safety.proofs.Basics.{put_all, Has-right}
use Rattle.rh_safety.proofs.Invariant.{Offered}
use Rattle.rh_safety.proofs.Arrivals.{Began}
use Rattle.rh_safety.proofs.Turns.{Pair, outgoing_at, incoming_at, fetch_of, offer, let_go, pair_of, rest as stay, rest_old as stay_old, without_one}
use Rattle.rh_safety.proofs.PollTurns as other
use Rattle.rh_safety.proofs.SeenKeys.{named_in, raw_in, raw_is, handle_named}
use Rattle.rh_safety.proofs.SeenSaves.{IsSaved, save_step}
use Rattle.rh_safety.proofs.SeenLaws.{IsReached, always, block_is}
use Rattle.rh_safety.proofs.Masks.{masked}
use Rattle.rh_safety.proofs.Played.{plays_named}
use Rattle.rh_safety.proofs.Common.{Edits}
use Rattle.rh_safety.specs.Played.{AfterPlayed}
use Rattle.rh_defs.specs.RawTasks.{is_raw}
use Rattle.rh_laws.specs.ScrapTurns.{AllScrapAlternate, CanSaveFile, EndsByFile, ScrapAlternates, eight_polls}
use Rattle.rh_laws.proofs.ScrapStages.{Older, Stage, IsFree, back_of, ack_of, load_of, told_of, asked_at, ignored_fetch, holds_fetch, fetch_back}
use Rattle.rh_laws.proofs.ScrapStages.{fetch_back_free, finds_fetch, asked_stage, asked_free, finds_asked, filed_stage, filed_free, finds_load, told_stage}
use Rattle.rh_laws.proofs.ScrapStages.{told_free, finds_told, done_stage, lost_stage}
use Rattle.rh_laws.proofs.ScrapPolls.{ignored_turn, asked_turn, FileMade, filed_turn, told_turn, done_turn}
use Rattle.rh_safety.proofs.Alternations.{IsNamed, IsPlayed, IsPolled, granted, is_polled, none_seated, receiver_done, rest_granted, save_names, sender_done}

-- ---- what is told at the end

last_has : {A : Type 0} (x : A) (xs ys : List A) → ys ≡ xs ++ x ∷ [] → Has x ys
last_has x xs ys q = subst (λ z. Has x z) (sym q) (Has-right x xs (x ∷ []) (inl refl))

-- ---- from poll to poll

-- both tasks with their names, which the desk plays
record Here (s r : List ℕ) (p : Pair) (d : Desk) : Type 0 where
  pub kept : IsDesk d
  pub plays_sender : IsPlayed d p.sender
  pub plays_receiver : IsPlayed d p.receiver
  pub sender : IsNamed s d p.sender
  pub receiver : IsNamed r d p.receiver

next_here : {s r : List ℕ} {p : Pair} {d : Desk} (h : ℕ) (a : Answer) → Here s r p d → IsPolled d h a →
    Here s r p a.0
next_here {s} {r} {p} h a t w = record {
  kept = w.kept;
  plays_sender = ap (raw_in p.sender) w.keys ∙ t.plays_sender;
  plays_receiver = ap (raw_in p.receiver) w.keys ∙ t.plays_receiver;
  sender = ap (named_in s) w.keys ∙ t.sender;
  receiver = ap (named_in r) w.keys ∙ t.receiver;
}

-- what is seen of the desk, but for the scrap file
abbrev seen : Desk → sight.Desk
seen d = sight.lost (view d)

-- the polls from the eighth one on, from the seventh one on, and so on
abbrev from_eighth : List ℕ → List ℕ → List Command
from_eighth s r = command.Poll s ∷ []

abbrev from_seventh : List ℕ → List ℕ → List Command
from_seventh s r = command.Poll r ∷ from_eighth s r

abbrev from_sixth : List ℕ → List ℕ → List Command
from_sixth s r = command.Poll s ∷ from_seventh s r

abbrev from_fifth : List ℕ → List ℕ → List Command
from_fifth s r = command.Poll r ∷ from_sixth s r

abbrev from_fourth : List ℕ → List ℕ → List Command
from_fourth s r = command.Poll s ∷ from_fifth s r

abbrev from_third : List ℕ → List ℕ → List Command
from_third s r = command.Poll r ∷ from_fourth s r

abbrev from_second : List ℕ → List ℕ → List Command
from_second s r = command.Poll s ∷ from_third s r

module _ (s r : List ℕ) (valid_s : is_name s ≡ true) (valid_r : is_name r ≡ true) (p : Pair) (old : Older p)
    (d1 : Desk) (here1 : Here s r p d1) (f : ℕ) (newer : p.id < f)
    (stage1 : Stage p (seen d1) (fetch_of p f p.id ∷ []) (Open (outgoing_at p 0 p.id)) (Fetching (incoming_at p 0 f))
    []) (free1 : IsFree p (seen d1)) where
  abbrev by_s : Command
  by_s = command.Poll s

  abbrev by_r : Command
  by_r = command.Poll r

  abbrev d2 : Desk
  d2 = (step d1 by_s).0

  abbrev d3 : Desk
  d3 = (step d2 by_r).0

  abbrev d4 : Desk
  d4 = (step d3 by_s).0

  abbrev d5 : Desk
  d5 = (step d4 by_r).0

  abbrev d6 : Desk
  d6 = (step d5 by_s).0

  abbrev d7 : Desk
  d7 = (step d6 by_r).0

  abbrev d8 : Desk
  d8 = (step d7 by_s).0

  module _ (ok : all_granted d1 (from_second s r) ≡ true) where
    ok4 : all_granted d4 (from_fifth s r) ≡ true
    ok4 = rest_granted d3 by_s (from_fifth s r) (rest_granted d2 by_r (from_fourth s r) (rest_granted d1 by_s
        (from_third s r) ok))

    ok5 : all_granted d5 (from_sixth s r) ≡ true
    ok5 = rest_granted d4 by_r (from_sixth s r) ok4

    ok6 : all_granted d6 (from_seventh s r) ≡ true
    ok6 = rest_granted d5 by_s (from_seventh s r) ok5

    ok7 : all_granted d7 (from_eighth s r) ≡ true
    ok7 = rest_granted d6 by_r (from_eighth s r) ok6

    s_polled : (d : Desk) → Here s r p d → IsPolled d p.sender (step d by_s)
    s_polled d t = is_polled d s p.sender t.kept valid_s t.sender

    r_polled : (d : Desk) → Here s r p d → IsPolled d p.receiver (step d by_r)
    r_polled d t = is_polled d r p.receiver t.kept valid_r t.receiver

    here2 : Here s r p d2
    here2 = next_here p.sender (step d1 by_s) here1 (s_polled d1 here1)

    here3 : Here s r p d3
    here3 = next_here p.receiver (step d2 by_r) here2 (r_polled d2 here2)

    here4 : Here s r p d4
    here4 = next_here p.sender (step d3 by_s) here3 (s_polled d3 here3)

    here5 : Here s r p d5
    here5 = next_here p.receiver (step d4 by_r) here4 (r_polled d4 here4)

    here6 : Here s r p d6
    here6 = next_here p.sender (step d5 by_s) here5 (s_polled d5 here5)

    here7 : Here s r p d7
    here7 = next_here p.receiver (step d6 by_r) here6 (r_polled d6 here6)

    other_one : p.receiver ≢ p.sender
    other_one e = old.apart (sym e)

    abbrev fetch : Message
    fetch = fetch_of p f p.id

    abbrev v0 : Out
    v0 = Open (outgoing_at p 0 p.id)

    abbrev w0 : In
    w0 = Fetching (incoming_at p 0 f)

    -- the sender takes the fetch, and does nothing
    seen2 : seen d2 ≡ sight.picked (seen d1) p.sender fetch Recorded
    seen2 = ignored_turn d1 p.sender fetch (step d1 by_s) ((s_polled d1 here1).turn fetch refl here1.plays_sender free1
        stage1.queue refl) refl
        refl stage1.file

    stage2 : Stage p (seen d2) [] v0 w0 []
    stage2 = subst (λ (y : sight.Desk). Stage p y [] v0 w0 []) (sym seen2) (ignored_fetch p old (seen d1) f stage1)

    holds2 : (seen d2).held p.sender ≡ Some fetch
    holds2 = ap (λ (y : sight.Desk). y.held p.sender) seen2 ∙ holds_fetch p old (seen d1) f stage1

    -- there is nothing for the receiver
    seen3 : seen d3 ≡ seen d2
    seen3 =
        let none = stage2.others p.receiver other_one in
        (r_polled d2 here2).none (ap (λ (v : Option Message). first_for p.receiver (sight.returned (view d2) p.receiver
        v).queue) none ∙ ap (first_for p.receiver) stage2.queue) ∙
        ap (λ (v : Option Message). sight.lost (sight.returned (view d2) p.receiver v)) none

    stage3 : Stage p (seen d3) [] v0 w0 []
    stage3 = subst (λ (y : sight.Desk). Stage p y [] v0 w0 []) (sym seen3) stage2

    holds3 : (seen d3).held p.sender ≡ Some fetch
    holds3 = ap (λ (y : sight.Desk). y.held p.sender) seen3 ∙ holds2

    -- the fetch goes back, and there is nothing for the sender
    seen4 : seen d4 ≡ sight.returned (seen d3) p.sender (Some fetch)
    seen4 =
        let back = fetch_back p old (seen d3) f stage3 in
        let not_own = not_for p.receiver p.sender other_one in
        (s_polled d3 here3).none (ap (λ (v : Option Message). first_for p.sender (sight.returned (view d3) p.sender
        v).queue) holds3 ∙ ap (first_for p.sender) back.queue ∙ (rw not_own refl)) ∙
        ap (λ (v : Option Message). sight.lost (sight.returned (view d3) p.sender v)) holds3
      where
        not_for : (a b : ℕ) → a ≢ b → nat_eq a b ≡ false
        not_for a b ne = elim (eqb_tells a b) [ inl w ↦ absurd (ne w.1) | inr w ↦ w.0 ]

    stage4 : Stage p (seen d4) (back_of p f ∷ []) v0 w0 []
    stage4 = subst (λ (y : sight.Desk). Stage p y (back_of p f ∷ []) v0 w0 []) (sym seen4) (fetch_back p old (seen d3) f
        stage3)

    free4 : IsFree p (seen d4)
    free4 = subst (λ (y : sight.Desk). IsFree p y) (sym seen4) (fetch_back_free p old (seen d3) f stage3)

    -- the receiver asks for a file
    abbrev ack : ℕ
    ack = (view d4).next_ref

    abbrev w1 : In
    w1 = Asking (asked_at p ack)

    seen5 : seen d5 ≡ sight.asked (sight.picked (seen d4) p.receiver (back_of p f) Acknowledge) p.receiver
        (incoming_at p 0 f)
    seen5 = asked_turn d4 p.receiver (back_of p f) (step d4 by_r) ((r_polled d4 here4).turn (back_of p f) refl
        here4.plays_receiver (stage4.others p.receiver other_one) stage4.queue refl) (granted d4 by_r (from_sixth s r) ok4) refl refl (incoming_at p 0 f)
        refl (finds_fetch p old (seen d4) f newer stage4 free4)

    stage5 : Stage p (seen d5) (ack_of p ack ∷ []) v0 w1 []
    stage5 = subst (λ (y : sight.Desk). Stage p y (ack_of p ack ∷ []) v0 w1 []) (sym seen5) (asked_stage p old (seen d4)
        f newer stage4 free4)

    free5 : IsFree p (seen d5)
    free5 = subst (λ (y : sight.Desk). IsFree p y) (sym seen5) (asked_free p old (seen d4) f newer stage4 free4)

    -- the sender makes it
    abbrev load : ℕ
    load = (view d5).next_ref

    abbrev v1 : Out
    v1 = Open (outgoing_at p 0 load)

    made : FileMade d5 p.sender (ack_of p ack) (outgoing_at p 0 p.id) p.source d6
    made = filed_turn d5 p.sender (ack_of p ack) (step d5 by_s) ((s_polled d5 here5).turn (ack_of p ack) refl
        here5.plays_sender free5 stage5.queue refl) (granted d5 by_s (from_seventh s r) ok5) refl refl (outgoing_at p 0 p.id) p.source
        (finds_asked p old (seen d5) ack stage4.next stage5 free5) refl stage5.source

    stage6 : Stage p (seen d6) (load_of p load ack ∷ []) v1 w1 []
    stage6 = subst (λ (y : sight.Desk). Stage p y (load_of p load ack ∷ []) v1 w1 []) (sym made.seen)
        (lost_stage p (filed_stage p old (seen d5) ack stage4.next stage5 free5))

    free6 : IsFree p (seen d6)
    free6 = subst (λ (y : sight.Desk). IsFree p y) (sym made.seen) (filed_free p old (seen d5) ack stage4.next stage5
        free5)

    -- the receiver loads it
    abbrev v2 : In
    v2 = In_done p.id p.document (length p.source)

    seen7 : seen d7 ≡ sight.lost (sight.told (sight.copied (sight.picked (seen d6) p.receiver (load_of p load ack)
        Recorded) p.receiver (asked_at p ack) p.source) p.receiver (load_of p load ack).letter (asked_at p ack)
        (length p.source))
    seen7 = told_turn d6 p.receiver (load_of p load ack) (step d6 by_r) ((r_polled d6 here6).turn (load_of p load ack) refl
        here6.plays_receiver (stage6.others p.receiver other_one) stage6.queue refl) (granted d6 by_r (from_eighth s r) ok6) refl refl (asked_at p ack)
        made.file made.there made.load (finds_load p old (seen d6) ack load stage4.next stage6 free6) refl ∙
        ap (λ (z : List ℕ). sight.lost (sight.told (sight.copied (sight.picked (seen d6) p.receiver (load_of p load ack)
        Recorded) p.receiver (asked_at p ack) z) p.receiver (load_of p load ack).letter (asked_at p ack) (length z)))
        made.bytes_are

    abbrev told : ℕ
    told = (view d6).next_ref

    stage7 : Stage p (seen d7) (told_of p told load ∷ []) v1 v2 p.source
    stage7 = subst (λ (y : sight.Desk). Stage p y (told_of p told load ∷ []) v1 v2 p.source) (sym seen7)
        (lost_stage p (told_stage p old (seen d6) ack load stage4.next stage6 free6))

    free7 : IsFree p (seen d7)
    free7 = subst (λ (y : sight.Desk). IsFree p y) (sym seen7) (told_free p old (seen d6) ack load stage4.next stage6
        free6)

    -- the sender is told
    seen8 : seen d8 ≡ sight.with_out (sight.picked (seen d7) p.sender (told_of p told load) User) p.sender
        (outgoing_at p 0 load) (Out_done p.id (length p.source))
    seen8 = done_turn d7 p.sender (told_of p told load) (step d7 by_s) ((s_polled d7 here7).turn (told_of p told load) refl
        here7.plays_sender free7 stage7.queue refl) (granted d7 by_s [] ok7) refl refl (outgoing_at p 0 load) p.source
        (finds_told p old (seen d7) load told stage5.next stage7) stage7.source

    stage8 : Stage p (seen d8) [] (Out_done p.id (length p.source)) v2 p.source
    stage8 = subst (λ (y : sight.Desk). Stage p y [] (Out_done p.id (length p.source)) v2 p.source) (sym seen8)
        (done_stage p old (seen d7) load told stage5.next stage7)

    abbrev n : ℕ
    n = length p.source

    done7 : ReceiverDone d7 p.receiver p.id p.source
    done7 = receiver_done d7 p.receiver p.id p.document p.source (last_has v2 p.ins ((view d7).taking p.receiver)
        stage7.takes) stage7.document

    done8 : ReceiverDone d8 p.receiver p.id p.source
    done8 = receiver_done d8 p.receiver p.id p.document p.source (last_has v2 p.ins ((view d8).taking p.receiver)
        stage8.takes) stage8.document

    sent8 : SenderDone d8 p.sender p.id p.source
    sent8 = sender_done d8 p.sender p.id p.source (last_has (Out_done p.id n) p.outs ((view d8).sending p.sender)
        stage8.sends)

-- ---- the save and the first poll

active_old : (most : ℕ) (ws : List In) (t : Taking) → Active (stay most is_going ws) t → Active ws t
active_old most ws t (inl h) = inl (stay_old most is_going ws (Fetching t) h)
active_old most ws t (inr h) = inr (stay_old most is_going ws (Draining t) h)

older : {o : Offered} {e : Edits} (d : sight.Desk) → Good o e d → (s r anchor : ℕ) (source : List ℕ)
    (document address : ℕ) (raw : Bool) → s ≢ r → Older (pair_of d s r anchor source document address raw)
older d g s r anchor source document address raw apart = record {
  apart = apart;
  outs = λ v h. g.inv.order.out_below s v (stay_old d.most is_open (d.sending s) v h);
  lasts = λ x h. (g.inv.outs.source s x (stay_old d.most is_open (d.sending s) (Open x) h)).below;
  ins = λ w h. g.inv.order.in_below r w (stay_old d.most is_going (d.taking r) w h);
  fetches = λ t h. (g.inv.ins.buffer r t (active_old d.most (d.taking r) t h)).below;
  acks = λ q h. g.inv.loads.ack_below r q (stay_old d.most is_going (d.taking r) (Asking q) h);
}

-- what the save begins with
record IsQuiet (d : sight.Desk) (s r anchor : ℕ) (source : List ℕ) : Type 0 where
  pub queue : d.queue ≡ []
  pub held : (h : ℕ) → d.held h ≡ None
  pub block : d.block s anchor ≡ Some source
  pub file : d.file s ≡ true
  pub live : d.live r ≡ true
  pub apart : s ≢ r

module _ (d : sight.Desk) (s r anchor : ℕ) (source : List ℕ) (w : IsQuiet d s r anchor source) where
  abbrev saved : sight.Desk
  saved = sight.saved d s anchor r

  abbrev offered : Message
  offered = offer d s r anchor

  offer_queued : saved.queue ≡ offered ∷ []
  offer_queued = ap (λ (q : List Message). q ++ offered ∷ []) w.queue

  none_held : (h : ℕ) → saved.held h ≡ None
  none_held h = put_all (λ j (v : Option Message). v ≡ None) d.held s (sight.still_held (d.held s) 0)
      (ap (λ (v : Option Message). sight.still_held v 0) (w.held s)) (λ j ne. w.held j) h

  module _ (last : sight.Desk) (b : Began (sight.picked saved r offered Recorded) r offered.letter last) where
    abbrev p : Pair
    p = pair_of d s r anchor source b.anchor b.address b.raw

    abbrev f : ℕ
    f = d.next_ref + 1

    -- the offer is taken, and the first fetch waits
    first_stage : Stage p last (fetch_of p f p.id ∷ []) (Open (outgoing_at p 0 p.id)) (Fetching (incoming_at p 0 f)) []
    first_stage =
        let bl = put (d.block r) b.anchor (Some []) in
        subst (λ (z : sight.Desk). Stage p z (fetch_of p f p.id ∷ []) (Open (outgoing_at p 0 p.id))
        (Fetching (incoming_at p 0 f)) []) (sym b.seen) (record {
          queue = ap (λ (q : List Message). q ++ (fetch_of p f p.id ∷ [])) (ap (without_first r) offer_queued ∙
              without_one r offered refl);
          others = λ h ne. let_go saved.held r offered none_held h;
          sends = put_same d.sending s _;
          takes = put_same d.taking r _;
          source = ap (λ (g : ℕ → Option (List ℕ)). g anchor) (put_other d.block r bl s w.apart) ∙ w.block;
          document = ap (λ (g : ℕ → Option (List ℕ)). g b.anchor) (put_same d.block r bl) ∙
              put_same (d.block r) b.anchor (Some []);
          file = w.file;
          live = w.live;
          next = omega arith;
        })

    first_free : IsFree p last
    first_free = subst (λ (z : sight.Desk). IsFree p z) (sym b.seen) (let_go saved.held r offered none_held s)

-- ---- the law

is_quiet : (d : Desk) (s r : List ℕ) (k : ℕ) (t u : Task) (source : List ℕ) → Fits d → CanSaveFile d s r k t u source →
    IsQuiet (seen d) t.handle u.handle k source
is_quiet d s r k t u source f c =
    let is_t : task_of t.handle d.tasks ≡ Some t = found_task (has_name s) d.tasks t f.handles c.sender_is in
    let is_u : task_of u.handle d.tasks ≡ Some u = found_task (has_name r) d.tasks u f.handles c.receiver_is in
    record {
      queue = ap (map seen_parcel) c.queue;
      held = λ h. ap (option_map seen_parcel) (none_seated h d.post.seats c.held);
      block = ap (λ (m : ℕ → Option (List ℕ)). m k) (field_is (λ (y : Task). blocks_of y.slot) (λ a. None) t.handle
          d.tasks t is_t) ∙ block_is t.slot k ∙ c.block;
      file = field_is (λ (y : Task). answers_none y.manner) false t.handle d.tasks t is_t ∙ c.answers;
      live = live_of d u.handle u is_u;
      apart = c.apart;
    }

-- a save that was accepted, and polls that are refused nothing
record IsSavedFor (d : Desk) (s r : List ℕ) (k : ℕ) (leaf : List ℕ) (t u : Task) (source : List ℕ)
    (id : ℕ) : Type 0 where
  pub valid : in_range (command.Save s k r leaf) ≡ true
  pub can : CanSaveFile d s r k t u source
  pub plays : is_raw u.manner ≡ false
  pub accepted : (step d (command.Save s k r leaf)).1 ≡ reply.Sent id
  pub all : all_granted (step d (command.Save s k r leaf)).0 (eight_polls r s) ≡ true

module _ (d : Desk) (w : IsReached d) (s r : List ℕ) (k : ℕ) (leaf : List ℕ) (t u : Task) (source : List ℕ) (id : ℕ)
    (c : IsSavedFor d s r k leaf t u source id) where
  abbrev hs : ℕ
  hs = t.handle

  abbrev hr : ℕ
  hr = u.handle

  abbrev save : Command
  save = command.Save s k r leaf

  abbrev d0 : Desk
  d0 = (step d save).0

  abbrev D : sight.Desk
  D = seen d

  fitting : Fits d
  fitting = fits d w.kept

  quiet : IsQuiet D hs hr k source
  quiet = is_quiet d s r k t u source fitting c.can

  saved_is : IsSaved d d0 t hr k id
  saved_is = save_step d s k r leaf t u id fitting c.can.sender_is c.can.receiver_is c.accepted

  seen0 : seen d0 ≡ sight.saved D hs k hr
  seen0 = ap sight.lost saved_is.seen

  names : (is_name s ≡ true) × (is_name r ≡ true)
  names = save_names s k r leaf c.valid

  kept0 : IsDesk d0
  kept0 = step-keeps d save c.valid w.kept

  named_s : IsNamed s d0 hs
  named_s = ap (named_in s) saved_is.keys ∙ sym (handle_named s d.tasks) ∙ ap (option_map (λ (y : Task). y.handle))
      c.can.sender_is

  named_r : IsNamed r d0 hr
  named_r = ap (named_in r) saved_is.keys ∙ sym (handle_named r d.tasks) ∙ ap (option_map (λ (y : Task). y.handle))
      c.can.receiver_is

  played_s : IsPlayed d0 hs
  played_s = ap (raw_in hs) saved_is.keys ∙ sym (raw_is hs d.tasks) ∙ field_is (λ (y : Task). is_raw y.manner) false hs
      d.tasks t (found_task (has_name s) d.tasks t fitting.handles c.can.sender_is) ∙ saved_is.plays

  played_r : IsPlayed d0 hr
  played_r = ap (raw_in hr) saved_is.keys ∙ sym (raw_is hr d.tasks) ∙ field_is (λ (y : Task). is_raw y.manner) false hr
      d.tasks u (found_task (has_name r) d.tasks u fitting.handles c.can.receiver_is) ∙ c.plays

  first : IsPolled d0 hr (step d0 (command.Poll r))
  first = is_polled d0 r hr kept0 names.1 named_r

  abbrev one : Desk
  one = (step d0 (command.Poll r)).0

  -- the offer is taken
  began : Began (sight.picked (sight.saved D hs k hr) hr (offer D hs hr k) Recorded) hr (offer D hs hr k).letter
      (seen one)
  began =
      let m = offer D hs hr k in
      let none = ap (λ (y : sight.Desk). y.held hr) seen0 ∙ none_held D hs hr k source quiet hr in
      let queue = ap (λ (y : sight.Desk). y.queue) seen0 ∙ offer_queued D hs hr k source quiet in
      subst (λ (y : sight.Desk). Began (sight.picked y hr m Recorded) hr m.letter (seen one)) seen0
      (other.save_turn d0 hr m (step d0 (command.Poll r)) (first.turn m refl played_r none queue refl) (granted d0 (command.Poll r)
      (from_second s r) c.all) (λ z. let y : Recorded ≡ Acknowledge = z in (cc)) refl)

  abbrev places : Pair
  places = pair_of D hs hr k source began.anchor began.address began.raw

  places_older : Older places
  places_older = older (masked w.gave (view d)) w.stands.good hs hr k source began.anchor began.address began.raw
      c.can.apart

  here : Here s r places one
  here = next_here hr (step d0 (command.Poll r)) (record {
    kept = kept0;
    plays_sender = played_s;
    plays_receiver = played_r;
    sender = named_s;
    receiver = named_r;
  }) first

  rest : all_granted one (from_second s r) ≡ true
  rest = rest_granted d0 (command.Poll r) (from_second s r) c.all

  newer_fetch : places.id < D.next_ref + 1
  newer_fetch = omega arith

  ends : EndsByFile d0 s r hs hr id source
  ends =
      let stage = first_stage D hs hr k source quiet (seen one) began in
      let free = first_free D hs hr k source quiet (seen one) began in
      subst (λ i. EndsByFile d0 s r hs hr i source) saved_is.ref (record {
        before = done7 s r names.0 names.1 places places_older one here (D.next_ref + 1) newer_fetch stage free rest;
        takes = done8 s r names.0 names.1 places places_older one here (D.next_ref + 1) newer_fetch stage free rest;
        sends = sent8 s r names.0 names.1 places places_older one here (D.next_ref + 1) newer_fetch stage free rest;
      })

pub scrap_alternates : (d : Desk) → IsReached d → ScrapAlternates d
scrap_alternates d w s r k leaf t u source id plays valid can accepted all = ends d w s r k leaf t u source id (record {
  valid = valid;
  can = can;
  plays = plays;
  accepted = accepted;
  all = all;
})

pub all_scrap_alternate : AfterPlayed AllScrapAlternate
all_scrap_alternate pool handle ref files cs from ranged q s r k leaf t u source id valid can =
    always ScrapAlternates scrap_alternates pool handle ref files cs from ranged s r k leaf t u source id
    (plays_named pool handle ref files cs q r u can.receiver_is) valid can
