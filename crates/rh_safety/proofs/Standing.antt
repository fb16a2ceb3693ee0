-- What is known of what is seen of a desk, after the small edits that change more than a slot.
use Rattle.rh_safety.proofs.Common.{◌≡◌, ℕ, Bool, true, false, List, [], Option, Some, None, refl, sym, ap, ◌∙◌, subst, arith, nat_lt}
use Rattle.rh_safety.proofs.Common.{option_map, eqb_tells, inl, inr, length, Letter, Message, Recorded, DataSave, Out, Open, Sending, out_id, in_id, is_open}
use Rattle.rh_safety.proofs.Common.{Offers, Edits, Good, Knows, LiveFile, kept, queued, put, put_same, put_other, how_many, one_more, sent}
use Rattle.rh_safety.specs.RawIds.{Gave}
use Rattle.rh_safety.proofs.Sight.{Desk, Scrap, bytes_of, is_busy, killed, lost_if, returned, saved, started}
use Rattle.rh_safety.proofs.Endings.{lost_good}
use Rattle.rh_safety.proofs.Posts.{returned_good, unheld}
use Rattle.rh_safety.proofs.Filings.{none_live}
use Rattle.rh_safety.proofs.Moves.{move_more}
use Rattle.rh_safety.proofs.Sends.{still_is}
use Rattle.rh_safety.proofs.Runs.{killed_good, saved_good, started_good}
use Rattle.rh_safety.proofs.Strangers.{Holds_less, foreign_good, held_known, put_down_good, slot_good}
use Rattle.rh_safety.proofs.Masks.{foreign, masked, masked_message, masked_scrap, mask_again, mask_foreign, mask_if, mask_killed, mask_knows}
use Rattle.rh_safety.proofs.Masks.{mask_live_file, mask_put_down, mask_returned, mask_sent, mask_some, mask_started}
use Rattle.rh_safety.proofs.Raws.{Raws, is_known, raws_foreign, raws_killed, raws_less, raws_other, raws_out, raws_returned, raws_sent, raws_started}
use Rattle.rh_safety.proofs.Keeps.{Tells, stands}

-- a message put down
less_held : (d : Desk) (h : ℕ) → Holds_less d (put d.held h None)
less_held d h k y is = unheld d h k y is

raws_down : {R : Gave} {H : ℕ → Bool} {o : Offers} (d : Desk) (h : ℕ) → Raws R H o d → Raws R H o (record d { held = put d.held h None })
raws_down d h w = raws_less (held_known d (put d.held h None) (less_held d h)) (λ y has un. has) (λ s v has. has) (λ s v has. has) w.manners w

-- what is held after a send was held before it
less_sent : (R S : Gave) (d : Desk) (h : ℕ) (m : Message) → ((l : Letter) → Knows d l → S l.me ≡ R l.me) →
    Holds_less (masked R d) (λ k. option_map (masked_message S) ((sent d h m).held k))
less_sent R S d h m agree k y is =
    let w = mask_some S ((sent d h m).held k) y is in
    let old : d.held k ≡ Some w.0 = still_is d h m.letter.answers k w.0 w.1.0 in
    ap (option_map (masked_message R)) old ∙ ap (λ (z : Message). Option.Some z)
    (sym (mask_if R S w.0 (agree w.0.letter (kept k w.0 old refl))) ∙ w.1.1)

-- the ref of the next message is one of theirs
abbrev pub theirs_next : Gave → Desk → Gave
theirs_next R d = put R d.next_ref true

-- that message as it is seen, and what is held then
abbrev pub shown : Gave → Desk → Message → Message
shown R d m = masked_message (theirs_next R d) m

abbrev pub holds : Gave → Desk → ℕ → Message → ℕ → Option Message
holds R d h m k = option_map (masked_message (theirs_next R d)) ((sent d h m).held k)

module _ {o : Offers} {e : Edits} {R : Gave} {d : Desk} where
  -- without the scrap file
  pub lost_stands : Tells o e R d → Tells o e R (record d { scrap = None })
  lost_stands g = stands g (lost_good g.good) g.raws

  pub killed_stands : (h : ℕ) → LiveFile (killed d h) → Tells o e R d → Tells o e R (killed d h)
  killed_stands h live g =
      let same = mask_killed R d h in
      stands g
      (subst (λ (z : Desk). Good o e z) (sym same) (killed_good h (subst LiveFile same (mask_live_file R (killed d h) live)) g.good))
      (subst (λ (z : Desk). Raws R g.coded o z) (sym same) (raws_killed (masked R d) h g.raws))

  pub returned_stands : (h : ℕ) → LiveFile (returned d h (d.held h)) → Tells o e R d → Tells o e R (returned d h (d.held h))
  returned_stands h live g =
      let same = mask_returned R d h (d.held h) in
      stands g
      (subst (λ (z : Desk). Good o e z) (sym same)
      (returned_good h (option_map (masked_message R) (d.held h)) refl (subst LiveFile same (mask_live_file R (returned d h (d.held h)) live)) g.good))
      (subst (λ (z : Desk). Raws R g.coded o z) (sym same)
      (raws_returned (masked R d) h (option_map (masked_message R) (d.held h)) refl g.raws))

  pub started_stands : (buf : ℕ) (deaf file raw : Bool) → nat_lt 0 buf ≡ true → Tells o e R d → Tells o e R (started d buf deaf file raw)
  started_stands buf deaf file raw some g =
      let same = mask_started R d buf deaf file raw in
      record {
        coded = put g.coded d.next_handle raw;
        good = subst (λ (z : Desk). Good o e z) (sym same) (started_good buf deaf file raw some g.good);
        raws = subst (λ (z : Desk). Raws R (put g.coded d.next_handle raw) o z) (sym same)
            (raws_started (masked R d) buf deaf file raw (λ l k. (g.good.inv.letters.below l k).from) g.raws);
      }

  -- ---- a save

  -- a task without code of its own
  pub plays : (h : ℕ) → d.live h ≡ true → d.raw h ≡ false → (g : Tells o e R d) → g.coded h ≡ false
  plays h live raw g = sym (g.raws.manners h live) ∙ raw

  pub saved_stands : (h a to : ℕ) {source : List ℕ} → d.block h a ≡ Some source → is_busy d h a ≡ false →
      nat_lt (how_many is_open (d.sending h)) d.most ≡ true → d.live h ≡ true → d.raw h ≡ false → Tells o e R d →
      Tells (put o d.next_ref (d.block h a)) e R (saved d h a to)
  saved_stands h a to {source} there idle few live raw g =
      let n = d.next_ref in
      let E : Desk = masked R d in
      let y : Sending = record { id = n; recipient = to; anchor = a; count = 0; last = n } in
      let vs = one_more d.most is_open (d.sending h) (Open y) in
      let new : ℕ → List Out = put d.sending h vs in
      let m : Message = record {
        code = Recorded;
        to = to;
        letter = record { from = h; me = n; answers = 0; kind = DataSave; address = 0; amount = length (bytes_of (d.block h a)) };
      } in
      let fresh : R n ≡ false = g.raws.refs n (omega arith) in
      let same : masked R (saved d h a to) ≡ saved E h a to = mask_sent R (record d { sending = new }) h m fresh in
      let mine = plays h live raw g in
      let order = g.good.inv.order in
      record {
        coded = g.coded;
        good = subst (λ (z : Desk). Good (put o n (d.block h a)) e z) (sym same)
            (saved_good h a to there idle few live g.good);
        raws = subst (λ (z : Desk). Raws R g.coded (put o n (d.block h a)) z) (sym same)
            (raws_sent (record E { sending = new }) h m refl refl mine refl order.in_below
            (raws_other (λ r w has theirs. let z = order.in_below r w has in
            put_other o n (d.block h a) (in_id w) (λ eq. omega (arith, z, eq)))
            (λ y has un theirs. let z = (g.good.inv.letters.below y.letter (queued y has refl)).me in
            put_other o n (d.block h a) y.letter.me (λ eq. omega (arith, z, eq)))
            (raws_out new h (Open y) (move_more out_id d.sending h d.most is_open (Open y) (λ w r eq.
            let z = order.out_below h w r in omega (arith, z, eq))) fresh fresh mine g.raws)));
      }

  -- ---- tasks with code of their own

  codes : (h : ℕ) → d.live h ≡ true → d.raw h ≡ true → (g : Tells o e R d) → g.coded h ≡ true
  codes h live raw g = sym (g.raws.manners h live) ∙ raw

  -- another slot
  pub slot_stands : (h : ℕ) (bl hp : ℕ → Option (List ℕ)) → d.live h ≡ true → d.raw h ≡ true → Tells o e R d →
      Tells o e R (record d { block = put d.block h bl; heap = put d.heap h hp })
  slot_stands h bl hp live raw g =
      let theirs = codes h live raw g in
      stands g (slot_good h bl hp (g.raws.none_out h theirs) (g.raws.none_in h theirs) g.good) g.raws

  -- what it holds put down, and the scrap file given up with it, or not
  pub down_stands : (h : ℕ) (lost : Bool) → LiveFile (lost_if lost (record d { held = put d.held h None })) → Tells o e R d →
      Tells o e R (lost_if lost (record d { held = put d.held h None }))
  down_stands h true live g =
      let E : Desk = record (masked R d) { scrap = None } in
      let same : masked R (record d { held = put d.held h None; scrap = None }) ≡ record E { held = put E.held h None } =
      ap (λ (z : Desk). record z { scrap = None }) (mask_put_down R d h) in
      stands g
      (subst (λ (z : Desk). Good o e z) (sym same)
      (put_down_good (put E.held h None) (less_held E h) (λ f s. none_live f s) (lost_good g.good)))
      (subst (λ (z : Desk). Raws R g.coded o z) (sym same) (raws_down E h g.raws))
  down_stands h false live g =
      let E : Desk = masked R d in
      let same = mask_put_down R d h in
      stands g
      (subst (λ (z : Desk). Good o e z) (sym same)
      (put_down_good (put E.held h None) (less_held E h) (subst LiveFile same (mask_live_file R (record d { held = put d.held h None }) live)) g.good))
      (subst (λ (z : Desk). Raws R g.coded o z) (sym same) (raws_down E h g.raws))

  -- ---- a message of such a task

  agree : (g : Tells o e R d) → (l : Letter) → Knows d l → theirs_next R d l.me ≡ R l.me
  agree g l k =
      let z = (g.good.inv.letters.below _ (mask_knows R d l k)).me in
      put_other R d.next_ref true l.me (λ eq. omega (arith, z, eq))

  file_agrees : (g : Tells o e R d) → (f : Scrap) → d.scrap ≡ Some f → theirs_next R d f.load ≡ R f.load
  file_agrees g f is = go (R f.load) refl
    where
      go : (b : Bool) → R f.load ≡ b → theirs_next R d f.load ≡ R f.load
      go true q = elim (eqb_tells f.load d.next_ref) [ inl w ↦ rw w.0 (sym q) | inr w ↦ rw w.0 refl ]
      go false q =
          let seen : masked_scrap R d.scrap ≡ Some f = ap (masked_scrap R) is ∙ rw q refl in
          let z = g.good.inv.loads.load_below f seen in
          put_other R d.next_ref true f.load (λ eq. omega (arith, z, eq))

  module _ (h : ℕ) (m : Message) (me : m.letter.me ≡ d.next_ref) (own : m.letter.from ≡ h) (live : d.live h ≡ true)
      (raw : d.raw h ≡ true) (g : Tells o e R d) where
    pub theirs : (theirs_next R d) m.letter.me ≡ true
    theirs = ap (theirs_next R d) me ∙ put_same R d.next_ref true

    answers_none : (shown R d m).letter.answers ≡ 0
    answers_none = rw theirs refl

    saves : (shown R d m).letter.kind ≡ DataSave
    saves = rw theirs refl

    -- the desk with the message, as it is seen
    pub sent_masked : masked (theirs_next R d) (sent d h m) ≡ foreign (masked R d) h (shown R d m) (holds R d h m)
    sent_masked = mask_foreign (theirs_next R d) d h m ∙
        ap (λ (z : Desk). foreign z h (shown R d m) (holds R d h m)) (mask_again R (theirs_next R d) d (agree g) (file_agrees g))

    -- the scrap file is given up then, or not; a new one of its own isn't seen
    pub foreign_stands : (E : Desk) → masked (theirs_next R d) E ≡ record (foreign (masked R d) h (shown R d m) (holds R d h m)) { scrap = None } →
        Tells (put o d.next_ref (Some [])) e (theirs_next R d) E
    foreign_stands E same =
        let F : Desk = record (masked R d) { scrap = None } in
        let known = masked R d in
        record {
          coded = g.coded;
          good = subst (λ (z : Desk). Good (put o d.next_ref (Some [])) e z) (sym same)
              (foreign_good {d = F} h (shown R d m) (holds R d h m) (less_sent R (theirs_next R d) d h m (agree g)) me own answers_none saves
              (g.good.inv.alive h live) (λ f s. none_live f s) (lost_good g.good));
          raws = subst (λ (z : Desk). Raws (theirs_next R d) g.coded (put o d.next_ref (Some [])) z) (sym same)
              (raws_foreign known h (shown R d m) (holds R d h m) (less_sent R (theirs_next R d) d h m (agree g)) own me (codes h live raw g)
              (ap is_known saves) g.good.inv g.raws);
        }

    pub kept_stands : LiveFile (sent d h m) → Tells (put o d.next_ref (Some [])) e (theirs_next R d) (sent d h m)
    kept_stands file =
        let known = masked R d in
        record {
          coded = g.coded;
          good = subst (λ (z : Desk). Good (put o d.next_ref (Some [])) e z) (sym sent_masked)
              (foreign_good {d = known} h (shown R d m) (holds R d h m) (less_sent R (theirs_next R d) d h m (agree g)) me own answers_none saves
              (g.good.inv.alive h live) (subst LiveFile sent_masked (mask_live_file (theirs_next R d) (sent d h m) file)) g.good);
          raws = subst (λ (z : Desk). Raws (theirs_next R d) g.coded (put o d.next_ref (Some [])) z) (sym sent_masked)
              (raws_foreign known h (shown R d m) (holds R d h m) (less_sent R (theirs_next R d) d h m (agree g)) own me (codes h live raw g)
              (ap is_known saves) g.good.inv g.raws);
        }
