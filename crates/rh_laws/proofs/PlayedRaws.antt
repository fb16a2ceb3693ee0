-- What a task with code of its own sends, and what it puts down, leaves each record waiting whose other end the desk plays.
use Rattle.rh_laws.proofs.Common.{Bool, Has, None, Option, Some, [], ap, arith, eqb_tells, false, inl, inr, put_other, put_same, subst, sym, true, ℕ, refl}
use Rattle.rh_laws.proofs.Common.{◌<◌, ◌∙◌, ◌∷◌, ◌≡◌, ◌≢◌}
use Rattle.rh_safety.specs.RawIds.{Gave}
use Rattle.rh_safety.proofs.Basics.{Has-append, Has-left}
use Rattle.rh_safety.proofs.Ends.{Letter, Message, put}
use Rattle.rh_safety.proofs.Invariant.{IsLive, Knows}
use Rattle.rh_safety.proofs.Posts.{unheld}
use Rattle.rh_safety.proofs.Sends.{sent_knows, still_is}
use Rattle.rh_safety.proofs.SeenPosts.{with_scrap}
use Rattle.rh_safety.proofs.Sight.{Desk, Scrap, sent}
use Rattle.rh_safety.proofs.Strangers.{held_known}
use Rattle.rh_laws.proofs.PlayedDeeds.{Mine, Mute, PlayedWait}
use Rattle.rh_laws.proofs.PlayedEdits.{carry, same_less}
use Rattle.rh_laws.proofs.WantEdits.{KeepsFile}
use Rattle.rh_laws.proofs.Wants.{HasWant, InWants, Unanswered, WaitsFor, Want, Wants, Was, peer_of, ref_of, still-asks, still-told}

-- the desk where the task with the handle holds nothing
abbrev pub put_down : Desk → ℕ → Option Scrap → Desk
put_down d h sc = record d { held = put d.held h None; scrap = sc }

module _ {C : ℕ → Bool} {R : Gave} (d : Desk) (h : ℕ) (theirs : C h ≡ true) (none : (w : Want) → Wants d h w → ⊥)
    (peers : (j : ℕ) (w : Want) (i : ℕ) → InWants (d.taking j) w i → R i ≡ false → peer_of w ≡ h → ⊥) (p : PlayedWait C R d) where
  -- no such record is of it
  apart : (j : ℕ) (w : Want) (x : Wants d j w) → Mine C R x → peer_of w ≡ h → ⊥
  apart j w (HasWant.comes {i} x) mine to = peers j w i x mine to
  apart j w (HasWant.goes x) mine to = let z : true ≡ false = sym theirs ∙ ap C (sym to) ∙ mine in (cc)

  -- what it holds is no message of such a record
  not-held : (j : ℕ) (w : Want) (x : Wants d j w) → Mine C R x → Unanswered d j w → (y : Message) → d.held h ≡ Some y → y.letter.me ≡ ref_of w → ⊥
  not-held j w x mine u y is me = elim (u.held h y is me).way [
    | inl way ↦ apart j w x mine (sym way.1 ∙ p.seated h y is)
    | inr way ↦ none w (subst (λ i. Wants d i w) (sym way.1 ∙ p.seated h y is) x)
  ]

  -- ---- it puts down what it holds

  down-waits : (sc : Option Scrap) → KeepsFile d (put_down d h sc) → (j : ℕ) (w : Want) (x : Wants d j w) → Mine C R x → WaitsFor d j w →
      WaitsFor (put_down d h sc) j w
  down-waits sc keeps j w x mine (inr a) =
      inr (still-told (record { room = refl; no_fetch = refl }) a (λ f s load. keeps f s (IsLive.waits a.answer a.queued (sym load))) a.queued)
  down-waits sc keeps j w x mine (inl u) =
      inl (still-asks (record { room = refl; no_fetch = refl }) (record {
        queue = λ y has me. Was.in_queue y has refl;
        held = λ i y is me. Was.in_hand i (unheld d h i y is);
      }) (now u.live) u)
    where
      now : IsLive d.queue d.held (ref_of w) → IsLive d.queue (put d.held h None) (ref_of w)
      now (IsLive.waits y has me) = IsLive.waits y has me
      now (IsLive.rests i y is me) = elim (eqb_tells i h) [
        | inl z ↦ absurd (not-held j w x mine u y (ap d.held (sym z.1) ∙ is) me)
        | inr z ↦ IsLive.rests i y (put_other d.held h None i z.1 ∙ is) me
      ]

  live-before : (ref : ℕ) → IsLive d.queue (put d.held h None) ref → IsLive d.queue d.held ref
  live-before ref (IsLive.waits y has me) = IsLive.waits y has me
  live-before ref (IsLive.rests i y is me) = IsLive.rests i y (unheld d h i y is) me

  pub down-played : (sc : Option Scrap) → KeepsFile d (put_down d h sc) → PlayedWait C R (put_down d h sc)
  down-played sc keeps = carry (record {
    ins = λ j w i x. x;
    outs = λ j w x. x;
    waits = down-waits sc keeps;
    live = live-before;
    knows = λ l kn. held_known d (put d.held h None) (λ i y is. unheld d h i y is) l kn;
    taking = λ r v has. (v, (has, refl));
    held = λ i y is. unheld d h i y is;
  }) (same_less C) (λ l kn. refl) (record { manners = p.codes.manners; unborn = p.codes.unborn }) p

  -- ---- it sends a message

  module _ (m : Message) (from : m.letter.from ≡ h) (me : m.letter.me ≡ d.next_ref) (below : (l : Letter) → Knows d l → l.me < d.next_ref)
      (refs : (j : ℕ) (w : Want) → Wants d j w → ref_of w < d.next_ref) (sc : Option Scrap) (keeps : KeepsFile d (with_scrap sc (sent d h m))) where
    abbrev E : Desk
    E = with_scrap sc (sent d h m)

    new-ref : (y : Message) → Has y (m ∷ []) → y.letter.me ≡ d.next_ref
    new-ref y (inl e) = ap (λ (z : Message). z.letter.me) (sym e) ∙ me
    new-ref y (inr never) = absurd never

    sent-waits : (j : ℕ) (w : Want) (x : Wants d j w) → Mine C R x → WaitsFor d j w → WaitsFor E j w
    sent-waits j w x mine (inr a) =
        let has = Has-left a.answer d.queue (m ∷ []) a.queued in
        inr (still-told (record { room = refl; no_fetch = refl }) a (λ f s load. keeps f s (IsLive.waits a.answer has (sym load))) has)
    sent-waits j w x mine (inl u) =
        inl (still-asks (record { room = refl; no_fetch = refl }) (record {
          queue = λ y has is. elim (Has-append y d.queue (m ∷ []) has) [
            | inl z ↦ Was.in_queue y z refl
            | inr z ↦ absurd (let q = new-ref y z in let b = refs j w x in omega (arith, q, b, is))
          ];
          held = λ i y is e. Was.in_hand i (still_is d h m.letter.answers i y is);
        }) (now u.live) u)
      where
        now : IsLive d.queue d.held (ref_of w) → IsLive E.queue E.held (ref_of w)
        now (IsLive.waits y has e) = IsLive.waits y (Has-left y d.queue (m ∷ []) has) e
        now (IsLive.rests i y is e) = elim (eqb_tells i h) [
          | inl z ↦ absurd (not-held j w x mine u y (ap d.held (sym z.1) ∙ is) e)
          | inr z ↦ IsLive.rests i y (put_other d.held h _ i z.1 ∙ is) e
        ]

    -- its ref is theirs
    abbrev S : Gave
    S = put R d.next_ref true

    not-new : (ref : ℕ) → S ref ≡ false → ref ≢ d.next_ref
    not-new ref mine e = let z : true ≡ false = sym (put_same R d.next_ref true) ∙ ap S (sym e) ∙ mine in (cc)

    as-it-was : (ref : ℕ) → ref ≢ d.next_ref → S ref ≡ false → R ref ≡ false
    as-it-was ref ne mine = sym (put_other R d.next_ref true ref ne) ∙ mine

    was-live : (ref : ℕ) → ref ≢ d.next_ref → IsLive E.queue E.held ref → IsLive d.queue d.held ref
    was-live ref ne (IsLive.waits y has e) = elim (Has-append y d.queue (m ∷ []) has) [
      | inl z ↦ IsLive.waits y z e
      | inr z ↦ absurd (ne (sym e ∙ new-ref y z))
    ]
    was-live ref ne (IsLive.rests i y is e) = IsLive.rests i y (still_is d h m.letter.answers i y is) e

    sent-mute : (ref : ℕ) → S ref ≡ false → IsLive E.queue E.held ref → Mute S E ref
    sent-mute ref mine live =
        let ne = not-new ref mine in
        let s = p.mute ref (as-it-was ref ne mine) (was-live ref ne live) in
        record {
          some = s.some;
          letters = λ l kn own. elim (sent_knows d h m from l kn) [
            | inl z ↦ s.letters l z (as-it-was l.me (not-new l.me own) own)
            | inr z ↦ absurd (not-new l.me own (ap (λ (y : Letter). y.me) z ∙ me))
          ];
          ids = s.ids;
        }

    pub sent-played : PlayedWait C S E
    sent-played = record {
      waits = each;
      apart = p.apart;
      mute = sent-mute;
      seated = λ i y is. p.seated i y (still_is d h m.letter.answers i y is);
      codes = record { manners = p.codes.manners; unborn = p.codes.unborn };
      senders = λ l kn. elim (sent_knows d h m from l kn) [
        | inl z ↦ put_other R d.next_ref true l.me (λ e. let b = below l z in omega (arith, b, e)) ∙ p.senders l z
        | inr z ↦ ap (λ (y : Letter). S y.me) z ∙ ap S me ∙ put_same R d.next_ref true ∙ sym theirs ∙ ap C (sym from) ∙ ap (λ (y : Letter). C y.from) (sym z)
      ];
    }
      where
        each : (j : ℕ) (w : Want) (x : Wants E j w) → Mine C S x → WaitsFor E j w
        each j w (HasWant.comes {i} x) mine =
            let own = as-it-was i (not-new i mine) mine in sent-waits j w (HasWant.comes x) own (p.waits j w (HasWant.comes x) own)
        each j w (HasWant.goes x) mine = sent-waits j w (HasWant.goes x) mine (p.waits j w (HasWant.goes x) mine)
