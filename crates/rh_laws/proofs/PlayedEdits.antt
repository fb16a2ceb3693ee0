-- What records wait for beside tasks with code of their own, while messages go back, tasks begin and end, and blocks and records are others.
use Rattle.rh_laws.proofs.Common.{Bool, Has, List, None, Option, Some, ap, arith, eqb_tells, false, inl, inr, put_other, put_same, refl, sym, true, ℕ, ◌+◌, ◌<◌}
use Rattle.rh_laws.proofs.Common.{◌∙◌, ◌≡◌, ◌≤◌}
use Rattle.rh_safety.specs.RawIds.{Gave}
use Rattle.rh_safety.proofs.Ends.{In, Letter, Message, Out, in_id, put}
use Rattle.rh_safety.proofs.Invariant.{IsLive, Knows}
use Rattle.rh_safety.proofs.Moves.{none_left}
use Rattle.rh_safety.proofs.Posts.{killed_known, returned_known, started_known, unheld}
use Rattle.rh_safety.proofs.SeenPosts.{with_scrap}
use Rattle.rh_safety.proofs.Sight.{Desk, Scrap, killed, returned, started}
use Rattle.rh_laws.proofs.Dones.{was-live}
use Rattle.rh_laws.proofs.PlayedDeeds.{Codes, Mine, PlayedWait}
use Rattle.rh_laws.proofs.WantTasks.{blank-in, blank-out, blank-wants, calm}
use Rattle.rh_laws.proofs.WantEdits.{KeepsFile, killed-on, killed-waits, returned-on, returned-waits, started-on, started-waits}
use Rattle.rh_laws.proofs.Wants.{HasWant, InWants, OutWants, WaitsFor, Want, Wants, part, peer_of}

-- ---- from one desk to the next

pub record CarriesOver (C : ℕ → Bool) (R : Gave) (d e : Desk) : Type 0 where
  pub ins : (h : ℕ) (w : Want) (i : ℕ) → InWants (e.taking h) w i → InWants (d.taking h) w i
  pub outs : (h : ℕ) (w : Want) → OutWants (e.sending h) (e.file h) w → OutWants (d.sending h) (d.file h) w
  pub waits : (h : ℕ) (w : Want) (x : Wants e h w) → Mine C R x → WaitsFor d h w → WaitsFor e h w
  pub live : (ref : ℕ) → IsLive e.queue e.held ref → IsLive d.queue d.held ref
  pub knows : (l : Letter) → Knows e l → Knows d l
  pub taking : (r : ℕ) (v : In) → Has v (e.taking r) → (u : In) × (Has u (d.taking r) × (in_id u ≡ in_id v))
  pub held : (k : ℕ) (m : Message) → e.held k ≡ Some m → d.held k ≡ Some m

-- where a handle that isn't theirs then wasn't theirs
pub carry : {C S : ℕ → Bool} {R : Gave} {d e : Desk} → CarriesOver S R d e → ((h : ℕ) → S h ≡ false → C h ≡ false) →
    ((l : Letter) → Knows d l → S l.from ≡ C l.from) → Codes S e →
    PlayedWait C R d → PlayedWait S R e
carry {S = S} {R = R} {d = d} {e = e} c less same codes p = record {
  waits = each;
  apart = λ h w x i j a b. p.apart h w x i j (c.ins h w i a) (c.ins h x j b);
  mute = λ ref mine live.
      let s = p.mute ref mine (c.live ref live) in record {
        some = s.some;
        letters = λ l kn. s.letters l (c.knows l kn);
        ids = λ r v has i. let u = c.taking r v has in s.ids r u.0 u.1.0 (u.1.1 ∙ i);
      };
  seated = λ k m is. p.seated k m (c.held k m is);
  codes = codes;
  senders = λ l kn. let old = c.knows l kn in p.senders l old ∙ sym (same l old);
}
  where
    each : (h : ℕ) (w : Want) (x : Wants e h w) → Mine S R x → WaitsFor e h w
    each h w (HasWant.comes {i} x) mine = c.waits h w (HasWant.comes x) mine (p.waits h w (HasWant.comes (c.ins h w i x)) mine)
    each h w (HasWant.goes x) mine = c.waits h w (HasWant.goes x) mine (p.waits h w (HasWant.goes (c.outs h w x)) (less (peer_of w) mine))

-- no handle is another one's
abbrev pub same_less : (C : ℕ → Bool) (h : ℕ) → C h ≡ false → C h ≡ false
same_less C h mine = mine

-- ---- the small edits

pub returned-played : {C : ℕ → Bool} {R : Gave} (d : Desk) (k : ℕ) (o : Option Message) → d.held k ≡ o →
    ((h : ℕ) (w : Want) → Wants d h w → d.live h ≡ true) → PlayedWait C R d → PlayedWait C R (returned d k o)
returned-played d k None is home p = p
returned-played {C} d k (Some m) is home p = carry (record {
  ins = λ h w i x. x;
  outs = λ h w x. x;
  waits = λ h w x mine. returned-waits d k (Some m) is (home h w x);
  live = λ ref. was-live (returned-on d k m is (part ref 0 0));
  knows = returned_known d k m is;
  taking = λ r v has. (v, (has, refl));
  held = λ j y. unheld d k j y;
}) (same_less C) (λ l kn. refl) (record { manners = p.codes.manners; unborn = p.codes.unborn }) p

pub killed-played : {C : ℕ → Bool} {R : Gave} (d : Desk) (k : ℕ) (sc : Option Scrap) → ((h : ℕ) (w : Want) → Wants d h w → d.live h ≡ true) →
    KeepsFile d (with_scrap sc (killed d k)) → PlayedWait C R d → PlayedWait C R (with_scrap sc (killed d k))
killed-played {C} d k sc home keeps p = carry (record {
  ins = λ h w i x. (blank-in d k h w i x).1;
  outs = λ h w x. (blank-out d k h false w x).1;
  waits = λ h w x mine. let z = blank-wants d k h false w x in killed-waits d k sc z.0 (home h w z.1) keeps;
  live = λ ref. was-live (killed-on d k sc (part ref 0 0));
  knows = killed_known d k;
  taking = λ r v has. (v, (none_left d.taking k r v has, refl));
  held = λ j y. unheld d k j y;
}) (same_less C) (λ l kn. refl) (record { manners = manners; unborn = p.codes.unborn }) p
  where
    manners : (h : ℕ) → put d.live k false h ≡ true → put d.raw k false h ≡ C h
    manners h live = elim (eqb_tells h k) [
      | inl z ↦ absurd (let y : false ≡ true = sym (put_same d.live k false) ∙ ap (put d.live k false) (sym z.1) ∙ live in (cc))
      | inr z ↦ put_other d.raw k false h z.1 ∙ p.codes.manners h (sym (put_other d.live k false h z.1) ∙ live)
    ]

-- the handles that are theirs, with one more
abbrev pub coded_more : (ℕ → Bool) → ℕ → Bool → ℕ → Bool
coded_more C h raw = put C h raw

pub started-played : {C : ℕ → Bool} {R : Gave} (d : Desk) (buf : ℕ) (deaf no_fetch raw : Bool) → ((l : Letter) → Knows d l → l.from < d.next_handle) →
    PlayedWait C R d →
    PlayedWait (coded_more C d.next_handle raw) R (started d buf deaf no_fetch raw)
started-played {C} d buf deaf no_fetch raw given p = carry (record {
  ins = λ h w i x. (blank-in d d.next_handle h w i x).1;
  outs = λ h w x. (blank-out d d.next_handle h no_fetch w x).1;
  waits = λ h w x mine. started-waits d buf deaf no_fetch raw (blank-wants d d.next_handle h no_fetch w x).0;
  live = λ ref. was-live (started-on d buf deaf no_fetch raw (part ref 0 0));
  knows = started_known d buf deaf no_fetch raw;
  taking = λ r v has. (v, (none_left d.taking d.next_handle r v has, refl));
  held = λ j y is. is;
}) less (λ l kn. put_other C d.next_handle raw l.from (λ e. let z = given l kn in omega (arith, z, e))) (record { manners = manners; unborn = unborn }) p
  where
    n : ℕ
    n = d.next_handle

    less : (h : ℕ) → put C d.next_handle raw h ≡ false → C h ≡ false
    less h mine = elim (eqb_tells h d.next_handle) [
      | inl z ↦ ap C z.1 ∙ p.codes.unborn d.next_handle (omega arith)
      | inr z ↦ sym (put_other C d.next_handle raw h z.1) ∙ mine
    ]

    manners : (h : ℕ) → put d.live d.next_handle true h ≡ true → put d.raw d.next_handle raw h ≡ put C d.next_handle raw h
    manners h live = elim (eqb_tells h d.next_handle) [
      | inl z ↦ ap (put d.raw d.next_handle raw) z.1 ∙ put_same d.raw d.next_handle raw ∙ sym (put_same C d.next_handle raw) ∙
          ap (put C d.next_handle raw) (sym z.1)
      | inr z ↦ put_other d.raw d.next_handle raw h z.1 ∙ p.codes.manners h (sym (put_other d.live d.next_handle true h z.1) ∙ live) ∙
          sym (put_other C d.next_handle raw h z.1)
    ]

    unborn : (h : ℕ) → d.next_handle + 1 ≤ h → put C d.next_handle raw h ≡ false
    unborn h le = put_other C d.next_handle raw h (λ e. omega (arith, le, e)) ∙ p.codes.unborn h (omega (arith, le))

-- blocks and the scrap file are others
pub framed-played : {C : ℕ → Bool} {R : Gave} (d : Desk) (bl hp : ℕ → ℕ → Option (List ℕ)) (sc : Option Scrap) →
    KeepsFile d (record d { block = bl; heap = hp; scrap = sc }) → PlayedWait C R d → PlayedWait C R (record d { block = bl; heap = hp; scrap = sc })
framed-played {C} d bl hp sc keeps p = carry (record {
  ins = λ h w i x. x;
  outs = λ h w x. x;
  waits = λ h w x mine. calm d d.sending d.taking bl hp sc keeps;
  live = λ ref. λ x. x;
  knows = λ l kn. kn;
  taking = λ r v has. (v, (has, refl));
  held = λ j y is. is;
}) (same_less C) (λ l kn. refl) (record { manners = p.codes.manners; unborn = p.codes.unborn }) p

-- records that no more wait, or wait for the same
pub record Fewer (d : Desk) (sd : ℕ → List Out) (tk : ℕ → List In) : Type 0 where
  pub ins : (h : ℕ) (w : Want) (i : ℕ) → InWants (tk h) w i → InWants (d.taking h) w i
  pub outs : (h : ℕ) (w : Want) → OutWants (sd h) (d.file h) w → OutWants (d.sending h) (d.file h) w
  pub taking : (r : ℕ) (v : In) → Has v (tk r) → (u : In) × (Has u (d.taking r) × (in_id u ≡ in_id v))

pub fewer-played : {C : ℕ → Bool} {R : Gave} (d : Desk) (sd : ℕ → List Out) (tk : ℕ → List In) (bl hp : ℕ → ℕ → Option (List ℕ)) → Fewer d sd tk →
    PlayedWait C R d → PlayedWait C R (record d { sending = sd; taking = tk; block = bl; heap = hp })
fewer-played {C} d sd tk bl hp f p = carry (record {
  ins = f.ins;
  outs = f.outs;
  waits = λ h w x mine. calm d sd tk bl hp d.scrap (λ g s l. s);
  live = λ ref x. x;
  knows = λ l kn. kn;
  taking = f.taking;
  held = λ j y is. is;
}) (same_less C) (λ l kn. refl) (record { manners = p.codes.manners; unborn = p.codes.unborn }) p
