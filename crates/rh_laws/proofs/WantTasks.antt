-- What records wait for, by the tasks that have them: these are live, and the refs were given; and where a task has no records.
use Rattle.rh_laws.proofs.Common.{Bool, Desk, Has, List, None}
use Rattle.rh_laws.proofs.Common.{Option, Post, Scrap, Some, Task, []}
use Rattle.rh_laws.proofs.Common.{ap, arith, false}
use Rattle.rh_laws.proofs.Common.{inl, inr, keeps}
use Rattle.rh_laws.proofs.Common.{none_some, option_map, put_other}
use Rattle.rh_laws.proofs.Common.{refl, subst, sym, task_of, true}
use Rattle.rh_laws.proofs.Common.{view, with_delivered, ℕ, ◌<◌, ◌∙◌, ◌≡◌, ◌≢◌}
use Rattle.rh_defs.specs.Desk.{kept_scrap}
use Rattle.rh_safety.proofs.Ends.{Edits, In, Offers, Out}
use Rattle.rh_safety.proofs.Ends.{put}
use Rattle.rh_safety.proofs.Invariant.{Inv, IsLive}
use Rattle.rh_safety.proofs.Moves.{at_put}
use Rattle.rh_safety.proofs.SeenFiles.{seen_live}
use Rattle.rh_safety.proofs.Sight as sight
use Rattle.rh_safety.proofs.Sight.{owned}
use Rattle.rh_safety.proofs.View.{of, seen_scrap}
use Rattle.rh_laws.proofs.WantEdits.{KeepsFile, quiet-asks, quiet-told}
use Rattle.rh_laws.proofs.WantRecords.{InWant, by_ask, by_drain, by_fetch, in-want, out-want}
use Rattle.rh_laws.proofs.Wants.{HasWant, InWants, OutWants, WaitsFor, Want, Wants, ref_of, want_out}

-- a record is of a live task
pub home : (d : Desk) (h : ℕ) (w : Want) → Wants (view d) h w → (view d).live h ≡ true
home d h w x = go (task_of h d.tasks) x
  where
    some_of : {A : Type 0} (f : Task → List A) (v : Option Task) (y : A) → Has y (of f [] v) → of (λ t. true) false v ≡ true
    some_of f None y has = absurd has
    some_of f (Some t) y has = refl

    go : (v : Option Task) → Wants (view d) h w → (view d).live h ≡ true
    go v (HasWant.comes x) = some_of (λ t. t.taking) (task_of h d.tasks) x.one x.has
    go v (HasWant.goes x) = some_of (λ t. t.sending) (task_of h d.tasks) x.one x.has

-- records and blocks are others, and no message
pub calm : {h : ℕ} {w : Want} (d : sight.Desk) (sd : ℕ → List Out) (tk : ℕ → List In) (bl hp : ℕ → ℕ → Option (List ℕ)) (sc : Option sight.Scrap) →
    KeepsFile d (record d { sending = sd; taking = tk; block = bl; heap = hp; scrap = sc }) → WaitsFor d h w →
    WaitsFor (record d { sending = sd; taking = tk; block = bl; heap = hp; scrap = sc }) h w
calm d sd tk bl hp sc keeps (inl u) = inl (quiet-asks d 0 sd tk bl hp sc u)
calm d sd tk bl hp sc keeps (inr a) = inr (quiet-told d 0 sd tk bl hp sc a (λ f s load. keeps f s (IsLive.waits a.answer a.queued (sym load))))

-- the refs that records wait by are given
pub refs-below : {o : Offers} {e : Edits} {d : sight.Desk} → Inv o e d → (h : ℕ) (w : Want) → Wants d h w → ref_of w < d.next_ref
refs-below {d = d} inv h w (HasWant.comes x) = by (in-want x.one w x.wants)
  where
    here : {v : In} → x.one ≡ v → Has v (d.taking h)
    here same = subst (λ v. Has v (d.taking h)) same x.has

    by : InWant x.one w → ref_of w < d.next_ref
    by (by_fetch f same is) = let z = (inv.ins.buffer h f (inl (here same))).below in let r = ap ref_of is in omega (arith, z, r)
    by (by_drain f same is) = let z = (inv.ins.buffer h f (inr (here same))).below in let r = ap ref_of is in omega (arith, z, r)
    by (by_ask q same is) = let z = inv.loads.ack_below h q (here same) in let r = ap ref_of is in omega (arith, z, r)
refs-below {d = d} inv h w (HasWant.goes x) =
    let y = out-want (d.file h) x.one w x.wants in
    let z = (inv.outs.source h y.0 (subst (λ v. Has v (d.sending h)) y.1.0 x.has)).below in
    let r = ap ref_of y.1.1 in
    omega (arith, z, r)

-- ---- the taking of a message

-- a scrap file is kept whose DataLoad is there
pub file-kept : (d : Desk) (p : Post) (f : sight.Scrap) → (view d).scrap ≡ Some f →
    IsLive (view (with_delivered p d)).queue (view (with_delivered p d)).held f.load → (view (with_delivered p d)).scrap ≡ Some f
unfolding with_delivered
file-kept d p f e live = go d.scrap e
  where
    go : (v : Option Scrap) → option_map seen_scrap v ≡ Some f → option_map seen_scrap (kept_scrap p v) ≡ Some f
    go None q = absurd (none_some None refl q)
    go (Some file) q =
        let same : seen_scrap file ≡ f = cc in
        let there = seen_live p file.load (subst (IsLive (view (with_delivered p d)).queue (view (with_delivered p d)).held)
        (ap (λ (y : sight.Scrap). y.load) (sym same)) live) in
        rw there q

-- where one task has no records, the others' are as they were
pub blank-in : (d : sight.Desk) (k h : ℕ) (w : Want) (i : ℕ) → InWants (put d.taking k [] h) w i → (h ≢ k) × InWants (d.taking h) w i
blank-in d k h w i x = elim (at_put d.taking k [] h x.one x.has) [
  | inl z ↦ absurd z.1
  | inr z ↦ (z.0, record { one = x.one; has = z.1; wants = x.wants; id = x.id })
]

pub blank-out : (d : sight.Desk) (k h : ℕ) (b : Bool) (w : Want) → OutWants (put d.sending k [] h) (put d.file k b h) w →
    (h ≢ k) × OutWants (d.sending h) (d.file h) w
blank-out d k h b w x = elim (at_put d.sending k [] h x.one x.has) [
  | inl z ↦ absurd z.1
  | inr z ↦ (z.0, record { one = x.one; has = z.1; wants = ap (λ c. want_out c x.one) (sym (put_other d.file k b h z.0)) ∙ x.wants })
]

pub blank-wants : (d : sight.Desk) (k h : ℕ) (b : Bool) (w : Want) → HasWant (put d.taking k [] h) (put d.sending k [] h) (put d.file k b h) w →
    (h ≢ k) × Wants d h w
blank-wants d k h b w (HasWant.comes {i} x) = let z = blank-in d k h w i x in (z.0, HasWant.comes z.1)
blank-wants d k h b w (HasWant.goes x) = let z = blank-out d k h b w x in (z.0, HasWant.goes z.1)
