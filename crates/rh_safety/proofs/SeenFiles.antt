-- The scrap file's DataLoad as it is seen of a post, by the desk's word for what is queued or held.
use Rattle.rh_safety.proofs.Common.{◌≡◌, ℕ, Bool, true, false, ◌||◌, List, [], ◌∷◌, Option, Some, None, refl, ap, ◌∙◌, subst, ◌⊎◌, inl, inr, ◌==◌, HaveOwnSeats}
use Rattle.rh_safety.proofs.Common.{if◌then◌else◌, map, list_any, option_map, eq-eqb, eqb_tells, Parcel, Post, Seat, held_by, post_is_live, Desk, Scrap}
use Rattle.rh_safety.proofs.Common.{with_delivered, view, seen_parcel, seen_scrap, Message, Has, is_equal, none_some, IsLive, waits, rests, LiveFile}
use Rattle.rh_defs.specs.Post.{holds_such}
use Rattle.rh_defs.specs.Desk.{kept_scrap}
use Rattle.rh_safety.proofs.Sight as sight
use Rattle.rh_safety.proofs.SeenSends.{held_seen}

-- ---- members that pass a test

pub passes : {A : Type 0} (test : A → Bool) (xs : List A) → list_any test xs ≡ true → (x : A) × (Has x xs × (test x ≡ true))
passes test [] some = absurd cc
passes {A} test (x ∷ xs) some = go (test x) refl some (passes test xs)
  where
    go : (b : Bool) → test x ≡ b → (b || list_any test xs) ≡ true → (list_any test xs ≡ true → (y : A) × (Has y xs × (test y ≡ true)))
        → (y : A) × (Has y (x ∷ xs) × (test y ≡ true))
    go true e s rest = (x, (inl refl, e))
    go false e s rest = let r = rest s in (r.0, (inr r.1.0, r.1.1))

pub one_of : (a b : Bool) → (a || b) ≡ true → (a ≡ true) ⊎ (b ≡ true)
one_of true b e = inl refl
one_of false b e = inr e

either_of : (a b : Bool) → (a ≡ true) ⊎ (b ≡ true) → (a || b) ≡ true
either_of true b e = refl
either_of false b (inl e) = absurd cc
either_of false b (inr e) = e

has_passing : {A : Type 0} (test : A → Bool) (x : A) (xs : List A) → Has x xs → test x ≡ true → list_any test xs ≡ true
has_passing test x [] has e = absurd has
has_passing test x (y ∷ xs) (inl same) e = either_of (test y) _ (inl (ap test same ∙ e))
has_passing test x (y ∷ xs) (inr has) e = either_of (test y) _ (inr (has_passing test x xs has e))

-- ---- a message that is queued or held

pub has_map : {A B : Type 0} (f : A → B) (x : A) (xs : List A) → Has x xs → Has (f x) (map f xs)
has_map f x [] q = absurd q
has_map f x (y ∷ xs) q = elim q as (λ _. Has (f x) (map f (y ∷ xs))) [ inl e ↦ inl (ap f e) | inr r ↦ inr (has_map f x xs r) ]

of_map : {A B : Type 0} (f : A → B) (y : B) (xs : List A) → Has y (map f xs) → (x : A) × (Has x xs × (f x ≡ y))
of_map f y [] has = absurd has
of_map f y (x ∷ xs) (inl e) = (x, (inl refl, e))
of_map f y (x ∷ xs) (inr has) = let w = of_map f y xs has in (w.0, (inr w.1.0, w.1.1))

held_is : (test : Parcel → Bool) (o : Option Parcel) → holds_such test o ≡ true → (p : Parcel) × ((o ≡ Some p) × (test p ≡ true))
held_is test None q = absurd cc
held_is test (Some p) q = (p, (refl, q))

-- the seat of a handle that holds a message
seat_of : (h : ℕ) (seats : List Seat) (p : Parcel) → held_by h seats ≡ Some p → (s : Seat) × (Has s seats × (s.holds ≡ Some p))
seat_of h [] p q = absurd (none_some None refl q)
seat_of h (s ∷ seats) p q = elim (eqb_tells s.handle h) [
  | inl w ↦ (s, (inl refl, rw w.0 at q))
  | inr w ↦ let z = seat_of h seats p (rw w.0 at q) in (z.0, (inr z.1.0, z.1.1))
]

seen_held : (o : Option Parcel) (m : Message) → option_map seen_parcel o ≡ Some m → (p : Parcel) × ((o ≡ Some p) × (seen_parcel p ≡ m))
seen_held None m q = absurd (none_some None refl q)
seen_held (Some p) m q = (p, (refl, cc))

pub live_seen : (p : Post) (ref : ℕ) → HaveOwnSeats p → post_is_live ref p ≡ true → IsLive (map seen_parcel p.queued) (held_seen p.seats) ref
unfolding post_is_live
live_seen p ref own live =
    let test : Parcel → Bool = λ m. m.message.my_ref == ref in
    elim (one_of (list_any test p.queued) (list_any (λ (s : Seat). holds_such test s.holds) p.seats) live) [
      | inl q ↦
          let r = passes test p.queued q in waits (seen_parcel r.0) (has_map seen_parcel r.0 p.queued r.1.0) (is_equal _ _ r.1.1)
      | inr q ↦
          let s = passes (λ (s : Seat). holds_such test s.holds) p.seats q in
          let m = held_is test s.0.holds s.1.1 in
          rests s.0.handle (seen_parcel m.0) (ap (option_map seen_parcel) (own s.0 s.1.0 ∙ m.1.0)) (is_equal _ _ m.1.1)
    ]

pub seen_live : (p : Post) (ref : ℕ) → IsLive (map seen_parcel p.queued) (held_seen p.seats) ref → post_is_live ref p ≡ true
unfolding post_is_live
seen_live p ref (waits m has same) =
    let test : Parcel → Bool = λ m. m.message.my_ref == ref in
    let w = of_map seen_parcel m p.queued has in
    either_of (list_any test p.queued) _ (inl (has_passing test w.0 p.queued w.1.0
    (eq-eqb _ _ (ap (λ (z : Message). z.letter.me) w.1.1 ∙ same))))
seen_live p ref (rests h m is same) =
    let test : Parcel → Bool = λ m. m.message.my_ref == ref in
    let w = seen_held (held_by h p.seats) m is in
    let s = seat_of h p.seats w.0 w.1.0 in
    either_of (list_any test p.queued) _ (inr (has_passing (λ (s : Seat). holds_such test s.holds) s.0 p.seats s.1.0
    (ap (holds_such test) s.1.1 ∙ eq-eqb _ _ (ap (λ (z : Message). z.letter.me) w.1.1 ∙ same))))

-- ---- a file that is kept

kept_live : (p : Post) (o : Option Scrap) (f : sight.Scrap) → HaveOwnSeats p → option_map seen_scrap (kept_scrap p o) ≡ Some f →
    IsLive (map seen_parcel p.queued) (held_seen p.seats) f.load
kept_live p None f own s = absurd (none_some None refl s)
kept_live p (Some file) f own s = go (post_is_live file.load p) refl s
  where
    go : (b : Bool) → post_is_live file.load p ≡ b → option_map seen_scrap (if b then Some file else None) ≡ Some f →
        IsLive (map seen_parcel p.queued) (held_seen p.seats) f.load
    go true live s =
        let same : seen_scrap file ≡ f = cc in
        subst (IsLive (map seen_parcel p.queued) (held_seen p.seats)) (ap (λ (z : sight.Scrap). z.load) same)
        (live_seen p file.load own live)
    go false live s = absurd (none_some None refl s)

pub delivered_live : (d : Desk) (p : Post) → HaveOwnSeats p → LiveFile (view (with_delivered p d))
unfolding with_delivered
delivered_live d p own f s = kept_live p d.scrap f own s
