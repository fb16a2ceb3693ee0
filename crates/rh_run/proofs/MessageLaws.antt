-- The messages of a world's post as they are listed, and those of its desk in a list.
use Rattle.std.proofs.Common.{◌≡◌, ℕ, Bool, true, false, refl, ap₂, sym, ◌∙◌, List, [], ◌∷◌, ◌++◌, Option, Some, None}
use Rattle.std.specs.Prelude.{◌==◌, IfSome, filter, map}
use Rattle.std.specs.List.{AllByRecursion, flat_map}
use Rattle.std.proofs.lemmas.Bool.{eqb-true}
use Rattle.std.proofs.lemmas.List.{map-append}
use Rattle.rh_defs.specs.Laws.{HoldsOwn, IsDesk, IsHeld}
use Rattle.rh_defs.specs.Messages.{Parcel}
use Rattle.rh_defs.specs.Order.{is_to}
use Rattle.rh_defs.specs.Post.{Seat}
use Rattle.rh_defs.specs.Desk.{Desk}
use Rattle.rh_figure.specs.Scene as scene
use Rattle.rh_scene.specs.SightMessages.{seen_item, message_items}
use Rattle.rh_wimp.specs.Chains.{held_list, seat_row}
use Rattle.rh_wimp.specs.QueueItems as listed

-- those that wait for a task are for it
waiting-seen : (h : ℕ) (ps : List Parcel) → map (listed.message_item_of h false) (filter (is_to h) ps) ≡ map (seen_item false) (filter (is_to h) ps)
waiting-seen h [] = refl
waiting-seen h (p ∷ ps) = go (p.to == h) refl (waiting-seen h ps)
  where
    go : (b : Bool) → (p.to == h) ≡ b → map (listed.message_item_of h false) (filter (is_to h) ps) ≡ map (seen_item false) (filter (is_to h) ps)
        → map (listed.message_item_of h false) (filter (is_to h) (p ∷ ps)) ≡ map (seen_item false) (filter (is_to h) (p ∷ ps))
    go false k rest = rw k rest
    go true k rest =
        let own : p.to ≡ h = eqb-true p.to h k in
        let head : listed.message_item_of h false p ≡ seen_item false p = rw (← own) refl in
        rw k (ap₂ ◌∷◌ head rest)

waiting-all : (ps : List Parcel) (seats : List Seat)
    → listed.waiting_items (map (seat_row ps) seats) ≡ map (seen_item false) (flat_map (λ (s : Seat). filter (is_to s.handle) ps) seats)
waiting-all ps [] = refl
waiting-all ps (s ∷ seats) =
    ap₂ ◌++◌ (waiting-seen s.handle ps) (waiting-all ps seats)
    ∙ sym (map-append (seen_item false) (filter (is_to s.handle) ps) (flat_map (λ (x : Seat). filter (is_to x.handle) ps) seats))

-- a task holds what is for it
held-seen : (next h : ℕ) (o : Option Parcel) → IfSome o (IsHeld next h) → map (listed.message_item_of h true) (held_list o) ≡ map (seen_item true)
    (scene.held_list o)
held-seen next h None is = refl
held-seen next h (Some p) is = let own : p.to ≡ h = is.own in rw (← own) refl

held-all : (next : ℕ) (ps : List Parcel) (seats : List Seat) → AllByRecursion (HoldsOwn next) seats
    → listed.held_items (map (seat_row ps) seats) ≡ map (seen_item true) (flat_map (λ (s : Seat). scene.held_list s.holds) seats)
held-all next ps [] own = refl
held-all next ps (s ∷ seats) own =
    ap₂ ◌++◌ (held-seen next s.handle s.holds own.0) (held-all next ps seats own.1)
    ∙ sym (map-append (seen_item true) (scene.held_list s.holds) (flat_map (λ (x : Seat). scene.held_list x.holds) seats))

pub messages-seen : (d : Desk) → IsDesk d → listed.message_items d.post ≡ message_items d
messages-seen d is =
    ap₂ ◌++◌ (waiting-all d.post.queued d.post.seats) (held-all d.post.next_ref d.post.queued d.post.seats is.post.held)
