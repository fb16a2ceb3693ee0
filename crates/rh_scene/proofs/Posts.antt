-- The list of messages, and the post that it lists.
use Rattle.rh_scene.proofs.Common.{◌≡◌, ℕ, ◌+◌, ◌<◌, ◌≤◌, Bool, true, false, refl, ap, ◌∙◌, arith, List, [], ◌∷◌, ◌++◌, map, Option, Some}
use Rattle.rh_scene.proofs.Common.{None, ◌==◌, IfSome, find, if◌then◌else◌, AllByRecursion, option_map, ne_eqb, eqb-true, IsDesk, Desk, Task}
use Rattle.rh_scene.proofs.Common.{Scene, MessageItem, lies_in}
use Rattle.std.specs.List.{flat_map}
use Rattle.rh_defs.specs.Laws.{HoldsOwn, IsHeld, Rise, seat_handles, task_handles}
use Rattle.rh_defs.specs.Messages.{Parcel}
use Rattle.rh_defs.specs.Post.{Seat, held_by}
use Rattle.rh_figure.specs.declared.piece.Kind.TheVariants.{Claimed, Posted}
use Rattle.rh_figure.specs.Layout.{is_new_message, posted_or}
use Rattle.rh_figure.specs.Scene.{held_list, ref_of}
use Rattle.rh_scene.specs.SightMessages.{held_on, held_ref, is_held_by, seen_item, message_items, ref_or_none, waiting_on}

-- ---- the message in a block

-- what is told of a message is told of the first parcel in the block
module _ (b : ℕ) where
  abbrev stands : Parcel → Bool
  stands p = p.block == b

  abbrev told : Option MessageItem → Option ℕ
  told o = option_map (λ (m : MessageItem). m.my_ref) o

  abbrev known : Option Parcel → Option ℕ
  known o = option_map (λ (p : Parcel). p.message.my_ref) o

  listed-part : (h : Bool) (ps : List Parcel) (ms : List MessageItem) (qs : List Parcel) → told (find (lies_in b) ms) ≡ known (find stands qs)
      → told (find (lies_in b) (map (seen_item h) ps ++ ms)) ≡ known (find stands (ps ++ qs))
  listed-part h [] ms qs e = e
  listed-part h (p ∷ ps) ms qs e = go (p.block == b) refl (listed-part h ps ms qs e)
    where
      go : (t : Bool) → (p.block == b) ≡ t → told (find (lies_in b) (map (seen_item h) ps ++ ms)) ≡ known (find stands (ps ++ qs))
          → told (find (lies_in b) (map (seen_item h) (p ∷ ps) ++ ms)) ≡ known (find stands ((p ∷ ps) ++ qs))
      go true k rest = rw k refl
      go false k rest = rw k rest

  held-part : (h : Bool) (ps : List Parcel) → told (find (lies_in b) (map (seen_item h) ps)) ≡ known (find stands ps)
  held-part h [] = refl
  held-part h (p ∷ ps) = go (p.block == b) refl (held-part h ps)
    where
      go : (t : Bool) → (p.block == b) ≡ t → told (find (lies_in b) (map (seen_item h) ps)) ≡ known (find stands ps)
          → told (find (lies_in b) (map (seen_item h) (p ∷ ps))) ≡ known (find stands (p ∷ ps))
      go true k rest = rw k refl
      go false k rest = rw k rest

  pub ref-in-block : (d : Desk) → told (find (lies_in b) (message_items d)) ≡ known (find stands (waiting_on d ++ held_on d))
  ref-in-block d = listed-part false (waiting_on d) (map (seen_item true) (held_on d)) (held_on d) (held-part true (held_on d))

-- ---- what a task holds

none-waits : (h : ℕ) (ps : List Parcel) (ms : List MessageItem) → find (is_held_by h) (map (seen_item false) ps ++ ms) ≡ find (is_held_by h) ms
none-waits h [] ms = refl
none-waits h (p ∷ ps) ms = none-waits h ps ms

-- seats of other handles
abbrev Others : ℕ → List Seat → Type 0
Others h seats = AllByRecursion (λ (s : Seat). (s.handle == h) ≡ false) seats

others-above : (least next h : ℕ) (tasks : List Task) (seats : List Seat) → seat_handles seats ≡ task_handles tasks
    → Rise (λ (t : Task). t.handle) least next tasks → h < least → Others h seats
others-above least next h tasks [] e r l = tt
others-above least next h [] (s ∷ seats) e r l = absurd (cc)
others-above least next h (t ∷ tasks) (s ∷ seats) e r l =
    let here : s.handle ≡ t.handle = cc in
    let rest : seat_handles seats ≡ task_handles tasks = cc in
    let low : least ≤ t.handle = r.0 in
    (ne_eqb s.handle h (λ q. omega arith), others-above (t.handle + 1) next h tasks seats rest r.1 (omega arith))

held-other : (next h : ℕ) (seats : List Seat) → AllByRecursion (HoldsOwn next) seats → Others h seats
    → find (is_held_by h) (map (seen_item true) (flat_map (λ (s : Seat). held_list s.holds) seats)) ≡ None
held-other next h [] own off = refl
held-other next h (s ∷ seats) own off = go s.holds own.0 (held-other next h seats own.1 off.1)
  where
    go : (o : Option Parcel) → IfSome o (IsHeld next s.handle)
        → find (is_held_by h) (map (seen_item true) (flat_map (λ (x : Seat). held_list x.holds) seats)) ≡ None
        → find (is_held_by h) (map (seen_item true) (held_list o ++ flat_map (λ (x : Seat). held_list x.holds) seats)) ≡ None
    go None is rest = rest
    go (Some p) is rest =
        let mine : (p.to == h) ≡ false = ap (λ n. n == h) is.own ∙ off.0 in
        rw mine rest

held-first : (least next given h : ℕ) (tasks : List Task) (seats : List Seat) → seat_handles seats ≡ task_handles tasks
    → Rise (λ (t : Task). t.handle) least next tasks → AllByRecursion (HoldsOwn given) seats
    → ref_or_none (find (is_held_by h) (map (seen_item true) (flat_map (λ (s : Seat). held_list s.holds) seats))) ≡ ref_of (held_by h seats)
held-first least next given h tasks [] e r own = refl
held-first least next given h [] (s ∷ seats) e r own = absurd (cc)
held-first least next given h (t ∷ tasks) (s ∷ seats) e r own =
    let here : s.handle ≡ t.handle = cc in
    let rest : seat_handles seats ≡ task_handles tasks = cc in
    go here rest (s.handle == h) refl s.holds own.0 (held-first (t.handle + 1) next given h tasks seats rest r.1 own.1)
  where
    go : s.handle ≡ t.handle → seat_handles seats ≡ task_handles tasks → (b : Bool) → (s.handle == h) ≡ b → (o : Option Parcel)
        → IfSome o (IsHeld given s.handle)
        → ref_or_none (find (is_held_by h) (map (seen_item true) (flat_map (λ (x : Seat). held_list x.holds) seats))) ≡ ref_of (held_by h seats)
        → ref_or_none (find (is_held_by h) (map (seen_item true) (held_list o ++ flat_map (λ (x : Seat). held_list x.holds) seats))) ≡ ref_of
        (if b then o else held_by h seats)
    go here rest true k None is more =
        let same : s.handle ≡ h = eqb-true s.handle h k in
        ap ref_or_none (held-other given h seats own.1 (others-above (t.handle + 1) next h tasks seats rest r.1 (omega arith)))
    go here rest true k (Some p) is more =
        let mine : (p.to == h) ≡ true = ap (λ n. n == h) is.own ∙ k in
        rw mine refl
    go here rest false k None is more = more
    go here rest false k (Some p) is more =
        let mine : (p.to == h) ≡ false = ap (λ n. n == h) is.own ∙ k in
        rw mine more

-- the list has the message that a task holds
pub held-is : (d : Desk) → IsDesk d → (h : ℕ) → held_ref h (message_items d) ≡ ref_of (held_by h d.post.seats)
held-is d is h =
    ap ref_or_none (none-waits h (waiting_on d) (map (seen_item true) (held_on d)))
    ∙ held-first 0 d.next_handle d.post.next_ref h d.tasks d.post.seats is.seats is.handles is.post.held

-- ---- what the block is

-- a message by its ref, if one lies in the block
abbrev pub ref_told : Option Parcel → Option ℕ
ref_told o = option_map (λ (p : Parcel). p.message.my_ref) o

pub posted-kind : (n r : ℕ) (o : Option Parcel) → Some r ≡ ref_told o → Posted r ≡ posted_or n o
posted-kind n r None e = absurd (cc)
posted-kind n r (Some p) e = let same : r ≡ p.message.my_ref = cc in ap Posted same

pub posted-new : (x : Scene) (r : ℕ) (o : Option Parcel) → Some r ≡ ref_told o → (r == x.before.next_ref) ≡ is_new_message x o
posted-new x r None e = absurd (cc)
posted-new x r (Some p) e = let same : r ≡ p.message.my_ref = cc in ap (λ n. n == x.before.next_ref) same

pub claimed-kind : (n : ℕ) (o : Option Parcel) → None ≡ ref_told o → Claimed n ≡ posted_or n o
claimed-kind n None e = refl
claimed-kind n (Some p) e = absurd (cc)

pub claimed-new : (x : Scene) (o : Option Parcel) → None ≡ ref_told o → false ≡ is_new_message x o
claimed-new x None e = refl
claimed-new x (Some p) e = absurd (cc)
