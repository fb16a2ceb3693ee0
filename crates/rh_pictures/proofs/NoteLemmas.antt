-- What is kept of the last messages.
use Rattle.rh_pictures.proofs.Common.{◌≡◌, ℕ, ◌+◌, ◌-◌, ◌<◌, ◌≤◌, Bool, true, false, refl, ap, ap₂, sym, ◌∙◌, arith, List, [], ◌∷◌, ◌++◌, length, map, take}
use Rattle.rh_pictures.proofs.Common.{drop, set, get_or, Option, Some, None, append-nil, ◌==◌}
use Rattle.rh_pictures.proofs.Common.{find, drop_all, take_all, Parcel, Desk, task_at, Before, scene_of, Share}
use Rattle.rh_pictures.proofs.Common.{Note, followed, noted, MessageItem, message_items, held_on, waiting_on, code_among}
use Rattle.std.specs.List.{refill}
use Rattle.std.proofs.lemmas.List.{get_or_default}
use Rattle.std.proofs.lemmas.List.Edits.{map_over_more}
use Rattle.rh_defs.specs.declared.message.Letter.{Letter}
use Rattle.rh_figure.specs.Scene.{Marks, Scene, held_list, sent_by}
use Rattle.rh_sheet.specs.declared.note.Whereabouts.{Whereabouts}
use Rattle.rh_sheet.specs.Fates.{answered_by, code_or_none, last_of, new_notes, next_taker, whereabouts, noted_with}
use Rattle.rh_sheet.specs.declared.sizes.TheConstants.{MOST_NOTES}
use Rattle.rh_scene.specs.SightMessages.{seen_item}
use Rattle.std.specs.List.{flat_map, list_any}
use Rattle.std.specs.Prelude.{◌||◌, is_some}
use Rattle.rh_defs.specs.Post.{Seat, answers_held}
use Rattle.rh_pictures.specs.Inner.Notes.{holds_as, seen_among}

-- ---- the code under which a message waits

code-held : (ref : ℕ) (qs : List Parcel) → code_among ref (map (seen_item true) qs) ≡ 0
code-held ref [] = refl
code-held ref (q ∷ qs) = code-held ref qs

code-both : (ref : ℕ) (ps qs : List Parcel)
    → code_among ref (map (seen_item false) ps ++ map (seen_item true) qs) ≡ code_or_none (find (λ (p : Parcel). p.message.my_ref == ref) ps)
code-both ref [] qs = code-held ref qs
code-both ref (p ∷ ps) qs = go (p.message.my_ref == ref) refl (code-both ref ps qs)
  where
    go : (b : Bool) → (p.message.my_ref == ref) ≡ b
        → code_among ref (map (seen_item false) ps ++ map (seen_item true) qs) ≡ code_or_none (find (λ (p : Parcel). p.message.my_ref == ref) ps)
        → code_among ref (map (seen_item false) (p ∷ ps) ++ map (seen_item true) qs) ≡ code_or_none (find (λ (p : Parcel). p.message.my_ref == ref) (p ∷ ps))
    go true e rest = rw e refl
    go false e rest = rw e rest

pub code-is : (d : Desk) (ref : ℕ) → code_among ref (message_items d) ≡ code_or_none (find (λ (p : Parcel). p.message.my_ref == ref) (waiting_on d))
code-is d ref = code-both ref (waiting_on d) (held_on d)

-- ---- whether a message is held

none-held : (ref : ℕ) (ps : List Parcel) (ms : List MessageItem)
    → list_any (holds_as ref) (map (seen_item false) ps ++ ms) ≡ list_any (holds_as ref) ms
none-held ref [] ms = refl
none-held ref (p ∷ ps) ms = none-held ref ps ms

held-in : (ref : ℕ) (seats : List Seat)
    → list_any (holds_as ref) (map (seen_item true) (flat_map (λ (s : Seat). held_list s.holds) seats))
    ≡ list_any (λ (s : Seat). answers_held ref s.holds) seats
held-in ref [] = refl
held-in ref (s ∷ seats) = go s.holds (held-in ref seats)
  where
    go : (held : Option Parcel)
        → list_any (holds_as ref) (map (seen_item true) (flat_map (λ (s : Seat). held_list s.holds) seats))
        ≡ list_any (λ (s : Seat). answers_held ref s.holds) seats
        → list_any (holds_as ref) (map (seen_item true) (held_list held ++ flat_map (λ (s : Seat). held_list s.holds) seats))
        ≡ (answers_held ref held || list_any (λ (s : Seat). answers_held ref s.holds) seats)
    go None rest = rest
    go (Some p) rest = ap (λ b. p.message.my_ref == ref || b) rest

pub held-is : (d : Desk) (ref : ℕ)
    → list_any (holds_as ref) (message_items d) ≡ list_any (λ (s : Seat). answers_held ref s.holds) d.post.seats
held-is d ref = none-held ref (waiting_on d) (map (seen_item true) (held_on d)) ∙ held-in ref d.post.seats

-- ---- notes

-- where the message of a note is, by the list of messages
seen-is : (d : Desk) (s : Share) (b : Before) (m : Marks) (ms : List MessageItem) (sent : Option (Letter × ℕ)) (answered : ℕ) (n : Note)
    → ms ≡ message_items d → answered ≡ answered_by b.acknowledged sent
    → seen_among d answered ms n ≡ whereabouts (scene_of d s b m) sent n
seen-is d s b m ms sent answered n e k =
    ap₂ (λ messages ref. seen_among d ref messages n) e k
    ∙ ap₂ (λ code held. record {
      code = code;
      held = held;
      answered = n.my_ref == answered_by b.acknowledged sent;
      live = is_some (task_at (next_taker n) d);
    }) (code-is d n.my_ref) (held-is d n.my_ref)

-- notes that follow the same
pub followed-same : (step : ℕ) (f g : Note → Whereabouts) → ((n : Note) → f n ≡ g n) → (notes : List Note)
    → map (λ (n : Note). followed step (f n) n) notes ≡ map (λ (n : Note). followed step (g n) n) notes
followed-same step f g same [] = refl
followed-same step f g same (n ∷ notes) = ap₂ (λ w ns. followed step w n ∷ ns) (same n) (followed-same step f g same notes)

-- no more than may be kept
pub last-few : (notes : List Note) → length notes ≤ MOST_NOTES → last_of MOST_NOTES notes ≡ notes
last-few notes few =
    let none : length notes - MOST_NOTES ≡ 0 = omega (arith, few) in
    ap (λ k. drop k notes) none

-- a list of which all was written anew
pub refilled : {X : Type 0} (xs ws : List X) → length ws ≡ length xs → refill (length xs) xs ws ≡ ws
refilled xs ws e =
    ap (λ z. take (length xs) (ws ++ z)) (drop_all (length ws) xs (omega (arith, e)))
    ∙ (ap (take (length xs)) (append-nil ws) ∙ take_all (length xs) ws (omega (arith, e)))

-- the notes after a step, by the list of messages and what was sent
pub noted-is : (d : Desk) (s : Share) (b : Before) (m : Marks) (step : ℕ) (ms : List MessageItem) (notes : List Note)
    (sent : Option (Letter × ℕ)) (answered : ℕ)
    → ms ≡ message_items d → sent ≡ sent_by b (task_at b.handle d) → answered ≡ answered_by b.acknowledged (sent_by b (task_at b.handle d))
    → noted step (scene_of d s b m) notes
    ≡ last_of MOST_NOTES (map (λ (n : Note). followed step (seen_among d answered ms n) n) notes ++ new_notes step sent)
noted-is d s b m step ms notes sent answered e k a =
    let x : Scene = scene_of d s b m in
    ap (λ o. noted_with step x o notes) (sym k)
    ∙ ap (λ ns. last_of MOST_NOTES (ns ++ new_notes step sent))
    (followed-same step (whereabouts x sent) (seen_among d answered ms)
    (λ n. sym (seen-is d s b m ms sent answered n e (a ∙ ap (answered_by b.acknowledged) (sym k)))) notes)

-- a loop that writes f x over each element x, which it reads by its place
pub written-more : {X : Type 0} (f : X → X) (xs ys : List X) (i : ℕ) (d : X)
    → i < length xs → length ys ≡ length xs → ys ≡ map f (take i xs) ++ drop i xs
    → set ys i (f (get_or ys i d)) ≡ map f (take (i + 1) xs) ++ drop (i + 1) xs
written-more f xs ys i d inside long e =
    map_over_more f xs ys i (get_or ys i d) inside e (get_or_default ys i d (get_or ys i d) (omega (arith, inside, long)))
