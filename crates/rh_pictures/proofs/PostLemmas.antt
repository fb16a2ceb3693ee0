-- The list of all messages, and the post that it lists, task by task.
use Rattle.rh_pictures.proofs.Common.{◌≡◌, ℕ, ◌+◌, ◌<◌, ◌≤◌, Bool, true, false, refl, ap, ap₂, sym, subst, ◌∙◌, arith, List, [], ◌∷◌, ◌++◌, length, map, take}
use Rattle.rh_pictures.proofs.Common.{Option, Some, None, append-nil, ◌==◌, ◌&&◌, not, IfSome, codes, filter, find, if◌then◌else◌, AllByRecursion, flat_map}
use Rattle.rh_pictures.proofs.Common.{list_any, option_map, ne_eqb, eqb-true, IsDesk, Rise, Parcel, Desk, Task, Text, MessageItem, held_on, lies_in}
use Rattle.rh_pictures.proofs.Common.{message_items, waiting_on, has_letters_in, letterboxes_in}
use Rattle.std.specs.List.{join_by}
use Rattle.std.proofs.lemmas.List.{length-map, take-map}
use Rattle.std.proofs.lemmas.List.Elements.{filter-append}
use Rattle.std.proofs.lemmas.List.Folds.{flat_map-map}
use Rattle.rh_defs.specs.Laws.{HoldsOwn, IsHeld, IsQueued, seat_handles, task_handles}
use Rattle.rh_defs.specs.Order.{is_to}
use Rattle.rh_defs.specs.Post.{Seat, has_seat, held_by}
use Rattle.rh_figure.specs.declared.limits.TheConstants.{MOST_LISTED}
use Rattle.rh_figure.specs.Figure as figure
use Rattle.rh_figure.specs.Figure.{Letterbox, messages_text}
use Rattle.rh_figure.specs.Phrases.{and_more, message_text}
use Rattle.rh_figure.specs.Cards.{after_ref, next_text}
use Rattle.rh_figure.specs.Scene.{held_list, ref_of}
use Rattle.rh_map.specs.MapMessages.{held_text, message_entry_text, waits_text}
use Rattle.rh_map.specs.MapMessages as lines
use Rattle.rh_scene.specs.declared.message_list.MessagePlace.{MessagePlace}
use Rattle.rh_scene.specs.declared.message_list.MessagePlace.TheVariants.{Held}
use Rattle.rh_scene.specs.SightMessages.{before_next, items_behind, first_ref, held_ref, is_held_by, seen_item, message_place, waits_for}
use Rattle.rh_scene.proofs.Posts.{held-is}
use Rattle.rh_pictures.specs.Inner.BandItems.{place_seen, IsItemOf}
use Rattle.rh_pictures.specs.Inner.LettersBehind.{entry_seen, letterbox_in}
use Rattle.rh_pictures.proofs.UnderLemmas.{is_some, some-more}

-- ---- what waits for a task

waits-held : (h : ℕ) (qs : List Parcel) → filter (waits_for h) (map (seen_item true) qs) ≡ []
waits-held h [] = refl
waits-held h (q ∷ qs) = waits-held h qs

waits-listed : (h : ℕ) (ps : List Parcel) (ms : List MessageItem)
    → filter (waits_for h) (map (seen_item false) ps ++ ms) ≡ map (seen_item false) (filter (is_to h) ps) ++ filter (waits_for h) ms
waits-listed h [] ms = refl
waits-listed h (p ∷ ps) ms = go (p.to == h) refl (waits-listed h ps ms)
  where
    go : (t : Bool) → (p.to == h) ≡ t
        → filter (waits_for h) (map (seen_item false) ps ++ ms) ≡ map (seen_item false) (filter (is_to h) ps) ++ filter (waits_for h) ms
        → filter (waits_for h) (map (seen_item false) (p ∷ ps) ++ ms) ≡ map (seen_item false) (filter (is_to h) (p ∷ ps)) ++ filter (waits_for h) ms
    go true k rest = rw k (ap (λ z. seen_item false p ∷ z) rest)
    go false k rest = rw k rest

to-same : (h : ℕ) (ps : List Parcel) → filter (is_to h) (filter (is_to h) ps) ≡ filter (is_to h) ps
to-same h [] = refl
to-same h (p ∷ ps) = go (p.to == h) refl (to-same h ps)
  where
    go : (t : Bool) → (p.to == h) ≡ t → filter (is_to h) (filter (is_to h) ps) ≡ filter (is_to h) ps
        → filter (is_to h) (filter (is_to h) (p ∷ ps)) ≡ filter (is_to h) (p ∷ ps)
    go true k rest = rw (k, k) (ap (λ z. p ∷ z) rest)
    go false k rest = rw k rest

to-other : (h k : ℕ) (ps : List Parcel) → (k == h) ≡ false → filter (is_to h) (filter (is_to k) ps) ≡ []
to-other h k [] off = refl
to-other h k (p ∷ ps) off = go (p.to == k) refl (to-other h k ps off)
  where
    go : (t : Bool) → (p.to == k) ≡ t → filter (is_to h) (filter (is_to k) ps) ≡ [] → filter (is_to h) (filter (is_to k) (p ∷ ps)) ≡ []
    go true e rest =
        let off_p : (p.to == h) ≡ false = ap (λ n. n == h) (eqb-true p.to k e) ∙ off in
        rw (e, off_p) rest
    go false e rest = rw e rest

-- seats of other handles
abbrev Others : ℕ → List Seat → Type 0
Others h seats = AllByRecursion (λ (s : Seat). (s.handle == h) ≡ false) seats

others-above : (least next h : ℕ) (tasks : List Task) (seats : List Seat) → seat_handles seats ≡ task_handles tasks
    → Rise (λ (t : Task). t.handle) least next tasks → h < least → Others h seats
others-above least next h tasks [] e r l = tt
others-above least next h [] (s ∷ seats) e r l = absurd (cc)
others-above least next h (t ∷ tasks) (s ∷ seats) e r l =
    let here : s.handle ≡ t.handle = cc in
    let rest : seat_handles seats ≡ task_handles tasks = cc in
    let low : least ≤ t.handle = r.0 in
    (ne_eqb s.handle h (λ q. omega arith), others-above (t.handle + 1) next h tasks seats rest r.1 (omega arith))

-- what waits, seat by seat
module _ (queued : List Parcel) (h : ℕ) where
  abbrev of_seats : List Seat → List Parcel
  of_seats seats = flat_map (λ (s : Seat). filter (is_to s.handle) queued) seats

  seats-other : (seats : List Seat) → Others h seats → filter (is_to h) (of_seats seats) ≡ []
  seats-other [] off = refl
  seats-other (s ∷ seats) off =
      filter-append (is_to h) (filter (is_to s.handle) queued) (of_seats seats)
      ∙ ap₂ (λ x y. x ++ y) (to-other h s.handle queued off.0) (seats-other seats off.1)

  seats-waits : (least next : ℕ) (tasks : List Task) (seats : List Seat) → seat_handles seats ≡ task_handles tasks
      → Rise (λ (t : Task). t.handle) least next tasks → filter (is_to h) (of_seats seats) ≡ (if has_seat h seats then filter (is_to h) queued else [])
  seats-waits least next tasks [] e r = refl
  seats-waits least next [] (s ∷ seats) e r = absurd (cc)
  seats-waits least next (t ∷ tasks) (s ∷ seats) e r =
      let here : s.handle ≡ t.handle = cc in
      let rest : seat_handles seats ≡ task_handles tasks = cc in
      filter-append (is_to h) (filter (is_to s.handle) queued) (of_seats seats)
      ∙ go here rest (s.handle == h) refl (seats-waits (t.handle + 1) next tasks seats rest r.1)
    where
      go : s.handle ≡ t.handle → seat_handles seats ≡ task_handles tasks → (b : Bool) → (s.handle == h) ≡ b
          → filter (is_to h) (of_seats seats) ≡ (if has_seat h seats then filter (is_to h) queued else [])
          → filter (is_to h) (filter (is_to s.handle) queued) ++ filter (is_to h) (of_seats seats) ≡
          (if (if b then true else has_seat h seats) then filter (is_to h) queued else [])
      go here rest true k more =
          let same : s.handle ≡ h = eqb-true s.handle h k in
          let off = others-above (t.handle + 1) next h tasks seats rest r.1 (omega arith) in
          ap (λ n. filter (is_to h) (filter (is_to n) queued) ++ filter (is_to h) (of_seats seats)) same
          ∙ (ap₂ (λ x y. x ++ y) (to-same h queued) (seats-other seats off) ∙ append-nil (filter (is_to h) queued))
      go here rest false k more = ap₂ (λ x y. x ++ y) (to-other h s.handle queued k) more

none-queued : (next h : ℕ) (seats : List Seat) (ps : List Parcel) → AllByRecursion (IsQueued next seats) ps → has_seat h seats ≡ false
    → filter (is_to h) ps ≡ []
none-queued next h seats [] all e = refl
none-queued next h seats (p ∷ ps) all e = go (p.to == h) refl (none-queued next h seats ps all.1 e)
  where
    go : (b : Bool) → (p.to == h) ≡ b → filter (is_to h) ps ≡ [] → filter (is_to h) (p ∷ ps) ≡ []
    go true k rest =
        let live : has_seat h seats ≡ true = ap (λ n. has_seat n seats) (sym (eqb-true p.to h k)) ∙ all.0.live in
        absurd (cc)
    go false k rest = rw k rest

module _ {d : Desk} (is : IsDesk d) (h : ℕ) where
  queued-is : filter (is_to h) (waiting_on d) ≡ filter (is_to h) d.post.queued
  queued-is = seats-waits d.post.queued h 0 d.next_handle d.tasks d.post.seats is.seats is.handles ∙ go (has_seat h d.post.seats) refl
    where
      go : (b : Bool) → has_seat h d.post.seats ≡ b → (if b then filter (is_to h) d.post.queued else []) ≡ filter (is_to h) d.post.queued
      go true e = refl
      go false e = sym (none-queued d.post.next_ref h d.post.seats d.post.queued is.post.queued e)

  -- the list has the messages that wait for a task, in their order
  pub waits-are : filter (waits_for h) (message_items d) ≡ map (seen_item false) (filter (is_to h) d.post.queued)
  waits-are =
      waits-listed h (waiting_on d) (map (seen_item true) (held_on d))
      ∙ (ap (λ z. map (seen_item false) (filter (is_to h) (waiting_on d)) ++ z) (waits-held h (held_on d))
      ∙ (append-nil (map (seen_item false) (filter (is_to h) (waiting_on d))) ∙ ap (map (seen_item false)) queued-is))

-- ---- what a task holds

none-waits : (h : ℕ) (ps : List Parcel) (ms : List MessageItem) → find (is_held_by h) (map (seen_item false) ps ++ ms) ≡ find (is_held_by h) ms
none-waits h [] ms = refl
none-waits h (p ∷ ps) ms = none-waits h ps ms

abbrev holds_of : List Seat → List MessageItem
holds_of seats = map (seen_item true) (flat_map (λ (s : Seat). held_list s.holds) seats)

held-other : (next h : ℕ) (seats : List Seat) → AllByRecursion (HoldsOwn next) seats → Others h seats → find (is_held_by h) (holds_of seats) ≡ None
held-other next h [] own off = refl
held-other next h (s ∷ seats) own off = go s.holds own.0 (held-other next h seats own.1 off.1)
  where
    go : (o : Option Parcel) → IfSome o (IsHeld next s.handle) → find (is_held_by h) (holds_of seats) ≡ None
        → find (is_held_by h) (map (seen_item true) (held_list o ++ flat_map (λ (x : Seat). held_list x.holds) seats)) ≡ None
    go None is rest = rest
    go (Some p) is rest =
        let mine : (p.to == h) ≡ false = ap (λ n. n == h) is.own ∙ off.0 in
        rw mine rest

held-first : (least next given h : ℕ) (tasks : List Task) (seats : List Seat) → seat_handles seats ≡ task_handles tasks
    → Rise (λ (t : Task). t.handle) least next tasks → AllByRecursion (HoldsOwn given) seats
    → find (is_held_by h) (holds_of seats) ≡ option_map (seen_item true) (held_by h seats)
held-first least next given h tasks [] e r own = refl
held-first least next given h [] (s ∷ seats) e r own = absurd (cc)
held-first least next given h (t ∷ tasks) (s ∷ seats) e r own =
    let here : s.handle ≡ t.handle = cc in
    let rest : seat_handles seats ≡ task_handles tasks = cc in
    go here rest (s.handle == h) refl s.holds own.0 (held-first (t.handle + 1) next given h tasks seats rest r.1 own.1)
  where
    go : s.handle ≡ t.handle → seat_handles seats ≡ task_handles tasks → (b : Bool) → (s.handle == h) ≡ b → (o : Option Parcel)
        → IfSome o (IsHeld given s.handle) → find (is_held_by h) (holds_of seats) ≡ option_map (seen_item true) (held_by h seats)
        → find (is_held_by h) (map (seen_item true) (held_list o ++ flat_map (λ (x : Seat). held_list x.holds) seats)) ≡ option_map (seen_item true)
        (if b then o else held_by h seats)
    go here rest true k None is more =
        let same : s.handle ≡ h = eqb-true s.handle h k in
        held-other given h seats own.1 (others-above (t.handle + 1) next h tasks seats rest r.1 (omega arith))
    go here rest true k (Some p) is more =
        let mine : (p.to == h) ≡ true = ap (λ n. n == h) is.own ∙ k in
        rw mine refl
    go here rest false k None is more = more
    go here rest false k (Some p) is more =
        let mine : (p.to == h) ≡ false = ap (λ n. n == h) is.own ∙ k in
        rw mine more

-- the list has the message that a task holds
pub held-are : {d : Desk} → IsDesk d → (h : ℕ) → find (is_held_by h) (message_items d) ≡ option_map (seen_item true) (held_by h d.post.seats)
held-are {d} is h =
    none-waits h (waiting_on d) (map (seen_item true) (held_on d))
    ∙ held-first 0 d.next_handle d.post.next_ref h d.tasks d.post.seats is.seats is.handles is.post.held

-- ---- letterboxes

pub waits-few : (h : ℕ) (ms : List MessageItem) → length (map entry_seen (filter (waits_for h) ms)) ≤ length ms
waits-few h [] = omega arith
waits-few h (m ∷ ms) = go (waits_for h m) refl (waits-few h ms)
  where
    go : (b : Bool) → waits_for h m ≡ b → length (map entry_seen (filter (waits_for h) ms)) ≤ length ms
        → length (map entry_seen (filter (waits_for h) (m ∷ ms))) ≤ length (m ∷ ms)
    go true e rest = rw e (omega (arith, rest))
    go false e rest = rw e (omega (arith, rest))

-- a message is for a task where it waits for it, or the task holds it
module _ (h : ℕ) where
  letters-none : (ms : List MessageItem) → filter (waits_for h) ms ≡ [] → find (is_held_by h) ms ≡ None → has_letters_in h ms ≡ false
  letters-none [] w k = refl
  letters-none (m ∷ ms) w k = go (letters-none ms) m.held refl (m.to == h) refl
    where
      and_false : (b : Bool) → (b && false) ≡ false
      and_false true = refl
      and_false false = refl

      go : (filter (waits_for h) ms ≡ [] → find (is_held_by h) ms ≡ None → has_letters_in h ms ≡ false) → (a : Bool) → m.held ≡ a → (b : Bool)
          → (m.to == h) ≡ b → has_letters_in h (m ∷ ms) ≡ false
      go before a x false y =
          let u : waits_for h m ≡ false = ap₂ (λ p q. not p && q) x y ∙ and_false (not a) in
          let v : is_held_by h m ≡ false = ap₂ (λ p q. p && q) x y ∙ and_false a in
          let w2 : filter (waits_for h) ms ≡ [] = rw u at w in
          let k2 : find (is_held_by h) ms ≡ None = rw v at k in
          rw y (before w2 k2)
      go before true x true y =
          let v : is_held_by h m ≡ true = ap₂ (λ p q. p && q) x y in
          let k2 : Some m ≡ None = rw v at k in
          absurd (cc)
      go before false x true y =
          let u : waits_for h m ≡ true = ap₂ (λ p q. not p && q) x y in
          let w2 : m ∷ filter (waits_for h) ms ≡ [] = rw u at w in
          absurd (cc)

  letters-some : (ms : List MessageItem) → has_letters_in h ms ≡ false → (filter (waits_for h) ms ≡ []) × (find (is_held_by h) ms ≡ None)
  letters-some [] e = (refl, refl)
  letters-some (m ∷ ms) e = go (letters-some ms) (m.to == h) refl
    where
      and_none : (a : Bool) → (a && false) ≡ false
      and_none true = refl
      and_none false = refl

      go : (has_letters_in h ms ≡ false → (filter (waits_for h) ms ≡ []) × (find (is_held_by h) ms ≡ None)) → (b : Bool) → (m.to == h) ≡ b
          → (filter (waits_for h) (m ∷ ms) ≡ []) × (find (is_held_by h) (m ∷ ms) ≡ None)
      go before true y = let k : true ≡ false = rw y at e in absurd (cc)
      go before false y =
          let k : has_letters_in h ms ≡ false = rw y at e in
          let rest = before k in
          let u : waits_for h m ≡ false = ap (λ q. not m.held && q) y ∙ and_none (not m.held) in
          let v : is_held_by h m ≡ false = ap (λ q. m.held && q) y ∙ and_none m.held in
          (rw u rest.0, rw v rest.1)

join-map : {A B C : Type 0} (f : B → List C) (g : A → B) (sep : List C) (xs : List A) → join_by f sep (map g xs) ≡ join_by (λ x. f (g x)) sep xs
join-map f g sep [] = refl
join-map f g sep (x ∷ xs) = ap (λ z. f (g x) ++ z) (flat_map-map (λ y. sep ++ f y) g xs)

waits-text : (ws : List Parcel)
    → waits_text (take MOST_LISTED (map entry_seen (map (seen_item false) ws))) (length (map entry_seen (map (seen_item false) ws))) ≡ messages_text ws
waits-text ws =
    let items = map (seen_item false) ws in
    ap (λ n. waits_text (take MOST_LISTED (map entry_seen items)) n) (length-map items entry_seen ∙ length-map ws (seen_item false))
    ∙ (ap (λ z. waits_text z (length ws)) (take-map entry_seen MOST_LISTED items ∙ ap (map entry_seen) (take-map (seen_item false) MOST_LISTED ws))
    ∙ ap (λ z. z ++ and_more (length ws)) (join-map message_entry_text entry_seen (codes ", ") (map (seen_item false) (take MOST_LISTED ws))
    ∙ join-map (λ (m : MessageItem). message_entry_text (entry_seen m)) (seen_item false) (codes ", ") (take MOST_LISTED ws)))

held-text : (o : Option Parcel) → held_text (option_map entry_seen (option_map (seen_item true) o)) ≡ flat_map message_text (held_list o)
held-text None = refl
held-text (Some p) = sym (append-nil (message_text p))

abbrev box : Text → Option Parcel → List Parcel → Letterbox
box name o ws = record { name = name; held = flat_map message_text (held_list o); waits = messages_text ws }

box-is : (name : Text) (o : Option Parcel) (ws : List Parcel)
    → lines.mapped_letterbox name (option_map entry_seen (option_map (seen_item true) o)) (take MOST_LISTED (map entry_seen (map (seen_item false) ws)))
    (length (map entry_seen (map (seen_item false) ws))) ≡ box name o ws
box-is name o ws = ap₂ (λ a b. let r : Letterbox = record { name = name; held = a; waits = b } in r) (held-text o) (waits-text ws)

-- the list tells a task's letterbox
pub letters-are : (name : Text) (h : ℕ) (ms : List MessageItem) (o : Option Parcel) (ws : List Parcel) → find (is_held_by h) ms ≡ option_map (seen_item true) o
    → filter (waits_for h) ms ≡ map (seen_item false) ws → letterboxes_in name h ms ≡ figure.letterbox_of name (held_list o) ws
letters-are name h ms o ws held waits = go (has_letters_in h ms) refl o ws held waits
  where
    here : (o : Option Parcel) (ws : List Parcel) → find (is_held_by h) ms ≡ option_map (seen_item true) o → filter (waits_for h) ms ≡ map (seen_item false) ws
        → letterbox_in name h ms ≡ box name o ws
    here o ws held waits =
        ap₂ (λ a b. lines.mapped_letterbox name (option_map entry_seen a) (take MOST_LISTED (map entry_seen b)) (length (map entry_seen b))) held waits
        ∙ box-is name o ws

    go : (b : Bool) → has_letters_in h ms ≡ b → (o : Option Parcel) (ws : List Parcel) → find (is_held_by h) ms ≡ option_map (seen_item true) o
        → filter (waits_for h) ms ≡ map (seen_item false) ws → (if b then letterbox_in name h ms ∷ [] else []) ≡ figure.letterbox_of name (held_list o) ws
    go false e None [] held waits = refl
    go false e (Some p) ws held waits = let k = letters-some h ms e in absurd (cc)
    go false e None (w ∷ ws) held waits = let k = letters-some h ms e in absurd (cc)
    go true e None [] held waits = let k = letters-none h ms waits held in absurd (cc)
    go true e None (w ∷ ws) held waits = ap (λ z. z ∷ []) (here None (w ∷ ws) held waits)
    go true e (Some p) [] held waits = ap (λ z. z ∷ []) (here (Some p) [] held waits)
    go true e (Some p) (w ∷ ws) held waits = ap (λ z. z ∷ []) (here (Some p) (w ∷ ws) held waits)

abbrev pub boxes : List MessageItem → Task → List Letterbox
boxes ms t = letterboxes_in t.name t.handle ms

-- the letterbox of a task, as a figure has it
abbrev figured : Desk → Task → List Letterbox
figured d t = figure.letterbox_of t.name (held_list (held_by t.handle d.post.seats)) (filter (is_to t.handle) d.post.queued)

-- the letterboxes of a figure, by the list of messages
pub boxes-are : {d : Desk} (is : IsDesk d) (ms : List MessageItem) → ms ≡ message_items d → (ts : List Task)
    → flat_map (figured d) ts ≡ flat_map (boxes ms) ts
boxes-are is ms e [] = refl
boxes-are {d} is ms e (t ∷ ts) =
    let held = ap (find (is_held_by t.handle)) e ∙ held-are is t.handle in
    let waits = ap (filter (waits_for t.handle)) e ∙ waits-are is t.handle in
    let queued = filter (is_to t.handle) d.post.queued in
    ap₂ (λ x y. x ++ y) (sym (letters-are t.name t.handle ms (held_by t.handle d.post.seats) queued held waits)) (boxes-are is ms e ts)

-- there is a letterbox where some task has a message
boxes-some : (ms : List MessageItem) (ts : List Task) → list_any (λ (t : Task). has_letters_in t.handle ms) ts ≡ is_some (flat_map (boxes ms) ts)
boxes-some ms [] = refl
boxes-some ms (t ∷ ts) = go (has_letters_in t.handle ms) refl (boxes-some ms ts)
  where
    go : (b : Bool) → has_letters_in t.handle ms ≡ b → list_any (λ (u : Task). has_letters_in u.handle ms) ts ≡ is_some (flat_map (boxes ms) ts)
        → list_any (λ (u : Task). has_letters_in u.handle ms) (t ∷ ts) ≡ is_some (flat_map (boxes ms) (t ∷ ts))
    go true e rest = rw e (sym (some-more (letterbox_in t.name t.handle ms) (flat_map (boxes ms) ts)))
    go false e rest = rw e rest

-- the same of a figure
pub boxes-told : {d : Desk} → IsDesk d → (ms : List MessageItem) → ms ≡ message_items d
    → is_some (flat_map (figured d) d.tasks) ≡ list_any (λ (t : Task). has_letters_in t.handle ms) d.tasks
boxes-told {d} is ms e = ap is_some (boxes-are is ms e d.tasks) ∙ sym (boxes-some ms d.tasks)

-- ---- where a message stands in its chain

behind-are : (held : Bool) (ref : ℕ) (ps : List Parcel) → items_behind ref (map (seen_item held) ps) ≡ map (seen_item held) (after_ref ref ps)
behind-are held ref [] = refl
behind-are held ref (p ∷ ps) = go (p.message.my_ref == ref) refl (behind-are held ref ps)
  where
    go : (b : Bool) → (p.message.my_ref == ref) ≡ b → items_behind ref (map (seen_item held) ps) ≡ map (seen_item held) (after_ref ref ps)
        → items_behind ref (map (seen_item held) (p ∷ ps)) ≡ map (seen_item held) (after_ref ref (p ∷ ps))
    go true e rest = rw e refl
    go false e rest = rw e rest

next-is : (ps : List Parcel) → place_seen (before_next (first_ref (map (seen_item false) ps))) ≡ next_text ps
next-is [] = refl
next-is (p ∷ ps) = refl

if-seen : (b : Bool) (p q : MessagePlace) → place_seen (if b then p else q) ≡ (if b then place_seen p else place_seen q)
if-seen true p q = refl
if-seen false p q = refl

pub chain-is : {d : Desk} (is : IsDesk d) (h ref : ℕ) (m : MessageItem) → m.to ≡ h → m.my_ref ≡ ref
    → place_seen (message_place (message_items d) m)
    ≡ (if ref_of (held_by h d.post.seats) == ref then codes "held" else next_text (after_ref ref (filter (is_to h) d.post.queued)))
chain-is {d} is h ref m to mine =
    ap₂ (λ k r. place_seen (if held_ref k (message_items d) == r then Held else before_next
    (first_ref (items_behind r (filter (waits_for k) (message_items d))))))
    to mine
    ∙ (if-seen (held_ref h (message_items d) == ref) Held (before_next (first_ref (items_behind ref (filter (waits_for h) (message_items d)))))
    ∙ ap₂ (λ k z. if k == ref then codes "held" else z) (held-is d is h)
    (ap (λ z. place_seen (before_next (first_ref (items_behind ref z)))) (waits-are is h)
    ∙ (ap (λ z. place_seen (before_next (first_ref z))) (behind-are false ref (filter (is_to h) d.post.queued))
    ∙ next-is (after_ref ref (filter (is_to h) d.post.queued)))))

-- ---- the message in a block

abbrev pub stands_in : ℕ → Parcel → Bool
stands_in b p = p.block == b

-- what is told of a block: no message, or the one of a parcel that lies there
abbrev pub Told : ℕ → Option MessageItem → Option Parcel → Type 0
Told b None None = Unit {0}
Told b None (Some p) = ⊥
Told b (Some m) None = ⊥
Told b (Some m) (Some p) = IsItemOf m p × (p.block ≡ b)

told-more : (b : ℕ) (held : Bool) (ps : List Parcel) (ms : List MessageItem) (qs : List Parcel) → Told b (find (lies_in b) ms) (find (stands_in b) qs)
    → Told b (find (lies_in b) (map (seen_item held) ps ++ ms)) (find (stands_in b) (ps ++ qs))
told-more b held [] ms qs t = t
told-more b held (p ∷ ps) ms qs t = go (p.block == b) refl (told-more b held ps ms qs t)
  where
    go : (k : Bool) → (p.block == b) ≡ k → Told b (find (lies_in b) (map (seen_item held) ps ++ ms)) (find (stands_in b) (ps ++ qs))
        → Told b (find (lies_in b) (map (seen_item held) (p ∷ ps) ++ ms)) (find (stands_in b) ((p ∷ ps) ++ qs))
    go true k rest =
        let is : IsItemOf (seen_item held p) p = record { block = refl; to = refl; from = refl; my_ref = refl; action = refl; code = refl } in
        rw k (is, eqb-true p.block b k)
    go false k rest = rw k rest

pub message-told : (b : ℕ) (d : Desk) → Told b (find (lies_in b) (message_items d)) (find (stands_in b) (waiting_on d ++ held_on d))
message-told b d =
    let P : List MessageItem → Type 0 = λ z. Told b (find (lies_in b) z) (find (stands_in b) (held_on d ++ [])) in
    let Q : List Parcel → Type 0 = λ z. Told b (find (lies_in b) (map (seen_item true) (held_on d))) (find (stands_in b) z) in
    told-more b false (waiting_on d) (map (seen_item true) (held_on d)) (held_on d)
    (subst Q (append-nil (held_on d)) (subst P (append-nil (map (seen_item true) (held_on d))) (told-more b true (held_on d) [] [] tt)))
