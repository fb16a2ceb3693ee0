-- The messages that go back and those that vanished, by the list of all messages.
use Rattle.rh_pictures.proofs.Common.{◌≡◌, ℕ, ◌<◌, ◌≤◌, ◌++◌, Bool, true, false, List, [], ◌∷◌, length, length-map, map, ap, sym, refl, ◌∙◌, append-nil, ◌==◌}
use Rattle.rh_pictures.proofs.Common.{◌&&◌}
use Rattle.rh_pictures.proofs.Common.{arith, nat_tests, filter, flat_map, list_any, flat_map-append, Desk, Parcel, Scene, Text, task_name, MessageItem}
use Rattle.rh_pictures.proofs.Common.{held_on, message_items, waiting_on, return_lines}
use Rattle.std.proofs.lemmas.List.Elements.{filter-append}
use Rattle.std.proofs.lemmas.List.Folds.{list_any-append}
use Rattle.std.specs.Prelude.{◌||◌, nat_lt}
use Rattle.rh_defs.specs.Messages.{action_of}
use Rattle.rh_figure.specs.Changes.{few_or_count, has_vanished, returns_line, vanishes_text, was_out}
use Rattle.rh_figure.specs.Phrases.{is_returned}
use Rattle.rh_figure.specs.declared.limits.TheConstants.{MOST_FATES}
use Rattle.rh_pictures.specs.Inner.ReturnLines.{vanish_lines}
use Rattle.rh_pictures.specs.Returns.{returns}
use Rattle.rh_scene.specs.SightMessages.{seen_item}

abbrev pub goes_back : List MessageItem → Parcel → Bool
goes_back before p = is_returned p.code && was_out p.message.my_ref before

abbrev pub line_of : Desk → Parcel → Text
line_of d p = returns_line (action_of p.message.body) p.message.my_ref (task_name d p.to)

-- none of those that are held
no-holds : (d : Desk) (before : List MessageItem) (ps : List Parcel) → flat_map (return_lines d before) (map (seen_item true) ps) ≡ []
no-holds d before [] = refl
no-holds d before (p ∷ ps) = no-holds d before ps

waits : (d : Desk) (before : List MessageItem) (ps : List Parcel)
    → map (line_of d) (filter (goes_back before) ps) ≡ flat_map (return_lines d before) (map (seen_item false) ps)
waits d before [] = refl
waits d before (p ∷ ps) = go (goes_back before p) refl (waits d before ps)
  where
    go : (b : Bool) → goes_back before p ≡ b
        → map (line_of d) (filter (goes_back before) ps) ≡ flat_map (return_lines d before) (map (seen_item false) ps)
        → map (line_of d) (filter (goes_back before) (p ∷ ps)) ≡ flat_map (return_lines d before) (map (seen_item false) (p ∷ ps))
    go true e rest = rw e (ap (λ z. line_of d p ∷ z) rest)
    go false e rest = rw e rest

pub returns-are : (d : Desk) (before ms : List MessageItem) → ms ≡ message_items d
    → map (line_of d) (filter (goes_back before) (waiting_on d)) ≡ flat_map (return_lines d before) ms
returns-are d before ms e =
    waits d before (waiting_on d)
    ∙ (sym (append-nil (flat_map (return_lines d before) (map (seen_item false) (waiting_on d))))
    ∙ (ap (λ z. flat_map (return_lines d before) (map (seen_item false) (waiting_on d)) ++ z) (sym (no-holds d before (held_on d)))
    ∙ (sym (flat_map-append (return_lines d before) (map (seen_item false) (waiting_on d)) (map (seen_item true) (held_on d)))
    ∙ ap (flat_map (return_lines d before)) (sym e))))

-- ---- how many go back

none-held : (before : List MessageItem) (ps : List Parcel) → filter (returns before) (map (seen_item true) ps) ≡ []
none-held before [] = refl
none-held before (p ∷ ps) = none-held before ps

those-waiting : (before : List MessageItem) (ps : List Parcel)
    → filter (returns before) (map (seen_item false) ps) ≡ map (seen_item false) (filter (goes_back before) ps)
those-waiting before [] = refl
those-waiting before (p ∷ ps) = go (goes_back before p) refl (those-waiting before ps)
  where
    go : (b : Bool) → goes_back before p ≡ b
        → filter (returns before) (map (seen_item false) ps) ≡ map (seen_item false) (filter (goes_back before) ps)
        → filter (returns before) (map (seen_item false) (p ∷ ps)) ≡ map (seen_item false) (filter (goes_back before) (p ∷ ps))
    go true e rest = rw e (ap (λ z. seen_item false p ∷ z) rest)
    go false e rest = rw e rest

pub returns-many : (d : Desk) (before ms : List MessageItem) → ms ≡ message_items d
    → length (filter (returns before) ms) ≡ length (filter (goes_back before) (waiting_on d))
returns-many d before ms e =
    ap (λ z. length (filter (returns before) z)) e
    ∙ (ap length (filter-append (returns before) (map (seen_item false) (waiting_on d)) (map (seen_item true) (held_on d)))
    ∙ (ap (λ z. length (filter (returns before) (map (seen_item false) (waiting_on d)) ++ z)) (none-held before (held_on d))
    ∙ (ap length (append-nil (filter (returns before) (map (seen_item false) (waiting_on d))))
    ∙ (ap length (those-waiting before (waiting_on d)) ∙ length-map (filter (goes_back before) (waiting_on d)) (seen_item false)))))

-- ---- which are live

-- whether some message has the ref
same-refs : (ref : ℕ) (held : Bool) (ps : List Parcel)
    → list_any (λ (m : MessageItem). m.my_ref == ref) (map (seen_item held) ps) ≡ list_any (λ (p : Parcel). p.message.my_ref == ref) ps
same-refs ref held [] = refl
same-refs ref held (p ∷ ps) = ap (λ b. p.message.my_ref == ref || b) (same-refs ref held ps)

pub live-are : (d : Desk) (ref : ℕ) (ms : List MessageItem) → ms ≡ message_items d
    → list_any (λ (m : MessageItem). m.my_ref == ref) ms ≡ list_any (λ (p : Parcel). p.message.my_ref == ref) (waiting_on d ++ held_on d)
live-are d ref ms e =
    let of_item : MessageItem → Bool = λ m. m.my_ref == ref in
    let of_parcel : Parcel → Bool = λ p. p.message.my_ref == ref in
    ap (list_any of_item) e
    ∙ (list_any-append of_item (map (seen_item false) (waiting_on d)) (map (seen_item true) (held_on d))
    ∙ (ap (λ b. b || list_any of_item (map (seen_item true) (held_on d))) (same-refs ref false (waiting_on d))
    ∙ (ap (λ b. list_any of_parcel (waiting_on d) || b) (same-refs ref true (held_on d))
    ∙ sym (list_any-append of_parcel (waiting_on d) (held_on d)))))

-- ---- those that vanished

pub vanish-are : (x : Scene) (ms : List MessageItem) → map (vanishes_text x) (filter (has_vanished x) ms) ≡ flat_map (vanish_lines x) ms
vanish-are x [] = refl
vanish-are x (m ∷ ms) = go (has_vanished x m) refl (vanish-are x ms)
  where
    go : (b : Bool) → has_vanished x m ≡ b → map (vanishes_text x) (filter (has_vanished x) ms) ≡ flat_map (vanish_lines x) ms
        → map (vanishes_text x) (filter (has_vanished x) (m ∷ ms)) ≡ flat_map (vanish_lines x) (m ∷ ms)
    go true e rest = rw e (ap (λ z. vanishes_text x m ∷ z) rest)
    go false e rest = rw e rest

-- ---- few, or too many

module _ {A : Type 0} (line : A → Text) (count : ℕ → Text) (things : List A) (n : ℕ) (is : n ≡ length things) where
  pub told-many : MOST_FATES < n → few_or_count line count things ≡ count n ∷ []
  told-many more =
      let over : nat_lt MOST_FATES (length things) ≡ true = grind (arith, nat_tests) in
      rw over (ap (λ k. count k ∷ []) (sym is))

  pub told-each : n ≤ MOST_FATES → few_or_count line count things ≡ map line things
  told-each few =
      let over : nat_lt MOST_FATES (length things) ≡ false = grind (arith, nat_tests) in
      rw over refl
