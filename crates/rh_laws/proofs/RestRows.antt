-- Worked runs to rest, and a poll that does nothing with what it takes, on which rest_law fails.
use Rattle.rh_laws.proofs.Common.{Bool, Desk, Has, Incoming, List, None, Option, Some, String, Task, [], after, contains_of, false, fresh, hex_on_literals, inl}
use Rattle.rh_laws.proofs.Common.{is_open, map, post_poll, refl, script, subst, sym, task_at, true, with_delivered, ◌∙◌, ◌∷◌, ◌≡◌}
use Rattle.rh_defs.specs.Records.{is_going}
use Rattle.rh_defs.specs.Inner.Computing.{computing_script}
use Rattle.rh_laws.specs.Rest.{IsSettled}

-- of each task's records, whether those that go out are open, and whether those that come in go on
abbrev records : List String → List (List Bool × List Bool)
records lines = map (λ (t : Task). (map is_open t.sending, map is_going t.taking)) (after fresh (script lines)).tasks

-- six bytes by a buffer of four: b fetches, and at rest both have ended
fetches : records ("task a 4" ∷ "task b 4" ∷ "alloc a 0 6" ∷ "save a 0 b doc" ∷ "poll b" ∷ []) ≡ (true ∷ [], []) ∷ ([], true ∷ []) ∷ []
unfolding computing_script hex_on_literals
fetches = refl

fetched : records ("task a 4" ∷ "task b 4" ∷ "alloc a 0 6" ∷ "save a 0 b doc" ∷ "poll b" ∷ "poll a" ∷ "poll b" ∷ "poll a" ∷ "poll b" ∷ [])
    ≡ (false ∷ [], []) ∷ ([], false ∷ []) ∷ []
unfolding computing_script hex_on_literals
fetched = refl

-- a receiver that was killed: the offer comes back
killed : records ("task a 4" ∷ "task b 4" ∷ "alloc a 0 6" ∷ "save a 0 b doc" ∷ "poll b" ∷ "kill b" ∷ "poll a" ∷ "poll a" ∷ [])
    ≡ (false ∷ [], []) ∷ []
unfolding computing_script hex_on_literals
killed = refl

-- a cancel of the receiver, where the sender answers no fetch: its record stays open
stays_open : records ("task a 4 file" ∷ "task b 4" ∷ "alloc a 0 6" ∷ "save a 0 b doc" ∷ "poll b" ∷ "cancel b in" ∷ "poll a" ∷ "poll a" ∷ "poll b" ∷ [])
    ≡ (true ∷ [], []) ∷ ([], false ∷ []) ∷ []
unfolding computing_script hex_on_literals
stays_open = refl

-- ---- a poll that does nothing with what it takes

-- the first fetch came back to b
abbrev wrong_desk : Desk
wrong_desk =
    let d : Desk = after fresh (script ("task a 4 file" ∷ "task b 4" ∷ "alloc a 0 6" ∷ "save a 0 b doc" ∷ "poll b" ∷ "poll a" ∷ "poll a" ∷ [])) in
    with_delivered (post_poll 2 d.post).0 d

abbrev going_at : Option Task → List Bool
going_at None = []
going_at (Some t) = map is_going t.taking

-- nothing is queued then, and b's record, whose fetch it was, goes on
wrong_post : wrong_desk.post.queued ≡ []
unfolding computing_script hex_on_literals
wrong_post = refl

wrong_records : going_at (task_at 2 wrong_desk) ≡ true ∷ []
unfolding computing_script hex_on_literals
wrong_records = refl

-- so the law fails of it
wrong_law : IsSettled wrong_desk → ⊥
wrong_law settled = by (task_at 2 wrong_desk) refl wrong_records
  where
    of_list : (t : Task) → task_at 2 wrong_desk ≡ Some t → (ws : List Incoming) → t.taking ≡ ws → map is_going ws ≡ true ∷ [] → ⊥
    of_list t at [] e q = absurd cc
    of_list t at (w ∷ ws) e q =
        let some : is_going w ≡ true = cc in
        let none = settled.comes 2 t w at (contains_of t.taking w (subst (λ (vs : List Incoming). Has w vs) (sym e) (inl refl))) in
        let z : Bool.true ≡ false = sym some ∙ none in cc

    by : (v : Option Task) → task_at 2 wrong_desk ≡ v → going_at v ≡ true ∷ [] → ⊥
    by None at q = absurd cc
    by (Some t) at q = of_list t at t.taking refl q
