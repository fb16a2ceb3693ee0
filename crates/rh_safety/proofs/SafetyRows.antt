-- Worked runs: what is offered and what is held after each command.
use Rattle.rh_safety.proofs.Common.{◌≡◌, refl, ℕ, List, [], ◌∷◌, length, map, codes, true, Option, Some, None, Ok, Err, filter_map, hex_on_literals, String}
use Rattle.rh_safety.proofs.Common.{Command, Desk, after}
use Rattle.rh_defs.specs.Line.{Meaning, line_means}
use Rattle.rh_defs.specs.Runs.{start}
use Rattle.rh_defs.specs.Inner.Computing.{computing_script}
use Rattle.rh_safety.specs.Offered.{offered}
use Rattle.rh_safety.specs.Held.{held}
use Rattle.rh_safety.specs.Alternation.{turns, all_granted}

-- a run over 64 pages with no files, handles and refs from 1
abbrev pub fresh : Desk
fresh = start 64 []

-- the commands that lines spell
abbrev pub script : List String → List Command
script lines = filter_map (λ line. spelled (line_means (codes line))) lines
  where
    spelled : Meaning (Option Command) → Option Command
    spelled (Ok c) = c
    spelled (Err fault) = None

-- the lists that begin a list, the whole one last
abbrev pub prefixes : {A : Type 0} → List A → List (List A)
prefixes [] = []
prefixes (x ∷ xs) = (x ∷ []) ∷ map (λ ys. x ∷ ys) (prefixes xs)

-- what the second task holds of the first transfer, and what that offers, after each command
abbrev pub shown : List String → List (Option (List ℕ) × Option (List ℕ))
shown lines = map (λ commands. (held fresh commands 1 2, offered fresh commands 1)) (prefixes (script lines))

-- six bytes by a buffer of four; a put into the document ends what is held, and the source may be freed
pub two_buffers : shown (
    "task a 4"
    ∷ "task b 4"
    ∷ "alloc a 0 6"
    ∷ "put a 0 0 010203040506"
    ∷ "save a 0 b doc"
    ∷ "poll b"
    ∷ "poll a"
    ∷ "poll b"
    ∷ "poll a"
    ∷ "put a 0 0 09"
    ∷ "poll b"
    ∷ "free a 0"
    ∷ "put b 0 5 07" ∷ []
    ) ≡
    (None, None)
    ∷ (None, None)
    ∷ (None, None)
    ∷ (None, None)
    ∷ (None, Some (1 ∷ 2 ∷ 3 ∷ 4 ∷ 5 ∷ 6 ∷ []))
    ∷ (Some [], Some (1 ∷ 2 ∷ 3 ∷ 4 ∷ 5 ∷ 6 ∷ []))
    ∷ (Some [], Some (1 ∷ 2 ∷ 3 ∷ 4 ∷ 5 ∷ 6 ∷ []))
    ∷ (Some (1 ∷ 2 ∷ 3 ∷ 4 ∷ []), Some (1 ∷ 2 ∷ 3 ∷ 4 ∷ 5 ∷ 6 ∷ []))
    ∷ (Some (1 ∷ 2 ∷ 3 ∷ 4 ∷ []), Some (1 ∷ 2 ∷ 3 ∷ 4 ∷ 5 ∷ 6 ∷ []))
    ∷ (Some (1 ∷ 2 ∷ 3 ∷ 4 ∷ []), Some (1 ∷ 2 ∷ 3 ∷ 4 ∷ 5 ∷ 6 ∷ []))
    ∷ (Some (1 ∷ 2 ∷ 3 ∷ 4 ∷ 5 ∷ 6 ∷ []), Some (1 ∷ 2 ∷ 3 ∷ 4 ∷ 5 ∷ 6 ∷ []))
    ∷ (Some (1 ∷ 2 ∷ 3 ∷ 4 ∷ 5 ∷ 6 ∷ []), Some (1 ∷ 2 ∷ 3 ∷ 4 ∷ 5 ∷ 6 ∷ []))
    ∷ (None, Some (1 ∷ 2 ∷ 3 ∷ 4 ∷ 5 ∷ 6 ∷ []))
    ∷ []
unfolding computing_script hex_on_literals
two_buffers = refl

-- a block that is saved again by the same message offers the same bytes under the new ref
pub repeated_offer : offered fresh (script ("task a 100" ∷ "task b 100" ∷ "alloc a 0 2" ∷ "put a 0 0 0102"
    ∷ "save a 0 b x" ∷ "repeat a" ∷ [])) 2 ≡ Some (1 ∷ 2 ∷ [])
unfolding computing_script hex_on_literals
repeated_offer = refl

-- three bytes by the scrap file
pub by_scrap_file : held fresh (script (
    "task a 100 file"
    ∷ "task b 100"
    ∷ "alloc a 0 3"
    ∷ "put a 0 0 070809"
    ∷ "save a 0 b doc"
    ∷ "poll b"
    ∷ "poll a"
    ∷ "poll a"
    ∷ "poll b"
    ∷ "poll a"
    ∷ "poll b" ∷ [])) 1 2 ≡ Some (7 ∷ 8 ∷ 9 ∷ [])
unfolding computing_script hex_on_literals
by_scrap_file = refl

-- six bytes by a buffer of four: after the save, five polls in turn are refused nothing
pub granted_turns : all_granted (after fresh (script ("task a 4" ∷ "task b 4" ∷ "alloc a 0 6" ∷ "save a 0 b doc"
    ∷ []))) (turns (codes "b") (codes "a") 2) ≡ true
unfolding computing_script hex_on_literals
granted_turns = refl

-- three rounds are seven polls
pub seven_polls : length (turns (codes "b") (codes "a") 3) ≡ 7
seven_polls = refl
