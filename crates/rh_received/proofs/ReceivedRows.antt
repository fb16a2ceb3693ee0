-- A worked run whose document stands in bytes, and what the law would say of other bytes and of edited documents.
use Rattle.std.proofs.Common.{◌≡◌, ℕ, List, [], ◌∷◌, ◌++◌, Option, Some, None, ◌+◌, false, refl, subst, arith}
use Rattle.std.specs.Prelude.{unwrap_or}
use Rattle.std.specs.Io.{StartsWith}
use Rattle.hex.proofs.OnLiterals.{hex_on_literals}
use Prim.Native.String.{String}
use Rattle.rh_defs.specs.Bytes.{word, part, word_bytes}
use Rattle.rh_defs.specs.Desk.{Task, task_at}
use Rattle.rh_defs.specs.Pieces.{zeros}
use Rattle.rh_defs.specs.Runs.{after}
use Rattle.rh_defs.specs.Slot.{new_slot}
use Rattle.rh_defs.specs.declared.command.Manner.TheVariants.{Plain}
use Rattle.rh_defs.specs.declared.transfer.Incoming.TheVariants as incoming
use Rattle.rh_defs.specs.Inner.Computing.{computing_script}
use Rattle.rh_safety.specs.Held.{held, held_of}
use Rattle.rh_safety.specs.Offered.{offered}
use Rattle.rh_safety.proofs.Basics.{same_value}
use Rattle.rh_safety.proofs.SafetyRows.{fresh, script}
use Rattle.rh_tasks.specs.Shown.{Shown}
use Rattle.rh_received.specs.Received.{AnchorLeadsTo, HasReceived}

abbrev six : List ℕ
six = 1 ∷ 2 ∷ 3 ∷ 4 ∷ 5 ∷ 6 ∷ []

-- six bytes by a buffer of four, to the end
abbrev to_the_end : List String
to_the_end = "task a 4" ∷ "task b 4" ∷ "alloc a 0 6" ∷ "put a 0 0 010203040506" ∷ "save a 0 b doc" ∷ "poll b" ∷ "poll a"
    ∷ "poll b" ∷ "poll a" ∷ "poll b" ∷ []

-- two pages with a block of six bytes at address &9008, and its anchor's word, the first one; the C heap's words are left out
abbrev two_pages : List ℕ
two_pages = word_bytes 0x9008 ++ (zeros 4092 ++ (word_bytes 0x8000 ++ (word_bytes 6 ++ (six ++ zeros 4082))))

-- the desk after the commands over the slots' bytes
abbrev shown_as : List String → List (List ℕ) → Shown
shown_as lines slots = record {
  desk = after fresh (script lines);
  module_bytes = [];
  slots = slots;
  areas = [];
  made = [];
  scrap = [];
  free = 0;
  ids = [];
}

document_stands : AnchorLeadsTo two_pages 0 six
unfolding word part word_bytes
document_stands = record { anchor = omega arith; place = 4096; address = refl; owner = refl; size = refl; stands = refl; within = omega arith }

-- ---- a run to its end

-- a task, where there is none
abbrev nobody : Task
nobody = record { handle = 0; name = []; buffer = 0; manner = Plain; slot = new_slot; sending = []; taking = []; last_sent = None }

-- b has all of a's file, in the second slot of the store
received_at_the_end : HasReceived fresh (script to_the_end) (shown_as to_the_end (zeros 4096 ∷ two_pages ∷ [])) 1 2 six
unfolding computing_script hex_on_literals
received_at_the_end = record {
  task = unwrap_or (task_at 2 (after fresh (script to_the_end))) nobody;
  live = refl;
  taking = incoming.Done 1 0 6;
  recorded = refl;
  slot = two_pages;
  in_store = refl;
  document = document_stands;
  counted = refl;
  file = six;
  was_offered = refl;
  front = refl;
  whole = λ _. refl;
}

held_at_the_end : held fresh (script to_the_end) 1 2 ≡ Some six
unfolding computing_script hex_on_literals
held_at_the_end = refl

-- ---- other bytes, and an edited document

-- the law fails of bytes that spell no slot: no address is 0
blank_has_none : AnchorLeadsTo (zeros 8192) 0 six → ⊥
unfolding word
blank_has_none r = let a : word (zeros 8192) 0 ≡ 32768 + r.place + 8 = r.address in let z : word (zeros 8192) 0 ≡ 0 = refl in absurd (omega (arith, a, z))

-- what would be held if edits were left out of account
abbrev held_in_spite : List String → Option (List ℕ)
held_in_spite lines = held_of (task_at 2 (after fresh (script lines))) 1 false

abbrev put_after : List String
put_after = to_the_end ++ "put b 0 5 07" ∷ []

abbrev edited : List ℕ
edited = 1 ∷ 2 ∷ 3 ∷ 4 ∷ 5 ∷ 7 ∷ []

wrong_held : held_in_spite put_after ≡ Some edited
unfolding computing_script hex_on_literals
wrong_held = refl

right_held : held fresh (script put_after) 1 2 ≡ None
unfolding computing_script hex_on_literals
right_held = refl

put_offered : offered fresh (script put_after) 1 ≡ Some six
unfolding computing_script hex_on_literals
put_offered = refl

no_front : StartsWith six edited → ⊥
no_front e = absurd cc

-- the law fails where edits are left out of account: the document is no front of the file, whatever the store's bytes
wrong_edits : (slots : List (List ℕ)) → HasReceived fresh (script put_after) (shown_as put_after slots) 1 2 edited → ⊥
wrong_edits slots r =
    no_front (subst (λ file. StartsWith file edited) (same_value (offered fresh (script put_after) 1) r.was_offered put_offered) r.front)
