-- Worked runs with their bytes renamed, and a run with one definition changed, on which renaming_law fails.
use Rattle.rh_laws.proofs.Common.{◌≡◌, ℕ, ◌*◌, List, [], ◌∷◌, map, refl, ap, arith, Ok, Err, ◌==◌, if◌then◌else◌, slice_index, hex_on_literals, String}
use Rattle.rh_laws.proofs.Common.{Command, Granted, or_else, Desk, Answer, put, Bytes, Told, asked, after, replies, step, fresh, script}
use Rattle.rh_defs.specs.declared.command.Command.TheVariants as command
use Rattle.rh_defs.specs.declared.question.Question.TheVariants as question
use Rattle.rh_defs.specs.declared.reply.Reply.TheVariants as reply
use Rattle.rh_defs.specs.Questions.{Listed}
use Rattle.rh_defs.specs.Inner.Computing.{computing_script}
use Rattle.rh_laws.specs.Renaming.{renamed, renamed_command}

-- what is listed of an answer, where it is bytes
abbrev listed_bytes : Listed → List ℕ
listed_bytes (Bytes bytes) = bytes
listed_bytes _ = []

abbrev told_bytes : Granted Told → List ℕ
told_bytes (Ok told) = listed_bytes told.1
told_bytes (Err refusal) = []

-- the bytes of the block at anchor 0 of the task b
abbrev shown : Desk → List ℕ
shown d = told_bytes (asked d (question.Show (98 ∷ []) 0))

-- each byte sixteen times as large
abbrev by_sixteen : ℕ → ℕ
by_sixteen b = 16 * b

-- a puts two bytes, which come to b by its buffer of four
abbrev sent_on : List String
sent_on = "task a 4" ∷ "task b 4" ∷ "alloc a 0 3" ∷ "put a 0 0 0708" ∷ "save a 0 b x" ∷ "poll b" ∷ "poll a" ∷ "poll b" ∷ "show b 0" ∷ []

came_over : shown (after fresh (script sent_on)) ≡ 7 ∷ 8 ∷ 0 ∷ []
unfolding computing_script hex_on_literals
came_over = refl

came_over_renamed : shown (after fresh (map (renamed_command by_sixteen) (script sent_on))) ≡ 112 ∷ 128 ∷ 0 ∷ []
unfolding computing_script hex_on_literals
came_over_renamed = refl

-- the replies tell nothing of the bytes
same_replies : replies fresh (map (renamed_command by_sixteen) (script sent_on)) ≡ replies fresh (script sent_on)
unfolding computing_script hex_on_literals
same_replies = refl

-- a task that begins after another's end has none of its bytes
abbrev after_a_death : List String
after_a_death = "task a 4" ∷ "alloc a 0 3" ∷ "put a 0 0 0708" ∷ "kill a" ∷ "task b 4" ∷ "alloc b 0 3" ∷ []

none_left : shown (after fresh (script after_a_death)) ≡ 0 ∷ 0 ∷ 0 ∷ []
unfolding computing_script hex_on_literals
none_left = refl

-- ---- a put that ends at a zero byte

-- the bytes before the first zero
abbrev up_to_zero : List ℕ → List ℕ
up_to_zero [] = []
up_to_zero (b ∷ bytes) = if b == 0 then [] else b ∷ up_to_zero bytes

abbrev wrong_step : Desk → Command → Answer
wrong_step d (command.Put name k offset bytes) = or_else (put d name k offset (up_to_zero bytes)) (λ refusal. (d, reply.Refused refusal))
wrong_step d c = step d c

-- the same as StepsRenamed of these commands
abbrev WrongSteps : Type 0
WrongSteps =
    (f : ℕ → ℕ) → f 0 ≡ 0 → (d : Desk) (c : Command) →
    wrong_step (renamed f d) (renamed_command f c) ≡ (renamed f (wrong_step d c).0, (wrong_step d c).1)

-- 7 becomes 0
abbrev no_seven : ℕ → ℕ
no_seven b = if b == 7 then 0 else b

abbrev with_ones : List String
with_ones = "task b 4" ∷ "alloc b 0 2" ∷ "put b 0 0 0101" ∷ []

abbrev seven_eight : Command
seven_eight = command.Put (98 ∷ []) 0 0 (7 ∷ 8 ∷ [])

wrong_law : WrongSteps → ⊥
unfolding computing_script hex_on_literals
wrong_law law =
    let same : 1 ≡ 0 = ap (λ (a : Answer). slice_index (shown a.0) 0) (law no_seven refl (after fresh (script with_ones)) seven_eight) in
    absurd (omega (arith, same))
