-- What the definitions make of three commands, one after the other.
use Rattle.std.proofs.Common.{◌≡◌, ℕ, List, [], ◌∷◌, true, refl, subst, sym, ◌∙◌}
use Rattle.rh_defs.specs.Desk.{Desk}
use Rattle.rh_defs.specs.Order.{IsReordered}
use Rattle.rh_defs.specs.Range.{in_range}
use Rattle.rh_defs.specs.Runs.{start, after}
use Rattle.rh_defs.specs.Commands.{step}
use Rattle.rh_defs.specs.declared.command.Command.{Command}
use Rattle.rh_defs.specs.declared.command.Command.TheVariants.{Task, Alloc, Claim}
use Rattle.rh_defs.specs.declared.command.Manner.TheVariants.{Plain}
use Rattle.rh_defs.specs.declared.reply.Reply.{Reply}
use Rattle.rh_defs.specs.declared.reply.Reply.TheVariants.{Block}
use Rattle.rh_defs.specs.Inner.Computing.{computing_runs}
use Rattle.rh_tasks.specs.Answer.{RunsOn, StepsTo}
use Rattle.callers.specs.UsedTasks.{the_commands, the_name}

begun : (d0 d : Desk) → d0 ≡ d → IsReordered d d0
begun d0 d is = subst (λ (x : Desk). IsReordered d x) (sym is) (record { same = record { each = λ h. refl }; rest = refl })

-- the third of three replies
pub third : (a b c : Command) (d0 d1 d2 d3 d : Desk) (ra rb rc : Reply) → d0 ≡ d → StepsTo a d0 d1 ra → StepsTo b d1 d2 rb → StepsTo c d2 d3 rc
    → (step (after d (a ∷ b ∷ [])) c).1 ≡ rc
third a b c d0 d1 d2 d3 d ra rb rc is first second last = (last _ (second _ (first d (begun d0 d is)).1).1).0

abbrev pub the_task : List ℕ → Command
the_task name = Task name 100 Plain

abbrev pub the_alloc : List ℕ → Command
the_alloc name = Alloc name 0 5

abbrev pub the_claim : List ℕ → Command
the_claim name = Claim name 4000

-- their names and numbers are those of a script
pub in_ranges : (name : List ℕ) → name ≡ the_name → (in_range (the_task name) ≡ true) × (in_range (the_alloc name) ≡ true) × (in_range (the_claim name) ≡ true)
unfolding in_range
in_ranges name is = rw is (refl, refl, refl)

claimed : (x y z : List ℕ) → x ≡ the_name → y ≡ the_name → z ≡ the_name
    → (step (after (start 64 []) (the_task x ∷ the_alloc y ∷ [])) (the_claim z)).1 ≡ Block 0x8114
unfolding computing_runs
claimed x y z i j k = rw (i, j, k) refl

-- the C heap's first block is at &8114, also where the heap grows for it
pub third_reply : (x y z : List ℕ) (d0 d1 d2 d3 : Desk) (ra rb rc : Reply) → x ≡ the_name → y ≡ the_name → z ≡ the_name → d0 ≡ start 64 []
    → StepsTo (the_task x) d0 d1 ra → StepsTo (the_alloc y) d1 d2 rb → StepsTo (the_claim z) d2 d3 rc → rc ≡ Block 0x8114
third_reply x y z d0 d1 d2 d3 ra rb rc i j k is first second last =
    sym (third (the_task x) (the_alloc y) (the_claim z) d0 d1 d2 d3 (start 64 []) ra rb rc is first second last) ∙ claimed x y z i j k

-- the desk after them
pub ran : (x y z : List ℕ) (d0 d1 d2 d3 : Desk) → x ≡ the_name → y ≡ the_name → z ≡ the_name → d0 ≡ start 64 []
    → RunsOn (the_task x) d0 d1 → RunsOn (the_alloc y) d1 d2 → RunsOn (the_claim z) d2 d3 → IsReordered (after (start 64 []) the_commands) d3
ran x y z d0 d1 d2 d3 i j k is first second last =
    let one = first (start 64 []) [] (begun d0 (start 64 []) is) in
    let two = second (start 64 []) (the_task x ∷ []) one in
    let three = last (start 64 []) (the_task x ∷ the_alloc y ∷ []) two in
    subst (λ (n : List ℕ). IsReordered (after (start 64 []) (the_task n ∷ the_alloc the_name ∷ the_claim the_name ∷ [])) d3) i
    (subst (λ (n : List ℕ). IsReordered (after (start 64 []) (the_task x ∷ the_alloc n ∷ the_claim the_name ∷ [])) d3) j
    (subst (λ (n : List ℕ). IsReordered (after (start 64 []) (the_task x ∷ the_alloc y ∷ the_claim n ∷ [])) d3) k three))
