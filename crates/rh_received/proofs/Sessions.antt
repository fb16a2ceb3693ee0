-- A run goes on command by command.
use Rattle.std.proofs.Common.{◌≡◌, ℕ, zero, suc, ◌+◌, ◌<◌, ◌≤◌, true, List, [], ◌∷◌, ◌++◌, length, get_or, take, sym, ap, subst, ◌∙◌, arith}
use Rattle.std.proofs.lemmas.List.{take_more}
use Rattle.rh_defs.specs.declared.sizes.TheConstants.{MIN_PAGES}
use Rattle.rh_defs.specs.Forms.{most_pages}
use Rattle.rh_defs.specs.Desk.{Desk}
use Rattle.rh_defs.specs.Files.{FileList}
use Rattle.rh_defs.specs.Range.{in_range, all_in_range}
use Rattle.rh_defs.specs.Runs.{start}
use Rattle.rh_defs.specs.declared.command.Command.{Command}
use Rattle.rh_safety.proofs.Basics.{and_left, and_right}
use Rattle.rh_tasks.specs.Answer.{RunsOn}
use Rattle.rh_tasks.specs.Shown.{Shown}
use Rattle.rh_received.specs.Received.{HasRun, RunsBegin, RunsGoOn}

in-range-at : (cs : List Command) (i : ℕ) (d : Command) → all_in_range cs ≡ true → i < length cs → in_range (get_or cs i d) ≡ true
in-range-at [] i d a l = absurd (omega arith)
in-range-at (c ∷ cs) zero d a l = and_left (in_range c) (all_in_range cs) a
in-range-at (c ∷ cs) (suc i) d a l = in-range-at cs i d (and_right (in_range c) (all_in_range cs) a) (omega arith)

pub run-begins : RunsBegin → (pages : ℕ) (files : FileList) (s : Shown) → MIN_PAGES ≤ pages → pages ≤ most_pages →
    s.desk ≡ start pages files → HasRun (start pages files) [] s
run-begins begins pages files s least most e =
    begins pages 1 1 files s (record {
      least = least;
      most = most;
      first_handle = omega arith;
      last_handle = omega arith;
      first_ref = omega arith;
      last_ref = omega arith;
    }) e

pub run-goes-on : RunsGoOn → (d : Desk) (cs : List Command) (i : ℕ) (c : Command) (old new : Shown) → all_in_range cs ≡ true →
    i < length cs → c ≡ get_or cs i c → RunsOn c old.desk new.desk → HasRun d (take i cs) old → HasRun d (take (i + 1) cs) new
run-goes-on goes_on d cs i c old new ranged l e runs run =
    let one : take (i + 1) cs ≡ take i cs ++ c ∷ [] = take_more cs i c l ∙ ap (λ x. take i cs ++ x ∷ []) (sym e) in
    let in_c : in_range c ≡ true = ap in_range e ∙ in-range-at cs i c ranged l in
    subst (λ xs. HasRun d xs new) (sym one) (goes_on d (take i cs) c old new in_c runs run)
