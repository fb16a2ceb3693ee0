-- Each command leaves the buffers that fetch from tasks with code of their own with the bytes that were moved there, and so does
-- every list of commands.
use Rattle.rh_laws.proofs.Common.{◌≡◌, true, List, [], ◌∷◌, None, refl, ◌∙◌, arith, Command, all_in_range, in_range, Desk, step, after, start_with}
use Rattle.rh_laws.proofs.Common.{start-is, step-keeps, and_left, and_right, has_of, none_some, keeps}
use Rattle.rh_defs.specs.declared.command.Command.TheVariants as command
use Rattle.rh_defs.specs.declared.raw_command.RawCommand.{RawCommand}
use Rattle.rh_defs.specs.declared.raw_command.RawCommand.TheVariants as raw
use Rattle.rh_defs.specs.declared.transfer.Incoming.TheVariants as incoming
use Rattle.rh_safety.specs.Counts.{AlwaysCounts}
use Rattle.rh_safety.proofs.SeenDocuments.{buffer_is}
use Rattle.rh_safety.proofs.SeenLaws.{start_stands}
use Rattle.rh_laws.specs.Contents.{Contents, HasContents, contents_from, contents_next}
use Rattle.rh_laws.proofs.ContentTasks.{Each, Holds, fit}
use Rattle.rh_laws.proofs.ContentSteps.{step-each}
use Rattle.rh_laws.proofs.ContentTurns.{poll-each}
use Rattle.rh_laws.proofs.ContentMoves.{transfer-each}

-- ---- one command

module _ {g : Contents} {d : Desk} (w : Holds g d) where
  raw-moves : (b : RawCommand) → let c = command.Raw b in Each (contents_next g d c (step d c).1) (step d c)
  raw-moves (raw.Transfer name x h y n) = transfer-each w name x h y n
  raw-moves b = step-each w (command.Raw b) refl refl

  command-moves : (c : Command) → Each (contents_next g d c (step d c).1) (step d c)
  command-moves (command.Poll name) = poll-each w name
  command-moves (command.Raw b) = raw-moves b
  command-moves c = step-each w c refl refl

-- ---- every run

run-holds : (cs : List Command) → all_in_range cs ≡ true → (g : Contents) (d : Desk) → Holds g d → Holds (contents_from g d cs) (after d cs)
run-holds [] ranged g d w = w
run-holds (b ∷ cs) ranged g d w =
    let one : in_range b ≡ true = and_left (in_range b) _ ranged in
    run-holds cs (and_right (in_range b) _ ranged) (contents_next g d b (step d b).1) (step d b).0 (record {
      offers = _;
      edits = _;
      gave = _;
      known = keeps b one d w.known (fit w);
      is = step-keeps d b one w.is;
      each = command-moves w b;
    })

pub always-has-contents : AlwaysCounts HasContents
always-has-contents pool handle ref files cs from ranged h t k at_ has its =
    let d : Desk = start_with pool files handle ref in
    let w = run-holds cs ranged (λ j i. []) d (record {
      offers = _;
      edits = _;
      gave = _;
      known = start_stands handle ref (omega (arith, from.first_ref));
      is = start-is pool handle ref files from;
      each = λ j u q. absurd (none_some None refl q);
    }) in
    buffer_is k.buffer t.slot ∙ (w.each h t at_).each k (has_of t.taking (incoming.Fetching k) has) its
