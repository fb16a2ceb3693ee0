use Rattle.std.proofs.Common.{ap, ap₂, subst, ◌∙◌, ◌≡◌, map, string_bytes, true}
use Rattle.std.proofs.lemmas.Result.{IfOk-weaker}
use Rattle.clap.specs.Words.{App, FailsBy, app_of, fault_of, is_simple, is_simple_and_free, subcommand_of, with_subcommand}
use Rattle.rh_desk.specs.CommandLine.{program_top, program_words}
use Rattle.rh_desk.proofs.CommandLemmas.{third-passes}
use Rattle.rh_desk.proofs.command_line.parsed.Goals as goal

-- the command has the program's words
words-are : (c : goal.After-try_get_matches_from) → app_of c.in_ok-subcommand-5.field-0 ≡ program_words
words-are c =
    let top_is : app_of c.subcommand_required.result ≡ program_top =
    rw (c.subcommand_required.ensures, c.after_help.ensures, c.override_usage.ensures, c.about.ensures, c.version.ensures)
    (ap (λ (a : App). record a { top = record a.top { has_version = true; subcommand_required = true } }) c.new.ensures.app) in
    let one = c.in_ok-subcommand.ensures.shape (third-passes _ _ _ _ (ap (λ (a : App). a.top.is_plain) c.in_ok-running.ensures)) in
    let two = c.in_ok-subcommand-2.ensures.shape (third-passes _ _ _ _ (ap (λ (a : App). a.top.is_plain) c.in_ok-running-2.ensures)) in
    let three = c.in_ok-subcommand-3.ensures.shape (third-passes _ _ _ _ (ap (λ (a : App). a.top.is_plain) c.in_ok-picturing.ensures)) in
    let four = c.in_ok-subcommand-4.ensures.shape (third-passes _ _ _ _ (ap (λ (a : App). a.top.is_plain) c.in_ok-drawing.ensures)) in
    let five = c.in_ok-subcommand-5.ensures.shape (third-passes _ _ _ _ (ap (λ (a : App). a.top.is_plain) c.in_ok-checking.ensures)) in
    let run = one ∙ ap₂ with_subcommand top_is (ap (λ (a : App). a.top) c.in_ok-running.ensures) in
    let explain_too = two ∙ ap₂ with_subcommand run (ap (λ (a : App). a.top) c.in_ok-running-2.ensures) in
    let map_too = three ∙ ap₂ with_subcommand explain_too (ap (λ (a : App). a.top) c.in_ok-picturing.ensures) in
    let draw_too = four ∙ ap₂ with_subcommand map_too (ap (λ (a : App). a.top) c.in_ok-drawing.ensures) in
    five ∙ ap₂ with_subcommand draw_too (ap (λ (a : App). a.top) c.in_ok-checking.ensures)

pub returns-clause-found : goal.returns-clause-found
returns-clause-found c =
    let all = words-are c in
    IfOk-weaker c.try_get_matches_from.result _ _ (λ m found. (found (ap is_simple all)).1
    ∙ ap (λ (a : App). subcommand_of a (map string_bytes c.args.words.now)) all) c.try_get_matches_from.ensures.matches

pub returns-clause-fails : goal.returns-clause-fails
returns-clause-fails c =
    let all = words-are c in
    subst (λ (a : App). FailsBy (fault_of a (map string_bytes c.args.words.now)) c.try_get_matches_from.result) all
    (c.try_get_matches_from.ensures.kinds (ap is_simple_and_free all))
