use Rattle.std.proofs.Common.{rules, ◌≡◌, ◌+◌, ◌-◌, ◌∙◌, ap, arith, codes, drop, false, length, sym}
use Rattle.std.specs.Prelude.{if◌then◌else◌}
use Rattle.std.specs.Str.{bytes_eq}
use Rattle.std.proofs.lemmas.List.{length-drop, take_all}
use Rattle.rh_desk.specs.SheetNames.{last_part}
use Rattle.rh_desk.proofs.NameLemmas.{behind-last, whole-path}
use Rattle.rh_desk.proofs.words.sheet_name.Goals as goal

pub returns-in-Some : goal.returns-in-Some
returns-in-Some c =
    let script = c.args.script.now in
    let path = c.as_bytes-path.result.now in
    let test : bytes_eq script (codes "-") ≡ false = search rules in
    let found = c.in-Some.ensures in
    let whole = take_all (length path - (c.in-Some.at + 1)) (drop (c.in-Some.at + 1) path) (omega (arith, length-drop (c.in-Some.at + 1) path)) in
    whole ∙ (behind-last path c.in-Some.at found.0.high found.1 (λ k low high e. found.0.after k low high e)
    ∙ (ap last_part c.as_bytes-path.ensures.value ∙ ap (λ b. if b then codes "standard input" else last_part script) (sym test)))

pub returns-in-None : goal.returns-in-None
returns-in-None c =
    let script = c.args.script.now in
    let path = c.as_bytes-path.result.now in
    let test : bytes_eq script (codes "-") ≡ false = search rules in
    whole-path path c.in-None.ensures
    ∙ (ap last_part c.as_bytes-path.ensures.value ∙ ap (λ b. if b then codes "standard input" else last_part script) (sym test))
