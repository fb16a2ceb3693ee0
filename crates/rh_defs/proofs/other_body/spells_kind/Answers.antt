use Rattle.rh_defs.proofs.Common.{◌≡◌, ℕ, ◌-◌, ◌∙◌, List, ap, true, false, drop, length, length-drop, refl, arith, nat_tests}
use Rattle.std.proofs.lemmas.List.{take_all}
use Rattle.rh_defs.specs.OtherBodies.{is_name_data}
use Rattle.std.specs.Prelude.{nat_eq, nat_le, nat_lt}
use Rattle.rh_defs.proofs.other_body.spells_kind.Goals as goal

pub returns-then-bytes-gt-FILE_WORDS : goal.returns-then-bytes-gt-FILE_WORDS
returns-then-bytes-gt-FILE_WORDS c =
    let six : nat_eq c.args.action 6 ≡ false = grind (arith, nat_tests, c.in-1-to-4) in
    let seven : nat_eq c.args.action 7 ≡ false = grind (arith, nat_tests, c.in-1-to-4) in
    let low : nat_le 1 c.args.action ≡ true = grind (arith, nat_tests, c.in-1-to-4) in
    let high : nat_le c.args.action 4 ≡ true = grind (arith, nat_tests, c.in-1-to-4) in
    let long : nat_lt 24 (length c.args.bytes.now) ≡ true = grind (arith, nat_tests, c.if-bytes-gt-FILE_WORDS.true) in
    let bytes : List ℕ = c.args.bytes.now in
    c.is_name.ensures ∙ ap is_name_data (take_all (length bytes - 24) (drop 24 bytes) (omega (arith, length-drop 24 bytes))) ∙
    rw (six, seven, low, high, long) refl
