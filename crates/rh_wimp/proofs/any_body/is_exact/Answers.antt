use Rattle.rh_wimp.proofs.Common.{◌≡◌, ◌-◌, length, true, false, refl, sym, ap, ◌∙◌, arith, part}
use Rattle.std.proofs.Common.{rules}
use Rattle.std.specs.Prelude.{nat_eq, nat_le, nat_lt}
use Rattle.std.proofs.lemmas.Bool.Decides.{nat_tests}
use Rattle.rh_defs.specs.OtherBodies.{is_exact, is_name_data}
use Rattle.rh_defs.proofs.BytesLaws.{length-part}
use Rattle.rh_wimp.proofs.AnyLaws.{name-behind}
use Rattle.rh_wimp.proofs.any_body.is_exact.Goals as goal

pub returns-then-end-gt-NAME : goal.returns-then-end-gt-NAME
returns-then-end-gt-NAME c =
    let six : nat_eq c.args.number 6 ≡ false = grind (arith, nat_tests, c.in-1-to-4) in
    let seven : nat_eq c.args.number 7 ≡ false = grind (arith, nat_tests, c.in-1-to-4) in
    let low : nat_le 1 c.args.number ≡ true = grind (arith, nat_tests, c.in-1-to-4) in
    let high : nat_le c.args.number 4 ≡ true = grind (arith, nat_tests, c.in-1-to-4) in
    let l = length-part c.args.bytes.now 20 (c.args.end - 20) in
    let long : nat_lt 24 (length (part c.args.bytes.now 20 (c.args.end - 20))) ≡ true = grind (arith, nat_tests, c.if-end-gt-NAME.true, l) in
    c.is_name_last.ensures ∙ ap is_name_data (sym (name-behind c.args.bytes.now c.args.end (omega arith) c.requires.high)) ∙
    rw (six, seven, low, high, long) refl

pub returns-else-end-gt-NAME : goal.returns-else-end-gt-NAME
returns-else-end-gt-NAME c =
    let six : nat_eq c.args.number 6 ≡ false = grind (arith, nat_tests, c.in-1-to-4) in
    let seven : nat_eq c.args.number 7 ≡ false = grind (arith, nat_tests, c.in-1-to-4) in
    let low : nat_le 1 c.args.number ≡ true = grind (arith, nat_tests, c.in-1-to-4) in
    let high : nat_le c.args.number 4 ≡ true = grind (arith, nat_tests, c.in-1-to-4) in
    let l = length-part c.args.bytes.now 20 (c.args.end - 20) in
    let short : nat_lt 24 (length (part c.args.bytes.now 20 (c.args.end - 20))) ≡ false = grind (arith, nat_tests, c.if-end-gt-NAME.false, l) in
    let none : nat_lt 44 c.args.end ≡ false = grind (arith, nat_tests, c.if-end-gt-NAME.false) in
    none ∙ rw (six, seven, low, high, short) refl

pub returns-in-6 : goal.returns-in-6
returns-in-6 c =
    let l = length-part c.args.bytes.now 20 (c.args.end - 20) in
    let same : nat_eq c.args.end 28 ≡ nat_eq (length (part c.args.bytes.now 20 (c.args.end - 20))) 8 = grind (arith, nat_tests, l) in
    let kind : nat_eq (length (part c.args.bytes.now 20 (c.args.end - 20))) 8 ≡ is_exact c.args.number (part c.args.bytes.now 20 (c.args.end - 20)) =
    search rules in
    same ∙ kind
