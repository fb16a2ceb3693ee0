use Rattle.rh_wimp.proofs.Common.{◌≡◌, ◌-◌, ◌<◌, sym, ap, ◌∙◌, arith, ◌==◌, part}
use Rattle.std.specs.Prelude.{nat_eq, false}
use Rattle.std.specs.List.{list_all}
use Rattle.std.proofs.lemmas.Bool.Decides.{nat_tests}
use Rattle.rh_defs.specs.OtherBodies.{ends_at}
use Rattle.rh_defs.proofs.BytesLaws.{length-part}
use Rattle.rh_wimp.proofs.AnyLaws.{name-there, tail-there, ends-there, ends-elsewhere}
use Rattle.rh_wimp.proofs.any_body.is_name_last.Goals as goal
use Rattle.rh_wimp.proofs.any_body.is_name_last.Goals.{After-name_length}

pub room_of-requires : goal.room_of-requires
room_of-requires c =
    let w : c.in-Some.n < c.args.end - 44 = name-there c.args.bytes.now c.args.end c.in-Some.n (sym c.in-Some.ensures) in omega arith

pub returns-then-end-room_of : goal.returns-then-end-room_of
returns-then-end-room_of c =
    let b = c.args.bytes.now in
    let n = c.in-Some.n in
    let e = sym c.in-Some.ensures in
    c.are_zeros.ensures ∙ ap (list_all (λ x. x == 0)) (sym (tail-there b c.args.end n e c.requires.high))
    ∙ ends-there (part b 44 (c.args.end - 44)) n (length-part b 44 (c.args.end - 44) ∙ c.if-end-room_of.true ∙ c.room_of.ensures)
    ∙ ap (ends_at (part b 44 (c.args.end - 44))) c.in-Some.ensures

pub returns-else-end-room_of : goal.returns-else-end-room_of
returns-else-end-room_of c =
    let b = c.args.bytes.now in
    let apart : nat_eq (c.args.end - 44) c.room_of.result ≡ false = grind (arith, nat_tests, c.if-end-room_of.false) in
    apart ∙ ends-elsewhere (part b 44 (c.args.end - 44)) c.in-Some.n c.room_of.result c.room_of.ensures
    (ap (λ k. nat_eq k c.room_of.result) (length-part b 44 (c.args.end - 44)) ∙ apart) ∙ ap (ends_at (part b 44 (c.args.end - 44))) c.in-Some.ensures
