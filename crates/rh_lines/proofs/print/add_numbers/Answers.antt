use Rattle.std.proofs.Common.{◌++◌, ◌∷◌, [], ap, sym, ◌∙◌, append-nil, append_assoc, arith, refl, length, length-append}
use Rattle.std.specs.List.{flat_map}
use Rattle.std.proofs.lemmas.List.{take_all}
use Rattle.rh_lines.proofs.NumberLemmas.{numbers-more, numbers-end, spaced}
use Rattle.rh_lines.proofs.print.add_numbers.Goals as goal

pub loop-number-init : goal.loop-number-init
loop-number-init c = (sym (append-nil c.args.row.now), omega arith)

pub byte-requires : goal.byte-requires
byte-requires c = omega (arith, c.requires.few, c.requires.room, c.loop-number.invariant.1, c.loop-number-test.true)

pub decimal-requires : goal.decimal-requires
decimal-requires c =
    omega (
      arith,
      c.requires.few,
      c.requires.room,
      c.loop-number.invariant.1,
      c.loop-number-test.true,
      length-append c.loop-number.row (32 ∷ []),
      ap length c.byte.ensures,
    )

pub loop-number-preserved : goal.loop-number-preserved
loop-number-preserved c = (
  numbers-more c.loop-number.row c.args.row.now c.byte.new.self c.decimal.new.self c.args.numbers.now c.loop-number.number-index _ _
      c.loop-number.invariant.0 refl c.loop-number-test.true c.byte.ensures c.decimal.ensures.value,
  omega (arith, c.loop-number.invariant.1, c.decimal.ensures.few, length-append c.loop-number.row (32 ∷ []), ap length c.byte.ensures),
)

pub byte-requires-2 : goal.byte-requires-2
byte-requires-2 c = omega (arith, c.requires.few, c.requires.room, c.loop-number.invariant.1, c.loop-number.auto.number-index-end)

pub returns : goal.returns
returns c =
    c.byte-2.ensures
    ∙ (ap (λ z. z ++ 10 ∷ []) c.loop-number.invariant.0
    ∙ (append_assoc c.args.row.now _ (10 ∷ [])
    ∙ ap (λ z. c.args.row.now ++ z) (ap (λ ns. flat_map spaced ns ++ 10 ∷ []) (take_all c.loop-number.number-index c.args.numbers.now
    c.loop-number-test.false) ∙ numbers-end c.args.numbers.now)))
