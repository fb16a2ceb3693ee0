use Rattle.std.proofs.Common.{◌≡◌, suc, ◌+◌, ◌-◌, ◌∙◌, ap, arith, length}
use Rattle.rh_lines.proofs.DigitLemmas.{digit_before, digit_first, fewer_digits}
use Rattle.rh_lines.proofs.hexadecimal.put_hex_number.Goals as goal

pub byte-requires : goal.byte-requires
byte-requires c = omega (arith, c.requires, c.loop-rest.invariant.some)

pub loop-rest-preserved : goal.loop-rest-preserved
loop-rest-preserved c =
    let left = length c.args.text.now + 8 - length c.loop-rest.text in
    let fewer = fewer_digits c.loop-rest.rest left c.loop-rest-test.true c.loop-rest.invariant.few in
    let longer = ap length c.byte.ensures in
    let fewer_left : length c.args.text.now + 8 - suc (length c.loop-rest.text) ≡ left - 1 = omega arith in record {
      so_far = rw c.byte.ensures (digit_before _ c.loop-rest.rest c.loop-rest.text _ c.loop-rest.invariant.so_far c.loop-rest-test.true (omega arith)
          c.digit_of.ensures);
      few = rw (c.byte.ensures, fewer_left) fewer.1;
      some = omega (arith, fewer.0, longer);
    }

pub byte-requires-2 : goal.byte-requires-2
byte-requires-2 c = omega (arith, c.requires, c.loop-rest.invariant.some)

pub returns-clause-value : goal.returns-clause-value
returns-clause-value c =
    c.byte-2.ensures
    ∙ digit_first _ c.loop-rest.rest c.loop-rest.text _ c.loop-rest.invariant.so_far c.loop-rest-test.false c.digit_of-2.ensures

pub returns-clause-few : goal.returns-clause-few
returns-clause-few c = omega (arith, ap length c.byte-2.ensures, c.loop-rest.invariant.some)
