use Rattle.std.proofs.Common.{arith, length-append}
use Rattle.hex.specs.Hex.{lower_digits}
use Rattle.hex.proofs.HexLemmas.{length-encode_with}
use Rattle.rh_script.proofs.shown.add_bytes.Goals as goal

pub byte-requires-3 : goal.byte-requires-3
byte-requires-3 c =
    rw (c.hex_digits.ensures, c.byte-2.ensures) (simp length-append (omega (arith, length-encode_with lower_digits c.args.bytes.now, c.requires)))
