use Rattle.std.proofs.Common.{◌+◌, ◌<◌, sym, arith}
use Rattle.rh_defs.proofs.MessageImageLaws.{found_spelled}
use Rattle.rh_wimp.proofs.DecodeLaws.{name-within}
use Rattle.rh_wimp.proofs.decoding.decode_file.Goals as goal

pub read_name-requires-clause-within : goal.read_name-requires-clause-within
read_name-requires-clause-within c =
    let w : 44 + c.in-Some.n < c.args.end = name-within c.args.bytes.now c.args.end c.in-Some.n c.if-end-lt-LEAST_FILE_LENGTH.false (sym c.in-Some.ensures) in
    omega arith

pub read_name-requires-clause-short : goal.read_name-requires-clause-short
read_name-requires-clause-short c =
    let w : 44 + c.in-Some.n < c.args.end = name-within c.args.bytes.now c.args.end c.in-Some.n c.if-end-lt-LEAST_FILE_LENGTH.false (sym c.in-Some.ensures) in
    omega arith

pub read_name-requires-clause-plain : goal.read_name-requires-clause-plain
read_name-requires-clause-plain c = (found_spelled c.args.bytes.now c.args.end c.in-Some.n c.if-end-lt-LEAST_FILE_LENGTH.false (sym c.in-Some.ensures)).2
