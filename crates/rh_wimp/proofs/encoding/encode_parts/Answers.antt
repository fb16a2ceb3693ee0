use Rattle.rh_wimp.proofs.Common.{◌+◌, ap, arith, Message}
use Rattle.rh_wimp.proofs.EncodeLaws.{encoded-put}
use Rattle.rh_wimp.proofs.encoding.encode_parts.Goals as goal

pub returns-clause-bytes : goal.returns-clause-bytes
returns-clause-bytes c =
    let m : Message = record { from = c.args.from; my_ref = c.args.my_ref; your_ref = c.args.your_ref; body = c.args.body.now } in
    let short = c.encode_body-length.ensures.short in
    encoded-put c.args.out.now c.encode_body-length.new.out c.put_words.new.out m (16 + c.encode_body-length.result) c.requires
    c.encode_body-length.ensures.bytes c.put_words.ensures.bytes
    (ap (λ n. 16 + n) c.encode_body-length.ensures.length) (omega arith)
