use Rattle.rh_wimp.proofs.EncodeLaws.{name-put}
use Rattle.rh_wimp.proofs.encoding.encode_name.Goals as goal

pub returns-clause-bytes : goal.returns-clause-bytes
returns-clause-bytes c = name-put c.args.out.now c.put_bytes.new.out c.put_zeros.new.out c.args.name.now c.name_room-room.result c.put_bytes.ensures
    c.put_zeros.ensures c.name_room-room.ensures
