use Rattle.rh_wimp.proofs.Common.{length, ap, arith, body_bytes, DataSave, DataSaveAck, DataLoad, DataLoadAck, RamFetch, RamTransmit, Other}
use Rattle.rh_defs.proofs.MessageLaws.{length-body}
use Rattle.rh_wimp.proofs.encoding.body_length.Goals as goal
use Rattle.rh_wimp.proofs.encoding.body_length.Goals.{in-DataSave, in-DataSaveAck, in-DataLoad, in-DataLoadAck, in-RamFetch, in-RamTransmit, in-Other}

pub returns-clause-length : goal.returns-clause-length
returns-clause-length c =
    elim c.match-body.branch [
      | in-DataSave w ↦ let e = ap (λ b. length (body_bytes b)) w.in-DataSave.is in
          omega (arith, w.result-is, w.file_length.ensures.length, length-body (DataSave w.in-DataSave.file))
      | in-DataSaveAck w ↦ let e = ap (λ b. length (body_bytes b)) w.in-DataSaveAck.is in
          omega (arith, w.result-is, w.file_length-in-DataSaveAck.ensures.length, length-body (DataSaveAck w.in-DataSaveAck.file))
      | in-DataLoad w ↦ let e = ap (λ b. length (body_bytes b)) w.in-DataLoad.is in
          omega (arith, w.result-is, w.file_length-in-DataLoad.ensures.length, length-body (DataLoad w.in-DataLoad.file))
      | in-DataLoadAck w ↦ let e = ap (λ b. length (body_bytes b)) w.in-DataLoadAck.is in
          omega (arith, w.result-is, w.file_length-in-DataLoadAck.ensures.length, length-body (DataLoadAck w.in-DataLoadAck.file))
      | in-RamFetch w ↦ let e =
          ap (λ b. length (body_bytes b)) w.in-RamFetch.is in omega (arith, w.result-is, length-body (RamFetch w.in-RamFetch.buffer w.in-RamFetch.length))
      | in-RamTransmit w ↦ let e = ap (λ b. length (body_bytes b)) w.in-RamTransmit.is in
          omega (arith, w.result-is, length-body (RamTransmit w.in-RamTransmit.buffer w.in-RamTransmit.written))
      | in-Other w ↦ let e = ap (λ b. length (body_bytes b)) w.in-Other.is in
          omega (arith, w.result-is, ap length w.as_slice.ensures.value, ap length w.data.ensures.value, length-body (Other w.in-Other.other))
    ]
