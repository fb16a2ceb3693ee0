use Rattle.rh_wimp.proofs.Common.{length, sym, ap, ◌∙◌, arith, append-nil, with_part, action_number, body_bytes, words, data_words, DataSave, DataSaveAck}
use Rattle.rh_wimp.proofs.Common.{DataLoad}
use Rattle.rh_wimp.proofs.Common.{DataLoadAck, RamFetch, RamTransmit, Other}
use Rattle.rh_defs.proofs.MessageLaws.{length-body}
use Rattle.rh_wimp.proofs.EncodeLaws.{body-put}
use Rattle.rh_wimp.proofs.encoding.encode_body.Goals as goal
use Rattle.rh_wimp.proofs.encoding.encode_body.Goals.{in-DataSave, in-DataSaveAck, in-DataLoad, in-DataLoadAck, in-RamFetch, in-RamTransmit, in-Other}

pub returns-clause-bytes : goal.returns-clause-bytes
returns-clause-bytes c =
    let n = c.number.ensures ∙ ap action_number c.action.ensures in
    elim c.match-body.branch [
      | in-DataSave w ↦ w.out-is
          ∙ body-put c.args.body.now (DataSave w.in-DataSave.file) c.args.out.now c.put_word.new.out w.encode_file.new.out c.number.result w.in-DataSave.is n
          c.put_word.ensures w.encode_file.ensures.bytes
      | in-DataSaveAck w ↦ w.out-is ∙ body-put c.args.body.now (DataSaveAck w.in-DataSaveAck.file) c.args.out.now c.put_word.new.out
          w.encode_file-in-DataSaveAck.new.out c.number.result w.in-DataSaveAck.is n c.put_word.ensures w.encode_file-in-DataSaveAck.ensures.bytes
      | in-DataLoad w ↦ w.out-is ∙ body-put c.args.body.now (DataLoad w.in-DataLoad.file) c.args.out.now c.put_word.new.out w.encode_file-in-DataLoad.new.out
          c.number.result w.in-DataLoad.is n c.put_word.ensures w.encode_file-in-DataLoad.ensures.bytes
      | in-DataLoadAck w ↦ w.out-is ∙ body-put c.args.body.now (DataLoadAck w.in-DataLoadAck.file) c.args.out.now c.put_word.new.out
          w.encode_file-in-DataLoadAck.new.out c.number.result w.in-DataLoadAck.is n c.put_word.ensures w.encode_file-in-DataLoadAck.ensures.bytes
      | in-RamFetch w ↦ w.out-is
          ∙ body-put c.args.body.now (RamFetch w.in-RamFetch.buffer w.in-RamFetch.length) c.args.out.now c.put_word.new.out w.encode_pair.new.out
          c.number.result
          w.in-RamFetch.is n c.put_word.ensures
          (w.encode_pair.ensures.bytes ∙ ap (with_part c.put_word.new.out 20) (sym
          (append-nil (words (data_words (RamFetch w.in-RamFetch.buffer w.in-RamFetch.length))))))
      | in-RamTransmit w ↦ w.out-is ∙ body-put c.args.body.now (RamTransmit w.in-RamTransmit.buffer w.in-RamTransmit.written) c.args.out.now
          c.put_word.new.out w.encode_pair-in-RamTransmit.new.out c.number.result w.in-RamTransmit.is n c.put_word.ensures
          (w.encode_pair-in-RamTransmit.ensures.bytes ∙ ap (with_part c.put_word.new.out 20)
          (sym (append-nil (words (data_words (RamTransmit w.in-RamTransmit.buffer w.in-RamTransmit.written))))))
      | in-Other w ↦ w.out-is ∙ body-put c.args.body.now (Other w.in-Other.other) c.args.out.now c.put_word.new.out w.encode_data.new.out c.number.result
          w.in-Other.is n c.put_word.ensures
          (w.encode_data.ensures.bytes ∙ ap (with_part c.put_word.new.out 20) (w.as_slice.ensures.value ∙ w.data.ensures.value))
    ]

pub returns-clause-length : goal.returns-clause-length
returns-clause-length c =
    elim c.match-body.branch [
      | in-DataSave w ↦ let e = ap (λ b. length (body_bytes b)) w.in-DataSave.is in
          omega (arith, w.result-is, w.encode_file.ensures.length, length-body (DataSave w.in-DataSave.file))
      | in-DataSaveAck w ↦ let e = ap (λ b. length (body_bytes b)) w.in-DataSaveAck.is in
          omega (arith, w.result-is, w.encode_file-in-DataSaveAck.ensures.length, length-body (DataSaveAck w.in-DataSaveAck.file))
      | in-DataLoad w ↦ let e = ap (λ b. length (body_bytes b)) w.in-DataLoad.is in
          omega (arith, w.result-is, w.encode_file-in-DataLoad.ensures.length, length-body (DataLoad w.in-DataLoad.file))
      | in-DataLoadAck w ↦ let e = ap (λ b. length (body_bytes b)) w.in-DataLoadAck.is in
          omega (arith, w.result-is, w.encode_file-in-DataLoadAck.ensures.length, length-body (DataLoadAck w.in-DataLoadAck.file))
      | in-RamFetch w ↦ let e = ap (λ b. length (body_bytes b)) w.in-RamFetch.is in
          omega (arith, w.result-is, w.encode_pair.ensures.length, length-body (RamFetch w.in-RamFetch.buffer w.in-RamFetch.length))
      | in-RamTransmit w ↦ let e = ap (λ b. length (body_bytes b)) w.in-RamTransmit.is in
          omega (arith, w.result-is, w.encode_pair-in-RamTransmit.ensures.length, length-body (RamTransmit w.in-RamTransmit.buffer w.in-RamTransmit.written))
      | in-Other w ↦ let e = ap (λ b. length (body_bytes b)) w.in-Other.is in
          omega (
            arith,
            w.result-is,
            w.encode_data.ensures.length,
            ap length w.as_slice.ensures.value,
            ap length w.data.ensures.value,
            length-body (Other w.in-Other.other),
          )
    ]
