use Rattle.rh_wimp.proofs.Common.{ap, ◌∙◌, arith, with_part, words}
use Rattle.rh_defs.specs.Messages.{file_words, name_bytes}
use Rattle.rh_defs.proofs.MessageLaws.{length-words, puts_in_row}
use Rattle.rh_wimp.proofs.encoding.encode_file.Goals as goal

pub returns-clause-bytes : goal.returns-clause-bytes
returns-clause-bytes c =
    let f = c.args.file.now in
    c.encode_name.ensures.bytes ∙ ap (λ l. with_part c.put_words.new.out 44 (name_bytes l)) c.as_bytes.ensures.value
    ∙ ap (λ b. with_part b 44 (name_bytes f.name)) c.put_words.ensures.bytes
    ∙ puts_in_row c.args.out.now 20 44 (words (file_words f)) (name_bytes f.name) (omega (arith, length-words (file_words f)))
