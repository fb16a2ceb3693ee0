use Rattle.rh_wimp.proofs.Common.{◌+◌, ◌*◌, get_or, take, sym, ap, ◌∙◌, arith, length-take, with_part, word_bytes, words}
use Rattle.std.proofs.lemmas.List.{take_more}
use Rattle.rh_defs.proofs.BytesLaws.{put_none}
use Rattle.rh_wimp.proofs.EncodeLaws.{are-words, words-one}
use Rattle.rh_wimp.proofs.bytes.put_words.Goals as goal

pub loop-i-init : goal.loop-i-init
loop-i-init c = sym (put_none c.args.out.now c.args.at)

pub loop-i-preserved : goal.loop-i-preserved
loop-i-preserved c =
    let ws = c.args.ws.now in
    let i = c.loop-i.i in
    let l = length-take i ws in
    let o = c.args.out.now in
    c.put_word.ensures ∙ ap (λ b. with_part b (c.args.at + 4 * i) (word_bytes (get_or ws i 0))) c.loop-i.invariant
    ∙ words-one o c.args.at (c.args.at + 4 * i) (take i ws) (get_or ws i 0) (omega arith)
    ∙ ap (λ ns. with_part o c.args.at (words ns)) (sym (take_more ws i 0 c.loop-i-test.true))

pub returns-clause-numbers : goal.returns-clause-numbers
returns-clause-numbers c = are-words c.args.ws.now (λ i l. (c.type_inv.ws i).fits)
