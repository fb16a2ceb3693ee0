use Rattle.std.proofs.Common.{◌≡◌, ◌∙◌, ◌-◌, length, ap, arith}
use Rattle.memchr.specs.Find.{is_byte, places_from}
use Rattle.rh_map.proofs.FrontLemmas.{count-ended}
use Rattle.rh_map.proofs.front.count_lines.Goals as goal

pub returns : goal.returns
returns c =
    let text = c.args.text.now in
    let all : length text - 0 ≡ length text = omega arith in
    c.count.ensures ∙ (ap length c.memchr_iter.ensures.value ∙ (ap (λ n. length (places_from (is_byte 10) text 0 n)) all ∙ count-ended text))
