use Rattle.std.proofs.Common.{◌∙◌, sym, arith}
use Rattle.rh_heap.proofs.StretchLaws.{settles_top, settles_none, settles_joined, settles_apart, joined_room, joined_stretch}
use Rattle.rh_heap.proofs.span.stretch.settle.Goals as goal

pub read-size-requires-clause-within : goal.read-size-requires-clause-within
read-size-requires-clause-within g c =
    let r = joined_room _ _ _ c.requires.stretch (λ e. c.if-stretch-read.false (e ∙ sym c.read.ensures.value)) c.if-stretch-2.true in omega arith

pub follow-next-requires-clause-within : goal.follow-next-requires-clause-within
follow-next-requires-clause-within g c =
    let r = joined_room _ _ _ c.requires.stretch (λ e. c.if-stretch-read.false (e ∙ sym c.read.ensures.value)) c.if-stretch-2.true in omega arith

pub put_hole-requires-clause-stretch : goal.put_hole-requires-clause-stretch
put_hole-requires-clause-stretch g c =
    joined_stretch _ _ _ _ _ c.requires.stretch (λ e. c.if-stretch-read.false (e ∙ sym c.read.ensures.value)) c.if-stretch-2.true c.read-size.ensures.value
    c.follow-next.ensures

pub returns-then-stretch-read-clause-settles : goal.returns-then-stretch-read-clause-settles
returns-then-stretch-read-clause-settles g c =
    settles_top _ _ _ _ _ (c.if-stretch-read.true ∙ c.read.ensures.value) c.write_link.ensures.only.outside c.write_link.ensures.links
    c.write.ensures.only.outside c.write.ensures.value

pub returns-then-stretch-clause-settles : goal.returns-then-stretch-clause-settles
returns-then-stretch-clause-settles g c =
    settles_none _ _ _ _ c.if-stretch.true c.write_link-then-stretch.ensures.only.outside c.write_link-then-stretch.ensures.links

pub returns-then-stretch-2-clause-settles : goal.returns-then-stretch-2-clause-settles
returns-then-stretch-2-clause-settles g c =
    settles_joined _ _ _ _ _ _ (λ e. c.if-stretch-read.false (e ∙ sym c.read.ensures.value)) c.if-stretch.false c.if-stretch-2.true c.read-size.ensures.value
    c.follow-next.ensures c.put_hole.ensures.puts

pub returns-else-stretch-2-clause-settles : goal.returns-else-stretch-2-clause-settles
returns-else-stretch-2-clause-settles g c =
    settles_apart _ _ _ _ (λ e. c.if-stretch-read.false (e ∙ sym c.read.ensures.value)) c.if-stretch.false c.if-stretch-2.false
    c.put_hole-else-stretch-2.ensures.puts
