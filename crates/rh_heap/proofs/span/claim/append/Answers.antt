use Rattle.rh_heap.proofs.Common.{◌-◌, zeros}
use Rattle.rh_heap.proofs.ClaimLaws.{append_spells, placed_top, no_top_shortage}
use Rattle.rh_heap.proofs.BlockLaws.{zeros_long, zeros_part}
use Rattle.rh_heap.proofs.span.claim.append.Goals as goal

pub returns-clause-took : goal.returns-clause-took
returns-clause-took g c = record {
  room = no_top_shortage _ _ _ c.requires.none c.requires.top c.requires.room;
  address_is = placed_top c.args.span.at _ _ c.requires.none (zeros (c.args.size - 4)) (zeros_long _ c.requires.least) _ c.requires.top;
  spells = append_spells _ _ _ c.requires.none (zeros (c.args.size - 4)) (zeros_long _ c.requires.least) _ _ _ _ c.requires.span.spells c.requires.top
      c.requires.room
      c.put_zeros.ensures.only.outside c.put_zeros.ensures.size (zeros_part _ _ _ c.put_zeros.ensures.zeros) c.write.ensures.only.outside
      c.write.ensures.value c.requires.multiple;
}
