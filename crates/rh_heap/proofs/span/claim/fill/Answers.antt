use Rattle.rh_heap.proofs.Common.{◌-◌, zeros}
use Rattle.rh_heap.proofs.ClaimLaws.{fill_edges, fill_is_stretch, fill_spells, placed_there, no_shortage}
use Rattle.rh_heap.proofs.BlockLaws.{zeros_long, zeros_part}
use Rattle.rh_heap.proofs.span.claim.fill.Goals as goal

pub settle_below_block-requires-clause-stretch : goal.settle_below_block-requires-clause-stretch
settle_below_block-requires-clause-stretch g c =
    fill_is_stretch _ _ _ _ c.requires.gap (zeros (c.args.size - 4)) (zeros_long _ c.requires.least) _ _ _ c.requires.span.spells c.follow-next.ensures
    c.put_zeros.ensures.only.outside c.put_zeros.ensures.size (zeros_part _ _ _ c.put_zeros.ensures.zeros) c.requires.multiple

pub settle_below_block-requires-clause-below : goal.settle_below_block-requires-clause-below
settle_below_block-requires-clause-below g c =
    (fill_edges _ _ _ _ c.requires.gap (zeros (c.args.size - 4)) (zeros_long _ c.requires.least) _ _ _ c.requires.span.spells c.follow-next.ensures
    c.put_zeros.ensures.only.outside c.put_zeros.ensures.size (zeros_part _ _ _ c.put_zeros.ensures.zeros) c.requires.multiple).0

pub settle_below_block-requires-clause-apart : goal.settle_below_block-requires-clause-apart
settle_below_block-requires-clause-apart g c =
    (fill_edges _ _ _ _ c.requires.gap (zeros (c.args.size - 4)) (zeros_long _ c.requires.least) _ _ _ c.requires.span.spells c.follow-next.ensures
    c.put_zeros.ensures.only.outside c.put_zeros.ensures.size (zeros_part _ _ _ c.put_zeros.ensures.zeros) c.requires.multiple).1

pub returns-clause-took : goal.returns-clause-took
returns-clause-took g c = record {
  room = no_shortage _ _ _ _ c.requires.gap;
  address_is = placed_there _ _ _ _ c.requires.gap (zeros (c.args.size - 4)) (zeros_long _ c.requires.least);
  spells = fill_spells _ _ _ _ c.requires.gap (zeros (c.args.size - 4)) (zeros_long _ c.requires.least) _ _ _ _ c.requires.span.spells c.follow-next.ensures
      c.put_zeros.ensures.only.outside c.put_zeros.ensures.size (zeros_part _ _ _ c.put_zeros.ensures.zeros) c.requires.multiple
      c.settle_below_block.ensures.settles;
}
