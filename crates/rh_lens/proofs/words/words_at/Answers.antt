use Rattle.rh_lens.proofs.words.words_at.Goals as goal

pub returns-in-AnchorWords : goal.returns-in-AnchorWords
returns-in-AnchorWords c i told = rw c.in-AnchorWords.is c.fixed_words.ensures

pub returns-in-Descriptor : goal.returns-in-Descriptor
returns-in-Descriptor c i told = rw c.in-Descriptor.is c.fixed_words-in-Descriptor.ensures

pub returns-in-Claimed : goal.returns-in-Claimed
returns-in-Claimed c i told = rw c.in-Claimed.is (c.block_words.ensures i c.args.piece.now told)

pub returns-in-FreeHole : goal.returns-in-FreeHole
returns-in-FreeHole c i told = rw (c.in-FreeHole.is, told.piece) c.sized_words.ensures

pub returns-in-FreeTop : goal.returns-in-FreeTop
returns-in-FreeTop c i told = rw (c.in-FreeTop.is, told.piece) c.sized_words-in-FreeTop.ensures

pub returns-in-Unused : goal.returns-in-Unused
returns-in-Unused c i told = rw (c.in-Unused.is, told.piece) c.sized_words-in-Unused.ensures

pub returns-in-MoreSegments : goal.returns-in-MoreSegments
returns-in-MoreSegments c i told = rw (c.in-MoreSegments.is, told.piece) c.more_words.ensures

pub returns-in-FlexBlock : goal.returns-in-FlexBlock
returns-in-FlexBlock c i told = rw c.in-FlexBlock.is (c.flex_words.ensures i c.args.piece.now told)
