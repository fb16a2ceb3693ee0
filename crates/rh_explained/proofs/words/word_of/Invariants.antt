use Rattle.std.proofs.Common.{◌≡◌, ◌<◌, length}
use Rattle.rh_defs.specs.Line.{nth_word, words_of}
use Rattle.rh_explained.proofs.words.word_of.Given as goal

-- the word is one of those of the rest
abbrev pub invariant-pieces : goal.invariant-pieces
invariant-pieces l = record {
  some : 0 < l.left;
  so_far : nth_word (words_of l.fn.line) l.fn.n ≡ nth_word (words_of l.rest) l.left;
}

abbrev pub decreases-pieces : goal.decreases-pieces
decreases-pieces l = length l.rest
