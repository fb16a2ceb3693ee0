use Rattle.std.proofs.Common.{◌≡◌, ◌<◌, ◌≤◌, All, ◌++◌, length, map}
use Rattle.rh_defs.specs.Line.{longest_line, words_of}
use Rattle.rh_lines.proofs.words.split.Given as goal

-- the words found so far, and those of the rest
abbrev pub invariant-pieces : goal.invariant-pieces
invariant-pieces l = record {
  room : length l.found.items < 8;
  few : length l.rest ≤ longest_line;
  short : All (λ w. length w.now ≤ longest_line) l.found.items;
  so_far : words_of l.fn.line ≡ map (λ w. w.now) l.found.items ++ words_of l.rest;
}

abbrev pub decreases-pieces : goal.decreases-pieces
decreases-pieces l = length l.rest
