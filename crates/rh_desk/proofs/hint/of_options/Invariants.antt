use Rattle.std.proofs.Common.{◌≡◌, drop, map, string_bytes}
use Rattle.rh_desk.specs.Hints.{of_options}
use Rattle.rh_desk.proofs.hint.of_options.Given as goal

-- none so far helps
abbrev pub invariant-loop-word : goal.invariant-loop-word
invariant-loop-word l =
    of_options l.verb (map string_bytes (drop l.word-index l.words)) ≡ of_options l.verb (map string_bytes l.words)
