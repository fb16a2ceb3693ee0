use Rattle.std.proofs.Common.{◌≡◌, All, map, take}
use Rattle.rh_desk.specs.Done.{IsWhole}
use Rattle.rh_desk.specs.FileWords.{AreGood, word_name}
use Rattle.rh_desk.proofs.files.read_files.Given as goal

-- the words so far are good, the files have their names and are whole, and nothing was told
abbrev pub invariant-loop-word : goal.invariant-loop-word
invariant-loop-word g l = record {
  good : AreGood (take l.word-index (map (λ word. word.now) l.fn.words));
  named : map (λ file. file.0) l.files ≡ map word_name (take l.word-index (map (λ word. word.now) l.fn.words));
  whole : All (λ file. IsWhole g.R.File.Read.remaining file.1) l.files;
  quiet : g.E.Sink.output l.errors ≡ g.E.Sink.output l.fn.errors;
}
