use Rattle.std.proofs.Common.{◌≡◌, ◌≢◌, ℕ, ◌+◌, ◌≤◌, List, length, ap, sym, ◌∙◌, arith}
use Rattle.rh_defs.specs.Bytes.{word, part}
use Rattle.rh_defs.proofs.BytesLaws.{word-part}
use Rattle.rh_heap.proofs.Common.{LinksTo}
use Rattle.rh_heap.proofs.span.words.read_hole.Goals as goal
use Rattle.rh_heap.proofs.span.words.read_hole.Goals.{then-link-eq0, else-link-eq0}

-- a word of a run is the area's
word_of_run : (b run : List ℕ) (at p n w : ℕ) → run ≡ part b at (length run) → p + 4 ≤ length run → w ≡ word run p → at + p ≡ n → w ≡ word b n
word_of_run b run at p n w same room e is = e ∙ ap (λ l. word l p) same ∙ word-part b at (length run) p room ∙ ap (word b) is

leads_nowhere : (b : List ℕ) (at f link x : ℕ) → link ≡ word b f → link ≡ 0 → x ≡ 0 → LinksTo b at f x
leads_nowhere b at f link x w none nowhere = record {
  none = λ z. sym w ∙ none;
  some = λ nz. absurd (nz nowhere);
  ahead = λ nz. absurd (nz nowhere);
}

leads_on : (b : List ℕ) (at place link x : ℕ) → link ≡ word b (at + place) → link ≢ 0 → x ≡ place + link → LinksTo b at (at + place) x
leads_on b at place link x w some on = record {
  none = λ z. absurd (some (omega arith));
  some = λ nz. omega arith;
  ahead = λ nz. omega (arith, some);
}

pub returns-clause-next : goal.returns-clause-next
returns-clause-next g c =
    let link = word_of_run _ _ _ 0 (c.args.span.at + c.args.place) _ c.run-run.ensures.bytes (omega (arith, c.if-run.false)) c.word_in-link.ensures
    (omega arith) in
    elim c.if-link-eq0.branch [
      | then-link-eq0 w ↦ leads_nowhere _ _ _ _ _ link w.if-link-eq0.true w.next-is
      | else-link-eq0 w ↦ leads_on _ _ _ _ _ link w.if-link-eq0.false w.next-is
    ]

pub returns-clause-size : goal.returns-clause-size
returns-clause-size g c =
    word_of_run _ _ _ 4 _ _ c.run-run.ensures.bytes (omega (arith, c.if-run.false)) c.word_in.ensures (omega arith)
