use Rattle.rh_store.proofs.Common.{ℕ, replicate, ap, ◌∙◌, arith, written}
use Rattle.std.proofs.lemmas.List.{length-replicate, length-take, length-drop}
use Rattle.rh_store.proofs.bytes.zero_in.Goals as goal

pub returns : goal.returns
returns c = let n = length-replicate {A = ℕ} c.args.n 0 in written c.args.at _ c.args.b.now _ (replicate c.args.n 0)
    (c.fill.ensures.after (λ y e. e) ∙ ap (λ k. replicate k 0) (simp (length-take, length-drop) (omega arith))) (omega arith) (omega arith)
