use Rattle.std.proofs.Common.{◌≡◌, ◌≤◌, ◌+◌, rules, arith, ap, sym, subst, ◌∙◌, true, ◌∷◌, length, cond}
use Rattle.std.proofs.lemmas.List.{at_drop_all, at_drop_more}
use Rattle.std.specs.Prelude.{Bool, ◌==◌, Some, None, drop, find}
use Rattle.rh_lens.specs.ToldInside.{IsTold}
use Rattle.lens_rows.specs.RowItems.{Row, item_of_row}
use Rattle.lens_rows.proofs.told.ToldContents.tell.Goals as goal

pub returns-then-row-piece : goal.returns-then-row-piece
returns-then-row-piece c =
    let p = c.args.piece.now in
    let rows = c.args.self.now.rows.now in
    let i = c.loop-row.row-index in
    let r = c.row-item.result in
    let there : Row → Bool = λ q. q.at == p.at in
    let is : there r ≡ true = search rules in
    let found : Some r ≡ find there rows =
    sym (ap (λ b. cond b (Some r) (find there (drop (i + 1) rows))) is)
    ∙ (ap (λ q. find there (q ∷ drop (i + 1) rows)) c.row-item.is
    ∙ (sym (at_drop_more (find there) rows i r c.loop-row-test.true)
    ∙ c.loop-row.invariant.0)) in
    subst (λ f. IsTold c.tell_row.new.inside p (item_of_row p f)) found (c.tell_row.ensures p)

pub returns : goal.returns
returns c =
    let p = c.args.piece.now in
    let rows = c.args.self.now.rows.now in
    let there : Row → Bool = λ q. q.at == p.at in
    let end : length rows ≤ c.loop-row.row-index = omega (arith, c.loop-row-test.false) in
    let none : None ≡ find there rows = sym (at_drop_all (find there) rows c.loop-row.row-index end) ∙ c.loop-row.invariant.0 in
    subst (λ f. IsTold c.loop-row.inside p (item_of_row p f)) none (c.loop-row.invariant.1 p)
