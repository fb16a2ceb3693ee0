use Rattle.std.proofs.Common.{◌≡◌, ℕ, ◌+◌, ◌-◌, List, ◌++◌, length, take, min, ap, sym, ◌∙◌, arith, length-take}
use Rattle.std.proofs.Math.Seq.{take-append-add}
use Rattle.std.proofs.lemmas.List.{take_min}
use Rattle.rh_session.specs.Lines.{kept}
use Rattle.rh_session.proofs.line.LineBuffer.add.Goals as goal

-- as much as there is room for
fits_kept : (line bytes new : List ℕ) (room n : ℕ) → length line + room ≡ 1025 → n ≡ min room (length bytes) → new ≡ line ++ take n bytes
    → new ≡ kept (line ++ bytes)
unfolding kept
fits_kept line bytes new room n all part grown =
    grown ∙ (ap (λ k. line ++ take k bytes) part ∙ (ap (λ z. line ++ z) (take_min room bytes)
    ∙ (sym (take-append-add line bytes room) ∙ ap (λ k. take k (line ++ bytes)) all)))

pub returns-clause-value : goal.returns-clause-value
returns-clause-value c =
    let all = ap length c.self.view_is in
    fits_kept c.args.self.now c.args.bytes.now c.push.new.self (1025 - c.self.inside.len) c.min.result (omega (arith, all, length-take {A = ℕ}))
    c.min.ensures c.push.ensures
