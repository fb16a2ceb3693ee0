use Rattle.rh_pictures.proofs.Common.{◌≡◌, ℕ, zero, suc, add-one, ◌+◌, ◌<◌, List, [], ◌∷◌, ◌++◌, length, take, ap, sym, refl, ◌∙◌, set, arith, min}
use Rattle.rh_pictures.proofs.Common.{length-append, take_all}
use Rattle.std.proofs.Math.Nat.{min-eq_left}
use Rattle.rh_pictures.proofs.walks.letters.Waits.note.Goals as goal

set-last : {A : Type 0} (n : ℕ) (xs : List A) (e : A) → n < length xs → take (suc n) (set xs n e) ≡ take n xs ++ e ∷ []
set-last n [] e low = absurd (omega arith)
set-last zero (x ∷ xs) e low = refl
set-last (suc n) (x ∷ xs) e low = ap (λ z. x ∷ z) (set-last n xs e (omega arith))

-- one of the first
kept : {A : Type 0} (n : ℕ) (first ws : List A) (e : A) → length first ≡ 12 → length ws ≡ n → n < 12 → take (min n 12) first ≡ take 12 ws
    → take (min (n + 1) 12) (set first n e) ≡ take 12 (ws ++ e ∷ [])
kept n first ws e long count low so_far =
    let here : take n first ≡ ws = ap (λ k. take k first) (sym (min-eq_left (omega arith))) ∙ (so_far ∙ take_all 12 ws (omega arith)) in
    ap (λ k. take k (set first n e)) (min-eq_left (omega arith))
    ∙ (rw add-one (set-last n first e (omega arith))
    ∙ (ap (λ z. z ++ e ∷ []) here ∙ sym (take_all 12 (ws ++ e ∷ []) (omega (arith, length-append ws (e ∷ []))))))

pub returns-then-place-lt-MOST_LISTED-clause-first : goal.returns-then-place-lt-MOST_LISTED-clause-first
returns-then-place-lt-MOST_LISTED-clause-first c = λ ws long so_far.
    kept c.args.self.now.count c.args.self.now.first ws c.args.entry c.requires.room long c.if-place-lt-MOST_LISTED.true so_far
