-- A text of which a part was offered to a pen, and the rest is left.
use Rattle.rh_map.proofs.Common.{◌≡◌, ℕ, List, [], ◌++◌, refl, sym, ap, ◌∙◌, append_assoc, append-nil}

-- what the pen was offered at first, what it was offered so far, the whole text, and what is left of it
pub record Left (old new whole rest : List ℕ) : Type 0 where
  pub is : new ++ rest ≡ old ++ whole

-- nothing was offered yet
pub left_whole : (old whole : List ℕ) → Left old old whole whole
left_whole old whole = record { is = refl }

-- one more part was offered
pub left_less : {old so_far new whole rest behind : List ℕ} (part : List ℕ) → Left old so_far whole rest → rest ≡ part ++ behind
    → new ≡ so_far ++ part → Left old new whole behind
left_less {so_far = so_far} {behind = behind} part p e q = record {
  is = ap (λ z. z ++ behind) q ∙ (append_assoc so_far part behind ∙ (ap (λ z. so_far ++ z) (sym e) ∙ p.is));
}

-- all was offered
pub left_none : {old new whole rest : List ℕ} → Left old new whole rest → rest ≡ [] → new ≡ old ++ whole
left_none {new = new} p e = sym (append-nil new) ∙ (ap (λ z. new ++ z) (sym e) ∙ p.is)
