-- A page number goes from one list of a table to another: from the last one, that of the free pages, to an area's, or back.
use Rattle.rh_pages.proofs.Common.{◌≡◌, ◌≢◌, ℕ, ◌<◌, List, [], ◌∷◌, ◌++◌, length, set, take, sym, ap, ap₂, ◌∙◌, arith, get_or-set_same, get_or-set_other}
use Rattle.rh_pages.proofs.Common.{get_or-take, take-set-le, list_at}
use Rattle.std.proofs.Math.Seq.{take-set-lt}

apart : (i n : ℕ) → i < n → i ≢ n
apart i n lt e = absurd (omega arith)

after : (i n : ℕ) → i < n → n ≢ i
after i n lt e = absurd (omega arith)

-- the lists before, after a number was taken off one of them, and after it was appended to another
module _ (old mid new : List (List ℕ)) (n id k : ℕ) (lt : id < n) where
  -- off the last list, to another
  module _ (off : mid ≡ set old n (list_at mid n)) (on : new ≡ set mid id (list_at mid id ++ k ∷ [])) where
    pub same_area : list_at mid id ≡ list_at (take n old) id
    same_area = ap (λ l. list_at l id) off ∙ get_or-set_other old n id (list_at mid n) [] (apart id n lt) ∙ sym (get_or-take n old id [] lt)

    pub given_areas : take n new ≡ set (take n old) id (list_at (take n old) id ++ k ∷ [])
    given_areas =
        ap (take n) on ∙ take-set-lt n mid id (list_at mid id ++ k ∷ []) lt
        ∙ ap₂ (λ l x. set l id (x ++ k ∷ [])) (ap (take n) off ∙ take-set-le n old n (list_at mid n) (omega arith)) same_area

    pub given_free : list_at new n ≡ list_at mid n
    given_free = ap (λ l. list_at l n) on ∙ get_or-set_other mid id n (list_at mid id ++ k ∷ []) [] (after id n lt)

  -- off another list, to the last one
  module _ (off : mid ≡ set old id (list_at mid id)) (on : new ≡ set mid n (list_at mid n ++ k ∷ [])) where
    pub same_free : list_at mid n ≡ list_at old n
    same_free = ap (λ l. list_at l n) off ∙ get_or-set_other old id n (list_at mid id) [] (after id n lt)

    pub taken_areas : take n new ≡ set (take n old) id (list_at mid id)
    taken_areas = ap (take n) on ∙ take-set-le n mid n (list_at mid n ++ k ∷ []) (omega arith) ∙ ap (take n) off ∙ take-set-lt n old id (list_at mid id) lt

    pub taken_free : n < length mid → list_at new n ≡ list_at old n ++ k ∷ []
    taken_free inside =
        ap (λ l. list_at l n) on ∙ get_or-set_same mid n (list_at mid n ++ k ∷ []) [] inside ∙ ap (λ l. l ++ k ∷ []) same_free
