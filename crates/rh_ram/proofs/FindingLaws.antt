-- The first record that passes a test, by a walk.
use Rattle.std.proofs.Common.{◌≡◌, ℕ, suc, ◌+◌, ◌<◌, Bool, true, false, refl, ap, sym, ◌∙◌, List, ◌∷◌, length, get_or, drop, ◌⊎◌, inl, inr, add-one, drop-cons}
use Rattle.std.specs.Prelude.{Option, Some}
use Rattle.rh_defs.specs.declared.transfer.Sending.{Sending}
use Rattle.rh_defs.specs.declared.transfer.Taking.{Taking}
use Rattle.rh_defs.specs.declared.transfer.Asked.{Asked}
use Rattle.rh_defs.specs.declared.transfer.Outgoing.{Outgoing}
use Rattle.rh_defs.specs.declared.transfer.Outgoing.TheVariants as outgoing
use Rattle.rh_defs.specs.declared.transfer.Incoming.{Incoming}
use Rattle.rh_defs.specs.declared.transfer.Incoming.TheVariants as incoming
use Rattle.rh_defs.specs.Records.{open_of, active_of, asking_of}

-- a walk that is at a record, which it leaves or takes
module _ {A B : Type 0} (first : List A → Option B) where
  pub walked-past : (xs : List A) (i : ℕ) (r : A) → i < length xs → r ≡ get_or xs i r → ((rest : List A) → first (r ∷ rest) ≡ first rest)
      → first (drop i xs) ≡ first xs → first (drop (i + 1) xs) ≡ first xs
  walked-past xs i r inside is past so_far =
      ap (λ n. first (drop n xs)) (add-one i) ∙ sym (past (drop (suc i) xs)) ∙ ap (λ y. first (y ∷ drop (suc i) xs)) is
      ∙ ap first (sym (drop-cons xs i r inside)) ∙ so_far

  pub walked-to : (xs : List A) (i : ℕ) (r : A) (x : B) → i < length xs → r ≡ get_or xs i r → ((rest : List A) → first (r ∷ rest) ≡ Some x)
      → first (drop i xs) ≡ first xs → Some x ≡ first xs
  walked-to xs i r x inside is here so_far =
      sym (here (drop (suc i) xs)) ∙ ap (λ y. first (y ∷ drop (suc i) xs)) is ∙ ap first (sym (drop-cons xs i r inside)) ∙ so_far

-- ---- open transfers

module _ (test : Sending → Bool) where
  pub open-here : (r : Outgoing) (x : Sending) → r ≡ outgoing.Open x → true ≡ test x → (rest : List Outgoing) → open_of test (r ∷ rest) ≡ Some x
  open-here r x is passes rest = rw is (rw (sym passes) refl)

  pub open-past : (r : Outgoing) (x : Sending) → r ≡ outgoing.Open x → false ≡ test x → (rest : List Outgoing) → open_of test (r ∷ rest) ≡ open_of test rest
  open-past r x is fails rest = rw is (rw (sym fails) refl)

  pub ended-past : (r : Outgoing) → ((x : Sending) → r ≡ outgoing.Open x → ⊥) → (rest : List Outgoing) → open_of test (r ∷ rest) ≡ open_of test rest
  ended-past (outgoing.Open x) other rest = absurd (other x refl)
  ended-past (outgoing.Done id count) other rest = refl
  ended-past (outgoing.Failed id count) other rest = refl

-- ---- transfers with a buffer

module _ (test : Taking → Bool) where
  pub active-here : (r : Incoming) (f : Taking) → (r ≡ incoming.Fetching f) ⊎ (r ≡ incoming.Draining f) → true ≡ test f → (rest : List Incoming)
      → active_of test (r ∷ rest) ≡ Some r
  active-here r f (inl is) passes rest = rw is (rw (sym passes) refl)
  active-here r f (inr is) passes rest = rw is (rw (sym passes) refl)

  pub active-past : (r : Incoming) (f : Taking) → (r ≡ incoming.Fetching f) ⊎ (r ≡ incoming.Draining f) → false ≡ test f → (rest : List Incoming)
      → active_of test (r ∷ rest) ≡ active_of test rest
  active-past r f (inl is) fails rest = rw is (rw (sym fails) refl)
  active-past r f (inr is) fails rest = rw is (rw (sym fails) refl)

  pub bufferless-past : (r : Incoming) → ((f : Taking) → r ≡ incoming.Fetching f → ⊥) → ((f : Taking) → r ≡ incoming.Draining f → ⊥) → (rest : List Incoming)
      → active_of test (r ∷ rest) ≡ active_of test rest
  bufferless-past (incoming.Fetching f) not_fetching not_draining rest = absurd (not_fetching f refl)
  bufferless-past (incoming.Draining f) not_fetching not_draining rest = absurd (not_draining f refl)
  bufferless-past (incoming.Asking q) not_fetching not_draining rest = refl
  bufferless-past (incoming.Done id anchor count) not_fetching not_draining rest = refl
  bufferless-past (incoming.Failed id anchor count) not_fetching not_draining rest = refl

-- ---- transfers that wait for a file

module _ (test : Asked → Bool) where
  pub asking-here : (r : Incoming) (q : Asked) → r ≡ incoming.Asking q → true ≡ test q → (rest : List Incoming) → asking_of test (r ∷ rest) ≡ Some q
  asking-here r q is passes rest = rw is (rw (sym passes) refl)

  pub asking-past : (r : Incoming) (q : Asked) → r ≡ incoming.Asking q → false ≡ test q → (rest : List Incoming)
      → asking_of test (r ∷ rest) ≡ asking_of test rest
  asking-past r q is fails rest = rw is (rw (sym fails) refl)

  pub unasked-past : (r : Incoming) → ((q : Asked) → r ≡ incoming.Asking q → ⊥) → (rest : List Incoming) → asking_of test (r ∷ rest) ≡ asking_of test rest
  unasked-past (incoming.Asking q) other rest = absurd (other q refl)
  unasked-past (incoming.Fetching f) other rest = refl
  unasked-past (incoming.Draining f) other rest = refl
  unasked-past (incoming.Done id anchor count) other rest = refl
  unasked-past (incoming.Failed id anchor count) other rest = refl
