-- Machine words own no memory: what says of one that it is a number, a pointer or `()` is made of nothing.
use Rattle.rh_region.proofs.Common.{◌≡◌, refl, sym, ap, List, [], ◌∷◌, ℕ, suc, ◌<◌, ◌^◌, Ura, T, Fml, ftrue, fsep, ent, emp, w64, Val, vunit, has_ty, WT}
use Rattle.rh_region.proofs.Common.{Logic, sem, Item, ‵, ◌$◌, ◌∵◌, !, qed, use0, fjoin, feq_i, done, usize, unit, uint_vals, Ptr, RawPtr, rawptr_vals, nothing}
use mathlib.Core.Path.{subst}
use Prim.Native.Nat.{zero}
use mir.Syntax.{ty_unit}
use types.Kit.{Goal, Step}
use denote.Plain.{uint_Makes}
use denote.Steps.{owned, only}

-- nothing, n times: what a function that used up n parameters still owns of them
abbrev pub nothings : ℕ → Fml
nothings zero = ftrue
nothings (suc n) = fsep ftrue (nothings n)

-- the `()` that a call answered can be stored
pub unit_fits : (v : Val) → v ∷ [] ≡ vunit ∷ [] → T (has_ty ty_unit v) × WT v
unit_fits v is_unit = subst (λ (u : Val). T (has_ty ty_unit u) × WT u) (sym (ap only is_unit)) (tt, tt)

of_nothing : {M : Type 1} {𝓤 : Ura M} (𝓛 : Logic 𝓤) (n : ℕ) → ent 𝓤 (emp 𝓤) (sem 𝓛 (nothings n))
of_nothing 𝓛 zero = qed 𝓛 [] ∵ nothing ! $ done !
of_nothing 𝓛 (suc n) = qed 𝓛 [] ∵ use0 𝓛 (‵ (nothings n)) (of_nothing 𝓛 n) $ nothing ! $ fjoin ! $ done !

module _ {M : Type 1} {𝓤 : Ura M} {𝓛 : Logic 𝓤} where
  module _ {K : Type 0} {Γ : List (Item 𝓤)} {G : Goal 𝓤 𝓛.H} where
    pub spent : K → (n : ℕ) → Step K 𝓛 (‵ (nothings n) ∷ Γ) G Γ G
    spent t n = use0 𝓛 (‵ (nothings n)) (of_nothing 𝓛 n)

    pub number : K → (n : ℕ) → n < 2 ^ 64 → Step K 𝓛 (‵ (usize.own_val n (uint_vals w64 n)) ∷ Γ) G Γ G
    number t n fits = owned t usize _ (uint_Makes 𝓛 w64) n (uint_vals w64 n) (refl, fits)

    pub address : K → (p : Ptr) → Step K 𝓛 (‵ (RawPtr.own_val p (rawptr_vals p)) ∷ Γ) G Γ G
    address t p = feq_i t (List Val) (rawptr_vals p) (rawptr_vals p) refl

    pub nothing_said : K → Step K 𝓛 (‵ (unit.own_val tt (vunit ∷ [])) ∷ Γ) G Γ G
    nothing_said t = feq_i t (List Val) (vunit ∷ []) (vunit ∷ []) refl
