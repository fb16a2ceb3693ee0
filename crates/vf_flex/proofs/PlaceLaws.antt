-- The places of blocks, one anchor after the other.
use Rattle.std.proofs.Common.{◌≡◌, ℕ, zero, suc, ◌+◌, ◌<◌, List, [], ◌∷◌, ◌++◌, length, drop, refl, sym, ap, ◌∙◌, append_assoc, arith}
use Rattle.std.specs.Prelude.{slice_set}
use Rattle.std.proofs.Math.Seq.{drop-cons}
use Rattle.std.proofs.lemmas.List.{set_at}
use Rattle.rh_defs.specs.Slot.{Slot}
use Rattle.vf_flex.specs.SlotPlaces.{place_of, places_from}

length-places : (s : Slot) (k n : ℕ) → length (places_from s k n) ≡ n
unfolding places_from
length-places s k zero = refl
length-places s k (suc n) = ap suc (length-places s (k + 1) n)

-- one more anchor is told behind the others
one-more : (s : Slot) (k n : ℕ) → places_from s k (suc n) ≡ places_from s k n ++ (place_of s (k + n) ∷ [])
unfolding places_from
one-more s k zero = ap (λ i. place_of s i ∷ []) (omega arith)
one-more s k (suc n) =
    let same : k + 1 + n ≡ k + suc n = omega arith in
    ap (λ l. place_of s k ∷ l) (one-more s (k + 1) n ∙ ap (λ i. places_from s (k + 1) n ++ (place_of s i ∷ [])) same)

next : (s : Slot) (i : ℕ) → places_from s 0 i ++ (place_of s i ∷ []) ≡ places_from s 0 (i + 1)
next s i =
    let first : i ≡ 0 + i = omega arith in
    let more : suc i ≡ i + 1 = omega arith in
    ap (λ n. places_from s 0 i ++ (place_of s n ∷ [])) first ∙ sym (one-more s 0 i) ∙ ap (places_from s 0) more

-- the place of the next anchor is written behind those that are told
pub told-more : (s : Slot) (old now : List ℕ) (i place : ℕ) → i < length old → now ≡ places_from s 0 i ++ drop i old → place ≡ place_of s i
    → slice_set now i place ≡ places_from s 0 (i + 1) ++ drop (i + 1) old
told-more s old now i place inside so_far is =
    let more : suc i ≡ i + 1 = omega arith in
    ap (λ l. slice_set l i place) (so_far ∙ ap (λ l. places_from s 0 i ++ l) (drop-cons old i 0 inside))
    ∙ set_at (places_from s 0 i) _ (drop (suc i) old) place i (length-places s 0 i)
    ∙ ap (λ p. places_from s 0 i ++ (p ∷ drop (suc i) old)) is
    ∙ sym (append_assoc (places_from s 0 i) (place_of s i ∷ []) (drop (suc i) old))
    ∙ ap (λ l. l ++ drop (suc i) old) (next s i)
    ∙ ap (λ n. places_from s 0 (i + 1) ++ drop n old) more

pub none-told : (s : Slot) (old : List ℕ) → old ≡ places_from s 0 0 ++ old
unfolding places_from
none-told s old = refl
