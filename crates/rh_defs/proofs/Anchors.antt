-- The anchors of a slot's blocks, and what its calls keep of them.
use Rattle.rh_defs.proofs.Common.{◌≡◌, ◌≢◌, ℕ, ◌+◌, ◌<◌, Bool, true, false, cond, refl, sym, List, [], ◌∷◌, ◌++◌, Option, Some, None, is_some, ◌==◌}
use Rattle.rh_defs.proofs.Common.{option_map, eqb-false, Split, first_at, behind, Flex, anchor_count, IsFree, HaveAnchors}

-- no block has the anchor
pub is_free : (size : Flex → ℕ) (k place : ℕ) (blocks : List Flex) → is_some (first_at size (λ _ b. b.anchor == k) place blocks) ≡ false → IsFree k blocks
is_free size k place [] h = tt
is_free size k place (b ∷ blocks) h = go (b.anchor == k) refl h (is_free size k (place + size b) blocks)
  where
    still_none : (o : Option (Split Flex)) → is_some (option_map (behind b) o) ≡ false → is_some o ≡ false
    still_none None e = refl
    still_none (Some s) e = absurd (cc)

    go : (t : Bool) → (b.anchor == k) ≡ t
        → is_some (cond t (Some (record { before = []; here = b; after = blocks }))
        (option_map (behind b) (first_at size (λ _ c. c.anchor == k) (place + size b) blocks))) ≡ false
        → (is_some (first_at size (λ _ c. c.anchor == k) (place + size b) blocks) ≡ false → IsFree k blocks) → (b.anchor ≢ k) × IsFree k blocks
    go true e n rest = absurd (cc)
    go false e n rest = (eqb-false _ _ e, rest (still_none _ n))

module _ (here other : Flex) (after : List Flex) (same : here.anchor ≡ other.anchor) where
  free-here : (k : ℕ) (before : List Flex) → IsFree k (before ++ here ∷ after) → IsFree k (before ++ other ∷ after)
  free-here k [] h = (λ e. h.0 (cc), h.1)
  free-here k (b ∷ before) h = (h.0, free-here k before h.1)

  -- a block with the same anchor in another's place
  pub anchors-here : (before : List Flex) → HaveAnchors (before ++ here ∷ after) → HaveAnchors (before ++ other ∷ after)
  anchors-here [] h = (rw (← same) h.0, rw (← same) h.1, h.2)
  anchors-here (b ∷ before) h = (h.0, free-here b.anchor before h.1, anchors-here before h.2)

free-append : (k : ℕ) (blocks : List Flex) (b : Flex) → IsFree k blocks → b.anchor ≢ k → IsFree k (blocks ++ b ∷ [])
free-append k [] b h n = (n, tt)
free-append k (c ∷ blocks) b h n = (h.0, free-append k blocks b h.1 n)

-- one more block, with an anchor that none has
pub anchors-append : (blocks : List Flex) (b : Flex) → HaveAnchors blocks → IsFree b.anchor blocks → b.anchor < anchor_count → HaveAnchors (blocks ++ b ∷ [])
anchors-append [] b h free small = (small, tt, tt)
anchors-append (c ∷ blocks) b h free small =
    (h.0, free-append c.anchor blocks b h.1 (λ e. free.0 (sym e)), anchors-append blocks b h.2 free.1 small)
