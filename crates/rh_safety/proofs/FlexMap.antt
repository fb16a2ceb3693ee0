-- The flex blocks of a slot as the map from anchors to bytes that a transfer rests on.
use Rattle.rh_safety.proofs.Common.{◌≡◌, ℕ, ◌==◌, List, [], ◌∷◌, ◌++◌, Option, Some, None, Split, first_at, with_here, Flex, flex_map, put}
use Rattle.rh_defs.specs.Slot.{HaveAnchors}

-- the cut that a find by anchor gives, for any sizes
abbrev pub block_of : (Flex → ℕ) → ℕ → ℕ → List Flex → Option (Split Flex)
block_of size k place blocks = first_at size (λ _ b. b.anchor == k) place blocks

-- each edit of the list writes one place of the map
pub record FlexEdits (size : Flex → ℕ) (place k : ℕ) (blocks : List Flex) : Type 0 where
  pub unused : block_of size k place blocks ≡ None → flex_map blocks k ≡ None
  pub found : (s : Split Flex) → block_of size k place blocks ≡ Some s → flex_map blocks k ≡ Some s.here.bytes
  pub put_on_top : (bytes : List ℕ) → block_of size k place blocks ≡ None → (j : ℕ) → flex_map (blocks ++ record
      { anchor = k; bytes = bytes } ∷ []) j ≡ put (flex_map blocks) k (Some bytes) j
  pub with_bytes : (s : Split Flex) (bytes : List ℕ) → block_of size k place blocks ≡ Some s → (j : ℕ) →
      flex_map (with_here s (record { anchor = s.here.anchor; bytes = bytes })) j ≡ put (flex_map blocks) k
      (Some bytes) j
  pub without : (s : Split Flex) → HaveAnchors blocks → block_of size k place blocks ≡ Some s → (j : ℕ) →
      flex_map (s.before ++ s.after) j ≡ put (flex_map blocks) k None j
