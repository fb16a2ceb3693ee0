-- Memory that is being zeroed from its first byte on: what stands before a place i is zeros, and what stands behind it is
-- room, which may hold anything. A turn of the loop takes the room of one byte off the one and adds a zero to the other.
use Rattle.rh_region.proofs.Common.{◌≡◌, refl, sym, List, [], ◌∷◌, ◌++◌, ℕ, suc, ◌+◌, ◌<◌, arith, Ura, length, full_share, Fml, fsep, ent, sep, w8, vint}
use Rattle.rh_region.proofs.Common.{Logic, sem, ‵, ◌⊛◌, ◌$◌, ◌∵◌, !, qed, move, drop, use1, use2, split, rewrite, fsplit, fjoin, feq_i, done, Array, u8}
use Rattle.rh_region.proofs.Common.{part_at, block_ptr, bytes, nothing, zeros_at, zeros}
use Prim.Native.Nat.{◌-◌}
use base.Fml.{froom, fat}
use mir.Syntax.{ty_int, ty_array}
use denote.Plain.{uint_in}
use denote.RawPtr.Bytes.{bytes_glue, bytes_whole}
use Rattle.rh_region.proofs.Zeros.{length-zeros, zeros_none, zeros_more}

-- room for m bytes
abbrev pub room : ℕ → ℕ → ℕ → Fml
room m b o = froom (ty_array (ty_int w8) m) b o

-- room for the byte in which zeros are to go on
abbrev pub next_room : ℕ → ℕ → ℕ → Fml
next_room b o i = froom (ty_int w8) b (i + o)

-- that byte, once it is zero
abbrev pub next_zero : ℕ → ℕ → ℕ → Fml
next_zero b o i = fat full_share (ty_int w8) b (i + o) (vint w8 0)

module _ (n b o i : ℕ) where
  abbrev front : Fml
  front = bytes full_share (zeros i) b o

  -- of n bytes the first i are zeros
  abbrev pub Filling : Fml
  Filling = fsep front (room (n - i) b (o + i))

  -- the same but for the byte at the place i
  abbrev pub Around : Fml
  Around = fsep front (room (n - (i + 1)) b (o + i + 1))

module _ {M : Type 1} {𝓤 : Ura M} (𝓛 : Logic 𝓤) (n b o : ℕ) where
  pub none_filled : ent 𝓤 (sem 𝓛 (room n b o)) (sem 𝓛 (Filling n b o 0))
  none_filled =
      qed 𝓛 (‵ (room n b o) ∷ []) ∵
      rewrite ! 0 (λ (at : ℕ). ‵ (room n b at)) {x = o + 0} (omega arith) refl $ rewrite ! 0 (λ (m : ℕ). ‵ (room m b (o + 0))) {x = n - 0} (omega arith) refl $
      nothing ! $ rewrite ! 0 (λ (xs : List ℕ). ‵ (bytes full_share xs b o)) (sym zeros_none) refl $ fjoin ! $ done !

  module _ (i : ℕ) (more : i < n) where
    pub next_out : ent 𝓤 (sem 𝓛 (Filling n b o i)) (sep 𝓤 (sem 𝓛 (next_room b o i)) (sem 𝓛 (Around n b o i)))
    next_out =
        let left : n - i ≡ suc (n - (i + 1)) = omega arith in
        qed 𝓛 (‵ (Filling n b o i) ∷ []) ∵ fsplit ! $ move ! (1 ∷ []) $ rewrite ! 0 (λ (m : ℕ). ‵ (room m b (o + i))) left refl $
        use1 𝓛 (‵ (froom (ty_int w8) b (o + i)) ⊛ ‵ (room (n - (i + 1)) b (o + i + 1))) (𝓛.laws.room_uncons (ty_int w8) (n - (i + 1)) b (o + i)) $ split ! $
        rewrite ! 0 (λ (at : ℕ). ‵ (froom (ty_int w8) b at)) {x = i + o} (omega arith) refl $ move ! (2 ∷ 1 ∷ []) $ fjoin ! $ move ! (1 ∷ 0 ∷ []) $ done !

    pub next_in : ent 𝓤 (sep 𝓤 (sem 𝓛 (next_zero b o i)) (sem 𝓛 (Around n b o i))) (sem 𝓛 (Filling n b o (i + 1)))
    next_in =
        qed 𝓛 (‵ (next_zero b o i) ∷ ‵ (Around n b o i) ∷ []) ∵ use1 𝓛 (‵ (part_at u8 full_share 0 b (i + o))) (uint_in 𝓛 full_share w8 0 b (i + o)) $
        rewrite ! 0 (λ (at : ℕ). ‵ (part_at u8 full_share 0 b at)) {x = o + length (zeros i)} (omega (arith, length-zeros i)) refl $ nothing ! $
        move ! (1 ∷ 0 ∷ []) $ fjoin ! $
        move ! (1 ∷ []) $ fsplit ! $ move ! (0 ∷ 2 ∷ []) $
        use2 𝓛 (‵ (bytes full_share (zeros i ++ 0 ∷ []) b o)) (bytes_glue 𝓛 full_share (zeros i) (0 ∷ []) b o) $
        rewrite ! 0 (λ (xs : List ℕ). ‵ (bytes full_share xs b o)) (zeros_more i) refl $
        rewrite ! 1 (λ (at : ℕ). ‵ (room (n - (i + 1)) b at)) {x = o + (i + 1)} (omega arith) refl $ fjoin ! $ done !

  -- the room that is left behind n zeros is of no byte, and is let go
  pub all_filled : (i : ℕ) → i ≡ n → ent 𝓤 (sem 𝓛 (Filling n b o i)) (sem 𝓛 (zeros_at (block_ptr b o) n))
  all_filled i all =
      qed 𝓛 (‵ (Filling n b o i) ∷ []) ∵ fsplit ! $ rewrite ! 0 (λ (m : ℕ). ‵ (bytes full_share (zeros m) b o)) all refl $ move ! (1 ∷ []) $ drop ! $
      feq_i ! ℕ (length (zeros n)) n (length-zeros n) $ fjoin ! $
      use1 𝓛 (‵ (part_at (Array u8 n) full_share (zeros n) b o)) (bytes_whole 𝓛 full_share n (zeros n) b o) $ done !
