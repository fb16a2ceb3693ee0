-- A block in memory: its two fields, the pointer and the length, and behind the pointer its bytes.
use Rattle.rh_region.proofs.Common.{refl, sym, List, [], ◌∷◌, ℕ, ◌+◌, ◌<◌, ◌^◌, Ura, length, full_share, Lft, Fml, fsep, ent, sep, guard, id⊢, w8, w64, Val}
use Rattle.rh_region.proofs.Common.{vint, vcons, vnil, Logic, sem, Item, ‵, ◌$◌, ◌∵◌, !, qed, keep, drop, use1, check, rewrite, fsplit, fsplit3, fjoin, feq_i}
use Rattle.rh_region.proofs.Common.{feq_l, flt_l, done, Array, u8, usize, Ptr, RawPtr, lies_at, in_a_block, bytes, nothing, Block, room_of, block_owns}
use base.Fml.{feq, froom}
use mir.Syntax.{ty_int, ty_array}
use mir.Val.{vstruct}
use types.Kit.{Goal, Step, step, fpack}
use denote.Memory.{hidden_shr}
use denote.Opens.{shr_dup, unhide, hide}
use denote.Plain.{uint_row_laws}
use denote.RattleType.{RattleType, RowLaws, Valss}
use denote.RawPtr.{ptr_val, room_for, ptr_row_laws}
use denote.RawPtr.Bytes.{bytes_apart, bytes-room}
use denote.Struct.Owning.{shape}
use denote.Struct.Struct.{Struct, Struct-row_laws, within}
use Rattle.core.specs.Allocator.{array_of}
use Rattle.rh_region.specs.contracts.raw.Block as C
use Rattle.rh_region.proofs.HeapCalls.{right}
use Rattle.rh_region.proofs.Words.{number, address}

abbrev pub R : RattleType
R = C.the_row

abbrev pub Fields : RattleType
Fields = Struct (shape C.the_type)

abbrev pub fields : Block → Fields.Denot
fields d = (d.start, (d.len, tt))

-- a block's machine value
abbrev pub spelled_by : Ptr → ℕ → Val
spelled_by p n = vstruct (vcons (ptr_val p) (vcons (vint w64 n) vnil))

-- the fields alone own no memory, so a pointer and a length make them
pub fields_made : {M : Type 1} {𝓤 : Ura M} {𝓛 : Logic 𝓤} {K : Type 0} {Γ : List (Item 𝓤)} {G : Goal 𝓤 𝓛.H} → K → (p : Ptr) (n : ℕ) → n < 2 ^ 64
    → Step K 𝓛 (‵ (Fields.own_val (p, (n, tt)) (spelled_by p n ∷ [])) ∷ Γ) G Γ G
fields_made t p n fits = step (λ s.
    nothing t $ number t n fits $ fjoin t $ address t p $ fjoin t $ feq_i t (List Val) (spelled_by p n ∷ []) (spelled_by p n ∷ []) refl $ fjoin t $
    fpack t (Valss (RawPtr ∷ usize ∷ [])) (within (shape C.the_type) (p, (n, tt)) (spelled_by p n ∷ [])) (ptr_val p ∷ [], (vint w64 n ∷ [], tt)) $ s)

module _ {M : Type 1} {𝓤 : Ura M} (𝓛 : Logic 𝓤) where
  -- of a `&` to the fields, what shows one of them: it can be read as often as is wanted
  module _ (κ : Lft) (d : Block) (b o : ℕ) where
    abbrev pub Shown : Fml
    Shown = hidden_shr Fields κ (fields d) b o

    laws : RowLaws Fields
    laws = Struct-row_laws (shape C.the_type) (ptr_row_laws, (uint_row_laws w64, tt))

    pub start_shown : ent 𝓤 (sem 𝓛 Shown) (sep 𝓤 (sem 𝓛 (hidden_shr RawPtr κ d.start b (o + 0))) (sem 𝓛 Shown))
    start_shown = qed 𝓛 (‵ Shown ∷ []) ∵ shr_dup ! Fields laws (fields d) b o κ $ unhide ! $ fsplit ! $ fsplit ! $ hide ! $ keep ! (0 ∷ 3 ∷ []) $ done !

    pub len_shown : ent 𝓤 (sem 𝓛 Shown) (sep 𝓤 (sem 𝓛 (hidden_shr usize κ d.len b (o + 8))) (sem 𝓛 Shown))
    len_shown = qed 𝓛 (‵ Shown ∷ []) ∵ shr_dup ! Fields laws (fields d) b o κ $ unhide ! $ fsplit ! $ fsplit ! $ drop ! $ fsplit ! $ hide ! $
        keep ! (0 ∷ 3 ∷ []) $ done !

  -- a block whose bytes are let go is room for as many, and the right to free it
  pub emptied : (d : Block)
      → ent 𝓤 (sem 𝓛 (block_owns d.start d.len d.alloc d.bytes)) (guard 𝓤 (d.len < 2 ^ 63)
      (sep 𝓤 (sem 𝓛 (room_of d.start d.len)) (sem 𝓛 (right d.alloc d.len d.start))))
  emptied d =
      let n = d.len in
      qed 𝓛 (‵ (block_owns d.start n d.alloc d.bytes) ∷ []) ∵ fsplit3 ! $
      flt_l ! (λ small. in_a_block ! d.start (λ p. lies_at (Array u8 n) full_share p d.bytes) (id⊢ 𝓤 _) (λ b o e.
      use1 𝓛 (‵ (fsep (feq ℕ (length d.bytes) n) (bytes full_share d.bytes b o))) (bytes_apart 𝓛 full_share n d.bytes b o) $ fsplit ! $ feq_l ! (λ long.
      use1 𝓛 (‵ (froom (ty_array (ty_int w8) (length d.bytes)) b o)) (bytes-room 𝓛 d.bytes b o) $
      rewrite ! 0 (λ (k : ℕ). ‵ (froom (ty_array (ty_int w8) k) b o)) long refl $ rewrite ! 0 (λ (p : Ptr). ‵ (room_for (array_of u8 n) p)) (sym e) refl $
      check ! small $ done !)))
