-- A pointer beside a heap's handle in memory. So lie an `Unboxed` and a `OpenDeskHandle`, and what either owns is what
-- a box has at the same types, or nothing.
use Rattle.vf_desk.proofs.Common.{true, ◌≡◌, refl, subst, List, [], ◌∷◌, ◌++◌, ℕ, bare, dnil, Val, vptr, never, fst∗, sem, ‵, ◌$◌, move, fsplit, fjoin}
use Rattle.vf_desk.proofs.Common.{layout, RattleType, Ptr, block_ptr, null_ptr, ptr_val, in_a_block, nothing, handle_tells, box_owns, Option, ghosts}
use mathlib.Core.Bool.{◌&&◌}
use lib.Dec.{T}
use seplogic.Ra.Ura.{Ura}
use mir.Syntax.{impl, tnil}
use mir.Val.{vstruct, vcons, vnil, of_list, has_ty, WT}
use types.Logic.{Logic}
use types.Kit.{Item, Goal, Seq, Step, step, drop, fpick, fpack, feq_i, feq_l}
use denote.Builtin.{RawPtr}
use denote.Memory.{lone}
use denote.Param.Laws.{Laws}
use denote.RattleType.{Valss}
use denote.Struct.Owning.{shape, to}
use denote.Struct.Struct.{within}
use Rattle.core.specs.declared.alloc.Allocator.{Ghosts}
use Rattle.core.proofs.alloc.Calls.{Al}
use Rattle.core.proofs.cell.Inside.{Good}
use Rattle.std.specs.contracts.alloc.Global as heap
use Rattle.std.proofs.alloc.Global.TheLaws as heap_laws
use Rattle.std_alloc.proofs.ResultValues.{and_tt}
use Rattle.vf_desk.specs.contracts.handle.OpenDeskHandle as OpenDeskHandle
use Rattle.vf_desk.specs.contracts.handle.unboxed.Unboxed as Unboxed
use Rattle.vf_desk.specs.contracts.open_desk.OpenDesk as OpenDesk

-- the machine value of a pointer beside a handle
abbrev pub pair : Val → Val → Val
pair p h = vstruct (vcons p (vcons h vnil))

module _ (R Z : RattleType) (L : Laws Z) (g : Ghosts Z.Denot) where
  abbrev pub Apart : RattleType
  Apart = Unboxed.the_row R Z g

  abbrev pub al : Al
  al = record { row = Z; laws = L; g = g; d = impl [] tnil dnil; drops = impl [] tnil dnil }

  pub apart_good : (b o : ℕ) (h : Val) → Good (layout Z) h → T (has_ty (layout Z) h && true) × WT (pair (vptr b o) h)
  apart_good b o h fits = (and_tt (has_ty (layout Z) h) fits.0, (tt, (fits.1, tt)))

  module _ {M : Type 1} {𝓤 : Ura M} {𝓛 : Logic 𝓤} {K : Type 0} {Γ : List (Item 𝓤)} {G : Goal 𝓤 𝓛.H} where
    -- what an `Unboxed` owns: the memory at its address, and the heap's handle
    pub apart_out : K → (u : Apart.Denot) (vs : List Val)
        → ((b o : ℕ) (h : Val) → u.at ≡ block_ptr b o → vs ≡ pair (vptr b o) h ∷ [] → Good (layout Z) h
        → Seq K 𝓛 (‵ (box_owns (g.dealloc_token u.alloc) R (block_ptr b o) u.value) ∷ ‵ (Z.own_val u.alloc (h ∷ [])) ∷ Γ) G)
        → Seq K 𝓛 (‵ (Apart.own_val u vs) ∷ Γ) G
    apart_out t u vs next =
        fsplit t $ fpick t (λ words. fsplit t $ feq_l t (λ whole. fsplit t $ feq_l t (λ first. fsplit t $
        handle_tells al t u.alloc words.1.0 (λ h second fits. move t (1 ∷ []) $ drop t $ move t (1 ∷ []) $
        in_a_block t u.at (λ p. box_owns (g.dealloc_token u.alloc) R p u.value)
        (fst∗ 𝓤 (never 𝓤) (sem 𝓛 (g.dealloc_token u.alloc (bare (lone R.mir)) null_ptr))) (λ b o there.
        next b o h there
        (subst (λ (p : Ptr). vs ≡ vstruct (of_list (ptr_val p ∷ h ∷ [])) ∷ []) there
        (subst (λ (ws : List Val). vs ≡ vstruct (of_list (ptr_val u.at ∷ (ws ++ []))) ∷ []) second
        (subst (λ (ws : List Val). vs ≡ vstruct (of_list (ws ++ (words.1.0 ++ []))) ∷ []) first whole))) fits)))))

    -- these make an `Unboxed`
    pub apart_in : K → (b o : ℕ) (h : Val) (a : Z.Denot) (x : R.Denot)
        → Step K 𝓛 (‵ (Apart.own_val (record { at = block_ptr b o; alloc = a; value = x }) (pair (vptr b o) h ∷ [])) ∷ Γ) G
        (‵ (box_owns (g.dealloc_token a) R (block_ptr b o) x) ∷ ‵ (Z.own_val a (h ∷ [])) ∷ Γ) G
    apart_in t b o h a x = step (λ s. let v : Val = pair (vptr b o) h in
        nothing t $ move t (2 ∷ 0 ∷ []) $ fjoin t $ feq_i t (List Val) (vptr b o ∷ []) (vptr b o ∷ []) refl $ fjoin t $
        feq_i t (List Val) (v ∷ []) (v ∷ []) refl $ fjoin t $
        fpack t (Valss (RawPtr ∷ Z ∷ [])) (within (shape (Unboxed.the_type R Z g)) (block_ptr b o, (a, tt)) (v ∷ [])) (vptr b o ∷ [], (h ∷ [], tt)) $
        fjoin t $ s)

-- ---- the handle, whose heap is `Global`

abbrev pub heap_al : Al
heap_al = al OpenDesk.the_row heap.the_row heap_laws.the_row_laws ghosts

abbrev pub owned : heap.the_row.Denot → Ptr → Option OpenDesk.the_row.Denot → base.Fml.Fml
owned = Rattle.vf_desk.specs.HandleOwnership.handle_owns

module _ {M : Type 1} {𝓤 : Ura M} {𝓛 : Logic 𝓤} {K : Type 0} {Γ : List (Item 𝓤)} {G : Goal 𝓤 𝓛.H} where
  -- what a handle owns: what its open desk says, and the heap's handle
  pub handle_out : K → (d : OpenDeskHandle.the_row.Denot) (vs : List Val)
      → ((h : Val) → vs ≡ pair (ptr_val d.at) h ∷ [] → Good (layout heap.the_row) h
      → Seq K 𝓛 (‵ (owned d.alloc d.at d.open_desk) ∷ ‵ (heap.the_row.own_val d.alloc (h ∷ [])) ∷ Γ) G)
      → Seq K 𝓛 (‵ (OpenDeskHandle.the_row.own_val d vs) ∷ Γ) G
  handle_out t d vs next =
      fsplit t $ fpick t (λ words. fsplit t $ feq_l t (λ whole. fsplit t $ feq_l t (λ first. fsplit t $
      handle_tells heap_al t d.alloc words.1.0 (λ h second fits. move t (1 ∷ []) $ drop t $ move t (1 ∷ []) $
      next h
      (subst (λ (ws : List Val). vs ≡ vstruct (of_list (ptr_val d.at ∷ (ws ++ []))) ∷ []) second
      (subst (λ (ws : List Val). vs ≡ vstruct (of_list (ws ++ (words.1.0 ++ []))) ∷ []) first whole)) fits))))

  -- these make a handle
  pub handle_in : K → (p : Ptr) (h : Val) (a : heap.the_row.Denot) (x : Option OpenDesk.the_row.Denot)
      → Step K 𝓛 (‵ (OpenDeskHandle.the_row.own_val (record { at = p; alloc = a; open_desk = x }) (pair (ptr_val p) h ∷ [])) ∷ Γ) G
      (‵ (owned a p x) ∷ ‵ (heap.the_row.own_val a (h ∷ [])) ∷ Γ) G
  handle_in t p h a x = step (λ s.
      let v : Val = pair (ptr_val p) h in
      let made : OpenDeskHandle.the_row.Denot = record { at = p; alloc = a; open_desk = x } in
      nothing t $ move t (2 ∷ 0 ∷ []) $ fjoin t $ feq_i t (List Val) (ptr_val p ∷ []) (ptr_val p ∷ []) refl $ fjoin t $
      feq_i t (List Val) (v ∷ []) (v ∷ []) refl $ fjoin t $
      fpack t (Valss ((shape OpenDeskHandle.the_type).fields)) (within (shape OpenDeskHandle.the_type) (to OpenDeskHandle.the_type made) (v ∷ []))
      (ptr_val p ∷ [], (h ∷ [], tt)) $
      fjoin t $ s)
