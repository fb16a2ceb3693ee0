-- `as_slice` reads the two fields behind its `&` and makes a slice of them. The bytes behind the slice are those that the
-- `&` to the block lends, so they pass to the slice as they are, for as long as the `&` lives.
use Rattle.rh_region.proofs.Common.{◌≡◌, refl, sym, ap, List, [], ◌∷◌, ℕ, ◌+◌, ◌<◌, ◌^◌, arith, Ura, length, Lft, Share, Fml, ftrue, flft, SProp, ent, fact}
use Rattle.rh_region.proofs.Common.{Running, MachineTables, tables, named, Val, vptr, Model, Env, Logic, sem, Sq, ⋆, mean, runs, ‵, raw, ◌⊛◌, given, at_ret}
use Rattle.rh_region.proofs.Common.{◌$◌, ◌∵◌, !, qed, by, move, keep, drop, use1, split, join, fsplit, fsplit3, fjoin, feq_i, feq_l, flt_i, flt_l, learn}
use Rattle.rh_region.proofs.Common.{check, frame, suffices, done, agg, stop, fld, of_opd, and_then, no_more, first, blocks, exec, returns, enter, alloc_all}
use Rattle.rh_region.proofs.Common.{pass_all, free_all, look_at, get, through, sets, sets_last, env, holding, u8, RefOf, yes, block_ptr, Bor, shr_vals}
use Rattle.rh_region.proofs.Common.{shr_Tells, plain, heard, nothing, Clauses, Stays, stay_dropped, walk_of, Goes-dropped, after, proved, leaves, Block}
use Prim.Native.Nat.{◌*◌}
use base.Fml.{fhide}
use types.Run.{load, look}
use denote.Opens.{unhide, hide}
use denote.RawPtr.{block_of, count_of, InBlock}
use denote.Ref.{ShrRef}
use denote.Slice.{ShrSlice, slice_val, elements_shared}
use denote.Struct.Lending.{in_block_says, lent_out}
use Rattle.core.proofs.mem.Facts.{says_two}
use Rattle.std_alloc.proofs.Words.{word_in, word_out, pointer_in, pointer_out}
use Rattle.rh_region.specs.contracts.raw.Block as C
use Rattle.rh_region.specs.contracts.raw.Block.as_slice as f
use Rattle.rh_region.proofs.BlockFields.{R, Shown, start_shown, len_shown}
use Rattle.rh_region.proofs.Words.{spent}
use Rattle.rh_region.proofs.raw.Block.as_slice.Statement.{statement}
use Rattle.rh_region.proofs.raw.Block.as_slice.Code as code

-- the `&` itself is used up
abbrev kept : Stays f.ended.signature.params f.ended.kept
kept = (stay_dropped (RefOf (0 ∷ []) tt (plain (λ _. R)) (λ _. tt)) yes, tt)

-- what is known of a block that can be seen: its bytes lie in a block of the heap, they are few, and as many as it says
abbrev IsSeen : Block → Type 0
IsSeen d = InBlock d.start × (d.len < 2 ^ 63) × (length d.bytes ≡ d.len)

module _ {M : Type 1} {𝓤 : Ura M} (𝓛 : Logic 𝓤) (𝓜 : Model 𝓤 𝓛.H) (𝓡 : Running 𝓤 𝓛.H 𝓜) where
  abbrev clauses : Clauses 𝓤 f.ended
  clauses = f.clauses 𝓛 𝓜.mem 𝓡.returns

  module _ (κ : Lft) (q : Share) (b o : ℕ) (d : Block) where
    abbrev self : Bor Block
    self = record { ref_ptr = (b, o); now = d }

    abbrev called : (walk_of 𝓛 f.ended kept clauses).Ghost
    called = (((κ, tt), (q, tt), tt, (self, tt), (shr_vals self, tt)), tt)

    abbrev End : Val → SProp 𝓤
    End = (walk_of 𝓛 f.ended kept clauses).post called

    -- where the bytes lie
    abbrev at : ℕ × ℕ
    at = (block_of d.start, count_of d.start)

    abbrev Bytes : Fml
    Bytes = fhide (elements_shared u8 d.bytes at.0 at.1 κ)

    -- a `&` to a block shows its fields, and its bytes
    seen : ent 𝓤 (sem 𝓛 ((ShrRef (named 0) κ R).own_val self (shr_vals self))) (mean 𝓛 (given (IsSeen d) (‵ (Shown 𝓛 κ d b o) ⊛ ‵ Bytes)))
    seen =
        qed 𝓛 (‵ ((ShrRef (named 0) κ R).own_val self (shr_vals self)) ∷ []) ∵ fsplit ! $ drop ! $
        use1 𝓛 (‵ (Shown 𝓛 κ d b o) ⊛ ‵ (fhide (C.the_lent d (block_ptr b o) κ))) (lent_out 𝓛 C.struct C.the_codes C.the_heap C.the_lent κ d b o) $ split ! $
        move ! (1 ∷ []) $ unhide ! $ fsplit3 ! $
        flt_l ! (λ small. use1 𝓛 (raw (fact 𝓤 (InBlock d.start))) (in_block_says 𝓛 d.start) $ heard ! (InBlock d.start) (λ inb.
        fsplit ! $ feq_l ! (λ long. hide ! $ check ! (inb, small, long) $ move ! (1 ∷ 0 ∷ []) $ done !)))

    module _ (ok : IsSeen d) where
      abbrev slice : Bor (List ℕ)
      slice = record { ref_ptr = at; now = d.bytes }

      -- the bytes, at a slice's pointer and count, are a slice
      sliced : ent 𝓤 (sem 𝓛 Bytes) (sem 𝓛 ((ShrSlice (named 0) κ u8).own_val slice (slice_val at d.len ∷ [])))
      sliced =
          let small = ok.1 in let long = ok.2 in
          qed 𝓛 (‵ Bytes ∷ []) ∵ flt_i ! (length d.bytes * 1) (2 ^ 63) (omega (arith, small, long)) $
          flt_i ! (length d.bytes) (2 ^ 64) (omega (arith, small, long)) $ fjoin ! $
          feq_i ! (List Val) (slice_val at d.len ∷ []) (slice_val at (length d.bytes) ∷ []) (ap (λ (k : ℕ). slice_val at k ∷ []) (sym long)) $ fjoin ! $
          move ! (0 ∷ 1 ∷ []) $ fjoin ! $ done !

      ends : ent 𝓤 (⋆ 𝓛 (‵ (flft κ q) ∷ ‵ Bytes ∷ [])) (End (slice_val at d.len))
      ends =
          qed 𝓛 (‵ (flft κ q) ∷ ‵ Bytes ∷ []) ∵ suffices ! _ (leaves 𝓛 f.ended kept clauses called (slice_val at d.len) slice (tt, tt) (tt, tt)) $
          nothing ! $ move ! (1 ∷ 0 ∷ []) $ join ! $ frame ! $ spent ! 1 $ frame ! $
          use1 𝓛 (‵ ((ShrSlice (named 0) κ u8).own_val slice (slice_val at d.len ∷ []))) sliced $ says_two ! (refl, ok.2) $ done !

      module _ (l : ℕ → ℕ) where
        abbrev 𝓣 : MachineTables 𝓤 𝓛.H 𝓜
        𝓣 = tables 𝓤 𝓛.H 𝓜 𝓡 𝓡.env

        abbrev En : Env 𝓤 𝓛.H
        En = env code.Mir.locals l

        -- the pointer is read, then the length; neither read takes anything from the `&`
        reads : Sq 𝓛 (‵ (Shown 𝓛 κ d b o) ∷ ‵ (flft κ q) ∷ ‵ Bytes ∷ holding 𝓛 En ((1, vptr b o) ∷ [])) (runs 𝓣.C 𝓣.Λ En (code.function).body (at_ret En End))
        reads =
            first ! $ blocks ! $
            pointer_in ! tt d.start ok.0 b (o + 0) (start_shown 𝓛 κ d b o) (λ q'.
            sets ! (of_opd ! (load ! (through ! refl (fld ! refl (stop !))) (look ! 1 refl))) refl (tt, tt) $
            pointer_out ! tt d.start ok.0 b (o + 0) $ move ! (1 ∷ 0 ∷ []) $
            word_in ! tt d.len b (o + 8) (len_shown 𝓛 κ d b o) (λ q'' fits.
            sets ! (of_opd ! (load ! (through ! refl (fld ! refl (stop !))) (look ! 1 refl))) refl (tt, record { fits = fits }) $
            word_out ! tt d.len b (o + 8) fits $
            -- [the token; the fields; the bytes]
            sets_last ! (agg ! (and_then ! (get ! refl) (and_then ! (get ! refl) (no_more !)))) refl (tt, (tt, (record { fits = fits }, tt))) $
            exec ! 𝓣.C 𝓣.Λ En (after 1 (code.function).body) (at_ret En End) $
            sets ! (of_opd ! (get ! refl)) refl (tt, (tt, (record { fits = fits }, tt))) $
            returns ! (look_at ! 0 refl) $ free_all ! refl $ keep ! (0 ∷ 2 ∷ []) $ by ! ends))

pub as_slice_spec : {M : Type 1} → statement M
as_slice_spec 𝓤 𝓛 𝓜 𝓡 wired =
    proved 𝓛 f.ended kept (clauses 𝓛 𝓜 𝓡) 𝓜 𝓡 (Goes-dropped 𝓛 1 (RefOf (0 ∷ []) tt (plain (λ _. R)) (λ _. tt)) yes (λ κs x w. refl), tt)
    f.Key.name code.function (code.unfolded 𝓤 𝓛.H 𝓜 𝓡 wired)
    (λ κs. (shr_vals, tt)) (λ κs. (shr_Tells (named 0) κs.0 R, tt)) (λ κs qs bounds a _ are.
    let κ = κs.0 in let q = qs.0 in let b = a.0.ref_ptr.0 in let o = a.0.ref_ptr.1 in let d = a.0.now in
    qed 𝓛 (((‵ (flft κ q) ⊛ ‵ ftrue) ⊛ ‵ ((ShrRef (named 0) κ R).own_val a.0 (shr_vals a.0)) ⊛ ‵ ftrue) ∷ ‵ ftrue ∷ []) ∵
    split ! $ split ! $ move ! (2 ∷ []) $ split ! $ keep ! (0 ∷ 2 ∷ []) $
    use1 𝓛 (given (IsSeen d) (‵ (Shown 𝓛 κ d b o) ⊛ ‵ (Bytes 𝓛 𝓜 𝓡 κ q b o d))) (seen 𝓛 𝓜 𝓡 κ q b o d) $ learn ! (λ ok. split ! $ move ! (0 ∷ 2 ∷ 1 ∷ []) $
    enter ! _ _ _ _ _ $ alloc_all ! (λ l. pass_all ! refl ((tt, tt), tt) $ by ! (reads 𝓛 𝓜 𝓡 κ q b o d ok l).prf)))
