-- `run_mut` opens its `&mut`, reads the pointer and makes a slice of the n bytes behind `at`. While they are lent, the block
-- keeps the bytes on either side, the right to free all of them, and its fields (*Behind*). Whatever the slice ends with, as
-- many bytes, goes between them, and the block is whole again.
use Rattle.rh_region.proofs.Common.{◌≡◌, refl, sym, ap, ◌∙◌, List, [], ◌∷◌, ℕ, ◌+◌, ◌≤◌, ◌<◌, ◌^◌, arith, Ura, length, full_share, Lft, Share, Fml, ftrue}
use Rattle.rh_region.proofs.Common.{fsep, flft, SProp, ent, id⊢, fact, Running, MachineTables, tables, w64, named, Val, vint, vptr, Model, Env, Logic, sem}
use Rattle.rh_region.proofs.Common.{Sq, ⋆, mean, runs, ‵, raw, ◌⊛◌, some, given, later, await, learn, pick, at_ret, ◌$◌, ◌∵◌, !, qed, by, move, keep, drop}
use Rattle.rh_region.proofs.Common.{use1, use2, split, join, rewrite, fsplit, fsplit3, fjoin, flt_i, flt_l, suffices, frame, done, whole, agg, stop, fld}
use Rattle.rh_region.proofs.Common.{of_opd, and_then, no_more, first, blocks, exec, returns, enter, alloc_all, pass_all, free_all, look_at, get, through}
use Rattle.rh_region.proofs.Common.{sets, sets_last, env, holding, Array, u8, usize, yes, part_at, uint_vals, uint_Tells, Ptr, block_ptr, lies_at, in_a_block}
use Rattle.rh_region.proofs.Common.{plain, heard, nothing, Clauses, Stays, stay_dropped, walk_of, Goes-dropped, after, proved, leaves, Block}
use mathlib.Core.Path.{subst}
use base.Fml.{GName, fobor, fobs, fauth}
use types.SemTy.{Body, cells}
use types.Kit.{group, fjoin3, fpack}
use types.Part.{sub, look_in}
use types.Run.{load, bin}
use denote.Exit.{no}
use denote.FollowSlice.{Elements, lends_Elements}
use denote.Follow.{follows}
use denote.Laws.{shows}
use denote.Memory.{mem, part_of, cell_at}
use denote.Ref.{MutBor, MutRef, mut_vals, mut_Tells}
use denote.Signature.{mut_ref_to}
use denote.Slice.{MutSlice, Room, slice_val}
use denote.Steps.{opens, peeks}
use denote.Triple.Walked.{says, Goes-spent_ref}
use Rattle.rh_region.specs.Inner.BlockLends.{patched_block}
use Rattle.rh_region.specs.Patched.{with_run}
use Rattle.rh_region.specs.contracts.raw.Block.run_mut as f
use Rattle.rh_region.proofs.BlockFields.{R, Fields, fields}
use Rattle.rh_region.proofs.HeapCalls.{right}
use Rattle.rh_region.proofs.PatchedLemmas.{patched_same}
use Rattle.rh_region.proofs.Runs.{run, run_long, Outside, run_out, run_in}
use Rattle.rh_region.proofs.Words.{spent}
use Rattle.rh_region.proofs.raw.Block.TheLaws.{lowers}
use Rattle.rh_region.proofs.raw.Block.run_mut.Statement.{statement}
use Rattle.rh_region.proofs.raw.Block.run_mut.Code as code

-- the `&mut` has passed on to the slice
abbrev kept : Stays f.ended.signature.params f.ended.kept
kept = (stay_dropped (mut_ref_to (0 ∷ []) tt (plain (λ _. R))) no, (stay_dropped (plain (λ _. usize)) yes, (stay_dropped (plain (λ _. usize)) yes, tt)))

-- a block of which bytes can be lent: they lie at an offset of a block of the heap, and are few
record IsOpen (d : Block) (at n hb ho : ℕ) : Type 0 where
  within : at + n ≤ length d.bytes
  there : d.start ≡ block_ptr hb ho
  small : d.len < 2 ^ 63
  fits : n < 2 ^ 64

module _ {M : Type 1} {𝓤 : Ura M} (𝓛 : Logic 𝓤) (𝓜 : Model 𝓤 𝓛.H) (𝓡 : Running 𝓤 𝓛.H 𝓜) where
  abbrev clauses : Clauses 𝓤 f.ended
  clauses = f.clauses 𝓛 𝓜.mem 𝓡.returns

  module _ (κ : Lft) (q : Share) (b o : ℕ) (γ : GName) (d : Block) (at n : ℕ) where
    abbrev self : MutBor Block
    self = record { ref_ptr = (b, o); ghost_name = γ; now = d }

    abbrev called : (walk_of 𝓛 f.ended kept clauses).Ghost
    called = (((κ, tt), (q, tt), tt, (self, (at, (n, tt))), (mut_vals self, (uint_vals w64 at, (uint_vals w64 n, tt)))), tt)

    abbrev End : Val → SProp 𝓤
    End = (walk_of 𝓛 f.ended kept clauses).post called

    module _ (us : List Val) (hb ho : ℕ) (ok : IsOpen d at n hb ho) where
      abbrev bytes : List ℕ
      bytes = run 𝓛 at n hb ho d.bytes ok.within

      abbrev Run : List ℕ → Fml
      Run ws = cells (mem u8) ws hb (at + ho)

      abbrev Cell : List Val → Fml
      Cell vs = cell_at full_share R.mir vs b o

      -- the memory that is not lent on
      abbrev Behind : Fml
      Behind = fsep (Outside 𝓛 at n hb ho d.bytes ok.within) (fsep (right d.alloc d.len d.start) (fsep (Fields.own_val (fields d) us) (Cell us)))

      module _ (long : length d.bytes ≡ d.len) where
        -- a run as long, and what stayed behind, are a block that lies where the old one did
        put_back : (ws : List ℕ) → length ws ≡ length bytes → ent 𝓤 (⋆ 𝓛 (‵ (Run ws) ∷ ‵ Behind ∷ [])) (sem 𝓛 ((mem R).own_at (patched_block d at n ws) b o))
        unfolding part_of
        put_back ws same =
            let new = patched_block d at n ws in let count : length ws ≡ n = same ∙ run_long 𝓛 at n hb ho d.bytes ok.within in
            qed 𝓛 (‵ (Run ws) ∷ ‵ Behind ∷ []) ∵ move ! (1 ∷ []) $ fsplit ! $ move ! (2 ∷ 0 ∷ []) $
            use2 𝓛 (‵ (part_at (Array u8 d.len) full_share (with_run d.bytes at n ws) hb ho)) (run_in 𝓛 at n hb ho d.bytes ok.within d.len ws long count) $
            rewrite ! 0 (λ (ys : List ℕ). ‵ (part_at (Array u8 d.len) full_share ys hb ho)) (sym (patched_same d.bytes at n ws count)) refl $
            rewrite ! 0 (λ (p : Ptr). ‵ (lies_at (Array u8 d.len) full_share p new.bytes)) (sym ok.there) refl $
            move ! (1 ∷ []) $ fsplit3 ! $ move ! (3 ∷ 0 ∷ []) $ fjoin ! $ flt_i ! d.len (2 ^ 63) ok.small $ fjoin ! $
            -- [what the block owns behind its pointer; the fields; their cell]
            move ! (1 ∷ 0 ∷ []) $ fjoin ! $ move ! (1 ∷ 0 ∷ []) $ fjoin ! $ fpack ! (List Val) (λ vs. fsep (Cell vs) (R.own_val new vs)) us $ done !

        few : Room u8 (length bytes)
        few = let short = run_long 𝓛 at n hb ho d.bytes ok.within in let inside =
            ok.within in let all = ok.small in (omega (arith, short, inside, all, long), omega (arith, short, inside, all, long))

        -- the slice, the token, and that the block follows the slice
        abbrev Lent : GName → SProp 𝓤
        Lent = Elements 𝓛 R u8 (patched_block d at n) (named 0) κ q b o hb (at + ho) γ bytes few (sem 𝓛 Behind) put_back

        lends : ent 𝓤 (⋆ 𝓛 (‵ (fobor κ q (Body (mem R) b o γ)) ∷ ‵ (fobs γ (R.coded.code d)) ∷ ‵ (fauth γ (R.coded.code d)) ∷ ‵ (Run bytes) ∷ ‵ Behind ∷ []))
            (mean 𝓛 (later (some (λ (δ : GName). raw (Lent δ)))))
        lends = lends_Elements 𝓛 R u8 (patched_block d at n) (named 0) κ q b o hb (at + ho) γ bytes few (sem 𝓛 Behind) put_back (R.coded.code d)
            (R.coded.code d)

        ends_as_long : (δ : GName) → ent 𝓤 (Lent δ) (End (slice_val (hb, at + ho) (length bytes)))
        ends_as_long δ =
            let slice : MutBor (List ℕ) = record { ref_ptr = (hb, at + ho); ghost_name = δ; now = bytes } in let v = slice_val (hb, at + ho) (length bytes) in
            qed 𝓛 ((‵ ((MutSlice (named 0) κ u8).own_val slice (v ∷ [])) ⊛ ‵ (flft κ q) ⊛ ‵ (follows R (Array u8 0) γ δ (patched_block d at n))) ∷ []) ∵
            suffices ! _ (leaves 𝓛 f.ended kept clauses called v slice (tt, (tt, (tt, tt))) (tt, (tt, (tt, tt)))) $ split ! $ move ! (1 ∷ []) $ split ! $
            -- [the token; what follows; the slice]
            nothing ! $ move ! (1 ∷ 0 ∷ []) $ join ! $ frame ! $ spent ! 3 $ frame ! $ move ! (1 ∷ []) $ frame ! $ says ! refl $ done !

        ends : (δ : GName) → ent 𝓤 (Lent δ) (End (slice_val (hb, at + ho) n))
        ends δ = subst (λ (k : ℕ). ent 𝓤 (Lent δ) (End (slice_val (hb, at + ho) k))) (run_long 𝓛 at n hb ho d.bytes ok.within) (ends_as_long δ)

        module _ (l : ℕ → ℕ) where
          abbrev 𝓣 : MachineTables 𝓤 𝓛.H 𝓜
          𝓣 = tables 𝓤 𝓛.H 𝓜 𝓡 𝓡.env

          abbrev En : Env 𝓤 𝓛.H
          En = env code.Mir.locals l

          -- the run lies apart already, and the last three entries close the borrow again; the pointer is read, moved on by
          -- `at`, and goes with n into the slice
          computes : us ≡ lowers.lowered (record d { start = block_ptr hb ho }) ∷ []
              → Sq 𝓛 (‵ (Run bytes) ∷ ‵ (Outside 𝓛 at n hb ho d.bytes ok.within) ∷ ‵ (right d.alloc d.len d.start) ∷ ‵ (Fields.own_val (fields d) us) ∷ ‵
              (Cell us) ∷ ‵ (fobor κ q (Body (mem R) b o γ)) ∷ ‵ (fobs γ (R.coded.code d)) ∷ ‵ (fauth γ (R.coded.code d))
              ∷ holding 𝓛 En ((1, vptr b o) ∷ (2, vint w64 at) ∷ (3, vint w64 n) ∷ []))
              (runs 𝓣.C 𝓣.Λ En (code.function).body (at_ret En End))
          computes word =
              rewrite ! 4 (λ (vs : List Val). ‵ (Cell vs)) word refl $ first ! $ blocks ! $
              sets ! (of_opd ! (load ! (through ! refl (fld ! refl (stop !))) (look_in ! 4 (sub ! 0 refl (whole !))))) refl (tt, tt) $
              sets ! (bin ! (get ! refl) (get ! refl) tt) refl (tt, tt) $
              sets_last ! (agg ! (and_then ! (get ! refl) (and_then ! (get ! refl) (no_more !)))) refl (tt, (tt, (record { fits = ok.fits }, tt))) $
              exec ! 𝓣.C 𝓣.Λ En (after 1 (code.function).body) (at_ret En End) $
              sets ! (of_opd ! (get ! refl)) refl (tt, (tt, (record { fits = ok.fits }, tt))) $
              rewrite ! 4 (λ (vs : List Val). ‵ (Cell vs)) (sym word) refl $
              move ! (3 ∷ 4 ∷ []) $ fjoin ! $ move ! (2 ∷ 3 ∷ 0 ∷ []) $ fjoin3 ! $ move ! (2 ∷ 3 ∷ 4 ∷ 1 ∷ 0 ∷ []) $ group ! 5 $
              use1 𝓛 (later (some (λ (δ : GName). raw (Lent δ)))) lends $ await ! tt $ pick ! (λ δ.
              returns ! (look_at ! 0 refl) $ free_all ! refl $ keep ! (0 ∷ []) $ by ! (ends δ))

pub run_mut_spec : {M : Type 1} → statement M
run_mut_spec 𝓤 𝓛 𝓜 𝓡 wired =
    proved 𝓛 f.ended kept (clauses 𝓛 𝓜 𝓡) 𝓜 𝓡 (
      Goes-spent_ref 𝓛 1 (0 ∷ []) tt (plain (λ _. R)),
      (Goes-dropped 𝓛 1 (plain (λ _. usize)) yes (λ κs x w. refl), (Goes-dropped 𝓛 1 (plain (λ _. usize)) yes (λ κs x w. refl), tt)),
    )
    f.Key.name code.function (code.unfolded 𝓤 𝓛.H 𝓜 𝓡 wired)
    (λ κs. (mut_vals, (uint_vals w64, (uint_vals w64, tt)))) (λ κs. (mut_Tells (named 0) κs.0 R, (uint_Tells w64, (uint_Tells w64, tt))))
    (λ κs qs bounds a _ are.
    let κ = κs.0 in let q = qs.0 in let b = a.0.ref_ptr.0 in let o = a.0.ref_ptr.1 in let γ = a.0.ghost_name in let d = a.0.now in let at = a.1.0 in
    let n = a.1.1.0 in
    qed 𝓛 (((‵ (flft κ q) ⊛ ‵ ftrue) ⊛ ‵ ((MutRef (named 0) κ R).own_val a.0 (mut_vals a.0)) ⊛ ‵ (usize.own_val at (uint_vals w64 at)) ⊛ ‵
    (usize.own_val n (uint_vals w64 n)) ⊛ ‵ ftrue)
    ∷ raw (fact 𝓤 (at + n ≤ length d.bytes)) ∷ []) ∵
    split ! $ split ! $ move ! (2 ∷ []) $ split ! $ keep ! (4 ∷ 0 ∷ 2 ∷ []) $ heard ! _ (λ within.
    -- [the `&mut`; the token]
    enter ! _ _ _ _ _ $ alloc_all ! (λ l. pass_all ! refl ((tt, tt), ((tt, record { fits = are.1.0.1 }), ((tt, record { fits = are.1.1.0.1 }), tt))) $
    fsplit3 ! $ drop ! $ opens ! tt R b o (λ us.
    move ! (1 ∷ []) $ peeks ! R _ (shows 𝓛 R) d us (λ is. fsplit ! $ move ! (1 ∷ []) $ fsplit3 ! $ flt_l ! (λ small.
    in_a_block ! d.start (λ p. lies_at (Array u8 d.len) full_share p d.bytes) (id⊢ 𝓤 _) (λ hb ho there.
    let ok : IsOpen d at n hb ho = record { within = within; there = there; small = small; fits = are.1.1.0.1 } in
    use1 𝓛 (given (length d.bytes ≡ d.len) (‵ (cells (mem u8) (run 𝓛 at n hb ho d.bytes within) hb (at + ho)) ⊛ ‵ (Outside 𝓛 at n hb ho d.bytes within)))
    (run_out 𝓛 at n hb ho d.bytes within d.len) $ learn ! (λ long. split ! $
    -- [the run; the bytes around it; the right to free all; the fields; their cell; the borrow]
    by ! (computes 𝓛 𝓜 𝓡 κ q b o γ d at n us hb ho ok long l (lowers.val_is d us is
    ∙ ap (λ (p : Ptr). lowers.lowered (record d { start = p }) ∷ []) there)).prf))))))))
