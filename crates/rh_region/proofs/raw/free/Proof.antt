-- `free` owns the block whole. It lets the bytes go, which leaves room, and hands that room with the right to free it to
-- the heap; what it ends with is the token of the `&` to the heap.
use Rattle.rh_region.proofs.Common.{◌≡◌, refl, [], ◌∷◌, ◌<◌, ◌^◌, arith, Ura, Lft, Share, ftrue, SProp, ent, fact, Running, tables, named, Val, vunit, Model}
use Rattle.rh_region.proofs.Common.{Logic, sem, mean, ‵, raw, ◌⊛◌, given, later, await, learn, at_ret, ◌$◌, ◌∵◌, !, qed, by, move, keep, drop, use1, split}
use Rattle.rh_region.proofs.Common.{rewrite, fsplit, feq_l, suffices, done, whole, stop, fld, lit, of_opd, and_then, no_more, first, blocks, exec, returns}
use Rattle.rh_region.proofs.Common.{enter, alloc_all, pass_all, free_all, look_at, get, sets, env, unit, RefOf, yes, Bor, shr_vals, shr_Tells, plain, heard}
use Rattle.rh_region.proofs.Common.{nothing, Clauses, Stays, stay_dropped, walk_of, Goes-dropped, after, proved, leaves, Global, room_of, block_owns, Block}
use types.Kit.{split3, group}
use types.Part.{sub}
use types.Run.{unit_lit}
use types.ByLocal.{get_in, lands_last}
use denote.RawPtr.{rawptr_Lawful}
use denote.Triple.Call.{calls_at_last}
use denote.Triple.Table.{framed}
use Rattle.core.proofs.alloc.Calls.{Goes-blank}
use Rattle.std.proofs.impls.GlobalAllocator.deallocate.Met.{met}
use Rattle.std.specs.contracts.alloc.Global as heap
use Rattle.rh_region.specs.contracts.raw.free as f
use Rattle.rh_region.proofs.BlockFields.{R, emptied}
use Rattle.rh_region.proofs.HeapCalls.{Token, Handle, right, Giving, given_back, give, taken}
use Rattle.rh_region.proofs.Words.{nothing_said, spent, unit_fits}
use Rattle.rh_region.proofs.raw.Block.TheLaws.{lowers, the_row_laws}
use Rattle.rh_region.proofs.raw.free.Statement.{statement}
use Rattle.rh_region.proofs.raw.free.Code as code

-- neither the `&` nor the block is left
abbrev kept : Stays f.ended.signature.params f.ended.kept
kept = (stay_dropped (RefOf (0 ∷ []) tt (plain (λ _. heap.the_row)) (λ _. tt)) yes, (stay_dropped (plain (λ _. R)) yes, tt))

module _ {M : Type 1} {𝓤 : Ura M} (𝓛 : Logic 𝓤) (𝓜 : Model 𝓤 𝓛.H) (𝓡 : Running 𝓤 𝓛.H 𝓜) where
  abbrev clauses : Clauses 𝓤 f.ended
  clauses = f.clauses 𝓛 𝓜.mem 𝓡.returns

  module _ (κ : Lft) (q : Share) (r : Bor Global) (d : Block) where
    abbrev called : (walk_of 𝓛 f.ended kept clauses).Ghost
    called = (((κ, tt), (q, tt), tt, (r, (d, tt)), (shr_vals r, (lowers.lowered d ∷ [], tt))), tt)

    abbrev End : Val → SProp 𝓤
    End = (walk_of 𝓛 f.ended kept clauses).post called

    -- the memory that goes back, once the block's bytes are let go: it goes to the heap that it came from
    opened : d.alloc ≡ r.now
        → ent 𝓤 (sem 𝓛 (R.own_val d (lowers.lowered d ∷ []))) (mean 𝓛 (given (d.len < 2 ^ 63) (‵ (room_of d.start d.len) ⊛ ‵ (right r.now d.len d.start))))
    opened same =
        qed 𝓛 (‵ (R.own_val d (lowers.lowered d ∷ [])) ∷ []) ∵ fsplit ! $ drop ! $
        rewrite ! 0 (λ (h : Global). ‵ (block_owns d.start d.len h d.bytes)) same refl $ by ! (emptied 𝓛 (record d { alloc = r.now }))

    ends : ent 𝓤 (mean 𝓛 (Token 𝓛 𝓜 𝓡 κ q r d.len)) (End vunit)
    ends = qed 𝓛 (Token 𝓛 𝓜 𝓡 κ q r d.len ∷ []) ∵ suffices ! _ (leaves 𝓛 f.ended kept clauses called vunit tt (tt, (tt, tt)) (tt, (tt, tt))) $
        nothing ! $ nothing_said ! $ spent ! 2 $ move ! (3 ∷ []) $ done !

pub free_spec : {M : Type 1} → statement M
free_spec 𝓤 𝓛 𝓜 𝓡 wired =
    let 𝓣 = tables 𝓤 𝓛.H 𝓜 𝓡 𝓡.env in
    proved 𝓛 f.ended kept (clauses 𝓛 𝓜 𝓡) 𝓜 𝓡 (
      Goes-dropped 𝓛 1 (RefOf (0 ∷ []) tt (plain (λ _. heap.the_row)) (λ _. tt)) yes (λ κs x w. refl),
      (Goes-blank 𝓛 1 (plain (λ _. R)) yes (λ κs x w. tt), tt),
    )
    f.Key.name code.function (code.unfolded 𝓤 𝓛.H 𝓜 𝓡 wired)
    (λ κs. (shr_vals, ((λ d. lowers.lowered d ∷ []), tt))) (λ κs. (shr_Tells (named 0) κs.0 heap.the_row, (lowers.val_is, tt))) (λ κs qs bounds a _ are.
    let κ = κs.0 in let q = qs.0 in let r = a.0 in let d = a.1.0 in let n = d.len in
    let Token = Token 𝓛 𝓜 𝓡 κ q r n in let Handle = Handle 𝓛 𝓜 𝓡 κ q r n in
    qed 𝓛 ((Token ⊛ Handle ⊛ ‵ (R.own_val d (lowers.lowered d ∷ [])) ⊛ ‵ ftrue) ∷ raw (fact 𝓤 (d.alloc ≡ r.now)) ∷ []) ∵
    split ! $ move ! (1 ∷ []) $ split3 ! $ keep ! (4 ∷ 1 ∷ 0 ∷ 3 ∷ []) $ heard ! _ (λ same.
    use1 𝓛 (given (n < 2 ^ 63) (‵ (room_of d.start n) ⊛ ‵ (right r.now n d.start))) (opened 𝓛 𝓜 𝓡 κ q r d same) $ learn ! (λ small. split ! $
    -- [the room; the right to free it; the `&` to the heap; its token]
    enter ! _ _ _ _ _ $ alloc_all ! (λ l. let fits : n < 2 ^ 64 = omega arith in
    pass_all ! refl ((tt, tt), (((the_row_laws.lawful 𝓛).typed d _ are.1.0).0, tt)) $
    sets ! (of_opd ! (get_in ! (fld ! refl (stop !)) (sub ! 0 refl (whole !)))) refl ((rawptr_Lawful 𝓛).typed d.start _ refl).0 $
    sets ! (of_opd ! (get_in ! (fld ! refl (stop !)) (sub ! 1 refl (whole !)))) refl (tt, record { fits = fits }) $
    group ! 4 $ use1 𝓛 (raw ((Giving 𝓛 𝓜 𝓡 κ q r n d.start).pre (given_back 𝓛 𝓜 𝓡 κ q r n d.start))) (give 𝓛 𝓜 𝓡 κ q r n d.start small) $ first ! $ blocks ! $
    calls_at_last ! (framed 𝓤 𝓛.H 𝓜 𝓣) (Giving 𝓛 𝓜 𝓡 κ q r n d.start) (met 𝓤 𝓛 𝓜 𝓡 (code.calls-std::impls::GlobalAllocator::deallocate 𝓡.env wired))
    (given_back 𝓛 𝓜 𝓡 κ q r n d.start)
    (and_then ! (get ! refl) (and_then ! (get ! refl) (and_then ! (get ! refl) (and_then ! (lit ! tt) (no_more !))))) (λ v.
    use1 𝓛 (later (‵ (unit.own_val tt (v ∷ [])) ⊛ Token)) (taken 𝓛 𝓜 𝓡 κ q r n d.start v) $ await ! tt $ split ! $ feq_l ! (λ is_unit.
    lands_last ! refl (unit_fits v is_unit) $ exec ! 𝓣.C 𝓣.Λ (env code.Mir.locals l) (after 3 (code.function).body) (at_ret _ (End 𝓛 𝓜 𝓡 κ q r d)) $
    sets ! (of_opd ! (unit_lit !)) refl (tt, tt) $ returns ! (look_at ! 0 refl) $ free_all ! refl $ by ! (ends 𝓛 𝓜 𝓡 κ q r d)))))))
