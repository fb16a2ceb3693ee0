-- `allocate` asks the heap once. A granted place is room with the right to free it: the room is zeroed, and zeros and right
-- make the block. Where the heap refuses, nothing is owned, and nothing is answered but the error.
use Rattle.rh_region.proofs.Common.{◌≡◌, refl, [], ◌∷◌, ℕ, ◌<◌, ◌^◌, Ura, T, lit<, length, Lft, Share, ftrue, SProp, ent, emp, id⊢, fact, Running}
use Rattle.rh_region.proofs.Common.{MachineTables, tables, w64, named, Val, vint, vptr, vcons, vnil, has_ty, WT, Model, Env, Logic, sem, Item, Sq, ⋆, mean}
use Rattle.rh_region.proofs.Common.{runs, ‵, raw, ◌⊛◌, some, given, later, await, pick, learn, at_ret, ◌$◌, ◌∵◌, !, qed, by, move, keep, drop, use0, use1}
use Rattle.rh_region.proofs.Common.{use2, split, join, fsplit, fjoin, feq_l, flt_i, suffices, frame, done, whole, agg, stop, fld, lit, of_opd, and_then}
use Rattle.rh_region.proofs.Common.{no_more, first, blocks, exec, returns, enter, alloc_all, pass_all, free_all, look_at, get, sets, sets_last, env, holding}
use Rattle.rh_region.proofs.Common.{usize, unit, RefOf, yes, uint_vals, uint_Tells, Ptr, block_ptr, rawptr_vals, Bor, shr_vals, shr_Tells, plain, heard}
use Rattle.rh_region.proofs.Common.{nothing, Clauses, Stays, stay_dropped, walk_of, Goes-dropped, proved, leaves, Global, room_of, zeros_at, zeros, Block}
use mir.Syntax.{Body}
use mir.Val.{vstruct}
use prog.Wired.{Wired}
use prog.Wp.{Wp, at_return, after_seq}
use types.Kit.{any_q, split3, updating, Post as After, now as at_once}
use types.Match.{live, vrt, in_variant}
use types.Run.{switches_on}
use types.ByLocal.{get_in, get_tag, lands_as, lands_last, forget_but}
use denote.Laws.{Is}
use denote.Param.{layout}
use denote.RattleType.{RattleType}
use denote.Steps.{owned}
use denote.Struct.Declared as Declared
use denote.Struct.Struct.{Struct, Struct-Makes}
use denote.Triple.Call.{calls_at, calls_at_last}
use denote.Triple.Clauses.{lasts}
use denote.Triple.Spec.{triple_of}
use denote.Triple.Statement.{Contract}
use denote.Triple.Table.{framed}
use denote.Triple.Walked.{says}
use Rattle.core.specs.contracts.alloc.AllocError as AE
use Rattle.core.specs.contracts.result.Result as RS
use Rattle.core.proofs.alloc.Shapes.{after, head, arm_body}
use Rattle.std.proofs.impls.GlobalAllocator.allocate.Met as asked_heap
use Rattle.std.specs.Prelude.{IfOk, Ok, Err}
use Rattle.std.specs.contracts.alloc.Global as heap
use Rattle.std_alloc.proofs.RcSteps.{Good, first_Good}
use Rattle.std_alloc.proofs.ResultValues.{ok_of, err_of}
use Rattle.rh_region.specs.contracts.raw.allocate as f
use Rattle.rh_region.specs.contracts.raw.fill_zero as zeroing
use Rattle.rh_region.proofs.BlockFields.{R, spelled_by, fields_made}
use Rattle.rh_region.proofs.HeapCalls.{Token, Handle, Outcome, granted, refused, spelled, spelled_fits, handed, right, Asking, asked, ask, answer}
use Rattle.rh_region.proofs.Words.{number, address, spent, unit_fits}
use Rattle.rh_region.proofs.Zeros.{length-zeros}
use Rattle.rh_region.proofs.raw.fill_zero.Met as zeroed_bytes
use Rattle.rh_region.proofs.raw.allocate.Statement.{statement}
use Rattle.rh_region.proofs.raw.allocate.Symbol as Symbol
use Rattle.rh_region.proofs.raw.allocate.Code as code

-- nothing is left of the `&` and of the length
abbrev kept : Stays f.ended.signature.params f.ended.kept
kept = (stay_dropped (RefOf (0 ∷ []) tt (plain (λ _. heap.the_row)) (λ _. tt)) yes, (stay_dropped (plain (λ _. usize)) yes, tt))

-- the row of the answer, and the machine values of its two cases
abbrev Out : RattleType
Out = RS.the_row R AE.the_row

abbrev Refusal : RattleType
Refusal = Struct (Declared.shape AE.the_type)

abbrev ok_val : Ptr → ℕ → Val
ok_val p n = live 0 (vcons (spelled_by p n) vnil)

abbrev err_val : Val
err_val = live 1 (vcons (vstruct vnil) vnil)

spelled_by_fits : (b o n : ℕ) → n < 2 ^ 64 → Good (layout R) (spelled_by (block_ptr b o) n)
spelled_by_fits b o n fits = (tt, (tt, (record { fits = fits }, tt)))

-- n zero bytes of a heap, at p
abbrev block_at : Ptr → ℕ → Global → Block
block_at p n h = record { start = p; len = n; bytes = zeros n; alloc = h }

-- the arms of the `match`
abbrev arms : Body
arms = head (after 1 (code.function).body)

module _ {M : Type 1} {𝓤 : Ura M} (𝓛 : Logic 𝓤) where
  -- zeros, the right to free them and what the fields say are a block
  made : (b o n : ℕ) (h : Global) → n < 2 ^ 63 → n < 2 ^ 64
      → ent 𝓤 (⋆ 𝓛 (‵ (zeros_at (block_ptr b o) n) ∷ ‵ (right h n (block_ptr b o)) ∷ []))
      (sem 𝓛 (Out.own_val (Ok (block_at (block_ptr b o) n h)) (ok_val (block_ptr b o) n ∷ [])))
  made b o n h small fits =
      let p = block_ptr b o in
      qed 𝓛 (‵ (zeros_at p n) ∷ ‵ (right h n p) ∷ []) ∵ fjoin ! $ flt_i ! n (2 ^ 63) small $ fjoin ! $ fields_made ! p n fits $ fjoin ! $
      use1 𝓛 (‵ (Out.own_val (Ok (block_at p n h)) (ok_val p n ∷ []))) (ok_of 𝓛 R AE.the_row (block_at p n h) (spelled_by p n)) $ done !

  -- an error owns nothing
  error_made : ent 𝓤 (emp 𝓤) (sem 𝓛 (Out.own_val (Err (record {})) (err_val ∷ [])))
  error_made =
      qed 𝓛 [] ∵ owned ! Refusal (Is Refusal) (Struct-Makes 𝓛 (Declared.shape AE.the_type) tt) tt (vstruct vnil ∷ []) (tt, (refl, tt)) $
      use1 𝓛 (‵ (Out.own_val (Err (record {})) (err_val ∷ []))) (err_of 𝓛 R AE.the_row (record {}) (vstruct vnil)) $ done !

  module _ (𝓜 : Model 𝓤 𝓛.H) (𝓡 : Running 𝓤 𝓛.H 𝓜) where
    abbrev clauses : Clauses 𝓤 f.ended
    clauses = f.clauses 𝓛 𝓜.mem 𝓡.returns

    -- the call of `fill_zero` takes the room, and gives it back as zeros
    module _ (p : Ptr) (n : ℕ) where
      abbrev Zeroing : Contract 𝓤
      Zeroing = triple_of 𝓛 zeroing.signature (zeroing.spec 𝓛 𝓜.mem 𝓡.returns)

      abbrev to_zero : Zeroing.Ghost
      to_zero = ((tt, tt, tt, (p, (n, tt)), (rawptr_vals p, (uint_vals w64 n, tt))), tt)

      zero : n < 2 ^ 64 → ent 𝓤 (sem 𝓛 (room_of p n)) (Zeroing.pre to_zero)
      zero fits = qed 𝓛 (‵ (room_of p n) ∷ []) ∵ nothing ! $ number ! n fits $ fjoin ! $ address ! p $ fjoin ! $ nothing ! $ join ! $ join ! $ done !

      zeroed : (u : Val) → ent 𝓤 (Zeroing.post to_zero u) (mean 𝓛 (later (‵ (unit.own_val tt (u ∷ [])) ⊛ ‵ (zeros_at p n))))
      zeroed u =
          qed 𝓛 (raw (Zeroing.post to_zero u) ∷ []) ∵ updating ! $
          use1 𝓛 (later (some (λ (r : Unit {0}). (‵ ftrue ⊛ ‵ (unit.own_val r (u ∷ []))) ⊛ some
          (λ (ws : Unit {0} × (Unit {0} × Unit {0})). ‵ (lasts zeroing.ended tt to_zero.0.3 ws) ⊛ ‵ (zeros_at p n))))) (id⊢ 𝓤 _) $
          await ! tt $ at_once ! $ pick ! (λ r. split ! $ split ! $ drop ! $ move ! (1 ∷ []) $ pick ! (λ ws. split ! $ drop ! $ move ! (1 ∷ 0 ∷ []) $ done !))

    module _ (κ : Lft) (q : Share) (r : Bor Global) (n : ℕ) where
      abbrev called : (walk_of 𝓛 f.ended kept clauses).Ghost
      called = (((κ, tt), (q, tt), tt, (r, (n, tt)), (shr_vals r, (uint_vals w64 n, tt))), tt)

      abbrev End : Val → SProp 𝓤
      End = (walk_of 𝓛 f.ended kept clauses).post called

      abbrev Alive : Item 𝓤
      Alive = Token 𝓛 𝓜 𝓡 κ q r n

      ends : (a : Out.Denot) (v : Val) → IfOk a (λ b. (b.len ≡ n) × (b.bytes ≡ zeros n) × (length b.bytes ≡ n) × (b.alloc ≡ r.now))
          → ent 𝓤 (⋆ 𝓛 (‵ (Out.own_val a (v ∷ [])) ∷ Alive ∷ [])) (End v)
      ends a v good = qed 𝓛 (‵ (Out.own_val a (v ∷ [])) ∷ Alive ∷ []) ∵ suffices ! _ (leaves 𝓛 f.ended kept clauses called v a (tt, (tt, tt)) (tt, (tt, tt))) $
          move ! (1 ∷ []) $ frame ! $ spent ! 2 $ frame ! $ says ! good $ done !

      module _ (small : n < 2 ^ 63) (fits : n < 2 ^ 64) (wired : Wired 𝓡.env Symbol.code) (l : ℕ → ℕ) where
        abbrev 𝓣 : MachineTables 𝓤 𝓛.H 𝓜
        𝓣 = tables 𝓤 𝓛.H 𝓜 𝓡 𝓡.env

        abbrev En : Env 𝓤 𝓛.H
        En = env code.Mir.locals l

        abbrev Then : After 𝓤 𝓛.H
        Then = any_q (after_seq 𝓤 𝓛.H (Wp 𝓤 𝓛.H 𝓣.C 𝓣.Λ En (after 2 (code.function).body) (at_return 𝓤 𝓛.H En End)) (at_return 𝓤 𝓛.H En End))

        -- either arm has left its answer in a local, and the function returns that
        returned : (a : Out.Denot) (v : Val) → T (has_ty (layout Out) v) × WT v
            → IfOk a (λ b. (b.len ≡ n) × (b.bytes ≡ zeros n) × (length b.bytes ≡ n) × (b.alloc ≡ r.now))
            → Sq 𝓛 (‵ (Out.own_val a (v ∷ [])) ∷ Alive ∷ holding 𝓛 En ((6, v) ∷ [])) (runs 𝓣.C 𝓣.Λ En (after 2 (code.function).body) (at_ret En End))
        returned a v typed good = sets ! (of_opd ! (get ! refl)) refl typed $ returns ! (look_at ! 0 refl) $ free_all ! refl $ by ! (ends a v good)

        answered : (h : Outcome)
            → Sq 𝓛 (‵ (handed r.now n h) ∷ Alive ∷ holding 𝓛 En ((1, vptr r.ref_ptr.0 r.ref_ptr.1) ∷ (2, vint w64 n) ∷ (5, spelled h) ∷ []))
            (runs 𝓣.C 𝓣.Λ En (after 1 (code.function).body) (at_ret En End))
        answered (granted b o) =
            let p = block_ptr b o in let typed = spelled_by_fits b o n fits in let ok = first_Good (layout R) (spelled_by p n) typed in
            first ! $ switches_on ! (get_tag ! (vrt ! refl (fld ! refl (stop !))) (whole !)) $ exec ! 𝓣.C 𝓣.Λ En (arm_body 0 arms) Then $
            sets ! (of_opd ! (get_in ! (vrt ! refl (fld ! refl (stop !))) (in_variant ! 0 0 refl refl (whole !)))) refl (tt, tt) $
            fsplit ! $ use1 𝓛 (raw ((Zeroing p n).pre (to_zero p n))) (zero p n fits) $ first ! $ blocks ! $
            -- [what `fill_zero` is handed; the right to free it; the token]
            calls_at_last ! (framed 𝓤 𝓛.H 𝓜 𝓣) (Zeroing p n) (zeroed_bytes.met 𝓤 𝓛 𝓜 𝓡 (code.calls-rh_region::raw::fill_zero 𝓡.env wired)) (to_zero p n)
            (and_then ! (get ! refl) (and_then ! (get ! refl) (no_more !))) (λ u.
            use1 𝓛 (later (‵ (unit.own_val tt (u ∷ [])) ⊛ ‵ (zeros_at p n))) (zeroed p n u) $ await ! tt $ split ! $ feq_l ! (λ is_unit.
            lands_last ! refl (unit_fits u is_unit) $ exec ! 𝓣.C 𝓣.Λ En (after 2 (arm_body 0 arms)) Then $
            -- [the zeros; the right to free them; the token]
            sets ! (agg ! (and_then ! (get ! refl) (and_then ! (get ! refl) (no_more !)))) refl typed $
            sets_last ! (agg ! (and_then ! (lit ! tt) (and_then ! (get ! refl) (no_more !)))) refl ok $
            use2 𝓛 (‵ (Out.own_val (Ok (block_at p n r.now)) (ok_val p n ∷ []))) (made b o n r.now small fits) $
            exec ! 𝓣.C 𝓣.Λ En (after 2 (code.function).body) (at_ret En End) $ forget_but ! En (6 ∷ []) refl $
            by ! (returned (Ok (block_at p n r.now)) (ok_val p n) ok (refl, refl, length-zeros n, refl)).prf))
        answered refused =
            first ! $ switches_on ! (get_tag ! (vrt ! refl (fld ! refl (stop !))) (whole !)) $ exec ! 𝓣.C 𝓣.Λ En (arm_body 1 arms) Then $
            sets ! (of_opd ! (get_in ! (vrt ! refl (fld ! refl (stop !))) (in_variant ! 1 0 refl refl (whole !)))) refl (tt, tt) $
            sets_last ! (agg ! (and_then ! (lit ! tt) (and_then ! (get ! refl) (no_more !)))) refl (tt, (record { fits = lit< tt }, (tt, tt))) $
            drop ! $ use0 𝓛 (‵ (Out.own_val (Err (record {})) (err_val ∷ []))) error_made $
            exec ! 𝓣.C 𝓣.Λ En (after 2 (code.function).body) (at_ret En End) $ forget_but ! En (6 ∷ []) refl $
            by ! (returned (Err (record {})) err_val (tt, (record { fits = lit< tt }, (tt, tt))) tt).prf

pub allocate_spec : {M : Type 1} → statement M
allocate_spec 𝓤 𝓛 𝓜 𝓡 wired =
    let 𝓣 = tables 𝓤 𝓛.H 𝓜 𝓡 𝓡.env in
    proved 𝓛 f.ended kept (clauses 𝓛 𝓜 𝓡) 𝓜 𝓡 (
      Goes-dropped 𝓛 1 (RefOf (0 ∷ []) tt (plain (λ _. heap.the_row)) (λ _. tt)) yes (λ κs x w. refl),
      (Goes-dropped 𝓛 1 (plain (λ _. usize)) yes (λ κs x w. refl), tt),
    )
    f.Key.name code.function (code.unfolded 𝓤 𝓛.H 𝓜 𝓡 wired)
    (λ κs. (shr_vals, (uint_vals w64, tt))) (λ κs. (shr_Tells (named 0) κs.0 heap.the_row, (uint_Tells w64, tt))) (λ κs qs bounds a _ are.
    let κ = κs.0 in let q = qs.0 in let r = a.0 in let n = a.1.0 in let fits = are.1.0.1 in
    let Alive = Token 𝓛 𝓜 𝓡 κ q r n in let Lent = Handle 𝓛 𝓜 𝓡 κ q r n in
    qed 𝓛 ((Alive ⊛ Lent ⊛ ‵ (usize.own_val n (uint_vals w64 n)) ⊛ ‵ ftrue) ∷ raw (fact 𝓤 (n < 2 ^ 63)) ∷ []) ∵
    split ! $ move ! (1 ∷ []) $ split3 ! $ keep ! (4 ∷ 0 ∷ 3 ∷ []) $ heard ! _ (λ small.
    -- [the `&` to the heap; its token]
    use2 𝓛 (raw ((Asking 𝓛 𝓜 𝓡 κ q r n).pre (asked 𝓛 𝓜 𝓡 κ q r n))) (ask 𝓛 𝓜 𝓡 κ q r n small) $
    enter ! _ _ _ _ _ $ alloc_all ! (λ l. pass_all ! refl ((tt, tt), ((tt, record { fits = fits }), tt)) $
    calls_at ! (framed 𝓤 𝓛.H 𝓜 𝓣) (Asking 𝓛 𝓜 𝓡 κ q r n) (asked_heap.met 𝓤 𝓛 𝓜 𝓡 (code.calls-std::impls::GlobalAllocator::allocate 𝓡.env wired))
    (asked 𝓛 𝓜 𝓡 κ q r n)
    (and_then ! (get ! refl) (and_then ! (get ! refl) (and_then ! (lit ! tt) (no_more !)))) (λ v.
    use1 𝓛 (later (some (λ (h : Outcome). given (v ≡ spelled h) (‵ (handed r.now n h) ⊛ Alive)))) (answer 𝓛 𝓜 𝓡 κ q r n v) $ await ! tt $
    pick ! (λ h. learn ! (λ is. split ! $
    lands_as ! is refl (spelled_fits h) $ by ! (answered 𝓛 𝓜 𝓡 κ q r n small fits wired l h).prf))))))
