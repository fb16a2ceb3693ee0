-- The loop of `fill_zero`: before each turn the first i bytes are zeros (*Filling*), and the turn makes the byte at i one.
use Rattle.rh_region.proofs.Common.{refl, List, [], ◌∷◌, ◌++◌, ℕ, ◌+◌, ◌≤◌, ◌<◌, ◌^◌, arith, Ura, lit<, SProp, ent, Running, tables, w64, Val, vunit, vint}
use Rattle.rh_region.proofs.Common.{vptr, Model, Env, Logic, sem, Item, Sq, runs, ‵, raw, ◌⊛◌, at_ret, ◌$◌, ◌∵◌, !, qed, by, keep, drop, use1, use2, split}
use Rattle.rh_region.proofs.Common.{suffices, done, stop, lit, of_opd, first, blocks, exec, returns, enter, alloc_all, pass_all, free_all, look_at, get}
use Rattle.rh_region.proofs.Common.{through, sets, sets_last, env, holding, usize, yes, uint_vals, uint_Tells, Ptr, RawPtr, block_ptr, rawptr_vals, plain}
use Rattle.rh_region.proofs.Common.{nothing, Clauses, Stays, stay_dropped, walk_of, Goes-dropped, proved, leaves, after, room_of, zeros_at}
use mathlib.Core.WellFounded.InvImage
use Prim.Native.Nat.{◌-◌}
use lib.Dec.{ltb→lt, nltb→le}
use lib.WfN.{lt-wf_rel}
use base.Logic.{never_e}
use contract.Running.{tables_of}
use prog.Wp.{Out, Wp, WpFn, Tables, at_return, after_seq, after_block, after_turn}
use types.Kit.{any_q}
use types.Run.{bin, unit_lit, init, assigns_last, skips, jumps, branches, loops, again, Below}
use types.ByLocal.{forget_but}
use denote.RawPtr.{null_ptr, rawptr_Tells}
use denote.Triple.Entry.{on_entry}
use Rattle.rh_region.specs.contracts.raw.fill_zero as f
use Rattle.rh_region.proofs.Filling.{Filling, Around, next_room, none_filled, next_out, next_in, all_filled}
use Rattle.rh_region.proofs.Words.{nothing_said, spent}
use Rattle.rh_region.proofs.raw.fill_zero.Statement.{statement}
use Rattle.rh_region.proofs.raw.fill_zero.Code as code

-- both parameters are used up
abbrev kept : Stays f.ended.signature.params f.ended.kept
kept = (stay_dropped _ yes, (stay_dropped _ yes, tt))

-- how many bytes are zero
abbrev Count : ℕ → Type 0
Count n = (i : ℕ) × (i ≤ n)

-- a turn leaves fewer to be zeroed
abbrev Fewer : (n : ℕ) → Count n → Count n → Type 0
Fewer n t u = n - t.0 < n - u.0

module _ {M : Type 1} {𝓤 : Ura M} (𝓛 : Logic 𝓤) (𝓜 : Model 𝓤 𝓛.H) (𝓡 : Running 𝓤 𝓛.H 𝓜) where
  abbrev clauses : Clauses 𝓤 f.ended
  clauses = f.clauses 𝓛 𝓜.mem 𝓡.returns

  abbrev 𝓣 : Tables 𝓤 𝓛.H
  𝓣 = tables_of 𝓤 𝓛.H 𝓜 (tables 𝓤 𝓛.H 𝓜 𝓡 𝓡.env)

  abbrev called : Ptr → ℕ → (walk_of 𝓛 f.ended kept clauses).Ghost
  called p n = ((tt, tt, tt, (p, (n, tt)), (rawptr_vals p, (uint_vals w64 n, tt))), tt)

  abbrev End : Ptr → ℕ → Val → SProp 𝓤
  End p n = (walk_of 𝓛 f.ended kept clauses).post (called p n)

  module _ (b o n : ℕ) where
    abbrev p : Ptr
    p = block_ptr b o

    -- the zeros are all that is owned at the end
    ends : ent 𝓤 (sem 𝓛 (zeros_at p n)) (End p n vunit)
    ends = qed 𝓛 (‵ (zeros_at p n) ∷ []) ∵ suffices ! _ (leaves 𝓛 f.ended kept clauses (called p n) vunit tt (tt, (tt, tt)) (tt, (tt, tt))) $
        nothing_said ! $ spent ! 2 $ nothing ! $ done !

    module _ (fits : n < 2 ^ 64) (l : ℕ → ℕ) where
      abbrev En : Env 𝓤 𝓛.H
      En = env (code.function).locals l

      -- [the bytes; the locals `start`, `len` and `i`]
      abbrev Before : Count n → List (Item 𝓤)
      Before t = ‵ (Filling n b o t.0) ∷ holding 𝓛 En ((1, vptr b o) ∷ (2, vint w64 n) ∷ (3, vint w64 t.0) ∷ [])

      abbrev Return : Out → SProp 𝓤
      Return = at_return 𝓤 𝓛.H En (End p n)

      abbrev Turned : Count n → Out → SProp 𝓤
      Turned t = after_turn 𝓤 𝓛.H (Below 𝓛 (Fewer n) Before t) (after_block 𝓤 𝓛.H (after_seq 𝓤 𝓛.H (Wp 𝓤 𝓛.H 𝓣.C 𝓣.Λ En code.Mir.t-3 Return) Return))

      -- [the bytes; the locals, with the outcome of the test]
      abbrev Tested : Count n → Val → List (Item 𝓤)
      Tested t v = ‵ (Filling n b o t.0) ∷ holding 𝓛 En ((1, vptr b o) ∷ (2, vint w64 n) ∷ (3, vint w64 t.0) ∷ (4, v) ∷ [])

      -- a byte is left: it is taken out of the room, zeroed, and put to the zeros
      goes_on : (t : Count n) (v : Val) → t.0 < n → Sq 𝓛 (Tested t v) (runs 𝓣.C 𝓣.Λ En (after 2 code.Mir.turn-1) (any_q (Turned t)))
      unfolding after_turn
      goes_on t v more =
          let i : ℕ = t.0 in let small : i + 1 < 2 ^ 64 = omega arith in
          first ! $ blocks ! $ sets ! (bin ! (get ! refl) (get ! refl) tt) refl (tt, tt) $
          use1 𝓛 (‵ (next_room b o i) ⊛ ‵ (Around n b o i)) (next_out 𝓛 n b o i more) $ split ! $
          assigns_last ! (of_opd ! (lit ! tt)) (through ! refl (stop !)) (init ! 0 refl (tt, record { fits = lit< tt })) $
          use2 𝓛 (‵ (Filling n b o (i + 1))) (next_in 𝓛 n b o i more) $
          exec ! 𝓣.C 𝓣.Λ En (after 3 code.Mir.turn-1) (any_q (Turned t)) $
          sets_last ! (bin ! (get ! refl) (lit ! tt) (record { fits = small })) refl (tt, record { fits = small }) $
          forget_but ! En (1 ∷ 2 ∷ 3 ∷ []) refl $ again ! (Fewer n) Before t (i + 1, omega arith) (omega arith)

      -- no byte is left: the loop is over, and `fill_zero` returns
      stops : (t : Count n) (v : Val) → n ≤ t.0 → Sq 𝓛 (Tested t v) (runs 𝓣.C 𝓣.Λ En code.Mir.t-3 (at_ret En (End p n)))
      stops t v none_left =
          use1 𝓛 (‵ (zeros_at p n)) (all_filled 𝓛 n b o t.0 (omega (arith, t.1, none_left))) $
          sets ! (of_opd ! (unit_lit !)) refl (tt, tt) $ returns ! (look_at ! 0 refl) $ free_all ! refl $ keep ! (0 ∷ []) $ by ! ends

      turns : (t : Count n) → Sq 𝓛 (Before t) (runs 𝓣.C 𝓣.Λ En code.Mir.turn-1 (any_q (Turned t)))
      unfolding after_turn
      turns t =
          sets ! (bin ! (get ! refl) (get ! refl) tt) refl (tt, tt) $ first ! $ branches ! (get ! refl)
          (λ less. skips ! $ exec ! 𝓣.C 𝓣.Λ En (after 2 code.Mir.turn-1) (any_q (Turned t)) $ by ! (goes_on t _ (ltb→lt t.0 n less)).prf)
          (λ over. jumps ! $ exec ! 𝓣.C 𝓣.Λ En code.Mir.t-3 (at_ret En (End p n)) $ by ! (stops t _ (nltb→le t.0 n over)).prf)

  -- there is no room at null, so the pointer leads into a block
  runs_from : (p : Ptr) (n : ℕ) → n < 2 ^ 64 → ent 𝓤 (sem 𝓛 (room_of p n)) (WpFn 𝓤 𝓛.H 𝓣.C 𝓣.Λ code.function (rawptr_vals p ++ uint_vals w64 n) (End p n))
  runs_from null_ptr n fits = never_e 𝓤 _
  runs_from (block_ptr b o) n fits =
      qed 𝓛 (‵ (room_of (block_ptr b o) n) ∷ []) ∵ use1 𝓛 (‵ (Filling n b o 0)) (none_filled 𝓛 n b o) $
      enter ! 𝓣.C 𝓣.Λ code.function (vptr b o ∷ vint w64 n ∷ []) _ $ alloc_all ! (λ l. pass_all ! refl ((tt, tt), ((tt, record { fits = fits }), tt)) $
      sets ! (of_opd ! (lit ! tt)) refl (tt, record { fits = lit< tt }) $ forget_but ! (En b o n fits l) (1 ∷ 2 ∷ 3 ∷ []) refl $
      first ! $ blocks ! $ loops ! 𝓣 (Fewer n) (InvImage.wf (λ (t : Count n). n - t.0) lt-wf_rel.wf) (Before b o n fits l) (turns b o n fits l)
      (0, omega arith))

pub fill_zero_spec : {M : Type 1} → statement M
unfolding tables_of
fill_zero_spec 𝓤 𝓛 𝓜 𝓡 wired =
    proved 𝓛 f.ended kept (clauses 𝓛 𝓜 𝓡) 𝓜 𝓡
    (Goes-dropped 𝓛 0 (plain (λ _. RawPtr)) yes (λ κs x w. refl), (Goes-dropped 𝓛 0 (plain (λ _. usize)) yes (λ κs x w. refl), tt))
    f.Key.name code.function (code.unfolded 𝓤 𝓛.H 𝓜 𝓡 wired)
    (λ κs. (rawptr_vals, (uint_vals w64, tt))) (λ κs. (rawptr_Tells, (uint_Tells w64, tt))) (λ κs qs bounds a n are.
    qed 𝓛 (raw (on_entry 𝓛 f.signature κs qs a (rawptr_vals a.0, (uint_vals w64 a.1.0, tt))) ∷ ‵ (room_of a.0 a.1.0) ∷ []) ∵ drop ! $
    by ! (runs_from 𝓛 𝓜 𝓡 a.0 a.1.0 are.1.0.1))
