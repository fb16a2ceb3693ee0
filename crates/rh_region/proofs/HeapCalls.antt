-- The two calls of the heap, `allocate` and `deallocate`, for n bytes. A caller lends the heap's handle by a `&` that its
-- token keeps alive, and has the token back; memory and the right to free it go to and fro together.
use Rattle.rh_region.proofs.Common.{◌≡◌, ap, ◌∙◌, List, [], ◌∷◌, ◌++◌, ℕ, ◌<◌, ◌^◌, arith, Ura, T, lit<, Lft, Share, Fml, ftrue, fsep, flft, SProp, ent, sep}
use Rattle.rh_region.proofs.Common.{guard, emp, id⊢, fact, Running, w64, named, Val, vcons, vnil, has_ty, WT, Model, Logic, sem, Item, ⋆, mean, ‵, raw, ◌⊛◌}
use Rattle.rh_region.proofs.Common.{some, given, later, ◌$◌, ◌∵◌, !, qed, by, move, keep, use0, use1, split, join, pick, fjoin, await, check, done, u8, unit}
use Rattle.rh_region.proofs.Common.{uint_vals, Ptr, block_ptr, rawptr_vals, in_a_block, Bor, shr_vals, nothing, Global, room_of}
use mathlib.Core.Bool.{true, false}
use Prim.Native.Nat.{◌*◌}
use base.Logic.{ex, never, fst∗}
use contract.Monad.{fact_i}
use mir.Val.{of_list}
use prog.Capped.{capped_is}
use types.Match.{live}
use types.Kit.{updating, show, now as at_once}
use denote.Laws.{Is, shows}
use denote.Param.{layout}
use denote.RawPtr.{null_ptr, ptr_val}
use denote.Ref.{ShrRef}
use denote.Steps.{only, facts}
use denote.Triple.Clauses.{lasts}
use denote.Triple.Spec.{triple_of}
use denote.Triple.Statement.{Contract}
use Rattle.core.specs.Allocator.{HasLayout, array_of, block_if_ok}
use Rattle.core.specs.declared.alloc.AllocError.{AllocError}
use Rattle.core.specs.declared.result.Result.TheVariants.{Ok, Err}
use Rattle.core.proofs.alloc.Calls.{Answer, Answer-typed, answer_val}
use Rattle.std.specs.contracts.alloc.Global as heap
use Rattle.std.specs.contracts.impls.GlobalAllocator.TheImpl.{ghosts}
use Rattle.std.specs.contracts.impls.GlobalAllocator.allocate as asking
use Rattle.std.specs.contracts.impls.GlobalAllocator.deallocate as giving
use Rattle.rh_region.proofs.Words.{number, address}

-- n bytes, aligned to 1, are what the heap is asked for
layout_is : (n : ℕ) → n < 2 ^ 63 → HasLayout (array_of u8 n) n 1
layout_is n small = let all : n * 1 ≡ n = omega arith in (capped_is (n * 1) (omega arith) ∙ all, capped_is 1 (lit< tt))

-- the right to give n bytes at p back to a heap
abbrev pub right : Global → ℕ → Ptr → Fml
right h n p = ghosts.dealloc_token h (array_of u8 n) p

-- what comes of asking the heap: a place, or a refusal
pub data Outcome : Type 0 where
  granted : ℕ → ℕ → Outcome
  refused : Outcome

-- how the machine spells it
abbrev pub spelled : Outcome → Val
spelled (granted b o) = answer_val true b o
spelled refused = answer_val false 0 0

-- it can be stored where an answer is wanted
pub spelled_fits : (h : Outcome) → T (has_ty (layout Answer) (spelled h)) × WT (spelled h)
spelled_fits (granted b o) = Answer-typed true b o
spelled_fits refused = Answer-typed false 0 0

-- the memory that comes with it
abbrev pub handed : Global → ℕ → Outcome → Fml
handed h n (granted b o) = fsep (room_of (block_ptr b o) n) (right h n (block_ptr b o))
handed h n refused = ftrue

spells_granted : (p : Ptr) (v : Val) (b o : ℕ) → p ≡ block_ptr b o → Is Answer (Ok p) (v ∷ []) → v ≡ spelled (granted b o)
spells_granted p v b o at is =
    ap only is.1.0 ∙ ap (λ (us : List Val). live 0 (of_list us)) (is.1.1.1.0 ∙ ap (λ (us : List Val). us ++ []) is.1.1.1.1.0)
    ∙ ap (λ (z : Ptr). live 0 (vcons (ptr_val z) vnil)) at

spells_refused : (e : AllocError) (v : Val) → Is Answer (Err e) (v ∷ []) → v ≡ spelled refused
spells_refused e v is = ap only is.1.0 ∙ ap (λ (us : List Val). live 1 (of_list us)) (is.1.1.1.0 ∙ ap (λ (us : List Val). us ++ []) is.1.1.1.1.0.1.0)

module _ {M : Type 1} {𝓤 : Ura M} (𝓛 : Logic 𝓤) (𝓜 : Model 𝓤 𝓛.H) (𝓡 : Running 𝓤 𝓛.H 𝓜) (κ : Lft) (q : Share) (r : Bor Global) (n : ℕ) where
  -- the token of the lifetime of the `&`, and the `&`
  abbrev pub Token : Item 𝓤
  Token = ‵ (flft κ q) ⊛ ‵ ftrue

  abbrev pub Handle : Item 𝓤
  Handle = ‵ ((ShrRef (named 0) κ heap.the_row).own_val r (shr_vals r))

  abbrev pub Asking : Contract 𝓤
  Asking = triple_of 𝓛 asking.signature (asking.spec 𝓛 𝓜.mem 𝓡.returns)

  abbrev pub asked : Asking.Ghost
  asked = (((κ, tt), (q, tt), tt, (r, (n, (1, tt))), (shr_vals r, (uint_vals w64 n, (uint_vals w64 1, tt)))), array_of u8 n)

  pub ask : n < 2 ^ 63 → ent 𝓤 (⋆ 𝓛 (Handle ∷ Token ∷ [])) (Asking.pre asked)
  ask small =
      qed 𝓛 (Handle ∷ Token ∷ []) ∵ use0 𝓛 (raw (fact 𝓤 (HasLayout (array_of u8 n) n 1))) (fact_i 𝓤 _ (emp 𝓤) (layout_is n small)) $
      nothing ! $ number ! 1 (lit< tt) $ fjoin ! $ number ! n (omega arith) $ fjoin ! $ move ! (2 ∷ 0 ∷ []) $ fjoin ! $ move ! (2 ∷ 0 ∷ []) $ join ! $
      join ! $ done !

  abbrev Comes : Val → Outcome → SProp 𝓤
  Comes v h = guard 𝓤 (v ≡ spelled h) (sep 𝓤 (sem 𝓛 (handed r.now n h)) (mean 𝓛 Token))

  comes : (a : Answer.Denot) (v : Val)
      → ent 𝓤 (⋆ 𝓛 (‵ (Answer.own_val a (v ∷ [])) ∷ ‵ (block_if_ok (ghosts.dealloc_token r.now) (array_of u8 n) a) ∷ Token ∷ [])) (ex 𝓤 (Comes v))
  comes (Ok p) v =
      qed 𝓛 (‵ (Answer.own_val (Ok p) (v ∷ [])) ∷ ‵ (fsep (room_of p n) (right r.now n p)) ∷ Token ∷ []) ∵
      facts ! Answer (Is Answer) (shows 𝓛 Answer) (Ok p) (v ∷ []) (λ is.
      in_a_block ! p (λ z. fsep (room_of z n) (right r.now n z)) (fst∗ 𝓤 (never 𝓤) (sem 𝓛 (right r.now n null_ptr))) (λ b o at.
      show ! (Comes v) (granted b o) $ check ! (spells_granted p v b o at is) $ done !))
  comes (Err e) v =
      qed 𝓛 (‵ (Answer.own_val (Err e) (v ∷ [])) ∷ ‵ ftrue ∷ Token ∷ []) ∵ facts ! Answer (Is Answer) (shows 𝓛 Answer) (Err e) (v ∷ []) (λ is.
      show ! (Comes v) refused $ check ! (spells_refused e v is) $ done !)

  pub answer : (v : Val) → ent 𝓤 (Asking.post asked v) (mean 𝓛 (later (some (λ (h : Outcome). given (v ≡ spelled h) (‵ (handed r.now n h) ⊛ Token)))))
  answer v =
      qed 𝓛 (raw (Asking.post asked v) ∷ []) ∵ updating ! $
      use1 𝓛 (later (some (λ (a : Answer.Denot). (Token ⊛ ‵ (Answer.own_val a (v ∷ []))) ⊛
      some (λ (ws : Unit {0} × (Unit {0} × (Unit {0} × Unit {0}))). ‵ (lasts asking.ended (κ, tt) asked.0.3 ws) ⊛ ‵
      (block_if_ok (ghosts.dealloc_token r.now) (array_of u8 n) a))))) (id⊢ 𝓤 _) $
      await ! tt $ at_once ! $ pick ! (λ a. split ! $ split ! $ move ! (2 ∷ []) $ pick ! (λ ws. split ! $ keep ! (3 ∷ 1 ∷ 2 ∷ []) $ by ! (comes a v)))

  module _ (p : Ptr) where
    abbrev pub Giving : Contract 𝓤
    Giving = triple_of 𝓛 giving.signature (giving.spec 𝓛 𝓜.mem 𝓡.returns)

    abbrev pub given_back : Giving.Ghost
    given_back = (((κ, tt), (q, tt), tt, (r, (p, (n, (1, tt)))), (shr_vals r, (rawptr_vals p, (uint_vals w64 n, (uint_vals w64 1, tt))))), array_of u8 n)

    pub give : n < 2 ^ 63 → ent 𝓤 (⋆ 𝓛 (‵ (room_of p n) ∷ ‵ (right r.now n p) ∷ Handle ∷ Token ∷ [])) (Giving.pre given_back)
    give small =
        qed 𝓛 (‵ (room_of p n) ∷ ‵ (right r.now n p) ∷ Handle ∷ Token ∷ []) ∵ fjoin ! $
        use0 𝓛 (raw (fact 𝓤 (HasLayout (array_of u8 n) n 1))) (fact_i 𝓤 _ (emp 𝓤) (layout_is n small)) $ join ! $
        nothing ! $ number ! 1 (lit< tt) $ fjoin ! $ number ! n (omega arith) $ fjoin ! $ address ! p $ fjoin ! $ move ! (2 ∷ 0 ∷ []) $ fjoin ! $
        move ! (2 ∷ 0 ∷ []) $ join ! $ join ! $ done !

    pub taken : (v : Val) → ent 𝓤 (Giving.post given_back v) (mean 𝓛 (later (‵ (unit.own_val tt (v ∷ [])) ⊛ Token)))
    taken v =
        qed 𝓛 (raw (Giving.post given_back v) ∷ []) ∵ updating ! $
        use1 𝓛 (later (some (λ (u : Unit {0}). (Token ⊛ ‵ (unit.own_val u (v ∷ []))) ⊛
        some (λ (ws : Unit {0} × (Unit {0} × (Unit {0} × (Unit {0} × Unit {0})))). ‵ (lasts giving.ended (κ, tt) given_back.0.3 ws) ⊛ ‵ ftrue)))) (id⊢ 𝓤 _) $
        await ! tt $ at_once ! $ pick ! (λ u. split ! $ split ! $ keep ! (1 ∷ 0 ∷ []) $ done !)
