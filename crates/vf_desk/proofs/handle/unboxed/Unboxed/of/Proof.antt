-- `of` has the box's address and its heap's handle from std, with what the box owned, and puts the two side by side.
use Rattle.vf_desk.proofs.Common.{◌≡◌, refl, sym, ap, ◌∙◌, subst, List, [], ◌∷◌, ◌++◌, bare, dnil, Val, vptr, ftrue, fsep, SProp, ent, emp, never, id⊢, fst∗}
use Rattle.vf_desk.proofs.Common.{fact, fact_i, tables, WpFn, sem, ‵, raw, ◌⊛◌, ◌$◌, ◌∵◌, !, qed, by, move, keep, use0, split, fsplit, fjoin, rewrite}
use Rattle.vf_desk.proofs.Common.{suffices, agg, sub, whole, stop, fld, of_opd, no_more, and_then, returns, enter, alloc_all, pass_all, free_all, look_at}
use Rattle.vf_desk.proofs.Common.{get, get_in, sets, layout, RattleType, Ptr, block_ptr, null_ptr, ptr_val, in_a_block, plain, nothing, Stays, stay_dropped}
use Rattle.vf_desk.proofs.Common.{walk_of, Goes-blank, handle_tells, box_owns, proved_at, leaves}
use mir.MapTy.{inst_fn}
use mir.Syntax.{a_type, dcons}
use mir.Val.{vstruct, of_list}
use base.Fml.{flft}
use types.Kit.{some, later, drop, use1, split3, join, pick, fpick, feq_l, await}
use types.ByLocal.{lands_as}
use denote.Builtin.{RawPtr}
use denote.Exit.{no}
use denote.Param.{param, bounded}
use denote.Param.Laws.{param_laws}
use denote.RattleType.{owns}
use denote.Signature.{types_at}
use denote.Steps.{only, heard}
use denote.Struct.Tuple.{Tuple}
use denote.Triple.Call.{calls_at}
use denote.Triple.Spec.{triple_of}
use Rattle.core.proofs.atomic.Steps.{fm}
use Rattle.std_alloc.proofs.BoxSteps.Form as box
use Rattle.std_alloc.proofs.BoxSteps.Steps.{box_out, box_in}
use Rattle.std_alloc.specs.contracts.boxed.Box.into_raw_with_allocator as taking
use Rattle.std_alloc.proofs.boxed.Box.into_raw_with_allocator.Met.{met}
use Rattle.vf_desk.proofs.Pairs.{pair, apart_good, apart_in}
use Rattle.vf_desk.specs.contracts.handle.unboxed.Unboxed.of as f
use Rattle.vf_desk.proofs.handle.unboxed.Unboxed.of.Statement.{statement}
use Rattle.vf_desk.proofs.handle.unboxed.Unboxed.of.Code as code

pub of_spec : {M : Type 1} → statement M
of_spec 𝓤 𝓛 𝓜 𝓡 wired T A L LA g d dx dd allocator glue glued =
    let 𝓣 = tables 𝓤 𝓛.H 𝓜 𝓡 𝓡.env in
    let R : RattleType = param 0 T in
    let Z : RattleType = param 1 A in
    let LZ = param_laws 1 A LA in
    let E : box.Bx = record { row = T; laws = L; al = record { row = A; laws = LA; g = g; d = d; drops = dd } } in
    let ended = f.ended T A g d dx dd in
    let clauses = f.clauses T A g d dx dd 𝓛 𝓜.mem 𝓡.returns in
    let given = bounded (a_type ∷ a_type ∷ []) (T, (A, tt)) (dcons d (dcons dx (dcons dd dnil))) in
    let fn = inst_fn given code.function in
    let kept : Stays ended.signature.params ended.kept = (stay_dropped (plain (λ _. box.B E)) no, tt) in
    proved_at 𝓛 ended kept clauses 𝓜 𝓡 (Goes-blank 𝓛 2 (plain (λ _. box.B E)) no (λ κs x w. tt), tt) (f.Key.name given) fn
    (code.unfolded 𝓤 𝓛.H 𝓜 𝓡 wired (T, (A, tt)) d dx dd) (λ y are.
    let κs = y.0.0 in
    let qs = y.0.1 in
    let v = y.0.3.0 in
    let a = v.alloc in
    let End : Val → SProp 𝓤 = (walk_of 𝓛 ended kept clauses).post y in
    let Runs : List Val → SProp 𝓤 = λ ws. WpFn 𝓤 𝓛.H 𝓣.C 𝓣.Λ fn ws End in
    let Tokens = ‵ (flft κs.0 qs.0) ⊛ ‵ (flft κs.1.0 qs.1.0) ⊛ ‵ ftrue in
    let Taking = triple_of 𝓛 (taking.signature T A g d dd dx) (taking.spec T A g d dd dx 𝓛 𝓜.mem 𝓡.returns) in
    let Taken = Tuple (RawPtr ∷ Z ∷ []) in
    qed 𝓛 ((Tokens ⊛ ‵ (owns (types_at ended.signature.params κs) y.0.3 y.0.4)) ∷ raw ((clauses κs y.0.3).requires y.1) ∷ []) ∵
    split ! $ move ! (1 ∷ []) $ fsplit ! $ box_out E ! v y.0.4.0 (λ b o h there words fits. box_in E ! v b o v.value there refl $
    let boxed : Val = box.word E h b o in
    let typed = apart_good R Z LZ g b o h fits in
    let z : Taking.Ghost = ((κs, qs, tt, (v, tt), (boxed ∷ [], tt)), tt) in
    -- [what std is handed: the tokens and the box; what is required]
    fjoin ! $ move ! (1 ∷ 0 ∷ []) $ join ! $ join ! $ use1 𝓛 (raw (Taking.pre z)) (id⊢ 𝓤 _) $
    suffices ! (Runs (boxed ∷ [])) (subst (λ (us : List Val). ent 𝓤 (Runs (boxed ∷ [])) (Runs us)) (sym (λ i. words i ++ [])) (id⊢ 𝓤 (Runs (boxed ∷ [])))) $
    enter ! 𝓣.C 𝓣.Λ fn (boxed ∷ []) End $ alloc_all ! (λ l. pass_all ! refl (typed, tt) $
    sets ! (of_opd ! (get ! refl)) refl typed $
    calls_at ! (fm 𝓛 𝓜 𝓡) Taking (met 𝓤 𝓛 𝓜 𝓡 (code.calls-std_alloc::boxed::Box::into_raw_with_allocator 𝓡.env wired) T A L LA g d dd dx allocator glued
    glue) z (and_then ! (get ! refl) (no_more !)) (λ u.
    use1 𝓛 (later (some (λ (r : Ptr × A.Denot). (Tokens ⊛ ‵ (Taken.own_val r (u ∷ []))) ⊛
    some (λ (_ : (Unit {0} × (Unit {0} × Unit {0})) × Unit {0}). ‵ (fsep (fsep ftrue (fsep ftrue ftrue)) ftrue) ⊛ (raw (fact 𝓤 (r.1 ≡ a)) ⊛ ‵
    (box_owns (g.dealloc_token a) R r.0 v.value)))))) (id⊢ 𝓤 _) $
    await ! tt $ pick ! (λ r. split ! $ move ! (1 ∷ []) $ pick ! (λ _. split3 ! $ drop ! $ heard ! (r.1 ≡ a) (λ same_heap.
    in_a_block ! r.0 (λ p. box_owns (g.dealloc_token a) R p v.value) (fst∗ 𝓤 (never 𝓤) (sem 𝓛 (g.dealloc_token a (bare (layout T)) null_ptr))) (λ b' o' at.
    -- the tuple's two machine values
    move ! (1 ∷ []) $ split ! $ move ! (1 ∷ []) $ fpick ! (λ parts. fsplit ! $ feq_l ! (λ all. fsplit ! $ feq_l ! (λ first. fsplit ! $
    rewrite ! 0 (λ (s : A.Denot). ‵ (A.own_val s parts.1.0)) same_heap refl $ handle_tells E.al ! a parts.1.0 (λ h' second fits'.
    let made = apart_good R Z LZ g b' o' h' fits' in
    lands_as ! (ap only (all ∙ (λ j. vstruct (of_list ((first ∙ ap (λ (p : Ptr). ptr_val p ∷ []) at) j ++ (second j ++ []))) ∷ []))) refl made $
    sets ! (of_opd ! (get_in ! (fld ! refl (stop !)) (sub ! 0 refl (whole !)))) refl (tt, tt) $
    sets ! (of_opd ! (get_in ! (fld ! refl (stop !)) (sub ! 1 refl (whole !)))) refl fits' $
    sets ! (of_opd ! (get ! refl)) refl fits' $
    sets ! (agg ! (and_then ! (get ! refl) (and_then ! (get ! refl) (no_more !)))) refl made $
    move ! (3 ∷ 0 ∷ []) $ apart_in R Z LZ g ! b' o' h' a v.value $
    use0 𝓛 (raw (fact 𝓤 (v.value ≡ v.value))) (fact_i 𝓤 (v.value ≡ v.value) (emp 𝓤) refl) $ nothing ! $ nothing ! $ fjoin ! $
    returns ! (look_at ! 0 refl) $ free_all ! refl $ keep ! (4 ∷ 0 ∷ 2 ∷ 1 ∷ []) $
    by ! (leaves 𝓛 ended kept clauses y (pair (vptr b' o') h') (record { at = block_ptr b' o'; alloc = a; value = v.value }) ((tt, (tt, tt)), tt)
    (tt, tt))))))))))))))
