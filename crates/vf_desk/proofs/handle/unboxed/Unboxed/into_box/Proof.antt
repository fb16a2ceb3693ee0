-- `into_box` hands address and heap's handle to std, with what they own, and answers the box that it gives.
use Rattle.vf_desk.proofs.Common.{◌≡◌, refl, sym, ap, subst, List, [], ◌∷◌, ◌++◌, dnil, Val, vptr, ftrue, SProp, ent, id⊢, fact, tables, WpFn, ‵, raw, ◌⊛◌}
use Rattle.vf_desk.proofs.Common.{◌$◌, ◌∵◌, !, qed, by, move, keep, split, fsplit, fjoin, rewrite, suffices, sub, whole, stop, fld, of_opd, no_more, and_then}
use Rattle.vf_desk.proofs.Common.{returns, enter, alloc_all, pass_all, free_all, look_at, get, get_in, sets, layout, RattleType, block_ptr, plain, nothing}
use Rattle.vf_desk.proofs.Common.{Stays, stay_dropped, walk_of, Goes-blank, proved_at, leaves}
use mir.MapTy.{inst_fn}
use mir.Syntax.{a_type, dcons}
use base.Fml.{flft}
use contract.BorrowLft.{◌⊑◌}
use types.Kit.{some, later, at_ret, drop, use1, split3, join, pick, feq_i, await}
use types.Run.{first, blocks, exec}
use types.ByLocal.{lands_last, env}
use denote.Exit.{no}
use denote.Param.{param, bounded}
use denote.Param.Laws.{param_laws}
use denote.RattleType.{owns}
use denote.Signature.{types_at}
use denote.Steps.{only}
use denote.Triple.Call.{calls_at_last}
use denote.Triple.Clauses.{Lasts, lasts}
use denote.Triple.Spec.{triple_of}
use Rattle.core.proofs.alloc.Shapes.{after}
use Rattle.core.proofs.atomic.Steps.{fm}
use Rattle.core.proofs.cell.Inside.{Good}
use Rattle.std_alloc.proofs.BoxSteps.Form as box
use Rattle.std_alloc.proofs.BoxSteps.Steps.{box_out, box_in}
use Rattle.std_alloc.specs.contracts.boxed.Box.from_raw as making
use Rattle.std_alloc.proofs.boxed.Box.from_raw.Met.{met}
use Rattle.vf_desk.proofs.Pairs.{pair, Apart, apart_good, apart_out}
use Rattle.vf_desk.specs.contracts.handle.unboxed.Unboxed.into_box as f
use Rattle.vf_desk.proofs.handle.unboxed.Unboxed.into_box.Statement.{statement}
use Rattle.vf_desk.proofs.handle.unboxed.Unboxed.into_box.Code as code

pub into_box_spec : {M : Type 1} → statement M
into_box_spec 𝓤 𝓛 𝓜 𝓡 wired T A L LA g d dx dd allocator glue glued =
    let 𝓣 = tables 𝓤 𝓛.H 𝓜 𝓡 𝓡.env in
    let R : RattleType = param 0 T in
    let Z : RattleType = param 1 A in
    let LZ = param_laws 1 A LA in
    let E : box.Bx = record { row = T; laws = L; al = record { row = A; laws = LA; g = g; d = d; drops = dd } } in
    let ended = f.ended T A g d dx dd in
    let clauses = f.clauses T A g d dx dd 𝓛 𝓜.mem 𝓡.returns in
    let given = bounded (a_type ∷ a_type ∷ []) (T, (A, tt)) (dcons d (dcons dx (dcons dd dnil))) in
    let fn = inst_fn given code.function in
    let kept : Stays ended.signature.params ended.kept = (stay_dropped (plain (λ _. Apart R Z LZ g)) no, tt) in
    proved_at 𝓛 ended kept clauses 𝓜 𝓡 (Goes-blank 𝓛 2 (plain (λ _. Apart R Z LZ g)) no (λ κs x w. tt), tt) (f.Key.name given) fn
    (code.unfolded 𝓤 𝓛.H 𝓜 𝓡 wired (T, (A, tt)) d dx dd) (λ y are.
    let κs = y.0.0 in
    let qs = y.0.1 in
    let v = y.0.3.0 in
    let a = v.alloc in
    let End : Val → SProp 𝓤 = (walk_of 𝓛 ended kept clauses).post y in
    let Runs : List Val → SProp 𝓤 = λ ws. WpFn 𝓤 𝓛.H 𝓣.C 𝓣.Λ fn ws End in
    let Tokens = ‵ (flft κs.0 qs.0) ⊛ ‵ (flft κs.1.0 qs.1.0) ⊛ ‵ ftrue in
    let Making = triple_of 𝓛 (making.signature T A g d dd) (making.spec T A g d dd 𝓛 𝓜.mem 𝓡.returns) in
    let Made : RattleType = box.B E in
    qed 𝓛 ((Tokens ⊛ ‵ (owns (types_at ended.signature.params κs) y.0.3 y.0.4)) ∷ raw ((clauses κs y.0.3).requires y.1) ∷ []) ∵
    split ! $ move ! (1 ∷ []) $ fsplit ! $ apart_out R Z LZ g ! v y.0.4.0 (λ b o h there words fits.
    let apart : Val = pair (vptr b o) h in
    let typed = apart_good R Z LZ g b o h fits in
    let z : Making.Ghost = ((κs, qs, tt, (a, (block_ptr b o, tt)), (h ∷ [], (vptr b o ∷ [], tt))), v.value) in
    -- [what the box owns; the handle; nothing; the tokens; what is required]
    move ! (4 ∷ []) $ use1 𝓛 (raw (fact 𝓤 (κs.0 ⊑ T.lives)) ⊛ raw (fact 𝓤 (κs.1.0 ⊑ A.lives)) ⊛ ‵ ftrue) (id⊢ 𝓤 _) $
    split3 ! $ move ! (2 ∷ []) $ drop ! $ move ! (1 ∷ 2 ∷ []) $ join ! $ move ! (1 ∷ 0 ∷ []) $ join ! $
    move ! (2 ∷ []) $ feq_i ! (List Val) (vptr b o ∷ []) (vptr b o ∷ []) refl $ fjoin ! $ move ! (2 ∷ 0 ∷ []) $ fjoin ! $ move ! (2 ∷ 0 ∷ []) $ join ! $
    join ! $
    use1 𝓛 (raw (Making.pre z)) (id⊢ 𝓤 _) $
    suffices ! (Runs (apart ∷ [])) (subst (λ (us : List Val). ent 𝓤 (Runs (apart ∷ [])) (Runs us)) (sym (λ i. words i ++ [])) (id⊢ 𝓤 (Runs (apart ∷ [])))) $
    enter ! 𝓣.C 𝓣.Λ fn (apart ∷ []) End $ alloc_all ! (λ l. pass_all ! refl (typed, tt) $
    let En = env fn.locals l in
    sets ! (of_opd ! (get_in ! (fld ! refl (stop !)) (sub ! 0 refl (whole !)))) refl (tt, tt) $
    sets ! (of_opd ! (get_in ! (fld ! refl (stop !)) (sub ! 1 refl (whole !)))) refl fits $
    first ! $ blocks ! $ sets ! (of_opd ! (get ! refl)) refl fits $
    calls_at_last ! (fm 𝓛 𝓜 𝓡) Making (met 𝓤 𝓛 𝓜 𝓡 (code.calls-std_alloc::boxed::Box::from_raw 𝓡.env wired) T A L LA g d dd allocator glued) z
    (and_then ! (get ! refl) (and_then ! (get ! refl) (no_more !))) (λ u.
    use1 𝓛 (later (some (λ (r : Made.Denot). (Tokens ⊛ ‵ (Made.own_val r (u ∷ []))) ⊛
    some (λ (ls : Lasts (making.ended T A g d dd) κs z.0.3). ‵ (lasts (making.ended T A g d dd) κs z.0.3 ls) ⊛ (raw (fact 𝓤 (r.value ≡ v.value)) ⊛ raw
    (fact 𝓤 (r.alloc ≡ a))))))) (id⊢ 𝓤 (Making.post z u)) $
    await ! tt $ pick ! (λ r. split ! $ move ! (1 ∷ []) $ pick ! (λ _. split3 ! $ drop ! $ move ! (2 ∷ []) $ split ! $ move ! (1 ∷ []) $
    -- the box is one machine value
    box_out E ! r (u ∷ []) (λ b' o' h' at us fits'. box_in E ! r b' o' r.value at refl $ rewrite ! 0 (λ (ws : List Val). ‵ (Made.own_val r ws)) (sym us) refl $
    let good : Good (layout Made) u = subst (Good (layout Made)) (sym (ap only us)) (apart_good R Z LZ g b' o' h' fits') in
    lands_last ! refl good $ exec ! 𝓣.C 𝓣.Λ En (after 3 fn.body) (at_ret En End) $
    sets ! (of_opd ! (get ! refl)) refl good $ nothing ! $ nothing ! $ fjoin ! $
    returns ! (look_at ! 0 refl) $ free_all ! refl $ keep ! (2 ∷ 0 ∷ 1 ∷ 3 ∷ []) $
    by ! (leaves 𝓛 ended kept clauses y u r ((tt, (tt, tt)), tt) (tt, tt)))))))))
