-- `of_unboxed` moves two fields, the address as one of another type; what they own stays.
use Rattle.vf_desk.proofs.Common.{refl, sym, subst, List, [], ◌∷◌, ◌++◌, Val, vptr, ftrue, fsep, SProp, ent, emp, id⊢, fact, fact_i, tables, WpFn, ‵, raw}
use Rattle.vf_desk.proofs.Common.{◌⊛◌, ◌$◌, ◌∵◌, !, qed, by, move, keep, use0, split, fsplit, fjoin, suffices, agg, sub, whole, stop, fld, of_opd, no_more}
use Rattle.vf_desk.proofs.Common.{and_then, returns, enter, alloc_all, pass_all, free_all, look_at, get, get_in, sets, block_ptr, plain, nothing, Stays}
use Rattle.vf_desk.proofs.Common.{stay_dropped, walk_of, Goes-blank, proved_at, leaves, Some, ◌≡◌, ghosts}
use denote.Signature.{Slot}
use Rattle.std.specs.contracts.alloc.Global as heap
use Rattle.std.proofs.alloc.Global.TheLaws as heap_laws
use Rattle.vf_desk.proofs.Pairs.{pair, Apart, apart_good, apart_out, handle_in}
use Rattle.vf_desk.specs.contracts.open_desk.OpenDesk as OpenDesk
use Rattle.vf_desk.specs.contracts.handle.OpenDeskHandle.of_unboxed as f
use Rattle.vf_desk.specs.contracts.handle.OpenDeskHandle as OpenDeskHandle
use Rattle.vf_desk.proofs.handle.OpenDeskHandle.of_unboxed.Statement.{statement}
use Rattle.vf_desk.proofs.handle.OpenDeskHandle.of_unboxed.Code as code

abbrev From : Slot 0
From = plain (λ _. Apart OpenDesk.the_row heap.the_row heap_laws.the_row_laws ghosts)

abbrev kept : Stays f.ended.signature.params f.ended.kept
kept = (stay_dropped From f.ended.kept.0, tt)

pub of_unboxed_spec : {M : Type 1} → statement M
of_unboxed_spec 𝓤 𝓛 𝓜 𝓡 wired =
    let 𝓣 = tables 𝓤 𝓛.H 𝓜 𝓡 𝓡.env in
    let clauses = f.clauses 𝓛 𝓜.mem 𝓡.returns in
    proved_at 𝓛 f.ended kept clauses 𝓜 𝓡 (Goes-blank 𝓛 0 From f.ended.kept.0 (λ κs x w. tt), tt)
    f.Key.name code.function (code.unfolded 𝓤 𝓛.H 𝓜 𝓡 wired) (λ y are.
    let v = y.0.3.0 in
    let a = v.alloc in
    let End : Val → SProp 𝓤 = (walk_of 𝓛 f.ended kept clauses).post y in
    let Runs : List Val → SProp 𝓤 = λ ws. WpFn 𝓤 𝓛.H 𝓣.C 𝓣.Λ code.function ws End in
    qed 𝓛 ((‵ ftrue ⊛ ‵ (fsep ((Apart OpenDesk.the_row heap.the_row heap_laws.the_row_laws ghosts).own_val v y.0.4.0) ftrue)) ∷ raw (emp 𝓤) ∷ []) ∵ split ! $
    move ! (1 ∷ []) $ fsplit ! $
    apart_out OpenDesk.the_row heap.the_row heap_laws.the_row_laws ghosts ! v y.0.4.0 (λ b o h there words fits.
    let w : Val = pair (vptr b o) h in
    let typed = apart_good OpenDesk.the_row heap.the_row heap_laws.the_row_laws ghosts b o h fits in
    let made : OpenDeskHandle.the_row.Denot = record { at = block_ptr b o; alloc = a; open_desk = Some v.value } in
    suffices ! (Runs (w ∷ [])) (subst (λ (us : List Val). ent 𝓤 (Runs (w ∷ [])) (Runs us)) (sym (λ i. words i ++ [])) (id⊢ 𝓤 (Runs (w ∷ [])))) $
    enter ! 𝓣.C 𝓣.Λ code.function (w ∷ []) End $ alloc_all ! (λ l. pass_all ! refl (typed, tt) $
    sets ! (of_opd ! (get_in ! (fld ! refl (stop !)) (sub ! 0 refl (whole !)))) refl (tt, tt) $
    sets ! (of_opd ! (get_in ! (fld ! refl (stop !)) (sub ! 1 refl (whole !)))) refl fits $
    sets ! (of_opd ! (get ! refl)) refl (tt, tt) $
    sets ! (agg ! (and_then ! (get ! refl) (and_then ! (get ! refl) (no_more !)))) refl typed $
    handle_in ! (block_ptr b o) h a (Some v.value) $
    use0 𝓛 (raw (fact 𝓤 (Some v.value ≡ Some v.value))) (fact_i 𝓤 (Some v.value ≡ Some v.value) (emp 𝓤) refl) $ nothing ! $ nothing ! $ fjoin ! $
    returns ! (look_at ! 0 refl) $ free_all ! refl $ keep ! (4 ∷ 0 ∷ 2 ∷ 1 ∷ []) $
    by ! (leaves 𝓛 f.ended kept clauses y w made (tt, tt) (tt, tt)))))
