-- `empty` puts a null pointer beside the heap's handle. Both own nothing that a open desk would.
use Rattle.vf_desk.proofs.Common.{refl, sym, subst, List, [], ◌∷◌, ◌++◌, Val, ftrue, fsep, SProp, ent, emp, id⊢, fact, fact_i, tables, WpFn, ‵, raw, ◌⊛◌, ◌$◌}
use Rattle.vf_desk.proofs.Common.{◌∵◌, !, qed, by, move, keep, use0, split, fsplit, fjoin, suffices, agg, no_more, and_then, returns, enter, alloc_all}
use Rattle.vf_desk.proofs.Common.{pass_all, free_all, look_at, get, sets, yes, null_ptr, ptr_val, plain, nothing, Stays, stay_dropped, walk_of, handle_tells}
use Rattle.vf_desk.proofs.Common.{proved_at, leaves, None, ◌≡◌}
use lib.Dec.{lit<}
use types.Run.{lit}
use denote.Triple.Walked.{Goes-dropped}
use Rattle.std.specs.contracts.alloc.Global as heap
use Rattle.std_alloc.proofs.ResultValues.{and_tt}
use Rattle.vf_desk.proofs.Pairs.{pair, heap_al, handle_in}
use Rattle.vf_desk.specs.contracts.handle.OpenDeskHandle.empty as f
use Rattle.vf_desk.specs.contracts.handle.OpenDeskHandle as OpenDeskHandle
use Rattle.vf_desk.proofs.handle.OpenDeskHandle.empty.Statement.{statement}
use Rattle.vf_desk.proofs.handle.OpenDeskHandle.empty.Code as code

abbrev kept : Stays f.ended.signature.params f.ended.kept
kept = (stay_dropped (plain (λ _. heap.the_row)) yes, tt)

pub empty_spec : {M : Type 1} → statement M
empty_spec 𝓤 𝓛 𝓜 𝓡 wired =
    let 𝓣 = tables 𝓤 𝓛.H 𝓜 𝓡 𝓡.env in
    let clauses = f.clauses 𝓛 𝓜.mem 𝓡.returns in
    proved_at 𝓛 f.ended kept clauses 𝓜 𝓡 (Goes-dropped 𝓛 0 (plain (λ _. heap.the_row)) yes (λ κs x w. refl), tt) f.Key.name code.function
    (code.unfolded 𝓤 𝓛.H 𝓜 𝓡 wired) (λ y are.
    let a = y.0.3.0 in
    let End : Val → SProp 𝓤 = (walk_of 𝓛 f.ended kept clauses).post y in
    let Runs : List Val → SProp 𝓤 = λ ws. WpFn 𝓤 𝓛.H 𝓣.C 𝓣.Λ code.function ws End in
    let made : OpenDeskHandle.the_row.Denot = record { at = null_ptr; alloc = a; open_desk = None } in
    qed 𝓛 ((‵ ftrue ⊛ ‵ (fsep (heap.the_row.own_val a y.0.4.0) ftrue)) ∷ raw (emp 𝓤) ∷ []) ∵ split ! $ move ! (1 ∷ []) $ fsplit ! $
    handle_tells heap_al ! a y.0.4.0 (λ h words fits.
    suffices ! (Runs (h ∷ [])) (subst (λ (us : List Val). ent 𝓤 (Runs (h ∷ [])) (Runs us)) (sym (λ i. words i ++ [])) (id⊢ 𝓤 (Runs (h ∷ [])))) $
    enter ! 𝓣.C 𝓣.Λ code.function (h ∷ []) End $ alloc_all ! (λ l. pass_all ! refl (fits, tt) $
    sets ! (agg ! (and_then ! (lit ! tt) (and_then ! (get ! refl) (no_more !)))) refl (and_tt _ fits.0, (record { fits = lit< tt }, (fits.1, tt))) $
    nothing ! $ handle_in ! null_ptr h a None $
    use0 𝓛 (raw (fact 𝓤 (None ≡ None))) (fact_i 𝓤 (None ≡ None) (emp 𝓤) refl) $ nothing ! $ nothing ! $ fjoin ! $
    returns ! (look_at ! 0 refl) $ free_all ! refl $ keep ! (4 ∷ 0 ∷ 2 ∷ 1 ∷ []) $
    by ! (leaves 𝓛 f.ended kept clauses y (pair (ptr_val null_ptr) h) made (tt, tt) (tt, tt)))))
