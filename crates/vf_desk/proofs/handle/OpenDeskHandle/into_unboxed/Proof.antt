-- `into_unboxed` moves two fields, the address as one of the open_desk again; what they own stays. With no open desk it is
-- never called.
use Rattle.vf_desk.proofs.Common.{◌≡◌, refl, sym, subst, ap, ◌∙◌, List, [], ◌∷◌, ◌++◌, bare, Val, vptr, ftrue, fsep, SProp, ent, emp, id⊢, never, fst∗, fact}
use Rattle.vf_desk.proofs.Common.{fact_i, tables, WpFn, sem, ‵, raw, ◌⊛◌, ◌$◌, ◌∵◌, !, qed, by, move, keep, use0, split, fsplit, fjoin, suffices, rewrite}
use Rattle.vf_desk.proofs.Common.{agg, sub, whole, stop, fld, of_opd, no_more, and_then, returns, enter, alloc_all, pass_all, free_all, look_at, get, get_in}
use Rattle.vf_desk.proofs.Common.{sets, yes, Ptr, block_ptr, null_ptr, ptr_val, in_a_block, plain, nothing, Stays, stay_dropped, walk_of, Goes-blank}
use Rattle.vf_desk.proofs.Common.{proved_at, leaves, box_owns, Option, Some, None, IsSome, ghosts}
use denote.Memory.{lone}
use denote.Signature.{Slot}
use denote.Steps.{heard}
use Rattle.std.proofs.lemmas.Bool.{false≢true}
use Rattle.std.specs.contracts.alloc.Global as heap
use Rattle.std.proofs.alloc.Global.TheLaws as heap_laws
use Rattle.vf_desk.proofs.Pairs.{pair, owned, Apart, apart_good, apart_in, handle_out}
use Rattle.vf_desk.specs.contracts.open_desk.OpenDesk as OpenDesk
use Rattle.vf_desk.specs.contracts.handle.OpenDeskHandle.into_unboxed as f
use Rattle.vf_desk.specs.contracts.handle.OpenDeskHandle as OpenDeskHandle
use Rattle.vf_desk.proofs.handle.OpenDeskHandle.into_unboxed.Statement.{statement}
use Rattle.vf_desk.proofs.handle.OpenDeskHandle.into_unboxed.Code as code

abbrev From : Slot 0
From = plain (λ _. OpenDeskHandle.the_row)

abbrev kept : Stays f.ended.signature.params f.ended.kept
kept = (stay_dropped From yes, tt)

-- a open desk that is there
station_in : (s : Option OpenDesk.the_row.Denot) → IsSome s → (x : OpenDesk.the_row.Denot) × (s ≡ Some x)
station_in (Some x) there = (x, refl)
station_in None there = absurd (false≢true there)

pub into_unboxed_spec : {M : Type 1} → statement M
into_unboxed_spec 𝓤 𝓛 𝓜 𝓡 wired =
    let 𝓣 = tables 𝓤 𝓛.H 𝓜 𝓡 𝓡.env in
    let clauses = f.clauses 𝓛 𝓜.mem 𝓡.returns in
    proved_at 𝓛 f.ended kept clauses 𝓜 𝓡 (Goes-blank 𝓛 0 From yes (λ κs x w. tt), tt) f.Key.name code.function (code.unfolded 𝓤 𝓛.H 𝓜 𝓡 wired) (λ y are.
    let v = y.0.3.0 in
    let a = v.alloc in
    let End : Val → SProp 𝓤 = (walk_of 𝓛 f.ended kept clauses).post y in
    let Runs : List Val → SProp 𝓤 = λ ws. WpFn 𝓤 𝓛.H 𝓣.C 𝓣.Λ code.function ws End in
    qed 𝓛 ((‵ ftrue ⊛ ‵ (fsep (OpenDeskHandle.the_row.own_val v y.0.4.0) ftrue)) ∷ raw (fact 𝓤 (IsSome v.open_desk)) ∷ []) ∵
    move ! (1 ∷ []) $ heard ! _ (λ there.
    let found = station_in v.open_desk there in
    let x = found.0 in
    split ! $ move ! (1 ∷ []) $ fsplit ! $ handle_out ! v y.0.4.0 (λ h words fits.
    rewrite ! 0 (λ (s : Option OpenDesk.the_row.Denot). ‵ (owned a v.at s)) found.1 refl $
    in_a_block ! v.at (λ p. box_owns (ghosts.dealloc_token a) OpenDesk.the_row p x)
    (fst∗ 𝓤 (never 𝓤) (sem 𝓛 (ghosts.dealloc_token a (bare (lone OpenDesk.the_row.mir)) null_ptr))) (λ b o at.
    let w : Val = pair (vptr b o) h in
    let typed = apart_good OpenDesk.the_row heap.the_row heap_laws.the_row_laws ghosts b o h fits in
    let made : (Apart OpenDesk.the_row heap.the_row heap_laws.the_row_laws ghosts).Denot = record { at = block_ptr b o; alloc = a; value = x } in
    let is = words ∙ ap (λ (p : Ptr). pair (ptr_val p) h ∷ []) at in
    suffices ! (Runs (w ∷ [])) (subst (λ (us : List Val). ent 𝓤 (Runs (w ∷ [])) (Runs us)) (sym (λ i. is i ++ [])) (id⊢ 𝓤 (Runs (w ∷ [])))) $
    enter ! 𝓣.C 𝓣.Λ code.function (w ∷ []) End $ alloc_all ! (λ l. pass_all ! refl (typed, tt) $
    sets ! (of_opd ! (get_in ! (fld ! refl (stop !)) (sub ! 0 refl (whole !)))) refl (tt, tt) $
    sets ! (of_opd ! (get_in ! (fld ! refl (stop !)) (sub ! 1 refl (whole !)))) refl fits $
    sets ! (of_opd ! (get ! refl)) refl (tt, tt) $
    sets ! (agg ! (and_then ! (get ! refl) (and_then ! (get ! refl) (no_more !)))) refl typed $
    apart_in OpenDesk.the_row heap.the_row heap_laws.the_row_laws ghosts ! b o h a x $
    use0 𝓛 (raw (fact 𝓤 (Some x ≡ v.open_desk))) (fact_i 𝓤 (Some x ≡ v.open_desk) (emp 𝓤) (sym found.1)) $ nothing ! $ nothing ! $ fjoin ! $
    returns ! (look_at ! 0 refl) $ free_all ! refl $ keep ! (4 ∷ 0 ∷ 2 ∷ 1 ∷ []) $
    by ! (leaves 𝓛 f.ended kept clauses y w made (tt, tt) (tt, tt)))))))
