use Rattle.rh_store.proofs.Common.{◌≡◌, ◌<◌, ◌+◌, ◌/◌, List, ℕ, length, refl, sym, ap, subst, arith, Option, Some, [], IsSome, IsNone, unwrap_or, Area}
use Rattle.rh_store.proofs.Common.{MAX_AREAS, PAGE, contents, memory_of, changed}
use Rattle.rh_defs.proofs.MemoryLaws.{open_below-all, open_below-none}
use Rattle.rh_store.proofs.AreasLaws.{memory-opened, none_is}
use Rattle.rh_store.proofs.plain.PlainStoreStore.open.Goals as goal

pub invariant_of-self : goal.invariant_of-self
unfolding memory_of
invariant_of-self c =
    let s = c.args.self.now in
    let list = s.areas.items in
    let i = c.in-Some.i in
    let closed = subst (λ (l : List Area). IsNone (contents l i)) c.deref.ensures.value c.in-Some.ensures.closed.1 in
    let none = none_is (contents list i) closed in
    let h : i < MAX_AREAS = omega (arith, ap length c.deref.ensures.value, c.in-Some.ensures.closed.0, s.kept.table) in
    let sum : s.free + 0 ≡ s.free + length (unwrap_or (contents list i) []) / PAGE =
    ap (λ (o : Option (List ℕ)). s.free + length (unwrap_or o []) / PAGE) (sym none) in
    record { few = s.few; kept = changed list _ i (Some []) s.free s.free s.pages MAX_AREAS s.kept c.open_at.ensures h refl sum }

pub returns-in-None-clause-refused : goal.returns-in-None-clause-refused
unfolding memory_of
returns-in-None-clause-refused c =
    let s = c.args.self.now in
    let list = s.areas.items in
    let all = subst (λ (l : List Area). (k : ℕ) → k < length l → IsSome (contents l k)) c.deref.ensures.value c.in-None.ensures.least in
    (λ _. open_below-all (contents list) MAX_AREAS (λ k h. all k (let table = s.kept.table in omega arith)), λ _. refl)

pub returns-in-Some-clause-ok : goal.returns-in-Some-clause-ok
unfolding memory_of
returns-in-Some-clause-ok c =
    let s = c.args.self.now in
    let i = c.in-Some.i in
    let closed = subst (λ (l : List Area). IsNone (contents l i)) c.deref.ensures.value c.in-Some.ensures.closed.1 in
    (closed, memory-opened s.areas.items _ i s.free s.pages c.open_at.ensures)

pub returns-in-Some-clause-refused : goal.returns-in-Some-clause-refused
unfolding memory_of
returns-in-Some-clause-refused c =
    let s = c.args.self.now in
    let list = s.areas.items in
    let i = c.in-Some.i in
    let closed = subst (λ (l : List Area). IsNone (contents l i)) c.deref.ensures.value c.in-Some.ensures.closed.1 in
    let h : i < MAX_AREAS = omega (arith, ap length c.deref.ensures.value, c.in-Some.ensures.closed.0, s.kept.table) in
    let fewer = open_below-none (memory_of s) i MAX_AREAS (none_is (contents list i) closed) h in
    (λ e. absurd (cc), λ e. absurd (omega (arith, e, fewer)))
