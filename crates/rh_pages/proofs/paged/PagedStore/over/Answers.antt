use Rattle.rh_pages.proofs.Common.{◌≡◌, suc, ◌+◌, ◌-◌, ◌*◌, ◌++◌, ◌∷◌, [], length, refl, sym, ap, ap₂, ◌∙◌, arith, get_or-set_same, take-set-le}
use Rattle.rh_pages.proofs.Common.{MAX_AREAS, LISTS, areas_in}
use Rattle.rh_pages.proofs.Common.{free_in, list_at, paged_memory, lists_of}
use Rattle.rh_defs.specs.Memory.{fresh}
use Rattle.rh_pages.proofs.Start.{from_top, length_top, fresh_kept, fresh_memory}
use Rattle.rh_pages.proofs.Tables.{length_lists}
use Rattle.rh_pages.proofs.paged.PagedStore.over.Goals as goal

pub push-requires-clause-room : goal.push-requires-clause-room
push-requires-clause-room g c =
    let so_far = c.loop-k.invariant in let long = ap length so_far.free in let n = length_top c.args.pages c.loop-k.k in
    omega (arith, so_far.room, c.loop-k-test.true)

pub loop-k-preserved : goal.loop-k-preserved
loop-k-preserved g c =
    let so_far = c.loop-k.invariant in let was = lists_of (g.G.Backing.numbers c.loop-k.site) c.loop-k.table in
    let number = c.args.pages - 1 - c.loop-k.k in let x = list_at was MAX_AREAS ++ number ∷ [] in
    let more : suc c.loop-k.k ≡ c.loop-k.k + 1 = omega arith in
    record {
      count = omega (arith, c.loop-k-test.true);
      room = c.push.ensures.room ∙ so_far.room;
      bytes = c.push.ensures.bytes ∙ so_far.bytes;
      long = c.push.ensures.len ∙ so_far.long;
      areas = ap areas_in c.push.ensures.lists ∙ take-set-le MAX_AREAS was MAX_AREAS x (omega arith) ∙ so_far.areas;
      free =
          ap free_in c.push.ensures.lists
          ∙ get_or-set_same was MAX_AREAS x [] (omega (arith, length_lists (g.G.Backing.numbers c.loop-k.site) c.loop-k.table))
          ∙ ap (λ l. l ++ number ∷ []) so_far.free ∙ ap (from_top c.args.pages) more;
    }

pub invariant_of-result : goal.invariant_of-result
invariant_of-result g c =
    let so_far = c.loop-k.invariant in let t = c.loop-k.table in let lists = lists_of (g.G.Backing.numbers c.loop-k.site) t in
    let out : c.loop-k.k ≡ t.room = omega (arith, so_far.count, so_far.room, c.loop-k-test.false) in
    let all = so_far.free ∙ ap₂ from_top (sym so_far.room) out in
    record {
      few = omega (arith, so_far.room, c.requires.most);
      long = omega (arith, so_far.long, ap (λ n. LISTS * n) so_far.room, c.requires.numbers);
      kept = fresh_kept (g.G.Backing.bytes c.loop-k.site) (areas_in lists) _ (free_in lists) t.room MAX_AREAS so_far.areas refl all
          (omega (arith, ap length so_far.bytes, so_far.room, c.requires.size));
    }

pub returns : goal.returns
unfolding paged_memory
returns g c =
    let so_far = c.loop-k.invariant in let t = c.loop-k.table in let lists = lists_of (g.G.Backing.numbers c.loop-k.site) t in
    let out : c.loop-k.k ≡ t.room = omega (arith, so_far.count, so_far.room, c.loop-k-test.false) in
    let all = so_far.free ∙ ap₂ from_top (sym so_far.room) out in
    fresh_memory (g.G.Backing.bytes c.loop-k.site) (areas_in lists) _ (free_in lists) t.room MAX_AREAS so_far.areas refl all
    ∙ ap fresh so_far.room
