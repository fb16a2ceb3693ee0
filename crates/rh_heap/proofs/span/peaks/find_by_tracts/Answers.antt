use Rattle.std.proofs.Common.{◌≢◌, ◌∙◌, ◌/◌, length, sym, arith}
use Rattle.rh_peaks.specs.Peaks.{peak}
use Rattle.rh_heap.proofs.TractLaws.{marked_some, none_at_all, passed_before, peaks_put, less_put}
use Rattle.rh_heap.proofs.span.peaks.find_by_tracts.Goals as goal

pub returns-in_default-clause-found : goal.returns-in_default-clause-found
returns-in_default-clause-found g c =
    let i = c.search.invariant in
    let row : length c.search.peaks ≢ 0 = λ z. c.requires.row (sym i.long ∙ z) in
    none_at_all _ _ _ c.requires.span.spells (peak c.search.peaks) _ (length c.search.peaks / 2) (i.peaks.below row) (i.peaks.long row) c.in_default.ensures

pub find_up_to-requires-clause-passed : goal.find_up_to-requires-clause-passed
find_up_to-requires-clause-passed g c =
    let i = c.search.invariant in
    let row : length c.search.peaks ≢ 0 = λ z. c.requires.row (sym i.long ∙ z) in
    passed_before _ _ _ c.requires.span.spells c.args.starts.now c.requires.starts (peak c.search.peaks) _ c.in-Some.tract _ (i.peaks.below row)
    c.in-Some.ensures.none c.link_before_tract-link.ensures

pub search-preserved : goal.search-preserved
search-preserved g c =
    let i = c.search.invariant in
    let row : length c.search.peaks ≢ 0 = λ z. c.requires.row (sym i.long ∙ z) in
    record {
      peaks = peaks_put _ _ _ c.requires.span.spells c.search.peaks c.put.new.nodes i.peaks row c.in-Some.tract c.in-Err.most c.put.ensures.tree
          c.put.ensures.here c.put.ensures.others c.put.ensures.long c.in-Err.ensures.1;
      long = c.put.ensures.long ∙ i.long;
      less = less_put _ _ _ c.requires.span.spells c.search.peaks c.put.new.nodes i.peaks row c.in-Some.tract c.in-Err.most _ c.put.ensures.here
          c.put.ensures.others c.in-Err.ensures.0 c.in-Some.ensures;
    }

pub returns-clause-found : goal.returns-clause-found
returns-clause-found g c =
    let i = c.search.invariant in
    let row : length c.search.peaks ≢ 0 = λ z. c.requires.row (sym i.long ∙ z) in
    let past = c.search-test.false in
    none_at_all _ _ _ c.requires.span.spells (peak c.search.peaks) _ (length c.search.peaks / 2) (i.peaks.below row) (i.peaks.long row)
    (λ j under. i.less j (omega arith))

pub link_before_tract-link-requires-clause-marked : goal.link_before_tract-link-requires-clause-marked
link_before_tract-link-requires-clause-marked g c k inside one =
    let i = c.search.invariant in
    let row : length c.search.peaks ≢ 0 = λ z. c.requires.row (sym i.long ∙ z) in
    marked_some _ _ _ c.requires.span.spells _ c.requires.starts (peak c.search.peaks) (i.peaks.below row) k one
