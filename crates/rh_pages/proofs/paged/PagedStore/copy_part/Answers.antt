use Rattle.rh_pages.proofs.Common.{ap, ◌∙◌, part, with_part, bytes, length-part, paged_memory, region_of}
use Rattle.rh_pages.proofs.Regions.{slid}
use Rattle.rh_pages.proofs.Runs.{run_seat}
use Rattle.rh_pages.proofs.Seats.{still_long}
use Rattle.rh_pages.proofs.paged.PagedStore.copy_part.Goals as goal

pub slide-requires : goal.slide-requires
slide-requires g c =
    let s = c.args.self.now in let n = c.args.n in let q = c.requires in
    let from = run_seat s c.args.id.0 c.args.at n c.spot-from.result q.opened q.some q.source q.source_together c.spot-from.ensures in
    let to = run_seat s c.args.id2.0 c.args.at2 n c.spot-to.result q.opened2 q.some q.target q.target_together c.spot-to.ensures in
    (from.within, to.within)

pub invariant_of-self : goal.invariant_of-self
invariant_of-self g c =
    let s = c.args.self.now in let n = c.args.n in let q = c.requires in let ws = part (bytes (paged_memory s) c.args.id.0) c.args.at n in
    let from = run_seat s c.args.id.0 c.args.at n c.spot-from.result q.opened q.some q.source q.source_together c.spot-from.ensures in
    let to = run_seat s c.args.id2.0 c.args.at2 n c.spot-to.result q.opened2 q.some q.target q.target_together c.spot-to.ensures in
    let is = c.slide.ensures.after ∙ slid (region_of s) c.spot-from.result c.spot-to.result n from.within to.within
    ∙ ap (with_part (region_of s) c.spot-to.result) from.read in
    record {
      few = s.few;
      long = still_long s _ c.slide.ensures.numbers;
      kept = to.kept _ _ ws is c.slide.ensures.numbers (length-part (bytes (paged_memory s) c.args.id.0) c.args.at n);
    }

pub returns : goal.returns
unfolding paged_memory
returns g c =
    let s = c.args.self.now in let n = c.args.n in let q = c.requires in let ws = part (bytes (paged_memory s) c.args.id.0) c.args.at n in
    let from = run_seat s c.args.id.0 c.args.at n c.spot-from.result q.opened q.some q.source q.source_together c.spot-from.ensures in
    let to = run_seat s c.args.id2.0 c.args.at2 n c.spot-to.result q.opened2 q.some q.target q.target_together c.spot-to.ensures in
    let is = c.slide.ensures.after ∙ slid (region_of s) c.spot-from.result c.spot-to.result n from.within to.within
    ∙ ap (with_part (region_of s) c.spot-to.result) from.read in
    to.memory _ _ ws is c.slide.ensures.numbers (length-part (bytes (paged_memory s) c.args.id.0) c.args.at n)
