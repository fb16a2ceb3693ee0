use Rattle.std.proofs.Common.{◌∙◌, ap, rules}
use Rattle.rh_defs.specs.Runs.{start_with}
use Rattle.rh_pages.specs.Paged.{paged_memory}
use Rattle.vf_desk.proofs.FreshLaws.{pages_are, fresh_by_pages}
use Rattle.vf_desk.proofs.OpeningLaws.{opens-begun}
use Rattle.vf_desk.proofs.open_desk.OpenDesk.open.Goals as goal

pub with_next-requires-clause-fresh : goal.with_next-requires-clause-fresh
with_next-requires-clause-fresh c = fresh_by_pages (paged_memory c.in-Ok.store) c.args.pages c.in-Ok.ensures

pub with_next-requires-clause-least : goal.with_next-requires-clause-least
with_next-requires-clause-least c = rw (pages_are (paged_memory c.in-Ok.store) c.args.pages c.in-Ok.ensures) (search rules)

pub with_next-requires-clause-most : goal.with_next-requires-clause-most
with_next-requires-clause-most c = rw (pages_are (paged_memory c.in-Ok.store) c.args.pages c.in-Ok.ensures) (search rules)

pub returns : goal.returns
returns c =
    let same = pages_are (paged_memory c.in-Ok.store) c.args.pages c.in-Ok.ensures in
    opens-begun c.opening_status-status.ensures c.if-status-ne-OK.false c.begin.ensures.first
    (c.begin.ensures.files ∙ c.replace-files.ensures.after ∙ c.new.ensures)
    (c.with_next.ensures ∙ ap (λ n. start_with n c.replace-files.result c.args.first_handle c.args.first_ref) same
    ∙ ap (λ files. start_with c.args.pages files c.args.first_handle c.args.first_ref) c.replace-files.ensures.value)
