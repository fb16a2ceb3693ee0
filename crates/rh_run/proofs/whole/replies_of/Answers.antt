use Rattle.std.proofs.Common.{[]}
use Rattle.std.proofs.lemmas.Result.{IfOk-weaker}
use Rattle.rh_defs.specs.Desk.{Desk}
use Rattle.rh_defs.specs.Runs.{start}
use Rattle.rh_lines.specs.Flow.{unread}
use Rattle.rh_run.proofs.ReplyLaws.{same-desk}
use Rattle.rh_run.proofs.SafeLaws.{finished_safely}
use Rattle.rh_run.proofs.whole.replies_of.Goals as goal

pub returns-clause-safe : goal.returns-clause-safe
returns-clause-safe g c =
    let pages = (g.S.Words.memory c.args.store).pages in
    let files = g.F.NamedFiles.contents c.args.files in
    let d : Desk = start pages files in
    IfOk-weaker c.run_whole.result _ _ (λ status finished. finished_safely pages files c.requires.least c.requires.most {before = unread c.args.script.now}
    {after = unread []} {new = g.W.Sink.output c.run_whole.new.writer} status (finished d (same-desk c.new-world.ensures))) c.run_whole.ensures.ok
