use Rattle.rh_tasks.proofs.Common.{ℕ, sym, ap, ◌∙◌, Ok, bytes, Scrap, scrap_from, Granted}
use Rattle.rh_tasks.proofs.Buffers.{sits-there}
use Rattle.rh_tasks.proofs.ScrapLoads.{answers-none, answers-some, held-nothing, held-other, held-own, seen-held}
use Rattle.rh_tasks.proofs.Scraps.{seen-file, seen-nothing, seen-size}
use Rattle.rh_tasks.proofs.ScrapTransfers.{not-false, not-true}
use Rattle.rh_tasks.proofs.Takes.{seat-live}
use Rattle.rh_tasks.proofs.world.World.held_file.Goals as goal

pub returns-in_default : goal.returns-in_default
returns-in_default g c =
    λ t there.
    sym (held-nothing c.args.self.now.desk t (seen-nothing c.self.invariant c.self.view_is c.in_default.is))

pub held-requires-clause-live : goal.held-requires-clause-live
held-requires-clause-live g c =
    let w = c.self.invariant in
    let at = sits-there w c.self.view_is c.requires c.index-seat.ensures in
    seat-live w at

pub returns-in_default-held : goal.returns-in_default-held
returns-in_default-held g c =
    λ t there.
    let w = c.self.invariant in
    let at = sits-there w c.self.view_is c.requires c.index-seat.ensures in
    let file : Scrap = scrap_from (bytes (g.S.Words.memory c.self.inside.store) 5) c.in-Some.file in
    let has = seen-file w c.self.view_is c.in-Some.file c.in-Some.is in
    sym (held-other c.args.self.now.desk t file has (answers-none file.load _ (seen-held w c.self.view_is at there c.in_default-held.ensures)))

pub returns-then-ne : goal.returns-then-ne
returns-then-ne g c =
    λ t there.
    let w = c.self.invariant in
    let at = sits-there w c.self.view_is c.requires c.index-seat.ensures in
    let file : Scrap = scrap_from (bytes (g.S.Words.memory c.self.inside.store) 5) c.in-Some.file in
    let has = seen-file w c.self.view_is c.in-Some.file c.in-Some.is in
    sym (held-other c.args.self.now.desk t file has (answers-some file.load c.in-Some-held.message _
    (seen-held w c.self.view_is at there c.in-Some-held.ensures) ∙ not-true _ (sym c.ne.ensures ∙ c.if-ne.true)))

pub returns : goal.returns
returns g c =
    λ t there.
    let w = c.self.invariant in
    let at = sits-there w c.self.view_is c.requires c.index-seat.ensures in
    let file : Scrap = scrap_from (bytes (g.S.Words.memory c.self.inside.store) 5) c.in-Some.file in
    let has = seen-file w c.self.view_is c.in-Some.file c.in-Some.is in
    ap (λ (k : ℕ). let r : Granted ℕ = Ok k in r) (seen-size w c.self.view_is c.in-Some.file c.in-Some.is)
    ∙ sym (held-own c.args.self.now.desk t file has (answers-some file.load c.in-Some-held.message _
    (seen-held w c.self.view_is at there c.in-Some-held.ensures) ∙ not-false _ (sym c.ne.ensures ∙ c.if-ne.false)))
