use Rattle.rh_defs.specs.Questions.{shown_at}
use Rattle.rh_tasks.specs.BlockBytes.{block_shown}
use Rattle.rh_tasks.specs.Sights.{module_shown}
use Rattle.vf_desk.proofs.Common.{length, refl}
use Rattle.vf_desk.proofs.BlockReadLaws.{is-read, named-anchor, named-block}
use Rattle.vf_desk.proofs.block_reads.read_world.Goals as goal

pub returns-in_ok-anchor-in-Anchored : goal.returns-in_ok-anchor-in-Anchored
returns-in_ok-anchor-in-Anchored c =
    let n = length c.args.to.now in
    rw c.in-Anchored.is (is-read _ _ (λ d. shown_at d c.in_ok-name-in-Anchored.name c.in_ok-anchor-in-Anchored.anchor c.args.offset n)
    c.show.result c.args.to.now c.show.new.to
    (named-anchor c.in-Anchored.name.now c.args.offset n c.in_ok-name-in-Anchored.name c.in_ok-name-in-Anchored.ensures c.in-Anchored.anchor
    c.in_ok-anchor-in-Anchored.anchor c.in_ok-anchor-in-Anchored.ensures) c.show.ensures)

pub returns-in_ok-name-in-Addressed : goal.returns-in_ok-name-in-Addressed
returns-in_ok-name-in-Addressed c =
    let n = length c.args.to.now in
    rw c.in-Addressed.is (is-read _ _ (λ d. block_shown d c.in_ok-name-in-Addressed.name c.in-Addressed.address c.args.offset n)
    c.read_block.result c.args.to.now c.read_block.new.to
    (named-block c.in-Addressed.name.now c.args.offset n c.in_ok-name-in-Addressed.name c.in_ok-name-in-Addressed.ensures c.in-Addressed.address)
    c.read_block.ensures)

pub returns-in-InModule : goal.returns-in-InModule
returns-in-InModule c =
    rw c.in-InModule.is
    (is-read _ _ (λ d. module_shown d c.in-InModule.address c.args.offset (length c.args.to.now)) c.read_module.result c.args.to.now c.read_module.new.to refl
    c.read_module.ensures)
