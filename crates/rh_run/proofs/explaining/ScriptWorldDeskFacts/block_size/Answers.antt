use Rattle.std.proofs.Common.{◌∙◌, ◌≡◌, sym, true}
use Rattle.rh_defs.specs.Forms.{is_anchor}
use Rattle.rh_run.proofs.FactLaws.{size-told}
use Rattle.rh_run.proofs.explaining.ScriptWorldDeskFacts.block_size.Goals as goal

pub returns : goal.returns
returns g c = λ d same.
    let valid : is_anchor c.args.anchor ≡ true = sym c.is_valid.ensures ∙ c.if-not-is_valid.false in
    c.ok.ensures.value ∙ size-told _ _ c.args.name.now c.args.anchor c.show.result valid same c.show.ensures
