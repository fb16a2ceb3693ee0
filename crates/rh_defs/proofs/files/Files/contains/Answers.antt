use Rattle.rh_defs.proofs.Common.{sym, ◌∙◌, ap, has_file}
use Rattle.rh_defs.proofs.FileLemmas.{has_file-lookup}
use Rattle.rh_defs.proofs.files.Files.contains.Goals as goal

pub returns : goal.returns
returns c =
    c.contains_key.ensures
    ∙ (sym (has_file-lookup c.args.name.now c.self.inside.contents.entries) ∙ ap (has_file c.args.name.now) c.self.view_is)
