use Rattle.std.proofs.Common.{sym, ◌∙◌, ap}
use Rattle.rh_defs.specs.Files.{has_file}
use Rattle.vf_desk.proofs.FileLaws.{has_file-lookup}
use Rattle.vf_desk.proofs.desk_files.DeskFiles.contains.Goals as goal

pub returns : goal.returns
returns c =
    c.contains_key.ensures
    ∙ (sym (has_file-lookup c.args.name.now c.self.inside.contents.entries) ∙ ap (has_file c.args.name.now) c.self.view_is)
