use Rattle.std.proofs.Common.{sym, ap, ◌∙◌}
use Rattle.std.specs.Option.{option_copied, option_map}
use Rattle.vf_desk.specs.FileRows.{file_rows, kept_bytes}
use Rattle.vf_desk.proofs.FileLaws.{file_bytes-lookup, found-short}
use Rattle.vf_desk.proofs.desk_files.DeskFiles.get.Goals as goal

pub returns-in_default-clause-value : goal.returns-in_default-clause-value
returns-in_default-clause-value c =
    rw (← c.self.view_is) (file_bytes-lookup c.args.name.now c.self.inside.contents.entries
    ∙ ap (option_map kept_bytes) (sym c.get.ensures.value ∙ ap option_copied c.in_default.is))

pub returns-clause-value : goal.returns-clause-value
returns-clause-value c =
    rw (← c.self.view_is, c.as_slice.ensures) (file_bytes-lookup c.args.name.now c.self.inside.contents.entries
    ∙ ap (option_map kept_bytes) (sym c.get.ensures.value ∙ ap option_copied c.in-Some.is))

pub returns-clause-short : goal.returns-clause-short
returns-clause-short c =
    found-short c.args.name.now (file_rows c.self.inside.contents.entries) c.as_slice.result.now c.self.invariant
    (rw c.as_slice.ensures (file_bytes-lookup c.args.name.now c.self.inside.contents.entries
    ∙ ap (option_map kept_bytes) (sym c.get.ensures.value ∙ ap option_copied c.in-Some.is)))
