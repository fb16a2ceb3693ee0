use Rattle.rh_defs.proofs.Common.{sym, ap, ◌∙◌, option_map, contents_of}
use Rattle.std.specs.Option.{option_copied}
use Rattle.rh_defs.proofs.FileLemmas.{file_bytes-lookup, found-short}
use Rattle.rh_defs.proofs.files.Files.get.Goals as goal

pub returns-in_default-clause-value : goal.returns-in_default-clause-value
returns-in_default-clause-value c =
    rw (← c.self.view_is) (file_bytes-lookup c.args.name.now c.self.inside.contents.entries
    ∙ ap (option_map (λ v. v.items)) (sym c.get.ensures.value ∙ ap option_copied c.in_default.is))

pub returns-clause-value : goal.returns-clause-value
returns-clause-value c =
    rw (← c.self.view_is, c.as_slice.ensures.value) (file_bytes-lookup c.args.name.now c.self.inside.contents.entries
    ∙ ap (option_map (λ v. v.items)) (sym c.get.ensures.value ∙ ap option_copied c.in-Some.is))

pub returns-clause-short : goal.returns-clause-short
returns-clause-short c =
    found-short c.args.name.now (contents_of c.self.inside.contents.entries) c.as_slice.result.now c.self.invariant
    (rw c.as_slice.ensures.value (file_bytes-lookup c.args.name.now c.self.inside.contents.entries
    ∙ ap (option_map (λ v. v.items)) (sym c.get.ensures.value ∙ ap option_copied c.in-Some.is)))
