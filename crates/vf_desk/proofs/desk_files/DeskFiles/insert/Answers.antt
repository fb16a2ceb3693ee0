use Rattle.std.proofs.Common.{◌≡◌, ◌∙◌, sym, subst, ap, ◌++◌, ◌∷◌, [], false}
use Rattle.indexmap.proofs.CallerLemmas.{insert_entry-new}
use Rattle.rh_defs.specs.Files.{AreShort, has_file}
use Rattle.vf_desk.specs.FileRows.{file_rows, kept_bytes}
use Rattle.vf_desk.proofs.FileLaws.{lookup-none, file_rows-append, AreShort-append}
use Rattle.vf_desk.proofs.desk_files.DeskFiles.insert.Goals as goal

pub returns-clause-ok : goal.returns-clause-ok
returns-clause-ok c =
    let m = c.self.inside.contents in
    let absent : has_file c.args.name (file_rows m.entries) ≡ false = ap (has_file c.args.name) c.self.view_is ∙ c.requires.new_name in
    let entries = c.in_ok-insert.ensures.entries in
    ap file_rows (entries ∙ insert_entry-new _ m c.args.name c.args.bytes (lookup-none c.args.name m.entries absent))
    ∙ (file_rows-append m.entries (c.args.name, c.args.bytes) ∙ ap (λ files. files ++ (c.args.name, kept_bytes c.args.bytes) ∷ []) c.self.view_is)

pub invariant_of-self-2 : goal.invariant_of-self-2
invariant_of-self-2 c =
    let m = c.self.inside.contents in
    let absent : has_file c.args.name (file_rows m.entries) ≡ false = ap (has_file c.args.name) c.self.view_is ∙ c.requires.new_name in
    let is = ap file_rows (c.in_ok-insert.ensures.entries ∙ insert_entry-new _ m c.args.name c.args.bytes (lookup-none c.args.name m.entries absent))
    ∙ file_rows-append m.entries (c.args.name, c.args.bytes) in
    subst AreShort (sym is) (AreShort-append (file_rows m.entries) (c.args.name, kept_bytes c.args.bytes) c.self.invariant
    c.requires.small)
