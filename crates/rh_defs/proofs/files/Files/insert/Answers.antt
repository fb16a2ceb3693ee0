use Rattle.rh_defs.proofs.Common.{arith, ◌≡◌, ◌∙◌, sym, subst, ap, ◌++◌, ◌∷◌, [], false, has_file, contents_of}
use Rattle.indexmap.proofs.CallerLemmas.{insert_entry-new}
use Rattle.rh_defs.specs.Files.{AreShort}
use Rattle.rh_defs.proofs.FileLemmas.{lookup-none, contents_of-append, AreShort-append}
use Rattle.rh_defs.proofs.files.Files.insert.Goals as goal

pub returns-clause-ok : goal.returns-clause-ok
returns-clause-ok c =
    let m = c.self.inside.contents in
    let absent : has_file c.args.name (contents_of m.entries) ≡ false = ap (has_file c.args.name) c.self.view_is ∙ c.requires.new_name in
    let entries = c.in_ok-insert.ensures.entries in
    ap contents_of (entries ∙ insert_entry-new _ m c.args.name c.args.bytes (lookup-none c.args.name m.entries absent))
    ∙ (contents_of-append m.entries (c.args.name, c.args.bytes) ∙ ap (λ files. files ++ (c.args.name, c.args.bytes.items) ∷ []) c.self.view_is)

pub invariant_of-self-2 : goal.invariant_of-self-2
invariant_of-self-2 c =
    let m = c.self.inside.contents in
    let absent : has_file c.args.name (contents_of m.entries) ≡ false = ap (has_file c.args.name) c.self.view_is ∙ c.requires.new_name in
    let is = ap contents_of (c.in_ok-insert.ensures.entries ∙ insert_entry-new _ m c.args.name c.args.bytes (lookup-none c.args.name m.entries absent))
    ∙ contents_of-append m.entries (c.args.name, c.args.bytes) in
    subst AreShort (sym is) (AreShort-append (contents_of m.entries) (c.args.name, c.args.bytes.items) c.self.invariant
    (omega (arith, c.requires.small, c.args.bytes.ok)))
