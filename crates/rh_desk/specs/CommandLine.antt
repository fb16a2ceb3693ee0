-- What the program's words may be: `run [--pages N] SCRIPT [NAME=PATH ...]`, `explain` with the same words, `map` with
-- these and `--marked`, `draw` with `--lens` besides, and `check [--slot] FILE`.
use Rattle.std.specs.Prelude.{Some, codes, pos, true}
use Rattle.clap.specs.Lexer.{usize_max}
use Rattle.clap.specs.Simple.{App, new_app, new_rule, on_top, with_rule, with_subcommand}
use Rattle.clap.specs.Walk.{Rule, Text}
use Rattle.clap.specs.declared.builder.action.ArgAction.TheVariants.{Append, Set, SetTrue}
use Rattle.clap.specs.declared.builder.value_parser.ValueParser.TheVariants.{Signed}
use Rattle.rh_defs.specs.declared.sizes.TheConstants.{MAX_PAGES, MIN_PAGES}

-- `--pages N`, of as many as a pool may have
abbrev pub pages_rule : Rule
pages_rule = record (new_rule (codes "pages")) {
  long = Some (codes "pages");
  value_names = 1;
  parser = Some (Signed (pos MIN_PAGES) (pos MAX_PAGES));
}

-- one word that has to be there
abbrev pub needed_rule : Text → Rule
needed_rule id = record (new_rule id) { value_names = 1; required = true; action = Some Set }

-- any number of words
abbrev pub files_rule : Rule
files_rule = record (new_rule (codes "files")) {
  value_names = 1;
  range = Some (record { start_inclusive = 0; end_inclusive = usize_max });
  action = Some Append;
}

-- the words of a run, or of its explanations
abbrev pub script_words : Text → App
script_words name = with_rule (with_rule (with_rule (new_app name) pages_rule) (needed_rule (codes "script"))) files_rule

-- `--marked`, with no word behind it
abbrev pub marked_rule : Rule
marked_rule = record (new_rule (codes "marked")) { long = Some (codes "marked"); action = Some SetTrue }

-- the words of a picture of a script
abbrev pub picture_words : Text → App
picture_words name =
    with_rule (with_rule (with_rule (with_rule (new_app name) pages_rule) marked_rule) (needed_rule (codes "script"))) files_rule

-- `--lens`
abbrev pub lens_rule : Rule
lens_rule = record (new_rule (codes "lens")) { long = Some (codes "lens"); action = Some SetTrue }

-- the words of a sheet of a script
abbrev pub draw_words : App
draw_words = with_rule (with_rule (with_rule (with_rule (with_rule (new_app (codes "draw")) pages_rule) marked_rule) lens_rule)
    (needed_rule (codes "script"))) files_rule

-- `--slot`
abbrev pub slot_rule : Rule
slot_rule = record (new_rule (codes "slot")) { long = Some (codes "slot"); action = Some SetTrue }

abbrev pub check_words : App
check_words = with_rule (with_rule (new_app (codes "check")) slot_rule) (needed_rule (codes "file"))

-- a subcommand is required, and the program has a version
abbrev pub program_top : App
program_top = on_top (λ shape. record shape { has_version = true; subcommand_required = true }) (new_app (codes "vervainfile"))

abbrev pub program_words : App
program_words =
    with_subcommand (with_subcommand (with_subcommand (with_subcommand (with_subcommand program_top (script_words (codes "run")).top) (script_words (codes "explain")).top) (picture_words (codes "map")).top) draw_words.top) check_words.top
