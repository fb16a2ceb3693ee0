use Rattle.std.proofs.Common.{rules, ap, sym, subst, refl, ◌≡◌, ◌≢◌, ◌∙◌, ◌≤◌, ℕ, codes, map, Some, None, [], unwrap_or}
use Rattle.clap.specs.Words.{all_of, first_of, found_of, one_of, one_text, rows_of}
use Rattle.clap.proofs.WalkLemmas.{first_value-rows, one_text-rows, raw_values-rows}
use Rattle.std.specs.Str.Parse.{ParsesUnsigned, ExplainsUnsignedError, HasUnsignedDigitsIfOk}
use Rattle.rh_desk.specs.declared.command_line.TheConstants.{PAGES}
use Rattle.rh_desk.specs.Requests.{AsksPages}
use Rattle.rh_desk.proofs.RequestLemmas.{asks-no-file, asks-no-pages, asks-no-script, both-are, pages-are, pages-fit, words-are}
use Rattle.rh_desk.proofs.command_line.request_of.Goals.{then-pages-via-then-pages, then-pages-via-else-pages+then-pages-2}
use Rattle.rh_desk.proofs.command_line.request_of.Goals as goal
use Rattle.rh_defs.specs.declared.sizes.TheConstants.{MIN_PAGES}
use Rattle.rh_defs.specs.Forms.{most_pages}

pub returns-then-eq-clause-asked : goal.returns-then-eq-clause-asked
returns-then-eq-clause-asked c =
    let row = both-are _ _ _ _ _ c.in_ok-name.ensures.name c.in_ok-name.ensures.rows in
    let check : c.in_ok-name.name.now ≡ codes "check" = search rules in
    let file : first_of (codes "file") (rows_of (found_of c.in_ok-name.found.now)) ≡ Some c.in_ok-file.file.now =
    sym (first_value-rows (found_of c.in_ok-name.found.now) (codes "file")) ∙ sym c.in_ok-file.ensures in
    rw row (check, c.image_kind-kind.ensures, file)

pub returns-clause-asked : goal.returns-clause-asked
returns-clause-asked c =
    let row = both-are _ _ _ _ _ c.in_ok-name.ensures.name c.in_ok-name.ensures.rows in
    let run : c.in_ok-name.name.now ≢ codes "check" = search rules in
    let script : first_of (codes "script") (rows_of (found_of c.in_ok-name.found.now)) ≡ Some c.in_ok-script.script.now =
    sym (first_value-rows (found_of c.in_ok-name.found.now) (codes "script")) ∙ sym c.in_ok-script.ensures in
    let pages : AsksPages (one_of (codes "pages") (rows_of (found_of c.in_ok-name.found.now))) c.unwrap_or-pages.result =
    rw c.unwrap_or-pages.ensures (subst (λ o. AsksPages o (unwrap_or c.get_one.result PAGES)) (one_text-rows (found_of c.in_ok-name.found.now) (codes "pages"))
    (pages-are (λ bs r. ParsesUnsigned 32 10 bs r × ExplainsUnsignedError 10 bs r × HasUnsignedDigitsIfOk bs r) _ c.get_one.result (λ t x g. g.0)
    c.get_one.ensures.none c.get_one.ensures.value)) in
    let files : map (λ v. v.now) c.unwrap_or-files.result.now ≡ unwrap_or (all_of (codes "files") (rows_of (found_of c.in_ok-name.found.now))) [] =
    ap (λ s. map (λ v. v.now) s.now) c.unwrap_or-files.ensures
    ∙ words-are _ _ _ (c.get_strs.ensures ∙ raw_values-rows (found_of c.in_ok-name.found.now) (codes "files")) refl in
    rw row (run, pages, script, files, c.shown_of.ensures.shown)

pub returns-in_err-file-clause-none : goal.returns-in_err-file-clause-none
returns-in_err-file-clause-none c = λ none.
    let row = both-are _ _ _ _ _ c.in_ok-name.ensures.name c.in_ok-name.ensures.rows in
    let check : c.in_ok-name.name.now ≡ codes "check" = search rules in
    let lost : first_of (codes "file") (rows_of (found_of c.in_ok-name.found.now)) ≡ None =
    sym (first_value-rows (found_of c.in_ok-name.found.now) (codes "file")) ∙ sym c.in_err-file.ensures in
    rw row (asks-no-file c.in_ok-name.name.now (rows_of (found_of c.in_ok-name.found.now)) check lost)

pub returns-in_err-script-clause-none : goal.returns-in_err-script-clause-none
returns-in_err-script-clause-none c = λ none.
    let row = both-are _ _ _ _ _ c.in_ok-name.ensures.name c.in_ok-name.ensures.rows in
    let run : c.in_ok-name.name.now ≢ codes "check" = search rules in
    let lost : first_of (codes "script") (rows_of (found_of c.in_ok-name.found.now)) ≡ None =
    sym (first_value-rows (found_of c.in_ok-name.found.now) (codes "script")) ∙ sym c.in_err-script.ensures in
    rw row (asks-no-script c.in_ok-name.name.now (rows_of (found_of c.in_ok-name.found.now)) run lost)

pub returns-then-pages-clause-none : goal.returns-then-pages-clause-none
returns-then-pages-clause-none c = λ none.
    let row = both-are _ _ _ _ _ c.in_ok-name.ensures.name c.in_ok-name.ensures.rows in
    let run : c.in_ok-name.name.now ≢ codes "check" = search rules in
    let fit : (asked : ℕ) → MIN_PAGES ≤ asked → asked ≤ most_pages → AsksPages (one_of (codes "pages") (rows_of (found_of c.in_ok-name.found.now))) asked
    → (MIN_PAGES ≤ c.unwrap_or-pages.result) × (c.unwrap_or-pages.result ≤ most_pages) =
    λ asked least most asks. rw c.unwrap_or-pages.ensures
    (pages-fit (λ bs r. ParsesUnsigned 32 10 bs r × ExplainsUnsignedError 10 bs r × HasUnsignedDigitsIfOk bs r)
    (one_text (found_of c.in_ok-name.found.now) (codes "pages")) c.get_one.result (λ t x g. g.0)
    c.get_one.ensures.none c.get_one.ensures.value asked least most (subst (λ o. AsksPages o asked)
    (sym (one_text-rows (found_of c.in_ok-name.found.now) (codes "pages"))) asks)) in
    let out : (MIN_PAGES ≤ c.unwrap_or-pages.result) × (c.unwrap_or-pages.result ≤ most_pages) → ⊥ = elim c.then-pages.branch [
      | then-pages-via-then-pages w ↦ λ range. let least = range.0 in let most = range.1 in search rules
      | then-pages-via-else-pages+then-pages-2 w ↦ λ range. let least = range.0 in let most = range.1 in search rules
    ] in
    rw row (asks-no-pages c.in_ok-name.name.now (rows_of (found_of c.in_ok-name.found.now)) c.unwrap_or-pages.result run fit out)
