-- How a run, a check and the words end, from what their calls say.
use Rattle.std.proofs.Common.{◌≡◌, ◌≢◌, inl, inr, refl, sym, ap, subst, ◌∙◌, ℕ, ◌+◌, ◌≤◌, ◌<◌, min, arith, true, false, Bool, Bor, List, [], ◌∷◌, ◌++◌}
use Rattle.std.proofs.Common.{length, map, take, codes, Option, Some, None, Result, Ok, Err, IfOk, IfErr, IfSome, option_map}
use Rattle.std.proofs.lemmas.List.{length-take, take_all}
use Rattle.std.specs.Prelude.{All, IsErrOf}
use Rattle.std.specs.Io.Take.{take_inner, take_limit, take_remaining}
use Rattle.std.specs.declared.io.ErrorKind.{ErrorKind}
use Rattle.std.specs.declared.io.ErrorKind.TheVariants as error
use Rattle.std.specs.declared.io.traits.Take.{Take}
use Rattle.rh_defs.specs.Desk.{Desk}
use Rattle.rh_defs.specs.Files.{FileList}
use Rattle.rh_defs.specs.Runs.{start}
use Rattle.rh_defs.specs.declared.sizes.TheConstants.{LONGEST_FILE, MOST_READS}
use Rattle.rh_lines.specs.Flow.{Breaks, Input, Takes}
use Rattle.rh_session.specs.Outcome.{Answered, Finished, BrokeOff}
use Rattle.rh_session.specs.declared.status.RunFault.{RunFault}
use Rattle.rh_session.specs.declared.status.RunFault.TheVariants.{NoMemory, ReadFailed, WriteFailed, TooLong}
use Rattle.rh_session.specs.declared.status.Status.{Status}
use Rattle.rh_session.specs.declared.status.Status.TheVariants as status
use Rattle.clap.specs.Words.{Row, Text, fault_of, subcommand_of}
use Rattle.clap.specs.declared.error.kind.ErrorKind.TheVariants as kind
use Rattle.rh_pictures.specs.declared.sheet.form.SheetForm.{SheetForm}
use Rattle.rh_desk.specs.CommandLine.{program_words}
use Rattle.rh_desk.specs.Done.{CheckOver, ExplainOver}
use Rattle.rh_desk.specs.Done.{FileOver, IsWhole, MapOver, RequestEnds, RunEnds, RunOver, SheetOver, ShownOver, Streams, Untouched}
use Rattle.rh_desk.specs.Done.{WordsEnd, line_as, status_as}
use Rattle.rh_desk.specs.ProgramEnd.{ending_of}
use Rattle.rh_desk.specs.FileWords.{AreGood, word_name}
use Rattle.rh_desk.specs.Reasons.{MayBeLost, loss_of}
use Rattle.rh_desk.specs.Requests.{AsksFor}
use Rattle.rh_desk.specs.declared.program_end.ProgramEnd.{ProgramEnd}
use Rattle.rh_desk.specs.declared.program_end.ProgramEnd.TheVariants.{Clean, BadLines}
use Rattle.rh_desk.specs.declared.reasons.FileLoss.{FileLoss}
use Rattle.rh_desk.specs.declared.reasons.FileLoss.TheVariants as loss
use Rattle.rh_desk.specs.declared.request.ImageKind.{ImageKind}
use Rattle.rh_desk.specs.declared.request.Request.{Request}
use Rattle.rh_desk.specs.declared.request.Shown.{Shown}
use Rattle.rh_explained.specs.Explained.{Explained, ExplainedSoFar, ExplainedUntil}
use Rattle.rh_pictures.specs.Mapped.{Mapped, MappedSoFar, MappedUntil}
use Rattle.rh_figure.specs.Map.{place}
use Rattle.rh_pictures.specs.Painted.{Painted, PaintedSoFar, PaintedUntil}
use Rattle.rh_desk.specs.Telling.{Tells, TellsBadFile, TellsFolder, run_fault_text}
use Rattle.rh_lines.specs.Flow.{Output}

cut : (n : ℕ) (known : Option (List ℕ)) (old new : List ℕ) → IfSome (option_map (take n) known) (λ xs. new ≡ old ++ xs)
    → IfSome known (λ had. new ≡ old ++ take n had)
cut n None old new is = is
cut n (Some had) old new is = is

-- what was read of a file through a reader that stops at a limit
pub cut-file : {F : Type 0} (remaining : F → Option (List ℕ)) (t : Take F) (file : F) (limit : ℕ) (old new : List ℕ) → take_limit t ≡ limit
    → take_inner t ≡ file → IfSome (take_remaining remaining t) (λ xs. new ≡ old ++ xs) → IfSome (remaining file) (λ had. new ≡ old ++ take limit had)
cut-file remaining t file limit old new at of is =
    subst (λ f. IfSome (remaining f) (λ had. new ≡ old ++ take limit had)) of
    (subst (λ n. IfSome (remaining (take_inner t)) (λ had. new ≡ old ++ take n had)) at (cut (take_limit t) (remaining (take_inner t)) old new is))

whole-of : (most : ℕ) (had : Option (List ℕ)) (bytes : List ℕ) → length bytes ≤ most → IfSome had (λ xs. bytes ≡ [] ++ take (most + 1) xs)
    → IfSome had (λ xs. bytes ≡ xs)
whole-of most None bytes small is = is
whole-of most (Some xs) bytes small is =
    let size : length bytes ≡ min (most + 1) (length xs) = ap length is ∙ length-take (most + 1) xs in
    let short : length xs ≤ most + 1 = omega arith in
    is ∙ take_all (most + 1) xs short

-- bytes that are no more than a file may have are all that it had
pub whole-is : {F : Type 0} (remaining : F → Option (List ℕ)) (old bytes : List ℕ) → old ≡ [] → length bytes ≤ LONGEST_FILE
    → ((file : F) × IfSome (remaining file) (λ had. bytes ≡ old ++ take (LONGEST_FILE + 1) had)) → IsWhole remaining bytes
whole-is remaining old bytes none small found = (
  small,
  (
    found.0,
    whole-of LONGEST_FILE (remaining found.0) bytes small (subst (λ l. IfSome (remaining found.0) (λ had. bytes ≡ l ++ take (LONGEST_FILE + 1) had)) none
        found.1),
  ),
)

long-of : (had : Option (List ℕ)) (bytes : List ℕ) → LONGEST_FILE < length bytes → IfSome had (λ xs. bytes ≡ [] ++ take (LONGEST_FILE + 1) xs)
    → IfSome had (λ xs. LONGEST_FILE < length xs)
long-of None bytes long is = is
long-of (Some xs) bytes long is =
    let size : length bytes ≡ min (LONGEST_FILE + 1) (length xs) = ap length is ∙ length-take (LONGEST_FILE + 1) xs in
    omega arith

-- bytes that are more than a file may have are the front of a file that is too long
pub too-long : {F : Type 0} (remaining : F → Option (List ℕ)) (old bytes : List ℕ) → old ≡ [] → LONGEST_FILE < length bytes
    → ((file : F) × IfSome (remaining file) (λ had. bytes ≡ old ++ take (LONGEST_FILE + 1) had)) → MayBeLost remaining loss.TooLong
too-long remaining old bytes none long found = (
  found.0,
  long-of (remaining found.0) bytes long (subst (λ l. IfSome (remaining found.0) (λ had. bytes ≡ l ++ take (LONGEST_FILE + 1) had)) none found.1),
)

by-error : {F : Type 0} (remaining : F → Option (List ℕ)) (kind : ErrorKind) → MayBeLost remaining (loss_of kind)
by-error remaining error.NotFound = tt
by-error remaining error.NotADirectory = tt
by-error remaining error.IsADirectory = tt
by-error remaining error.PermissionDenied = tt
by-error remaining kind = tt

-- an error of the system's may lose a file
pub lost-by : {F : Type 0} (remaining : F → Option (List ℕ)) (kind : ErrorKind) (why : FileLoss) → why ≡ loss_of kind → MayBeLost remaining why
lost-by remaining kind why is = subst (λ l. MayBeLost remaining l) (sym is) (by-error remaining kind)

-- how a run ends the program
pub run-over : (d : Desk) (s : Streams) (outcome : Result Status RunFault) → IfOk outcome (λ status. Finished d s.before s.after s.old s.new status)
    → (IsErrOf outcome NoMemory → (s.after ≡ s.before) × (s.new ≡ s.old))
    → (IsErrOf outcome ReadFailed → s.after.failed ≡ true)
    → (IsErrOf outcome ReadFailed → Answered d s.before s.after s.old s.new)
    → (IsErrOf outcome TooLong → (s.after.reads ≡ MOST_READS) × (s.after.failed ≡ s.before.failed))
    → (IsErrOf outcome TooLong → Answered d s.before s.after s.old s.new)
    → (IsErrOf outcome WriteFailed → BrokeOff d s.before s.old s.new)
    → ((status : Status) → outcome ≡ Ok status → s.errors_new ≡ s.errors_old)
    → ((fault : RunFault) → outcome ≡ Err fault → Tells s.errors_old s.errors_new (run_fault_text fault))
    → RunOver d s (ending_of outcome)
run-over d s (Ok status.Clean) ok memory read answered long so_far broke quiet errors = (ok, quiet status.Clean refl)
run-over d s (Ok status.BadLines) ok memory read answered long so_far broke quiet errors = (ok, quiet status.BadLines refl)
run-over d s (Err NoMemory) ok memory read answered long so_far broke quiet errors = (NoMemory, memory refl, errors NoMemory refl)
run-over d s (Err ReadFailed) ok memory read answered long so_far broke quiet errors = (ReadFailed, (read refl, answered refl), errors ReadFailed refl)
run-over d s (Err TooLong) ok memory read answered long so_far broke quiet errors = (TooLong, ((long refl).0, (long refl).1, so_far refl), errors TooLong refl)
run-over d s (Err WriteFailed) ok memory read answered long so_far broke quiet errors = (WriteFailed, broke refl, errors WriteFailed refl)

-- how explanations end the program
pub explain-over : (d : Desk) (s : Streams) (outcome : Result Status RunFault)
    → IfOk outcome (λ status. Explained d s.before s.after s.old s.new status)
    → (IsErrOf outcome NoMemory → (s.after ≡ s.before) × (s.new ≡ s.old))
    → (IsErrOf outcome ReadFailed → s.after.failed ≡ true)
    → (IsErrOf outcome ReadFailed → ExplainedSoFar d s.before s.after s.old s.new)
    → (IsErrOf outcome TooLong → (s.after.reads ≡ MOST_READS) × (s.after.failed ≡ s.before.failed))
    → (IsErrOf outcome TooLong → ExplainedSoFar d s.before s.after s.old s.new)
    → (IsErrOf outcome WriteFailed → ExplainedUntil d s.before s.old s.new)
    → ((status : Status) → outcome ≡ Ok status → s.errors_new ≡ s.errors_old)
    → ((fault : RunFault) → outcome ≡ Err fault → Tells s.errors_old s.errors_new (run_fault_text fault))
    → ExplainOver d s (ending_of outcome)
explain-over d s (Ok status.Clean) ok memory read explained long so_far broke quiet errors = (ok, quiet status.Clean refl)
explain-over d s (Ok status.BadLines) ok memory read explained long so_far broke quiet errors = (ok, quiet status.BadLines refl)
explain-over d s (Err NoMemory) ok memory read explained long so_far broke quiet errors = (NoMemory, memory refl, errors NoMemory refl)
explain-over d s (Err ReadFailed) ok memory read explained long so_far broke quiet errors = (ReadFailed, (read refl, explained refl), errors ReadFailed refl)
explain-over d s (Err TooLong) ok memory read explained long so_far broke quiet errors =
    (TooLong, ((long refl).0, (long refl).1, so_far refl), errors TooLong refl)
explain-over d s (Err WriteFailed) ok memory read explained long so_far broke quiet errors = (WriteFailed, broke refl, errors WriteFailed refl)

-- how a map ends the program
pub map-over : (marked : Bool) (d : Desk) (s : Streams) (outcome : Result Status RunFault)
    → IfOk outcome (λ status. Mapped marked (place d 0 false) s.before s.after s.old s.new status)
    → (IsErrOf outcome NoMemory → (s.after ≡ s.before) × (s.new ≡ s.old))
    → (IsErrOf outcome ReadFailed → s.after.failed ≡ true)
    → (IsErrOf outcome ReadFailed → MappedSoFar marked (place d 0 false) s.before s.after s.old s.new)
    → (IsErrOf outcome TooLong → (s.after.reads ≡ MOST_READS) × (s.after.failed ≡ s.before.failed))
    → (IsErrOf outcome TooLong → MappedSoFar marked (place d 0 false) s.before s.after s.old s.new)
    → (IsErrOf outcome WriteFailed → MappedUntil marked (place d 0 false) s.before s.after s.old s.new)
    → ((status : Status) → outcome ≡ Ok status → s.errors_new ≡ s.errors_old)
    → ((fault : RunFault) → outcome ≡ Err fault → Tells s.errors_old s.errors_new (run_fault_text fault))
    → MapOver marked d s (ending_of outcome)
map-over marked d s (Ok status.Clean) ok memory read mapped long so_far broke quiet errors = (ok, quiet status.Clean refl)
map-over marked d s (Ok status.BadLines) ok memory read mapped long so_far broke quiet errors = (ok, quiet status.BadLines refl)
map-over marked d s (Err NoMemory) ok memory read mapped long so_far broke quiet errors = (NoMemory, memory refl, errors NoMemory refl)
map-over marked d s (Err ReadFailed) ok memory read mapped long so_far broke quiet errors = (ReadFailed, (read refl, mapped refl), errors ReadFailed refl)
map-over marked d s (Err TooLong) ok memory read mapped long so_far broke quiet errors =
    (TooLong, ((long refl).0, (long refl).1, so_far refl), errors TooLong refl)
map-over marked d s (Err WriteFailed) ok memory read mapped long so_far broke quiet errors = (WriteFailed, broke refl, errors WriteFailed refl)

-- how a sheet ends the program
pub sheet-over : (form : SheetForm) (name : List ℕ) (d : Desk) (s : Streams) (outcome : Result Status RunFault)
    → IfOk outcome (λ status. Painted form name d s.before s.after s.old s.new status)
    → (IsErrOf outcome NoMemory → (s.after ≡ s.before) × (s.new ≡ s.old))
    → (IsErrOf outcome ReadFailed → s.after.failed ≡ true)
    → (IsErrOf outcome ReadFailed → PaintedSoFar form name d s.before s.after s.old s.new)
    → (IsErrOf outcome TooLong → (s.after.reads ≡ MOST_READS) × (s.after.failed ≡ s.before.failed))
    → (IsErrOf outcome TooLong → PaintedSoFar form name d s.before s.after s.old s.new)
    → (IsErrOf outcome WriteFailed → PaintedUntil form name d s.before s.after s.old s.new)
    → ((status : Status) → outcome ≡ Ok status → s.errors_new ≡ s.errors_old)
    → ((fault : RunFault) → outcome ≡ Err fault → Tells s.errors_old s.errors_new (run_fault_text fault))
    → SheetOver form name d s (ending_of outcome)
sheet-over form name d s (Ok status.Clean) ok memory read painted long so_far broke quiet errors = (ok, quiet status.Clean refl)
sheet-over form name d s (Ok status.BadLines) ok memory read painted long so_far broke quiet errors = (ok, quiet status.BadLines refl)
sheet-over form name d s (Err NoMemory) ok memory read painted long so_far broke quiet errors = (NoMemory, memory refl, errors NoMemory refl)
sheet-over form name d s (Err ReadFailed) ok memory read painted long so_far broke quiet errors =
    (ReadFailed, (read refl, painted refl), errors ReadFailed refl)
sheet-over form name d s (Err TooLong) ok memory read painted long so_far broke quiet errors =
    (TooLong, ((long refl).0, (long refl).1, so_far refl), errors TooLong refl)
sheet-over form name d s (Err WriteFailed) ok memory read painted long so_far broke quiet errors = (WriteFailed, broke refl, errors WriteFailed refl)

check-ends : (k : ImageKind) (bytes : List ℕ) (s : Streams) (outcome : Result Status RunFault)
    → IfOk outcome (λ status. Takes s.old s.new (line_as k bytes))
    → IfOk outcome (λ status. status ≡ status_as k bytes)
    → IfErr outcome (λ fault. (fault ≡ WriteFailed) × Breaks s.old s.new (line_as k bytes))
    → ((status : Status) → outcome ≡ Ok status → s.errors_new ≡ s.errors_old)
    → ((fault : RunFault) → outcome ≡ Err fault → Tells s.errors_old s.errors_new (run_fault_text fault))
    → CheckOver k bytes s (ending_of outcome)
check-ends k bytes s (Ok status.Clean) takes is broke quiet errors = (sym is, takes, quiet status.Clean refl)
check-ends k bytes s (Ok status.BadLines) takes is broke quiet errors = (sym is, takes, quiet status.BadLines refl)
check-ends k bytes s (Err fault) takes is broke quiet errors =
    (broke.1, subst (λ f. Tells s.errors_old s.errors_new (run_fault_text f)) broke.0 (errors fault refl))

-- how a check of bytes ends the program
pub check-over : (k : ImageKind) (image bytes : List ℕ) (s : Streams) (outcome : Result Status RunFault) → image ≡ bytes
    → IfOk outcome (λ status. Takes s.old s.new (line_as k image))
    → IfOk outcome (λ status. status ≡ status_as k image)
    → IfErr outcome (λ fault. (fault ≡ WriteFailed) × Breaks s.old s.new (line_as k image))
    → ((status : Status) → outcome ≡ Ok status → s.errors_new ≡ s.errors_old)
    → ((fault : RunFault) → outcome ≡ Err fault → Tells s.errors_old s.errors_new (run_fault_text fault))
    → CheckOver k bytes s (ending_of outcome)
check-over k image bytes s outcome same takes is broke quiet errors =
    subst (λ b. CheckOver k b s (ending_of outcome)) same (check-ends k image s outcome takes is broke quiet errors)

-- what stops a run before its script
pub files-fail : {F : Type 0} (remaining : F → Option (List ℕ)) (shown : Shown) (pages : ℕ) (script : List ℕ) (words : List (List ℕ)) (s : Streams)
    (ending : ProgramEnd)
    → AreGood words → Untouched s → TellsBadFile remaining s.errors_old s.errors_new words ending → RunEnds remaining shown pages script words s ending
files-fail remaining shown pages script words s ending good still (inl bad) = inr (still, inl bad)
files-fail remaining shown pages script words s ending good still (inr lost) = inr (still, inr (good, lost))

names-of : (ws : List (Bor (List ℕ))) → map (λ w. word_name w.now) ws ≡ map word_name (map (λ w. w.now) ws)
names-of [] = refl
names-of (w ∷ ws) = ap (λ ns. word_name w.now ∷ ns) (names-of ws)

-- a script over the files of good words
pub script-over : {F : Type 0} (remaining : F → Option (List ℕ)) (shown : Shown) (pages : ℕ) (script : List ℕ) (ws : List (Bor (List ℕ)))
    (files : FileList) (s : Streams) (ending : ProgramEnd)
    → AreGood (map (λ w. w.now) ws) → map (λ file. file.0) files ≡ map (λ w. word_name w.now) ws → All (λ file. IsWhole remaining file.1) files
    → (script ≡ codes "-" → ShownOver shown script (start pages files) s ending)
    → (script ≢ codes "-" → FileOver remaining shown (start pages files) script s ending)
    → RunEnds remaining shown pages script (map (λ w. w.now) ws) s ending
script-over remaining shown pages script ws files s ending good named whole from_input from_file =
    inl (record { files = files; good = good; named = named ∙ names-of ws; whole = whole; from_input = from_input; from_file = from_file })

abbrev noted : {F : Type 0} → (F → Option (List ℕ)) → F → Bool → ℕ → Input → Output → Streams → Streams
noted remaining inner failed reads rest errors s =
    record s { before = record { left = remaining inner; failed = failed; reads = reads }; after = rest; errors_new = errors }

-- a file of which nothing is noted yet
pub file-over : {F : Type 0} (remaining : F → Option (List ℕ)) (shown : Shown) (d : Desk) (path : List ℕ) (s : Streams) (ending : ProgramEnd) (file inner : F)
    (failed : Bool) (reads : ℕ) (rest : Input) (errors : Output)
    → inner ≡ file → failed ≡ false → reads ≡ 0 → s.after ≡ s.before → TellsFolder errors s.errors_new ending
    → ShownOver shown path d (noted remaining inner failed reads rest errors s) ending
    → FileOver remaining shown d path s ending
file-over remaining shown d path s ending file inner failed reads rest errors of well none same folder over =
    let counted = subst (λ n. ShownOver shown path d (noted remaining inner failed n rest errors s) ending) none over in
    let flagged = subst (λ b. ShownOver shown path d (noted remaining inner b 0 rest errors s) ending) well counted in
    inl (same, (file, rest, errors, subst (λ f. ShownOver shown path d (noted remaining f false 0 rest errors s) ending) of flagged, folder))

-- the words are `clap`'s, and ask for this
pub words-ask : {F : Type 0} (remaining : F → Option (List ℕ)) (words : List (List ℕ)) (found : Option (Text × List Row)) (request : Request) (s : Streams)
    (ending : ProgramEnd)
    → found ≡ subcommand_of program_words words → fault_of program_words words ≡ [] → AsksFor found request → RequestEnds remaining request s ending
    → WordsEnd remaining words s ending
words-ask remaining words found request s ending is none asks ends = inl (none, (request, subst (λ f. AsksFor f request) is asks, ends))
