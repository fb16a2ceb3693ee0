-- How a desk begins: files that are added, and when it is open.
use Rattle.std.specs.Prelude.{◌≡◌, ◌≢◌, ℕ, ◌==◌, nat_lt, ◌||◌, not, if◌then◌else◌, List, [], ◌∷◌, ◌++◌, length, Option, Some, None, is_some, ◌⊎◌}
use Rattle.rh_defs.specs.Files.{FileList, has_file}
use Rattle.rh_defs.specs.Forms.{is_name}
use Rattle.rh_defs.specs.Runs.{start_with}
use Rattle.rh_defs.specs.declared.sizes.TheConstants.{MAX_PAGES, MIN_PAGES, LONGEST_FILE}
use Rattle.vf_desk.specs.declared.console.Console.{Console}
use Rattle.vf_desk.specs.declared.said.Said.TheVariants as said
use Rattle.vf_desk.specs.declared.open_desk.OpenDesk.{OpenDesk}
use Rattle.vf_desk.specs.SeenDesk.{console_in, files_in}
use Rattle.vf_desk.specs.DeskStatus.{already_open, bad_argument, bad_length, file_exists, no_memory}

-- 0 where a file can be added, if memory is granted
abbrev pub file_status : Option OpenDesk → List ℕ → List ℕ → ℕ
file_status held name bytes =
    if is_some (console_in held) then already_open
    else if not (is_name name) then bad_argument
    else if nat_lt LONGEST_FILE (length bytes) then bad_length
    else if has_file name (files_in held) then file_exists
    else 0

-- 0 where a desk can be opened, if memory is granted: 8 to 1,024 pages, handles and refs from 1 on
abbrev pub opening_status : Option OpenDesk → ℕ → ℕ → ℕ → ℕ
opening_status held pages handle ref =
    if is_some (console_in held) then already_open
    else if nat_lt pages MIN_PAGES || nat_lt MAX_PAGES pages || handle == 0 || ref == 0 then bad_argument
    else 0

-- a call that can be done is, or memory is refused; any other answers why it can't
abbrev pub Tries : ℕ → ℕ → Type 0
Tries tried status = (status ≡ tried) ⊎ ((tried ≡ 0) × (status ≡ no_memory))

-- A file is added behind the others. With any status but 0 all that the handle has stays.
pub record Adds (name bytes : List ℕ) (old new : Option OpenDesk) (status : ℕ) : Type 0 where
  pub tried : Tries (file_status old name bytes) status
  pub files : status ≡ 0 → files_in new ≡ files_in old ++ (name, bytes) ∷ []
  pub closed : status ≡ 0 → console_in new ≡ None
  pub refused : status ≢ 0 → new ≡ old

-- a desk that was just opened: no line was answered yet
pub record IsFresh (pages : ℕ) (files : FileList) (handle ref : ℕ) (console : Console) : Type 0 where
  pub desk : console.world.desk ≡ start_with pages files handle ref
  pub said : console.said ≡ said.Nothing

-- A desk is opened with the files that were added. With any status but 0 all that the handle has stays.
pub record Opens (pages handle ref : ℕ) (old new : Option OpenDesk) (status : ℕ) : Type 0 where
  pub tried : Tries (opening_status old pages handle ref) status
  pub console : status ≡ 0 → (c : Console) × ((console_in new ≡ Some c) × IsFresh pages (files_in old) handle ref c)
  pub files : status ≡ 0 → files_in new ≡ []
  pub refused : status ≢ 0 → new ≡ old
