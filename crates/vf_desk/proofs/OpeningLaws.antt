-- How a desk begins: calls that are refused, want of memory, and calls that are done.
use Rattle.vf_desk.proofs.Common.{◌≡◌, ℕ, List, [], ◌∷◌, ◌++◌, length, Option, Some, None, inl, inr, refl, sym, ap, subst, ◌∙◌, ◌≢◌, ◌==◌, ◌||◌, nat_lt}
use Rattle.vf_desk.proofs.Common.{not, is_some, if◌then◌else◌, Console, OpenDesk, console_in, is_name}
use Rattle.rh_defs.specs.Runs.{start_with}
use Rattle.rh_tasks.specs.Shown.{Shown}
use Rattle.vf_desk.specs.Inner.FirstConsole.{first_console}
use Rattle.vf_desk.specs.Opening.{Adds, IsFresh, Opens, Tries, file_status, opening_status}
use Rattle.vf_desk.specs.SeenDesk.{files_in}
use Rattle.vf_desk.specs.DeskStatus.{already_open, bad_argument, bad_length, file_exists, no_memory}
use Rattle.rh_defs.specs.declared.sizes.TheConstants.{LONGEST_FILE, MAX_PAGES, MIN_PAGES}
use Rattle.rh_defs.specs.Files.{FileList, has_file}

-- ---- a open desk that is new

-- a handle that has nothing, and a open desk that has nothing
pub record IsNew (held : Option OpenDesk) (fresh : OpenDesk) : Type 0 where
  pub files : fresh.files ≡ []
  pub console : fresh.console ≡ None
  pub empty : held ≡ None

-- what could be tried could
tried-zero : {tried status : ℕ} → Tries tried status → status ≡ 0 → tried ≡ 0
tried-zero (inl is) zero = sym is ∙ zero
tried-zero (inr both) zero = both.0

no_memory-some : no_memory ≢ 0
no_memory-some e = cc

-- an argument isn't good, or memory is refused for the open desk
module _ {held : Option OpenDesk} (empty : held ≡ None) {fault : ℕ} where
  module _ (name bytes : List ℕ) (is : fault ≡ file_status None name bytes) where
    first-file-status : fault ≡ file_status held name bytes
    first-file-status = is ∙ sym (ap (λ h. file_status h name bytes) empty)

    pub adds-bad : fault ≢ 0 → Adds name bytes held held fault
    adds-bad bad =
        record { tried = inl first-file-status; files = λ zero. absurd (bad zero); closed = λ zero. absurd (bad zero); refused = λ _. refl }

    pub adds-full : fault ≡ 0 → Adds name bytes held held no_memory
    adds-full zero = record {
      tried = inr (sym first-file-status ∙ zero, refl);
      files = λ done. absurd (no_memory-some done);
      closed = λ done. absurd (no_memory-some done);
      refused = λ _. refl;
    }

  module _ (pages handle ref : ℕ) (is : fault ≡ opening_status None pages handle ref) where
    first-open-status : fault ≡ opening_status held pages handle ref
    first-open-status = is ∙ sym (ap (λ h. opening_status h pages handle ref) empty)

    pub opens-bad : fault ≢ 0 → Opens pages handle ref held held fault
    opens-bad bad =
        record { tried = inl first-open-status; console = λ zero. absurd (bad zero); files = λ zero. absurd (bad zero); refused = λ _. refl }

    pub opens-full : fault ≡ 0 → Opens pages handle ref held held no_memory
    opens-full zero = record {
      tried = inr (sym first-open-status ∙ zero, refl);
      console = λ done. absurd (no_memory-some done);
      files = λ done. absurd (no_memory-some done);
      refused = λ _. refl;
    }

-- what a call on the new open desk came to, of one on the handle
module _ {held : Option OpenDesk} {fresh : OpenDesk} (is : IsNew held fresh) where
  same-console : console_in (Some fresh) ≡ console_in held
  same-console = is.console ∙ sym (ap console_in is.empty)

  same-files : files_in (Some fresh) ≡ files_in held
  same-files = is.files ∙ sym (ap files_in is.empty)

  module _ {name bytes : List ℕ} {new : OpenDesk} {status : ℕ} (adds : Adds name bytes (Some fresh) (Some new) status) where
    file-tried : Tries (file_status held name bytes) status
    file-tried =
        let of : Option Console → FileList → ℕ = λ c files.
        (if is_some c then already_open else if not (is_name name) then bad_argument
        else if nat_lt LONGEST_FILE (length bytes) then bad_length else if has_file name files then file_exists else 0) in
        let same : file_status (Some fresh) name bytes ≡ file_status held name bytes =
        ap (λ c. of c (files_in (Some fresh))) same-console ∙ ap (of (console_in held)) same-files in
        subst (λ n. Tries n status) same adds.tried

    pub adds-first-refused : status ≢ 0 → Adds name bytes held held status
    adds-first-refused bad =
        record { tried = file-tried; files = λ zero. absurd (bad zero); closed = λ zero. absurd (bad zero); refused = λ _. refl }

    pub adds-first-done : {now : Option OpenDesk} → status ≡ 0 → now ≡ Some new → Adds name bytes held now 0
    adds-first-done {now} zero put = record {
      tried = inl (sym (tried-zero file-tried zero));
      files = λ _. ap files_in put ∙ adds.files zero ∙ ap (λ l. l ++ (name, bytes) ∷ []) same-files;
      closed = λ _. ap console_in put ∙ adds.closed zero;
      refused = λ bad. absurd (bad refl);
    }

  module _ {pages handle ref : ℕ} {new : OpenDesk} {status : ℕ} (opens : Opens pages handle ref (Some fresh) (Some new) status) where
    open-tried : Tries (opening_status held pages handle ref) status
    open-tried =
        let of : Option Console → ℕ = λ c.
        (if is_some c then already_open
        else if nat_lt pages MIN_PAGES || nat_lt MAX_PAGES pages || handle == 0 || ref == 0 then bad_argument else 0) in
        subst (λ n. Tries n status) (ap of same-console) opens.tried

    pub opens-first-refused : status ≢ 0 → Opens pages handle ref held held status
    opens-first-refused bad =
        record { tried = open-tried; console = λ zero. absurd (bad zero); files = λ zero. absurd (bad zero); refused = λ _. refl }

    pub opens-first-done : {now : Option OpenDesk} → status ≡ 0 → now ≡ Some new → Opens pages handle ref held now 0
    opens-first-done {now} zero put =
        let opened = opens.console zero in
        record {
          tried = inl (sym (tried-zero open-tried zero));
          console = λ _. (opened.0, (ap console_in put ∙ opened.1.0, subst (λ l. IsFresh pages l handle ref opened.0) same-files opened.1.1));
          files = λ _. ap files_in put ∙ opens.files zero;
          refused = λ bad. absurd (bad refl);
        }

-- ---- a desk that is opened

already_open-some : already_open ≢ 0
already_open-some e = cc

closed-of : (console : Option Console) (rest : ℕ) → (if is_some console then already_open else rest) ≡ 0 → console ≡ None
closed-of None rest zero = refl
closed-of (Some console) rest zero = absurd (already_open-some zero)

pub opens-begun : {old new : OpenDesk} {world : Shown} {pages handle ref status : ℕ} → status ≡ opening_status (Some old) pages handle ref
    → status ≡ 0 → (old.console ≡ None → new.console ≡ Some (first_console world)) → new.files ≡ []
    → world.desk ≡ start_with pages old.files handle ref → Opens pages handle ref (Some old) (Some new) 0
opens-begun {world = world} is zero begun files desk = record {
  tried = inl (sym zero ∙ is);
  console = λ _. (first_console world, (begun (closed-of _ _ (sym is ∙ zero)), record { desk = desk; said = refl }));
  files = λ _. files;
  refused = λ bad. absurd (bad refl);
}
