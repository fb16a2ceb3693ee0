-- The named files of a desk against the map that holds them.
use Rattle.std.proofs.Common.{◌≡◌, ℕ, ◌≤◌, true, false, cond, refl, sym, ap, subst, ◌∙◌, List, [], ◌∷◌, ◌++◌, length, Some, None}
use Rattle.std.specs.Prelude.{Option, find, is_some, ◌||◌}
use Rattle.std.specs.Option.{option_map}
use Rattle.std.proofs.lemmas.Bool.Decides.{same_from_decides}
use Rattle.std.proofs.lemmas.Slice.Eq.{bytes_eq-Decides}
use Rattle.std.specs.Str.{bytes_eq}
use Rattle.std.specs.Map.{lookup}
use Rattle.rh_defs.specs.Files.{FileList, file_bytes, has_file, AreShort}
use Rattle.rh_defs.specs.declared.sizes.TheConstants.{LONGEST_FILE}
use Rattle.vf_desk.specs.FileRows.{file_rows, kept_bytes}
use Rattle.vf_desk.specs.declared.desk_files.FileBytes.{FileBytes}

-- a file has the name exactly where a look-up finds one
pub has_file-lookup : (name : List ℕ) (entries : List (List ℕ × FileBytes)) → has_file name (file_rows entries) ≡ is_some (lookup (bytes_eq name) entries)
has_file-lookup name [] = refl
has_file-lookup name (e ∷ entries) =
    elim (bytes_eq name e.0) as (λ b. (b || has_file name (file_rows entries)) ≡ is_some (cond b (Some e.1) (lookup (bytes_eq name) entries)))
    [ true ↦ refl | false ↦ has_file-lookup name entries ]

-- where nothing has the name, a look-up finds none
pub lookup-none : (name : List ℕ) (entries : List (List ℕ × FileBytes)) → has_file name (file_rows entries) ≡ false → lookup (bytes_eq name) entries ≡ None
lookup-none name entries h = none_of (lookup (bytes_eq name) entries) (sym (has_file-lookup name entries) ∙ h)
  where
    none_of : (o : Option (FileBytes)) → is_some o ≡ false → o ≡ None
    none_of None e = refl
    none_of (Some x) e = absurd (cc)

pub file_rows-append : (entries : List (List ℕ × FileBytes)) (e : List ℕ × FileBytes)
    → file_rows (entries ++ e ∷ []) ≡ file_rows entries ++ (e.0, kept_bytes e.1) ∷ []
file_rows-append [] e = refl
file_rows-append (x ∷ entries) e = ap (λ rest. (x.0, kept_bytes x.1) ∷ rest) (file_rows-append entries e)

bytes_eq-turned : (a b : List ℕ) → bytes_eq a b ≡ bytes_eq b a
bytes_eq-turned a b = same_from_decides (bytes_eq a b) (bytes_eq b a) (bytes_eq-Decides a b)
    ((λ h. sym ((bytes_eq-Decides b a).0 h)), (λ h. (bytes_eq-Decides b a).1 (sym h)))

-- the bytes that a look-up finds
pub file_bytes-lookup : (name : List ℕ) (entries : List (List ℕ × FileBytes))
    → file_bytes name (file_rows entries) ≡ option_map kept_bytes (lookup (bytes_eq name) entries)
file_bytes-lookup name [] = refl
file_bytes-lookup name (e ∷ entries) =
    rw (bytes_eq-turned e.0 name) (elim (bytes_eq name e.0) as (λ b. option_map (λ (file : List ℕ × List ℕ). file.1)
    (cond b (Some (e.0, kept_bytes e.1)) (find (λ (file : List ℕ × List ℕ). bytes_eq file.0 name) (file_rows entries))) ≡ option_map kept_bytes
    (cond b (Some e.1) (lookup (bytes_eq name) entries)))
    [ true ↦ refl | false ↦ file_bytes-lookup name entries ])

-- a file that is found is short
pub found-short : (name : List ℕ) (files : FileList) (bytes : List ℕ) → AreShort files → file_bytes name files ≡ Some bytes → length bytes ≤ LONGEST_FILE
found-short name [] bytes all e = absurd (cc)
found-short name (file ∷ files) bytes all e =
    elim (bytes_eq file.0 name) as (λ b. option_map (λ (f : List ℕ × List ℕ). f.1)
    (cond b (Some file) (find (λ (f : List ℕ × List ℕ). bytes_eq f.0 name) files)) ≡ Some bytes → length bytes ≤ LONGEST_FILE) [
      | true ↦ λ (q : Some file.1 ≡ Some bytes). (let r : file.1 ≡ bytes = cc in let P : List ℕ → Type 0 = λ l. length l ≤ LONGEST_FILE in subst P r all.0)
      | false ↦ λ (q : file_bytes name files ≡ Some bytes). found-short name files bytes all.1 q
    ] e

pub AreShort-append : (files : FileList) (file : List ℕ × List ℕ) → AreShort files → length file.1 ≤ LONGEST_FILE → AreShort (files ++ file ∷ [])
AreShort-append [] file all h = (h, tt)
AreShort-append (x ∷ files) file all h = (all.0, AreShort-append files file all.1 h)
