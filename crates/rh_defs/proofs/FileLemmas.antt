-- The named files against the map that holds them.
use Rattle.rh_defs.proofs.Common.{◌≡◌, ℕ, ◌≤◌, true, false, cond, ◌||◌, refl, sym, ap, subst, ◌∙◌, List, [], ◌∷◌, ◌++◌, length, is_some, Option, Some, None}
use Rattle.rh_defs.proofs.Common.{Vec, find, option_map, contents_of, has_file}
use Rattle.std.proofs.lemmas.Bool.Decides.{same_from_decides}
use Rattle.std.proofs.lemmas.Slice.Eq.{bytes_eq-Decides}
use Rattle.std.specs.Str.{bytes_eq}
use Rattle.std.specs.Map.{lookup}
use Rattle.std.specs.declared.alloc.Global.{Global}
use Rattle.rh_defs.specs.Files.{FileList, file_bytes, AreShort}
use Rattle.rh_defs.specs.declared.sizes.TheConstants.{LONGEST_FILE}

-- a file has the name exactly where a look-up finds one
pub has_file-lookup : (name : List ℕ) (entries : List (List ℕ × Vec ℕ Global)) → has_file name (contents_of entries) ≡ is_some (lookup (bytes_eq name) entries)
has_file-lookup name [] = refl
has_file-lookup name (e ∷ entries) =
    elim (bytes_eq name e.0) as (λ b. (b || has_file name (contents_of entries)) ≡ is_some (cond b (Some e.1) (lookup (bytes_eq name) entries)))
    [ true ↦ refl | false ↦ has_file-lookup name entries ]

-- where nothing has the name, a look-up finds none
pub lookup-none : (name : List ℕ) (entries : List (List ℕ × Vec ℕ Global)) → has_file name (contents_of entries) ≡ false → lookup (bytes_eq name) entries ≡ None
lookup-none name entries h = none_of (lookup (bytes_eq name) entries) (sym (has_file-lookup name entries) ∙ h)
  where
    none_of : (o : Option (Vec ℕ Global)) → is_some o ≡ false → o ≡ None
    none_of None e = refl
    none_of (Some x) e = absurd (cc)

pub contents_of-append : (entries : List (List ℕ × Vec ℕ Global)) (e : List ℕ × Vec ℕ Global)
    → contents_of (entries ++ e ∷ []) ≡ contents_of entries ++ (e.0, e.1.items) ∷ []
contents_of-append [] e = refl
contents_of-append (x ∷ entries) e = ap (λ rest. (x.0, x.1.items) ∷ rest) (contents_of-append entries e)

bytes_eq-turned : (a b : List ℕ) → bytes_eq a b ≡ bytes_eq b a
bytes_eq-turned a b = same_from_decides (bytes_eq a b) (bytes_eq b a) (bytes_eq-Decides a b)
    ((λ h. sym ((bytes_eq-Decides b a).0 h)), (λ h. (bytes_eq-Decides b a).1 (sym h)))

-- the bytes that a look-up finds
pub file_bytes-lookup : (name : List ℕ) (entries : List (List ℕ × Vec ℕ Global))
    → file_bytes name (contents_of entries) ≡ option_map (λ v. v.items) (lookup (bytes_eq name) entries)
file_bytes-lookup name [] = refl
file_bytes-lookup name (e ∷ entries) =
    rw (bytes_eq-turned e.0 name) (elim (bytes_eq name e.0) as (λ b. option_map (λ (file : List ℕ × List ℕ). file.1)
    (cond b (Some (e.0, e.1.items)) (find (λ (file : List ℕ × List ℕ). bytes_eq file.0 name) (contents_of entries))) ≡ option_map (λ v. v.items)
    (cond b (Some e.1) (lookup (bytes_eq name) entries)))
    [ true ↦ refl | false ↦ file_bytes-lookup name entries ])

-- a file that is found is short
pub found-short : (name : List ℕ) (files : FileList) (bytes : List ℕ) → AreShort files → file_bytes name files ≡ Some bytes → length bytes ≤ LONGEST_FILE
found-short name [] bytes all e = absurd (cc)
found-short name (file ∷ files) bytes all e =
    elim (bytes_eq file.0 name) as (λ b. option_map (λ (f : List ℕ × List ℕ). f.1)
    (cond b (Some file) (find (λ (f : List ℕ × List ℕ). bytes_eq f.0 name) files)) ≡ Some bytes → length bytes ≤ LONGEST_FILE) [
      | true ↦ λ (q : Some file.1 ≡ Some bytes). (let r : file.1 ≡ bytes = cc in let P : List ℕ → Type 0 = λ l. length l ≤ LONGEST_FILE in subst P r all.0)
      | false ↦ λ (q : file_bytes name files ≡ Some bytes). found-short name files bytes all.1 q
    ] e

pub AreShort-append : (files : FileList) (file : List ℕ × List ℕ) → AreShort files → length file.1 ≤ LONGEST_FILE → AreShort (files ++ file ∷ [])
AreShort-append [] file all h = (h, tt)
AreShort-append (x ∷ files) file all h = (all.0, AreShort-append files file all.1 h)
