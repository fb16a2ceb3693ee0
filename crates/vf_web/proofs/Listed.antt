-- Files that stand one behind the other, walked one by one.
use Rattle.std.proofs.Common.{◌≡◌, ℕ, zero, suc, ◌+◌, ◌<◌, ◌≤◌, Bool, true, false, cond, ◌||◌, refl, sym, ap, subst, ◌∙◌, List, [], ◌∷◌, length}
use Rattle.std.proofs.Common.{is_some, Option, Some, None, arith, drop, take, length-drop, nat_lt}
use Rattle.std.proofs.lemmas.Bool.Decides.{same_from_decides}
use Rattle.std.proofs.lemmas.Slice.Eq.{bytes_eq-Decides}
use Rattle.std.specs.Str.{bytes_eq}
use Rattle.std.specs.Prelude.{find, option_and_then}
use Rattle.std.specs.Option.{option_map}
use Rattle.rh_defs.specs.Files.{FileList, file_bytes, has_file}
use Rattle.rh_defs.specs.Bytes.{word}
use Rattle.rh_defs.specs.declared.sizes.TheConstants.{WORD}
use Rattle.vf_web.specs.Packed.{are_apart, files_within, front_file, packed_files, named_file}

-- a file, and the bytes behind it
abbrev Found : Type 0
Found = (List ℕ × List ℕ) × List ℕ

some_of : {X : Type 0} → (b : Bool) (x y : X) → cond b (Some x) None ≡ Some y → x ≡ y
some_of b x y = elim b as (λ v. cond v (Some x) None ≡ Some y → x ≡ y) [ true ↦ λ e. cc | false ↦ λ e. absurd (cc) ]

named_file-fewer : (name : List ℕ) (size : ℕ) (rest : List ℕ) (found : Found) → named_file name size rest ≡ Some found → length found.1 ≤ length rest
unfolding named_file
named_file-fewer name size rest found e =
    let P : Found → Type 0 = λ f. length f.1 ≤ length rest in
    subst P (some_of _ ((name, take size rest), drop size rest) found e) (omega (arith, length-drop size rest))

-- what lies behind a file is less than what there was
pub front_file-fewer : (b : List ℕ) (found : Found) → front_file b ≡ Some found → length found.1 < length b
unfolding front_file
front_file-fewer [] found e = absurd (cc)
front_file-fewer (n ∷ rest) found e =
    elim (nat_lt (length rest) (n + WORD)) as (λ v. cond v None (named_file (take n rest) (word rest n) (drop (n + WORD) rest)) ≡ Some found
    → length found.1 < length (n ∷ rest)) [
      | true ↦ λ q. absurd (cc)
      | false ↦ λ q. omega (arith, named_file-fewer _ _ _ found q, length-drop (n + WORD) rest)
    ] e

-- one more file in front
abbrev before : ℕ → Found → Option FileList
before most found = option_map (λ files. found.0 ∷ files) (files_within most found.1)

before-same : (j k : ℕ) (o : Option Found) → ((found : Found) → o ≡ Some found → files_within j found.1 ≡ files_within k found.1)
    → option_and_then (before j) o ≡ option_and_then (before k) o
before-same j k None h = refl
before-same j k (Some found) h = ap (λ behind. option_map (λ files. found.0 ∷ files) behind) (h found refl)

files_within-none : (k : ℕ) → files_within k [] ≡ Some []
unfolding files_within
files_within-none zero = refl
files_within-none (suc k) = refl

-- there are never more files than bytes
files_within-enough : (j k : ℕ) (b : List ℕ) → length b ≤ j → length b ≤ k → files_within j b ≡ files_within k b
unfolding files_within
files_within-enough j k [] p q = files_within-none j ∙ sym (files_within-none k)
files_within-enough zero k (x ∷ rest) p q = absurd (omega arith)
files_within-enough (suc j) zero (x ∷ rest) p q = absurd (omega arith)
files_within-enough (suc j) (suc k) (x ∷ rest) p q =
    before-same j k (front_file (x ∷ rest)) (λ found e. files_within-enough j k found.1 (omega (arith, front_file-fewer (x ∷ rest) found e))
    (omega (arith, front_file-fewer (x ∷ rest) found e)))

pub listed-none : packed_files [] ≡ Some []
unfolding packed_files files_within
listed-none = refl

-- the files are the first one and those behind it
pub listed-front : (b : List ℕ) (found : Found) → front_file b ≡ Some found → packed_files b ≡ option_map (λ files. found.0 ∷ files) (packed_files found.1)
unfolding packed_files files_within front_file
listed-front [] found e = absurd (cc)
listed-front (x ∷ rest) found e =
    ap (option_and_then (before (length rest))) e
    ∙ ap (λ behind. option_map (λ files. found.0 ∷ files) behind) (files_within-enough (length rest) (length found.1) found.1
    (omega (arith, front_file-fewer (x ∷ rest) found e)) (omega arith))

-- where no file stands at the front, there are no bytes, or they are no files
pub listed-no_front : (b : List ℕ) → front_file b ≡ None → 0 < length b → packed_files b ≡ None
unfolding packed_files files_within
listed-no_front [] e p = absurd (omega arith)
listed-no_front (x ∷ rest) e p = ap (option_and_then (before (length rest))) e

-- ---- walks

-- where no file stands at the front, there are no bytes, if they are files
pub listed-end : (b : List ℕ) (files : FileList) → packed_files b ≡ Some files → front_file b ≡ None → files ≡ []
listed-end [] files l e = some_same (sym l ∙ listed-none)
  where
    some_same : {X : Type 0} {x y : X} → Some x ≡ Some y → x ≡ y
    some_same e = cc
listed-end (x ∷ rest) files l e = absurd (none_is_none (sym l ∙ listed-no_front (x ∷ rest) e (omega arith)))
  where
    none_is_none : {X : Type 0} {x : X} → Some x ≡ None → ⊥
    none_is_none e = cc

-- the files are the first one and some behind it
pub listed-step : (b : List ℕ) (files : FileList) (found : Found) → packed_files b ≡ Some files → front_file b ≡ Some found
    → (behind : FileList) × (packed_files found.1 ≡ Some behind) × (files ≡ found.0 ∷ behind)
listed-step b files found l e = step (packed_files found.1) refl (sym l ∙ listed-front b found e)
  where
    step : (o : Option FileList) → packed_files found.1 ≡ o → Some files ≡ option_map (λ files. found.0 ∷ files) o
        → (behind : FileList) × (packed_files found.1 ≡ Some behind) × (files ≡ found.0 ∷ behind)
    step None h q = absurd (cc)
    step (Some behind) h q = (behind, h, cc)

-- some bytes are files just where what is behind the first one is
pub is_some-front : (b : List ℕ) (file : List ℕ × List ℕ) (behind : List ℕ) → front_file b ≡ Some (file, behind) → is_some (packed_files b) ≡ is_some
    (packed_files behind)
is_some-front b file behind e = ap is_some (listed-front b (file, behind) e) ∙ is_some-map (packed_files behind)
  where
    is_some-map : (o : Option FileList) → is_some (option_map (λ files. file ∷ files) o) ≡ is_some o
    is_some-map None = refl
    is_some-map (Some files) = refl

pub listed-empty : (b : List ℕ) → length b ≡ 0 → packed_files b ≡ Some []
listed-empty [] e = listed-none
listed-empty (x ∷ rest) e = absurd (omega arith)

-- ---- names

bytes_eq-turned : (a b : List ℕ) → bytes_eq a b ≡ bytes_eq b a
bytes_eq-turned a b = same_from_decides (bytes_eq a b) (bytes_eq b a) (bytes_eq-Decides a b)
    ((λ h. sym ((bytes_eq-Decides b a).0 h)), (λ h. (bytes_eq-Decides b a).1 (sym h)))

-- a file has the name just where one is found by it
pub has_file-found : (name : List ℕ) (files : FileList) → has_file name files ≡ is_some (file_bytes name files)
has_file-found name [] = refl
has_file-found name (file ∷ files) =
    rw (bytes_eq-turned file.0 name) (elim (bytes_eq name file.0) as (λ v. (v || has_file name files) ≡ is_some
    (option_map (λ (f : List ℕ × List ℕ). f.1) (cond v (Some file) (find (λ (f : List ℕ × List ℕ). bytes_eq f.0 name) files))))
    [ true ↦ refl | false ↦ has_file-found name files ])

-- a file with another name is passed by
pub find-next : (b name : List ℕ) (file : List ℕ × List ℕ) (behind : List ℕ) (rest : FileList) → packed_files b ≡ Some rest → front_file b ≡ Some (file, behind)
    → bytes_eq file.0 name ≡ false → (x : FileList) × (packed_files behind ≡ Some x) × (file_bytes name rest ≡ file_bytes name x)
find-next b name file behind rest l e n =
    let s = listed-step b rest (file, behind) l e in (s.0, s.1, ap (file_bytes name) s.2 ∙ rw n refl)

-- a file whose name none behind it has is passed by
pub apart-next : (b : List ℕ) (file : List ℕ × List ℕ) (behind : List ℕ) (rest : FileList) → packed_files b ≡ Some rest → front_file b ≡ Some (file, behind)
    → ((x : FileList) → packed_files behind ≡ Some x → file_bytes file.0 x ≡ None) → (x : FileList) × (packed_files behind ≡ Some x) ×
    (are_apart rest ≡ are_apart x)
apart-next b file behind rest l e n =
    let s = listed-step b rest (file, behind) l e in
    let h : has_file file.0 s.0 ≡ false = has_file-found file.0 s.0 ∙ ap is_some (n s.0 s.1) in
    (s.0, s.1, ap are_apart s.2 ∙ rw h refl)

-- files of which two have one name aren't apart
pub apart-none : (b : List ℕ) (file : List ℕ × List ℕ) (behind : List ℕ) (rest : FileList) → packed_files b ≡ Some rest → front_file b ≡ Some (file, behind)
    → ((x : FileList) → packed_files behind ≡ Some x → is_some (file_bytes file.0 x) ≡ true) → are_apart rest ≡ false
apart-none b file behind rest l e n =
    let s = listed-step b rest (file, behind) l e in
    let h : has_file file.0 s.0 ≡ true = has_file-found file.0 s.0 ∙ n s.0 s.1 in
    ap are_apart s.2 ∙ rw h refl
