-- Worked rows of packed files: bytes, and the files that they are.
use Rattle.std.specs.Prelude.{◌≡◌, refl, ℕ, List, [], ◌∷◌, ◌++◌, replicate, codes, Some, None}
use Rattle.rh_defs.specs.Bytes.{word}
use Rattle.vf_web.specs.Packed.{files_in, packed_files, files_within, front_file, named_file}

-- the file `ab` of the bytes 5, 6 and 7
abbrev first : List ℕ
first = 2 ∷ 97 ∷ 98 ∷ 3 ∷ 0 ∷ 0 ∷ 0 ∷ 5 ∷ 6 ∷ 7 ∷ []

-- the file `c` of no bytes
abbrev second : List ℕ
second = 1 ∷ 99 ∷ 0 ∷ 0 ∷ 0 ∷ 0 ∷ []

-- the file `ab` of the byte 8
abbrev namesake : List ℕ
namesake = 2 ∷ 97 ∷ 98 ∷ 1 ∷ 0 ∷ 0 ∷ 0 ∷ 8 ∷ []

pub no_files : files_in [] ≡ Some []
unfolding files_in packed_files files_within
no_files = refl

pub one_file : files_in first ≡ Some ((codes "ab", 5 ∷ 6 ∷ 7 ∷ []) ∷ [])
unfolding files_in packed_files files_within front_file named_file word
one_file = refl

pub two_files : files_in (first ++ second) ≡ Some ((codes "ab", 5 ∷ 6 ∷ 7 ∷ []) ∷ (codes "c", []) ∷ [])
unfolding files_in packed_files files_within front_file named_file word
two_files = refl

pub two_of_a_name : files_in (first ++ second ++ namesake) ≡ None
unfolding files_in packed_files files_within front_file named_file word
two_of_a_name = refl

pub a_byte_behind : files_in (first ++ 0 ∷ []) ≡ None
unfolding files_in packed_files files_within front_file named_file word
a_byte_behind = refl

pub a_byte_too_few : files_in (2 ∷ 97 ∷ 98 ∷ 3 ∷ 0 ∷ 0 ∷ 0 ∷ 5 ∷ 6 ∷ []) ≡ None
unfolding files_in packed_files files_within front_file named_file word
a_byte_too_few = refl

pub a_size_cut_short : files_in (1 ∷ 99 ∷ 0 ∷ 0 ∷ 0 ∷ []) ≡ None
unfolding files_in packed_files files_within front_file named_file word
a_size_cut_short = refl

pub no_name : files_in (0 ∷ 0 ∷ 0 ∷ 0 ∷ 0 ∷ []) ≡ None
unfolding files_in packed_files files_within front_file named_file word
no_name = refl

-- a name begins with a letter
pub no_name_of_a_file : files_in (2 ∷ 49 ∷ 98 ∷ 0 ∷ 0 ∷ 0 ∷ 0 ∷ []) ≡ None
unfolding files_in packed_files files_within front_file named_file word
no_name_of_a_file = refl

-- the second byte of a size counts 256s
pub a_size_of_two_bytes : files_in (1 ∷ 99 ∷ 0 ∷ 1 ∷ 0 ∷ 0 ∷ replicate 256 9) ≡ Some ((codes "c", replicate 256 9) ∷ [])
unfolding files_in packed_files files_within front_file named_file word
a_size_of_two_bytes = refl
