-- Worked rows of statuses: what a call is lent, and how it ends.
use Rattle.std.specs.Prelude.{◌≡◌, refl, [], ◌∷◌, true, false}
use Rattle.vf_web.specs.Packed.{files_in, packed_files, files_within, front_file, named_file}
use Rattle.vf_web.specs.PageStatus.{lent_status, text_status}
use Rattle.rh_defs.specs.Bytes.{word}

-- eight pages are 32,768 bytes, and 568 numbers say whose they are
pub eight_pages : lent_status 8 32768 568 0 [] ≡ 0
unfolding lent_status files_in packed_files files_within
eight_pages = refl

pub more_than_is_needed : lent_status 8 40000 600 0 [] ≡ 0
unfolding lent_status files_in packed_files files_within
more_than_is_needed = refl

pub seven_pages : lent_status 7 32768 568 0 [] ≡ 2
unfolding lent_status files_in packed_files files_within
seven_pages = refl

pub all_pages : lent_status 1024 4194304 72704 0 [] ≡ 0
unfolding lent_status files_in packed_files files_within
all_pages = refl

pub a_page_too_many : lent_status 1025 4198400 72775 0 [] ≡ 2
unfolding lent_status files_in packed_files files_within
a_page_too_many = refl

pub a_byte_of_the_pool_too_few : lent_status 8 32767 568 0 [] ≡ 2
unfolding lent_status files_in packed_files files_within
a_byte_of_the_pool_too_few = refl

pub a_number_too_few : lent_status 8 32768 567 0 [] ≡ 2
unfolding lent_status files_in packed_files files_within
a_number_too_few = refl

-- pages come before files, and files before the script
pub pages_come_first : lent_status 7 0 0 4294967295 (0 ∷ []) ≡ 2
unfolding lent_status files_in packed_files files_within front_file named_file word
pages_come_first = refl

pub files_come_second : lent_status 8 32768 568 4294967295 (0 ∷ []) ≡ 3
unfolding lent_status files_in packed_files files_within front_file named_file word
files_come_second = refl

pub a_script_too_long : lent_status 8 32768 568 4294967295 [] ≡ 5
unfolding lent_status files_in packed_files files_within
a_script_too_long = refl

pub the_longest_script : lent_status 8 32768 568 4294967294 [] ≡ 0
unfolding lent_status files_in packed_files files_within
the_longest_script = refl

pub a_text_that_fits : text_status 2 (97 ∷ 10 ∷ []) false ≡ 0
a_text_that_fits = refl

pub a_bad_line : text_status 2 (97 ∷ 10 ∷ []) true ≡ 1
a_bad_line = refl

pub a_text_too_long : text_status 1 (97 ∷ 10 ∷ []) true ≡ 4
a_text_too_long = refl
