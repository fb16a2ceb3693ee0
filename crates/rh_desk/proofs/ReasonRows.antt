-- Worked bad words, lost files and inputs: what is wrong with each, and what is told.
use Rattle.std.proofs.Common.{◌≡◌, refl, ap, ◌∙◌, sym, subst, arith, ℕ, ◌+◌, ◌<◌, List, [], ◌∷◌, length, codes, Option, Some}
use Rattle.std.specs.declared.io.ErrorKind.TheVariants as kind
use Rattle.rh_defs.proofs.Common.{append-nil, length-append, length-replicate}
use Rattle.rh_defs.specs.Pieces.{zeros}
use Rattle.rh_defs.specs.declared.sizes.TheConstants.{LONGEST_FILE}
use Rattle.rh_lines.specs.Flow.{Input, unread}
use Rattle.rh_desk.specs.Inputs.{HasTooMany, IsAllOf}
use Rattle.rh_desk.specs.Reasons.{MayBeLost, loss_of, word_fault}
use Rattle.rh_desk.specs.Telling.{bad_word_text, lost_file_text}
use Rattle.rh_desk.specs.declared.reasons.FileLoss.TheVariants.{Denied, Folder, Missing, TooLong, Unreadable}
use Rattle.rh_desk.specs.declared.reasons.WordFault.TheVariants.{GivenTwice, NoName, NoPair, NoPath}

-- ---- words

no_pair : (word_fault (codes "letter") ≡ NoPair) × (word_fault [] ≡ NoPair)
no_pair = (refl, refl)

-- a name is looked at before a path
no_name : (word_fault (codes "=") ≡ NoName) × (word_fault (codes "1st=logo.spr") ≡ NoName) × (word_fault (codes "a-b=logo.spr") ≡ NoName)
no_name = (refl, refl, refl)

-- thirteen letters are one too many, and twelve are not
long_names : (word_fault (codes "thirteenchars=a") ≡ NoName) × (word_fault (codes "twelveletter=") ≡ NoPath)
long_names = (refl, refl)

-- where nothing else is wrong, and a path may have an `=`
given_twice : (word_fault (codes "letter=a") ≡ GivenTwice) × (word_fault (codes "letter=a=b") ≡ GivenTwice)
given_twice = (refl, refl)

told_word : bad_word_text (codes "letter=") ≡ codes "rh_desk: bad file word letter=\n  no path stands behind the =\n"
told_word = refl

-- ---- files

losses : (loss_of kind.NotFound ≡ Missing) × (loss_of kind.NotADirectory ≡ Missing) × (loss_of kind.IsADirectory ≡ Folder)
    × (loss_of kind.PermissionDenied ≡ Denied) × (loss_of kind.Other ≡ Unreadable)
losses = (refl, refl, refl, refl, refl)

told_file : lost_file_text (codes "logo.spr") TooLong ≡ codes "rh_desk: file logo.spr\n  more than 1048576 bytes\n"
told_file = refl

told_no_path : lost_file_text [] Missing ≡ codes "rh_desk: file '' (an empty path)\n  no such file\n"
told_no_path = refl

-- the file n has n bytes
abbrev sized : ℕ → Option (List ℕ)
sized n = Some (zeros n)

-- one of more bytes than a file may have is too long
one_too_long : (n : ℕ) → LONGEST_FILE < n → MayBeLost sized TooLong
one_too_long n more = (n, subst (λ k. LONGEST_FILE < k) (sym (length-replicate {A = ℕ} n 0)) more)

-- files of two bytes are too long for no one
none_too_long : MayBeLost {F = ℕ} (λ n. Some (1 ∷ 2 ∷ [])) TooLong → ⊥
none_too_long lost = absurd (let long = lost.1 in omega (arith, long))

-- ---- inputs

abbrev three : List ℕ
three = 1 ∷ 2 ∷ 3 ∷ []

-- an input with these bytes left, of which one read gave some
abbrev read_once : List ℕ → Input
read_once bytes = record (unread bytes) { reads = 1 }

all_three : IsAllOf (unread three) (read_once []) three
all_three = record { few = omega arith; read = refl; none_left = refl; well = refl }

not_all : IsAllOf (unread three) (read_once (3 ∷ [])) (1 ∷ 2 ∷ []) → ⊥
not_all all = absurd (let left = all.none_left in cc)

not_too_many : (rest : List ℕ) → HasTooMany (unread three) (read_once rest) → ⊥
not_too_many rest many =
    let size : 3 ≡ length many.0 + length rest = ap length many.2 ∙ length-append many.0 rest in
    let long = many.1 in
    absurd (omega (arith, long, size))

-- more bytes than a file may have are too many
too_many : (n : ℕ) → LONGEST_FILE < n → HasTooMany (unread (zeros n)) (read_once [])
too_many n more = (zeros n, subst (λ k. LONGEST_FILE < k) (sym (length-replicate {A = ℕ} n 0)) more, sym (append-nil (zeros n)))
